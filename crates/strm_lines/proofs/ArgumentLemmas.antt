-- The arguments of each command are read as they are written.
use Rattle.std.proofs.Common.{◌≡◌, ℕ, List, [], ◌∷◌, Option, Some, refl, ap, arith}
use Rattle.std.specs.Prelude.{All}
use Rattle.std.specs.List.{flat_map}
use Rattle.std.specs.Option.{option_map}
use Rattle.std.proofs.lemmas.List.Elements.{All-nil, All-cons, All-head, All-tail}
use Rattle.strm_codes.specs.declared.codes.TransmitIndex.{TransmitIndex}
use Rattle.strm_codes.specs.declared.codes.TransmitIndex.TheVariants.{Stream, Future}
use Rattle.strm_lines.specs.Grammar.{Argument, Number, Within, Typed, Count, Bytes, Fed, words, argument_words, operands, named_end, IsArgument}
use Rattle.strm_lines.specs.Reading.{decimal_number, nothing, two_numbers, three_numbers, number_and_type, two_numbers_and_type, named_end_of, end_and_guest, place_words, operands_of, number_and_fed, place_and_bytes, place_and_len}
use Rattle.strm_lines.proofs.CutLemmas.{option_map_some}
use Rattle.strm_lines.proofs.ReadingLemmas.{IsReading, IsReading-number, IsWord-number, IsReading-within, IsReading-hex, IsReading-fed, IsReading-followed_by, IsReading-followed_by_its}
use Rattle.strm_lines.proofs.TypeLemmas.{IsReading-type, IsWord-type}

-- arguments as they stand in a line
abbrev pub text : List Argument → List ℕ
text arguments = words (flat_map argument_words arguments)

-- each can be an argument
abbrev pub AreArguments : List Argument → Type 0
AreArguments [] = Unit {0}
AreArguments (a ∷ []) = IsArgument a
AreArguments (a ∷ b ∷ arguments) = IsArgument a × AreArguments (b ∷ arguments)

pub AreArguments-from_all : (arguments : List Argument) → All IsArgument arguments → AreArguments arguments
AreArguments-from_all [] h = tt
AreArguments-from_all (a ∷ []) h = All-head IsArgument a [] h
AreArguments-from_all (a ∷ b ∷ arguments) h = (All-head IsArgument a (b ∷ arguments) h, AreArguments-from_all (b ∷ arguments) (All-tail IsArgument a (b ∷ arguments) h))

pub All-from_arguments : (arguments : List Argument) → AreArguments arguments → All IsArgument arguments
All-from_arguments [] h = All-nil IsArgument
All-from_arguments (a ∷ []) h = All-cons IsArgument a [] h (All-nil IsArgument)
All-from_arguments (a ∷ b ∷ arguments) h = All-cons IsArgument a (b ∷ arguments) h.0 (All-from_arguments (b ∷ arguments) h.1)

-- these arguments are read so
pub record AreRead {V : Type 0} (read : List ℕ → Option V) (arguments : V → List Argument) : Type 0 where
  pub reading : IsReading read (λ v. text (arguments v)) (λ v. AreArguments (arguments v))

-- what is read, with its parts put together in another way
module _ {A B : Type 0} {read : List ℕ → Option A} {write : A → List ℕ} {IsFit : A → Type 0} where
  renamed : IsReading read write IsFit → (make : A → B) (parts : B → A) → ((b : B) → make (parts b) ≡ b) → ((a : A) → parts (make a) ≡ a) → IsReading (λ rest. option_map make (read rest)) (λ b. write (parts b)) (λ b. IsFit (parts b))
  renamed r make parts back there = record {
    sound = λ rest b e. option_map_some make (read rest) b e (λ a f g. rw (← g, there a) (r.sound rest a f));
    complete = λ b h. rw (r.complete (parts b) h) (ap Some (back b));
  }

pub AreRead-nothing : AreRead nothing (λ v. [])
unfolding nothing
AreRead-nothing = record { reading = record { sound = only; complete = λ v h. refl } }
  where
    only : (rest : List ℕ) (v : Unit {0}) → nothing rest ≡ Some v → (text [] ≡ rest) × AreArguments []
    only [] v e = (refl, tt)
    only (c ∷ rest) v e = cc

pub AreRead-number : AreRead decimal_number (λ n. Number n ∷ [])
AreRead-number = record { reading = IsReading-number }

pub AreRead-two_numbers : AreRead two_numbers (λ v. Number v.0 ∷ Number v.1 ∷ [])
unfolding two_numbers
AreRead-two_numbers = record { reading = IsReading-followed_by IsReading-number IsWord-number IsReading-number }

pub AreRead-three_numbers : AreRead three_numbers (λ v. Number v.0 ∷ Number v.1 ∷ Number v.2 ∷ [])
unfolding three_numbers
AreRead-three_numbers = record { reading = renamed (IsReading-followed_by IsReading-number IsWord-number (IsReading-followed_by IsReading-number IsWord-number IsReading-number)) (λ v. (v.0, v.1.0, v.1.1)) (λ v. (v.0, (v.1, v.2))) (λ v. refl) (λ v. refl) }

pub AreRead-number_and_type : AreRead number_and_type (λ v. Number v.0 ∷ Typed v.1 ∷ [])
unfolding number_and_type
AreRead-number_and_type = record { reading = IsReading-followed_by IsReading-number IsWord-number IsReading-type }

pub AreRead-two_numbers_and_type : AreRead two_numbers_and_type (λ v. Number v.0 ∷ Number v.1 ∷ Typed v.2 ∷ [])
unfolding two_numbers_and_type
AreRead-two_numbers_and_type = record { reading = renamed (IsReading-followed_by IsReading-number IsWord-number (IsReading-followed_by IsReading-number IsWord-number IsReading-type)) (λ v. (v.0, v.1.0, v.1.1)) (λ v. (v.0, (v.1, v.2))) (λ v. refl) (λ v. refl) }

pub AreRead-named_end : AreRead named_end_of (λ e. named_end e.guest e.ty e.handle)
unfolding named_end_of
AreRead-named_end = record { reading = renamed (IsReading-followed_by IsReading-number IsWord-number (IsReading-followed_by IsReading-type IsWord-type IsReading-number)) (λ v. record { guest = v.0; ty = v.1.0; handle = v.1.1 }) (λ e. (e.guest, (e.ty, e.handle))) (λ e. refl) (λ v. refl) }

pub AreRead-end_and_guest : AreRead end_and_guest (λ v. Number v.0.guest ∷ Typed v.0.ty ∷ Number v.0.handle ∷ Number v.1 ∷ [])
unfolding end_and_guest
AreRead-end_and_guest = record { reading = renamed (IsReading-followed_by IsReading-number IsWord-number (IsReading-followed_by IsReading-type IsWord-type (IsReading-followed_by IsReading-number IsWord-number IsReading-number))) (λ v. (record { guest = v.0; ty = v.1.0; handle = v.1.1.0 }, v.1.1.1)) (λ v. (v.0.guest, (v.0.ty, (v.0.handle, v.1)))) (λ v. refl) (λ v. refl) }

abbrev place : TransmitIndex → ℕ × ℕ × ℕ → List Argument
place ty v = Number v.0 ∷ Number v.1 ∷ Count ty v.2 ∷ []

IsReading-place : (ty : TransmitIndex) → IsReading (place_words ty) (λ v. text (place ty v)) (λ v. AreArguments (place ty v))
unfolding place_words
IsReading-place (Stream payload) = record { sound = AreRead-three_numbers.reading.sound; complete = AreRead-three_numbers.reading.complete }
IsReading-place (Future payload) = record {
  sound = λ rest v e. option_map_some _ (two_numbers rest) v e (λ p f g. let r = AreRead-two_numbers.reading.sound rest p f in rw (← g) (r.0, (r.1.0, (r.1.1, refl))));
  complete = λ v f. rw (AreRead-two_numbers.reading.complete (v.0, v.1) (f.0, f.1.0), f.1.1) refl;
}

pub AreRead-operands : AreRead operands_of (λ v. operands v.0.guest v.0.ty v.0.handle v.1 v.2)
unfolding operands_of
AreRead-operands = record { reading = renamed (IsReading-followed_by IsReading-number IsWord-number (IsReading-followed_by_its IsReading-type IsWord-type IsReading-place)) (λ v. (record { guest = v.0; ty = v.1.0; handle = v.1.1.0 }, v.1.1.1, v.1.1.2)) (λ v. (v.0.guest, (v.0.ty, (v.0.handle, v.1, v.2)))) (λ v. refl) (λ v. refl) }

pub AreRead-number_and_fed : AreRead number_and_fed (λ v. Number v.0 ∷ Fed v.1 ∷ [])
unfolding number_and_fed
AreRead-number_and_fed = record { reading = IsReading-followed_by IsReading-number IsWord-number IsReading-fed }

pub AreRead-place_and_bytes : AreRead place_and_bytes (λ v. Number v.0 ∷ Number v.1 ∷ Bytes v.2 ∷ [])
unfolding place_and_bytes
AreRead-place_and_bytes = record { reading = renamed (IsReading-followed_by IsReading-number IsWord-number (IsReading-followed_by IsReading-number IsWord-number IsReading-hex)) (λ v. (v.0, v.1.0, v.1.1)) (λ v. (v.0, (v.1, v.2))) (λ v. refl) (λ v. refl) }

pub AreRead-place_and_len : AreRead place_and_len (λ v. Number v.0 ∷ Number v.1 ∷ Within 1 64 v.2 ∷ [])
unfolding place_and_len
AreRead-place_and_len = record { reading = renamed (IsReading-followed_by IsReading-number IsWord-number (IsReading-followed_by IsReading-number IsWord-number (IsReading-within 1 64 (omega arith)))) (λ v. (v.0, v.1.0, v.1.1)) (λ v. (v.0, (v.1, v.2))) (λ v. refl) (λ v. refl) }
