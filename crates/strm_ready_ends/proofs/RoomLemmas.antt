-- Of items, those that there is room for, by how many these are.
use Rattle.std.proofs.Common.{◌≡◌, ℕ, ◌+◌, ◌<◌, min, Bool, true, false, List, length, take, drop, refl, sym, ap, ◌∙◌, arith, ⊎_elim}
use Rattle.std.specs.Prelude.{nat_eq, ◌||◌, not}
use Rattle.std.proofs.lemmas.Bool.Decides.{nat_tests}
use Rattle.strm_codes.specs.declared.codes.TransmitKind.{TransmitKind}
use Rattle.strm_codes.specs.declared.codes.TransmitKind.TheVariants.{Stream, Future}
use Rattle.strm_ready_ends.specs.SendQueues.{is_wrong_count}
use Rattle.std.proofs.lemmas.Bool.{cases_lt}
use Rattle.std.proofs.lemmas.List.{take_all, drop_all}

pub room_first : {A : Type 0} (items : List A) (room n : ℕ) → n ≡ min (length items) room → take n items ≡ take room items
room_first items room n e =
    ⊎_elim
    (λ few. let same : n ≡ room = omega (arith, e, few) in ap (λ j. take j items) same)
    (λ all. take_all n items (omega (arith, e, all)) ∙ sym (take_all room items (omega (arith, all))))
    (cases_lt room (length items))

pub room_behind : {A : Type 0} (items : List A) (room n : ℕ) → n ≡ min (length items) room → drop n items ≡ drop room items
room_behind items room n e =
    ⊎_elim
    (λ few. let same : n ≡ room = omega (arith, e, few) in ap (λ j. drop j items) same)
    (λ all. drop_all n items (omega (arith, e, all)) ∙ sym (drop_all room items (omega (arith, all))))
    (cases_lt room (length items))

-- where a count may be fed, all can be counted with it
pub right_count : (kind : TransmitKind) (held count : ℕ) → is_wrong_count kind held count ≡ false → held < 4294967295 → held + count < 4294967295
right_count Stream held count e h = grind (arith, nat_tests)
right_count Future held count e h = go (nat_eq held 0) (nat_eq count 1) refl refl e
  where
    go : (a b : Bool) → nat_eq held 0 ≡ a → nat_eq count 1 ≡ b → (not a || not b) ≡ false → held + count < 4294967295
    go true true p q f = grind (arith, nat_tests)
    go true false p q f = cc
    go false b p q f = cc
