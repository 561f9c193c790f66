-- A step is read exactly where it is spelled.
use Rattle.std.proofs.Common.{◌≡◌, ℕ, zero, suc, ◌+◌, ◌<◌, ◌≤◌, ◌^◌, List, [], ◌∷◌, ◌++◌, length, get_or, inl, inr, Some, None, refl, sym, ap, subst, ◌∙◌, arith}
use Rattle.std.specs.Prelude.{All, slice_index_or}
use Rattle.std.proofs.lemmas.Bool.{cases_lt}
use Rattle.std.proofs.lemmas.List.{get_or_default, get_or_past}
use Rattle.std.proofs.lemmas.Option.{option_and_then_some, none-some}
use Rattle.strm_memory.specs.Bytes.{IsBytes}
use Rattle.strm_machine.specs.declared.steps.Step.{Step}
use Rattle.strm_machine.specs.declared.steps.Step.TheVariants.{Guest, New, Between, Write, Read, DropWrite, DropRead, CancelWrite, CancelRead, Move, Lift, Lower, Close, HostNew, Feed, Pipe, Grant, Drive, Event, SetNew, SetJoin, SetPoll, SetDrop, ErrNew, ErrText, ErrMove, ErrDrop, Poke, Dump}
use Rattle.strm_lines.specs.Grammar.{Argument, Number, Within, Typed, Count, Bytes, Fed, line_of, IsLineBytes, AreFed, HasLine}
use Rattle.strm_lines.proofs.ArgumentLemmas.{AreArguments, AreArguments-from_all, All-from_arguments}
use Rattle.strm_lines.proofs.CutLemmas.{option_map_some}
use Rattle.strm_tape.specs.Spelling.{counted_bytes, arguments_bytes, command_place, step_bytes}
use Rattle.strm_tape.specs.Reading.{Found, read_as, followed_by_part, read_nothing, byte, read_number, within, transmit_type, chunk, two, three, read_named_end, read_operands, argument_readers, none, step_by, step}
use Rattle.strm_tape.proofs.ReadingLemmas.{IsReading, IsReading-nothing, IsReading-byte, IsReading-number, IsReading-within, IsReading-chunk, IsReading-followed_by, IsReading-followed_by_its, IsChunk, rest_fits, found}
use Rattle.strm_tape.proofs.TypeLemmas.{IsReading-type, IsReading-count}

-- ARGUMENTS

-- these arguments are read so
record AreRead {V : Type 0} (read : List ℕ → Found V) (arguments : V → List Argument) : Type 0 where
  reading : IsReading read (λ v. arguments_bytes (arguments v)) (λ v. AreArguments (arguments v))

AreRead-number : AreRead read_number (λ n. Number n ∷ [])
AreRead-number = record { reading = IsReading-number }

AreRead-two : AreRead two (λ v. Number v.0 ∷ Number v.1 ∷ [])
AreRead-two = record { reading = IsReading-followed_by IsReading-number IsReading-number }

AreRead-three : AreRead three (λ v. Number v.0 ∷ Number v.1.0 ∷ Number v.1.1 ∷ [])
AreRead-three = record { reading = IsReading-followed_by IsReading-number (IsReading-followed_by IsReading-number IsReading-number) }

AreRead-nothing : AreRead read_nothing (λ v. [])
AreRead-nothing = record { reading = IsReading-nothing }

AreRead-number_and_type : AreRead (followed_by_part read_number transmit_type) (λ v. Number v.0 ∷ Typed v.1 ∷ [])
AreRead-number_and_type = record { reading = IsReading-followed_by IsReading-number IsReading-type }

AreRead-two_and_type : AreRead (followed_by_part read_number (followed_by_part read_number transmit_type)) (λ v. Number v.0 ∷ Number v.1.0 ∷ Typed v.1.1 ∷ [])
AreRead-two_and_type = record { reading = IsReading-followed_by IsReading-number (IsReading-followed_by IsReading-number IsReading-type) }

AreRead-named_end : AreRead read_named_end (λ v. Number v.0 ∷ Typed v.1.0 ∷ Number v.1.1 ∷ [])
AreRead-named_end = record { reading = IsReading-followed_by IsReading-number (IsReading-followed_by IsReading-type IsReading-number) }

AreRead-end_and_guest : AreRead (followed_by_part read_number (followed_by_part transmit_type two)) (λ v. Number v.0 ∷ Typed v.1.0 ∷ Number v.1.1.0 ∷ Number v.1.1.1 ∷ [])
AreRead-end_and_guest = record { reading = IsReading-followed_by IsReading-number (IsReading-followed_by IsReading-type (IsReading-followed_by IsReading-number IsReading-number)) }

AreRead-operands : AreRead read_operands (λ v. Number v.0 ∷ Typed v.1.0 ∷ Number v.1.1.0 ∷ Number v.1.1.1.0 ∷ Count v.1.0 v.1.1.1.1 ∷ [])
AreRead-operands = record { reading = IsReading-followed_by IsReading-number (IsReading-followed_by_its IsReading-type (λ ty. IsReading-followed_by IsReading-number (IsReading-followed_by IsReading-number (IsReading-count ty)))) }

AreRead-place_and_len : AreRead (followed_by_part read_number (followed_by_part read_number (within 1 64))) (λ v. Number v.0 ∷ Number v.1.0 ∷ Within 1 64 v.1.1 ∷ [])
AreRead-place_and_len = record { reading = IsReading-followed_by IsReading-number (IsReading-followed_by IsReading-number (IsReading-within 1 64 (omega arith))) }

-- BYTES

IsBytes-each : (bytes : List ℕ) → All (λ b. b < 2 ^ 8) bytes → IsBytes bytes
IsBytes-each bytes each k = elim (cases_lt k (length bytes)) [
  | inl l ↦ each k 0 l
  | inr g ↦ (let none : get_or bytes k 0 ≡ 0 = get_or_past bytes k 0 g in omega (arith, none))
]

each-IsBytes : (bytes : List ℕ) → IsBytes bytes → All (λ b. b < 2 ^ 8) bytes
each-IsBytes bytes f k d h = let same : get_or bytes k d ≡ get_or bytes k 0 = get_or_default bytes k d 0 h in omega (arith, same, f k)

chunk_line : (bytes : List ℕ) → IsChunk 1 bytes → IsLineBytes bytes
chunk_line bytes c = record { some = c.some; most = c.most; each = each-IsBytes bytes c.each }

line_chunk : (bytes : List ℕ) → IsLineBytes bytes → IsChunk 1 bytes
line_chunk bytes l = record { some = l.some; most = l.most; each = IsBytes-each bytes l.each }

IsReading-bytes : IsReading (chunk 1) counted_bytes IsLineBytes
IsReading-bytes = record {
  sound = λ bytes rest xs f e. let one : (counted_bytes xs ++ rest ≡ bytes) × IsChunk 1 xs = (IsReading-chunk 1).sound bytes rest xs f e in (one.0, chunk_line xs one.1);
  complete = λ xs rest f. (IsReading-chunk 1).complete xs rest (line_chunk xs f);
}

IsReading-fed : IsReading (chunk 0) counted_bytes AreFed
IsReading-fed = record {
  sound = λ bytes rest xs f e. let one : (counted_bytes xs ++ rest ≡ bytes) × IsChunk 0 xs = (IsReading-chunk 0).sound bytes rest xs f e in (one.0, record { most = one.1.most; each = each-IsBytes xs one.1.each });
  complete = λ xs rest f. (IsReading-chunk 0).complete xs rest (record { some = omega arith; most = f.most; each = IsBytes-each xs f.each });
}

AreRead-number_and_fed : AreRead (followed_by_part read_number (chunk 0)) (λ v. Number v.0 ∷ Fed v.1 ∷ [])
AreRead-number_and_fed = record { reading = IsReading-followed_by IsReading-number IsReading-fed }

AreRead-place_and_bytes : AreRead (followed_by_part read_number (followed_by_part read_number (chunk 1))) (λ v. Number v.0 ∷ Number v.1.0 ∷ Bytes v.1.1 ∷ [])
AreRead-place_and_bytes = record { reading = IsReading-followed_by IsReading-number (IsReading-followed_by IsReading-number IsReading-bytes) }

-- STEPS

-- each step that is read so has the arguments that were read, and the command of this place
record IsRow (n : ℕ) (read : List ℕ → Found Step) : Type 0 where
  sound : (bytes rest : List ℕ) (s : Step) → IsBytes bytes → read bytes ≡ Some (s, rest) → (arguments_bytes (line_of s).arguments ++ rest ≡ bytes) × (HasLine s × (command_place s ≡ n))

module _ {V : Type 0} {read : List ℕ → Found V} {arguments : V → List Argument} where
  row : (n : ℕ) (make : V → Step) → AreRead read arguments → ((v : V) → arguments v ≡ (line_of (make v)).arguments) → ((v : V) → command_place (make v) ≡ n) → IsRow n (read_as make read)
  row n make r same place = record {
    sound = λ bytes rest s f e.
        option_map_some (λ p. (make p.0, p.1)) (read bytes) (s, rest) e (λ p g h.
        let one = r.reading.sound bytes p.1 p.0 f g in
        let fit : HasLine (make p.0) = All-from_arguments (line_of (make p.0)).arguments (subst AreArguments (same p.0) one.1) in
        let there : arguments_bytes (line_of (make p.0)).arguments ++ p.1 ≡ bytes = ap (λ l. arguments_bytes l ++ p.1) (sym (same p.0)) ∙ one.0 in
        found (λ t. arguments_bytes (line_of t).arguments) (λ t. HasLine t × (command_place t ≡ n)) bytes (make p.0, p.1) (s, rest) h (there, (fit, place p.0)));
  }

  again : (make : V → Step) → AreRead read arguments → (v : V) (rest : List ℕ) → AreArguments (arguments v) → read_as make read (arguments_bytes (arguments v) ++ rest) ≡ Some (make v, rest)
  again make r v rest f = rw (r.reading.complete v rest f) refl

abbrev AreRows : ℕ → List (List ℕ → Found Step) → Type 0
AreRows n [] = Unit {0}
AreRows n (r ∷ rs) = IsRow n r × AreRows (n + 1) rs

rows : AreRows 1 argument_readers
rows = (
  row 1 _ AreRead-number (λ v. refl) (λ v. refl),
  (
    row 2 _ AreRead-number_and_type (λ v. refl) (λ v. refl),
    (
      row 3 _ AreRead-two_and_type (λ v. refl) (λ v. refl),
      (
        row 4 _ AreRead-operands (λ v. refl) (λ v. refl),
        (
          row 5 _ AreRead-operands (λ v. refl) (λ v. refl),
          (
            row 6 _ AreRead-named_end (λ v. refl) (λ v. refl),
            (
              row 7 _ AreRead-named_end (λ v. refl) (λ v. refl),
              (
                row 8 _ AreRead-named_end (λ v. refl) (λ v. refl),
                (
                  row 9 _ AreRead-named_end (λ v. refl) (λ v. refl),
                  (
                    row 10 _ AreRead-two (λ v. refl) (λ v. refl),
                    (
                      row 11 _ AreRead-end_and_guest (λ v. refl) (λ v. refl),
                      (
                        row 12 _ AreRead-named_end (λ v. refl) (λ v. refl),
                        (
                          row 13 _ AreRead-two_and_type (λ v. refl) (λ v. refl),
                          (
                            row 14 _ AreRead-two (λ v. refl) (λ v. refl),
                            (
                              row 15 _ AreRead-number (λ v. refl) (λ v. refl),
                              (
                                row 16 _ AreRead-number (λ v. refl) (λ v. refl),
                                (
                                  row 17 (λ v. Drive) AreRead-nothing (λ v. refl) (λ v. refl),
                                  (
                                    row 18 _ AreRead-number_and_fed (λ v. refl) (λ v. refl),
                                    (
                                      row 19 _ AreRead-two (λ v. refl) (λ v. refl),
                                      (
                                        row 20 _ AreRead-number (λ v. refl) (λ v. refl),
                                        (
                                          row 21 _ AreRead-three (λ v. refl) (λ v. refl),
                                          (
                                            row 22 _ AreRead-two (λ v. refl) (λ v. refl),
                                            (
                                              row 23 _ AreRead-two (λ v. refl) (λ v. refl),
                                              (
                                                row 24 _ AreRead-three (λ v. refl) (λ v. refl),
                                                (
                                                  row 25 _ AreRead-three (λ v. refl) (λ v. refl),
                                                  (
                                                    row 26 _ AreRead-three (λ v. refl) (λ v. refl),
                                                    (
                                                      row 27 _ AreRead-two (λ v. refl) (λ v. refl),
                                                      (
                                                        row 28 _ AreRead-place_and_bytes (λ v. refl) (λ v. refl),
                                                        (row 29 _ AreRead-place_and_len (λ v. refl) (λ v. refl), tt),
                                                      ),
                                                    ),
                                                  ),
                                                ),
                                              ),
                                            ),
                                          ),
                                        ),
                                      ),
                                    ),
                                  ),
                                ),
                              ),
                            ),
                          ),
                        ),
                      ),
                    ),
                  ),
                ),
              ),
            ),
          ),
        ),
      ),
    ),
  ),
)

row_at : (n : ℕ) (rs : List (List ℕ → Found Step)) → AreRows n rs → (k : ℕ) → IsRow (n + k) (slice_index_or rs k none)
row_at n [] a k = record { sound = λ bytes rest s f e. absurd (none-some (s, rest) e) }
row_at n (r ∷ rs) a zero = let same : n ≡ n + 0 = omega arith in subst (λ m. IsRow m r) same a.0
row_at n (r ∷ rs) a (suc k) = let same : n + 1 + k ≡ n + suc k = omega arith in subst (λ m. IsRow m (slice_index_or rs k none)) same (row_at (n + 1) rs a.1 k)

step_by_sound : (place : ℕ) (bytes rest : List ℕ) (s : Step) → IsBytes bytes → step_by place bytes ≡ Some (s, rest) → (arguments_bytes (line_of s).arguments ++ rest ≡ bytes) × (HasLine s × (command_place s ≡ place))
unfolding step_by
step_by_sound zero bytes rest s f e = absurd (none-some (s, rest) e)
step_by_sound (suc k) bytes rest s f e =
    let same : 1 + k ≡ suc k = omega arith in
    (subst (λ m. IsRow m (slice_index_or argument_readers k none)) same (row_at 1 argument_readers rows k)).sound bytes rest s f e

-- what is read is spelled so
pub step_sound : (bytes rest : List ℕ) (s : Step) → IsBytes bytes → step bytes ≡ Some (s, rest) → (step_bytes s ++ rest ≡ bytes) × HasLine s
unfolding step
step_sound bytes rest s f e =
    option_and_then_some _ (byte bytes) (s, rest) e (λ p g h.
    let one : (p.0 ∷ p.1 ≡ bytes) × (p.0 < 256) = IsReading-byte.sound bytes p.1 p.0 f g in
    let two : (arguments_bytes (line_of s).arguments ++ rest ≡ p.1) × (HasLine s × (command_place s ≡ p.0)) = step_by_sound p.0 p.1 rest s (rest_fits (p.0 ∷ []) p.1 bytes f one.0) h in
    (ap (λ n. n ∷ arguments_bytes (line_of s).arguments ++ rest) two.1.1 ∙ ap (λ l. p.0 ∷ l) two.0 ∙ one.0, two.1.0))

-- and what is spelled is read
pub step_complete : (s : Step) (rest : List ℕ) → HasLine s → step (step_bytes s ++ rest) ≡ Some (s, rest)
unfolding step step_by
step_complete (Guest size) rest h = again _ AreRead-number size rest (AreArguments-from_all (line_of (Guest size)).arguments h)
step_complete (New guest ty) rest h = again _ AreRead-number_and_type (guest, ty) rest (AreArguments-from_all (line_of (New guest ty)).arguments h)
step_complete (Between writer reader ty) rest h = again _ AreRead-two_and_type (writer, (reader, ty)) rest (AreArguments-from_all (line_of (Between writer reader ty)).arguments h)
step_complete (Write guest ty handle address count) rest h = again _ AreRead-operands (guest, (ty, (handle, (address, count)))) rest (AreArguments-from_all (line_of (Write guest ty handle address count)).arguments h)
step_complete (Read guest ty handle address count) rest h = again _ AreRead-operands (guest, (ty, (handle, (address, count)))) rest (AreArguments-from_all (line_of (Read guest ty handle address count)).arguments h)
step_complete (DropWrite guest ty handle) rest h = again _ AreRead-named_end (guest, (ty, handle)) rest (AreArguments-from_all (line_of (DropWrite guest ty handle)).arguments h)
step_complete (DropRead guest ty handle) rest h = again _ AreRead-named_end (guest, (ty, handle)) rest (AreArguments-from_all (line_of (DropRead guest ty handle)).arguments h)
step_complete (CancelWrite guest ty handle) rest h = again _ AreRead-named_end (guest, (ty, handle)) rest (AreArguments-from_all (line_of (CancelWrite guest ty handle)).arguments h)
step_complete (CancelRead guest ty handle) rest h = again _ AreRead-named_end (guest, (ty, handle)) rest (AreArguments-from_all (line_of (CancelRead guest ty handle)).arguments h)
step_complete (Move guest ty handle to) rest h = again _ AreRead-end_and_guest (guest, (ty, (handle, to))) rest (AreArguments-from_all (line_of (Move guest ty handle to)).arguments h)
step_complete (Lift guest ty handle) rest h = again _ AreRead-named_end (guest, (ty, handle)) rest (AreArguments-from_all (line_of (Lift guest ty handle)).arguments h)
step_complete (Lower reader guest ty) rest h = again _ AreRead-two_and_type (reader, (guest, ty)) rest (AreArguments-from_all (line_of (Lower reader guest ty)).arguments h)
step_complete (Close reader) rest h = again _ AreRead-number reader rest (AreArguments-from_all (line_of (Close reader)).arguments h)
step_complete (HostNew host) rest h = again _ AreRead-number host rest (AreArguments-from_all (line_of (HostNew host)).arguments h)
step_complete (Feed host bytes) rest h = again _ AreRead-number_and_fed (host, bytes) rest (AreArguments-from_all (line_of (Feed host bytes)).arguments h)
step_complete (Pipe reader host) rest h = again _ AreRead-two (reader, host) rest (AreArguments-from_all (line_of (Pipe reader host)).arguments h)
step_complete (Grant host count) rest h = again _ AreRead-two (host, count) rest (AreArguments-from_all (line_of (Grant host count)).arguments h)
step_complete Drive rest h = refl
step_complete (Event guest handle) rest h = again _ AreRead-two (guest, handle) rest (AreArguments-from_all (line_of (Event guest handle)).arguments h)
step_complete (SetNew guest) rest h = again _ AreRead-number guest rest (AreArguments-from_all (line_of (SetNew guest)).arguments h)
step_complete (SetJoin guest set handle) rest h = again _ AreRead-three (guest, (set, handle)) rest (AreArguments-from_all (line_of (SetJoin guest set handle)).arguments h)
step_complete (SetPoll guest set) rest h = again _ AreRead-two (guest, set) rest (AreArguments-from_all (line_of (SetPoll guest set)).arguments h)
step_complete (SetDrop guest set) rest h = again _ AreRead-two (guest, set) rest (AreArguments-from_all (line_of (SetDrop guest set)).arguments h)
step_complete (ErrNew guest address len) rest h = again _ AreRead-three (guest, (address, len)) rest (AreArguments-from_all (line_of (ErrNew guest address len)).arguments h)
step_complete (ErrText guest handle address) rest h = again _ AreRead-three (guest, (handle, address)) rest (AreArguments-from_all (line_of (ErrText guest handle address)).arguments h)
step_complete (ErrMove guest handle to) rest h = again _ AreRead-three (guest, (handle, to)) rest (AreArguments-from_all (line_of (ErrMove guest handle to)).arguments h)
step_complete (ErrDrop guest handle) rest h = again _ AreRead-two (guest, handle) rest (AreArguments-from_all (line_of (ErrDrop guest handle)).arguments h)
step_complete (Poke guest address bytes) rest h = again _ AreRead-place_and_bytes (guest, (address, bytes)) rest (AreArguments-from_all (line_of (Poke guest address bytes)).arguments h)
step_complete (Dump guest address len) rest h = again _ AreRead-place_and_len (guest, (address, len)) rest (AreArguments-from_all (line_of (Dump guest address len)).arguments h)

-- no command has another place
pub no_place : (place : ℕ) (bytes : List ℕ) → (1 ≤ place → 29 < place) → step_by place bytes ≡ None
unfolding step_by
no_place zero bytes h = refl
no_place (suc n) bytes h = ap (λ read. read bytes) (past_end argument_readers none n (omega (arith, h (omega arith))))
  where
    past_end : (xs : List (List ℕ → Found Step)) (d : List ℕ → Found Step) (i : ℕ) → length xs ≤ i → slice_index_or xs i d ≡ d
    past_end xs d i g = get_or_past xs i d g
