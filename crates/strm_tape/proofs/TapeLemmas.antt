-- Records and tapes: what is read is what is spelled, and the other way round.
use mathlib.Core.Bool.{beq}
use Rattle.std.proofs.Common.{◌≡◌, ℕ, ◌*◌, ◌<◌, Bool, true, false, cond, leb, ltb, eqb, List, [], ◌∷◌, ◌++◌, length, take, drop, replicate, Option, Some, None, refl, sym, ap, subst, ◌∙◌, arith, append_assoc, length-append, append-nil}
use Rattle.std.specs.Option.{option_map}
use Rattle.std.specs.Prelude.{option_and_then}
use Rattle.std.specs.Str.{bytes_eq}
use Rattle.std.proofs.lemmas.Bool.{le-leb, ltb-true, lt-ltb, ne_eqb, eqb-true}
use Rattle.std.proofs.lemmas.List.{take_at, drop_at, take-append-drop, length-replicate}
use Rattle.std.proofs.lemmas.Option.{option_and_then_some, same_Some, none-some}
use Rattle.std.proofs.lemmas.Slice.Eq.{bytes_eq-Decides}
use Rattle.strm_codes.specs.Layout.{item_type}
use Rattle.strm_codes.specs.ItemTypes.{item_size, ItemType}
use Rattle.strm_codes.specs.Types.{payload_of}
use Rattle.strm_codes.specs.declared.payloads.Payload.{Payload}
use Rattle.strm_codes.specs.declared.codes.TransmitIndex.{TransmitIndex}
use Rattle.strm_memory.specs.Bytes.{IsBytes}
use Rattle.strm_memory.specs.Items.{items, AreItems}
use Rattle.strm_memory.proofs.ByteLemmas.{IsBytes-take}
use Rattle.strm_memory.proofs.RegionLemmas.{length-items, AreItems-items, length-stored_at, items_at-stored_at}
use Rattle.strm_buffers.specs.declared.answers.Answer.{Answer}
use Rattle.strm_buffers.specs.Listing.{Item}
use Rattle.strm_buffers.specs.Said.{WriterSaid}
use Rattle.strm_machine.specs.declared.steps.Step.{Step}
use Rattle.strm_lines.specs.Grammar.{IsU32, HasLine}
use Rattle.strm_lines.proofs.ChoiceLemmas.{chosen}
use Rattle.strm_lines.proofs.CutLemmas.{option_map_some}
use Rattle.strm_tape.specs.Spelling.{number_bytes, room_bytes, region_bytes, items_bytes, flag_byte, answer_number, step_bytes, writer_record_bytes, reader_record_bytes, WriterTape, ReaderTape, TapeOf, writer_bytes, reader_bytes, spelled_counted, few_counted, is_first, head_bytes, tape_spelling, IsSpelledRoom, IsWriterRecord, IsReaderRecord, IsWriterTape, IsReaderTape, IsTape}
use Rattle.strm_tape.specs.Reading.{Found, read_as, followed_by_part, read_number, room_of_number, read_room, items_as_written, region, read_item_list, flag, answer, read_writer_record, read_reader_record, writer, reader, head, step, tape_parts, tape, transmit_type, many, read_counted, few_listed}
use Rattle.strm_tape.proofs.ReadingLemmas.{IsReading, IsReading-number, IsReading-upto, IsReading-followed_by, IsReading-followed_by_its, found, rest_fits}
use Rattle.strm_tape.proofs.TypeLemmas.{IsReading-type, made_sound}
use Rattle.strm_tape.proofs.StepLemmas.{step_sound, step_complete}
use Rattle.strm_tape.proofs.RecordLemmas.{IsReading-flag, IsReading-answer, IsReading-listed, IsReading-few}

-- items

length-region : (ss : ItemType) (xs : List Item) → length (region_bytes ss xs) ≡ item_size ss * length xs
length-region ss xs =
    let size = item_size ss * length xs in
    let zeros : length (replicate {A = ℕ} size 0) ≡ size = length-replicate {A = ℕ} size 0 in
    length-stored_at ss (replicate size 0) 0 xs (omega (arith, zeros)) ∙ zeros

pub items-region : (ss : ItemType) (xs : List Item) → AreItems ss xs → items ss (region_bytes ss xs) (length xs) ≡ Some xs
items-region ss xs f =
    let size = item_size ss * length xs in
    let zeros : length (replicate {A = ℕ} size 0) ≡ size = length-replicate {A = ℕ} size 0 in
    items_at-stored_at ss (replicate size 0) 0 xs f (omega (arith, zeros))

-- so many items
abbrev AreSo : ItemType → ℕ → List Item → Type 0
AreSo ss n xs = (length xs ≡ n) × AreItems ss xs

region_sound : (ss : ItemType) (n : ℕ) (bytes rest : List ℕ) (xs : List Item) → IsBytes bytes → region ss n bytes ≡ Some (xs, rest) → (region_bytes ss xs ++ rest ≡ bytes) × AreSo ss n xs
unfolding region
region_sound ss n bytes rest xs f e =
    let size = item_size ss * n in
    let front = take size bytes in
    let c = chosen (leb size (length bytes)) _ (xs, rest) e in
    option_map_some (λ ys. (ys, drop size bytes)) (items_as_written ss front n) (xs, rest) c.1 (λ ys g h.
    option_and_then_some _ (items ss front n) ys g (λ zs i j.
    let d : (bytes_eq (region_bytes ss zs) front ≡ true) × (Some zs ≡ Some ys) = chosen (bytes_eq (region_bytes ss zs) front) (Some zs) ys j in
    let same : zs ≡ ys = same_Some zs ys d.1 in
    let written : region_bytes ss zs ≡ front = (bytes_eq-Decides (region_bytes ss zs) front).0 d.0 in
    let all : region_bytes ss zs ++ drop size bytes ≡ bytes = ap (λ l. l ++ drop size bytes) written ∙ take-append-drop size bytes in
    let fit : AreSo ss n zs = (length-items ss front n zs i, AreItems-items ss front n zs (IsBytes-take bytes size f) i) in
    found (region_bytes ss) (AreSo ss n) bytes (zs, drop size bytes) (xs, rest) (ap (λ l. (l, drop size bytes)) same ∙ h) (all, fit)))

region_complete : (ss : ItemType) (n : ℕ) (xs : List Item) (rest : List ℕ) → AreSo ss n xs → region ss n (region_bytes ss xs ++ rest) ≡ Some (xs, rest)
unfolding region
region_complete ss n xs rest f =
    let size = item_size ss * n in
    let front = region_bytes ss xs in
    let len : length front ≡ size = length-region ss xs ∙ ap (λ k. item_size ss * k) f.0 in
    let read : items ss front n ≡ Some xs = ap (items ss front) (sym f.0) ∙ items-region ss xs f.1 in
    rw (le-leb size (length (front ++ rest)) (omega (arith, len, length-append front rest)), take_at front rest size len, drop_at front rest size len, read, (bytes_eq-Decides front front).1 refl) refl

IsReading-region : (ss : ItemType) (n : ℕ) → IsReading (region ss n) (region_bytes ss) (AreSo ss n)
IsReading-region ss n = record { sound = region_sound ss n; complete = region_complete ss n }

-- as many as one record can have
abbrev AreRecorded : ItemType → List Item → Type 0
AreRecorded ss xs = (length xs < 4294967295) × AreItems ss xs

items_sound : (ss : ItemType) (bytes rest : List ℕ) (xs : List Item) → IsBytes bytes → read_item_list ss bytes ≡ Some (xs, rest) → (items_bytes ss xs ++ rest ≡ bytes) × AreRecorded ss xs
unfolding read_item_list
items_sound ss bytes rest xs f e =
    option_and_then_some _ (read_number bytes) (xs, rest) e (λ p g h.
    let c = chosen (ltb p.0 4294967295) (region ss p.0 p.1) (xs, rest) h in
    let one : (number_bytes p.0 ++ p.1 ≡ bytes) × IsU32 p.0 = IsReading-number.sound bytes p.1 p.0 f g in
    let two : (region_bytes ss xs ++ rest ≡ p.1) × AreSo ss p.0 xs = region_sound ss p.0 p.1 rest xs (rest_fits (number_bytes p.0) p.1 bytes f one.0) c.1 in
    (append_assoc (number_bytes (length xs)) (region_bytes ss xs) rest ∙ ap (λ l. number_bytes (length xs) ++ l) two.0 ∙ ap (λ n. number_bytes n ++ p.1) two.1.0 ∙ one.0, (omega (arith, two.1.0, ltb-true p.0 4294967295 c.0), two.1.1)))

items_complete : (ss : ItemType) (xs : List Item) (rest : List ℕ) → AreRecorded ss xs → read_item_list ss (items_bytes ss xs ++ rest) ≡ Some (xs, rest)
unfolding read_item_list
items_complete ss xs rest f =
    rw (append_assoc (number_bytes (length xs)) (region_bytes ss xs) rest, IsReading-number.complete (length xs) (region_bytes ss xs ++ rest) (omega (arith, f.0)), lt-ltb (length xs) 4294967295 f.0)
    (region_complete ss (length xs) xs rest (refl, f.1))

pub IsReading-items : (ss : ItemType) → IsReading (read_item_list ss) (items_bytes ss) (AreRecorded ss)
IsReading-items ss = record { sound = items_sound ss; complete = items_complete ss }

-- rooms

-- the room that a number is
RoomIs : ℕ → Option ℕ → Type 0
RoomIs n r = (room_bytes r ≡ number_bytes n) × IsSpelledRoom r

room_found : (n : ℕ) (r : Option ℕ) → room_of_number n ≡ Some r → RoomIs n r
unfolding RoomIs
room_found n r e = by_none (eqb n 4294967295) refl e
  where
    by_some : (b : Bool) → ltb n 268435456 ≡ b → cond b (Some (Some n)) None ≡ Some r → RoomIs n r
    by_some true t q = subst (λ s. (room_bytes s ≡ number_bytes n) × IsSpelledRoom s) (same_Some (Some n) r q) (refl, ltb-true n 268435456 t)
    by_some false t q = absurd (none-some r q)

    by_none : (b : Bool) → eqb n 4294967295 ≡ b → cond b (Some None) (cond (ltb n 268435456) (Some (Some n)) None) ≡ Some r → RoomIs n r
    by_none true t q = subst (λ s. (room_bytes s ≡ number_bytes n) × IsSpelledRoom s) (same_Some None r q) (ap number_bytes (sym (eqb-true n 4294967295 t)), tt)
    by_none false t q = by_some (ltb n 268435456) refl q

room_sound : (bytes rest : List ℕ) (r : Option ℕ) → IsBytes bytes → read_room bytes ≡ Some (r, rest) → (room_bytes r ++ rest ≡ bytes) × IsSpelledRoom r
unfolding read_room RoomIs
room_sound bytes rest r f e =
    option_and_then_some _ (read_number bytes) (r, rest) e (λ p g h.
    option_and_then_some _ (room_of_number p.0) (r, rest) h (λ s i j.
    let one : (number_bytes p.0 ++ p.1 ≡ bytes) × IsU32 p.0 = IsReading-number.sound bytes p.1 p.0 f g in
    let is : (room_bytes s ≡ number_bytes p.0) × IsSpelledRoom s = room_found p.0 s i in
    found room_bytes IsSpelledRoom bytes (s, p.1) (r, rest) (same_Some (s, p.1) (r, rest) j) (ap (λ l. l ++ p.1) is.0 ∙ one.0, is.1)))

room_complete : (r : Option ℕ) (rest : List ℕ) → IsSpelledRoom r → read_room (room_bytes r ++ rest) ≡ Some (r, rest)
unfolding read_room
room_complete None rest f = rw (IsReading-number.complete 4294967295 rest (omega arith)) refl
room_complete (Some n) rest f =
    rw (IsReading-number.complete n rest (omega (arith, f)), ne_eqb n 4294967295 (λ e. omega (arith, e, f)), lt-ltb n 268435456 f) refl

pub IsReading-room : IsReading read_room room_bytes IsSpelledRoom
IsReading-room = record { sound = room_sound; complete = room_complete }

-- what is made of parts comes apart into them again
abbrev ComesApart : {A B : Type 0} → (A → List ℕ) → (A → Type 0) → (B → List ℕ) → (B → Type 0) → (A → B) → (B → A) → Type 0
ComesApart {A} {B} write IsFit write_made IsFitMade make parts =
    (y : B) → IsFitMade y → (make (parts y) ≡ y) × ((write_made y ≡ write (parts y)) × IsFit (parts y))

module _ {A B : Type 0} {read : List ℕ → Found A} {write : A → List ℕ} {IsFit : A → Type 0} (r : IsReading read write IsFit) where
  pub IsReading-made : (write_made : B → List ℕ) (IsFitMade : B → Type 0) (make : A → B) (parts : B → A) → ((x : A) → write_made (make x) ≡ write x) → ((x : A) → IsFit x → IsFitMade (make x)) → ComesApart write IsFit write_made IsFitMade make parts → IsReading (read_as make read) write_made IsFitMade
  IsReading-made write_made IsFitMade make parts same fit apart = record {
    sound = made_sound write_made IsFitMade make r same fit;
    complete = again;
  }
    where
      again : (y : B) (rest : List ℕ) → IsFitMade y → read_as make read (write_made y ++ rest) ≡ Some (y, rest)
      again y rest f =
          let a = apart y f in
          rw (a.1.0, r.complete (parts y) rest a.1.1) (ap (λ z. Some (z, rest)) a.0)

-- records

-- a record of a payload, of its parts
abbrev record_of : Payload → Option ℕ × (Bool × (List Item × Answer)) → WriterSaid
record_of payload v = record { room = v.0; finish = v.1.0; payload = payload; items = v.1.1.0; answer = v.1.1.1 }

abbrev parts_of : WriterSaid → Option ℕ × (Bool × (List Item × Answer))
parts_of said = (said.room, (said.finish, (said.items, said.answer)))

abbrev bytes_of_parts : Payload → Option ℕ × (Bool × (List Item × Answer)) → List ℕ
bytes_of_parts payload v = room_bytes v.0 ++ ((flag_byte v.1.0 ∷ []) ++ (items_bytes (item_type payload) v.1.1.0 ++ (answer_number v.1.1.1 ∷ [])))

abbrev ArePartsFit : Payload → Option ℕ × (Bool × (List Item × Answer)) → Type 0
ArePartsFit payload v = IsSpelledRoom v.0 × (Unit {0} × (AreRecorded (item_type payload) v.1.1.0 × Unit {0}))

IsReading-parts : (payload : Payload) → IsReading (followed_by_part read_room (followed_by_part flag (followed_by_part (read_item_list (item_type payload)) answer))) (bytes_of_parts payload) (ArePartsFit payload)
IsReading-parts payload = IsReading-followed_by IsReading-room (IsReading-followed_by IsReading-flag (IsReading-followed_by (IsReading-items (item_type payload)) IsReading-answer))

pub IsReading-writer_record : (payload : Payload) → IsReading (read_writer_record payload) writer_record_bytes (IsWriterRecord payload)
IsReading-writer_record payload =
    IsReading-made (IsReading-parts payload) writer_record_bytes (IsWriterRecord payload) (record_of payload) parts_of
    (λ v. refl)
    (λ v f. record { of = refl; room = f.0; few = f.1.1.0.0; fit = f.1.1.0.1 })
    (λ said f. (ap (λ p. record_of p (parts_of said)) (sym f.of), (ap (λ p. bytes_of_parts p (parts_of said)) f.of, (f.room, (tt, ((f.few, f.fit), tt))))))

IsReading-reader_record : IsReading read_reader_record reader_record_bytes IsReaderRecord
IsReading-reader_record =
    IsReading-made (IsReading-followed_by_its IsReading-number (λ offered. IsReading-followed_by IsReading-number (IsReading-followed_by IsReading-flag (IsReading-followed_by (IsReading-upto offered) (IsReading-followed_by IsReading-flag IsReading-answer)))))
    reader_record_bytes IsReaderRecord _
    (λ said. (said.offered, (said.since, (said.finish, (said.taken, (said.bad, said.answer))))))
    (λ v. refl)
    (λ v f. record { offered = f.0; since = f.1.0; taken = f.1.1.1.0.1 })
    (λ said f. (refl, (refl, (f.offered, (f.since, (tt, ((omega (arith, f.taken, f.offered), f.taken), (tt, tt))))))))

-- host ends

IsReading-writer : IsReading writer writer_bytes IsWriterTape
IsReading-writer =
    IsReading-made (IsReading-followed_by_its IsReading-type (λ ty. IsReading-listed (IsReading-writer_record (payload_of ty))))
    writer_bytes IsWriterTape _
    (λ w. (w.ty, w.said))
    (λ v. refl)
    (λ v f. record { typed = f.0; few = f.1.0; each = f.1.1 })
    (λ w f. (refl, (refl, (f.typed, (f.few, f.each)))))

IsReading-reader : IsReading reader reader_bytes IsReaderTape
IsReading-reader =
    IsReading-made (IsReading-followed_by IsReading-type (IsReading-listed IsReading-reader_record))
    reader_bytes IsReaderTape _
    (λ r. (r.ty, r.said))
    (λ v. refl)
    (λ v f. record { typed = f.0; few = f.1.0; each = f.1.1 })
    (λ r f. (refl, (refl, (f.typed, (f.few, f.each)))))

-- a host writer that was read part by part
module _ (bytes b1 b2 b3 : List ℕ) (ty : TransmitIndex) (p : Payload) (n : ℕ) (said : List WriterSaid) where
  pub writer_read : transmit_type bytes ≡ Some (ty, b1) → read_number b1 ≡ Some (n, b2) → p ≡ payload_of ty → many (read_writer_record p) n b2 ≡ Some (said, b3) → Some (record { ty = ty; said = said }, b3) ≡ writer bytes
  unfolding read_counted
  writer_read e f is g = rw (e, f, sym is, g) refl

-- tapes

same_truth : (a b : Bool) → beq a b ≡ true → a ≡ b
same_truth true true e = refl
same_truth true false e = sym e
same_truth false true e = e
same_truth false false e = refl

beq_self : (a : Bool) → beq a a ≡ true
beq_self true = refl
beq_self false = refl

head_is : (bytes rest : List ℕ) (v w : Bool) → bytes_eq (take 5 bytes) (head_bytes v) ≡ true → ◌≡◌ {A = Found Bool} (Some (v, drop 5 bytes)) (Some (w, rest)) → (head_bytes w ++ rest ≡ bytes) × Unit {0}
head_is bytes rest v w t e =
    let same : (v, drop 5 bytes) ≡ (w, rest) = same_Some (v, drop 5 bytes) (w, rest) e in
    let is : take 5 bytes ≡ head_bytes v = (bytes_eq-Decides (take 5 bytes) (head_bytes v)).0 t in
    found head_bytes (λ u. Unit {0}) bytes (v, drop 5 bytes) (w, rest) same (ap (λ l. l ++ drop 5 bytes) (sym is) ∙ take-append-drop 5 bytes, tt)

-- what is found by two tests
abbrev head_if : Bool → Bool → List ℕ → Found Bool
head_if t u rest = cond t (Some (true, rest)) (cond u (Some (false, rest)) None)

head_by : (t u : Bool) (bytes rest : List ℕ) (v : Bool) → bytes_eq (take 5 bytes) (head_bytes true) ≡ t → bytes_eq (take 5 bytes) (head_bytes false) ≡ u → head_if t u (drop 5 bytes) ≡ Some (v, rest) → (head_bytes v ++ rest ≡ bytes) × Unit {0}
head_by true u bytes rest v g h e = head_is bytes rest true v g e
head_by false true bytes rest v g h e = head_is bytes rest false v h e
head_by false false bytes rest v g h e = absurd (none-some (v, rest) e)

head_sound : (bytes rest : List ℕ) (v : Bool) → IsBytes bytes → head bytes ≡ Some (v, rest) → (head_bytes v ++ rest ≡ bytes) × Unit {0}
unfolding head
head_sound bytes rest v f e = head_by (bytes_eq (take 5 bytes) (head_bytes true)) (bytes_eq (take 5 bytes) (head_bytes false)) bytes rest v refl refl e

head_complete : (v : Bool) (rest : List ℕ) → Unit {0} → head (head_bytes v ++ rest) ≡ Some (v, rest)
unfolding head
head_complete true rest f = refl
head_complete false rest f = refl

pub IsReading-step : IsReading step step_bytes HasLine
IsReading-step = record { sound = step_sound; complete = step_complete }

-- what a tape says, behind what it begins with
abbrev behind_head : TapeOf → List ℕ
behind_head t = spelled_counted step_bytes t.steps ++ (few_counted writer_bytes t.writers ++ few_counted reader_bytes t.readers)

IsReading-parts_of_tape : IsReading tape_parts behind_head IsTape
IsReading-parts_of_tape =
    IsReading-made (IsReading-followed_by (IsReading-listed IsReading-step) (IsReading-followed_by (IsReading-few IsReading-writer) (IsReading-few IsReading-reader)))
    behind_head IsTape (λ v. record { steps = v.0; writers = v.1.0; readers = v.1.1 })
    (λ t. (t.steps, (t.writers, t.readers)))
    (λ v. refl)
    (λ v f. record { few_steps = f.0.0; steps = f.0.1; few_writers = f.1.0.0; writers = f.1.0.1; few_readers = f.1.1.0; readers = f.1.1.1 })
    (λ t f. (refl, (refl, ((f.few_steps, f.steps), ((f.few_writers, f.writers), (f.few_readers, f.readers))))))

tape_sound : (bytes rest : List ℕ) (t : TapeOf) → IsBytes bytes → tape bytes ≡ Some (t, rest) → (tape_spelling t ++ rest ≡ bytes) × IsTape t
tape_sound bytes rest t f e =
    option_and_then_some _ (head bytes) (t, rest) e (λ p g h.
    option_and_then_some _ (tape_parts p.1) (t, rest) h (λ q i j.
    let c : (beq (is_first q.0) p.0 ≡ true) × (Some q ≡ Some (t, rest)) = chosen (beq (is_first q.0) p.0) (Some q) (t, rest) j in
    let first : is_first q.0 ≡ p.0 = same_truth (is_first q.0) p.0 c.0 in
    let same : q ≡ (t, rest) = same_Some q (t, rest) c.1 in
    let one : (head_bytes p.0 ++ p.1 ≡ bytes) × Unit {0} = head_sound bytes p.1 p.0 f g in
    let two : (behind_head q.0 ++ q.1 ≡ p.1) × IsTape q.0 = IsReading-parts_of_tape.sound p.1 q.1 q.0 (rest_fits (head_bytes p.0) p.1 bytes f one.0) i in
    found tape_spelling IsTape bytes q (t, rest) same
    (ap (λ v. head_bytes v ++ behind_head q.0 ++ q.1) first ∙ append_assoc (head_bytes p.0) (behind_head q.0) q.1 ∙ ap (λ l. head_bytes p.0 ++ l) two.0 ∙ one.0, two.1)))

-- a tape of a version, whose parts are read behind what it begins with
abbrev of_version : Bool → Found TapeOf → Found TapeOf
of_version v o = option_and_then {U = TapeOf × List ℕ} (λ (q : TapeOf × List ℕ). cond (beq (is_first q.0) v) (Some q) None) o

tape_at : (v : Bool) (t : TapeOf) (rest : List ℕ) → is_first t ≡ v → IsTape t → tape (head_bytes v ++ (behind_head t ++ rest)) ≡ Some (t, rest)
tape_at v t rest e f =
    ap (λ o. option_and_then {U = TapeOf × List ℕ} (λ (p : Bool × List ℕ). of_version p.0 (tape_parts p.1)) o) (head_complete v (behind_head t ++ rest) tt)
    ∙ ap (of_version v) (IsReading-parts_of_tape.complete t rest f)
    ∙ ap (λ b. cond {A = Found TapeOf} b (Some (t, rest)) None) (ap (λ u. beq u v) e ∙ beq_self v)

tape_complete : (t : TapeOf) (rest : List ℕ) → IsTape t → tape (tape_spelling t ++ rest) ≡ Some (t, rest)
tape_complete t rest f = ap tape (append_assoc (head_bytes (is_first t)) (behind_head t) rest) ∙ tape_at (is_first t) t rest refl f

pub IsReading-tape : IsReading tape tape_spelling IsTape
IsReading-tape = record { sound = tape_sound; complete = tape_complete }

-- what bytes are read as a tape, and nothing behind it

nothing_there : (bytes : List ℕ) → length bytes ≡ 0 → bytes ≡ []
nothing_there [] h = refl
nothing_there (b ∷ bytes) h = absurd (omega (arith, h))

pub whole_is : (bytes rest : List ℕ) (t : TapeOf) → IsBytes bytes → tape bytes ≡ Some (t, rest) → length rest ≡ 0 → tape_spelling t ≡ bytes
whole_is bytes rest t f e h =
    sym (append-nil (tape_spelling t)) ∙ ap (λ l. tape_spelling t ++ l) (sym (nothing_there rest h)) ∙ (IsReading-tape.sound bytes rest t f e).0

pub read_whole : (bytes : List ℕ) (t : TapeOf) → IsTape t → tape_spelling t ≡ bytes → tape bytes ≡ Some (t, [])
read_whole bytes t f s = ap tape (sym (append-nil (tape_spelling t) ∙ s)) ∙ IsReading-tape.complete t [] f

-- no other tape, and nothing behind it
pub one_tape : (bytes rest : List ℕ) (t u : TapeOf) → tape bytes ≡ Some (t, rest) → IsTape u → tape_spelling u ≡ bytes → (t ≡ u) × (rest ≡ [])
one_tape bytes rest t u e f s =
    let same : (t, rest) ≡ (u, []) = same_Some (t, rest) (u, []) (sym e ∙ read_whole bytes u f s) in
    (ap (λ p. p.0) same, ap (λ p. p.1) same)

-- what a tape says, read part by part
module _ (bytes b1 b2 b3 : List ℕ) (steps : List Step) (writers : List WriterTape) (readers : List ReaderTape) where
  abbrev the_tape : TapeOf
  the_tape = record { steps = steps; writers = writers; readers = readers }

  pub read_in_parts : IsBytes bytes → read_counted step bytes ≡ Some (steps, b1) → few_listed writer b1 ≡ Some (writers, b2) → few_listed reader b2 ≡ Some (readers, b3) → IsTape the_tape
  read_in_parts f g h i = (IsReading-parts_of_tape.sound bytes b3 the_tape f (rw (g, h, i) refl)).1
