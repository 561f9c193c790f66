-- Records of a host writer kept as they are spelled: they are the records, and none is lost.
use Rattle.std.proofs.Common.{◌≡◌, ℕ, suc, ◌-◌, ◌<◌, ◌≤◌, List, [], ◌∷◌, ◌++◌, length, take, drop, Option, Some, None, refl, sym, ap, subst, ◌∙◌, arith, append-nil, length-append}
use Rattle.std.specs.Prelude.{All}
use Rattle.std.specs.List.{flat_map}
use Rattle.std.specs.Option.{option_map}
use Rattle.std.proofs.lemmas.List.{take_at, drop_at}
use Rattle.std.proofs.lemmas.Option.{none-some}
use Rattle.strm_codes.specs.declared.payloads.Payload.{Payload}
use Rattle.strm_memory.specs.Bytes.{IsBytes}
use Rattle.strm_buffers.specs.Said.{WriterSaid}
use Rattle.strm_lines.proofs.CutLemmas.{option_map_some}
use Rattle.strm_tape.specs.Spelling.{writer_record_bytes, IsWriterRecord}
use Rattle.strm_tape.specs.Reading.{Found, many, read_writer_record}
use Rattle.strm_tape.specs.Spelled.{Recorded, recorded_in, things_of, records_in, AreSpelledRecords}
use Rattle.strm_tape.proofs.ReadingLemmas.{IsReading}
use Rattle.strm_tape.proofs.RecordLemmas.{IsReading-many}
use Rattle.strm_tape.proofs.TapeLemmas.{IsReading-writer_record}
use Rattle.strm_tape.proofs.ManyLemmas.{in_front, many_stopped, many_on}

-- what follows things found in a row, when the first was found
module _ {A : Type 0} (read : List ℕ → Found A) where
  abbrev after : Found (List A) → Option (List ℕ)
  after o = option_map (λ p. p.1) o

  after-in_front : (front : List A) (o : Found (List A)) → after (in_front front o) ≡ after o
  after-in_front front None = refl
  after-in_front front (Some p) = refl

  pub after_stopped : (m : ℕ) (bytes : List ℕ) → 0 < m → read bytes ≡ None → None ≡ after (many read m bytes)
  after_stopped m bytes h e = sym (ap after (many_stopped read [] m bytes h e)) ∙ after-in_front [] (many read m bytes)

  pub after_on : (m n : ℕ) (bytes : List ℕ) (p : A × List ℕ) → m ≡ suc n → read bytes ≡ Some p → after (many read n p.1) ≡ after (many read m bytes)
  after_on m n bytes p h e =
      sym (after-in_front ([] ++ p.0 ∷ []) (many read n p.1)) ∙ ap after (many_on read [] m n bytes p h e) ∙ after-in_front [] (many read m bytes)

  pub after_over : (m : ℕ) (bytes : List ℕ) → m ≡ 0 → Some bytes ≡ after (many read m bytes)
  unfolding many
  after_over m bytes h = ap (λ j. after (many read j bytes)) (sym h)

  -- by what follows the first alone
  pub after_none : (m : ℕ) (bytes : List ℕ) → 0 < m → None ≡ option_map (λ (p : A × List ℕ). p.1) (read bytes) → None ≡ after (many read m bytes)
  after_none m bytes h e = by (read bytes) refl e
    where
      by : (o : Found A) → read bytes ≡ o → None ≡ option_map (λ (p : A × List ℕ). p.1) o → None ≡ after (many read m bytes)
      by None f e = after_stopped m bytes h f
      by (Some p) f e = absurd (none-some p.1 e)

  pub after_some : (m n : ℕ) (bytes rest : List ℕ) → m ≡ suc n → Some rest ≡ option_map (λ (p : A × List ℕ). p.1) (read bytes) → after (many read n rest) ≡ after (many read m bytes)
  after_some m n bytes rest h e =
      option_map_some (λ (p : A × List ℕ). p.1) (read bytes) rest (sym e) (λ p f is.
      subst (λ l. after (many read n l) ≡ after (many read m bytes)) is (after_on m n bytes p h f))

-- the bytes up to what follows so many records
pub record Front (payload : Payload) (n : ℕ) (bytes rest : List ℕ) : Type 0 where
  pub short : length rest ≤ length bytes
  pub spelled : AreSpelledRecords payload n (take (length bytes - length rest) bytes)
  pub is : Some (records_in payload n (take (length bytes - length rest) bytes), rest) ≡ many (read_writer_record payload) n bytes

-- what is left behind the first record, in the bytes that are lent
pub record Taken (payload : Payload) (n : ℕ) (bytes slice rest : List ℕ) (said : List WriterSaid) (first : WriterSaid) : Type 0 where
  pub short : length rest ≤ length slice
  pub some : 1 ≤ n
  pub behind : AreSpelledRecords payload (n - 1) (drop (length slice - length rest) bytes)
  pub is : said ≡ first ∷ records_in payload (n - 1) (drop (length slice - length rest) bytes)

-- these records are spelled by these bytes
pub record IsSpelling (payload : Payload) (said : List WriterSaid) (n : ℕ) (bytes : List ℕ) : Type 0 where
  pub are : flat_map writer_record_bytes said ≡ bytes
  pub count : length said ≡ n
  pub each : All (IsWriterRecord payload) said

module _ (payload : Payload) where
  reading : (n : ℕ) → IsReading (many (read_writer_record payload) n) (flat_map writer_record_bytes) (λ xs. (length xs ≡ n) × All (IsWriterRecord payload) xs)
  reading n = IsReading-many (IsReading-writer_record payload) n

  pub spelling_of : (n : ℕ) (bytes : List ℕ) → IsBytes bytes → AreSpelledRecords payload n bytes → IsSpelling payload (records_in payload n bytes) n bytes
  spelling_of n bytes f s =
      let said = records_in payload n bytes in
      let r : (flat_map writer_record_bytes said ++ [] ≡ bytes) × ((length said ≡ n) × All (IsWriterRecord payload) said) = (reading n).sound bytes [] said f s.are in
      record { are = sym (append-nil (flat_map writer_record_bytes said)) ∙ r.0; count = r.1.0; each = r.1.1 }

  kept_of : (n : ℕ) (bytes : List ℕ) (said : List WriterSaid) → many (read_writer_record payload) n bytes ≡ Some (said, []) → (records_in payload n bytes ≡ said) × AreSpelledRecords payload n bytes
  kept_of n bytes said e =
      let is : records_in payload n bytes ≡ said = ap things_of e in
      (is, record { are = e ∙ ap (λ xs. Some (xs, [])) (sym is) })

  pub spelled_by : (n : ℕ) (bytes : List ℕ) (said : List WriterSaid) → IsSpelling payload said n bytes → (records_in payload n bytes ≡ said) × AreSpelledRecords payload n bytes
  spelled_by n bytes said s =
      kept_of n bytes said
      (ap (many (read_writer_record payload) n) (sym s.are ∙ sym (append-nil (flat_map writer_record_bytes said))) ∙ (reading n).complete said [] (s.count, s.each))

  -- what is spelled, seen in the bytes that are lent
  pub seen : (n : ℕ) (bytes slice : List ℕ) (v : Recorded) → IsBytes slice → slice ≡ bytes → AreSpelledRecords payload n bytes → record { payload = payload; said = records_in payload n bytes } ≡ v → IsSpelling v.payload v.said n slice
  seen n bytes slice v f e s is =
      subst (λ (u : Recorded). IsSpelling u.payload u.said n slice) is
      (subst (IsSpelling payload (records_in payload n bytes) n) (sym e) (spelling_of n bytes (subst IsBytes e f) s))

  -- the bytes up to what follows so many records
  pub front_of : (n : ℕ) (bytes rest : List ℕ) → IsBytes bytes → Some rest ≡ option_map (λ (p : List WriterSaid × List ℕ). p.1) (many (read_writer_record payload) n bytes) → Front payload n bytes rest
  front_of n bytes rest f e =
      option_map_some (λ (p : List WriterSaid × List ℕ). p.1) (many (read_writer_record payload) n bytes) rest (sym e) (λ p g is.
      let said = p.0 in
      let written = flat_map writer_record_bytes said in
      let h : many (read_writer_record payload) n bytes ≡ Some (said, rest) = g ∙ ap (λ l. Some (said, l)) is in
      let r : (written ++ rest ≡ bytes) × ((length said ≡ n) × All (IsWriterRecord payload) said) = (reading n).sound bytes rest said f h in
      let size : length written ≡ length bytes - length rest = omega (arith, ap length (sym r.0) ∙ length-append written rest) in
      let front : take (length bytes - length rest) bytes ≡ written = ap (take (length bytes - length rest)) (sym r.0) ∙ take_at written rest (length bytes - length rest) size in
      let kept = spelled_by n (take (length bytes - length rest) bytes) said (record { are = sym front; count = r.1.0; each = r.1.1 }) in
      record {
        short = omega (arith, ap length (sym r.0) ∙ length-append written rest);
        spelled = kept.1;
        is = ap (λ xs. Some (xs, rest)) kept.0 ∙ sym h;
      })

  -- the first of some is there
  pub first_there : (n : ℕ) (bytes : List ℕ) → IsBytes bytes → AreSpelledRecords payload n bytes → 0 < length (records_in payload n bytes) → None ≡ read_writer_record payload bytes → ⊥
  first_there n bytes f s some e =
      let some_left : 0 < n = omega (arith, some, (spelling_of n bytes f s).count) in
      none-some (records_in payload n bytes, []) (after_none-many n bytes some_left (sym e) ∙ s.are)
    where
      after_none-many : (n : ℕ) (bytes : List ℕ) → 0 < n → read_writer_record payload bytes ≡ None → None ≡ many (read_writer_record payload) n bytes
      after_none-many n bytes h e = by (many (read_writer_record payload) n bytes) (many_stopped (read_writer_record payload) [] n bytes h e)
        where
          by : (o : Found (List WriterSaid)) → in_front [] o ≡ None → None ≡ o
          by None g = refl
          by (Some p) g = absurd (none-some ([] ++ p.0, p.1) (sym g))

  -- the others stand behind it
  pub behind_first : (n : ℕ) (bytes rest : List ℕ) (first : WriterSaid) → IsBytes bytes → AreSpelledRecords payload n bytes → 0 < length (records_in payload n bytes) → Some (first, rest) ≡ read_writer_record payload bytes → let behind = drop (length bytes - length rest) bytes in AreSpelledRecords payload (n - 1) behind × (records_in payload n bytes ≡ first ∷ records_in payload (n - 1) behind)
  behind_first n bytes rest first f s some e =
      let more : n ≡ suc (n - 1) = omega (arith, some, (spelling_of n bytes f s).count) in
      let r = (IsReading-writer_record payload).sound bytes rest first f (sym e) in
      let written = writer_record_bytes first in
      let size : length written ≡ length bytes - length rest = omega (arith, ap length (sym r.0) ∙ length-append written rest) in
      let behind : drop (length bytes - length rest) bytes ≡ rest = ap (drop (length bytes - length rest)) (sym r.0) ∙ drop_at written rest (length bytes - length rest) size in
      let found : in_front (first ∷ []) (many (read_writer_record payload) (n - 1) rest) ≡ Some (records_in payload n bytes, []) =
      many_on (read_writer_record payload) [] n (n - 1) bytes (first, rest) more (sym e) ∙ ap (in_front []) s.are in
      option_map_some (λ (p : List WriterSaid × List ℕ). ((first ∷ []) ++ p.0, p.1)) (many (read_writer_record payload) (n - 1) rest) (records_in payload n bytes, []) found (λ p g is.
      let none : p.1 ≡ [] = ap (λ q. q.1) is in
      let kept = kept_of (n - 1) rest p.0 (g ∙ ap (λ l. Some (p.0, l)) none) in
      (subst (AreSpelledRecords payload (n - 1)) (sym behind) kept.1, sym (ap (λ q. q.0) is) ∙ ap (λ xs. first ∷ xs) (sym kept.0 ∙ ap (records_in payload (n - 1)) (sym behind))))

  -- the same by the bytes that are lent
  module _ (n : ℕ) (bytes slice : List ℕ) (v : Recorded) (f : IsBytes slice) (e : slice ≡ bytes) (s : AreSpelledRecords payload n bytes) (is : recorded_in payload n bytes ≡ v) (some : 0 < length v.said) where
    some_there : 0 < length (records_in payload n bytes)
    some_there = omega (arith, some, ap (λ (u : Recorded). length u.said) is)

    pub untaken : None ≡ read_writer_record payload slice → ⊥
    untaken h = first_there n bytes (subst IsBytes e f) s some_there (h ∙ ap (read_writer_record payload) e)

    pub taken : (rest : List ℕ) (first : WriterSaid) → Some (first, rest) ≡ read_writer_record payload slice → Taken payload n bytes slice rest v.said first
    taken rest first h =
        let bytes_are : IsBytes bytes = subst IsBytes e f in
        let found : Some (first, rest) ≡ read_writer_record payload bytes = h ∙ ap (read_writer_record payload) e in
        let k = behind_first n bytes rest first bytes_are s some_there found in
        let r = (IsReading-writer_record payload).sound bytes rest first bytes_are (sym found) in
        subst (λ l. Taken payload n bytes l rest v.said first) (sym e) (record {
          short = omega (arith, ap length (sym r.0) ∙ length-append (writer_record_bytes first) rest);
          some = omega (arith, some_there, (spelling_of n bytes bytes_are s).count);
          behind = k.0;
          is = sym (ap (λ (u : Recorded). u.said) is) ∙ k.1;
        })
