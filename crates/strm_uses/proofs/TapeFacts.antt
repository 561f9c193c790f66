-- What is counted of the records of a tape, and what is left of them.
use Rattle.std.proofs.Common.{◌≡◌, ℕ, ◌+◌, ◌<◌, ◌≤◌, ◌^◌, All, List, [], ◌∷◌, length, ap, arith}
use Rattle.std.proofs.lemmas.List.Sums.{sum_by-cons, sum_by-le}
use Rattle.std.specs.List.{sum_by}
use Rattle.strm_buffers.specs.Said.{WriterSaid}
use Rattle.strm_machine.specs.declared.steps.Step.{Step}
use Rattle.strm_tape.specs.Spelling.{TapeOf, WriterTape, IsWriterTape, tape_with}
use Rattle.strm_uses.specs.Produced.{items_produced}

abbrev items_in : WriterSaid → ℕ
items_in said = length said.items

-- of so many records of a host writer so many items were counted, and the others are left
pub record Counted (writer : WriterTape) (records count : ℕ) (left : List WriterSaid) : Type 0 where
  pub items : count + sum_by items_in left ≡ items_produced writer
  pub all : records + length left ≡ length writer.said

pub none_counted : (writer : WriterTape) (left : List WriterSaid) → left ≡ writer.said → Counted writer 0 0 left
none_counted writer left e =
    let items = ap (sum_by items_in) e in
    let all = ap length e in
    record { items = omega (arith, items); all = omega (arith, all) }

pub one_counted : (writer : WriterTape) (records count n : ℕ) (first : WriterSaid) (left rest : List WriterSaid) → left ≡ first ∷ rest → n ≡ length first.items
    → Counted writer records count left → Counted writer (records + 1) (count + n) rest
one_counted writer records count n first left rest e m c =
    let sum = sum_by-cons items_in first rest in
    let now = ap (sum_by items_in) e in
    let more = ap length e in
    record { items = omega (arith, sum, now, m, c.items); all = omega (arith, more, c.all) }

pub all_counted : (writer : WriterTape) (records count : ℕ) (left : List WriterSaid) → length writer.said ≤ records
    → Counted writer records count left → count ≡ items_produced writer
all_counted writer records count [] all c = omega (arith, c.items)
all_counted writer records count (said ∷ left) all c = absurd (omega (arith, all, c.all))

-- all items that a tape tells of one host writer are a number of 64 bits
pub few_items : (writer : WriterTape) → IsWriterTape writer → items_produced writer < 2 ^ 64
few_items writer w =
    let each : All (λ s. items_in s ≤ 4294967294) writer.said = λ k d l. omega (arith, (w.each k d l).few) in
    let most = sum_by-le items_in 4294967294 writer.said each in
    omega (arith, most, w.few)

-- a tape of these steps, without host ends
pub tape_is : (tape : TapeOf) (steps : List Step) → tape.steps ≡ steps → tape.writers ≡ [] → tape.readers ≡ [] → tape ≡ tape_with steps [] []
tape_is tape steps a b c i = record { steps = a i; writers = b i; readers = c i }
