-- What a stream keeps of its operations: one that has not met has moved nothing, and those of a future are
-- of one item, which has moved just where they have met and passes once.
use Rattle.std.proofs.Common.{◌≡◌, ℕ, ◌+◌, ◌-◌, ◌≤◌, Bool, true, false, Option, None, Some, refl, sym, subst, ◌∙◌, arith}
use Rattle.std.specs.Prelude.{if◌then◌else◌, ◌||◌}
use Rattle.std.proofs.lemmas.Bool.{le-ltb}
use Rattle.strm_codes.specs.Codes.{completed_code}
use Rattle.strm_machine.specs.Words.{kind_of, TransmitIndex, TransmitKind, AStream, Future, Payload, opposite, end_of, with_end, advanced, has_ended, Side, Writing, Reading, Operation, Stream, End, count_reported}
use Rattle.strm_codes.specs.declared.codes.ReturnCode.TheVariants as codes
use Rattle.strm_codes.specs.declared.codes.StreamResult.TheVariants.{Completed}
use Rattle.strm_codes.specs.declared.codes.TransmitIndex.TheVariants as index
use Rattle.strm_machine.specs.Endings.{asked_to_finish}
use Rattle.strm_machine.specs.Meetings.{begun}
use Rattle.strm_machine.specs.Operating.{is_future}
use Rattle.strm_machine.specs.Tests.{items_asked}
use Rattle.strm_machine.specs.Soundness.{IsUnmoved, is_opened}
use Rattle.strm_machine.proofs.EndLemmas.{each_side, IsLeft, left_by}
use Rattle.strm_machine.proofs.RefusalLemmas.{neither}

-- ## Operations of one item

pub record IsOne (o : Operation) : Type 0 where
  pub total : o.moved + o.left ≡ 1
  pub done : o.met ≡ true → o.moved ≡ 1
  pub waiting : o.met ≡ false → o.moved ≡ 0
  pub ready : o.is_open ≡ true → o.left ≡ 1
  pub completed : o.outcome ≡ Completed

abbrev pub AreOne : Option Operation → Type 0
AreOne None = Unit {0}
AreOne (Some o) = IsOne o

pub one_at : (q : Option Operation) (o : Operation) → q ≡ Some o → AreOne q → IsOne o
one_at q o e h = subst AreOne e h

pub none_one : (q : Option Operation) → q ≡ None → AreOne q
none_one q e = subst AreOne (sym e) tt

IsOne-begun : (g address n : ℕ) → n ≡ 1 → IsOne (begun g address n)
IsOne-begun g address n e = record {
  total = omega (arith, e);
  done = λ f. cc;
  waiting = λ f. refl;
  ready = λ f. e;
  completed = refl;
}

pub IsOne-advanced : (payload : Payload) (o : Operation) (n : ℕ) → o.is_open ≡ true → n ≡ 1 → IsOne o → IsOne (advanced payload o n)
IsOne-advanced payload o n e f h =
    let left = h.ready e in
    let none : o.left - n ≤ 0 = omega (arith, left, f) in
    let closed = le-ltb 0 (o.left - n) none in
    record {
      total = omega (arith, h.total, left, f);
      done = λ g. omega (arith, h.total, left, f);
      waiting = λ g. cc;
      ready = λ g. cc;
      completed = refl;
    }

-- one that has met is not open any more
pub one_closed : (o : Operation) → IsOne o → o.met ≡ true → o.is_open ≡ false
one_closed o h met = by o.is_open refl
  where
    by : (b : Bool) → o.is_open ≡ b → o.is_open ≡ false
    by false e = e
    by true e = absurd (omega (arith, h.total, h.done met, h.ready e))

-- ## Streams that are futures

-- where an operation is open no value has passed
abbrev pub IsFresh : Option Operation → Stream → Type 0
IsFresh o stream = is_opened o ≡ true → stream.passed ≡ false

pub none_fresh : (q : Option Operation) (stream : Stream) → is_opened q ≡ false → IsFresh q stream
none_fresh q stream e f = let wrong : true ≡ false = sym f ∙ e in cc

pub record PassesOne (stream : Stream) : Type 0 where
  pub writing : AreOne stream.writer.operation
  pub reading : AreOne stream.reader.operation
  pub count : stream.received ≡ (if stream.passed then 1 else 0)
  pub fresh : (side : Side) → IsFresh (end_of side stream).operation stream

-- of whichever of its ends
pub one_on : (side : Side) (stream : Stream) → PassesOne stream → AreOne (end_of side stream).operation
one_on Writing stream h = h.writing
one_on Reading stream h = h.reading

-- no value has passed where the operation on a side is open
abbrev pub IsFreshOn : Side → Stream → Type 0
IsFreshOn side stream = IsFresh (end_of side stream).operation stream

pub PassesOne-by : (side : Side) (stream : Stream) → AreOne (end_of side stream).operation → AreOne (end_of (opposite side) stream).operation → IsFreshOn side stream → IsFreshOn (opposite side) stream → stream.received ≡ (if stream.passed then 1 else 0)
    → PassesOne stream
PassesOne-by Writing stream h k f g e = record { writing = h; reading = k; count = e; fresh = λ side. each_side (λ (k : Side). IsFresh (end_of k stream).operation stream) Writing f g side }
PassesOne-by Reading stream h k f g e = record { writing = k; reading = h; count = e; fresh = λ side. each_side (λ (k : Side). IsFresh (end_of k stream).operation stream) Reading f g side }

-- ## Any stream

pub none_unmoved : (q : Option Operation) → q ≡ None → IsUnmoved q
none_unmoved q e = subst IsUnmoved (sym e) tt

-- the operations of a stream tally with what it received
pub record Tallies (stream : Stream) : Type 0 where
  pub writing : IsUnmoved stream.writer.operation
  pub reading : IsUnmoved stream.reader.operation
  pub one : stream.kind ≡ Future → PassesOne stream

pub unmoved_on : (side : Side) (stream : Stream) → Tallies stream → IsUnmoved (end_of side stream).operation
unmoved_on Writing stream h = h.writing
unmoved_on Reading stream h = h.reading

pub Tallies-by : (side : Side) (stream : Stream) → IsUnmoved (end_of side stream).operation → IsUnmoved (end_of (opposite side) stream).operation → (stream.kind ≡ Future → PassesOne stream) → Tallies stream
Tallies-by Writing stream h k one = record { writing = h; reading = k; one = one }
Tallies-by Reading stream h k one = record { writing = k; reading = h; one = one }

-- at most one item was received
pub received_one : (stream : Stream) → PassesOne stream → stream.received ≤ 1
received_one stream h = at_most stream.received stream.passed h.count
  where
    at_most : (n : ℕ) (b : Bool) → n ≡ (if b then 1 else 0) → n ≤ 1
    at_most n true e = omega arith
    at_most n false e = omega arith

-- the count of a future whose item passes
pub count_passed : (r n t : ℕ) (passed : Bool) (kind : TransmitKind) → kind ≡ Future → passed ≡ false → r ≡ (if passed then 1 else 0) → n ≡ 1 → t ≡ r + n → t ≡ (if (passed || is_future kind) then 1 else 0)
count_passed r n t true kind k p e f g = cc
count_passed r n t false AStream k p e f g = cc
count_passed r n t false Future k p e f g = omega arith

-- ## Calls on a future

-- what is known where an operation begins
pub record Begins (stream : Stream) (mine : Operation) : Type 0 where
  pub one : IsOne mine
  pub left : mine.left ≡ 1
  pub unpassed : stream.passed ≡ false

unpassed_by : (side : Side) (stream : Stream) → has_ended side Future stream ≡ false → stream.passed ≡ false
unpassed_by Writing stream e = (neither stream.writer.told stream.passed e).1
unpassed_by Reading stream e = e

pub begins_by : (side : Side) (ty : TransmitIndex) (stream : Stream) (g address count : ℕ) → stream.kind ≡ kind_of ty → has_ended side (kind_of ty) stream ≡ false → stream.kind ≡ Future → Begins stream (begun g address (items_asked ty count))
begins_by side (index.Stream payload) stream g address count e f k = cc
begins_by side (index.Future payload) stream g address count e f k = record { one = IsOne-begun g address 1 refl; left = refl; unpassed = unpassed_by side stream f }

-- ## Counts of reports

-- a Completed says how many moved, a future's its one
pub count_reported-completed : (kind : TransmitKind) (n : ℕ) → (kind ≡ Future → n ≡ 1) → count_reported kind (completed_code kind n) ≡ n
count_reported-completed AStream n h = refl
count_reported-completed Future n h = sym (h refl)

pub count_reported-dropped : (kind : TransmitKind) → count_reported kind (codes.Dropped 0) ≡ 0
count_reported-dropped AStream = refl
count_reported-dropped Future = refl

-- ## A stream with another end

-- one that is asked to finish
IsOne-asked : (o : Operation) → IsOne o → IsOne (asked_to_finish o)
IsOne-asked o h = record { total = h.total; done = h.done; waiting = h.waiting; ready = h.ready; completed = h.completed }

pub Tallies-with_end : (side : Side) (stream : Stream) (e : End) → IsLeft (end_of side stream).operation e.operation → Tallies stream → Tallies (with_end side stream e)
Tallies-with_end Writing stream e left h = record {
  writing = left_by IsUnmoved stream.writer.operation e.operation left h.writing tt (λ x u. u);
  reading = h.reading;
  one = λ k. let p = h.one k in
      PassesOne-by Writing (with_end Writing stream e) (left_by AreOne stream.writer.operation e.operation left p.writing tt IsOne-asked) p.reading
      (left_by (λ q. IsFresh q stream) stream.writer.operation e.operation left (p.fresh Writing) (none_fresh None stream refl) (λ x u. u)) (p.fresh Reading) p.count;
}
Tallies-with_end Reading stream e left h = record {
  writing = h.writing;
  reading = left_by IsUnmoved stream.reader.operation e.operation left h.reading tt (λ x u. u);
  one = λ k. let p = h.one k in
      PassesOne-by Reading (with_end Reading stream e) (left_by AreOne stream.reader.operation e.operation left p.reading tt IsOne-asked) p.writing
      (left_by (λ q. IsFresh q stream) stream.reader.operation e.operation left (p.fresh Reading) (none_fresh None stream refl) (λ x u. u)) (p.fresh Writing) p.count;
}
