-- What worlds that are alike have in common, and how they stay alike where one end is written.
use Rattle.std.proofs.Common.{◌≡◌, ℕ, ◌++◌, Bool, true, false, List, length, map, refl, sym, ap, subst, ◌∙◌}
use Rattle.std.specs.Prelude.{slice_set, if◌then◌else◌}
use Rattle.std.proofs.lemmas.List.{map-set, length-map}
use Rattle.std.proofs.Math.ListN.{get_or-map}
use Rattle.strm_buffers.specs.Listing.{Item}
use Rattle.strm_machine.specs.State.{State, kept_at}
use Rattle.strm_host_machine.specs.Ends.{Writer, Reader, no_writer, no_reader, writer_in, reader_in}
use Rattle.strm_host_machine.specs.World.{World, held_of}
use Rattle.strm_host_machine.specs.Outcomes.{Outcome, Goes, Stops, Stuck, then_on}
use Rattle.strm_record_laws.specs.Alike.{bare_writer, bare_reader, AreAlike}

-- the same host writers, but for what no step looks at
abbrev pub SameWriters : List Writer → List Writer → Type 0
SameWriters ws us = map bare_writer ws ≡ map bare_writer us

-- the same host readers
abbrev pub SameReaders : List Reader → List Reader → Type 0
SameReaders rs ts = map bare_reader rs ≡ map bare_reader ts

-- a world by its parts
abbrev pub world : State → List Writer → List Reader → World
world s ws rs = record { state = s; writers = ws; readers = rs }

-- two outcomes are alike
abbrev pub Alike : Outcome → Outcome → Type 0
Alike (Goes reply a) (Goes reply' b) = (reply ≡ reply') × AreAlike a b
Alike (Stops stop ws rs) (Stops stop' us ts) = (stop ≡ stop') × SameWriters ws us × SameReaders rs ts
Alike Stuck Stuck = Unit {0}
Alike _ _ = ⊥

-- two worlds of one state
pub alike : (s : State) (ws us : List Writer) (rs ts : List Reader) → SameWriters ws us → SameReaders rs ts → AreAlike (world s ws rs) (world s us ts)
alike s ws us rs ts e f = record { state = refl; writers = e; readers = f }

-- this holds of any two worlds of one state
abbrev pub OfAlike : (World → World → Type 0) → Type 0
OfAlike P = (s : State) (ws us : List Writer) (rs ts : List Reader) → SameWriters ws us → SameReaders rs ts → P (world s ws rs) (world s us ts)

-- what holds of any two worlds of one state holds of any two that are alike
pub of_alike : (P : World → World → Type 0) → OfAlike P → (a b : World) → AreAlike a b → P a b
of_alike P all a b l = subst (λ s. P a (world s b.writers b.readers)) l.state (all a.state a.writers b.writers a.readers b.readers l.writers l.readers)

-- LOOKING

pub writer_same : (ws us : List Writer) (n : ℕ) → SameWriters ws us → bare_writer (writer_in ws n) ≡ bare_writer (writer_in us n)
writer_same ws us n e = sym (get_or-map bare_writer ws n no_writer) ∙ ap (λ xs. writer_in xs n) e ∙ get_or-map bare_writer us n no_writer

pub reader_same : (rs ts : List Reader) (r : ℕ) → SameReaders rs ts → bare_reader (reader_in rs r) ≡ bare_reader (reader_in ts r)
reader_same rs ts r e = sym (get_or-map bare_reader rs r no_reader) ∙ ap (λ xs. reader_in xs r) e ∙ get_or-map bare_reader ts r no_reader

pub holds_same : (ws us : List Writer) (n : ℕ) → SameWriters ws us → (writer_in ws n).holds ≡ (writer_in us n).holds
holds_same ws us n e = ap (λ (w : Writer). w.holds) (writer_same ws us n e)

pub coming_same : (ws us : List Writer) (n : ℕ) → SameWriters ws us → (writer_in ws n).coming ≡ (writer_in us n).coming
coming_same ws us n e = ap (λ (w : Writer). w.coming) (writer_same ws us n e)

pub reader_coming_same : (rs ts : List Reader) (r : ℕ) → SameReaders rs ts → (reader_in rs r).coming ≡ (reader_in ts r).coming
reader_coming_same rs ts r e = ap (λ (w : Reader). w.coming) (reader_same rs ts r e)

pub held_same : (s : State) (ws us : List Writer) (rs ts : List Reader) (n : ℕ) → SameWriters ws us → held_of (world s ws rs) n ≡ held_of (world s us ts) n
held_same s ws us rs ts n e = ap (λ (xs : List Item). kept_at s n ++ xs) (holds_same ws us n e)

pub count_same : (ws us : List Writer) → SameWriters ws us → length ws ≡ length us
count_same ws us e = sym (length-map ws bare_writer) ∙ ap (λ (xs : List Writer). length xs) e ∙ length-map us bare_writer

pub reader_count_same : (rs ts : List Reader) → SameReaders rs ts → length rs ≡ length ts
reader_count_same rs ts e = sym (length-map rs bare_reader) ∙ ap (λ (xs : List Reader). length xs) e ∙ length-map ts bare_reader

-- WRITING

pub set_same : (ws us : List Writer) (n : ℕ) (w u : Writer) → SameWriters ws us → bare_writer w ≡ bare_writer u → SameWriters (slice_set ws n w) (slice_set us n u)
set_same ws us n w u e f = map-set bare_writer ws n w ∙ ap (λ xs. slice_set xs n (bare_writer w)) e ∙ ap (λ x. slice_set (map bare_writer us) n x) f ∙ sym (map-set bare_writer us n u)

pub set_reader_same : (rs ts : List Reader) (n : ℕ) (r t : Reader) → SameReaders rs ts → bare_reader r ≡ bare_reader t → SameReaders (slice_set rs n r) (slice_set ts n t)
set_reader_same rs ts n r t e f = map-set bare_reader rs n r ∙ ap (λ xs. slice_set xs n (bare_reader r)) e ∙ ap (λ x. slice_set (map bare_reader ts) n x) f ∙ sym (map-set bare_reader ts n t)

-- one host writer is changed in one way
pub change_same : (change : Writer → Writer) → ((w : Writer) → bare_writer (change w) ≡ bare_writer (change (bare_writer w))) → (ws us : List Writer) (n : ℕ) → SameWriters ws us → SameWriters (slice_set ws n (change (writer_in ws n))) (slice_set us n (change (writer_in us n)))
change_same change looks ws us n e = set_same ws us n (change (writer_in ws n)) (change (writer_in us n)) e (looks (writer_in ws n) ∙ ap (λ w. bare_writer (change w)) (writer_same ws us n e) ∙ sym (looks (writer_in us n)))

-- one host reader is
pub change_reader_same : (change : Reader → Reader) → ((r : Reader) → bare_reader (change r) ≡ bare_reader (change (bare_reader r))) → (rs ts : List Reader) (n : ℕ) → SameReaders rs ts → SameReaders (slice_set rs n (change (reader_in rs n))) (slice_set ts n (change (reader_in ts n)))
change_reader_same change looks rs ts n e = set_reader_same rs ts n (change (reader_in rs n)) (change (reader_in ts n)) e (looks (reader_in rs n) ∙ ap (λ r. bare_reader (change r)) (reader_same rs ts n e) ∙ sym (looks (reader_in ts n)))

-- OUTCOMES

-- a choice by one test
pub if_alike : (b : Bool) (x x' y y' : Outcome) → Alike x x' → Alike y y' → Alike (if b then x else y) (if b then x' else y')
if_alike true x x' y y' e f = e
if_alike false x x' y y' e f = f

-- a choice by the same test
pub if_same_alike : (b c : Bool) (x x' y y' : Outcome) → b ≡ c → Alike x x' → Alike y y' → Alike (if b then x else y) (if c then x' else y')
if_same_alike b c x x' y y' same e f = subst (λ c. Alike (if b then x else y) (if c then x' else y')) same (if_alike b x x' y y' e f)

-- what is done after
pub then_alike : (x y : Outcome) (f g : World → Outcome) → Alike x y → ((a b : World) → AreAlike a b → Alike (f a) (g b)) → Alike (then_on x f) (then_on y g)
then_alike (Goes r a) (Goes r' b) f g e next = next a b e.1
then_alike (Goes r a) (Stops t us ts) f g e next = elim e [ ]
then_alike (Goes r a) Stuck f g e next = elim e [ ]
then_alike (Stops t ws rs) (Goes r b) f g e next = elim e [ ]
then_alike (Stops t ws rs) (Stops t' us ts) f g e next = e
then_alike (Stops t ws rs) Stuck f g e next = elim e [ ]
then_alike Stuck (Goes r b) f g e next = elim e [ ]
then_alike Stuck (Stops t us ts) f g e next = elim e [ ]
then_alike Stuck Stuck f g e next = tt
