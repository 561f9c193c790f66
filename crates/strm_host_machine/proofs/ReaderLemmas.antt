-- A host reader among the others: what it is to the machine, and where it was polled, granted or closed.
use Rattle.std.proofs.Common.{◌≡◌, ℕ, zero, suc, ◌+◌, ◌<◌, ◌≤◌, Bool, true, false, ◌&&◌, ◌||◌, not, cond, List, [], ◌∷◌, ◌++◌, length, drop, Option, refl, sym, ap, subst, ◌∙◌, append-nil, arith}
use Rattle.std.specs.Prelude.{slice_set, slice_index_or, map, nat_lt}
use Rattle.std.specs.Option.{option_map}
use Rattle.std.proofs.lemmas.List.{length-append}
use Rattle.std.proofs.lemmas.Bool.{eq-eqb}
use Rattle.std.proofs.lemmas.Bool.Decides.{nat_tests}
use Rattle.strm_codes.specs.declared.codes.TransmitKind.{TransmitKind}
use Rattle.strm_codes.specs.declared.payloads.Payload.{Payload}
use Rattle.strm_buffers.specs.declared.answers.Answer.{Answer}
use Rattle.strm_buffers.specs.declared.answers.Answer.TheVariants.{Failed}
use Rattle.strm_buffers.specs.declared.answers.ReaderSaid.{ReaderSaid}
use Rattle.strm_buffers.specs.Listing.{Item}
use Rattle.strm_buffers.specs.Tells.{Heard, ReaderTells, Tells, no_reader_tells, PollsReader, RisesOnFailed, reader_tells_closed as closed_tells, reader_granted, told_by_reader, with_told_reader}
use Rattle.strm_machine.specs.State.{State, consumer_at}
use Rattle.strm_machine.specs.declared.streams.Consumer.{Consumer}
use Rattle.strm_machine.specs.declared.streams.Duty.TheVariants.{Ended}
use Rattle.strm_machine.specs.declared.streams.HostEnd.{HostEnd}
use Rattle.strm_machine.specs.declared.streams.HostEnd.TheVariants as ends
use Rattle.strm_host_machine.specs.Ends.{Reader, reader_in, polled_reader, closed_reader, granted_reader}
use Rattle.strm_host_machine.specs.World.{World, stream_in, reader_at, with_reader, without_reader}
use Rattle.strm_host_machine.specs.Outcomes.{Stuck}
use Rattle.strm_host_machine.specs.Polls.{AfterReader, is_reader_poll, are_items, tells_truly, reader_judged, reader_says, polls_reader}
use Rattle.strm_host_machine.specs.Does.{Logs, LogBegins, AllBegin, Extends, first_log, reader_of, readers_from, world_of, faults_of, Answered, Gives, Caused, Does}
use Rattle.strm_host_machine.proofs.WorldLemmas.{drop_one, coming-next, begins-before}
use Rattle.strm_host_machine.proofs.GrowLemmas.{Follows, Part, Does-follows}

-- ## What it is to the machine

pub readers_from-set : (rs : List ReaderTells) (logs : List (List ReaderSaid)) (n : ℕ) (r : ReaderTells)
    → n < length rs → readers_from (slice_set rs n r) logs ≡ slice_set (readers_from rs logs) n (reader_of r (first_log (drop n logs)))
readers_from-set [] logs n r l = refl
readers_from-set (x ∷ rs) logs zero r l = refl
readers_from-set (x ∷ rs) logs (suc n) r l =
    ap (λ more. reader_of x (first_log logs) ∷ more)
    (readers_from-set rs (drop 1 logs) n r (omega (arith, l))
    ∙ ap (λ d. slice_set (readers_from rs (drop 1 logs)) n (reader_of r (first_log d))) (drop_one n logs))

pub reader_in-from : (rs : List ReaderTells) (logs : List (List ReaderSaid)) (n : ℕ) (d : ReaderTells)
    → n < length rs → reader_in (readers_from rs logs) n ≡ reader_of (slice_index_or rs n d) (first_log (drop n logs))
reader_in-from [] logs n d l = absurd (omega (arith, l))
reader_in-from (x ∷ rs) logs zero d l = refl
reader_in-from (x ∷ rs) logs (suc n) d l =
    reader_in-from rs (drop 1 logs) n d (omega (arith, l))
    ∙ ap (λ k. reader_of (slice_index_or rs n d) (first_log k)) (drop_one n logs)

pub length-readers_from : (rs : List ReaderTells) (logs : List (List ReaderSaid)) → length (readers_from rs logs) ≡ length rs
length-readers_from [] logs = refl
length-readers_from (x ∷ rs) logs = ap suc (length-readers_from rs (drop 1 logs))

module _ (state : State) (tells : Tells) (logs : Logs) (r : ℕ) (there : r < length tells.readers) where
  pub reader_at-from : reader_at (world_of state tells logs) r ≡ reader_of (told_by_reader tells r) (first_log (drop r logs.readers))
  reader_at-from = reader_in-from tells.readers logs.readers r no_reader_tells there

  pub with_reader-from : (t : ReaderTells) → with_reader (world_of state tells logs) r (reader_of t (first_log (drop r logs.readers))) ≡ world_of state (with_told_reader tells r t) logs
  with_reader-from t = ap (λ rs. record (world_of state tells logs) { readers = rs }) (sym (readers_from-set tells.readers logs.readers r t there))

-- ## One that told more

-- more records, and no fault less
pub record GrowsReader (old new : ReaderTells) : Type 0 where
  pub more : List ReaderSaid
  pub said : new.said ≡ old.said ++ more
  pub faults : old.faults ≤ new.faults

rises_at_most : (answer : Answer) (a b : ℕ) → RisesOnFailed answer a b → a ≤ b
rises_at_most Failed a b r = grind (arith, nat_tests)
rises_at_most _ a b r = r

pub grows-polled_reader : (old new : ReaderTells) (said : ReaderSaid) (took : List Item) → PollsReader old new said took → GrowsReader old new
grows-polled_reader old new said took p = record { more = said ∷ []; said = p.said_more; faults = rises_at_most said.answer old.faults new.faults p.faults }

pub grows-same_reader : (old new : ReaderTells) → new.said ≡ old.said → old.faults ≤ new.faults → GrowsReader old new
grows-same_reader old new e f = record { more = []; said = e ∙ sym (append-nil old.said); faults = f }

begin_before : (rs : List ReaderTells) (logs : List (List ReaderSaid)) (n : ℕ) (t : ReaderTells) → GrowsReader (slice_index_or rs n no_reader_tells) t
    → AllBegin (map (λ v. v.said) (slice_set rs n t)) logs → AllBegin (map (λ v. v.said) rs) logs
begin_before [] logs n t g b = b
begin_before (x ∷ rs) [] zero t g b = b
begin_before (x ∷ rs) [] (suc n) t g b = b
begin_before (x ∷ rs) (log ∷ logs) zero t g b = (begins-before x.said g.more log (subst (λ xs. LogBegins xs log) g.said b.0), b.1)
begin_before (x ∷ rs) (log ∷ logs) (suc n) t g b = (b.0, begin_before rs logs n t g b.1)

-- the log of the one that told more begins with what it said
pub begins-told_reader : (rs : List ReaderTells) (logs : List (List ReaderSaid)) (n : ℕ) (t : ReaderTells) → n < length rs
    → AllBegin (map (λ v. v.said) (slice_set rs n t)) logs → LogBegins t.said (first_log (drop n logs))
begins-told_reader [] logs n t l b = absurd (omega (arith, l))
begins-told_reader (x ∷ rs) [] zero t l b = absurd b
begins-told_reader (x ∷ rs) [] (suc n) t l b = absurd b
begins-told_reader (x ∷ rs) (log ∷ logs) zero t l b = b.0
begins-told_reader (x ∷ rs) (log ∷ logs) (suc n) t l b = begins-told_reader rs logs n t (omega (arith, l)) b.1

pub told_by_reader-told : (rs : List ReaderTells) (n : ℕ) (t d : ReaderTells) → n < length rs → slice_index_or (slice_set rs n t) n d ≡ t
told_by_reader-told [] n t d l = absurd (omega (arith, l))
told_by_reader-told (x ∷ rs) zero t d l = refl
told_by_reader-told (x ∷ rs) (suc n) t d l = told_by_reader-told rs n t d (omega (arith, l))

faults_set : (rs : List ReaderTells) (n m : ℕ) (t : ReaderTells) → (slice_index_or rs n no_reader_tells).faults ≤ t.faults
    → (slice_index_or rs m no_reader_tells).faults ≤ (slice_index_or (slice_set rs n t) m no_reader_tells).faults
faults_set [] n m t h = omega arith
faults_set (x ∷ rs) zero zero t h = h
faults_set (x ∷ rs) zero (suc m) t h = omega arith
faults_set (x ∷ rs) (suc n) zero t h = omega arith
faults_set (x ∷ rs) (suc n) (suc m) t h = faults_set rs n m t h

faults_told : (tells : Tells) (r : ℕ) (t : ReaderTells) → (told_by_reader tells r).faults ≤ t.faults → (end : HostEnd) → faults_of tells end ≤ faults_of (with_told_reader tells r t) end
faults_told tells r t h (ends.Writer m) = omega arith
faults_told tells r t h (ends.Reader m) = faults_set tells.readers r m t h

pub follows-told_reader : (tells : Tells) (r : ℕ) (t : ReaderTells) → r < length tells.readers → GrowsReader (told_by_reader tells r) t → Follows tells (with_told_reader tells r t)
follows-told_reader tells r t there g = record {
  begins = λ logs e. (e.0, begin_before tells.readers logs.readers r t g e.1);
  supplied = λ first s. s;
  faults = faults_told tells r t g.faults;
}

module _ (old new : State) (tells : Tells) (r : ℕ) (t : ReaderTells) (result : Answered) (machine : Part) (there : r < length tells.readers) where
  -- what the machine does, on whatever is yet to come
  abbrev pub AllGiveReader : Type 0
  AllGiveReader = (logs : Logs) → Extends (with_told_reader tells r t) logs → Gives result (world_of new (with_told_reader tells r t) logs) (machine (world_of old tells logs))

  -- a call in which one reader told more
  pub Does-told_reader : GrowsReader (told_by_reader tells r) t → AllGiveReader → Caused result tells (with_told_reader tells r t) → Does old new tells (with_told_reader tells r t) result machine
  Does-told_reader g gives cause =
      Does-follows old new tells (with_told_reader tells r t) result machine (follows-told_reader tells r t there g) gives cause

-- ## A poll

abbrev reader_made : TransmitKind → Payload → Option (List Item) → List ReaderSaid → ℕ → Bool → Heard ℕ → Reader
reader_made k p h c n b x = record { kind = k; payload = p; holds = h; coming = c; spoken = n; closed = b; heard = x }

same_reader : {k l : TransmitKind} {p q : Payload} {h i : Option (List Item)} {c : List ReaderSaid} {m n : ℕ} {a b : Bool} {x y : Heard ℕ} → k ≡ l → p ≡ q → h ≡ i → m ≡ n → a ≡ b → x ≡ y
    → reader_made k p h c m a x ≡ reader_made l q i c n b y
same_reader e f g h i j = cc

pub polled-reader_of : (old new : ReaderTells) (said : ReaderSaid) (took : List Item) (log : List ReaderSaid) → PollsReader old new said took
    → reader_of new log ≡ polled_reader (reader_of old log) took (drop (length new.said) log)
polled-reader_of old new said took log p =
    let kind : new.kind ≡ old.kind = p.kind in
    let payload : new.payload ≡ old.payload = p.payload in
    let holds : new.holds ≡ option_map (λ xs. xs ++ took) old.holds = p.holds in
    let spoken : length new.said ≡ length old.said + 1 = ap length p.said_more ∙ length-append old.said (said ∷ []) in
    let closed : new.closed ≡ old.closed = p.closed in
    let heard : new.heard ≡ old.heard = p.heard in
    same_reader kind payload holds spoken closed heard

-- the item behind so many of those that were offered is one of them, and is none
pub record IsBadNext (offered : ℕ) (first : ℕ → List Item) (n : ℕ) : Type 0 where
  pub within : n < offered
  pub bad : are_items first (n + 1) ≡ false

-- so what a record tells of them
true_bad : (offered : ℕ) (first : ℕ → List Item) (n : ℕ) (bad : Bool) → (bad ≡ true → IsBadNext offered first n) → not bad || (nat_lt n offered && not (are_items first (n + 1))) ≡ true
true_bad offered first n false h = refl
true_bad offered first n true h =
    let within = (h refl).within in
    let inside : nat_lt n offered ≡ true = grind (arith, nat_tests) in
    rw (inside, (h refl).bad) refl

pub truly : (offered : ℕ) (first : ℕ → List Item) (said : ReaderSaid) → said.taken ≡ length (first said.taken) → (said.bad ≡ true → IsBadNext offered first said.taken) → tells_truly offered first said ≡ true
truly offered first said taken next =
    ap (λ b. b && (not said.bad || (nat_lt said.taken offered && not (are_items first (said.taken + 1))))) (eq-eqb (length (first said.taken)) said.taken (sym taken))
    ∙ true_bad offered first said.taken said.bad next

-- a poll of host reader r that was offered so many items, of which these are the first so many, and that
-- added this record
pub record IsReaderPolled (state : State) (tells : Tells) (logs : Logs) (r offered : ℕ) (finish : Bool) (first : ℕ → List Item) (said : ReaderSaid) (t : ReaderTells) : Type 0 where
  pub took : List Item
  pub there : r < length tells.readers
  pub polls : PollsReader (told_by_reader tells r) t said took
  pub taken : first said.taken ≡ took
  pub asked : is_reader_poll offered (consumer_at state r).since finish said ≡ true
  pub next : said.bad ≡ true → IsBadNext offered first said.taken
  pub begins : LogBegins t.said (first_log (drop r logs.readers))

module _ (state : State) (tells : Tells) (logs : Logs) (r offered : ℕ) (finish : Bool) (first : ℕ → List Item) (said : ReaderSaid) (t : ReaderTells) (h : IsReaderPolled state tells logs r offered finish first said t) where
  abbrev log : List ReaderSaid
  log = first_log (drop r logs.readers)

  abbrev more : List ReaderSaid
  more = drop (length t.said) log

  abbrev before : World
  before = world_of state tells logs

  next_is : (reader_at before r).coming ≡ said ∷ more
  next_is =
      ap (λ (x : Reader). x.coming) (reader_at-from state tells logs r h.there)
      ∙ coming-next (told_by_reader tells r).said log said (subst (λ xs. LogBegins xs log) h.polls.said_more h.begins)
      ∙ ap (λ (xs : List ReaderSaid). said ∷ drop (length xs) log) (sym h.polls.said_more)

  end_is : polled_reader (reader_at before r) (first said.taken) more ≡ reader_of t log
  end_is =
      ap (λ x. polled_reader x (first said.taken) more) (reader_at-from state tells logs r h.there)
      ∙ ap (λ xs. polled_reader (reader_of (told_by_reader tells r) log) xs more) h.taken
      ∙ sym (polled-reader_of (told_by_reader tells r) t said h.took log h.polls)

  world_is : with_reader before r (polled_reader (reader_at before r) (first said.taken) more) ≡ world_of state (with_told_reader tells r t) logs
  world_is = ap (λ v. with_reader before r v) end_is ∙ with_reader-from state tells logs r h.there t

  -- what follows is what is judged of the record, with the box as it is then
  pub polls_reader-box : (s : ℕ) (next : AfterReader)
      → polls_reader before s r offered finish first next ≡ reader_judged (world_of state (with_told_reader tells r t) logs) (stream_in before s).kind s r said next
  polls_reader-box s next =
      ap (λ rs. reader_says before s r offered finish first rs next) next_is
      ∙ ap (λ b. cond (b && tells_truly offered first said) (reader_judged (with_reader before r (polled_reader (reader_at before r) (first said.taken) more)) (stream_in before s).kind s r said next) Stuck) h.asked
      ∙ ap (λ b. cond b (reader_judged (with_reader before r (polled_reader (reader_at before r) (first said.taken) more)) (stream_in before s).kind s r said next) Stuck) (truly offered first said (h.polls.taken ∙ ap length (sym h.taken)) h.next)
      ∙ ap (λ v. reader_judged v (stream_in before s).kind s r said next) world_is

-- ## A close

-- what is kept of a host reader that is gone
abbrev pub ended_consumer : State → ℕ → Consumer
ended_consumer state r = record (consumer_at state r) { duty = Ended }

-- the state in which host reader r is gone
abbrev pub ended_reader_in : State → ℕ → State
ended_reader_in state r = record state { consumers = slice_set state.consumers r (ended_consumer state r) }

-- what the store keeps of it and the box changed together
pub without_reader-box : (state : State) (tells : Tells) (logs : Logs) (r : ℕ) → r < length tells.readers
    → without_reader (world_of state tells logs) r ≡ world_of (ended_reader_in state r) (with_told_reader tells r (closed_tells (told_by_reader tells r))) logs
without_reader-box state tells logs r there =
    ap (λ x. with_reader (world_of (ended_reader_in state r) tells logs) r (closed_reader x)) (reader_at-from state tells logs r there)
    ∙ with_reader-from (ended_reader_in state r) tells logs r there (closed_tells (told_by_reader tells r))

-- ## A grant

-- what host ends tell once host reader r took a grant
abbrev pub told_granted : Tells → ℕ → ℕ → Tells
told_granted tells r count = with_told_reader tells r (reader_granted (told_by_reader tells r) count)

pub reader_granted-box : (state : State) (tells : Tells) (logs : Logs) (r count : ℕ) → r < length tells.readers
    → with_reader (world_of state tells logs) r (granted_reader (reader_at (world_of state tells logs) r) count) ≡ world_of state (told_granted tells r count) logs
reader_granted-box state tells logs r count there =
    ap (λ x. with_reader (world_of state tells logs) r (granted_reader x count)) (reader_at-from state tells logs r there)
    ∙ with_reader-from state tells logs r there (reader_granted (told_by_reader tells r) count)
