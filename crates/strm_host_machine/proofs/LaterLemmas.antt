-- What host ends and streams may come to within a step: records are used, in order, and what they say.
use Rattle.std.proofs.Common.{◌≡◌, ◌≢◌, ◌==◌, ℕ, zero, suc, List, [], ◌∷◌, ◌++◌, get_or, set, Option, Some, refl, sym, ◌∙◌, append_assoc}
use Rattle.std.proofs.lemmas.Bool.{cond_both}
use Rattle.strm_machine.specs.Sides.{opposite, with_operation}
use Rattle.strm_machine.specs.declared.stops.Stop.{Stop}
use Rattle.strm_machine.specs.declared.streams.Operation.{Operation}
use Rattle.strm_machine.specs.declared.streams.Owner.TheVariants.{Host, Gone}
use Rattle.strm_machine.specs.declared.streams.Side.{Side}
use Rattle.strm_machine.specs.declared.streams.Side.TheVariants.{Writing, Reading}
use Rattle.strm_machine.specs.declared.streams.Stream.{Stream}
use Rattle.strm_host_machine.specs.World.{World, stream_in, writer_at, reader_at}
use Rattle.strm_host_machine.specs.Ends.{Writer, Reader}
use Rattle.strm_host_machine.specs.Settling.{went, operation_settled, let_go, moved_on, with_some_received}
use Rattle.strm_host_machine.specs.Attaching.{without_ends}
use Rattle.std.specs.Prelude.{All}
use Rattle.std.proofs.lemmas.List.Elements.{All-nil, All-push}
use Rattle.strm_host_machine.specs.LastRecord.{KeepsRules, ReaderKeepsRules, SaysWhy, ReaderSaysWhy}
use Rattle.strm_codes.specs.declared.codes.StreamResult.{StreamResult}
use Rattle.strm_machine.specs.Moves.{with_owner}
use Rattle.strm_machine.specs.Operating.{with_received}
use Rattle.strm_codes.specs.declared.codes.StreamResult.TheVariants as results

-- LISTS

-- these are behind others, of each of which this holds
abbrev pub Used : {A : Type 0} → (A → Type 0) → List A → List A → Type 0
Used {A} P all rest = (front : List A) × (all ≡ front ++ rest) × All P front

-- behind those stands one more, of which that holds
abbrev pub UsedLast : {A : Type 0} → (A → Type 0) → (A → Type 0) → List A → List A → Type 0
UsedLast {A} P Q all rest = (front : List A) × (said : A) × (all ≡ front ++ said ∷ rest) × All P front × Q said

-- and before them stands one of which this holds
abbrev pub Behind_one : {A : Type 0} → (A → Type 0) → List A → List A → Type 0
Behind_one {A} P all rest = (front : List A) × (said : A) × (all ≡ front ++ said ∷ rest) × P said

pub used_more : {A : Type 0} (P : A → Type 0) (all rest : List A) (said : A) → P said → Used P all (said ∷ rest) → Used P all rest
used_more P all rest said p b = (b.0 ++ said ∷ [], b.1 ∙ sym (append_assoc b.0 (said ∷ []) rest), All-push P b.0 said b.2 p)

-- what holds of each place, and of what is put to one
pub all-set : {A : Type 0} (P : ℕ → A → Type 0) (d : A) (xs : List A) (n : ℕ) (x : A) → ((k : ℕ) → P k (get_or xs k d)) → P n x → (k : ℕ) → P k (get_or (set xs n x) k d)
all-set P d [] n x h p k = h k
all-set P d (y ∷ ys) zero x h p zero = p
all-set P d (y ∷ ys) zero x h p (suc k) = h (suc k)
all-set P d (y ∷ ys) (suc n) x h p zero = h zero
all-set P d (y ∷ ys) (suc n) x h p (suc k) = all-set (λ j. P (suc j)) d ys n x (λ j. h (suc j)) p k

-- what is put where something stands is there
pub set-there : {A B : Type 0} (f : A → List B) (d : A) (xs : List A) (n : ℕ) (x : A) (b : B) (more : List B) → f (get_or xs n d) ≡ b ∷ more → f d ≡ [] → f (get_or (set xs n x) n d) ≡ f x
set-there f d [] n x b more e h = absurd (let wrong = sym h ∙ e in cc)
set-there f d (y ∷ ys) zero x b more e h = refl
set-there f d (y ∷ ys) (suc n) x b more e h = set-there f d ys n x b more e h

-- WHAT STAYS IN A STEP

-- a host writer of the same kind, some of whose records were used, and kept the rules
pub record WriterLater (old new : Writer) : Type 0 where
  pub coming : Used (KeepsRules old.kind) old.coming new.coming
  pub kind : new.kind ≡ old.kind

-- the same of a host reader
pub record ReaderLater (old new : Reader) : Type 0 where
  pub coming : Used (ReaderKeepsRules old.kind) old.coming new.coming
  pub kind : new.kind ≡ old.kind

-- a stream of the same kind, which no host end got
pub record StreamLater (old new : Stream) : Type 0 where
  pub kind : new.kind ≡ old.kind
  pub writer : (n : ℕ) → new.writer.owner ≡ Host n → old.writer.owner ≡ Host n
  pub reader : (r : ℕ) → new.reader.owner ≡ Host r → old.reader.owner ≡ Host r

-- a host writer of which one more was used, which says why the step stops
pub record WriterStopsSo (stop : Stop) (n : ℕ) (old new : Writer) : Type 0 where
  pub coming : UsedLast (KeepsRules old.kind) (SaysWhy stop n old.kind) old.coming new.coming
  pub kind : new.kind ≡ old.kind

-- the same of a host reader
pub record ReaderStopsSo (stop : Stop) (r : ℕ) (old new : Reader) : Type 0 where
  pub coming : UsedLast (ReaderKeepsRules old.kind) (ReaderSaysWhy stop r old.kind) old.coming new.coming
  pub kind : new.kind ≡ old.kind

-- host ends later in the same step
pub record EndsLater (first w : World) : Type 0 where
  pub writers : (n : ℕ) → WriterLater (writer_at first n) (writer_at w n)
  pub readers : (r : ℕ) → ReaderLater (reader_at first r) (reader_at w r)

-- a world later in the same step
pub record IsLater (first w : World) : Type 0 where
  pub writers : (n : ℕ) → WriterLater (writer_at first n) (writer_at w n)
  pub readers : (r : ℕ) → ReaderLater (reader_at first r) (reader_at w r)
  pub streams : (s : ℕ) → StreamLater (stream_in first s) (stream_in w s)

-- host ends are of the kinds of their streams
pub record EndsFit (w : World) : Type 0 where
  pub writers : (n s : ℕ) → (stream_in w s).writer.owner ≡ Host n → (writer_at w n).kind ≡ (stream_in w s).kind
  pub readers : (r s : ℕ) → (stream_in w s).reader.owner ≡ Host r → (reader_at w r).kind ≡ (stream_in w s).kind

pub itself_later : (w : World) → IsLater w w
itself_later w = record {
  writers = λ n. record { coming = ([], refl, All-nil (KeepsRules (writer_at w n).kind)); kind = refl };
  readers = λ r. record { coming = ([], refl, All-nil (ReaderKeepsRules (reader_at w r).kind)); kind = refl };
  streams = λ s. record { kind = refl; writer = λ n e. e; reader = λ r e. e };
}

pub stream_twice : (a b c : Stream) → StreamLater a b → StreamLater b c → StreamLater a c
stream_twice a b c h k = record {
  kind = k.kind ∙ h.kind;
  writer = λ n e. h.writer n (k.writer n e);
  reader = λ r e. h.reader r (k.reader r e);
}

pub no_owner : (n : ℕ) → Gone ≢ Host n
no_owner n = λ e. cc

-- an end that is gone is no host end's
pub gone_later : (side : Side) (stream : Stream) → StreamLater stream (with_owner side stream Gone)
gone_later Writing stream = record { kind = refl; writer = λ n e. absurd (no_owner n e); reader = λ r e. e }
gone_later Reading stream = record { kind = refl; writer = λ n e. e; reader = λ r e. absurd (no_owner r e) }

pub operation_later : (side : Side) (stream : Stream) (operation : Operation) → StreamLater stream (with_operation side stream operation)
operation_later Writing stream operation = record { kind = refl; writer = λ n e. e; reader = λ r e. e }
operation_later Reading stream operation = record { kind = refl; writer = λ n e. e; reader = λ r e. e }

pub received_later : (stream : Stream) (n : ℕ) → StreamLater stream (with_some_received stream n)
received_later stream n =
    cond_both (n == 0) stream (with_received stream n) (StreamLater stream)
    (λ e. record { kind = refl; writer = λ k f. f; reader = λ k f. f })
    (λ e. record { kind = refl; writer = λ k f. f; reader = λ k f. f })

pub let_go_later : (side : Side) (result : Option StreamResult) (stream : Stream) → StreamLater stream (let_go side result stream)
let_go_later side (Some results.Dropped) stream = gone_later side stream
let_go_later side _ stream = record { kind = refl; writer = λ n e. e; reader = λ r e. e }

pub moved_later : (side : Side) (stream : Stream) (operation : Operation) (n : ℕ) (result : Option StreamResult) → StreamLater stream (moved_on side stream operation n result)
unfolding moved_on
moved_later side stream operation n result =
    let received = with_some_received stream n in
    let moved = with_operation side received (operation_settled result (went stream.payload operation n)) in
    stream_twice _ received _ (received_later stream n)
    (stream_twice received moved _ (operation_later side received _) (let_go_later (opposite side) result moved))

pub without_ends_later : (stream : Stream) → StreamLater stream (without_ends stream)
without_ends_later stream =
    let unread = with_owner Reading stream Gone in
    stream_twice _ unread _ (gone_later Reading stream) (gone_later Writing unread)
