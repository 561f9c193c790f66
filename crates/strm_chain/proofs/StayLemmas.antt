-- A step leaves the links as they are whose ends it does not name.
use Rattle.std.proofs.Common.{◌≡◌, ℕ, ◌+◌, ◌<◌, ◌≤◌, true, false, List, [], ◌++◌, length, Option, Some, None, refl, sym, ap, ◌∙◌, subst, inl, inr, arith}
use Rattle.std.specs.Prelude.{IsSome}
use Rattle.std.proofs.lemmas.Bool.{cases_lt}
use Rattle.std.proofs.lemmas.List.{get_or_past, append-nil}
use Rattle.strm_codes.specs.declared.codes.TransmitKind.{TransmitKind}
use Rattle.strm_codes.specs.declared.codes.TransmitKind.TheVariants.{Stream as AStream, Future}
use Rattle.strm_codes.specs.declared.payloads.Payload.{Payload}
use Rattle.strm_codes.specs.declared.payloads.Payload.TheVariants.{One}
use Rattle.strm_codes.specs.declared.scalars.Scalar.TheVariants.{U8}
use Rattle.strm_machine.specs.State.{State, Guest, memory_in, stream_at, no_stream, is_gone}
use Rattle.strm_machine.specs.Sides.{end_of}
use Rattle.strm_machine.specs.Soundness.{type_with, type_of}
use Rattle.strm_machine.specs.Moments.{Moment, is_named, got_in, items_in_memory, decoded, rise, received, target}
use Rattle.strm_machine.specs.Untouched.{LiesApart, put_by, StaysAside}
use Rattle.strm_machine.specs.declared.streams.Side.{Side}
use Rattle.strm_machine.specs.declared.streams.Side.TheVariants.{Writing, Reading}
use Rattle.strm_machine.specs.declared.streams.Operation.{Operation}
use Rattle.strm_machine.specs.declared.streams.Stream.{Stream}
use Rattle.strm_machine.proofs.Changes.{Scene, scene, Change}
use Rattle.strm_chain.specs.declared.workers.Worker.{Worker}
use Rattle.strm_chain.specs.Linking.{Sends, Takes}
use Rattle.strm_chain.specs.Playing.{ChainPlay, bytes_type}
use Rattle.strm_chain.specs.Flowing.{got_on}
use Rattle.strm_chain.specs.Keeping.{worker_at, Items, ArePlain, WritesOn, ReadsFrom, IsJoined}
use Rattle.strm_chain.specs.Stages.{work_begun}
use Rattle.strm_chain.proofs.UnnamedLemmas.{Still, Resting, Going, still}
use Rattle.strm_chain.proofs.RegionLemmas.{ReceivesLow, Nothing}
use Rattle.strm_chain.proofs.KeepLemmas.{low_unnamed, writer_keeps, reader_keeps}

-- ## Types

-- a stream of this type is a stream of bytes
pub type_parts : (kind : TransmitKind) (payload : Payload) → type_with kind payload ≡ bytes_type → (kind ≡ AStream) × (payload ≡ One U8)
type_parts AStream payload e = (refl, cc)
type_parts Future payload e = cc

pub payload_is : (state : State) (s : ℕ) → type_of (stream_at state s) ≡ bytes_type → (stream_at state s).payload ≡ One U8
payload_is state s e = (type_parts (stream_at state s).kind (stream_at state s).payload e).1

pub kind_is : (state : State) (s : ℕ) → type_of (stream_at state s) ≡ bytes_type → (stream_at state s).kind ≡ AStream
kind_is state s e = (type_parts (stream_at state s).kind (stream_at state s).payload e).0

-- ## Where nothing moves

some_none : {A : Type 0} (o : Option A) (x : A) → o ≡ Some x → o ≡ None → ⊥
some_none o x e f = let wrong : Some x ≡ None = sym e ∙ f in cc

-- an end without an operation has none after a step that does not name it
pub idle_stays : (side : Side) (v : Scene) → Still side v → (end_of side v.before).operation ≡ None → (end_of side v.after).operation ≡ None
idle_stays side v (Resting r) e = r.is
idle_stays side v (Going o p n x) e = absurd (some_none _ o x.was e)

-- it is not one that has some
pub no_operation : (o : Option Operation) → o ≡ None → IsSome o → ⊥
no_operation None e some = cc
no_operation (Some o) e some = cc

-- and one with an operation has one
pub busy_stays : (side : Side) (v : Scene) → Still side v → IsSome (end_of side v.before).operation → IsSome (end_of side v.after).operation
busy_stays side v (Resting r) some = absurd (no_operation _ r.was some)
busy_stays side v (Going o p n x) some = subst IsSome (sym x.is) refl

-- no item is received where no stream changes
nothing_got : (pay : Payload) (guests : List Guest) (g address n : ℕ) → n ≡ 0 → items_in_memory pay guests g address n ≡ []
unfolding decoded
nothing_got pay guests g address n e = ap (items_in_memory pay guests g address) e

pub got_none : (s : ℕ) (m : Moment) → m.after.streams ≡ m.before.streams → got_in s m ≡ []
got_none s m e =
    let same : received s m.after ≡ received s m.before = ap (λ xs. received s (record m.before { streams = xs })) e in
    nothing_got (stream_at m.before s).payload m.after.guests (target s m).guest (target s m).address (rise s m) (omega (arith, same))

-- ## Where a stream receives

-- a stream that was not made receives nothing
low_unmade : (m : Moment) (t : ℕ) → length m.before.streams ≤ t → Still Reading (scene t Reading m) → ReceivesLow m t
low_unmade m t l (Resting r) = Nothing (omega (arith, r.same))
low_unmade m t l (Going o p n x) =
    absurd (some_none _ o x.was (ap (λ (y : Stream). y.reader.operation) (get_or_past m.before.streams t no_stream l)))

-- in a chain, each stream whose read end is not named receives below byte 64 of the next guest
pub low_unless : (p : ChainPlay) (ws : List Worker) (m : Moment) (t : ℕ) → m.before ≡ p.state → IsJoined p ws → Change Reading (scene t Reading m) → is_named t Reading m ≡ false → ReceivesLow m t
low_unless p ws m t e j change unnamed =
    elim (cases_lt t (length m.before.streams)) [
      | inl l ↦ (let at = j.joins t (omega (arith, j.streams, ap (λ (x : State). length x.streams) e, l)) in
          low_unnamed t (work_begun (worker_at ws (t + 1)).work.stage) (worker_at ws (t + 1)).work (worker_at ws (t + 1)).made m (got_on p.steps t)
          (ap (λ x. (stream_at x t).payload) e ∙ payload_is p.state t at.typed) unnamed (still t Reading m unnamed change)
          (subst (λ x. Takes (t + 1) 0 (work_begun (worker_at ws (t + 1)).work.stage) (worker_at ws (t + 1)).work (worker_at ws (t + 1)).made (memory_in x.guests (t + 1)) (stream_at x t).reader.operation (got_on p.steps t)) (sym e) at.reads.takes))
      | inr l ↦ low_unmade m t l (still t Reading m unnamed change)
    ]

-- ## The two sides of a stream

-- a guest that writes, where the step puts nothing where it writes from
module _ (m : Moment) (s : ℕ) (w : Worker) (got new : Items) (ty : type_of (stream_at m.before s) ≡ bytes_type)
    (change : Change Writing (scene s Writing m)) (unnamed : is_named s Writing m ≡ false) (aside : StaysAside m)
    (there : s < length m.before.guests)
    (put : (c : ℕ) → LiesApart (record { place = record { guest = s; address = 64 }; size = c }) (put_by m.act m.reply)) where
  pub writes_stay : ((t : ℕ) → ReceivesLow m t) → (stream_at m.after s).writer.owner ≡ (stream_at m.before s).writer.owner → (stream_at m.after s).writer.told ≡ (stream_at m.before s).writer.told → new ≡ got ++ got_in s m → WritesOn s w m.before got → WritesOn s w m.after new
  writes_stay low owner told e h = record {
    handle = h.handle;
    has = h.has;
    owner = λ n. owner ∙ h.owner n;
    sends = subst (Sends s 64 w.sent w.made (memory_in m.after.guests s) (stream_at m.after s).writer.operation) (sym e)
        (writer_keeps m s w.sent w.made got (payload_is m.before s ty) unnamed change aside there put low h.sends);
    idle = λ n. idle_stays Writing (scene s Writing m) (still s Writing m unnamed change) (h.idle n);
    busy = λ e. busy_stays Writing (scene s Writing m) (still s Writing m unnamed change) (h.busy e);
    gone = λ e. ap is_gone owner ∙ h.gone e;
    untold = told ∙ h.untold;
    over = h.over;
  }

-- a guest that writes but has no write that waits, whatever is put into its memory
module _ (m : Moment) (s : ℕ) (w : Worker) (got new : Items)
    (change : Change Writing (scene s Writing m)) (unnamed : is_named s Writing m ≡ false)
    (none : (stream_at m.before s).writer.operation ≡ None)
    (owner : (stream_at m.after s).writer.owner ≡ (stream_at m.before s).writer.owner)
    (told : (stream_at m.after s).writer.told ≡ (stream_at m.before s).writer.told) where
  pub writes_idle : new ≡ got ++ got_in s m → WritesOn s w m.before got → WritesOn s w m.after new
  writes_idle e h = by (still s Writing m unnamed change)
    where
      by : Still Writing (scene s Writing m) → WritesOn s w m.after new
      by (Going o p n x) = absurd (some_none _ o x.was none)
      by (Resting r) =
          let old : Sends s 64 w.sent w.made (memory_in m.before.guests s) None got = subst (λ o. Sends s 64 w.sent w.made (memory_in m.before.guests s) o got) none h.sends in
          record {
            handle = h.handle;
            has = h.has;
            owner = λ n. owner ∙ h.owner n;
            sends = subst (Sends s 64 w.sent w.made (memory_in m.after.guests s) (stream_at m.after s).writer.operation) (sym (e ∙ ap (λ x. got ++ x) r.nothing ∙ append-nil got))
                (subst (λ o. Sends s 64 w.sent w.made (memory_in m.after.guests s) o got) (sym r.is) (record { front = old.front; within = old.within; offers = tt }));
            idle = λ n. r.is;
            busy = λ e. absurd (no_operation _ none (h.busy e));
            gone = λ e. ap is_gone owner ∙ h.gone e;
            untold = told ∙ h.untold;
            over = h.over;
          }

-- a guest that reads, where the step puts nothing below byte 64 of its memory
module _ (m : Moment) (s : ℕ) (w : Worker) (got new : Items) (ty : type_of (stream_at m.before s) ≡ bytes_type)
    (change : Change Reading (scene s Reading m)) (unnamed : is_named s Reading m ≡ false) (aside : StaysAside m)
    (there : s + 1 < length m.before.guests)
    (put : (c : ℕ) → c ≤ 64 → LiesApart (record { place = record { guest = s + 1; address = 0 }; size = c }) (put_by m.act m.reply))
    (low : (t : ℕ) → ReceivesLow m t)
    (owner : (stream_at m.after s).reader.owner ≡ (stream_at m.before s).reader.owner)
    (gone : is_gone (stream_at m.before s).writer.owner ≡ true → is_gone (stream_at m.after s).writer.owner ≡ true) where
  pub reads_stay : (ArePlain (stream_at m.before s) → ArePlain (stream_at m.after s)) → (stream_at m.after s).reader.told ≡ (stream_at m.before s).reader.told → new ≡ got ++ got_in s m → ReadsFrom s w m.before got → ReadsFrom s w m.after new
  reads_stay plain told e h = record {
    handle = h.handle;
    has = h.has;
    owner = owner ∙ h.owner;
    takes = subst (Takes (s + 1) 0 (work_begun w.work.stage) w.work w.made (memory_in m.after.guests (s + 1)) (stream_at m.after s).reader.operation) (sym e)
        (reader_keeps m s (work_begun w.work.stage) w.work w.made got (payload_is m.before s ty) unnamed change aside there put low h.takes);
    idle = λ n. idle_stays Reading (scene s Reading m) (still s Reading m unnamed change) (h.idle n);
    busy = λ e. busy_stays Reading (scene s Reading m) (still s Reading m unnamed change) (h.busy e);
    unclosed = h.unclosed;
    untold = λ c. told ∙ h.untold c;
    plain = plain h.plain;
    gone = λ c. gone (h.gone c);
  }
