-- A call that drops an end: what the machine does without host ends, and then the host end on the other
-- side goes.
use Rattle.std.proofs.Common.{◌≡◌, ℕ, ◌<◌, Bool, true, false, cond, List, length, get_or, set, Ok, refl, sym, ap, subst, ◌∙◌}
use Rattle.std.proofs.lemmas.List.{length-set, get_or-set_same}
use Rattle.strm_buffers.specs.Tells.{Tells}
use Rattle.strm_machine.specs.State.{State, no_stream, stream_at, is_host}
use Rattle.strm_machine.specs.Endings.{dropped}
use Rattle.strm_machine.specs.Moves.{with_owner, without_handle}
use Rattle.strm_machine.specs.Tests.{named, stream_named}
use Rattle.strm_machine.specs.Sides.{opposite, end_of}
use Rattle.strm_machine.specs.Refusals.{refusal}
use Rattle.strm_machine.specs.Reactions.{Reaction, goes, drops, closes, with_stream_at, performs, reaction}
use Rattle.strm_machine.specs.Soundness.{IsSound}
use Rattle.strm_machine.specs.declared.acts.Act.{Act}
use Rattle.strm_machine.specs.declared.acts.Act.TheVariants.{OnEnd, OnLoose}
use Rattle.strm_machine.specs.declared.acts.EndAct.TheVariants.{Drop}
use Rattle.strm_machine.specs.declared.acts.LooseAct.TheVariants.{Close}
use Rattle.strm_machine.specs.declared.acts.NamedEnd.{NamedEnd}
use Rattle.strm_machine.specs.declared.replies.Reply.TheVariants as replies
use Rattle.strm_machine.specs.declared.streams.Owner.TheVariants.{Gone}
use Rattle.strm_machine.specs.declared.streams.Side.{Side}
use Rattle.strm_machine.specs.declared.streams.Side.TheVariants.{Writing, Reading}
use Rattle.strm_machine.specs.declared.streams.Stream.{Stream}
use Rattle.strm_machine.proofs.ReactionLemmas.{performs-on_end}
use Rattle.strm_host_machine.specs.World.{World, with_stream_in}
use Rattle.strm_host_machine.specs.Outcomes.{Goes, done, then_on, reacted}
use Rattle.strm_host_machine.specs.Attaching.{forsaken, forsakes}
use Rattle.strm_host_machine.specs.Steps.{reacts, drops_in, performs_in, touches}
use Rattle.strm_host_machine.specs.Does.{Logs, world_of, Fits, Does}
use Rattle.strm_host_machine.proofs.DoesLemmas.{Does-untold, Does-then}
use Rattle.strm_host_machine.proofs.OutcomeLemmas.{refusal_in-on_end, refusal_in-on_loose}
use Rattle.strm_host_machine.proofs.ReactedLemmas.{world_of-state}
use Rattle.strm_transmit.specs.Inside.{AreServed}
use Rattle.strm_transmit.specs.Hosted.{lone, forsaken_in, MeetsHosted, MayBeDone}
use Rattle.strm_transmit.proofs.StepLemmas.{IsAdmitted, reacts as reacts_to}
use Rattle.strm_transmit.proofs.ForsakeLemmas.{without_end}
use Rattle.strm_transmit.proofs.FitsLemmas.{KeepsTypes, Fits-kept, reaction-types}
use Rattle.strm_transmit.proofs.HostStepLemmas.{PerformsAs, does_admitted}

-- the end on the other side of a stream of which the end on a side was dropped stays
abbrev pub OtherStays : Side → Stream → Stream → Type 0
OtherStays side before after = (end_of (opposite side) after).owner ≡ (end_of (opposite side) before).owner

other_stays : (side : Side) (stream : Stream) → OtherStays side stream (with_owner side stream Gone)
other_stays Writing stream = refl
other_stays Reading stream = refl

pub other_after : (side : Side) (streams : List Stream) (s : ℕ) → s < length streams → OtherStays side (get_or streams s no_stream) (get_or (set streams s (with_owner side (get_or streams s no_stream) Gone)) s no_stream)
other_after side streams s l =
    rw (get_or-set_same streams s (with_owner side (get_or streams s no_stream) Gone) no_stream l) (other_stays side (get_or streams s no_stream))

goes_by : (b : Bool) (x y : World) → cond b (Goes replies.Done x) (Goes replies.Done y) ≡ Goes replies.Done (cond b x y)
goes_by true x y = refl
goes_by false x y = refl

-- a state that may be dropped from
pub record IsReady (old : State) (tells : Tells) : Type 0 where
  pub sound : IsSound old
  pub served : AreServed old.producers old.consumers old.streams
  pub fits : Fits old tells

-- a call that dropped the end on a side of stream s, without host ends
pub record Drops (old mid : State) (tells : Tells) (act : Act) (s : ℕ) (side : Side) : Type 0 where
  pub ready : IsReady old tells
  pub may : MayBeDone old tells act
  pub reaction : reaction old act ≡ goes replies.Done mid
  pub performs : PerformsAs old tells act (λ w. drops_in w s side act)
  pub other : OtherStays side (stream_at old s) (stream_at mid s)

module _ (old mid : State) (tells : Tells) (act : Act) (s : ℕ) (side : Side) (d : Drops old mid tells act s side) where
  types : KeepsTypes old mid
  types = subst (λ (r : Reaction). KeepsTypes old r.state) d.reaction (reaction-types old act d.ready.sound)

  pub dropped-fits : Fits mid tells
  dropped-fits = Fits-kept old mid tells d.ready.served.made types d.ready.fits

  -- the world then
  abbrev then_in : Logs → World
  then_in logs = world_of mid tells logs

  reacts-is : (logs : Logs) → reacts (world_of old tells logs) act ≡ Goes replies.Done (then_in logs)
  reacts-is logs =
      ap (reacted (world_of old tells logs)) d.reaction
      ∙ ap (λ w. Goes replies.Done w) (world_of-state old mid tells logs types.producers)

  -- the host end goes after the end, by the stream as it is then
  drops-side : (logs : Logs)
      → cond (is_host (end_of (opposite side) (stream_at old s)).owner) (forsakes (Goes replies.Done (then_in logs)) s side) (Goes replies.Done (then_in logs)) ≡ Goes replies.Done (forsaken_in (then_in logs) s side)
  drops-side logs =
      ap (λ o. cond (is_host o) (forsakes (Goes replies.Done (then_in logs)) s side) (Goes replies.Done (then_in logs))) (sym d.other)
      ∙ goes_by (is_host (end_of (opposite side) (stream_at mid s)).owner) (with_stream_in (then_in logs) s (forsaken side (stream_at mid s))) (then_in logs)

  drops-is : PerformsAs old tells act (λ w. then_on (reacts w act) (λ v. done (forsaken_in v s side)))
  drops-is logs =
      d.performs logs
      ∙ ap (λ o. cond (is_host (end_of (opposite side) (stream_at old s)).owner) (forsakes o s side) o) (reacts-is logs)
      ∙ drops-side logs
      ∙ sym (ap (λ o. then_on o (λ v. done (forsaken_in v s side))) (reacts-is logs))

  mid-does : Does old mid tells tells (Ok replies.Done) (λ w. reacts w act)
  mid-does = Does-untold old mid tells (Ok replies.Done) (λ w. reacts w act) reacts-is tt

  pub drops-hosted : (new : State) (told : Tells) → Does mid new tells told (Ok replies.Done) (λ w. done (forsaken_in w s side)) → Fits new told
      → (touches (lone old) act ≡ false → new ≡ mid) → (touches (lone old) act ≡ false → told ≡ tells) → MeetsHosted old new tells told (Ok replies.Done) act
  drops-hosted new told f fits same untold = record {
    does = does_admitted old new tells told act (Ok replies.Done) (λ w. then_on (reacts w act) (λ v. done (forsaken_in v s side))) d.may drops-is
        (Does-then old mid new tells tells told replies.Done (Ok replies.Done) (λ w. reacts w act) (λ v. done (forsaken_in v s side)) mid-does f);
    fits = fits;
    alone = λ u. record { meets = d.reaction ∙ ap (goes replies.Done) (sym (same u)); ends = untold u };
    err = tt;
    by_record = tt;
    out_of_memory = λ w. cc;
  }

-- ## The two drops

performs-drop : (world : World) (side : Side) (end : NamedEnd) (s : ℕ) → s ≡ stream_named (named world.state end) → performs_in world (OnEnd side end Drop) ≡ drops_in world s side (OnEnd side end Drop)
unfolding performs_in
performs-drop world side end s e = ap (λ k. drops_in world k side (OnEnd side end Drop)) (sym e)

performs-close : (world : World) (reader : ℕ) → performs_in world (OnLoose reader Close) ≡ drops_in world reader Reading (OnLoose reader Close)
unfolding performs_in
performs-close world reader = refl

-- the end that is named may be dropped, and is one of stream s
abbrev pub MayDrop : State → Side → NamedEnd → ℕ → Type 0
MayDrop state side end s = IsAdmitted state (refusal state (OnEnd side end Drop)) (stream_named (named state end)) s

-- the end that is named was dropped, as the machine without host ends does it
pub dropped-alone : (old mid : State) (side : Side) (end : NamedEnd) (s : ℕ) → MayDrop old side end s → mid ≡ without_end (without_handle old end.guest end.handle) s side → reaction old (OnEnd side end Drop) ≡ goes replies.Done mid
unfolding dropped
dropped-alone old mid side end s a e =
    reacts_to old (OnEnd side end Drop) (stream_named (named old end)) s (λ k. drops old k side end) a (performs-on_end old side end Drop)
    ∙ ap (goes replies.Done) (sym e)

-- the loose read end that is named may be dropped
abbrev pub MayClose : State → ℕ → Type 0
MayClose state s = IsAdmitted {V = Unit {0}} state (refusal state (OnLoose s Close)) tt tt

-- and was
pub closed-alone : (old mid : State) (s : ℕ) → MayClose old s → mid ≡ without_end old s Reading → reaction old (OnLoose s Close) ≡ goes replies.Done mid
unfolding dropped performs
closed-alone old mid s a e =
    reacts_to old (OnLoose s Close) tt tt (λ _. closes old s) a refl ∙ ap (goes replies.Done) (sym e)

module _ (old mid : State) (tells : Tells) where
  -- the end that is named was dropped
  pub drops-end : (side : Side) (end : NamedEnd) (s : ℕ) → IsReady old tells → MayDrop old side end s → s < length old.streams → mid ≡ without_end (without_handle old end.guest end.handle) s side → Drops old mid tells (OnEnd side end Drop) s side
  drops-end side end s r a l e = record {
    ready = r;
    may = record { untrapped = a.untrapped; none = λ logs. refusal_in-on_end (world_of old tells logs) side end Drop ∙ a.none };
    reaction = dropped-alone old mid side end s a e;
    performs = λ logs. performs-drop (world_of old tells logs) side end s a.same;
    other = subst (λ (m : State). OtherStays side (stream_at old s) (stream_at m s)) (sym e) (other_after side old.streams s l);
  }

  -- the loose read end of a stream was dropped
  pub drops-loose : (s : ℕ) → IsReady old tells → MayClose old s → s < length old.streams → mid ≡ without_end old s Reading → Drops old mid tells (OnLoose s Close) s Reading
  drops-loose s r a l e = record {
    ready = r;
    may = record { untrapped = a.untrapped; none = λ logs. refusal_in-on_loose (world_of old tells logs) s Close ∙ a.none };
    reaction = closed-alone old mid s a e;
    performs = λ logs. performs-close (world_of old tells logs) s;
    other = subst (λ (m : State). OtherStays Reading (stream_at old s) (stream_at m s)) (sym e) (other_after Reading old.streams s l);
  }

  -- where no host end is touched, none has the other end then
  pub drops-end-alone : (side : Side) (end : NamedEnd) (s : ℕ) → Drops old mid tells (OnEnd side end Drop) s side → s ≡ stream_named (named old end) → touches (lone old) (OnEnd side end Drop) ≡ false → is_host (end_of (opposite side) (stream_at mid s)).owner ≡ false
  drops-end-alone side end s d e u = ap is_host d.other ∙ ap (λ k. is_host (end_of (opposite side) (stream_at old k)).owner) e ∙ u

  pub drops-loose-alone : (s : ℕ) → Drops old mid tells (OnLoose s Close) s Reading → touches (lone old) (OnLoose s Close) ≡ false → is_host (stream_at mid s).writer.owner ≡ false
  drops-loose-alone s d u = ap is_host d.other ∙ u

-- a stream that is another one now was made
pub still_made : (old mid : State) (s : ℕ) (stream : Stream) → mid ≡ with_stream_at old s stream → s < length old.streams → s < length mid.streams
still_made old mid s stream e l = subst (λ (x : State). s < length x.streams) (sym e) (subst (λ k. s < k) (sym (length-set old.streams s stream)) l)
