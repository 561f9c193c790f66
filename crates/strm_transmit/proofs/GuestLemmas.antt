-- Where no host end has an end of a stream, steps of guests touch none, and leave it so.
use Rattle.std.proofs.Common.{◌≡◌, ℕ, zero, suc, true, false, List, [], ◌∷◌, set, Option, Some, None, refl, sym, ap, ◌∙◌, subst, inl, inr, arith}
use Rattle.std.specs.Prelude.{Bool, if◌then◌else◌}
use Rattle.std.proofs.lemmas.List.{get_or_past}
use Rattle.strm_machine.specs.Words.{ReturnCode, TransmitIndex, State, no_stream, stream_at, end_of, with_end, Operated, named, stream_named, Reaction, written_back}
use Rattle.strm_machine.specs.State.{empty, is_host}
use Rattle.strm_machine.specs.Sides.{opposite}
use Rattle.strm_machine.specs.Making.{made_stream, made_pair, with_stream}
use Rattle.strm_machine.specs.Moves.{with_owner}
use Rattle.strm_machine.specs.Refusals.{first_of, lower_context_reasons}
use Rattle.strm_machine.specs.Reactions.{goes, shares_unless, lowers_context, reaction}
use Rattle.strm_machine.specs.declared.replies.Reply.TheVariants as replies
use Rattle.strm_codes.specs.declared.refusals.Refusal.{Refusal}
use Rattle.strm_machine.specs.declared.streams.Side.{Side}
use Rattle.strm_machine.specs.declared.streams.Side.TheVariants.{Writing, Reading}
use Rattle.strm_machine.specs.declared.streams.Stream.{Stream}
use Rattle.strm_machine.specs.declared.streams.Owner.{Owner}
use Rattle.strm_machine.specs.declared.acts.Act.{Act}
use Rattle.strm_machine.specs.declared.limits.Limits.{Limits}
use Rattle.strm_machine.proofs.EmptyLemmas.{IsSound-empty}
use Rattle.strm_machine.proofs.SeenSteps.{made_at}
use Rattle.strm_machine.proofs.ContextStepLemmas.{with_context_handle-sound, lower_context_fits}
use Rattle.strm_machine.proofs.SoundStepLemmas.{operate-keeps, reaction-sound}
use Rattle.strm_machine.proofs.TableLemmas.{OwnersStay, with_end-owners}
use Rattle.strm_machine.proofs.Shapes.{turn_on, Shape, ByTurn, BySetting, ByOwner, ByTable, ByPair, ByGuest, ByPut, ByRest}
use Rattle.strm_machine.proofs.ShapeLemmas.{reaction-shape}
use Rattle.strm_machine.proofs.ReactionLemmas.{reaction-performs}
use Rattle.strm_places.specs.Again.{IsFree, Behind, Again, put, with_pair_at, reaction_at}
use Rattle.strm_places.proofs.AgainLemmas.{put-behind, put-again, reaction_at-by, performs_at-by}
use Rattle.strm_host_machine.specs.Steps.{touches_by, touches}
use Rattle.strm_host_machine.proofs.TouchLemmas.{touch-by}
use Rattle.strm_transmit.specs.Hosted.{lone}
use Rattle.strm_transmit.specs.Guests.{AreUnhosted, Unhosted, is_of_guests}

-- no host end has an end of a stream
abbrev pub IsUnhosted : Stream → Type 0
IsUnhosted stream = (side : Side) → is_host (end_of side stream).owner ≡ false

abbrev OnUnhosted : Side → Stream → Type 0
OnUnhosted side stream = is_host (end_of side stream).owner ≡ false

-- one of them is another
pub set-unhosted : (streams : List Stream) (s : ℕ) (x : Stream) → IsUnhosted x → AreUnhosted streams → AreUnhosted (set streams s x)
set-unhosted [] s x here u k side = u k side
set-unhosted (y ∷ ys) zero x here u zero side = here side
set-unhosted (y ∷ ys) zero x here u (suc k) side = u (suc k) side
set-unhosted (y ∷ ys) (suc s) x here u zero side = u zero side
set-unhosted (y ∷ ys) (suc s) x here u (suc k) side = set-unhosted ys s x here (λ j. u (suc j)) k side

-- its ends have the same owners, or one of them has another that is no host end
pub owners-unhosted : (old new : Stream) → OwnersStay old new → IsUnhosted old → IsUnhosted new
owners-unhosted old new same u Writing = ap is_host same.writer ∙ u Writing
owners-unhosted old new same u Reading = ap is_host same.reader ∙ u Reading

pub owner-unhosted : (side : Side) (stream : Stream) (owner : Owner) → is_host owner ≡ false → IsUnhosted stream → IsUnhosted (with_owner side stream owner)
owner-unhosted Writing stream owner e u Writing = e
owner-unhosted Writing stream owner e u Reading = u Reading
owner-unhosted Reading stream owner e u Writing = u Writing
owner-unhosted Reading stream owner e u Reading = e

made-unhosted : (ty : TransmitIndex) (writer write reader read : ℕ) → IsUnhosted (made_stream ty writer write reader read)
made-unhosted ty writer write reader read Writing = refl
made-unhosted ty writer write reader read Reading = refl

pair-unhosted : (state : State) (writer reader : ℕ) (ty : TransmitIndex) → AreUnhosted state.streams → AreUnhosted (with_stream state writer reader ty).streams
unfolding with_stream
pair-unhosted state writer reader ty u k side =
    let pair = made_pair state writer reader ty in
    elim (made_at state.streams (made_stream ty writer pair.write reader pair.read) k) [
      | inl e ↦ subst (OnUnhosted side) (sym e) (u k side)
      | inr e ↦ subst (OnUnhosted side) (sym e.1) (made-unhosted ty writer pair.write reader pair.read side)
    ]

-- and so it is where the stream gets a free number
put-unhosted : (streams : List Stream) (n : ℕ) (x : Stream) → IsFree streams n → IsUnhosted x → AreUnhosted streams → AreUnhosted (put streams n x)
put-unhosted streams n x (Behind e) here u =
    rw (e, put-behind streams x)
    (λ k side.
    elim (made_at streams x k) [
      | inl e ↦ subst (OnUnhosted side) (sym e) (u k side)
      | inr e ↦ subst (OnUnhosted side) (sym e.1) (here side)
    ])
put-unhosted streams n x (Again l gone) here u = rw (put-again streams n x l) (set-unhosted streams n x here u)

in-unhosted : (state : State) (n writer reader : ℕ) (ty : TransmitIndex) → IsFree state.streams n → AreUnhosted state.streams → AreUnhosted (with_pair_at state n writer reader ty).streams
unfolding with_pair_at
in-unhosted state n writer reader ty free u =
    let pair = made_pair state writer reader ty in
    put-unhosted state.streams n (made_stream ty writer pair.write reader pair.read) free (made-unhosted ty writer pair.write reader pair.read) u

written-unhosted : (state : State) (s : ℕ) (t : Operated) (code : Option ReturnCode) → IsUnhosted t.stream → AreUnhosted state.streams → AreUnhosted (written_back state s t code).state.streams
written-unhosted state s t None k u = set-unhosted state.streams s t.stream k u
written-unhosted state s t (Some code) k u = set-unhosted state.streams s t.stream k u

shape-unhosted : (state : State) (act : Act) (r : Reaction) → AreUnhosted state.streams → Shape state act r → AreUnhosted r.state.streams
shape-unhosted state act r u (ByTurn side end address count a e o) =
    let t = turn_on state side end address count in
    let k = operate-keeps state side end address count o in
    let s = stream_named (named state end) in
    rw e (written-unhosted state s t t.code (owners-unhosted (stream_at state s) t.stream (record { writer = k.stream.writer; reader = k.stream.reader }) (u s)) u)
shape-unhosted state act r u (BySetting reply x e set) =
    let stream = stream_at state x.stream in
    rw e (set-unhosted state.streams x.stream (with_end x.side stream x.end) (owners-unhosted stream (with_end x.side stream x.end) (with_end-owners x.side stream x.end set.becomes.owner) (u x.stream)) u)
shape-unhosted state act r u (ByOwner reply x e o) =
    rw e (set-unhosted state.streams x.stream _ (owner-unhosted x.side (stream_at state x.stream) x.owner o.unhosted (u x.stream)) u)
shape-unhosted state act r u (ByTable reply x e t) = rw e u
shape-unhosted state act r u (ByPair writer reader ty a e fits) = rw e (pair-unhosted state writer reader ty u)
shape-unhosted state act r u (ByGuest size a e fits) = rw e u
shape-unhosted state act r u (ByPut reply g address bytes e p) = rw e u
shape-unhosted state act r u (ByRest reply e none) = rw e u

pub reaction-unhosted : (state : State) (act : Act) → Unhosted state → Unhosted (reaction state act).state
reaction-unhosted state act u = record {
  sound = reaction-sound state act u.sound;
  none = shape-unhosted state act (reaction state act) u.none (reaction-shape state act u.sound);
}

pub making-unhosted : (n : ℕ) (state : State) (act : Act) → IsFree state.streams n → Unhosted state → AreUnhosted (reaction_at n state act).state.streams
making-unhosted n state act free u =
    let P : Reaction → Type 0 = λ r. AreUnhosted r.state.streams in
    reaction_at-by P n state act
    (record {
      trapped = λ t. u.none;
      refused = λ r t e. u.none;
      performed = λ t e.
          performs_at-by P n state act (λ writer reader ty is. in-unhosted state n writer reader ty free u.none)
          (subst P (reaction-performs state act t e) (reaction-unhosted state act u).none);
    })

-- a handle more to an error context
unless-unhosted : (trapped : Bool) (r other : Reaction) → Unhosted r.state → Unhosted other.state → Unhosted (if trapped then r else other).state
unless-unhosted true r other u v = u
unless-unhosted false r other u v = v

shared-unhosted : (state : State) (number g : ℕ) (found : Option Refusal) → first_of (lower_context_reasons state number g) ≡ found → Unhosted state → Unhosted (shares_unless state number g found).state
shared-unhosted state number g (Some r) e u = u
shared-unhosted state number g None e u = record {
  sound = with_context_handle-sound state number g u.sound (lower_context_fits state number g e);
  none = u.none;
}

pub lowering-unhosted : (state : State) (number g : ℕ) → Unhosted state → Unhosted (lowers_context state number g).state
unfolding lowers_context
lowering-unhosted state number g u =
    unless-unhosted state.trapped (goes replies.StoreTrapped state) _ u (shared-unhosted state number g (first_of (lower_context_reasons state number g)) refl u)

no_stream-unhosted : IsUnhosted no_stream
no_stream-unhosted Writing = refl
no_stream-unhosted Reading = refl

pub empty-unhosted : (tag : ℕ) (limits : Limits) → Unhosted (empty tag limits)
empty-unhosted tag limits = record {
  sound = IsSound-empty tag limits;
  none = λ s side. ap (λ st. is_host (end_of side st).owner) (get_or_past [] s no_stream (omega arith)) ∙ no_stream-unhosted side;
}

-- a step of guests touches no host end there
pub touches-none : (state : State) (act : Act) → Unhosted state → is_of_guests act ≡ true → touches (lone state) act ≡ false
touches-none state act u =
    touch-by (λ act touch. is_of_guests act ≡ true → touches_by state touch ≡ false) state
    (record {
      operated = λ side end address count e. u.none (stream_named (named state end)) (opposite side);
      dropped = λ act s side d e. u.none s (opposite side);
      hosted = λ n act e. cc;
      driven = λ e. cc;
      alone = λ act n e. refl;
    })
    act
