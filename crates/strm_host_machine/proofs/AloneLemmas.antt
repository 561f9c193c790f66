-- Where no host end has an end of a stream, a step that names none is the machine's without them.
use Rattle.std.proofs.Common.{◌≡◌, ℕ, zero, suc, ◌+◌, Bool, true, false, [], length, append-nil, refl, sym, ap, subst, ◌∙◌, inl, inr, ◌⊎◌}
use Rattle.strm_machine.specs.State.{State, stream_at, is_host}
use Rattle.strm_machine.specs.Sides.{opposite, end_of}
use Rattle.strm_machine.specs.Tests.{named, stream_named}
use Rattle.strm_machine.specs.Refusals.{refusal}
use Rattle.strm_machine.specs.Reactions.{performs}
use Rattle.strm_machine.specs.declared.acts.Act.{Act}
use Rattle.strm_machine.specs.declared.acts.Act.TheVariants.{Drive}
use Rattle.strm_machine.specs.declared.streams.Side.{Side}
use Rattle.strm_machine.specs.declared.streams.Side.TheVariants.{Writing, Reading}
use Rattle.strm_machine.proofs.ReactionLemmas.{reaction-trapped, reaction-performs}
use Rattle.strm_host_machine.specs.World.{World}
use Rattle.strm_host_machine.specs.Outcomes.{done, reacted}
use Rattle.strm_host_machine.specs.Driving.{driven, round_of}
use Rattle.strm_host_machine.specs.Steps.{touch_of, reacts, performs_in, touches_by, outcome}
use Rattle.strm_host_machine.proofs.TouchLemmas.{names_none, touch-by}
use Rattle.strm_host_machine.proofs.OutcomeLemmas.{outcome-trapped, outcome-performs, refusal_in-drive}
use Rattle.strm_host_machine.proofs.ReactedLemmas.{outcome-reacted}
use Rattle.strm_host_machine.proofs.DriveLemmas.{AreAlone, driven-alone}

-- no host end has an end of a stream
abbrev pub HasNoHost : State → Type 0
HasNoHost state = (s : ℕ) (side : Side) → is_host (end_of side (stream_at state s)).owner ≡ false

round_streams : (world : World) (s n : ℕ) → HasNoHost world.state → AreAlone world s n
round_streams world s zero h = tt
round_streams world s (suc n) h = (record { writer = h s Writing; reader = h s Reading }, round_streams world (s + 1) n h)

round_alone : (world : World) → HasNoHost world.state → driven world (round_of world) ≡ done world
round_alone world h =
    ap (driven world) (sym (append-nil (round_of world)))
    ∙ driven-alone world 0 (length world.state.streams) [] (round_streams world 0 (length world.state.streams) h)

drive_by : (world : World) (b : Bool) → HasNoHost world.state → world.state.trapped ≡ b → outcome world Drive ≡ reacts world Drive
unfolding performs_in refusal performs
drive_by world true h t = outcome-trapped world Drive t ∙ sym (ap (reacted world) (reaction-trapped world.state Drive t))
drive_by world false h t =
    outcome-performs world Drive t (refusal_in-drive world)
    ∙ round_alone world h
    ∙ sym (ap (reacted world) (reaction-performs world.state Drive t refl))

-- one that names none is a drive round, or touches none
touches-alone : (state : State) → HasNoHost state → (act : Act) → names_none act ≡ true → (act ≡ Drive) ⊎ (touches_by state (touch_of state act) ≡ false)
touches-alone state h =
    touch-by (λ act touch. names_none act ≡ true → (act ≡ Drive) ⊎ (touches_by state touch ≡ false)) state
    (record {
      operated = λ side end address count n. inr (h (stream_named (named state end)) (opposite side));
      dropped = λ act s side d n. inr (h s (opposite side));
      hosted = λ k act n. cc;
      driven = λ n. inl refl;
      alone = λ act m n. inr refl;
    })

-- and is the machine's without them
pub outcome-alone : (world : World) (act : Act) → HasNoHost world.state → names_none act ≡ true → outcome world act ≡ reacts world act
outcome-alone world act h e = elim (touches-alone world.state h act e) [
  | inl d ↦ subst (λ a. outcome world a ≡ reacts world a) (sym d) (drive_by world world.state.trapped h refl)
  | inr t ↦ outcome-reacted world act t
]
