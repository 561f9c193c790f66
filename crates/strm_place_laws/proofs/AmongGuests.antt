-- Among guests no host end has an end of a stream, and none gets one, whichever numbers are given again.
use Rattle.std.proofs.Common.{◌≡◌, ℕ, true, false, refl, sym, ◌∙◌, subst}
use Rattle.strm_codes.specs.declared.codes.TransmitIndex.{TransmitIndex}
use Rattle.strm_machine.specs.Words.{State, empty, stream_at, end_of, Reaction, IsSound}
use Rattle.strm_machine.specs.State.{is_host}
use Rattle.strm_machine.specs.Hosting.{HostsHold}
use Rattle.strm_machine.specs.Reactions.{reaction}
use Rattle.strm_machine.specs.declared.acts.Act.{Act}
use Rattle.strm_machine.specs.declared.limits.Limits.{Limits}
use Rattle.strm_machine.specs.declared.streams.Side.{Side}
use Rattle.strm_machine.specs.declared.streams.Side.TheVariants.{Writing, Reading}
use Rattle.strm_machine.specs.declared.streams.Stream.{Stream}
use Rattle.strm_machine.proofs.HeldLemmas.{StateIsHeld}
use Rattle.strm_machine.proofs.HostLemmas.{no_host, unless_host, HostsStay, SameKept, SameKept-duty, HostsHold-stays}
use Rattle.strm_machine.proofs.Lawful.{IsLawful}
use Rattle.strm_machine.proofs.RefusalLemmas.{PairFits}
use Rattle.strm_machine.proofs.ShapeLemmas.{reaction-producers, reaction-consumers, reaction-kept_items}
use Rattle.strm_host_laws.proofs.Standing.{Holds-empty}
use Rattle.strm_host_laws.proofs.TurnsStand.{LooseIsIdle, IsIdleIfLoose, Holds, Holds-reaction}
use Rattle.strm_places.specs.Again.{IsFree, with_pair_at, reaction_at}
use Rattle.strm_places.proofs.AgainLemmas.{stream_made}
use Rattle.strm_place_laws.specs.Shares.{HasNoHost}
use Rattle.strm_place_laws.proofs.LifeSteps.{Goes, Makes, Rests, reaction_goes, of_each}

-- no host end has an end of a stream, as what is kept of them says; and a read end that is loose has no operation
pub record IsAmong (state : State) : Type 0 where
  pub none : HasNoHost state
  pub hosts : HostsHold state
  pub loose : LooseIsIdle state

pub holds_among : (state : State) → IsSound state → StateIsHeld state → IsAmong state → Holds state
holds_among state sound held a = record { sound = sound; held = held; hosts = a.hosts; loose = a.loose }

pub IsAmong-empty : (tag : ℕ) (limits : Limits) → IsAmong (empty tag limits)
IsAmong-empty tag limits =
    let h = Holds-empty tag limits in
    record { none = none; hosts = h.hosts; loose = h.loose }
  where
    none : (s : ℕ) (side : Side) → is_host (end_of side (stream_at (empty tag limits) s)).owner ≡ false
    none s Writing = refl
    none s Reading = refl

-- ## The machine's steps

module _ (state : State) (act : Act) (sound : IsSound state) (held : StateIsHeld state) (a : IsAmong state) where
  abbrev after : State
  after = (reaction state act).state

  kept : SameKept state after
  kept = record { producers = reaction-producers state act; kept = reaction-kept_items state act; consumers = reaction-consumers state act }

  -- what is kept of host ends stays, and by it none has an end
  none_after : HostsHold after → HasNoHost after
  none_after hosts s side =
      unless_host (end_of side (stream_at after s)).owner
      (λ n e. no_host (end_of side (stream_at state s)).owner n (a.none s side)
      ((a.hosts.serve side n s).owns (sym (SameKept-duty state after side n kept) ∙ (hosts.serve side n s).serves e)))

  reaction_among : IsAmong after
  reaction_among =
      let h = Holds-reaction state act (holds_among state sound held a) in
      record { none = none_after h.hosts; hosts = h.hosts; loose = h.loose }

-- ## A making

-- neither stream has a host end
unhosted_stays : (old new : Stream) → ((side : Side) → is_host (end_of side old).owner ≡ false) → ((side : Side) → is_host (end_of side new).owner ≡ false) → HostsStay old new
unhosted_stays old new was is = record {
  was = λ side n e. absurd (no_host (end_of side new).owner n (is side) e);
  is = λ side n e. absurd (no_host (end_of side old).owner n (was side) e);
  idle = λ side e o. absurd (let wrong : true ≡ false = sym e ∙ was side in cc);
}

module _ (n : ℕ) (state : State) (h : IsLawful state) (held : StateIsHeld state) (free : IsFree state.streams n) (writer reader : ℕ) (ty : TransmitIndex) (fits : PairFits state writer reader ty) (a : IsAmong state) where
  abbrev then_ : State
  then_ = with_pair_at state n writer reader ty

  none_made : HasNoHost then_
  none_made s side = of_each n state h held free writer reader ty fits (λ x. is_host (end_of side x).owner ≡ false) (guest_has side) (λ k. a.none k side) s
    where
      guest_has : (side : Side) → is_host (end_of side (stream_made state writer reader ty)).owner ≡ false
      guest_has Writing = refl
      guest_has Reading = refl

  made_among : IsAmong then_
  unfolding with_pair_at
  made_among = record {
    none = none_made;
    hosts =
        HostsHold-stays state then_ (record { producers = refl; kept = refl; consumers = refl })
        (λ s. unhosted_stays (stream_at state s) (stream_at then_ s) (a.none s) (none_made s)) a.hosts;
    loose = of_each n state h held free writer reader ty fits IsIdleIfLoose (λ e. refl) a.loose;
  }

-- ## Whichever step

pub goes_among : (n : ℕ) (state : State) (act : Act) → IsLawful state → StateIsHeld state → IsFree state.streams n → IsAmong state → IsAmong (reaction_at n state act).state
goes_among n state act h held free a = by (reaction_at n state act) (reaction_goes n state act)
  where
    by : (r : Reaction) → Goes n state act r → IsAmong r.state
    by r (Makes writer reader ty does fits e) = subst (λ (x : Reaction). IsAmong x.state) (sym e) (made_among n state h held free writer reader ty fits a)
    by r (Rests e many unmade) = subst (λ (x : Reaction). IsAmong x.state) (sym e) (reaction_among state act h.sound held a)
