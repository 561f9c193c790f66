-- What becomes of what a host reader does: it stays, or it is over, or the reader gets its stream.
use Rattle.std.proofs.Common.{◌≡◌, ◌≢◌, ℕ, ◌<◌, ◌==◌, Bool, true, false, cond, length, get_or, sym, ap, subst, ◌∙◌, ◌⊎◌, inl, inr, arith}
use Rattle.std.proofs.lemmas.Bool.{cases_eq, eq-eqb, true≢false}
use Rattle.std.proofs.lemmas.List.{get_or-set_same, get_or-set_other, length-set}
use Rattle.strm_machine.specs.State.{State, no_consumer, stream_at, consumer_at, is_host}
use Rattle.strm_machine.specs.Sides.{opposite, end_of}
use Rattle.strm_machine.specs.Meetings.{begun}
use Rattle.strm_machine.specs.Reactions.{reaction}
use Rattle.strm_machine.specs.Tests.{named, stream_named, items_asked}
use Rattle.strm_machine.specs.declared.acts.Act.TheVariants.{OnHost}
use Rattle.strm_machine.specs.declared.acts.HostAct.TheVariants.{Pipe}
use Rattle.strm_machine.specs.declared.replies.Reply.{Reply}
use Rattle.strm_machine.specs.declared.streams.Consumer.{Consumer}
use Rattle.strm_machine.specs.declared.streams.Duty.{Duty}
use Rattle.strm_machine.specs.declared.streams.Duty.TheVariants.{Serves, Ended}
use Rattle.strm_machine.specs.declared.streams.Operation.{Operation}
use Rattle.strm_machine.specs.declared.streams.Owner.TheVariants.{Host}
use Rattle.strm_machine.specs.declared.streams.Side.{Side}
use Rattle.strm_machine.specs.declared.streams.Side.TheVariants.{Writing, Reading}
use Rattle.strm_machine.proofs.HostLemmas.{serving_known, no_host, unless_host}
use Rattle.strm_machine.proofs.ShapeLemmas.{reaction-consumers}
use Rattle.strm_host_machine.proofs.SettleLemmas.{is_done_with}
use Rattle.strm_host_laws.specs.HostMoments.{Part, Acts}
use Rattle.strm_host_laws.specs.HostLaws.{is_piped_in}
use Rattle.strm_host_laws.proofs.Effects.{opened_by, piped_in, ByStaying, ByGone, ByDry, Pipes, Effect, ByReaction, ByRest, ByHosting, ByPiping, ByDriving, ByPassing, ByCalling, ByForsaking}
use Rattle.strm_host_laws.proofs.HostsAgree.{known_all, one_stream}
use Rattle.strm_host_laws.proofs.HostTurns.{known_on, Leaves, leaves_ended, with_ended, Turned}
use Rattle.strm_host_laws.proofs.TurnsStand.{Holds, Holds-reaction}

-- what host reader k does
abbrev pub duty : State → ℕ → Duty
duty state k = (consumer_at state k).duty

-- it stays, or is over
abbrev StaysOrEnds : Duty → Duty → Type 0
StaysOrEnds old new = (new ≡ old) ⊎ (new ≡ Ended)

pub data DutyStep (k : ℕ) (old : State) (part : Part) (reply : Reply) (new : State) : Type 0 where
  Stays : duty new k ≡ duty old k → DutyStep k old part reply new
  Ends : duty new k ≡ Ended → DutyStep k old part reply new
  Gets : (t : ℕ) → part ≡ Acts (OnHost k (Pipe t)) → Pipes old t k reply new → DutyStep k old part reply new

of_either : (k : ℕ) (old new : State) (part : Part) (reply : Reply) → StaysOrEnds (duty old k) (duty new k) → DutyStep k old part reply new
of_either k old new part reply (inl e) = Stays e
of_either k old new part reply (inr e) = Ends e

-- a host end that has an end is known
known_owner : (side : Side) (state : State) (s n : ℕ) → Holds state → (end_of side (stream_at state s)).owner ≡ Host n → n < known_on side state
known_owner side state s n h e = subst (λ j. n < j) (sym (known_all state side h.hosts)) (serving_known state side n s h.hosts ((h.hosts.serve side n s).serves e))

leaves_duty : (side : Side) (done : Bool) (n : ℕ) (old new : State) → Leaves side done n old new → n < known_on side old → (k : ℕ) → StaysOrEnds (duty old k) (duty new k)
leaves_duty Writing done n old new l known k = inl (l.across k)
leaves_duty Reading done n old new l known k =
    elim (cases_eq k n) [
      | inl e ↦ subst (λ i. StaysOrEnds (duty old i) (duty new i)) (sym e) (by done (l.here known))
      | inr ne ↦ inl (l.others k ne)
    ]
  where
    by : (done : Bool) → duty new n ≡ cond done Ended (duty old n) → StaysOrEnds (duty old n) (duty new n)
    by true e = inr e
    by false e = inl e

turned_duty : (side : Side) (old new : State) (s n : ℕ) (operation : Operation) → Turned side old new s n operation → n < known_on (opposite side) old → (k : ℕ) → StaysOrEnds (duty old k) (duty new k)
turned_duty side old new s n operation t known k =
    subst (λ d. StaysOrEnds (duty old k) d) (sym (ap (λ (x : State). duty x k) t.is)) (leaves_duty (opposite side) (is_done_with t.result) n old t.ends t.leaves known k)

-- the host reader of a pipe serves it, or is gone at once
pub pipes_duty : (old new : State) (s r : ℕ) (reply : Reply) → Holds old → Pipes old s r reply new → (duty new r ≡ Serves s) ⊎ (duty new r ≡ Ended)
pipes_duty old new s r reply h x =
    elim x.ends [
      | ByStaying e ↦ inl (ap (λ (y : State). duty y r) e ∙ here)
      | ByGone g e ↦ inr (ap (λ (y : State). duty y r) e ∙ over)
      | ByDry n g e ↦ inr (ap (λ (y : State). duty y r) e ∙ over)
    ]
  where
    given : Consumer
    given = record no_consumer { duty = Serves s }

    known : r < length old.consumers
    known = let all = h.hosts.all_readers in omega (arith, x.known, all)

    here : duty (piped_in old s r) r ≡ Serves s
    here = ap (λ (c : Consumer). c.duty) (get_or-set_same old.consumers r given no_consumer known)

    over : duty (with_ended Reading (piped_in old s r) r) r ≡ Ended
    over =
        (leaves_ended Reading r (piped_in old s r)).here
        (subst (λ k. r < k) (sym (length-set old.consumers r given)) known)

-- others do as they did
piped_others : (old new : State) (s r : ℕ) (reply : Reply) → Pipes old s r reply new → (k : ℕ) → k ≢ r → duty new k ≡ duty old k
piped_others old new s r reply x k ne =
    elim x.ends [
      | ByStaying e ↦ ap (λ (y : State). duty y k) e ∙ other
      | ByGone g e ↦ ap (λ (y : State). duty y k) e ∙ (leaves_ended Reading r (piped_in old s r)).others k ne ∙ other
      | ByDry n g e ↦ ap (λ (y : State). duty y k) e ∙ (leaves_ended Reading r (piped_in old s r)).others k ne ∙ other
    ]
  where
    other : duty (piped_in old s r) k ≡ duty old k
    other = ap (λ (c : Consumer). c.duty) (get_or-set_other old.consumers r k (record no_consumer { duty = Serves s }) no_consumer ne)

pub effect_duty : (k : ℕ) (old new : State) (part : Part) (reply : Reply) → Holds old → Effect old part reply new → DutyStep k old part reply new
effect_duty k old new part reply h (ByReaction act p i r e) = Stays (ap (λ (x : State). duty x k) e ∙ ap (λ cs. (get_or cs k no_consumer).duty) (reaction-consumers old act))
effect_duty k old new part reply h (ByRest q e) = Stays (ap (λ (x : State). duty x k) e)
effect_duty k old new part reply h (ByHosting n p x) = Stays (ap (λ (y : State). duty y k) x.is)
effect_duty k old new part reply h (ByPiping t r p x) =
    elim (cases_eq k r) [
      | inl e ↦ Gets t (p ∙ ap (λ i. Acts (OnHost i (Pipe t))) (sym e)) (subst (λ i. Pipes old t i reply new) (sym e) x)
      | inr ne ↦ Stays (piped_others old new t r reply x k ne)
    ]
effect_duty k old new part reply h (ByDriving side t p done d) =
    of_either k old new part reply (turned_duty side old new t d.host d.operation d.turned (known_owner (opposite side) old t d.host h d.owner) k)
effect_duty k old new part reply h (ByPassing t p done x) =
    let same : duty x.mid k ≡ duty old k = x.duties.same Reading k in
    elim x.ends [
      | inl e ↦ Stays (ap (λ (y : State). duty y k) e ∙ same)
      | inr e ↦
          let read = known_owner Reading old t x.reader h x.read in
          let known : x.reader < known_on Reading x.mid = (let all = x.duties.all Reading in omega (arith, read, all)) in
          of_either k old new part reply
          (subst (λ d. StaysOrEnds d (duty new k)) same
          (subst (λ d. StaysOrEnds (duty x.mid k) d) (sym (ap (λ (y : State). duty y k) e))
          (leaves_duty Reading true x.reader x.mid (with_ended Reading x.mid x.reader) (leaves_ended Reading x.reader x.mid) known k)))
    ]
effect_duty k old new part reply h (ByCalling side end address count p c) =
    let at = stream_named (named old end) in
    let operation = begun end.guest address (items_asked end.ty count) in
    of_either k old new part reply
    (subst (λ d. StaysOrEnds (duty old k) d) (sym (ap (λ (x : State). duty x k) c.is))
    (turned_duty side (opened_by side old at operation) c.mid at c.host operation c.turned (known_owner (opposite side) old at c.host h c.owner) k))
effect_duty k old new part reply h (ByForsaking act p f) =
    let mid = (reaction old act).state in
    let other = opposite f.side in
    let same : duty mid k ≡ duty old k = ap (λ cs. (get_or cs k no_consumer).duty) (reaction-consumers old act) in
    of_either k old new part reply
    (subst (λ d. StaysOrEnds d (duty new k)) same
    (subst (λ d. StaysOrEnds (duty mid k) d) (sym (ap (λ (x : State). duty x k) f.is))
    (leaves_duty other true f.host mid (with_ended other mid f.host) (leaves_ended other f.host mid) (known_owner other mid f.stream f.host (Holds-reaction old act h) f.owner) k)))

-- a stream whose read end goes to no host reader has none
pub effect_unread_by : (old new : State) (part : Part) (reply : Reply) (s : ℕ) → Holds old → Holds new → Effect old part reply new → is_host (stream_at old s).reader.owner ≡ false → is_piped_in s part reply ≡ false → is_host (stream_at new s).reader.owner ≡ false
effect_unread_by old new part reply s h after effect u v =
    unless_host (stream_at new s).reader.owner
    (λ k e.
    let serves = (after.hosts.serve Reading k s).serves e in
    elim (effect_duty k old new part reply h effect) [
      | Stays same ↦ no_host (stream_at old s).reader.owner k u ((h.hosts.serve Reading k s).owns (sym same ∙ serves))
      | Ends over ↦ let wrong : Ended ≡ Serves s = sym over ∙ serves in cc
      | Gets t p x ↦ elim (pipes_duty old new t k reply h x) [
        | inl is ↦
            let here : (t == s) ≡ true = eq-eqb t s (one_stream t s (sym is ∙ serves)) in
            let piped : is_piped_in s part reply ≡ (t == s) = ap (λ q. is_piped_in s q reply) p ∙ ap (is_piped_in s (Acts (OnHost k (Pipe t)))) x.reply_is in
            true≢false (sym (piped ∙ here) ∙ v)
        | inr over ↦ let wrong : Ended ≡ Serves s = sym over ∙ serves in cc
      ]
    ])
