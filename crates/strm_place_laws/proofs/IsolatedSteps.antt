-- What a step among guests is to each stream that it does not make: nothing, or one event of it, which leads
-- where its course leads, as in runs with host ends.
use Rattle.std.proofs.Common.{◌≡◌, ℕ, Bool, true, false, cond, List, [], length, Option, Some, None, refl, sym, ap, ◌∙◌, subst, inl, inr, arith}
use Rattle.std.specs.Prelude.{◌==◌}
use Rattle.std.proofs.lemmas.Bool.{cases_lt}
use Rattle.std.proofs.lemmas.List.{get_or_past}
use Rattle.strm_codes.specs.declared.codes.TransmitIndex.{TransmitIndex}
use Rattle.strm_codes.specs.declared.refusals.Refusal.{Refusal}
use Rattle.strm_machine.specs.Words.{State, no_stream, stream_at, named, stream_named, opposite, act_of, Moment, Reaction, react}
use Rattle.strm_machine.specs.Moments.{names, moment_of}
use Rattle.strm_machine.specs.Refusals.{refusal}
use Rattle.strm_machine.specs.Reactions.{performs}
use Rattle.strm_machine.specs.declared.steps.Step.{Step}
use Rattle.strm_machine.specs.declared.streams.Side.{Side}
use Rattle.strm_machine.specs.declared.streams.Side.TheVariants.{Writing}
use Rattle.strm_machine.specs.declared.streams.Stream.{Stream}
use Rattle.strm_machine.specs.declared.acts.Act.{Act}
use Rattle.strm_machine.specs.declared.acts.NamedEnd.{NamedEnd}
use Rattle.strm_machine.specs.declared.acts.Act.TheVariants.{Make, OnEnd, Transfer, OnLoose, OnHost, Drive, Event, OnSet, OnContext, OnMemory}
use Rattle.strm_machine.specs.declared.acts.EndAct.TheVariants.{Operate, Cancel, Drop, Lift}
use Rattle.strm_machine.specs.declared.acts.HostAct.TheVariants as host_acts
use Rattle.strm_machine.specs.declared.acts.LooseAct.TheVariants.{Lower, Close}
use Rattle.strm_machine.specs.declared.acts.Making.TheVariants as makings
use Rattle.strm_machine.specs.declared.acts.SetAct.TheVariants as set_acts
use Rattle.strm_machine.specs.declared.replies.Reply.{Reply}
use Rattle.strm_machine.specs.declared.replies.Reply.TheVariants as replies
use Rattle.strm_machine.proofs.AskedLemmas.{told-trapped, bad-keeps, reply-bad}
use Rattle.strm_machine.proofs.HeldLemmas.{StateIsHeld}
use Rattle.strm_machine.proofs.Lawful.{IsLawful, as_moment}
use Rattle.strm_machine.proofs.ReactionLemmas.{reaction-trapped, reaction-refused, reaction-performs}
use Rattle.strm_machine.proofs.RefusalLemmas.{PairFits}
use Rattle.strm_machine.proofs.StreamSteps.{reaction_streams}
use Rattle.strm_host_machine.specs.Courses.{CoursePoll, fresh_course}
use Rattle.strm_host_machine.specs.Outcomes.{of_reply, reacted}
use Rattle.strm_host_machine.specs.World.{World}
use Rattle.strm_host_laws.specs.HostMoments.{Acts, HostMoment}
use Rattle.strm_host_laws.specs.StreamEvents.{polls_across, by_name, events_by_number, code_answered}
use Rattle.strm_host_laws.proofs.CourseRuns.{BySelf}
use Rattle.strm_host_laws.proofs.GoingRules.{IfGoes}
use Rattle.strm_host_laws.proofs.Happenings.{moment_at as host_moment, Silent, silent-of, Happening, ToNone, course-stays, happening-by_self, happening-leaves}
use Rattle.strm_host_laws.proofs.RestSteps.{rest-formed}
use Rattle.strm_host_laws.proofs.SingleSteps.{stays-itself, refused-happening, Formed, called-formed, cancel-formed, lift-formed, drop-formed, transfer-formed, event-formed, lower-formed, close-formed}
use Rattle.strm_host_laws.proofs.Tracing.{held_for, over_for, seen, course_of}
use Rattle.strm_host_laws.proofs.TurnsStand.{Holds}
use Rattle.strm_places.specs.Again.{IsFree, with_pair_at, reacts_at}
use Rattle.strm_place_laws.specs.Isolation.{without_hosts, among_guests, LeavesIt}
use Rattle.strm_place_laws.specs.Lives.{is_made_in}
use Rattle.strm_place_laws.specs.Shares.{HasNoHost}
use Rattle.strm_place_laws.proofs.AmongGuests.{IsAmong, holds_among}
use Rattle.strm_place_laws.proofs.LifeSteps.{Goes, Makes, Rests, reaction_goes, goes_then, puts, here, same, apart_from, is_it}

-- ## What is known of it

-- a moment is to stream s what its course says, or leaves it
pub record IsApart (s : ℕ) (m : Moment) : Type 0 where
  pub by_self : BySelf s (among_guests m)
  pub leaves : LeavesIt s m

-- so it is of each stream that was not made in it, and one that was made begins its course
pub record GoesApart (state : State) (act : Act) (r : Reaction) : Type 0 where
  pub apart : (s : ℕ) → is_made_in s (as_moment state act r) ≡ false → IsApart s (as_moment state act r)
  pub begins : (s : ℕ) → is_made_in s (as_moment state act r) ≡ true → course_of s (without_hosts r.state) ≡ fresh_course (stream_at r.state s).kind

-- ## Where a store is trapped, or an item is bad

-- an act with this reply is nothing to any stream
record IsQuiet (act : Act) (reply : Reply) : Type 0 where
  name : (side : Side) (polls : List CoursePoll) → by_name side act reply polls ≡ []
  number : (k : ℕ) (m : HostMoment) → events_by_number k m (Acts act) reply ≡ []
  code : code_answered reply ≡ []

same_if : {A : Type 0} (b : Bool) (x : A) → cond b x x ≡ x
same_if true x = refl
same_if false x = refl

trapped-name : (side : Side) (act : Act) (polls : List CoursePoll) → by_name side act replies.StoreTrapped polls ≡ []
trapped-name side (OnEnd on end (Operate address count)) polls = refl
trapped-name side (OnEnd on end Cancel) polls = refl
trapped-name side (OnEnd on end Drop) polls = refl
trapped-name side (OnEnd on end Lift) polls = refl
trapped-name side (OnSet g set set_acts.Poll) polls = refl
trapped-name side _ polls = refl

trapped-number : (k : ℕ) (m : HostMoment) (act : Act) → events_by_number k m (Acts act) replies.StoreTrapped ≡ []
trapped-number k m (OnLoose reader (Lower g ty)) = same_if (reader == k) []
trapped-number k m (OnLoose reader Close) = same_if (reader == k) []
trapped-number k m (OnHost host host_acts.New) = refl
trapped-number k m (OnHost host (host_acts.Pipe reader)) = refl
trapped-number k m _ = refl

trapped-quiet : (act : Act) → IsQuiet act replies.StoreTrapped
trapped-quiet act = record { name = λ side. trapped-name side act; number = λ k m. trapped-number k m act; code = refl }

bad-quiet : (side : Side) (end : NamedEnd) (address count s : ℕ) → IsQuiet (OnEnd side end (Operate address count)) (replies.BadItem s)
bad-quiet side end address count s = record { name = λ on polls. refl; number = λ k m. refl; code = refl }

-- ## The machine's steps

module _ (state : State) (h : Holds state) (none : HasNoHost state) where
  abbrev w : World
  w = without_hosts state

  -- only whether the store is trapped may change then
  quiet : (act : Act) (reply : Reply) (b : Bool) → IsQuiet act reply → Happening (host_moment w (Acts act) reply (without_hosts (record state { trapped = b })))
  quiet act reply b q = ToNone (λ k. (
    silent k,
    record {
      stream = refl;
      writer = λ n o. record { producer = refl; kept = refl; holds = refl };
      reader = λ r o. record { consumer = refl; holds = refl };
    },
  )) refl
    where
      silent : (k : ℕ) → Silent k (host_moment w (Acts act) reply (without_hosts (record state { trapped = b })))
      silent k =
          let m = host_moment w (Acts act) reply (without_hosts (record state { trapped = b })) in
          silent-of k m
          (λ side. ap (λ xs. cond (names k side state act reply) xs []) (q.name side (polls_across k side m)) ∙ same_if (names k side state act reply) [])
          (q.number k m)
          (λ side. ap (λ xs. cond (names k side state act reply) xs []) q.code ∙ same_if (names k side state act reply) [])

  -- nothing refuses it
  performed-formed : (act : Act) → refusal state act ≡ None → Formed w h act (reacted w (performs state act))
  unfolding performs refusal
  performed-formed (OnEnd side end (Operate address count)) e = called-formed w h side end address count e (none (stream_named (named state end)) (opposite side))
  performed-formed (OnEnd side end Drop) e = drop-formed w h side end e (none (stream_named (named state end)) (opposite side))
  performed-formed (OnEnd side end Cancel) e = cancel-formed w h side end e
  performed-formed (OnEnd side end Lift) e = lift-formed w h side end e
  performed-formed (Transfer end to) e = transfer-formed w h end to e
  performed-formed (OnLoose s (Lower g ty)) e = lower-formed w h s g ty e
  performed-formed (OnLoose s Close) e = close-formed w h s e (none s Writing)
  performed-formed (OnHost n act) e = cc
  performed-formed Drive e = ToNone (λ k. (record { events = refl; answers = refl }, stays-itself k w)) refl
  performed-formed (Event g handle) e = event-formed w h g handle e
  performed-formed (Make making) e = rest-formed w h (Make making) refl
  performed-formed (OnSet g set act) e = rest-formed w h (OnSet g set act) refl
  performed-formed (OnContext g handle act) e = rest-formed w h (OnContext g handle act) refl
  performed-formed (OnMemory g act) e = rest-formed w h (OnMemory g act) refl

  module _ (step : Step) where
    abbrev act : Act
    act = act_of step

    abbrev after : State
    after = (react state step).state

    abbrev Happens : Reaction → Type 0
    Happens r = Happening (host_moment w (Acts act) r.reply (without_hosts r.state))

    -- where an item is bad nothing happens to a stream
    replied-happens : (t : state.trapped ≡ false) (reply : Reply) → (react state step).reply ≡ reply → IfGoes (of_reply reply (without_hosts after)) (λ reply v. Happening (host_moment w (Acts act) reply v))
        → Happening (host_moment w (Acts act) reply (without_hosts after))
    replied-happens t (replies.BadItem k) e f =
        let asked = (reply-bad state step k t e).asked in
        subst (λ x. Happening (host_moment w (Acts act) (replies.BadItem k) (without_hosts x))) (sym (bad-keeps state step k e))
        (subst (λ a. Happening (host_moment w (Acts a) (replies.BadItem k) (without_hosts (record state { trapped = true })))) (sym asked.does)
        (quiet (OnEnd asked.side asked.end (Operate asked.address asked.count)) (replies.BadItem k) true (bad-quiet asked.side asked.end asked.address asked.count k)))
    replied-happens t replies.StoreTrapped e f = absurd (let wrong : true ≡ false = sym (told-trapped state step e) ∙ t in cc)
    replied-happens t _ e f = f

    step-happens : Happens (react state step)
    step-happens = by state.trapped (refusal state act) refl refl
      where
        by : (b : Bool) (o : Option Refusal) → state.trapped ≡ b → refusal state act ≡ o → Happens (react state step)
        by true o t e = subst Happens (sym (reaction-trapped state act t)) (quiet act replies.StoreTrapped state.trapped (trapped-quiet act))
        by false (Some r) t e = subst Happens (sym (reaction-refused state act r t e)) (refused-happening w act r)
        by false None t e =
            replied-happens t (react state step).reply refl
            (subst (λ r. Formed w h act (reacted w r)) (sym (reaction-performs state act t e)) (performed-formed act e))

    step-apart : length after.streams ≡ length state.streams → (s : ℕ) → IsApart s (moment_of state step)
    step-apart many s =
        let m = moment_of state step in
        record {
          by_self = happening-by_self (among_guests m) (λ k l. (reaction_streams state act h.sound).kind k l) step-happens s;
          leaves = λ e. elim (cases_lt s (length state.streams)) [
            | inl l ↦ (happening-leaves (among_guests m) step-happens s l e).stream
            | inr l ↦ get_or_past after.streams s no_stream (omega (arith, l, many)) ∙ sym (get_or_past state.streams s no_stream l)
          ];
        }

-- ## A making

module _ (n : ℕ) (state : State) (h : IsLawful state) (held : StateIsHeld state) (free : IsFree state.streams n) (writer reader : ℕ) (ty : TransmitIndex) (fits : PairFits state writer reader ty) where
  abbrev making : Act
  making = Make (makings.Between writer reader ty)

  abbrev then_ : Reaction
  then_ = goes_then n state h held free writer reader ty fits

  -- other streams
  made-apart : (s : ℕ) → is_made_in s (as_moment state making then_) ≡ false → IsApart s (as_moment state making then_)
  unfolding with_pair_at
  made-apart s u =
      let p = puts n state h held free writer reader ty fits in
      let ne = apart_from n state h held free writer reader ty fits s u in
      let stays : stream_at then_.state s ≡ stream_at state s = same n state h held free writer reader ty fits s ne in
      record {
        by_self = record {
          made = λ l. record {
            answers = refl;
            course = course-stays s (without_hosts state) (without_hosts then_.state) (record {
              stream = stays;
              writer = λ k o. record { producer = refl; kept = refl; holds = refl };
              reader = λ k o. record { consumer = refl; holds = refl };
            });
            kind = ap (λ (x : Stream). x.kind) stays;
            made = omega (arith, l, p.grows);
          };
          making = λ l k. absurd (let was = p.was s ne k in omega (arith, l, was));
          unmade = λ l k. record { answers = refl; nothing = refl };
        };
        leaves = λ e. stays;
      }

  -- and the one that is made
  made-begins : (s : ℕ) → is_made_in s (as_moment state making then_) ≡ true → course_of s (without_hosts then_.state) ≡ fresh_course (stream_at then_.state s).kind
  made-begins s e =
      let v = without_hosts then_.state in
      let is = ap (stream_at then_.state) (is_it n state h held free writer reader ty fits s e) ∙ here n state h held free writer reader ty fits in
      ap (λ (x : Stream). seen x (held_for v x.writer.owner) (over_for v x.writer.owner)) is
      ∙ ap fresh_course (sym (ap (λ (x : Stream). x.kind) is))

-- ## Whichever step

pub goes_apart : (n : ℕ) (state : State) (step : Step) → IsLawful state → StateIsHeld state → IsFree state.streams n → IsAmong state → GoesApart state (act_of step) (reacts_at n state step)
goes_apart n state step h held free a = by (reacts_at n state step) (reaction_goes n state (act_of step))
  where
    by : (r : Reaction) → Goes n state (act_of step) r → GoesApart state (act_of step) r
    by r (Makes writer reader ty does fits e) = rw (e, does) (record {
      apart = made-apart n state h held free writer reader ty fits;
      begins = made-begins n state h held free writer reader ty fits;
    })
    by r (Rests e many unmade) = record {
      apart = λ s u.
          subst (λ x. length x.state.streams ≡ length state.streams → IsApart s (as_moment state (act_of step) x)) (sym e)
          (λ many. step-apart state (holds_among state h.sound held a) a.none step many s) many;
      begins = λ s made. absurd (let wrong : true ≡ false = sym made ∙ unmade s in cc);
    }
