-- What the machine does by a poll of a set is an event of the member that it tells; a pair makes a stream; and
-- what else is done without host ends is nothing to a stream.
use Rattle.std.proofs.Common.{◌≡◌, ℕ, Bool, true, false, List, [], ◌∷◌, length, set, is_some, Option, Some, None, Ok, Err, refl, sym, ap, subst, ◌∙◌, arith, length-append}
use Rattle.std.specs.Prelude.{is_ok}
use Rattle.strm_codes.specs.declared.codes.ReturnCode.{ReturnCode}
use Rattle.strm_codes.specs.declared.codes.TransmitIndex.{TransmitIndex}
use Rattle.strm_machine.specs.State.{Guest}
use Rattle.strm_machine.specs.Endings.{report_on, delivered}
use Rattle.strm_machine.specs.Making.{made_stream, made_pair, with_stream}
use Rattle.strm_machine.specs.Tests.{Name, end_named, stream_named, side_named}
use Rattle.strm_machine.specs.WaitableSets.{set_named, number_named, report_of_named, ready_in}
use Rattle.strm_machine.proofs.SetStepLemmas.{ready_member-is}
use Rattle.strm_error_contexts.specs.Contexts.{Contexts}
use Rattle.strm_machine.specs.Reactions.{makes, member_told, polls, performs}
use Rattle.strm_machine.specs.declared.acts.Act.{Act}
use Rattle.strm_machine.specs.declared.acts.Act.TheVariants.{Make, OnSet, OnContext, OnMemory}
use Rattle.strm_machine.specs.declared.acts.ContextAct.TheVariants as context_acts
use Rattle.strm_machine.specs.declared.acts.Making.TheVariants as makings
use Rattle.strm_machine.specs.declared.acts.MemoryAct.TheVariants as memory_acts
use Rattle.strm_machine.specs.declared.acts.SetAct.TheVariants as set_acts
use Rattle.strm_machine.specs.declared.replies.Reply.{Reply}
use Rattle.strm_machine.specs.declared.replies.Reply.TheVariants as replies
use Rattle.strm_machine.specs.declared.streams.Side.{Side}
use Rattle.strm_machine.specs.declared.streams.Stream.{Stream}
use Rattle.strm_machine.proofs.NamedEndLemmas.{is_end_on, end_there}
use Rattle.strm_host_machine.specs.Courses.{Hears, reaches, fresh_course}
use Rattle.strm_host_machine.specs.Outcomes.{reacted}
use Rattle.strm_host_machine.specs.World.{World, stream_in}
use Rattle.strm_host_machine.proofs.SettleLemmas.{told-nothing}
use Rattle.strm_host_laws.specs.HostMoments.{Acts}
use Rattle.strm_host_laws.specs.Isolation.{StreamStaysWhole}
use Rattle.strm_host_laws.proofs.Tracing.{held_for, over_for, seen, course_of}
use Rattle.strm_host_laws.proofs.CourseRuns.{streams_in}
use Rattle.strm_host_laws.proofs.GoingRules.{with_state}
use Rattle.strm_host_laws.proofs.TurnsStand.{Holds}
use Rattle.strm_host_laws.proofs.Unmoved.{push-other}
use Rattle.strm_host_laws.proofs.Happenings.{moment_at, Silent, Happening, ToNone, Makes}
use Rattle.strm_host_laws.proofs.Apart.{push-here}
use Rattle.strm_host_laws.proofs.SingleSteps.{set_one, stays-itself, Formed, single, hears-course}

-- an act that names no end, and is not done by a number
abbrev pub is_rest : Act → Bool
is_rest (Make making) = true
is_rest (OnSet g set act) = true
is_rest (OnContext g handle act) = true
is_rest (OnMemory g act) = true
is_rest _ = false

module _ (w : World) (h : Holds w.state) where
  -- ## WHAT IS DONE TO NO STREAM

  -- where only tables and error contexts change
  abbrev set_none : List Guest → Contexts → World
  set_none guests contexts = with_state w (record w.state { guests = guests; contexts = contexts })

  quiet : (act : Act) (reply : Reply) (guests : List Guest) (contexts : Contexts) → ((k : ℕ) → Silent k (moment_at w (Acts act) reply (set_none guests contexts))) → Happening (moment_at w (Acts act) reply (set_none guests contexts))
  quiet act reply guests contexts silent = ToNone (λ k. (
    silent k,
    record {
      stream = refl;
      writer = λ n o. record { producer = refl; kept = refl; holds = refl };
      reader = λ r o. record { consumer = refl; holds = refl };
    },
  )) refl

  -- a poll of a set

  ready_ok : (name : Name) → is_some (report_of_named w.state name) ≡ true → is_ok name ≡ true
  ready_ok (Ok answer) e = refl
  ready_ok (Err error) e = cc

  module _ (g set handle : ℕ) (found : is_ok (end_named w.state g handle) ≡ true) where
    abbrev name : Name
    name = end_named w.state g handle

    abbrev told_stream : ℕ
    told_stream = stream_named name

    abbrev told_side : Side
    told_side = side_named name

    -- once it was told
    abbrev then_told : World
    then_told = set_one w w.state.guests told_stream (delivered told_side (stream_in w told_stream))

    member_tells : (c : Option ReturnCode) → report_on told_side (stream_in w told_stream) ≡ c → Happening (moment_at w (Acts (OnSet g set set_acts.Poll)) (replies.Member (member_told handle c)) then_told)
    member_tells (Some code) e =
        let made = end_there w.state g handle h.sound found in
        let reply = replies.Member (member_told handle (Some code)) in
        single w h (OnSet g set set_acts.Poll) reply w.state.guests told_stream (delivered told_side (stream_in w told_stream)) told_side (record {
          made = made;
          named = λ k other. is_end_on k told_side other name found refl;
          free = λ k. refl;
          event = Hears told_side;
          code = Some code;
          is_event = refl;
          answers = refl;
          course = hears-course w h told_stream told_side made ∙ ap (λ c. reaches c (course_of told_stream then_told)) e;
        })
    member_tells None e =
        let same : then_told ≡ w = ap (with_state w) (told-nothing w.state told_stream told_side e) in
        ToNone
        (λ k. (record { events = refl; answers = refl }, subst (StreamStaysWhole k w) (sym same) (stays-itself k w)))
        (ap streams_in same)

  poll-formed : (g set : ℕ) (o : Option ℕ) → ready_in w.state g set ≡ o → Formed w h (OnSet g set set_acts.Poll) (reacted w (polls w.state g o))
  poll-formed g set None e = quiet (OnSet g set set_acts.Poll) (replies.Member None) w.state.guests w.state.contexts (λ k. record { events = refl; answers = refl })
  poll-formed g set (Some handle) e =
      let name = end_named w.state g handle in
      let ready = (ready_member-is w.state g (number_named (set_named w.state g set)) handle e).0 in
      member_tells g set handle (ready_ok name ready) (report_on (side_named name) (stream_in w (stream_named name))) refl

  -- two guests get a stream
  between-formed : (writer reader : ℕ) (ty : TransmitIndex) → Formed w h (Make (makings.Between writer reader ty)) (reacted w (makes w.state (makings.Between writer reader ty)))
  unfolding with_stream
  between-formed writer reader ty =
      let pair = made_pair w.state writer reader ty in
      let x = made_stream ty writer pair.write reader pair.read in
      let v = with_state w (with_stream w.state writer reader ty) in
      let here : stream_in v (length w.state.streams) ≡ x = push-here w.state.streams x in
      Makes
      (record {
        answers = refl;
        unanswered = refl;
        course =
            ap (λ (y : Stream). seen y (held_for v y.writer.owner) (over_for v y.writer.owner)) here
            ∙ ap fresh_course (sym (ap (λ (y : Stream). y.kind) here));
      })
      (λ k ne. (
        record { events = refl; answers = refl },
        record {
          stream = push-other w.state.streams x k ne;
          writer = λ n o. record { producer = refl; kept = refl; holds = refl };
          reader = λ r o. record { consumer = refl; holds = refl };
        },
      ))
      (let long = length-append w.state.streams (x ∷ []) in omega (arith, long))

  pub rest-formed : (act : Act) → is_rest act ≡ true → Formed w h act (reacted w (performs w.state act))
  unfolding performs
  rest-formed (Make (makings.Guest size)) e = quiet _ _ _ _ (λ k. record { events = refl; answers = refl })
  rest-formed (Make (makings.Between writer reader ty)) e = between-formed writer reader ty
  rest-formed (Make (makings.Set g)) e = quiet _ _ _ _ (λ k. record { events = refl; answers = refl })
  rest-formed (Make (makings.Context g address len)) e = quiet _ _ _ _ (λ k. record { events = refl; answers = refl })
  rest-formed (OnSet g set (set_acts.Join handle)) e = quiet _ _ _ _ (λ k. record { events = refl; answers = refl })
  rest-formed (OnSet g set set_acts.Poll) e = poll-formed g set (ready_in w.state g set) refl
  rest-formed (OnSet g set set_acts.Drop) e = quiet _ _ _ _ (λ k. record { events = refl; answers = refl })
  rest-formed (OnContext g handle (context_acts.Text address)) e = quiet _ _ _ _ (λ k. record { events = refl; answers = refl })
  rest-formed (OnContext g handle (context_acts.Move to)) e = quiet _ _ _ _ (λ k. record { events = refl; answers = refl })
  rest-formed (OnContext g handle context_acts.Drop) e = quiet _ _ _ _ (λ k. record { events = refl; answers = refl })
  rest-formed (OnMemory g (memory_acts.Poke address bytes)) e = quiet _ _ _ _ (λ k. record { events = refl; answers = refl })
  rest-formed (OnMemory g (memory_acts.Dump address len)) e = quiet _ _ _ _ (λ k. record { events = refl; answers = refl })
  rest-formed _ e = cc
