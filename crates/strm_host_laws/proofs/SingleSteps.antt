-- What the machine does without host ends is nothing to a stream, or one event of it; and that leads where its
-- course leads.
use Rattle.std.proofs.Common.{◌≡◌, ◌≢◌, ℕ, ◌<◌, Bool, true, false, cond, List, [], ◌∷◌, length, set, is_some, Option, Some, None, refl, sym, ap, subst, ◌∙◌, length-set}
use Rattle.std.specs.Prelude.{◌==◌, not}
use Rattle.std.proofs.lemmas.Bool.{ne_eqb, eq-eqb}
use Rattle.std.proofs.lemmas.List.{get_or-set_same}
use Rattle.strm_codes.specs.declared.codes.ReturnCode.{ReturnCode}
use Rattle.strm_codes.specs.declared.codes.TransmitIndex.{TransmitIndex}
use Rattle.strm_codes.specs.declared.refusals.Refusal.{Refusal}
use Rattle.strm_codes.specs.declared.refusals.Refusal.TheVariants as refusals
use Rattle.strm_machine.specs.State.{Guest, no_stream, is_host, is_loose}
use Rattle.strm_machine.specs.Sides.{opposite, end_of}
use Rattle.strm_machine.specs.Operating.{Operated}
use Rattle.strm_machine.specs.Endings.{report_on, delivered, dropped, cancelled, cancelled_end, code_of_cancel, waits_for_host}
use Rattle.strm_machine.specs.Moves.{without_handle, next_in, handle_given, with_owner}
use Rattle.strm_machine.specs.Tests.{named, end_named, stream_named, side_named, items_asked, is_busy, is_cancel_under_way}
use Rattle.strm_machine.specs.Moments.{names}
use Rattle.strm_machine.specs.Refusals.{where_, on_end_reasons, first_of, refusal}
use Rattle.strm_machine.specs.Reactions.{written_back, on_end, polls, performs}
use Rattle.strm_machine.specs.declared.acts.Act.{Act}
use Rattle.strm_machine.specs.declared.acts.Act.TheVariants.{OnEnd, Transfer, OnLoose, OnHost, Event, OnSet}
use Rattle.strm_machine.specs.declared.acts.EndAct.{EndAct}
use Rattle.strm_machine.specs.declared.acts.EndAct.TheVariants.{Operate, Cancel, Drop, Lift}
use Rattle.strm_machine.specs.declared.acts.HostAct.TheVariants as host_acts
use Rattle.strm_machine.specs.declared.acts.LooseAct.{LooseAct}
use Rattle.strm_machine.specs.declared.acts.LooseAct.TheVariants.{Lower, Close}
use Rattle.strm_machine.specs.declared.acts.NamedEnd.{NamedEnd}
use Rattle.strm_machine.specs.declared.acts.SetAct.TheVariants as set_acts
use Rattle.strm_machine.specs.declared.replies.Reply.{Reply}
use Rattle.strm_machine.specs.declared.replies.Reply.TheVariants as replies
use Rattle.strm_machine.specs.declared.streams.Owner.{Owner}
use Rattle.strm_machine.specs.declared.streams.Owner.TheVariants.{Held, Loose, Host, Gone}
use Rattle.strm_machine.specs.declared.streams.Side.{Side}
use Rattle.strm_machine.specs.declared.streams.Side.TheVariants.{Writing, Reading}
use Rattle.strm_machine.specs.declared.streams.Stream.{Stream}
use Rattle.strm_machine.proofs.NamedEndLemmas.{NamesEnd, IsFound, on_end-found, event-found}
use Rattle.strm_machine.proofs.ReactionLemmas.{reaction-performs}
use Rattle.strm_machine.proofs.RefusalLemmas.{NamedFits, named_fits, named_ok, event_fits, drop_fits, lift_fits, move_fits, lower_fits, close_fits}
use Rattle.strm_machine.proofs.ShapeLemmas.{operate-fits}
use Rattle.strm_machine.proofs.Shapes.{turn_on, begun_on, Operates}
use Rattle.strm_machine.proofs.SideLemmas.{same_side_is}
use Rattle.strm_machine.proofs.SoundStepLemmas.{operate-keeps}
use Rattle.strm_host_machine.specs.Courses.{Course, CoursePoll, StreamEvent, AGuest, NoGuest, Calls, Hears, Cancels, Drops, Moves, reaches, end_on, with_holder, dropped_by, moved_to, is_answered, course_by}
use Rattle.strm_host_machine.specs.Outcomes.{Outcome, reacted}
use Rattle.strm_host_machine.specs.Steps.{reacts}
use Rattle.strm_host_machine.specs.World.{World, stream_in}
use Rattle.strm_host_machine.proofs.SettleLemmas.{delivered-owners}
use Rattle.strm_host_laws.specs.HostMoments.{Acts, HostMoment}
use Rattle.strm_host_laws.specs.Isolation.{StreamStaysWhole}
use Rattle.strm_host_laws.specs.StreamEvents.{polls_across, by_name, by_loose_act, events_by_number, code_answered}
use Rattle.strm_host_laws.proofs.Tracing.{holder_of, held_for, over_for, seen, course_of}
use Rattle.strm_host_laws.proofs.CourseLemmas.{delivered-seen, cancelled-seen, owner-seen, dropped-seen, operate-seen}
use Rattle.strm_host_laws.proofs.GoingRules.{with_state, IfGoes}
use Rattle.strm_host_laws.proofs.TurnsStand.{Holds}
use Rattle.strm_host_laws.proofs.PartEffects.{loose_made}
use Rattle.strm_host_laws.proofs.Apart.{OnlyAt, WritesIt, ReadsIt, only-set, stays-apart}
use Rattle.strm_host_laws.proofs.Happenings.{moment_at, Silent, silent-of, Happening, ToNone, ToOne, named-silent, named-events, named-answers}

-- ## A stream that is set to another

abbrev pub set_one : World → List Guest → ℕ → Stream → World
set_one w guests s x = with_state w (record w.state { guests = guests; streams = set w.state.streams s x })

held-unhosted : (w : World) (o : Owner) → is_host o ≡ false → held_for w o ≡ 0
held-unhosted w (Host n) e = cc
held-unhosted w (Held g handle) e = refl
held-unhosted w Loose e = refl
held-unhosted w Gone e = refl

over-unhosted : (w : World) (o : Owner) → is_host o ≡ false → over_for w o ≡ false
over-unhosted w (Host n) e = cc
over-unhosted w (Held g handle) e = refl
over-unhosted w Loose e = refl
over-unhosted w Gone e = refl

-- of a stream that no host writer writes
pub unhosted-course : (s : ℕ) (w : World) → is_host (stream_in w s).writer.owner ≡ false → course_of s w ≡ seen (stream_in w s) 0 false
unhosted-course s w e =
    ap (λ k. seen (stream_in w s) k (over_for w (stream_in w s).writer.owner)) (held-unhosted w (stream_in w s).writer.owner e)
    ∙ ap (seen (stream_in w s) 0) (over-unhosted w (stream_in w s).writer.owner e)

module _ (w : World) (guests : List Guest) (s : ℕ) (x : Stream) (made : s < length w.state.streams) where
  abbrev v : World
  v = set_one w guests s x

  pub set-here : stream_in v s ≡ x
  set-here = get_or-set_same w.state.streams s x no_stream made

  -- as what is held for it was
  pub set-course : course_of s v ≡ seen x (held_for w x.writer.owner) (over_for w x.writer.owner)
  set-course =
      ap (λ (y : Stream). seen y (held_for v y.writer.owner) (over_for v y.writer.owner)) set-here
      ∙ same x.writer.owner
    where
      same : (o : Owner) → seen x (held_for v o) (over_for v o) ≡ seen x (held_for w o) (over_for w o)
      same (Host n) = refl
      same (Held g handle) = refl
      same Loose = refl
      same Gone = refl

  -- of a writer that stays
  pub set-course_of : (o : Owner) → x.writer.owner ≡ o → course_of s v ≡ seen x (held_for w o) (over_for w o)
  set-course_of o e = set-course ∙ ap (λ p. seen x (held_for w p) (over_for w p)) e

  -- where no host writer writes it then
  pub set-course_unhosted : is_host x.writer.owner ≡ false → course_of s v ≡ seen x 0 false
  set-course_unhosted e =
      set-course
      ∙ ap (λ k. seen x k (over_for w x.writer.owner)) (held-unhosted w x.writer.owner e)
      ∙ ap (seen x 0) (over-unhosted w x.writer.owner e)

-- ## What names nothing

refused-name : (side : Side) (act : Act) (r : Refusal) (polls : List CoursePoll) → by_name side act (replies.Refused r) polls ≡ []
refused-name side (OnEnd on end (Operate address count)) r polls = refl
refused-name side (OnEnd on end Cancel) r polls = refl
refused-name side (OnEnd on end Drop) r polls = refl
refused-name side (OnEnd on end Lift) r polls = refl
refused-name side (Transfer end to) r polls = refl
refused-name side (Event g handle) r polls = refl
refused-name side (OnSet g set set_acts.Poll) r polls = refl
refused-name side (OnSet g set (set_acts.Join handle)) r polls = refl
refused-name side (OnSet g set set_acts.Drop) r polls = refl
refused-name side _ r polls = refl

same_if : {A : Type 0} (b : Bool) (x : A) → cond b x x ≡ x
same_if true x = refl
same_if false x = refl

refused-number : (k : ℕ) (m : HostMoment) (act : Act) (r : Refusal) → events_by_number k m (Acts act) (replies.Refused r) ≡ []
refused-number k m (OnLoose reader (Lower g ty)) r = same_if (reader == k) []
refused-number k m (OnLoose reader Close) r = same_if (reader == k) []
refused-number k m (OnHost host host_acts.New) r = refl
refused-number k m (OnHost host (host_acts.Feed bytes)) r = refl
refused-number k m (OnHost host (host_acts.Pipe reader)) r = refl
refused-number k m (OnHost host (host_acts.Grant count)) r = refl
refused-number k m _ r = refl

-- the world stays
pub stays-itself : (k : ℕ) (w : World) → StreamStaysWhole k w w
stays-itself k w = record {
  stream = refl;
  writer = λ n o. record { producer = refl; kept = refl; holds = refl };
  reader = λ r o. record { consumer = refl; holds = refl };
}

-- a refused step is nothing to any stream
pub refused-happening : (w : World) (act : Act) (r : Refusal) → Happening (moment_at w (Acts act) (replies.Refused r) w)
refused-happening w act r = ToNone (λ k. (silent k, stays-itself k w)) refl
  where
    silent : (k : ℕ) → Silent k (moment_at w (Acts act) (replies.Refused r) w)
    silent k =
        let m = moment_at w (Acts act) (replies.Refused r) w in
        silent-of k m
        (λ side. ap (λ xs. cond (names k side w.state act (replies.Refused r)) xs []) (refused-name side act r (polls_across k side m)) ∙ same_if (names k side w.state act (replies.Refused r)) [])
        (refused-number k m act r)
        (λ side. same_if (names k side w.state act (replies.Refused r)) [])

-- ## An end that goes

cancelled-owner : (side : Side) (stream : Stream) → (cancelled side stream).writer.owner ≡ stream.writer.owner
unfolding cancelled
cancelled-owner Writing stream = by (waits_for_host Writing stream)
  where
    by : (b : Bool) → (cancelled_end b (code_of_cancel Writing stream) stream.writer).owner ≡ stream.writer.owner
    by true = refl
    by false = refl
cancelled-owner Reading stream = refl

dropped-writer : (side : Side) (stream : Stream) → is_host stream.writer.owner ≡ false → is_host (dropped side stream).writer.owner ≡ false
unfolding dropped
dropped-writer Writing stream e = refl
dropped-writer Reading stream e = e

-- of both sides, the write end's owner
writer-of : (P : Owner → Type 0) (side : Side) (stream : Stream) → P (end_of (opposite side) stream).owner → P (end_of side stream).owner → P stream.writer.owner
writer-of P Writing stream a b = b
writer-of P Reading stream a b = a

pub holder-across : (side : Side) (stream : Stream) (held : ℕ) (over : Bool) → (end_on (opposite side) (seen stream held over)).holder ≡ holder_of (end_of (opposite side) stream).owner
holder-across Writing stream held over = refl
holder-across Reading stream held over = refl

-- no host end has an end of a stream
pub record IsUnhosted (side : Side) (stream : Stream) : Type 0 where
  pub alone : is_host (end_of (opposite side) stream).owner ≡ false
  pub own : is_host (end_of side stream).owner ≡ false

-- an end of such a stream is dropped
pub drops-course : (w : World) (guests : List Guest) (s : ℕ) (side : Side) → s < length w.state.streams → IsUnhosted side (stream_in w s)
    → course_by (Drops side) (course_of s w) ≡ reaches None (course_of s (set_one w guests s (dropped side (stream_in w s))))
unfolding course_by
drops-course w guests s side made u =
    let stream = stream_in w s in
    let across = (end_of (opposite side) stream).owner in
    let writer = writer-of (λ o. is_host o ≡ false) side stream u.alone u.own in
    ap (λ c. reaches None (dropped_by (end_on (opposite side) c).holder side c)) (unhosted-course s w writer)
    ∙ ap (λ h. reaches None (dropped_by h side (seen stream 0 false))) (holder-across side stream 0 false)
    ∙ ap (reaches None) (dropped-seen side stream across u.alone ∙ sym (set-course_unhosted w guests s (dropped side stream) made (dropped-writer side stream writer)))

-- an act names an end of stream s on a side, and is an event of it, which is answered so, and leads where its
-- course leads
pub record NamesOne (w : World) (act : Act) (reply : Reply) (v : World) (s : ℕ) (side : Side) : Type 0 where
  pub made : s < length w.state.streams
  pub named : NamesEnd w.state act reply s side
  pub free : (k : ℕ) → events_by_number k (moment_at w (Acts act) reply v) (Acts act) reply ≡ []
  pub event : StreamEvent
  pub code : Option ReturnCode
  pub is_event : by_name side act reply (polls_across s side (moment_at w (Acts act) reply v)) ≡ event ∷ []
  pub answers : code_answered reply ≡ cond (is_answered event) (code ∷ []) []
  pub course : course_by event (course_of s w) ≡ reaches code (course_of s v)

-- the same of an act on a loose read end, which is not answered
pub record LooseOne (w : World) (s : ℕ) (act : LooseAct) (reply : Reply) (v : World) : Type 0 where
  pub made : s < length w.state.streams
  pub event : StreamEvent
  pub unanswered : is_answered event ≡ false
  pub is_event : by_loose_act act reply ≡ event ∷ []
  pub course : course_by event (course_of s w) ≡ reaches None (course_of s v)

-- nothing changes but stream s and its host ends
pub record ChangesOne (w v : World) (s : ℕ) : Type 0 where
  pub only : OnlyAt s (WritesIt w s) (ReadsIt w s) w v
  pub many : length v.state.streams ≡ length w.state.streams

set-changes : (w : World) (guests : List Guest) (s : ℕ) (x : Stream) → ChangesOne w (set_one w guests s x) s
set-changes w guests s x = record { only = only-set s (WritesIt w s) (ReadsIt w s) w guests x; many = length-set w.state.streams s x }

module _ (w : World) (h : Holds w.state) where
  abbrev pub Formed : Act → Outcome → Type 0
  Formed act o = IfGoes o (λ reply v. Happening (moment_at w (Acts act) reply v))

  -- one event of the stream that is named
  pub named_one : (act : Act) (reply : Reply) (v : World) (s : ℕ) (side : Side) → NamesOne w act reply v s side → ChangesOne w v s → Happening (moment_at w (Acts act) reply v)
  named_one act reply v s side o c =
      ToOne s o.made
      (record {
        event = o.event;
        code = o.code;
        events = named-events w act reply v s side o.named o.free ∙ o.is_event;
        answers = named-answers w act reply v s side o.named o.free ∙ o.answers;
        course = o.course;
      })
      (λ k ne. (named-silent w act reply v s side o.named o.free k ne, stays-apart s k w v h.hosts c.only ne))
      c.many

  -- which is set to another
  pub single : (act : Act) (reply : Reply) (guests : List Guest) (s : ℕ) (x : Stream) (side : Side) → NamesOne w act reply (set_one w guests s x) s side → Happening (moment_at w (Acts act) reply (set_one w guests s x))
  single act reply guests s x side o = named_one act reply (set_one w guests s x) s side o (set-changes w guests s x)

  -- where nothing refuses it, it is what it performs
  pub reacts-formed : (act : Act) → w.state.trapped ≡ false → refusal w.state act ≡ None → Formed act (reacted w (performs w.state act)) → Formed act (reacts w act)
  reacts-formed act t e f = subst (λ r. Formed act (reacted w r)) (sym (reaction-performs w.state act t e)) f

  pub found-on : (side : Side) (end : NamedEnd) (act : EndAct) → NamedFits w.state side end → IsFound w.state (OnEnd side end act) end.guest end.handle (stream_named (named w.state end)) side
  found-on side end act fits = on_end-found w.state side end act h.sound fits.there (named_ok w.state end fits.found) (same_side_is side (side_named (named w.state end)) fits.same)

  -- a guest has the end
  pub guest_has : (s g handle : ℕ) (side : Side) → (end_of side (stream_in w s)).owner ≡ Held g handle → is_host (end_of side (stream_in w s)).owner ≡ false
  guest_has s g handle side e = ap is_host e

  -- ## A READ OR WRITE

  module _ (side : Side) (end : NamedEnd) (address count : ℕ) where
    abbrev here : ℕ
    here = stream_named (named w.state end)

    abbrev calling : Act
    calling = OnEnd side end (Operate address count)

    abbrev its_turn : Operated
    its_turn = turn_on w.state side end address count

    pub called-formed : first_of (on_end_reasons w.state side end (Operate address count)) ≡ None → is_host (end_of (opposite side) (stream_in w here)).owner ≡ false → Formed calling (reacted w (written_back w.state here its_turn its_turn.code))
    called-formed e alone = by its_turn.code refl
      where
        o : Operates w.state side end address count
        o = operate-fits w.state side end address count h.sound e

        by : (c : Option ReturnCode) → its_turn.code ≡ c → Formed calling (reacted w (written_back w.state here its_turn c))
        by None f = tt
        by (Some code) f =
            let s = here in
            let t = its_turn in
            let v = set_one w t.guests s t.stream in
            let stream = stream_in w s in
            let owner = stream.writer.owner in
            let polls = polls_across s side (moment_at w (Acts calling) (replies.Code code) v) in
            single calling (replies.Code code) t.guests s t.stream side (record {
              made = o.found.made;
              named = o.found.named (replies.Code code);
              free = λ k. refl;
              event = Calls side (items_asked end.ty count) polls;
              code = Some code;
              is_event = refl;
              answers = refl;
              course = operate-seen (held_for w owner) (over_for w owner) side w.state.guests stream (begun_on end address count) polls alone refl (ap is_some f)
                  ∙ ap (λ c. reaches c (seen t.stream (held_for w owner) (over_for w owner))) f
                  ∙ ap (reaches (Some code)) (sym (set-course_of w t.guests s t.stream o.found.made owner (operate-keeps w.state side end address count o).stream.writer));
            })

  -- ## WHAT IS DONE TO AN END

  module _ (side : Side) (end : NamedEnd) where
    abbrev at : ℕ
    at = stream_named (named w.state end)

    abbrev it : Stream
    it = stream_in w at

    pub cancel-formed : first_of (on_end_reasons w.state side end Cancel) ≡ None → Formed (OnEnd side end Cancel) (reacted w (on_end w.state side end Cancel))
    unfolding course_by
    cancel-formed e =
        let fits = named_fits w.state side end (where_ (not (is_busy side it)) refusals.NoPending ∷ where_ (is_cancel_under_way side it) refusals.CancelUnderWay ∷ []) e in
        let found = found-on side end Cancel fits.0 in
        let code = code_of_cancel side it in
        let x = cancelled side it in
        single (OnEnd side end Cancel) (replies.Code code) w.state.guests at x side (record {
          made = found.made;
          named = found.named (replies.Code code);
          free = λ k. refl;
          event = Cancels side;
          code = Some code;
          is_event = refl;
          answers = refl;
          course = cancelled-seen (held_for w it.writer.owner) (over_for w it.writer.owner) side it
              ∙ ap (reaches (Some code)) (sym (set-course_of w w.state.guests at x found.made it.writer.owner (cancelled-owner side it)));
        })

    -- another owner, that no host end is
    owned-course : (guests : List Guest) (o : Owner) → at < length w.state.streams → is_host o ≡ false → is_host (end_of side it).owner ≡ false → with_holder side (course_of at w) (holder_of o) ≡ course_of at (set_one w guests at (with_owner side it o))
    owned-course guests o made new old = by side new old
      where
        by : (side : Side) → is_host o ≡ false → is_host (end_of side it).owner ≡ false → with_holder side (course_of at w) (holder_of o) ≡ course_of at (set_one w guests at (with_owner side it o))
        by Writing new old =
            ap (λ c. with_holder Writing c (holder_of o)) (unhosted-course at w old)
            ∙ owner-seen 0 false Writing it o
            ∙ sym (set-course_unhosted w guests at (with_owner Writing it o) made new)
        by Reading new old =
            owner-seen (held_for w it.writer.owner) (over_for w it.writer.owner) Reading it o
            ∙ sym (set-course w guests at (with_owner Reading it o) made)

    moved-course : (guests : List Guest) (o : Owner) → at < length w.state.streams → is_host o ≡ false → is_host (end_of side it).owner ≡ false → course_by (Moves side (holder_of o)) (course_of at w) ≡ reaches None (course_of at (set_one w guests at (with_owner side it o)))
    unfolding course_by
    moved-course guests o made new old = ap (reaches None) (to side o new (course_of at w) ∙ owned-course guests o made new old)
      where
        to : (side : Side) (o : Owner) → is_host o ≡ false → (c : Course) → moved_to side (holder_of o) c ≡ with_holder side c (holder_of o)
        to Writing o e c = refl
        to Reading (Held g handle) e c = refl
        to Reading Loose e c = refl
        to Reading Gone e c = refl
        to Reading (Host n) e c = cc

    pub lift-formed : first_of (on_end_reasons w.state side end Lift) ≡ None → Formed (OnEnd side end Lift) (reacted w (on_end w.state side end Lift))
    lift-formed e =
        let fits = lift_fits w.state side end e in
        let found = found-on side end Lift (record { there = fits.there; found = fits.found; same = fits.same }) in
        let reply = replies.Number at in
        let guests = (without_handle w.state end.guest end.handle).guests in
        single (OnEnd side end Lift) reply guests at (with_owner side it Loose) side (record {
          made = found.made;
          named = found.named reply;
          free = λ k. refl;
          event = Moves side NoGuest;
          code = None;
          is_event = refl;
          answers = refl;
          course = moved-course guests Loose found.made refl (guest_has at end.guest end.handle side (h.held.agree.named end.guest end.handle at side found.held));
        })

    pub drop-formed : first_of (on_end_reasons w.state side end Drop) ≡ None → is_host (end_of (opposite side) it).owner ≡ false → Formed (OnEnd side end Drop) (reacted w (on_end w.state side end Drop))
    drop-formed e alone =
        let fits = drop_fits w.state side end e in
        let found = found-on side end Drop (record { there = fits.there; found = fits.found; same = fits.same }) in
        let guests = (without_handle w.state end.guest end.handle).guests in
        single (OnEnd side end Drop) replies.Done guests at (dropped side it) side (record {
          made = found.made;
          named = found.named replies.Done;
          free = λ k. refl;
          event = Drops side;
          code = None;
          is_event = refl;
          answers = refl;
          course = drops-course w guests at side found.made (record { alone = alone; own = guest_has at end.guest end.handle side (h.held.agree.named end.guest end.handle at side found.held) });
        })

  -- ## A MOVE, AND WHAT AN END IS TOLD

  pub transfer-formed : (end : NamedEnd) (to : ℕ) → refusal w.state (Transfer end to) ≡ None → Formed (Transfer end to) (reacted w (performs w.state (Transfer end to)))
  unfolding performs
  transfer-formed end to e =
      let s = stream_named (named w.state end) in
      let side = side_named (named w.state end) in
      let fits = (move_fits w.state end to e).leaves in
      let found = found-on side end Lift (record { there = fits.there; found = fits.found; same = fits.same }) in
      let freed = without_handle w.state end.guest end.handle in
      let number = next_in freed to in
      let reply = replies.Number number in
      single (Transfer end to) reply (handle_given freed to side end.ty s).guests s (with_owner side (stream_in w s) (Held to number)) side (record {
        made = found.made;
        named = found.named reply;
        free = λ k. refl;
        event = Moves side AGuest;
        code = None;
        is_event = refl;
        answers = refl;
        course = moved-course side end (handle_given freed to side end.ty s).guests (Held to number) found.made refl (guest_has s end.guest end.handle side (h.held.agree.named end.guest end.handle s side found.held));
      })

  -- an end is told its report
  pub hears-course : (s : ℕ) (side : Side) → s < length w.state.streams → course_by (Hears side) (course_of s w) ≡ reaches (report_on side (stream_in w s)) (course_of s (set_one w w.state.guests s (delivered side (stream_in w s))))
  unfolding course_by
  hears-course s side made =
      let stream = stream_in w s in
      let owner = stream.writer.owner in
      delivered-seen (held_for w owner) (over_for w owner) side stream
      ∙ ap (reaches (report_on side stream)) (sym (set-course_of w w.state.guests s (delivered side stream) made owner (delivered-owners side stream).writer))

  pub event-formed : (g handle : ℕ) → refusal w.state (Event g handle) ≡ None → Formed (Event g handle) (reacted w (performs w.state (Event g handle)))
  unfolding performs
  event-formed g handle e =
      let s = stream_named (end_named w.state g handle) in
      let side = side_named (end_named w.state g handle) in
      let found = event-found w.state g handle h.sound (event_fits w.state g handle e) in
      let code = report_on side (stream_in w s) in
      single (Event g handle) (replies.Event code) w.state.guests s (delivered side (stream_in w s)) side (record {
        made = found.made;
        named = found.named (replies.Event code);
        free = λ k. refl;
        event = Hears side;
        code = code;
        is_event = refl;
        answers = refl;
        course = hears-course s side found.made;
      })

  -- ## WHAT IS DONE BY A NUMBER

  number-silent : (k s : ℕ) (act : LooseAct) (reply : Reply) (v : World) → k ≢ s → Silent k (moment_at w (Acts (OnLoose s act)) reply v)
  number-silent k s act reply v ne =
      silent-of k (moment_at w (Acts (OnLoose s act)) reply v) (λ side. refl)
      (ap (λ b. cond b (by_loose_act act reply) []) (ne_eqb s k (λ e. ne (sym e)))) (λ side. refl)

  -- one event of the stream of a loose read end
  pub loose_one : (s : ℕ) (act : LooseAct) (reply : Reply) (v : World) → LooseOne w s act reply v → ChangesOne w v s → Happening (moment_at w (Acts (OnLoose s act)) reply v)
  loose_one s act reply v o c =
      ToOne s o.made
      (record {
        event = o.event;
        code = None;
        events = ap (λ b. cond b (by_loose_act act reply) []) (eq-eqb s s refl) ∙ o.is_event;
        answers = ap (λ b. cond b (None ∷ []) []) (sym o.unanswered);
        course = o.course;
      })
      (λ k ne. (number-silent k s act reply v ne, stays-apart s k w v h.hosts c.only ne))
      c.many

  loosely : (s : ℕ) (act : LooseAct) (reply : Reply) (guests : List Guest) (x : Stream) → LooseOne w s act reply (set_one w guests s x) → Happening (moment_at w (Acts (OnLoose s act)) reply (set_one w guests s x))
  loosely s act reply guests x o = loose_one s act reply (set_one w guests s x) o (set-changes w guests s x)

  loose_unhosted : (o : Owner) → is_loose o ≡ true → is_host o ≡ false
  loose_unhosted Loose e = refl
  loose_unhosted (Held g handle) e = cc
  loose_unhosted (Host n) e = cc
  loose_unhosted Gone e = cc

  pub lower-formed : (s g : ℕ) (ty : TransmitIndex) → refusal w.state (OnLoose s (Lower g ty)) ≡ None → Formed (OnLoose s (Lower g ty)) (reacted w (performs w.state (OnLoose s (Lower g ty))))
  unfolding performs course_by
  lower-formed s g ty e =
      let fits = lower_fits w.state s g ty e in
      let made = loose_made w.state s fits.loose in
      let number = next_in w.state g in
      let guests = (handle_given w.state g Reading ty s).guests in
      let x = with_owner Reading (stream_in w s) (Held g number) in
      loosely s (Lower g ty) (replies.Number number) guests x (record {
        made = made;
        event = Moves Reading AGuest;
        unanswered = refl;
        is_event = refl;
        course = moves s guests (Held g number) made;
      })
    where
      moves : (s : ℕ) (guests : List Guest) (o : Owner) → s < length w.state.streams → reaches None (with_holder Reading (course_of s w) (holder_of o)) ≡ reaches None (course_of s (set_one w guests s (with_owner Reading (stream_in w s) o)))
      moves s guests o made =
          ap (reaches None)
          (owner-seen (held_for w (stream_in w s).writer.owner) (over_for w (stream_in w s).writer.owner) Reading (stream_in w s) o
          ∙ sym (set-course w guests s (with_owner Reading (stream_in w s) o) made))

  pub close-formed : (s : ℕ) → refusal w.state (OnLoose s Close) ≡ None → is_host (stream_in w s).writer.owner ≡ false → Formed (OnLoose s Close) (reacted w (performs w.state (OnLoose s Close)))
  unfolding performs
  close-formed s e alone =
      let loose = close_fits w.state s e in
      let made = loose_made w.state s loose in
      loosely s Close replies.Done w.state.guests (dropped Reading (stream_in w s)) (record {
        made = made;
        event = Drops Reading;
        unanswered = refl;
        is_event = refl;
        course = drops-course w w.state.guests s Reading made (record { alone = alone; own = loose_unhosted (stream_in w s).reader.owner loose });
      })
