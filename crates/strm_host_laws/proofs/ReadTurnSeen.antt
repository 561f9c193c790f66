-- What a turn of the host reader, and a write that is called, do to the write end of a stream that guests write and
-- a host reader reads.
use Rattle.std.proofs.Common.{◌≡◌, ◌≢◌, ℕ, ◌+◌, ◌^◌, ◌<◌, true, false, cond, [], ◌∷◌, length, Option, Some, None, refl, sym, ap, subst, ◌∙◌, inl, inr, arith, length-set}
use Rattle.std.proofs.lemmas.Bool.{cases_eq, true≢false}
use Rattle.std.proofs.lemmas.List.{get_or-set_same}
use Rattle.strm_codes.specs.declared.codes.ReturnCode.{ReturnCode}
use Rattle.strm_codes.specs.declared.codes.ReturnCode.TheVariants as codes
use Rattle.strm_codes.specs.declared.codes.StreamResult.{StreamResult}
use Rattle.strm_codes.specs.declared.codes.TransmitKind.{TransmitKind}
use Rattle.strm_events.specs.Reports.{left_pending}
use Rattle.strm_machine.specs.State.{State, no_stream, stream_at, is_host, is_gone}
use Rattle.strm_machine.specs.Sides.{same_side, with_operation}
use Rattle.strm_machine.specs.Meetings.{begun}
use Rattle.strm_machine.specs.Endings.{report_on, delivered}
use Rattle.strm_machine.specs.Moments.{Moment, MemoryPlace, place_of, code_told, as_report, is_named, report_in, accepted, accepted_in, count_reported, items_in_memory, received, rise}
use Rattle.strm_machine.specs.Soundness.{sizes_of}
use Rattle.strm_machine.specs.Tests.{named, stream_named, items_asked}
use Rattle.strm_machine.specs.declared.acts.Act.{Act}
use Rattle.strm_machine.specs.declared.acts.Act.TheVariants.{OnEnd}
use Rattle.strm_machine.specs.declared.acts.EndAct.TheVariants.{Operate}
use Rattle.strm_machine.specs.declared.acts.NamedEnd.{NamedEnd}
use Rattle.strm_machine.specs.declared.replies.Reply.{Reply}
use Rattle.strm_machine.specs.declared.replies.Reply.TheVariants as replies
use Rattle.strm_machine.specs.declared.streams.End.{End}
use Rattle.strm_machine.specs.declared.streams.Operation.{Operation}
use Rattle.strm_machine.specs.declared.streams.Owner.TheVariants.{Held}
use Rattle.strm_machine.specs.declared.streams.Side.{Side}
use Rattle.strm_machine.specs.declared.streams.Side.TheVariants.{Writing, Reading}
use Rattle.strm_machine.specs.declared.streams.Stream.{Stream}
use Rattle.strm_machine.proofs.Changes.{Change, ByGoing, ByOpening, ByServing}
use Rattle.strm_machine.proofs.EndingLemmas.{IsTold, told-becomes}
use Rattle.strm_machine.proofs.MomentLemmas.{Untold, untold}
use Rattle.strm_machine.proofs.NamedEndLemmas.{named_itself}
use Rattle.strm_laws.proofs.KeptChanges.{scene_with}
use Rattle.strm_host_machine.specs.Settling.{went, operation_settled}
use Rattle.strm_host_machine.proofs.SettleLemmas.{code_told as code_answered}
use Rattle.strm_host_laws.specs.HostMoments.{Part, Acts, Turns}
use Rattle.strm_host_laws.specs.HostLaws.{write_place, source, taken_in_moment}
use Rattle.strm_host_laws.proofs.Effects.{opened_by, Driven, Calls}
use Rattle.strm_host_laws.proofs.GuestsSeen.{moment_in, turned_other}
use Rattle.strm_host_laws.proofs.HostCounts.{turned_count, placed_small, driven_small, told_count, opened_count}
use Rattle.strm_host_laws.proofs.HostTurns.{Turned, turned_stream}
use Rattle.strm_host_laws.proofs.FuturesSeen.{call_mid}
use Rattle.strm_host_laws.proofs.Rooms.{HasRoom}
use Rattle.strm_host_laws.proofs.PartsSeen.{IsTaken, turned_taken, opened_taken}
use Rattle.strm_host_laws.proofs.TurnsStand.{Holds}
use Rattle.strm_host_laws.proofs.Standing.{call_begun, opened_owner, opened_operation}
use Rattle.strm_host_laws.proofs.TurnMoves.{Moves, moved_on-moves}
use Rattle.strm_host_laws.proofs.ReadStepSeen.{IsRead, ReadIn, unread, same_in, read_tellable}

-- ## A turn of its host reader

-- what a settled operation keeps
settled_guest : (result : Option StreamResult) (o : Operation) → (operation_settled result o).guest ≡ o.guest
settled_guest None o = refl
settled_guest (Some result) o = refl

settled_address : (result : Option StreamResult) (o : Operation) → (operation_settled result o).address ≡ o.address
settled_address None o = refl
settled_address (Some result) o = refl

settled_moved : (result : Option StreamResult) (o : Operation) → (operation_settled result o).moved ≡ o.moved
settled_moved None o = refl
settled_moved (Some result) o = refl

settled_left : (result : Option StreamResult) (o : Operation) → (operation_settled result o).left ≡ o.left
settled_left None o = refl
settled_left (Some result) o = refl

-- what it offers lies at this place, so many items
pub taken_at : (s : ℕ) (m : Moment) (g address n : ℕ) → source s m ≡ record { guest = g; address = address } → received s m.after ≡ received s m.before + n → taken_in_moment s m ≡ items_in_memory (stream_at m.before s).payload m.before.guests g address n
taken_at s m g address n e r =
    let rose : rise s m ≡ n = omega (arith, r) in
    ap (λ (p : MemoryPlace). items_in_memory (stream_at m.before s).payload m.before.guests p.guest p.address (rise s m)) e
    ∙ ap (λ i. items_in_memory (stream_at m.before s).payload m.before.guests g address i) rose

module _ (old new : State) (reply : Reply) (s : ℕ) (h : Holds old) (k : IsRead old s) where
  -- another stream has a turn
  turn_aside : (side : Side) (part : Part) (t n : ℕ) (operation : Operation) → Turned side old new t n operation → s ≢ t → Untold s Writing (moment_in old part reply new) → ReadIn old part reply new s
  turn_aside side part t n operation x ne u = same_in old part reply new s h.held k u (turned_other side old new s t n operation x ne)

  -- a read waits on no stream that a host reader reads
  not_reading : (t : ℕ) (operation : Operation) → (stream_at old t).reader.operation ≡ Some operation → s ≢ t
  not_reading t operation e q =
      let none : (stream_at old t).reader.operation ≡ None = ap (λ i. (stream_at old i).reader.operation) (sym q) ∙ k.taken.idle in
      let wrong : Some operation ≡ None = sym e ∙ none in cc

  -- its own, in a drive round
  own_turn : (d : Driven Writing old new s) → received s old + 2 ^ 28 < 2 ^ 128 → reply ≡ replies.Done → ReadIn old (Turns s) reply new s
  own_turn d room done =
      let m = moment_in old (Turns s) reply new in
      let stream = stream_at old s in
      let t = d.turned in
      let o = d.operation in
      let n = t.count in
      let p = operation_settled t.result (went stream.payload o n) in
      let now = turned_stream Writing old s o n t.result in
      let moves = moved_on-moves stream o n Writing t.result in
      let after : stream_at new s ≡ now = ap (λ (x : State). stream_at x s) t.is ∙ get_or-set_same old.streams s now no_stream k.taken.made in
      let more = turned_count Writing old new s d.host o t (driven_small old new reply h Writing s d) room k.taken.made in
      let untold_now = untold s Writing m (ap code_told done) in
      let few = t.few in
      let guest = settled_guest t.result (went stream.payload o n) in
      let address = settled_address t.result (went stream.payload o n) in
      let moved = settled_moved t.result (went stream.payload o n) in
      let left = settled_left t.result (went stream.payload o n) in
      record {
        writing = ByGoing o p n
            (record {
              was = d.waits;
              is = ap (λ (x : Stream). x.writer.operation) after ∙ ap (λ (x : End). x.operation) moves.mine;
              takes = untold_now.takes;
              unreported = untold_now.reports;
              guest = guest;
              address = address;
              moved = moved;
              left = omega (arith, left, few);
              payload = ap (λ (x : Stream). x.payload) after ∙ moves.payload;
              more = more;
              brings = λ e. taken_at s m o.guest o.address n (ap place_of d.waits) more;
            });
        reading = unread old (Turns s) reply new s h.held k;
        rises = omega (arith, more);
        still = λ f. absurd (let wrong : is_host stream.reader.owner ≡ true = ap is_host d.owner in let both : true ≡ false = sym wrong ∙ f in true≢false both);
        unhosted = ap (λ (x : Stream). is_host x.writer.owner) after ∙ ap (λ (x : End). is_host x.owner) moves.mine ∙ k.unhosted;
        kind = ap (λ (x : Stream). x.kind) after ∙ moves.kind;
      }

  pub driven_in : (side : Side) (t : ℕ) → HasRoom old s (Turns t) → reply ≡ replies.Done → Driven side old new t → ReadIn old (Turns t) reply new s
  driven_in Reading t room done d = turn_aside Reading (Turns t) t d.host d.operation d.turned (not_reading t d.operation d.waits) (untold s Writing (moment_in old (Turns t) reply new) (ap code_told done))
  driven_in Writing t room done d =
      elim (cases_eq t s) [
        | inl q ↦ subst (λ i. ReadIn old (Turns i) reply new s) (sym q) (own_turn (subst (Driven Writing old new) q d) (room q) done)
        | inr ne ↦ turn_aside Writing (Turns t) t d.host d.operation d.turned (λ e. ne (sym e)) (untold s Writing (moment_in old (Turns t) reply new) (ap code_told done))
      ]

-- ## A write to its host reader

-- a report that is told
told_or : (kind : TransmitKind) (p : Operation) (code : ReturnCode) → IsTold kind (as_report (Some code)) (Some p) None → (as_report (Some code) ≡ Some code) × (count_reported kind code ≡ p.moved)
told_or kind p codes.Blocked t = absurd t
told_or kind p (codes.Completed n) t = (refl, t)
told_or kind p (codes.Dropped n) t = (refl, t)
told_or kind p (codes.Cancelled n) t = (refl, t)

module _ (old new : State) (reply : Reply) (end : NamedEnd) (address count : ℕ) (h : Holds old) (c : Calls Writing old end address count reply new) where
  abbrev at : ℕ
  at = stream_named (named old end)

  abbrev write : Operation
  write = begun end.guest address (items_asked end.ty count)

  abbrev the_act : Act
  the_act = OnEnd Writing end (Operate address count)

  abbrev the_moment : Moment
  the_moment = moment_in old (Acts the_act) reply new

  module _ (k : IsRead old at) (room : received at old + 2 ^ 28 < 2 ^ 128) where
    abbrev opened : State
    opened = opened_by Writing old at write

    abbrev open_stream : Stream
    open_stream = with_operation Writing (stream_at old at) write

    abbrev n : ℕ
    n = c.turned.count

    abbrev p : Operation
    p = operation_settled c.turned.result (went (stream_at old at).payload write n)

    open_here : stream_at opened at ≡ open_stream
    open_here = get_or-set_same old.streams at open_stream no_stream k.taken.made

    -- the stream before the report is told
    abbrev moved : Stream
    moved = turned_stream Writing opened at write n c.turned.result

    many : at < length opened.streams
    many = omega (arith, k.taken.made, length-set old.streams at open_stream)

    mid_here : stream_at c.mid at ≡ moved
    mid_here = ap (λ (x : State). stream_at x at) c.turned.is ∙ get_or-set_same opened.streams at moved no_stream many

    moves : Moves Writing (stream_at opened at) moved write n c.turned.result
    moves = moved_on-moves (stream_at opened at) write n Writing c.turned.result

    own : (stream_at old at).writer.owner ≡ Held end.guest end.handle
    own = h.held.agree.named end.guest end.handle at Writing (call_begun Writing old end address count h.sound c.unrefused).found.held

    mid_owner : (stream_at c.mid at).writer.owner ≡ Held end.guest end.handle
    mid_owner = ap (λ (x : Stream). x.writer.owner) mid_here ∙ ap (λ (x : End). x.owner) moves.mine ∙ ap (λ (x : Stream). x.writer.owner) open_here ∙ own

    mid_payload : (stream_at c.mid at).payload ≡ (stream_at old at).payload
    mid_payload = ap (λ (x : Stream). x.payload) mid_here ∙ moves.payload ∙ ap (λ (x : Stream). x.payload) open_here

    mid_kind : (stream_at c.mid at).kind ≡ (stream_at old at).kind
    mid_kind = ap (λ (x : Stream). x.kind) mid_here ∙ moves.kind ∙ ap (λ (x : Stream). x.kind) open_here

    mid_operation : (stream_at c.mid at).writer.operation ≡ Some p
    mid_operation =
        ap (λ (x : Stream). x.writer.operation) mid_here
        ∙ ap (λ (x : End). x.operation) moves.mine
        ∙ ap (λ (x : Stream). Some (operation_settled c.turned.result (went x.payload write n))) open_here

    mid_taken : IsTaken Reading c.mid at
    mid_taken =
        let b = call_begun Writing old end address count h.sound c.unrefused in
        turned_taken Reading Writing opened c.mid at at c.host write (opened_owner Writing old at write ∙ c.owner) (opened_operation Writing old at write b.found.made) c.turned
        (opened_taken Reading Writing old at at c.host end.guest end.handle write c.owner own k.taken)

    -- what it is told then
    abbrev report : Option ReturnCode
    report = report_on Writing (stream_at c.mid at)

    told_so : IsTold (stream_at c.mid at).kind (as_report report) (stream_at c.mid at).writer.operation (left_pending report (stream_at c.mid at).writer.operation)
    told_so = (told-becomes Writing (stream_at c.mid at)).told (read_tellable (stream_at c.mid at) (λ f. (call_mid old new reply end address count h c k.taken (sym mid_kind ∙ f) (k.one (sym mid_kind ∙ f))).told) mid_taken.parted (ap is_gone mid_owner))

    new_here : stream_at new at ≡ delivered Writing (stream_at c.mid at)
    new_here = ap (λ (x : State). stream_at x at) c.is ∙ get_or-set_same c.mid.streams at (delivered Writing (stream_at c.mid at)) no_stream mid_taken.made

    new_operation : (stream_at new at).writer.operation ≡ left_pending report (Some p)
    unfolding delivered
    new_operation = ap (λ (x : Stream). x.writer.operation) new_here ∙ ap (left_pending report) mid_operation

    new_payload : (stream_at new at).payload ≡ (stream_at old at).payload
    unfolding delivered
    new_payload = ap (λ (x : Stream). x.payload) new_here ∙ mid_payload

    new_kind : (stream_at new at).kind ≡ (stream_at old at).kind
    unfolding delivered
    new_kind = ap (λ (x : Stream). x.kind) new_here ∙ mid_kind

    new_owner : (stream_at new at).writer.owner ≡ Held end.guest end.handle
    unfolding delivered
    new_owner = ap (λ (x : Stream). x.writer.owner) new_here ∙ mid_owner

    more : received at new ≡ received at old + n
    more =
        let b = call_begun Writing old end address count h.sound c.unrefused in
        let small = placed_small (sizes_of old.guests) (stream_at old at).payload write b.placed in
        let first = opened_count Writing old at at write in
        ap (received at) c.is
        ∙ told_count Writing c.mid at at
        ∙ turned_count Writing opened c.mid at c.host write c.turned small (omega (arith, first, room)) many
        ∙ ap (λ i. i + n) first

    named_here : (side : Side) → is_named at side the_moment ≡ same_side Writing side
    named_here side = named_itself old the_act reply at Writing side ((call_begun Writing old end address count h.sound c.unrefused).found.named reply)

    from_here : source at the_moment ≡ record { guest = end.guest; address = address }
    from_here = ap (λ b. cond b (write_place the_act (place_of (stream_at old at).writer.operation)) (place_of (stream_at old at).writer.operation)) (named_here Writing)

    brings_so : taken_in_moment at the_moment ≡ items_in_memory (stream_at old at).payload old.guests end.guest address n
    brings_so = taken_at at the_moment end.guest address n from_here more

    -- by the code that is answered
    taken_so : (code : ReturnCode) → reply ≡ replies.Code code → (q : Option ReturnCode) → accepted_in at Writing the_moment q ≡ record { guest = end.guest; address = address; asked = items_asked end.ty count; report = q } ∷ []
    taken_so code e q =
        ap (λ b. cond b (accepted the_act reply q) []) (named_here Writing) ∙ ap (λ r. accepted the_act r q) e

    reported_so : (code : ReturnCode) → reply ≡ replies.Code code → report_in at Writing the_moment ≡ as_report (Some code)
    reported_so code e = ap (λ b. cond b (as_report (code_told reply)) None) (named_here Writing) ∙ ap (λ r. as_report (code_told r)) e

    unmoved_before : (stream_at old at).writer.operation ≡ None
    unmoved_before = (call_begun Writing old end address count h.sound c.unrefused).idle

    change_by : (o : Option ReturnCode) → report ≡ o → Change Writing (scene_with at Writing the_moment (taken_in_moment at the_moment))
    change_by None e =
        let answered : reply ≡ replies.Code codes.Blocked = c.reply_is ∙ ap (λ o. replies.Code (code_answered o)) e in
        let quiet : report_in at Writing the_moment ≡ None = reported_so codes.Blocked answered in
        let few = c.turned.few in
        let left = settled_left c.turned.result (went (stream_at old at).payload write n) in
        let moved_is = settled_moved c.turned.result (went (stream_at old at).payload write n) in
        ByOpening end.guest address (items_asked end.ty count) p n
        (record {
          was = unmoved_before;
          is = new_operation ∙ ap (λ o. left_pending o (Some p)) e;
          takes = taken_so codes.Blocked answered (report_in at Writing the_moment);
          unreported = quiet;
          guest = settled_guest c.turned.result (went (stream_at old at).payload write n);
          place = settled_address c.turned.result (went (stream_at old at).payload write n);
          moved = omega (arith, moved_is);
          left = omega (arith, left, few);
          payload = new_payload;
          more = more;
          brings = λ e. brings_so;
        })
    change_by (Some code) e =
        let answered : reply ≡ replies.Code code = c.reply_is ∙ ap (λ o. replies.Code (code_answered o)) e in
        let so = told_or (stream_at old at).kind p code
        (subst (λ t. IsTold t (as_report (Some code)) (Some p) None) mid_kind
        (subst (λ o. IsTold (stream_at c.mid at).kind (as_report o) (Some p) (left_pending o (Some p))) e
        (subst (λ q. IsTold (stream_at c.mid at).kind (as_report report) q (left_pending report q)) mid_operation told_so))) in
        let so_many = so.1 in
        let moved_is = settled_moved c.turned.result (went (stream_at old at).payload write n) in
        let counts : count_reported (stream_at old at).kind code ≡ n = omega (arith, so_many, moved_is) in
        let few = c.turned.few in
        ByServing end.guest address (items_asked end.ty count) code
        (record {
          was = unmoved_before;
          is = new_operation ∙ ap (λ o. left_pending o (Some p)) e;
          takes = taken_so code answered (report_in at Writing the_moment);
          report = reported_so code answered ∙ so.0;
          within = omega (arith, counts, few);
          more = more ∙ ap (λ i. received at old + i) (sym counts);
          brings = λ e. brings_so ∙ ap (λ i. items_in_memory (stream_at old at).payload old.guests end.guest address i) (sym counts);
        })

    pub own_call : ReadIn old (Acts the_act) reply new at
    own_call = record {
      writing = change_by report refl;
      reading = unread old (Acts the_act) reply new at h.held k;
      rises = omega (arith, more);
      still = λ f. absurd (let wrong : is_host (stream_at old at).reader.owner ≡ true = ap is_host c.owner in let both : true ≡ false = sym wrong ∙ f in true≢false both);
      unhosted = ap is_host new_owner;
      kind = new_kind;
    }
