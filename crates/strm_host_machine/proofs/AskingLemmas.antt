-- A step stops at a bad item exactly where one of the items that it asks for is none.
use Rattle.std.proofs.Common.{◌≡◌, ℕ, zero, suc, ◌+◌, ◌-◌, ◌<◌, true, false, List, length, get_or, set, Option, Some, None, refl, sym, ap, subst, ◌∙◌, arith}
use Rattle.std.proofs.lemmas.Bool.{cond_both}
use Rattle.strm_codes.specs.declared.codes.ReturnCode.{ReturnCode}
use Rattle.strm_codes.specs.declared.refusals.Refusal.{Refusal}
use Rattle.strm_machine.specs.State.{no_stream, is_host}
use Rattle.strm_machine.specs.Sides.{opposite, end_of, with_operation}
use Rattle.strm_machine.specs.Meetings.{begun}
use Rattle.strm_machine.specs.Tests.{named, stream_named, items_asked}
use Rattle.strm_machine.specs.Refusals.{refusal}
use Rattle.strm_machine.specs.Reactions.{Reaction, reaction}
use Rattle.strm_machine.specs.Asked.{HasBadItem}
use Rattle.strm_machine.specs.Acts.{act_of}
use Rattle.strm_machine.specs.declared.acts.NamedEnd.{NamedEnd}
use Rattle.strm_machine.specs.declared.acts.Act.{Act}
use Rattle.strm_machine.specs.declared.acts.Act.TheVariants.{OnEnd, Drive}
use Rattle.strm_machine.specs.declared.acts.EndAct.TheVariants.{Operate}
use Rattle.strm_machine.specs.declared.acts.HostAct.{HostAct}
use Rattle.strm_machine.specs.declared.acts.HostAct.TheVariants.{New, Feed, Pipe, Grant}
use Rattle.strm_machine.specs.declared.replies.Reply.{Reply}
use Rattle.strm_machine.specs.declared.replies.Reply.TheVariants as replies
use Rattle.strm_machine.specs.declared.stops.Stop.TheVariants.{BadItem, StoreTrapped}
use Rattle.strm_machine.specs.declared.streams.Operation.{Operation}
use Rattle.strm_machine.specs.declared.streams.Owner.{Owner}
use Rattle.strm_machine.specs.declared.streams.Owner.TheVariants.{Held, Loose, Host, Gone}
use Rattle.strm_machine.specs.declared.streams.Side.{Side}
use Rattle.strm_machine.specs.declared.streams.Side.TheVariants.{Writing, Reading}
use Rattle.strm_machine.specs.declared.streams.Stream.{Stream}
use Rattle.strm_machine.specs.declared.steps.Step.{Step}
use Rattle.strm_machine.proofs.AskedLemmas.{bad-traps, reply-bad}
use Rattle.strm_host_machine.specs.Ends.{Writer, Reader}
use Rattle.strm_host_machine.specs.World.{World, stream_in, leaves_reader, with_stream_in}
use Rattle.strm_host_machine.specs.Outcomes.{Outcome, Goes, Stops, Stuck, stops, done, then_on, of_reply}
use Rattle.strm_host_machine.specs.WriterTurn.{writer_turn}
use Rattle.strm_host_machine.specs.ReaderTurn.{reader_turn}
use Rattle.strm_host_machine.specs.Settling.{answered_with, turn_answered}
use Rattle.strm_host_machine.specs.Driving.{if_open, driven_by, drive_turn, driven, numbers_from, round_of}
use Rattle.strm_host_machine.specs.Attaching.{hosts_new, pipes, forsakes}
use Rattle.strm_host_machine.specs.HostRefusals.{refusal_in}
use Rattle.strm_host_machine.specs.Steps.{Touch, Operates, Drops, Hosts, Drives, TouchesNone, touch_of, reacts, writes_to, operates_by, on_host, performs_by, performs_in, unless_refused_in, outcome, outcome_of_step}
use Rattle.strm_host_machine.specs.Asking.{GuestAsksBad, ReaderAsksBad, with_write, WriteAsksBad, DriveAsksBad, AsksBadItem, ByGuest, InCall, InDrive, after_asking, stands_at}
use Rattle.strm_machine.proofs.TableLemmas.{set-keeps}
use Rattle.strm_host_machine.proofs.SettleLemmas.{leaves_writer-stays, leaves_reader-stays}
use Rattle.strm_host_machine.proofs.TouchLemmas.{touch-by}
use Rattle.strm_host_machine.proofs.OutcomeLemmas.{outcome-performs, refusal_in-on_end, refusal_in-drive}
use Rattle.strm_host_machine.proofs.DriveLemmas.{drive_turn-due_write, driven-append, numbers_from-cut}
use Rattle.strm_host_machine.proofs.AskingTurnLemmas.{IfBad, bad_is, bad_weaker, then_bad, produced-bad, AsksOf, consumed-bad, turn-asked, piped-bad}

-- ## A drive round

-- in a drive round from this world stream s is asked for an item that is none
record DrivenBad (first : World) (n s : ℕ) : Type 0 where
  there : s < n
  turn : World
  before : driven first (numbers_from 0 s) ≡ Goes replies.Done turn
  unhosted : is_host (stream_in turn s).writer.owner ≡ false
  write : Operation
  waits : (stream_in turn s).writer.operation ≡ Some write
  opened : write.is_open ≡ true
  asks : ReaderAsksBad turn s write

-- the turn of one stream
record TurnBad (w : World) (s t : ℕ) : Type 0 where
  same : t ≡ s
  unhosted : is_host (stream_in w s).writer.owner ≡ false
  write : Operation
  waits : (stream_in w s).writer.operation ≡ Some write
  opened : write.is_open ≡ true
  asks : ReaderAsksBad w s write

open-bad : (P : ℕ → Type 0) (w : World) (o : Option Operation) (turn : Operation → Outcome) → ((operation : Operation) → o ≡ Some operation → operation.is_open ≡ true → IfBad P (turn operation)) → IfBad P (if_open w o turn)
open-bad P w None turn h = tt
open-bad P w (Some operation) turn h = cond_both operation.is_open _ _ (IfBad P) (λ e. h operation refl e) (λ e. tt)

-- a guest's open write, which a host reader reads
read-bad : (w : World) (s r : ℕ) → is_host (stream_in w s).writer.owner ≡ false → (stream_in w s).reader.owner ≡ Host r → IfBad (TurnBad w s) (if_open w (stream_in w s).writer.operation (reader_turn w s r))
read-bad w s r u o =
    open-bad (TurnBad w s) w (stream_in w s).writer.operation (reader_turn w s r)
    (λ write e f. bad_weaker (AsksOf w s write) (TurnBad w s) (reader_turn w s r write)
    (λ t a. record { same = a.same; unhosted = u; write = write; waits = e; opened = f; asks = a.asks })
    (consumed-bad w s r write o))

driven_by-bad : (w : World) (s : ℕ) (writer reader : Owner) → (stream_in w s).writer.owner ≡ writer → (stream_in w s).reader.owner ≡ reader → IfBad (TurnBad w s) (driven_by w s (stream_in w s) writer reader)
driven_by-bad w s (Host n) (Host r) e f = piped-bad (TurnBad w s) w s n r
driven_by-bad w s (Host n) _ e f = open-bad (TurnBad w s) w (stream_in w s).reader.operation (writer_turn w s n) (λ read g h. produced-bad (TurnBad w s) w s n read)
driven_by-bad w s (Held g h) (Host r) e f = read-bad w s r (ap is_host e) f
driven_by-bad w s Loose (Host r) e f = read-bad w s r (ap is_host e) f
driven_by-bad w s Gone (Host r) e f = read-bad w s r (ap is_host e) f
driven_by-bad w s _ _ e f = tt

drive_turn-bad : (w : World) (s : ℕ) → IfBad (TurnBad w s) (drive_turn w s)
unfolding drive_turn
drive_turn-bad w s = driven_by-bad w s (stream_in w s).writer.owner (stream_in w s).reader.owner refl refl

-- one turn more
further : (first : World) (j : ℕ) (w v : World) (reply : Reply) → driven first (numbers_from 0 j) ≡ Goes replies.Done w → drive_turn w j ≡ Goes reply v → driven first (numbers_from 0 (j + 1)) ≡ Goes replies.Done v
further first j w v reply e g =
    ap (driven first) (numbers_from-cut 0 j 1 (j + 1) j refl (omega arith))
    ∙ driven-append first (numbers_from 0 j) (numbers_from j 1)
    ∙ ap (λ o. then_on o (λ u. driven u (numbers_from j 1))) e
    ∙ ap (λ o. then_on o done) g

driven-bad : (first : World) (j m n : ℕ) (w : World) → j + m ≡ n → driven first (numbers_from 0 j) ≡ Goes replies.Done w → IfBad (DrivenBad first n) (driven w (numbers_from j m))
driven-bad first j zero n w q e = tt
driven-bad first j (suc m) n w q e =
    then_bad (DrivenBad first n) (drive_turn w j) (λ after. driven after (numbers_from (j + 1) m))
    (bad_weaker (TurnBad w j) (DrivenBad first n) (drive_turn w j)
    (λ s b. subst (DrivenBad first n) (sym b.same) (record {
      there = omega (arith, q);
      turn = w;
      before = e;
      unhosted = b.unhosted;
      write = b.write;
      waits = b.waits;
      opened = b.opened;
      asks = b.asks;
    }))
    (drive_turn-bad w j))
    (λ reply v g. driven-bad first (j + 1) m n v (omega (arith, q)) (further first j w v reply e g))

-- where it is, the round stops there
driven-asked : (first : World) (n s : ℕ) (d : DrivenBad first n s) → driven first (numbers_from 0 n) ≡ stops (BadItem s) (after_asking d.turn s d.write d.asks)
driven-asked first n s d =
    let there = d.there in
    let rest = n - s - 1 in
    let turns = drive_turn-due_write d.turn s d.asks.reader d.write (record { owner = d.asks.owner; unhosted = d.unhosted; write_is = d.waits; is_open = d.opened }) in
    ap (driven first) (numbers_from-cut 0 s (suc rest) n s (omega (arith, there)) (omega arith))
    ∙ driven-append first (numbers_from 0 s) (numbers_from s (suc rest))
    ∙ ap (λ o. then_on o (λ u. driven u (numbers_from s (suc rest)))) d.before
    ∙ ap (λ o. then_on o (λ u. driven u (numbers_from (s + 1) rest))) (turns ∙ turn-asked d.turn s d.write d.asks)

-- ## A step

-- no read or write
abbrev IsOther : Touch → Type 0
IsOther (Operates side end address count) = ⊥
IsOther _ = Unit {0}

no_operate : (touch : Touch) → IsOther touch → (side : Side) (end : NamedEnd) (address count : ℕ) → touch ≡ Operates side end address count → ⊥
no_operate (Operates side end address count) other s e a c f = other
no_operate (Drops n side) other s e a c f = cc
no_operate (Hosts n act) other s e a c f = cc
no_operate Drives other s e a c f = cc
no_operate TouchesNone other s e a c f = cc

-- the owners of the ends of a stream whose write opens
opened-streams : (w : World) (s : ℕ) (write : Operation) → (with_write w s write).state.streams ≡ set w.state.streams s (with_operation Writing (stream_in w s) write)
unfolding with_stream_in
opened-streams w s write =
    let x = with_operation Writing (stream_in w s) write in
    let opened = record w { state = record w.state { streams = set w.state.streams s x } } in
    ap (λ (v : World). v.state.streams) (leaves_writer-stays (stream_in w s).writer.owner (leaves_reader (stream_in w s).reader.owner (stream_in w s).reader.owner opened))
    ∙ ap (λ (v : World). v.state.streams) (leaves_reader-stays (stream_in w s).reader.owner opened)

opened-reader : (w : World) (s : ℕ) (write : Operation) → (stream_in (with_write w s write) s).reader.owner ≡ (stream_in w s).reader.owner
opened-reader w s write =
    ap (λ xs. (get_or xs s no_stream).reader.owner) (opened-streams w s write)
    ∙ set-keeps (λ (x : Stream). x.reader.owner) w.state.streams s s (with_operation Writing (stream_in w s) write) no_stream refl

-- a read or write of no host end's other end
operates_by-other : (w : World) (side : Side) (end : NamedEnd) (address count : ℕ) (owner : Owner) → is_host owner ≡ false → operates_by w side end address count owner ≡ reacts w (OnEnd side end (Operate address count))
operates_by-other w Reading end address count (Host n) e = cc
operates_by-other w Writing end address count (Host r) e = cc
operates_by-other w Reading end address count _ e = refl
operates_by-other w Writing end address count _ e = refl

pub opened-payload : (w : World) (s : ℕ) (write : Operation) → (stream_in (with_write w s write) s).payload ≡ (stream_in w s).payload
opened-payload w s write =
    ap (λ xs. (get_or xs s no_stream).payload) (opened-streams w s write)
    ∙ set-keeps (λ (x : Stream). x.payload) w.state.streams s s (with_operation Writing (stream_in w s) write) no_stream refl

module _ (w : World) (step : Step) (untrapped : w.state.trapped ≡ false) where
  abbrev Bad : ℕ → Type 0
  Bad = AsksBadItem w step

  -- what the machine without host ends does
  reply-by : (reply : Reply) (v : World) → ((s : ℕ) → reply ≡ replies.BadItem s → Bad s) → IfBad Bad (of_reply reply v)
  reply-by (replies.BadItem s) v h = h s refl
  reply-by replies.StoreTrapped v h = tt
  reply-by _ v h = tt

  -- a guest's other end
  guest_bad : (side : Side) (end : NamedEnd) (address count : ℕ) → act_of step ≡ OnEnd side end (Operate address count)
      → is_host (end_of (opposite side) (stream_in w (stream_named (named w.state end)))).owner ≡ false → (s : ℕ) → HasBadItem w.state step s → Bad s
  guest_bad side end address count does u s h =
      let f = sym h.asked.does ∙ does in
      let k : h.asked.side ≡ side = cc in
      let n : h.asked.end ≡ end = cc in
      ByGuest (record {
        asks = h;
        unhosted = ap (λ x. is_host (end_of (opposite x) (stream_in w s)).owner) k ∙ ap (λ x. is_host (end_of (opposite side) (stream_in w x)).owner) (sym h.asked.stream ∙ ap (λ x. stream_named (named w.state x)) n) ∙ u;
      })

  reacts-bad : (act : Act) → act_of step ≡ act → ((s : ℕ) → HasBadItem w.state step s → Bad s) → IfBad Bad (reacts w act)
  reacts-bad act e h =
      reply-by (reaction w.state act).reply _
      (λ s f. h s (reply-bad w.state step s untrapped (ap (λ x. (reaction w.state x).reply) e ∙ f)))

  -- the owner of the end on the other side of the one that is named
  abbrev across : Side → NamedEnd → Owner
  across side end = (end_of (opposite side) (stream_in w (stream_named (named w.state end)))).owner

  meets-bad : (side : Side) (end : NamedEnd) (address count : ℕ) (owner : Owner) → act_of step ≡ OnEnd side end (Operate address count) → is_host owner ≡ false
      → is_host (across side end) ≡ false → IfBad Bad (operates_by w side end address count owner)
  meets-bad side end address count owner does h u =
      subst (IfBad Bad) (sym (operates_by-other w side end address count owner h)) (reacts-bad (OnEnd side end (Operate address count)) does (guest_bad side end address count does u))

  -- a read or write
  operates-bad : (side : Side) (end : NamedEnd) (address count : ℕ) (owner : Owner) → act_of step ≡ OnEnd side end (Operate address count) → refusal_in w (act_of step) ≡ None
      → across side end ≡ owner → IfBad Bad (operates_by w side end address count owner)
  operates-bad Reading end address count (Host n) does u e =
      let s = stream_named (named w.state end) in
      let read = begun end.guest address (items_asked end.ty count) in
      let opened = with_stream_in w s (with_operation Reading (stream_in w s) read) in
      then_bad Bad (writer_turn opened s n read) (λ after. turn_answered after s Reading) (produced-bad Bad opened s n read) (λ reply v g. turn_answered-bad v s Reading _)
    where
      turn_answered-bad : (v : World) (s : ℕ) (side : Side) (code : Option ReturnCode) → IfBad Bad (answered_with v s side code)
      turn_answered-bad v s side (Some code) = tt
      turn_answered-bad v s side None = tt
  operates-bad Writing end address count (Host r) does u e =
      let s = stream_named (named w.state end) in
      let write = begun end.guest address (items_asked end.ty count) in
      let opened = with_write w s write in
      then_bad Bad (reader_turn opened s r write) (λ after. turn_answered after s Writing)
      (bad_weaker (AsksOf opened s write) Bad (reader_turn opened s r write)
      (λ t a. subst Bad (sym a.same) (InCall (record { end = end; address = address; count = count; does = does; unrefused = u; stream = refl; write = write; begins = refl; asks = a.asks })))
      (consumed-bad opened s r write (opened-reader w s write ∙ e)))
      (λ reply v g. turn_answered-bad v s Writing _)
    where
      turn_answered-bad : (v : World) (s : ℕ) (side : Side) (code : Option ReturnCode) → IfBad Bad (answered_with v s side code)
      turn_answered-bad v s side (Some code) = tt
      turn_answered-bad v s side None = tt
  operates-bad side end address count (Held g h) does u e = meets-bad side end address count (Held g h) does refl (ap is_host e)
  operates-bad side end address count Loose does u e = meets-bad side end address count Loose does refl (ap is_host e)
  operates-bad side end address count Gone does u e = meets-bad side end address count Gone does refl (ap is_host e)

  -- a step that is no read or write
  other_bad : (act : Act) → act_of step ≡ act → (touch : Touch) → touch_of w.state act ≡ touch → IsOther touch → IfBad Bad (reacts w act)
  other_bad act e touch f other =
      reacts-bad act e
      (λ s h. absurd (no_operate touch other _ _ _ _ (sym f ∙ ap (touch_of w.state) (sym e ∙ h.asked.does))))

  forsakes-bad : (o : Outcome) (s : ℕ) (side : Side) → IfBad Bad o → IfBad Bad (forsakes o s side)
  forsakes-bad (Goes reply v) s side h = tt
  forsakes-bad (Stops stop writers readers) s side h = h
  forsakes-bad Stuck s side h = tt

  on_host-bad : (n : ℕ) (act : HostAct) → IfBad Bad (on_host w n act)
  unfolding hosts_new pipes
  on_host-bad n New = tt
  on_host-bad n (Feed bytes) = tt
  on_host-bad r (Pipe reader) = tt
  on_host-bad r (Grant count) = tt

  -- each way in which a step may touch a host end
  abbrev ByTouch : Act → Touch → Type 0
  ByTouch act touch = act_of step ≡ act → touch_of w.state act ≡ touch → refusal_in w (act_of step) ≡ None → IfBad Bad (performs_by w act touch)

  by_touch : (act : Act) → ByTouch act (touch_of w.state act)
  by_touch =
      touch-by ByTouch w.state (record {
        operated = λ side end address count e f u. operates-bad side end address count _ e u refl;
        dropped = λ act s side d e f u.
            cond_both (is_host (end_of (opposite side) (stream_in w s)).owner) _ _ (IfBad Bad)
            (λ h. forsakes-bad (reacts w act) s side (other_bad act e (Drops s side) f tt))
            (λ h. other_bad act e (Drops s side) f tt);
        hosted = λ n act e f u. on_host-bad n act;
        driven = λ e f u.
            bad_weaker (DrivenBad w (length w.state.streams)) Bad (driven w (round_of w))
            (λ s d. InDrive (record { does = e; there = d.there; turn = d.turn; before = d.before; unhosted = d.unhosted; write = d.write; waits = d.waits; opened = d.opened; asks = d.asks }))
            (driven-bad w 0 (length w.state.streams) (length w.state.streams) w (omega arith) refl);
        alone = λ act n e f u. other_bad act e TouchesNone f tt;
      })

  unless-bad : (o : Option Refusal) → refusal_in w (act_of step) ≡ o → IfBad Bad (unless_refused_in w (act_of step) o)
  unfolding performs_in
  unless-bad (Some refused) e = tt
  unless-bad None e = by_touch (act_of step) refl refl e

  step-bad : IfBad Bad (outcome_of_step w step)
  unfolding outcome
  step-bad =
      let act = act_of step in
      cond_both w.state.trapped (stops StoreTrapped w) (unless_refused_in w act (refusal_in w act)) (IfBad Bad) (λ e. tt) (λ e. unless-bad (refusal_in w act) refl)

  -- a step that stops at a bad item asks for it
  pub stops-asks : (s : ℕ) (writers : List Writer) (readers : List Reader) → outcome_of_step w step ≡ Stops (BadItem s) writers readers → AsksBadItem w step s
  stops-asks s writers readers e = bad_is Bad (outcome_of_step w step) s writers readers step-bad e

  -- ## And a step that asks for a bad item stops at it

  performed : (act : Act) → act_of step ≡ act → refusal_in w (act_of step) ≡ None → outcome_of_step w step ≡ performs_in w act
  performed act e u = outcome-performs w (act_of step) untrapped u ∙ ap (performs_in w) e

  guest-stops : (s : ℕ) (g : GuestAsksBad w step s) → outcome_of_step w step ≡ stops (BadItem s) w
  unfolding performs_in
  guest-stops s g =
      let a = g.asks.asked in
      let act = OnEnd a.side a.end (Operate a.address a.count) in
      let unrefused : refusal_in w (act_of step) ≡ None = ap (refusal_in w) a.does ∙ refusal_in-on_end w a.side a.end (Operate a.address a.count) ∙ ap (refusal w.state) (sym a.does) ∙ a.unrefused in
      let alone : is_host (end_of (opposite a.side) (stream_in w (stream_named (named w.state a.end)))).owner ≡ false = ap (λ x. is_host (end_of (opposite a.side) (stream_in w x)).owner) a.stream ∙ g.unhosted in
      performed act a.does unrefused
      ∙ operates_by-other w a.side a.end a.address a.count _ alone
      ∙ ap (reacts w) (sym a.does)
      ∙ ap (λ (r : Reaction). of_reply r.reply (record w { state = r.state })) (bad-traps w.state step s untrapped g.asks)

  call-stops : (s : ℕ) (c : WriteAsksBad w step s) → outcome_of_step w step ≡ stops (BadItem s) (after_asking (with_write w s c.write) s c.write c.asks)
  unfolding performs_in
  call-stops s c =
      let owner : (stream_in w s).reader.owner ≡ Host c.asks.reader = sym (opened-reader w s c.write) ∙ c.asks.owner in
      performed (OnEnd Writing c.end (Operate c.address c.count)) c.does c.unrefused
      ∙ ap (λ n. operates_by w Writing c.end c.address c.count (stream_in w n).reader.owner) c.stream
      ∙ ap (operates_by w Writing c.end c.address c.count) owner
      ∙ ap (λ n. writes_to w n c.asks.reader (begun c.end.guest c.address (items_asked c.end.ty c.count))) c.stream
      ∙ ap (writes_to w s c.asks.reader) (sym c.begins)
      ∙ ap (λ o. then_on o (λ after. turn_answered after s Writing)) (turn-asked (with_write w s c.write) s c.write c.asks)

  drive-stops : (s : ℕ) (d : DriveAsksBad w step s) → outcome_of_step w step ≡ stops (BadItem s) (after_asking d.turn s d.write d.asks)
  unfolding performs_in
  drive-stops s d =
      performed Drive d.does (ap (refusal_in w) d.does ∙ refusal_in-drive w)
      ∙ driven-asked w (length w.state.streams) s (record { there = d.there; turn = d.turn; before = d.before; unhosted = d.unhosted; write = d.write; waits = d.waits; opened = d.opened; asks = d.asks })

  pub asks-stops : (s : ℕ) (a : AsksBadItem w step s) → outcome_of_step w step ≡ stops (BadItem s) (stands_at w step s a)
  asks-stops s (ByGuest g) = guest-stops s g
  asks-stops s (InCall c) = call-stops s c
  asks-stops s (InDrive d) = drive-stops s d
