use Rattle.std.specs.Prelude.{nat_lt}
use Rattle.std.proofs.Common.{false, ap, subst, ◌∙◌, arith}
use Rattle.strm_buffers.specs.Tells.{writer_given}
use Rattle.strm_buffers.specs.Windows.{Lent, HasRoom, room_of}
use Rattle.strm_channels.specs.Guests.{guests_of}
use Rattle.strm_host_turns.proofs.RegionLemmas.{marked_lowered}
use Rattle.strm_host_turns.proofs.WriterPollLemmas.{given_items, given_few}
use Rattle.strm_host_turns.proofs.WriterTurnLemmas.{room_behind, handed}
use Rattle.strm_ready_turns.proofs.writer_turns.hand_over.Goals as goal

pub move_on-requires-clause-room : goal.move_on-requires-clause-room
move_on-requires-clause-room c =
    let room = ap (λ (w : Lent). room_of w.place) c.lend_region-window.ensures.window in
    let items = given_items _ c.args.read.left c.give.new.window.marked _ c.in-Ok.ensures.marked room in
    room_behind (guests_of c.args.guests.now.items) c.args.stream.now.payload c.args.read c.count_of.result
    c.requires.placed c.requires.sizes (omega arith)
    (given_few c.args.read.left c.count_of.result c.give.new.window.marked _ items (c.count_of.ensures ∙ c.return_region-marked.ensures.marked))

pub returns-clause-hands : goal.returns-clause-hands
returns-clause-hands c =
    let filled = c.give.new.window in
    let room = ap (λ (w : Lent). room_of w.place) c.lend_region-window.ensures.window in
    let items = given_items _ c.args.read.left filled.marked _ c.in-Ok.ensures.marked room in
    let lowered = marked_lowered (guests_of c.args.guests.now.items) c.args.stream.now.payload c.args.read (guests_of c.lend_region-window.new.guests.items) (guests_of c.return_region-marked.new.guests.items) c.lend_region-window.result filled (record {
      prepared = false;
      lent = rw (← c.payload.ensures) c.lend_region-window.ensures.window;
      out = c.lend_region-window.ensures.guests;
      fills = c.give.ensures.fills;
      room = subst (λ n. HasRoom filled.place n 0) c.return_region-marked.ensures.marked c.return_region-marked.ensures.room;
      back = c.return_region-marked.ensures.guests;
    }) in
    handed (guests_of c.args.guests.now.items) (guests_of c.return_region-marked.new.guests.items) c.args.stream.now c.move_on.new.stream c.args.producer.now c.note_held.new.producer _ _ c.args.read (record {
      items = filled.marked;
      count = c.count_of.result;
      held = items;
      counted = c.count_of.ensures ∙ c.return_region-marked.ensures.marked;
      lowers = lowered;
      moves = c.move_on.ensures;
      gives = c.in-Ok.ensures.ok ∙ ap (writer_given _) room;
      keeps = c.note_held.ensures ∙ ap (λ n. record c.args.producer.now { holding = nat_lt 0 n }) c.held.ensures.exact;
    })
