use Rattle.std.proofs.Common.{true, ap, subst, ◌∙◌}
use Rattle.strm_buffers.specs.Windows.{Lent, HasRoom}
use Rattle.strm_channels.specs.Guests.{guests_of}
use Rattle.strm_host_turns.proofs.RegionLemmas.{Returns, unpolled, marked_lowers}
use Rattle.strm_host_turns.proofs.WriterPollLemmas.{polls_read}
use Rattle.strm_host_turns.proofs.writer_polls.poll_into.Goals as goal

pub returns-in-Err-clause-lowers : goal.returns-in-Err-clause-lowers
returns-in-Err-clause-lowers g c =
    unpolled (guests_of c.args.guests.now.items) c.args.payload.now c.args.read.now _ _ _
    (c.in-Err.ensures.err ∙ c.lend_region-window.ensures.window) c.lend_region-window.ensures.guests c.return_region.ensures.guests

pub returns-in-Some-clause-ok : goal.returns-in-Some-clause-ok
returns-in-Some-clause-ok g c =
    let filled = c.poll_writer-turn.new.window in
    let h : Returns (guests_of c.args.guests.now.items) c.args.payload.now c.args.read.now (guests_of c.lend_region-window.new.guests.items) (guests_of c.return_region-marked.new.guests.items) c.prepare.new.self filled = record {
      prepared = true;
      lent = c.in-Ok.ensures.ok ∙ ap (λ (w : Lent). record w { prepared = true }) c.lend_region-window.ensures.window;
      out = c.lend_region-window.ensures.guests;
      fills = c.poll_writer-turn.ensures.fills;
      room = subst (λ n. HasRoom filled.place n 0) c.return_region-marked.ensures.marked c.return_region-marked.ensures.room;
      back = c.return_region-marked.ensures.guests;
    } in
    polls_read _ _ _ _ _ _ _ h _ _ c.poll_writer-turn.result c.answer.result c.in-Some.answer c.return_region-marked.result
    (record { answered = c.answer.ensures.answered; no_memory = c.answer.ensures.no_memory }) c.in-Some.is c.return_region-marked.ensures.marked c.poll_writer-turn.ensures.polls

pub returns-in-None-clause-lowers : goal.returns-in-None-clause-lowers
returns-in-None-clause-lowers g c =
    let filled = c.poll_writer-turn.new.window in
    marked_lowers (guests_of c.args.guests.now.items) c.args.payload.now c.args.read.now (guests_of c.lend_region-window.new.guests.items) (guests_of c.return_region-marked.new.guests.items) c.prepare.new.self filled (record {
      prepared = true;
      lent = c.in-Ok.ensures.ok ∙ ap (λ (w : Lent). record w { prepared = true }) c.lend_region-window.ensures.window;
      out = c.lend_region-window.ensures.guests;
      fills = c.poll_writer-turn.ensures.fills;
      room = subst (λ n. HasRoom filled.place n 0) c.return_region-marked.ensures.marked c.return_region-marked.ensures.room;
      back = c.return_region-marked.ensures.guests;
    })
