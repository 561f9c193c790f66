use Rattle.std.proofs.Common.{rules}
use Rattle.strm_host_machine.proofs.PipeLemmas.{Does-round}
use Rattle.strm_host_turns.proofs.WriterTurnLemmas.{handed_on}
use Rattle.strm_transmit.proofs.RoundLemmas.{round-stops, round-fetch_wants, round-offer_wants}
use Rattle.strm_transmit.proofs.OutOfMemoryLemmas.{out_of_memory_as, out_of_memory_result}
use Rattle.strm_transmit.proofs.store.Store.pipe_round.Goals as goal

pub returns-clause-part : goal.returns-clause-part
returns-clause-part g c = record {
  does = Does-round _ _ _ _ _ _ c.args.stream c.args.writer c.args.reader _ c.in_ok-fetch_if_due.ensures.part.does c.offer_and_end.ensures.part.does;
  fits = search rules;
  stop = search rules;
  trapped = search rules;
  out_of_memory = out_of_memory_result c.offer_and_end.result (round-offer_wants c.args.self.now _ _ _ _ c.args.stream c.args.writer c.args.reader c.in_ok-fetch_if_due.ensures.part.does c.in_ok-fetch_if_due.ensures.pipe) c.offer_and_end.ensures.part.out_of_memory;
}

pub returns-in_err-fetch_if_due-clause-part : goal.returns-in_err-fetch_if_due-clause-part
returns-in_err-fetch_if_due-clause-part g c = record {
  does = rw (handed_on c.from_residual.result c.from_residual.ensures.1)
      (round-stops _ _ _ _ c.args.stream c.args.writer c.args.reader c.in_err-fetch_if_due.field-0.0 c.in_err-fetch_if_due.ensures.part.stop c.in_err-fetch_if_due.ensures.part.does);
  fits = search rules;
  stop = search rules;
  trapped = search rules;
  out_of_memory = rw (handed_on c.from_residual.result c.from_residual.ensures.1)
      (out_of_memory_as c.in_err-fetch_if_due.field-0.0 (round-fetch_wants c.args.self.now _ _ c.args.stream c.args.writer c.args.reader) c.in_err-fetch_if_due.ensures.part.out_of_memory);
}
