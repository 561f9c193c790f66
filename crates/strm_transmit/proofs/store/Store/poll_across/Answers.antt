use Rattle.std.proofs.Common.{rules}
use Rattle.strm_host_turns.proofs.WriterTurnLemmas.{handed_on}
use Rattle.strm_transmit.proofs.OperateLemmas.{opened-fits, turn-answers, turn-stops, turn-wants}
use Rattle.strm_transmit.proofs.OutOfMemoryLemmas.{out_of_memory_as}
use Rattle.strm_transmit.proofs.store.Store.poll_across.Goals as goal

pub host_turn-requires : goal.host_turn-requires
host_turn-requires g c = record {
  waiting = search rules;
  is_open = search rules;
  there = search rules;
  owner = search rules;
  placed = search rules;
  fits = opened-fits c.args.side c.args.self.now _ _ c.args.stream c.args.operation c.open.ensures c.requires.fits;
}

pub returns-clause-part : goal.returns-clause-part
returns-clause-part g c = record {
  does = turn-answers c.args.self.now _ _ _ _ c.args.stream c.args.number c.args.operation c.args.side c.open.ensures _ _ c.in_ok-host_turn.ensures.part.does (c.answer.ensures.does _);
  fits = c.answer.ensures.fits _ c.in_ok-host_turn.ensures.part.fits;
  stop = search rules;
  trapped = search rules;
  out_of_memory = search rules;
}

pub returns-in_err-host_turn-clause-part : goal.returns-in_err-host_turn-clause-part
returns-in_err-host_turn-clause-part g c = record {
  does = rw (handed_on c.from_residual.result c.from_residual.ensures.1)
      (turn-stops c.args.self.now _ _ _ _ c.args.stream c.args.number c.args.operation c.args.side c.open.ensures _ c.in_err-host_turn.ensures.part.stop c.in_err-host_turn.ensures.part.does);
  fits = search rules;
  stop = search rules;
  trapped = search rules;
  out_of_memory = rw (handed_on c.from_residual.result c.from_residual.ensures.1)
      (out_of_memory_as c.in_err-host_turn.field-0.0 (turn-wants c.args.self.now _ _ _ c.args.stream c.args.number c.args.operation c.args.side c.open.ensures) c.in_err-host_turn.ensures.part.out_of_memory);
}
