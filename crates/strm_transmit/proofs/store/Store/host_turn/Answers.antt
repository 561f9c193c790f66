use Rattle.std.proofs.Common.{rules}
use Rattle.strm_transmit.proofs.store.Store.host_turn.Goals as goal

pub returns-in-Reading-clause-part : goal.returns-in-Reading-clause-part
returns-in-Reading-clause-part g c = record {
  does = search rules;
  fits = search rules;
  stop = search rules;
  trapped = search rules;
  out_of_memory = rw c.in-Reading.is c.produce.ensures.part.out_of_memory;
}

pub returns-in-Writing-clause-part : goal.returns-in-Writing-clause-part
returns-in-Writing-clause-part g c = record {
  does = search rules;
  fits = search rules;
  stop = search rules;
  trapped = search rules;
  out_of_memory = rw c.in-Writing.is c.consume.ensures.part.out_of_memory;
}
