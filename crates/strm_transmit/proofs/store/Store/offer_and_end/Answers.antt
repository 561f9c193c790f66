use Rattle.std.proofs.Common.{rules}
use Rattle.strm_transmit.proofs.RoundLemmas.{rounds, offered-pipe, offer-none, offered-does, offer-stops, offer-wants, offer_stops-fits}
use Rattle.strm_transmit.proofs.store.Store.offer_and_end.Goals as goal

pub end_if_done-requires-in-Ok : goal.end_if_done-requires-in-Ok
end_if_done-requires-in-Ok g c = record { pipe = offered-pipe c.args.self.now _ c.args.stream c.args.writer c.args.reader (rounds c.args.self.now _ c.args.stream c.args.writer c.args.reader c.served.ensures c.requires.pipe) _ _ _ c.in-Ok.ensures }

pub returns-then-not-is_offer_due-clause-part : goal.returns-then-not-is_offer_due-clause-part
returns-then-not-is_offer_due-clause-part g c = record {
  does = offer-none c.args.self.now _ c.args.stream c.args.writer c.args.reader (rounds c.args.self.now _ c.args.stream c.args.writer c.args.reader c.served.ensures c.requires.pipe) _ _ (search rules) c.end_if_done.ensures.does;
  fits = search rules;
  stop = search rules;
  trapped = search rules;
  out_of_memory = search rules;
}

pub returns-in-Ok-clause-part : goal.returns-in-Ok-clause-part
returns-in-Ok-clause-part g c = record {
  does = offered-does c.args.self.now _ c.args.stream c.args.writer c.args.reader (rounds c.args.self.now _ c.args.stream c.args.writer c.args.reader c.served.ensures c.requires.pipe) _ _ _ _ c.in-Ok.answer c.in-Ok.ensures (search rules) c.end_if_done-in-Ok.ensures.does;
  fits = search rules;
  stop = search rules;
  trapped = search rules;
  out_of_memory = search rules;
}

pub returns-in-Err-clause-part : goal.returns-in-Err-clause-part
returns-in-Err-clause-part g c = record {
  does = rw c.stop_of_reader.ensures (offer-stops c.args.self.now _ c.args.stream c.args.writer c.args.reader (rounds c.args.self.now _ c.args.stream c.args.writer c.args.reader c.served.ensures c.requires.pipe) _ _ _ (search rules) c.trap.ensures c.in-Err.error c.in-Err.ensures);
  fits = offer_stops-fits c.args.self.now _ c.args.stream c.args.writer c.args.reader (rounds c.args.self.now _ c.args.stream c.args.writer c.args.reader c.served.ensures c.requires.pipe) _ _ _ (search rules) c.trap.ensures c.in-Err.error c.in-Err.ensures;
  stop = search rules;
  trapped = search rules;
  out_of_memory = rw c.stop_of_reader.ensures (offer-wants c.args.self.now _ c.args.stream c.args.writer c.args.reader (rounds c.args.self.now _ c.args.stream c.args.writer c.args.reader c.served.ensures c.requires.pipe) _ _ _ (search rules) c.trap.ensures c.in-Err.error c.in-Err.ensures);
}
