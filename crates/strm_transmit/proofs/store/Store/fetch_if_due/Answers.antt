use Rattle.std.proofs.Common.{rules}
use Rattle.strm_transmit.proofs.RoundLemmas.{rounds, nothing_held, fetch-none, fetched-does, fetched-pipe, fetch-stops, fetch-wants, fetch_stops-pipe}
use Rattle.strm_transmit.proofs.store.Store.fetch_if_due.Goals as goal

pub fetch-requires-clause-nothing_held : goal.fetch-requires-clause-nothing_held
fetch-requires-clause-nothing_held g c = nothing_held c.args.self.now _ c.args.stream c.args.writer c.args.reader (rounds c.args.self.now _ c.args.stream c.args.writer c.args.reader c.served.ensures c.requires.pipe) (search rules)

pub returns-in-Ok-clause-pipe : goal.returns-in-Ok-clause-pipe
returns-in-Ok-clause-pipe g c = fetched-pipe c.args.self.now _ c.args.stream c.args.writer c.args.reader (rounds c.args.self.now _ c.args.stream c.args.writer c.args.reader c.served.ensures c.requires.pipe) _ _ _ c.in-Ok.ensures

pub returns-in-Err-clause-pipe : goal.returns-in-Err-clause-pipe
returns-in-Err-clause-pipe g c = fetch_stops-pipe c.args.self.now _ c.args.stream c.args.writer c.args.reader (rounds c.args.self.now _ c.args.stream c.args.writer c.args.reader c.served.ensures c.requires.pipe) _ _ _ (search rules) c.trap.ensures c.in-Err.error c.in-Err.ensures

pub returns-then-not-is_fetch_due-clause-part : goal.returns-then-not-is_fetch_due-clause-part
returns-then-not-is_fetch_due-clause-part g c = record {
  does = fetch-none c.args.self.now _ c.args.stream c.args.writer c.args.reader (rounds c.args.self.now _ c.args.stream c.args.writer c.args.reader c.served.ensures c.requires.pipe) (search rules);
  fits = search rules;
  stop = search rules;
  trapped = search rules;
  out_of_memory = search rules;
}

pub returns-in-Ok-clause-part : goal.returns-in-Ok-clause-part
returns-in-Ok-clause-part g c = record {
  does = fetched-does c.args.self.now _ c.args.stream c.args.writer c.args.reader (rounds c.args.self.now _ c.args.stream c.args.writer c.args.reader c.served.ensures c.requires.pipe) _ _ c.in-Ok.ensures (search rules);
  fits = (returns-in-Ok-clause-pipe g c).fits;
  stop = search rules;
  trapped = search rules;
  out_of_memory = search rules;
}

pub returns-in-Err-clause-part : goal.returns-in-Err-clause-part
returns-in-Err-clause-part g c = record {
  does = rw c.stop_of_writer.ensures (fetch-stops c.args.self.now _ c.args.stream c.args.writer c.args.reader (rounds c.args.self.now _ c.args.stream c.args.writer c.args.reader c.served.ensures c.requires.pipe) _ _ _ (search rules) c.trap.ensures c.in-Err.error c.in-Err.ensures);
  fits = (returns-in-Err-clause-pipe g c).fits;
  stop = search rules;
  trapped = search rules;
  out_of_memory = rw c.stop_of_writer.ensures (fetch-wants c.args.self.now _ c.args.stream c.args.writer c.args.reader (rounds c.args.self.now _ c.args.stream c.args.writer c.args.reader c.served.ensures c.requires.pipe) _ _ _ (search rules) c.trap.ensures c.in-Err.error c.in-Err.ensures);
}
