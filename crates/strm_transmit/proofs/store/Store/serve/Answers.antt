use Rattle.std.proofs.Common.{rules, sym}
use Rattle.strm_machine.specs.declared.streams.Side.TheVariants.{Writing, Reading}
use Rattle.strm_host_machine.proofs.DoesLemmas.{Does-as}
use Rattle.strm_transmit.proofs.DriveStoreLemmas.{due-turn, due-wants, idle-turn}
use Rattle.strm_transmit.proofs.OutOfMemoryLemmas.{out_of_memory_result}
use Rattle.strm_transmit.proofs.store.Store.serve.Goals as goal

pub returns-in-Some-clause-part : goal.returns-in-Some-clause-part
returns-in-Some-clause-part g c = record {
  does = Does-as _ _ _ _ _ _ _ (due-turn Reading c.args.self.now _ c.args.stream c.in-Some.read.0 c.in-Some.read.1 (sym c.in-Some.ensures.due)) c.host_turn.ensures.part.does;
  fits = search rules;
  stop = search rules;
  trapped = search rules;
  out_of_memory = out_of_memory_result c.host_turn.result (due-wants Reading c.args.self.now _ _ c.args.stream c.in-Some.read.0 c.in-Some.read.1 (sym c.in-Some.ensures.due)) c.host_turn.ensures.part.out_of_memory;
}

pub returns-in-None-clause-part : goal.returns-in-None-clause-part
returns-in-None-clause-part g c = record {
  does = idle-turn c.args.self.now _ c.args.stream c.requires.unpiped (sym c.in_default.ensures.due) (sym c.in-None.ensures.due);
  fits = search rules;
  stop = search rules;
  trapped = search rules;
  out_of_memory = search rules;
}

pub returns-in-Some-due-clause-part : goal.returns-in-Some-due-clause-part
returns-in-Some-due-clause-part g c = record {
  does = Does-as _ _ _ _ _ _ _ (due-turn Writing c.args.self.now _ c.args.stream c.in-Some-due.write.0 c.in-Some-due.write.1 (sym c.in-Some-due.ensures.due)) c.host_turn-in-Some-due.ensures.part.does;
  fits = search rules;
  stop = search rules;
  trapped = search rules;
  out_of_memory = out_of_memory_result c.host_turn-in-Some-due.result (due-wants Writing c.args.self.now _ _ c.args.stream c.in-Some-due.write.0 c.in-Some-due.write.1 (sym c.in-Some-due.ensures.due)) c.host_turn-in-Some-due.ensures.part.out_of_memory;
}
