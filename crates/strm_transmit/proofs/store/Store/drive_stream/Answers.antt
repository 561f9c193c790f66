use Rattle.std.proofs.Common.{rules, sym}
use Rattle.strm_host_machine.proofs.DoesLemmas.{Does-as}
use Rattle.strm_transmit.proofs.DriveStoreLemmas.{is_pipe, piped-turn, piped-wants}
use Rattle.strm_transmit.proofs.OutOfMemoryLemmas.{out_of_memory_result}
use Rattle.strm_transmit.proofs.store.Store.drive_stream.Goals as goal

pub pipe_round-requires : goal.pipe_round-requires
pipe_round-requires g c = record { pipe = is_pipe c.args.self.now _ c.args.stream c.in-Some.ends.0 c.in-Some.ends.1 c.requires.there (sym c.in-Some.ensures) c.requires.fits }

pub returns-in-Some-clause-part : goal.returns-in-Some-clause-part
returns-in-Some-clause-part g c = record {
  does = Does-as _ _ _ _ _ _ _ (piped-turn c.args.self.now _ c.args.stream c.in-Some.ends.0 c.in-Some.ends.1 (sym c.in-Some.ensures)) c.pipe_round.ensures.part.does;
  fits = search rules;
  stop = search rules;
  trapped = search rules;
  out_of_memory = out_of_memory_result c.pipe_round.result (piped-wants c.args.self.now _ _ c.args.stream c.in-Some.ends.0 c.in-Some.ends.1 (sym c.in-Some.ensures)) c.pipe_round.ensures.part.out_of_memory;
}
