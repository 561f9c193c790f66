use Rattle.std.proofs.Common.{refl}
use Rattle.strm_machine.specs.declared.steps.Step.TheVariants as steps
use Rattle.strm_chain.specs.Playing.{bytes_type}
use Rattle.strm_chain.proofs.PlayingLemmas.{touches_none}
use Rattle.strm_chain.proofs.playing.Player.drop_writable.Goals as goal

pub drop_writable-requires-clause-alone : goal.drop_writable-requires-clause-alone
drop_writable-requires-clause-alone c =
    touches_none _ _ c.self.inside.store (steps.DropWrite c.args.guest bytes_type c.args.handle) c.self.invariant refl
