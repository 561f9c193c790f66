use Rattle.std.proofs.Common.{ap, subst, ◌∙◌}
use Rattle.strm_machine.specs.Reactions.{reaction}
use Rattle.strm_machine.specs.declared.acts.Act.TheVariants.{OnMemory}
use Rattle.strm_machine.specs.declared.acts.MemoryAct.TheVariants.{Dump}
use Rattle.strm_machine.proofs.ReactionLemmas.{reaction-dump}
use Rattle.strm_transmit.specs.Meets.{Meets}
use Rattle.strm_transmit.proofs.steps.dump.Goals as goal

pub returns-clause-meets : goal.returns-clause-meets
returns-clause-meets c =
    subst (Meets c.args.store.now c.args.store.now c.dumped.result)
    (ap (λ n. reaction c.args.store.now (OnMemory c.args.guest (Dump c.args.address n))) c.min.ensures ∙ reaction-dump c.args.store.now c.args.guest c.args.address c.args.len)
    c.dumped.ensures.meets
