use Rattle.std.proofs.Common.{List}
use Rattle.strm_machine.specs.declared.replies.Reply.{Reply}
use Rattle.strm_session.proofs.PlayingLemmas.{Playing}
use Rattle.strm_session.proofs.playing.play_steps.Given as goal

abbrev pub invariant-loop : goal.invariant-loop
invariant-loop g l =
    let tells = g.H.HostEnds.tells in
    (told : List Reply) × g.R.KeepsReplies.keeps l.replies told
    × Playing (tells l.fn.hosts) (tells l.hosts) (g.L.GivesSteps.left l.fn.steps) l.counter (g.L.GivesSteps.left l.steps) told l.store
