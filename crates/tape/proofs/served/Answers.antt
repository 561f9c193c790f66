-- What is done for words that do not tell it to draw.
use Rattle.std.proofs.Common.{ap}
use Rattle.strm_input_output.specs.Serving.{port}
use Rattle.tape.proofs.OutcomeLemmas.{answers_all}
use Rattle.tape.proofs.served.Goals as goal

pub returns-clause-answers : goal.returns-clause-answers
returns-clause-answers g c = λ other.
    answers_all _ _ _ _ _ _ c.answered.result c.answered.ensures.takes c.answered.ensures.plays c.answered.ensures.usage
    (λ none. ap (λ s. port (g.S.Source.left s) (g.S.Source.faults s)) (c.answered.ensures.unread none))
