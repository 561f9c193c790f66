use Rattle.std.proofs.Common.{◌≡◌, ◌-◌, refl, ◌∙◌, ap, arith}
use Rattle.strm_buffers.specs.Offers.{items_lent}
use Rattle.strm_buffers.proofs.EndLemmas.{IfAnswered-turn_of}
use Rattle.strm_program_ends.specs.Credits.{credit_answer}
use Rattle.strm_program_ends.proofs.credit_reader.CreditReaderHostReader.poll.Goals as goal

pub returns-clause-by_credit : goal.returns-clause-by_credit
returns-clause-by_credit c =
    let reader = c.args.self.now in
    let left = reader.credit - c.taken-taken.result in
    let lent = items_lent c.args.offer.now.source in
    let offered : c.remaining-offered.result ≡ lent = omega (arith, c.remaining-offered.ensures, c.requires.nothing_taken) in
    let is : c.answer-answer.result ≡ credit_answer reader.kind left reader.is_ended lent c.take_credit.new.offer.taken c.args.finish =
    c.answer-answer.ensures
    ∙ ap (λ n. credit_answer reader.kind left reader.is_ended n c.taken-taken.result c.args.finish) offered
    ∙ ap (λ n. credit_answer reader.kind left reader.is_ended lent n c.args.finish) c.taken-taken.ensures.exact in
    record {
      takes = rw c.turn.ensures (IfAnswered-turn_of c.answer-answer.result _ c.take_credit.ensures.takes);
      credit = ap (λ n. reader.credit - n) c.taken-taken.ensures.exact;
      ended = refl;
      answers = rw c.turn.ensures (IfAnswered-turn_of c.answer-answer.result _ is);
    }
