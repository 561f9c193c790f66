use Rattle.std.proofs.Common.{rules, ap, ◌∙◌}
use Rattle.strm_buffers.specs.Offers.{Offered}
use Rattle.strm_host_turns.proofs.ReaderPollLemmas.{no_bad}
use Rattle.strm_host_turns.proofs.pipes.poll_kept.Goals as goal

pub returns-in-Some-clause-ok : goal.returns-in-Some-clause-ok
returns-in-Some-clause-ok g c = record {
  polls = search rules;
  offered = search rules;
  after = search rules;
  finish = search rules;
  good = no_bad _ _ _ _ _ (c.poll_reader-turn.ensures.same.source ∙ ap (λ (o : Offered). o.source) c.of_items-offer.ensures) c.bad-bad.ensures.next;
}
