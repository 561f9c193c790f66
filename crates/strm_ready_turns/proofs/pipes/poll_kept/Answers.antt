use Rattle.std.proofs.Common.{ap, ◌∙◌}
use Rattle.strm_buffers.specs.Offers.{Offered}
use Rattle.strm_buffers.specs.declared.sources.Source.TheVariants.{Listed}
use Rattle.strm_ready_turns.proofs.PipeLemmas.{all_passed, all_granted}
use Rattle.strm_ready_turns.proofs.pipes.poll_kept.Goals as goal

pub returns-clause-ok : goal.returns-clause-ok
returns-clause-ok c =
    all_passed c.args.reader.now c.take_from-said.new.self c.args.kept.now c.args.since c.of_items-offer.result c.take_from-said.new.offer c.take_from-said.result (record {
      takes = c.take_from-said.ensures.takes;
      record_is = c.take_from-said.ensures.said;
      counted = c.take_from-said.ensures.counted;
      most = c.take_from-said.ensures.most;
      next = c.take_from-said.ensures.next;
      err = c.take_from-said.ensures.err;
      source = ap (λ (o : Offered). o.source) c.of_items-offer.ensures ∙ ap Listed c.replace.ensures.value;
      since_is = ap (λ (o : Offered). o.since) c.of_items-offer.ensures;
      untaken = ap (λ (o : Offered). o.taken) c.of_items-offer.ensures;
    })

pub returns-clause-granted : goal.returns-clause-granted
returns-clause-granted c =
    all_granted c.args.reader.now c.take_from-said.new.self c.args.kept.now c.args.since c.of_items-offer.result c.take_from-said.new.offer c.take_from-said.result (record {
      takes = c.take_from-said.ensures.takes;
      record_is = c.take_from-said.ensures.said;
      counted = c.take_from-said.ensures.counted;
      most = c.take_from-said.ensures.most;
      next = c.take_from-said.ensures.next;
      err = c.take_from-said.ensures.err;
      source = ap (λ (o : Offered). o.source) c.of_items-offer.ensures ∙ ap Listed c.replace.ensures.value;
      since_is = ap (λ (o : Offered). o.since) c.of_items-offer.ensures;
      untaken = ap (λ (o : Offered). o.taken) c.of_items-offer.ensures;
    })
