-- An end that made a guest ready and makes another ready; or the same one, or none as before.
use Rattle.std.proofs.Common.{◌∙◌, arith}
use Rattle.strm_transmit.proofs.ReadyGuestLemmas.{few-lowered}
use Rattle.strm_transmit.proofs.ready_counts.recount_end.Goals as goal

pub raise_for-requires : goal.raise_for-requires
raise_for-requires c = few-lowered c.args.counts.now c.lower_for.new.counts c.args.was c.lower_for.ensures.all c.lower_for.ensures.counts c.requires.few

pub returns : goal.returns
returns c = record {
  all = c.raise_for.ensures.all ∙ c.lower_for.ensures.all;
  counts = λ g l. omega (arith, c.lower_for.ensures.counts g l, c.raise_for.ensures.counts g (omega (arith, l, c.lower_for.ensures.all)));
}
