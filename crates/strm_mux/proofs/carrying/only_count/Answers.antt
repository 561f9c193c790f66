use Rattle.std.proofs.Common.{refl}
use Rattle.strm_mux.proofs.CarryLemmas.{count_only}
use Rattle.strm_mux.proofs.carrying.only_count.Goals as goal

pub returns : goal.returns
returns c = count_only c.args.counts.now _ c.requires refl
