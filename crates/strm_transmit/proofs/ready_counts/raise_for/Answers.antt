use Rattle.std.proofs.Common.{arith}
use Rattle.strm_transmit.proofs.ReadyGuestLemmas.{counts_more}
use Rattle.strm_transmit.proofs.ready_counts.raise_for.Goals as goal

pub raise-requires : goal.raise-requires
raise-requires c = record { few = omega (arith, c.requires c.in-Some.guest) }

pub returns : goal.returns
returns c =
    let more = counts_more c.args.counts.now _ c.args.is c.in-Some.guest c.in-Some.is c.raise.ensures in
    record { all = more.all; counts = more.counts }
