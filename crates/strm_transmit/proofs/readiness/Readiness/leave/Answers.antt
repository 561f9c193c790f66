use Rattle.strm_transmit.proofs.ToldLemmas.{leaves-nothing}
use Rattle.strm_transmit.proofs.ReadyGuestLemmas.{same_counts}
use Rattle.strm_transmit.proofs.readiness.Readiness.leave.Goals as goal

pub returns-else-self : goal.returns-else-self
returns-else-self c = record {
  leaves = leaves-nothing c.args.guest c.args.handle c.args.home c.args.self.now.sets
      (rw (← c.self.view_is) (c.self.invariant c.if-self.false).sets);
  counts = same_counts c.args.self.now;
}
