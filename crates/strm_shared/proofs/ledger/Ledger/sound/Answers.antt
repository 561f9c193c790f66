use Rattle.std.proofs.Common.{subst}
use Rattle.strm_shared.specs.Waits.{AreWaits}
use Rattle.strm_shared.proofs.WaitLemmas.{kept_waits}
use Rattle.strm_shared.proofs.ledger.Ledger.sound.Goals as goal

pub returns : goal.returns
returns c =
    subst (λ a. AreWaits a.limits a.log a.waits) c.self.view_is
    (kept_waits c.self.inside.limits c.self.inside.store c.self.inside.history.items c.self.inside.waits.items c.self.inside.history.room c.self.invariant)
