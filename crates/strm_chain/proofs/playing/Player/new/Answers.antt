use Rattle.std.proofs.Common.{subst}
use Rattle.strm_host_machine.specs.Does.{Fits}
use Rattle.strm_transmit.specs.Guests.{nobody}
use Rattle.strm_chain.proofs.PlayingLemmas.{follows_start}
use Rattle.strm_chain.proofs.playing.Player.new.Goals as goal

pub invariant_of-result : goal.invariant_of-result
invariant_of-result c =
    rw (c.new.ensures.exact, c.new-2.ensures.steps, c.new-2.ensures.replies) (follows_start (subst (λ s. Fits s nobody) c.new.ensures.exact (c.new.ensures.fits _)))
