-- What every step hands to the laws: what it is seen to do to each stream, and a lawful state.
use Rattle.std.proofs.Common.{ℕ, arith}
use Rattle.strm_machine.specs.Words.{State, Act}
use Rattle.strm_machine.specs.Moments.{PutsBytes}
use Rattle.strm_machine.specs.Reactions.{reaction}
use Rattle.strm_machine.proofs.MomentLemmas.{Seen}
use Rattle.strm_machine.proofs.SoundStepLemmas.{reaction-sound}
use Rattle.strm_machine.proofs.Lawful.{IsLawful, HasRoom, as_moment, Reacts}
use Rattle.strm_machine.proofs.SeenSteps.{reaction_seen}
use Rattle.strm_machine.proofs.ByteSteps.{reaction_bytes}
use Rattle.strm_machine.proofs.StreamSteps.{reaction_streams}

pub reacts : (state : State) (act : Act) → PutsBytes act → IsLawful state → HasRoom state → Reacts state act (reaction state act)
reacts state act b h room =
    let r = reaction state act in
    let streams = reaction_streams state act h.sound in
    let seen : (s : ℕ) → Seen s (as_moment state act r) = λ s. reaction_seen state act s h.sound (record { bytes = h.bytes; apart = h.apart s; tallies = h.tallies s }) (room s) in
    record {
      change = λ s. (seen s).change;
      made = λ s l. record { there = omega (arith, l, streams.many); kind = streams.kind s l };
      whole = λ s. (seen s).whole;
      most = λ s. (seen s).most;
      lawful = record { sound = reaction-sound state act h.sound; bytes = reaction_bytes state act b h.sound h.bytes; apart = λ s. (seen s).apart; tallies = λ s. (seen s).tallies };
    }
