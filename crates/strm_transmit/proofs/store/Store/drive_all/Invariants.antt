use Rattle.std.proofs.Common.{◌≡◌, ◌≤◌, ◌-◌, length, Ok}
use Rattle.strm_machine.specs.declared.replies.Reply.TheVariants as replies
use Rattle.strm_host_machine.specs.Does.{Fits, Does}
use Rattle.strm_host_machine.proofs.DriveLemmas.{drives_first}
use Rattle.strm_transmit.proofs.store.Store.drive_all.Given as goal

-- the streams before the next one had their turns
abbrev pub invariant-loop-stream : goal.invariant-loop-stream
invariant-loop-stream g l =
    let tells = g.H.HostEnds.tells in
    record {
      does : Does l.fn.self l.self (tells l.fn.hosts) (tells l.hosts) (Ok replies.Done) (drives_first l.next);
      fits : Fits l.self (tells l.hosts);
      made : length l.self.streams ≡ length l.fn.self.streams;
      within : l.next ≤ length l.fn.self.streams;
    }

abbrev pub decreases-loop-stream : goal.decreases-loop-stream
decreases-loop-stream g l = length l.fn.self.streams - l.next
