use Rattle.std.proofs.Common.{inr}
use Rattle.strm_chain.proofs.GuestLemmas.{has_write, drop_is_done}
use Rattle.strm_chain.proofs.workers.end.Goals as goal

pub unreachable-requires : goal.unreachable-requires
unreachable-requires c =
    has_write c.args.guest c.args.worker.now c.args.player.now c.requires.guest c.requires.guest.played (inr (c.requires.rests, c.requires.closed)) c.in_default.is

pub drop_writable-requires-clause-done : goal.drop_writable-requires-clause-done
drop_writable-requires-clause-done c =
    drop_is_done c.args.guest c.args.worker.now c.args.player.now c.requires.guest c.requires.guest.played c.in-Some.handle (let i = c.in-Some.is in cc) c.requires.rests
