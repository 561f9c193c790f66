-- What a future passes.
use Rattle.strm_host_laws.proofs.GuestRuns.{one}
use Rattle.strm_host_laws.proofs.guests.futures_pass_one.Goals as goal

pub returns : goal.returns
returns c tag limits old new run count s a g p k = one tag limits old new run count s a g p k
