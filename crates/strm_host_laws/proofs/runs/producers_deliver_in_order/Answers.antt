-- What a host writer produced is what was received and what is held.
use Rattle.strm_host_laws.proofs.Delivered.{run-delivers}
use Rattle.strm_host_laws.proofs.runs.producers_deliver_in_order.Goals as goal

pub returns : goal.returns
returns c tag limits old new run count s h few = run-delivers tag limits old new run count s h few
