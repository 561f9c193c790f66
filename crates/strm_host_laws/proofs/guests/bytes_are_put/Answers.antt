-- What is put lies there.
use Rattle.strm_host_laws.proofs.HostBytes.{bytes_are_put}
use Rattle.strm_host_laws.proofs.guests.bytes_are_put.Goals as goal

pub returns : goal.returns
returns c tag limits old new run count = bytes_are_put tag limits old new run count
