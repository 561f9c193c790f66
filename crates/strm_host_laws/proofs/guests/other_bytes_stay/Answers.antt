-- The bytes beside what a moment touches.
use Rattle.strm_host_laws.proofs.HostBytes.{other_bytes_stay}
use Rattle.strm_host_laws.proofs.guests.other_bytes_stay.Goals as goal

pub returns : goal.returns
returns c tag limits old new run count a = other_bytes_stay tag limits old new run count a
