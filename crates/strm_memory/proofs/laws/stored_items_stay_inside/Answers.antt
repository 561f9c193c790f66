use Rattle.strm_memory.proofs.RegionLemmas.{length-stored_at, bytes_at-stored_at}
use Rattle.strm_memory.proofs.laws.stored_items_stay_inside.Goals as goal

pub returns : goal.returns
returns c = record {
  len = length-stored_at;
  outside = bytes_at-stored_at;
}
