use Rattle.strm_frames.proofs.ReadingLemmas.{one_split, apart, one_fault, stays}
use Rattle.strm_frames.proofs.laws.one_reading.Goals as goal

pub returns : goal.returns
returns c = record { splits = one_split; apart = apart; fault = one_fault; stays = stays }
