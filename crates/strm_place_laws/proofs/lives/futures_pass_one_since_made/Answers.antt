-- What a future passes since it was made.
use Rattle.strm_place_laws.proofs.Accounts.{one}
use Rattle.strm_place_laws.proofs.lives.futures_pass_one_since_made.Goals as goal

pub returns : goal.returns
returns c tag limits choices s run k = one tag limits choices run s k
