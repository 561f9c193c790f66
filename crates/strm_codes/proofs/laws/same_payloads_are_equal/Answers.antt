use Rattle.strm_codes.proofs.SamenessLemmas.{Decides-same_payload}
use Rattle.strm_codes.proofs.laws.same_payloads_are_equal.Goals as goal

pub returns : goal.returns
returns c = Decides-same_payload
