use Rattle.strm_codes.proofs.SamenessLemmas.{Decides-same_payload}
use Rattle.std.proofs.lemmas.Bool.Decides.{Decides-at}
use Rattle.strm_program_tests.proofs.tape.ends.same_payload.Goals as goal

pub returns : goal.returns
returns c = Decides-at c.eq.result _ c.eq.ensures (Decides-same_payload c.args.a c.args.b)
