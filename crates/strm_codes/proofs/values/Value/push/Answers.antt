use Rattle.std.proofs.Common.{arith, ap, length}
use Rattle.std.proofs.lemmas.Int.{to_z-of_z}
use Rattle.std.proofs.lemmas.List.{length-take-le}
use Rattle.std.specs.Int.{w128}
use Rattle.strm_codes.proofs.ValueLemmas.{AreNumbers-push}
use Rattle.strm_codes.proofs.values.Value.push.Goals as goal

pub invariant_of-self : goal.invariant_of-self
invariant_of-self c =
    let v = c.self.inside in
    let are = c.self.invariant in
    let len = length-take-le v.len v.numbers (omega (arith, are.padded.most, are.padded.whole)) in
    rw (to_z-of_z w128 c.args.number c.ranges.number)
    (AreNumbers-push v.numbers v.len c.args.number are (omega (arith, c.requires.few, ap length c.self.view_is, len)) c.requires.range)
