-- A word of eight fields at most has 32 bits.
use Rattle.std.proofs.Common.{◌≤◌, ◌<◌, length, arith}
use Rattle.std.proofs.Math.Nat.{pow-le-pow_right}
use Rattle.std.specs.Prelude.{◌^◌}
use Rattle.strm_c.proofs.PayloadLemmas.{digits_limit}
use Rattle.strm_c.proofs.payloads.+fields_word.Goals as goal

pub returns-clause-small : goal.returns-clause-small
returns-clause-small l c =
    rw c.in-Some.ensures.cases.0
    (digits_limit 16 (length c.in-Some.more.now) c.scalar_number.result c.fields_word.result c.scalar_number.ensures.small c.fields_word.ensures.small)

pub returns-clause-most : goal.returns-clause-most
returns-clause-most l c =
    let small = returns-clause-small l c in
    let some : 0 < 16 = omega arith in
    let most : 16 ^ length c.args.fields.now ≤ 16 ^ 8 = pow-le-pow_right some c.requires in
    let is : 16 ^ 8 ≤ 4294967296 = omega arith in
    omega (arith, small, most, is)
