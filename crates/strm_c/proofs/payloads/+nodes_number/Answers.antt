-- A number of seven words at most has 56 bits.
use Rattle.std.proofs.Common.{◌≤◌, ◌<◌, length, ap, subst, arith}
use Rattle.std.proofs.Math.Nat.{pow-le-pow_right}
use Rattle.std.specs.Prelude.{◌^◌}
use Rattle.strm_codes.specs.Spellings.{AreSpelled}
use Rattle.strm_c.proofs.PayloadLemmas.{digits_limit}
use Rattle.strm_c.proofs.WordLemmas.{spelled_first}
use Rattle.strm_c.proofs.payloads.+nodes_number.Goals as goal

pub to_byte-requires-clause-counted : goal.to_byte-requires-clause-counted
to_byte-requires-clause-counted l c =
    let few : length c.in-Some.more.now ≤ 15 = omega (arith, c.requires.few, ap length c.in-Some.ensures.cases.0) in
    (spelled_first c.in-Some.word.now c.in-Some.more.now few (subst AreSpelled c.in-Some.ensures.cases.0 c.requires.each)).0.counted

pub to_byte-requires-clause-few : goal.to_byte-requires-clause-few
to_byte-requires-clause-few l c =
    let few : length c.in-Some.more.now ≤ 15 = omega (arith, c.requires.few, ap length c.in-Some.ensures.cases.0) in
    (spelled_first c.in-Some.word.now c.in-Some.more.now few (subst AreSpelled c.in-Some.ensures.cases.0 c.requires.each)).0.few

pub nodes_number-requires : goal.nodes_number-requires
nodes_number-requires l c =
    let few : length c.in-Some.more.now ≤ 15 = omega (arith, c.requires.few, ap length c.in-Some.ensures.cases.0) in (
      omega (arith, ap length c.in-Some.ensures.cases.0),
      (
        (spelled_first c.in-Some.word.now c.in-Some.more.now few (subst AreSpelled c.in-Some.ensures.cases.0 c.requires.each)).1,
        omega (arith, c.requires.few, ap length c.in-Some.ensures.cases.0),
      ),
    )

pub returns-clause-small : goal.returns-clause-small
returns-clause-small l c =
    rw c.in-Some.ensures.cases.0
    (digits_limit 256 (length c.in-Some.more.now) c.from.result c.nodes_number.result (omega (arith, c.from.ensures, c.to_byte.type_inv)) c.nodes_number.ensures.small)

pub returns-clause-most : goal.returns-clause-most
returns-clause-most l c =
    let small = returns-clause-small l c in
    let some : 0 < 256 = omega arith in
    let most : 256 ^ length c.args.words.now ≤ 256 ^ 7 = pow-le-pow_right some c.requires.few in
    let is : 256 ^ 7 ≤ 72057594037927936 = omega arith in
    omega (arith, small, most, is)
