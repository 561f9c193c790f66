use Rattle.std.proofs.Common.{◌≡◌, ◌≤◌, false, true, length, refl, arith}
use Rattle.strm_codes.specs.ItemTypes.{Variant}
use Rattle.strm_codes.specs.Spellings.{spelled, taken, units}
use Rattle.strm_codes.specs.Begins.{Begins}
use Rattle.strm_codes.proofs.BeginLemmas.{some_number, enum_there, case_there}
use Rattle.strm_codes.proofs.FitLemmas.{leaves_enum, leaves_cases}
use Rattle.strm_codes.proofs.fits.enter_numbers.Goals as goal

pub returns-in_default-first_below-clause-none : goal.returns-in_default-first_below-clause-none
returns-in_default-first_below-clause-none c e b =
    let n = c.in-Enum.cases in
    let xs = c.args.numbers.now in
    let begins : Begins (Variant (units n)) xs = rw c.in-Enum.is at b in
    let below = enum_there n xs (omega arith) begins in
    let wrong : false ≡ true = c.in_default-first_below.ensures.some.1 (some_number (units n) xs begins, rw c.from.ensures below) in
    cc

pub returns-in_default-first_below-4-clause-none : goal.returns-in_default-first_below-4-clause-none
returns-in_default-first_below-4-clause-none c e b =
    let n = c.in-Variant.cases in
    let xs = c.args.numbers.now in
    let ts = spelled c.args.rest.now in
    let enough : n ≤ length ts = rw c.in-Variant.is at c.requires.enough in
    let begins : Begins (Variant (taken n ts)) xs = rw c.in-Variant.is at b in
    let below = case_there n ts xs (omega arith) enough begins in
    let wrong : false ≡ true = c.in_default-first_below-4.ensures.some.1 (some_number (taken n ts) xs begins, rw c.from-in-Variant.ensures below) in
    cc

pub returns-in-Some-first_below-clause-some : goal.returns-in-Some-first_below-clause-some
returns-in-Some-first_below-clause-some c =
    let f = c.in-Some-first_below.ensures.some.0 refl in
    rw (c.in-Enum.is, c.behind_one-in-Enum.ensures)
    (leaves_enum c.in-Enum.cases (spelled c.args.rest.now) c.args.numbers.now (omega arith) f.0 (rw c.from.ensures at f.1))

pub returns-in-Some-first_below-4-clause-some : goal.returns-in-Some-first_below-4-clause-some
returns-in-Some-first_below-4-clause-some c =
    let f = c.in-Some-first_below-4.ensures.some.0 refl in
    let enough : c.in-Variant.cases ≤ length (spelled c.args.rest.now) = rw c.in-Variant.is at c.requires.enough in
    rw (c.in-Variant.is, c.behind_one-in-Variant.ensures)
    (leaves_cases c.in-Variant.cases c.in-Some-first_below-4.case (spelled c.args.rest.now) c.args.numbers.now (omega arith) enough f.0 (rw c.from-in-Variant.ensures at f.1) c.in-Some-first_below-4.ensures.value)
