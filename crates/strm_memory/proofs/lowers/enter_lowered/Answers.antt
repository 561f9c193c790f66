use Rattle.std.proofs.Common.{◌≡◌, ◌≤◌, ◌∷◌, pos, get_or, length, ap, arith, rules}
use Rattle.std.proofs.lemmas.Int.{to_z-of_z}
use Rattle.std.specs.Int.{w128}
use mir.Val.{SFits}
use Rattle.strm_codes.specs.Measures.{span}
use Rattle.strm_codes.specs.Spellings.{spelled, taken, unit}
use Rattle.strm_codes.specs.declared.measures.Span.{Span}
use Rattle.strm_codes.proofs.BeginLemmas.{enum_there, case_there}
use Rattle.strm_memory.proofs.LowerLemmas.{stores_nothing, stores_tuple, stores_plain, stores_flags, stores_enum, stores_option, stores_result, stores_cases}
use Rattle.strm_memory.proofs.lowers.enter_lowered.Goals as goal

pub lower_case-case-requires-clause-fits : goal.lower_case-case-requires-clause-fits
lower_case-case-requires-clause-fits c =
    let wide : SFits w128 (get_or c.args.numbers.now 0 (pos 0)) = search rules in
    let n = c.in-Enum.cases in
    rw (to_z-of_z w128 (get_or c.args.numbers.now 0 (pos 0)) wide, c.from.ensures)
    (enum_there n c.args.numbers.now (omega arith) (rw c.in-Enum.is at c.requires.begins))

pub lower_case-case-requires-in-Option-clause-fits : goal.lower_case-case-requires-in-Option-clause-fits
lower_case-case-requires-in-Option-clause-fits c =
    let wide : SFits w128 (get_or c.args.numbers.now 0 (pos 0)) = search rules in
    let ts = spelled c.args.rest.now in
    let few : 1 ≤ length ts = rw c.in-Option.is at c.requires.enough in
    rw (to_z-of_z w128 (get_or c.args.numbers.now 0 (pos 0)) wide)
    (case_there 2 (unit ∷ ts) c.args.numbers.now (omega arith) (omega (arith, few)) (rw c.in-Option.is at c.requires.begins))

pub lower_case-case-requires-in-Result-clause-fits : goal.lower_case-case-requires-in-Result-clause-fits
lower_case-case-requires-in-Result-clause-fits c =
    let wide : SFits w128 (get_or c.args.numbers.now 0 (pos 0)) = search rules in
    let ts = spelled c.args.rest.now in
    let few : 2 ≤ length ts = rw c.in-Result.is at c.requires.enough in
    rw (to_z-of_z w128 (get_or c.args.numbers.now 0 (pos 0)) wide)
    (case_there 2 ts c.args.numbers.now (omega arith) few (rw c.in-Result.is at c.requires.begins))

pub lower_case-case-requires-in-Variant-clause-fits : goal.lower_case-case-requires-in-Variant-clause-fits
lower_case-case-requires-in-Variant-clause-fits c =
    let wide : SFits w128 (get_or c.args.numbers.now 0 (pos 0)) = search rules in
    let n = c.in-Variant.cases in
    let ts = spelled c.args.rest.now in
    let few : n ≤ length ts = rw c.in-Variant.is at c.requires.enough in
    rw (to_z-of_z w128 (get_or c.args.numbers.now 0 (pos 0)) wide, c.from-in-Variant.ensures)
    (case_there n ts c.args.numbers.now (omega arith) few (rw c.in-Variant.is at c.requires.begins))

pub returns-in-Nothing : goal.returns-in-Nothing
returns-in-Nothing c = rw (c.in-Nothing.is, c.behind_none.ensures) (stores_nothing (spelled c.args.rest.now) c.args.numbers.now c.args.bytes.now c.args.from)

pub returns-in-Plain : goal.returns-in-Plain
returns-in-Plain c =
    let wide : SFits w128 (get_or c.args.numbers.now 0 (pos 0)) = search rules in
    rw (c.in-Plain.is, c.behind_one.ensures)
    (stores_plain c.in-Plain.scalar (spelled c.args.rest.now) c.args.numbers.now c.args.bytes.now c.lower_field.new.bytes c.args.from (rw c.in-Plain.is at c.requires.begins) (rw (to_z-of_z w128 (get_or c.args.numbers.now 0 (pos 0)) wide) at c.lower_field.ensures) (rw c.in-Plain.is at c.requires.holds))

pub returns-in-Flags : goal.returns-in-Flags
returns-in-Flags c =
    let wide : SFits w128 (get_or c.args.numbers.now 0 (pos 0)) = search rules in
    rw (c.in-Flags.is, c.behind_one-in-Flags.ensures)
    (stores_flags c.in-Flags.flags (spelled c.args.rest.now) c.args.numbers.now c.args.bytes.now c.lower_flags.new.bytes c.args.from (rw c.in-Flags.is at c.requires.begins) (rw (to_z-of_z w128 (get_or c.args.numbers.now 0 (pos 0)) wide) at c.lower_flags.ensures) (rw c.in-Flags.is at c.requires.holds))

pub returns-in-Enum : goal.returns-in-Enum
returns-in-Enum c =
    let wide : SFits w128 (get_or c.args.numbers.now 0 (pos 0)) = search rules in
    let n = c.in-Enum.cases in
    rw (c.in-Enum.is, c.behind_one-in-Enum.ensures)
    (stores_enum n (spelled c.args.rest.now) c.args.numbers.now c.args.bytes.now c.lower_case-case.new.bytes c.args.from (omega arith) (rw c.in-Enum.is at c.requires.holds) (rw c.in-Enum.is at c.requires.begins) (rw (to_z-of_z w128 (get_or c.args.numbers.now 0 (pos 0)) wide) at c.lower_case-case.ensures.put))

pub returns-in-Option : goal.returns-in-Option
returns-in-Option c =
    let wide : SFits w128 (get_or c.args.numbers.now 0 (pos 0)) = search rules in
    let ts = spelled c.args.rest.now in
    let e = c.lower_case-case-in-Option.ensures in
    let inner : c.args.inner ≡ span 0 (taken 1 ts) = rw c.in-Option.is at c.requires.inner in
    rw (c.in-Option.is, c.behind_one-in-Option.ensures)
    (stores_option ts c.args.numbers.now c.args.bytes.now c.lower_case-case-in-Option.new.bytes c.args.from c.round.result c.args.inner.align c.lower_case-case-in-Option.result (rw c.in-Option.is at c.requires.enough) c.requires.some (ap (λ (s : Span). s.align) inner) (rw c.in-Option.is at c.requires.holds) (rw c.in-Option.is at c.requires.begins)
    (rw (to_z-of_z w128 (get_or c.args.numbers.now 0 (pos 0)) wide) at e.exact) (rw (to_z-of_z w128 (get_or c.args.numbers.now 0 (pos 0)) wide) at e.put) c.round.ensures.exact)

pub returns-in-Result : goal.returns-in-Result
returns-in-Result c =
    let wide : SFits w128 (get_or c.args.numbers.now 0 (pos 0)) = search rules in
    let ts = spelled c.args.rest.now in
    let e = c.lower_case-case-in-Result.ensures in
    let inner : c.args.inner ≡ span 0 (taken 2 ts) = rw c.in-Result.is at c.requires.inner in
    rw (c.in-Result.is, c.behind_one-in-Result.ensures)
    (stores_result ts c.args.numbers.now c.args.bytes.now c.lower_case-case-in-Result.new.bytes c.args.from c.round-in-Result.result c.args.inner.align c.lower_case-case-in-Result.result (rw c.in-Result.is at c.requires.enough) (ap (λ (s : Span). s.align) inner) (rw c.in-Result.is at c.requires.holds) (rw c.in-Result.is at c.requires.begins)
    (rw (to_z-of_z w128 (get_or c.args.numbers.now 0 (pos 0)) wide) at e.exact) (rw (to_z-of_z w128 (get_or c.args.numbers.now 0 (pos 0)) wide) at e.put) c.round-in-Result.ensures.exact)

pub returns-in-Tuple : goal.returns-in-Tuple
returns-in-Tuple c =
    rw (c.in-Tuple.is, c.behind_none-in-Tuple.ensures, c.from-in-Tuple.ensures)
    (stores_tuple c.in-Tuple.fields (spelled c.args.rest.now) c.args.numbers.now c.args.bytes.now c.args.from (rw c.in-Tuple.is at c.requires.begins))

pub returns-in-Variant : goal.returns-in-Variant
returns-in-Variant c =
    let wide : SFits w128 (get_or c.args.numbers.now 0 (pos 0)) = search rules in
    let ts = spelled c.args.rest.now in
    let n = c.in-Variant.cases in
    let e = c.lower_case-case-in-Variant.ensures in
    let inner : c.args.inner ≡ span 0 (taken n ts) = rw c.in-Variant.is at c.requires.inner in
    rw (c.in-Variant.is, c.behind_one-in-Variant.ensures)
    (stores_cases n ts c.args.numbers.now c.args.bytes.now c.lower_case-case-in-Variant.new.bytes c.args.from c.round-in-Variant.result c.args.inner.align c.lower_case-case-in-Variant.result (omega arith) (rw c.in-Variant.is at c.requires.enough) (ap (λ (s : Span). s.align) inner) (rw c.in-Variant.is at c.requires.holds) (rw c.in-Variant.is at c.requires.begins)
    (rw (to_z-of_z w128 (get_or c.args.numbers.now 0 (pos 0)) wide) at e.exact) (rw (to_z-of_z w128 (get_or c.args.numbers.now 0 (pos 0)) wide) at e.put) c.round-in-Variant.ensures.exact)
