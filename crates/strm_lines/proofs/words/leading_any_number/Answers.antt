use Rattle.std.proofs.Common.{◌+◌, ◌-◌, ◌*◌, ◌^◌, ◌≤◌, drop, get_or, refl, sym, ap, ◌∙◌, arith}
use Rattle.std.proofs.lemmas.List.{drop_more, drop_all}
use Rattle.strm_lines.specs.Reading.{read_to}
use Rattle.strm_lines.proofs.NumberLemmas.{read_to-digit, read_to-large, read_to-end}
use Rattle.strm_lines.proofs.words.leading_any_number.Goals as goal

pub returns-in_default : goal.returns-in_default
returns-in_default c =
    let line = c.args.line.now in
    let k = c.loop-k.k in
    let n = c.loop-k.number in
    let digit = sym c.is_ascii_digit.ensures.value ∙ c.if-not-is_ascii_digit.false in
    let large : 2 ^ 32 ≤ 10 * n + (get_or line k 0 - 48) = omega (arith, c.in_default.ensures) in
    sym (c.if-not-may_begin_number.ensures.yes refl ∙ sym c.loop-k.invariant.rest ∙ ap (read_to n) (drop_more line k 0 c.loop-k-test.true) ∙ read_to-large n (get_or line k 0) (drop (k + 1) line) digit large)

pub loop-k-preserved : goal.loop-k-preserved
loop-k-preserved c =
    let line = c.args.line.now in
    let k = c.loop-k.k in
    let n = c.loop-k.number in
    let digit = sym c.is_ascii_digit.ensures.value ∙ c.if-not-is_ascii_digit.false in
    let next = c.in-Some.ensures in
    record {
      small = omega (arith, next.0, next.1);
      rest = ap (λ m. read_to m (drop (k + 1) line)) next.1
          ∙ sym (read_to-digit n (get_or line k 0) (drop (k + 1) line) digit next.0)
          ∙ ap (read_to n) (sym (drop_more line k 0 c.loop-k-test.true)) ∙ c.loop-k.invariant.rest;
    }

pub returns : goal.returns
returns c =
    let line = c.args.line.now in
    let n = c.loop-k.number in
    sym (c.if-not-may_begin_number.ensures.yes refl ∙ sym c.loop-k.invariant.rest ∙ ap (read_to n) (drop_all c.loop-k.k line (omega (arith, c.loop-k-test.false))) ∙ read_to-end n)
