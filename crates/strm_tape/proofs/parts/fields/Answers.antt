use Rattle.std.proofs.Common.{◌≡◌, ◌∙◌, ◌+◌, ◌-◌, take, Some, sym, ap, arith, length-set}
use Rattle.std.proofs.lemmas.List.{take_more_set}
use Rattle.strm_tape.proofs.TypeLemmas.{fields_stopped, fields_on, fields_over}
use Rattle.strm_tape.proofs.parts.fields.Goals as goal

pub returns-in_default : goal.returns-in_default
returns-in_default c =
    let k = c.loop-k.k in
    sym (fields_stopped (take k c.loop-k.all) (c.args.count - k) c.loop-k.rest.now (omega (arith, c.loop-k-test.true, c.from-k-end.ensures)) (sym c.in_default.ensures))
    ∙ c.loop-k.invariant.rest

pub loop-k-preserved : goal.loop-k-preserved
loop-k-preserved c =
    let k = c.loop-k.k in
    let all = c.loop-k.all in
    let field = c.in-Some.field in
    record {
      whole = length-set all k field ∙ c.loop-k.invariant.whole;
      rest =
          rw (take_more_set all k field (omega (arith, c.loop-k.invariant.whole, c.loop-k-test.true, c.from-k-end.ensures, c.requires.most)))
          (fields_on (take k all) (c.args.count - k) (c.args.count - (k + 1)) c.loop-k.rest.now (field, c.in-Some.behind.now) (omega (arith, c.loop-k-test.true, c.from-k-end.ensures)) (sym c.in-Some.ensures))
          ∙ c.loop-k.invariant.rest;
    }

pub returns : goal.returns
returns c =
    let k = c.loop-k.k in
    let done : c.from.result ≡ k = omega (arith, c.from.ensures, c.loop-k-test.false, c.loop-k.auto.k-end, c.from-k-end.ensures) in
    ap (λ l. Some (l, c.loop-k.rest.now)) (c.in-Some-new.ensures.value ∙ ap (λ n. take n c.loop-k.all) done)
    ∙ sym (fields_over (take k c.loop-k.all) (c.args.count - k) c.loop-k.rest.now (omega (arith, done, c.from.ensures)))
    ∙ c.loop-k.invariant.rest
