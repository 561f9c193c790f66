use Rattle.std.proofs.Common.{◌∙◌, Some, refl, sym, ap}
use Rattle.strm_tape.proofs.TypeLemmas.{spelled_so, not_spelled}
use Rattle.strm_tape.proofs.parts.spelled_type.Goals as goal

pub returns-in_default : goal.returns-in_default
returns-in_default c = sym (not_spelled c.args.words.now c.args.rest.now c.in_default.ensures.some.1)

pub returns : goal.returns
returns c =
    ap (λ w. Some (w, c.args.rest.now)) c.in-Some.ensures.value
    ∙ sym (spelled_so c.args.words.now c.args.rest.now (c.in-Some.ensures.some.0 refl))
