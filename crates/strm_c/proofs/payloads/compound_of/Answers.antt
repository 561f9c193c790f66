-- Words spell a compound, or none.
use Rattle.std.proofs.Common.{◌≡◌, Some, true, false, refl, sym, ap, ◌∙◌}
use Rattle.strm_codes.specs.declared.payloads.Payload.TheVariants as form
use Rattle.strm_c.proofs.WordLemmas.{is_compound, no_compound}
use Rattle.strm_c.proofs.payloads.compound_of.Goals as goal

pub returns-in-Some : goal.returns-in-Some
returns-in-Some c =
    ap (λ words. Some (form.Compound words)) c.in-Some.ensures.value ∙ sym (is_compound c.args.words.now (c.in-Some.ensures.some.0 refl))

pub returns-in-None : goal.returns-in-None
returns-in-None c = sym (no_compound c.args.words.now (λ i. absurd (let wrong : false ≡ true = c.in-None.ensures.some.1 i in cc)))
