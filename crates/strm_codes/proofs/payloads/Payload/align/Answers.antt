use Rattle.std.proofs.Common.{sym, ap, ◌∙◌}
use Rattle.strm_codes.specs.Layout.{item_type}
use Rattle.strm_codes.specs.ItemTypes.{align_of}
use Rattle.strm_codes.proofs.FieldTypeLemmas.{align_of-fields}
use Rattle.strm_codes.proofs.payloads.Payload.align.Goals as goal

pub returns-in-Tuple-clause-exact : goal.returns-in-Tuple-clause-exact
returns-in-Tuple-clause-exact c =
    c.align.ensures.exact ∙ sym (align_of-fields c.in-Tuple.shape) ∙ ap (λ p. align_of (item_type p)) (sym c.in-Tuple.is)
