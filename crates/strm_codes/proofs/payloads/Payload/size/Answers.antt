use Rattle.std.proofs.Common.{sym, ap, ◌∙◌}
use Rattle.strm_codes.specs.Layout.{item_type}
use Rattle.strm_codes.specs.ItemTypes.{item_size}
use Rattle.strm_codes.proofs.FieldTypeLemmas.{item_size-fields}
use Rattle.strm_codes.proofs.payloads.Payload.size.Goals as goal

pub returns-in-Tuple-clause-exact : goal.returns-in-Tuple-clause-exact
returns-in-Tuple-clause-exact c =
    c.size-in-Tuple.ensures.exact ∙ sym (item_size-fields c.in-Tuple.shape) ∙ ap (λ p. item_size (item_type p)) (sym c.in-Tuple.is)
