use Rattle.std.proofs.Common.{◌∷◌, [], pos, map, ap, sym, ◌∙◌}
use Rattle.std.proofs.lemmas.Option.{IfSome_then}
use Rattle.std.proofs.lemmas.Simd.{map-map}
use Rattle.strm_memory.proofs.payloaded.AnyPayloaded.take_bytes.Goals as goal

pub returns-clause-bytes : goal.returns-clause-bytes
returns-clause-bytes g c =
    IfSome_then c.take_bytes.result c.take_bytes.ensures.bytes
    (λ bytes e. sym (map-map (λ x. x ∷ []) g.T.Field.number c.args.values.now.items) ∙ ap (map (λ x. x ∷ [])) e ∙ map-map (λ x. x ∷ []) (λ b. pos b) bytes.items)
