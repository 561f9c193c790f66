use Rattle.std.proofs.Common.{map, sym, ap, ◌∙◌}
use Rattle.std.proofs.lemmas.List.{drop-map}
use Rattle.strm_buffers.proofs.values.VecBufferValueBuffer.skip.Goals as goal

pub returns : goal.returns
returns g c = ap (map g.T.Payloaded.item) c.skip.ensures ∙ sym (drop-map g.T.Payloaded.item c.args.count _)
