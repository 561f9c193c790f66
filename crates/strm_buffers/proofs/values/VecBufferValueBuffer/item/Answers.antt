use Rattle.std.proofs.Common.{◌≡◌, Some, length, get_or, drop, refl, sym, ap, ◌∙◌, arith}
use Rattle.std.proofs.lemmas.List.{length-map}
use Rattle.std.proofs.lemmas.Option.{slice_get-map, slice_get_read}
use Rattle.std.specs.Prelude.{option_map}
use Rattle.strm_buffers.proofs.values.VecBufferValueBuffer.item.Goals as goal

pub offset_bounds-as_slice-index : goal.offset_bounds-as_slice-index
offset_bounds-as_slice-index g c =
    let within = simp length-map at c.requires in
    rw c.as_slice.ensures (omega (arith, within))

pub bounds-as_slice-index : goal.bounds-as_slice-index
bounds-as_slice-index g c = rw c.as_slice.ensures (simp length-map at c.requires)

pub returns : goal.returns
returns g c =
    let left = drop c.args.self.now.first c.args.self.now.buffer.items in
    let within = simp length-map at c.requires in
    let read : c.index-as_slice-index.result ≡ get_or left c.args.index c.index-as_slice-index.result = rw (← c.as_slice.ensures) c.index-as_slice-index.is in
    slice_get-map g.T.Payloaded.item left c.args.index
    ∙ ap (option_map g.T.Payloaded.item) (slice_get_read left (length left) c.args.index c.index-as_slice-index.result refl within read)
    ∙ ap Some (sym c.lower.ensures.exact)
