use Rattle.std.proofs.Common.{◌≡◌, ◌∙◌, ◌<◌, length, ap, arith}
use Rattle.std.proofs.lemmas.List.{get_or_default}
use Rattle.strm_machine.specs.declared.streams.Stream.{Stream}
use Rattle.strm_machine.specs.State.{no_stream, stream_at}
use Rattle.strm_transmit.proofs.PipeStoreLemmas.{kind-with, payload-with}
use Rattle.strm_transmit.proofs.store.Store.transmit_index.Goals as goal

pub returns-clause-ty : goal.returns-clause-ty
returns-clause-ty c =
    let there : c.args.stream < length c.self.inside.streams.items = omega (arith, c.if-stream-len.false, c.len.ensures) in
    let at : c.index-stream.result.now ≡ stream_at c.args.self.now c.args.stream =
    rw (← c.self.view_is) (c.index-stream.ensures ∙ get_or_default _ c.args.stream c.index-stream.result.now no_stream there) in
    let kind = c.kind.ensures ∙ ap (λ (s : Stream). s.kind) at in
    let payload = c.payload.ensures ∙ ap (λ (s : Stream). s.payload) at in
    rw c.type_with.ensures (kind-with c.kind.result c.payload.result ∙ kind, payload-with c.kind.result c.payload.result ∙ payload)
