use Rattle.std.proofs.Common.{◌≡◌, ◌+◌, ◌*◌, ◌≤◌, length, ◌∙◌, ap, true}
use Rattle.strm_codes.specs.Layout.{item_type}
use Rattle.strm_codes.specs.ItemTypes.{item_size}
use Rattle.strm_memory.specs.Linear.{LinearMemory}
use Rattle.strm_buffers.specs.Windows.{Lent, lent_memory}
use Rattle.strm_buffers.proofs.EndLemmas.{IfAnswered-then}
use Rattle.strm_uses.proofs.BufferLemmas.{stays_outside, fetches}
use Rattle.strm_uses.proofs.buffers.fetch.Goals as goal

pub returns-clause-outside : goal.returns-clause-outside
returns-clause-outside g c =
    let payload = c.writer_payload.result in
    let memory = c.args.memory.now in
    let inside : c.args.address + item_size (item_type payload) * c.args.room ≤ length memory.bytes = rw c.writer_payload.ensures c.requires.inside in
    let made : c.over-window.result ≡ lent_memory payload memory c.args.address c.args.room = c.over-window.ensures ∙ ap (λ m. lent_memory payload m c.args.address c.args.room) c.replace-lent.ensures.value in
    let is : c.prepare.new.self ≡ record (lent_memory payload memory c.args.address c.args.room) { prepared = true } = c.in-Ok.ensures.ok ∙ ap (λ (w : Lent). record w { prepared = true }) made in
    rw (← c.writer_payload.ensures) (stays_outside payload memory c.into_memory-2.result.0.bytes c.args.address c.args.room c.marked.result c.prepare.new.self c.poll_writer-turn.new.window inside is c.poll_writer-turn.ensures.fills (ap (λ (m : LinearMemory). m.bytes) c.into_memory-2.ensures.memory) c.marked.ensures.exact c.marked.ensures.room)

pub returns-clause-fetched : goal.returns-clause-fetched
returns-clause-fetched g c =
    let payload = c.writer_payload.result in
    let memory = c.args.memory.now in
    let inside : c.args.address + item_size (item_type payload) * c.args.room ≤ length memory.bytes = rw c.writer_payload.ensures c.requires.inside in
    let made : c.over-window.result ≡ lent_memory payload memory c.args.address c.args.room = c.over-window.ensures ∙ ap (λ m. lent_memory payload m c.args.address c.args.room) c.replace-lent.ensures.value in
    let is : c.prepare.new.self ≡ record (lent_memory payload memory c.args.address c.args.room) { prepared = true } = c.in-Ok.ensures.ok ∙ ap (λ (w : Lent). record w { prepared = true }) made in
    IfAnswered-then c.poll_writer-turn.result _ _
    (λ a p. fetches payload memory c.into_memory-2.result.0.bytes c.args.address c.args.room c.marked.result c.prepare.new.self c.poll_writer-turn.new.window inside is _ _ c.args.finish a c.writer_payload.ensures c.poll_writer-turn.ensures.fills (ap (λ (m : LinearMemory). m.bytes) c.into_memory-2.ensures.memory) p)
    c.poll_writer-turn.ensures.polls
