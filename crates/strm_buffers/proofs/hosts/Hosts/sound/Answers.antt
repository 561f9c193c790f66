use Rattle.std.proofs.Common.{◌<◌, length, subst, sym, ap, ◌∙◌, arith}
use Rattle.std.specs.Prelude.{All}
use Rattle.std.proofs.lemmas.List.{take_all, get_or-map, length-map}
use Rattle.std.proofs.lemmas.List.Elements.{All-more}
use Rattle.strm_buffers.specs.AllTells.{tells_of}
use Rattle.strm_buffers.specs.Tells.{HoldsItems, no_tells}
use Rattle.strm_buffers.proofs.hosts.Hosts.sound.Goals as goal

pub loop-n-preserved : goal.loop-n-preserved
loop-n-preserved g c =
    let boxes = c.args.self.now.writers.items in
    let told = (tells_of (λ b. (goal.HostWriter-dyn g b).writer_tells b.1) (λ b. (goal.HostReader-dyn g b).reader_tells b.1) c.args.self.now).writers in
    let there : c.loop-n.n < length told = omega (arith, c.loop-n-test.true, c.count_writers-n-end.ensures) in
    let is = ap (λ b. (goal.HostWriter-dyn g (b.vtable, b.value)).writer_tells b.value) c.index.ensures ∙ sym (get_or-map (λ b. (goal.HostWriter-dyn g (b.vtable, b.value)).writer_tells b.value) boxes c.loop-n.n c.index.result.now no_tells (omega (arith, c.loop-n-test.true, c.count_writers-n-end.ensures, simp length-map at c.count_writers-n-end.ensures))) in
    All-more HoldsItems told c.loop-n.n no_tells there c.loop-n.invariant (subst HoldsItems is c.held_by.ensures.fit)

pub returns : goal.returns
returns g c =
    let told = (tells_of (λ b. (goal.HostWriter-dyn g b).writer_tells b.1) (λ b. (goal.HostReader-dyn g b).reader_tells b.1) c.args.self.now).writers in
    subst (All HoldsItems) (take_all c.loop-n.n told (omega (arith, c.loop-n-test.false, c.count_writers-n-end.ensures))) c.loop-n.invariant
