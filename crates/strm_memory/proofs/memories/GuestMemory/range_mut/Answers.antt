use Rattle.std.proofs.Common.{refl, ap, ◌∙◌}
use Rattle.std.specs.List.{slice_range}
use Rattle.strm_memory.specs.Linear.{LinearMemory}
use Rattle.strm_memory.proofs.RangeLemmas.{range_written, then_is, else_is, then_still, else_still}
use Rattle.strm_memory.proofs.memories.GuestMemory.range_mut.Goals as goal

pub returns-then-self : goal.returns-then-self
returns-then-self c =
    let s = c.self.inside in
    let is = then_is s.is_lent _ _ c.args.self.now c.if-self.true c.self.view_is in (
      (refl, λ w. then_still s.is_lent _ _ _ c.if-self.true (range_written c.args.self.now s.lent.items w _ c.args.from c.args.to s.lent.len is s.lent.ok.0 c.requires.order c.requires.inside)),
      record { value = c.slice_mut.ensures.value ∙ ap (λ (m : LinearMemory). slice_range m.bytes c.args.from c.args.to) is; lends = tt },
    )

pub returns-else-self : goal.returns-else-self
returns-else-self c =
    let s = c.self.inside in
    let is = else_is s.is_lent _ _ c.args.self.now c.if-self.false c.self.view_is in (
      (refl, λ w. else_still s.is_lent _ _ _ c.if-self.false (range_written c.args.self.now s.own.items w _ c.args.from c.args.to s.own.len is s.own.ok.0 c.requires.order c.requires.inside)),
      record { value = c.slice_mut-else-self.ensures.value ∙ ap (λ (m : LinearMemory). slice_range m.bytes c.args.from c.args.to) is; lends = tt },
    )
