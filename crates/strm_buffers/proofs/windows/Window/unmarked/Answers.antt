use Rattle.std.proofs.Common.{◌+◌, length, refl, ap, ◌∙◌}
use Rattle.std.specs.List.{slice_range}
use Rattle.strm_buffers.specs.Windows.{Lent}
use Rattle.strm_buffers.specs.Keeping.{kept_after}
use Rattle.strm_buffers.proofs.LendLemmas.{lend_on, lent_on}
use Rattle.strm_buffers.proofs.WindowLemmas.{lying_nowhere, lies_there}
use Rattle.strm_buffers.proofs.windows.Window.unmarked.Goals as goal

pub invariant_of-self-lent : goal.invariant_of-self-lent
invariant_of-self-lent c = λ w.
    let s = c.self.inside in
    let k = c.keep.ensures.kept ∙ ap (kept_after s.room s.kept.items) (ap (λ l. slice_range l (s.address + s.marked) c.end_of-to.result) c.bytes.ensures ∙ ap (slice_range s.memory.bytes (s.address + s.marked)) (c.end_of-to.ensures ∙ rw c.len-len.ensures refl)) in
    ((lend_on s.payload s.memory.bytes s.kept.items c.keep.new.kept.items w (length s.memory.bytes) _ _ s.address s.marked s.room s.is_prepared (lying_nowhere c.args.self.now) c.self.invariant.0 (ap lying_nowhere c.self.view_is) c.requires.bytes c.keep.ensures.space k).is_window, c.self.invariant.1)

pub returns : goal.returns
returns c =
    let s = c.self.inside in
    let k = c.keep.ensures.kept ∙ ap (kept_after s.room s.kept.items) (ap (λ l. slice_range l (s.address + s.marked) c.end_of-to.result) c.bytes.ensures ∙ ap (slice_range s.memory.bytes (s.address + s.marked)) (c.end_of-to.ensures ∙ rw c.len-len.ensures refl)) in
    let lent = lent_on s.payload s.memory.bytes s.kept.items c.range_mut.result.now (length s.memory.bytes) _ s.address s.marked s.room s.is_prepared (lying_nowhere c.args.self.now) c.self.invariant.0 (ap lying_nowhere c.self.view_is) c.requires.bytes refl (c.range_mut.ensures.value ∙ ap (slice_range s.memory.bytes (s.address + s.marked)) (c.end_of-to.ensures ∙ rw c.len-len.ensures refl)) in (
      (refl, λ w. lies_there _ _ _ ((lend_on s.payload s.memory.bytes s.kept.items c.keep.new.kept.items w (length s.memory.bytes) _ _ s.address s.marked s.room s.is_prepared (lying_nowhere c.args.self.now) c.self.invariant.0 (ap lying_nowhere c.self.view_is) c.requires.bytes c.keep.ensures.space k).is) (ap (λ (v : Lent). v.base) c.self.view_is)),
      record { lends = tt; value = lent.value; all = lent.all },
    )
