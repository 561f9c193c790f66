use Rattle.std.proofs.Common.{nat_eq, not, ◌&&◌, ap, sym, ◌∙◌}
use Rattle.strm_waitable_sets.specs.Ready.{is_in}
use Rattle.strm_waitable_sets.proofs.ReadyLemmas.{falling-remove, is_in-remove, is_in-still, not_in}
use Rattle.strm_waitable_sets.proofs.ready.ReadyMembers.unmark.Goals as goal

pub invariant_of-self : goal.invariant_of-self
invariant_of-self c = rw c.remove.ensures.items (falling-remove c.self.inside.handles.items c.in-Ok.place c.self.invariant)

pub returns-in-Ok : goal.returns-in-Ok
returns-in-Ok c =
    let handles = c.self.inside.handles in
    let there = c.as_slice.ensures.value in
    record {
      others = λ other. ap (λ hs. is_in hs other) c.remove.ensures.items
          ∙ is_in-remove handles.items c.in-Ok.place other (rw (← there) c.in-Ok.ensures.there) c.self.invariant
          ∙ ap (λ h. not (nat_eq other h) && is_in handles.items other) (rw (← there) c.in-Ok.ensures.is)
          ∙ ap (λ r. not (nat_eq other c.args.handle) && is_in r other) c.self.view_is;
    }

pub returns-in-Err : goal.returns-in-Err
returns-in-Err c =
    let handles = c.self.inside.handles in
    let there = c.as_slice.ensures.value in
    let none = not_in handles.items c.in-Err._place c.args.handle c.self.invariant (rw (← there) c.in-Err.ensures.before) (rw (← there) c.in-Err.ensures.behind) in
    record {
      others = λ other. ap (λ r. is_in r other) (sym c.self.view_is)
          ∙ is_in-still handles.items c.args.handle other none
          ∙ ap (λ r. not (nat_eq other c.args.handle) && is_in r other) c.self.view_is;
    }
