use Rattle.std.proofs.Common.{◌≡◌, ℕ, Bool, true, false, cond, List, nat_eq, ◌||◌, ap, sym, ◌∙◌, subst}
use Rattle.std.specs.List.{insert}
use Rattle.strm_waitable_sets.specs.Ready.{is_in, IsFalling}
use Rattle.strm_waitable_sets.proofs.ReadyLemmas.{falling-insert, is_in-insert, is_in-again, is_in_where}
use Rattle.strm_waitable_sets.proofs.ready.ReadyMembers.mark.Goals as goal

either : (done : Bool) (one other all : List ℕ) → all ≡ cond done one other → IsFalling one → IsFalling other → IsFalling all
either true one other all e f g = subst IsFalling (sym e) f
either false one other all e f g = subst IsFalling (sym e) g

when_done : (done : Bool) (one other all : List ℕ) → all ≡ cond done one other → done ≡ true → all ≡ one
when_done done one other all e t = e ∙ ap (λ b. cond b one other) t

pub invariant_of-self : goal.invariant_of-self
invariant_of-self c =
    let handles = c.self.inside.handles in
    let there = c.as_slice.ensures.value in
    either c.insert_at.result (insert handles.items c.in-Err.place c.args.handle) handles.items _ c.insert_at.ensures
    (falling-insert handles.items c.in-Err.place c.args.handle (rw (← there) c.in-Err.ensures.inside) c.self.invariant (rw (← there) c.in-Err.ensures.before) (rw (← there) c.in-Err.ensures.behind))
    c.self.invariant

pub returns-in-Err : goal.returns-in-Err
returns-in-Err c =
    let handles = c.self.inside.handles in
    let there = c.as_slice.ensures.value in
    record {
      others = λ done other. ap (λ hs. is_in hs other) (when_done c.insert_at.result (insert handles.items c.in-Err.place c.args.handle) handles.items _ c.insert_at.ensures done)
          ∙ is_in-insert handles.items c.in-Err.place c.args.handle other (rw (← there) c.in-Err.ensures.inside)
          ∙ ap (λ r. nat_eq other c.args.handle || is_in r other) c.self.view_is;
    }

pub returns-in-Ok : goal.returns-in-Ok
returns-in-Ok c =
    let handles = c.self.inside.handles in
    let there = c.as_slice.ensures.value in
    record {
      others = λ done other. ap (λ r. is_in r other) (sym c.self.view_is)
          ∙ is_in-again handles.items c.args.handle other (is_in_where handles.items c.in-Ok._place c.args.handle (rw (← there) c.in-Ok.ensures.there) (rw (← there) c.in-Ok.ensures.is))
          ∙ ap (λ r. nat_eq other c.args.handle || is_in r other) c.self.view_is;
    }
