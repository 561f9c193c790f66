use Rattle.std.proofs.Common.{◌≡◌, ℕ, false, None, is_some, ap, sym, ◌∙◌, arith}
use Rattle.std.proofs.lemmas.List.{map-set}
use Rattle.strm_codes.specs.OptionalNumbers.{is_number}
use Rattle.strm_waitable_sets.specs.Homes.{home_at}
use Rattle.strm_waitable_sets.specs.Sets.{is_set_there, is_member, without_set}
use Rattle.strm_waitable_sets.proofs.TieLemmas.{flag-at, is_member-seen, some_inside, tied-emptied}
use Rattle.strm_waitable_sets.proofs.sets.WaitableSets.remove.Goals as goal

pub invariant_of-self : goal.invariant_of-self
invariant_of-self c =
    let s = c.self.inside in
    let inside = some_inside s.sets.items c.args.set (sym (flag-at s.sets.items c.args.set) ∙ ap (λ v. is_set_there v c.args.set) c.self.view_is ∙ c.requires.there) in
    let none : (handle : ℕ) → is_number (home_at s.homes.items handle) c.args.set ≡ false = λ handle. sym (is_member-seen s.sets.items s.homes.items c.args.set handle) ∙ ap (λ v. is_member v c.args.set handle) c.self.view_is ∙ c.has_member.ensures.none c.if-has_member.false handle in
    tied-emptied s.sets.items s.homes.items s.hint c.self.invariant c.args.set c.min-self-inside.result inside (omega arith) (omega arith) none

pub returns-clause-ok : goal.returns-clause-ok
returns-clause-ok c =
    let s = c.self.inside in
    rw (map-set is_some s.sets.items c.args.set None) (ap (λ v. without_set v c.args.set) c.self.view_is)
