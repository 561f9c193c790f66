use Rattle.std.proofs.Common.{◌+◌, ap, sym, ◌∙◌}
use Rattle.strm_codes.proofs.ResultLemmas.{on_err}
use Rattle.strm_waitable_sets.specs.Homes.{home_at}
use Rattle.strm_waitable_sets.specs.Sets.{handle_joined}
use Rattle.strm_waitable_sets.specs.Slots.{set_count_at, AreSlotsTied}
use Rattle.strm_waitable_sets.proofs.HomeLemmas.{counts_as, seen-joined, seen-same}
use Rattle.strm_waitable_sets.proofs.TieLemmas.{HasLeft, tied_wider, tied-joined}
use Rattle.strm_waitable_sets.proofs.sets.WaitableSets.join.Goals as goal

pub returns-in_err-make_place-clause-err : goal.returns-in_err-make_place-clause-err
returns-in_err-make_place-clause-err c =
    on_err c.from_residual.result (rw (seen-same c.self.inside.homes.items c.make_place.new.homes.items c.make_place.ensures.same) c.self.view_is)

pub invariant_of-self-2 : goal.invariant_of-self-2
invariant_of-self-2 c =
    let s = c.self.inside in
    let homes = c.make_place.new.homes.items in
    let less = c.remove_member.new.slots.items in
    let new = c.add_member.new.slots.items in
    let are : AreSlotsTied s.sets.items homes s.hint = tied_wider s.sets.items s.homes.items s.hint c.self.invariant homes c.make_place.ensures.same c.make_place.ensures.few in
    let left : HasLeft s.sets.items less (home_at homes c.args.handle) = λ number. ap (λ home. set_count_at less number + counts_as home number) (sym c.replace_home-left.ensures.old) ∙ c.remove_member.ensures.counts number in
    rw c.replace_home-left.ensures.new (tied-joined s.sets.items homes s.hint are c.args.handle c.args.set less new c.in_ok-make_place.ensures.inside (c.add_member.ensures.flags ∙ c.remove_member.ensures.flags) left c.add_member.ensures.counts)

pub returns-clause-ok : goal.returns-clause-ok
returns-clause-ok c =
    let s = c.self.inside in
    let homes = c.make_place.new.homes.items in
    rw (c.add_member.ensures.flags, c.remove_member.ensures.flags, c.replace_home-left.ensures.new, seen-joined homes c.args.handle c.args.set c.in_ok-make_place.ensures.inside, seen-same s.homes.items homes c.make_place.ensures.same)
    (ap (λ v. handle_joined v c.args.handle c.args.set) c.self.view_is)
