use Rattle.std.proofs.Common.{◌+◌, ap, sym, ◌∙◌}
use Rattle.strm_waitable_sets.specs.Homes.{home_at}
use Rattle.strm_waitable_sets.specs.Sets.{handle_left}
use Rattle.strm_waitable_sets.specs.Slots.{set_count_at}
use Rattle.strm_waitable_sets.proofs.HomeLemmas.{counts_as, seen-left}
use Rattle.strm_waitable_sets.proofs.TieLemmas.{HasLeft, tied-left}
use Rattle.strm_waitable_sets.proofs.sets.WaitableSets.leave.Goals as goal

pub invariant_of-self : goal.invariant_of-self
invariant_of-self c =
    let s = c.self.inside in
    let new = c.remove_member.new.slots.items in
    let less : HasLeft s.sets.items new (home_at s.homes.items c.args.handle) = λ number. ap (λ home. set_count_at new number + counts_as home number) (sym c.replace_home-home.ensures.old) ∙ c.remove_member.ensures.counts number in
    rw c.replace_home-home.ensures.new (tied-left s.sets.items s.homes.items s.hint c.self.invariant c.args.handle new c.remove_member.ensures.flags less)

pub returns : goal.returns
returns c =
    let s = c.self.inside in
    rw (c.remove_member.ensures.flags, c.replace_home-home.ensures.new, seen-left s.homes.items c.args.handle) (ap (λ v. handle_left v c.args.handle) c.self.view_is)
