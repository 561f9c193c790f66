use Rattle.std.proofs.Common.{ap, sym, ◌∙◌}
use Rattle.strm_waitable_sets.specs.Homes.{home_at}
use Rattle.strm_waitable_sets.specs.Sets.{set_of}
use Rattle.strm_waitable_sets.proofs.HomeLemmas.{get-seen}
use Rattle.strm_waitable_sets.proofs.sets.WaitableSets.set_of.Goals as goal

pub returns : goal.returns
returns c =
    c.home_at.ensures ∙ ap (λ homes. home_at homes c.args.handle) c.as_slice.ensures.value
    ∙ sym (get-seen c.self.inside.homes.items c.args.handle)
    ∙ ap (λ sets. set_of sets c.args.handle) c.self.view_is
