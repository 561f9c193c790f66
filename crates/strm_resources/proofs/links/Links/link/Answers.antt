use Rattle.std.proofs.Common.{◌≡◌, set, reverse, arith}
use Rattle.std.proofs.lemmas.Grind.{common_steps}
use Rattle.strm_resources.specs.Nodes.{linked}
use Rattle.strm_resources.proofs.LinkLemmas.{IsLinked-linked, length-linked}
use Rattle.strm_resources.proofs.links.Links.link.Goals as goal

pub invariant_of-self-2 : goal.invariant_of-self-2
invariant_of-self-2 c =
    let l = c.self.inside in
    let child = rw (← c.self.view_is) at c.requires.child in
    let parent = rw (← c.self.view_is) at c.requires.parent in
    let loose = rw (← c.self.view_is) at c.requires.loose in
    let written : set (set l.nodes.items c.args.parent c.add_child.new.slot) c.args.child c.set_parent.new.slot ≡ linked l.nodes.items c.args.child c.args.parent = grind (arith, common_steps) in
    rw written (record {
      kept = IsLinked-linked l.nodes.items (reverse l.freed.items) c.self.invariant.kept c.args.child c.args.parent child parent loose;
      reserved = omega (arith, length-linked l.nodes.items c.args.child c.args.parent, c.self.invariant.reserved);
      small = omega (arith, length-linked l.nodes.items c.args.child c.args.parent, c.self.invariant.small);
    })
