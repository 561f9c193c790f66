use Rattle.std.proofs.Common.{◌≡◌, set, reverse, arith}
use Rattle.std.proofs.lemmas.Grind.{common_steps}
use Rattle.strm_resources.specs.Nodes.{unlinked}
use Rattle.strm_resources.proofs.LinkLemmas.{IsLinked-unlinked, length-unlinked, parent_present, present_inside}
use Rattle.strm_resources.proofs.links.Links.unlink.Goals as goal

pub index_mut-requires : goal.index_mut-requires
index_mut-requires c =
    let l = c.self.inside in
    let tied = rw (← c.self.view_is) at c.requires in
    let below = present_inside l.nodes.items c.args.parent (parent_present l.nodes.items (reverse l.freed.items) c.self.invariant.kept c.args.child c.args.parent tied) in
    omega (arith, l.nodes.ok)

pub invariant_of-self : goal.invariant_of-self
invariant_of-self c =
    let l = c.self.inside in
    let tied = rw (← c.self.view_is) at c.requires in
    let written : set (set l.nodes.items c.args.parent c.remove_child.new.slot) c.args.child c.set_parent.new.slot ≡ unlinked l.nodes.items c.args.child c.args.parent = grind (arith, common_steps) in
    rw written (record {
      kept = IsLinked-unlinked l.nodes.items (reverse l.freed.items) c.self.invariant.kept c.args.child c.args.parent tied;
      reserved = omega (arith, length-unlinked l.nodes.items c.args.child c.args.parent, c.self.invariant.reserved);
      small = omega (arith, length-unlinked l.nodes.items c.args.child c.args.parent, c.self.invariant.small);
    })
