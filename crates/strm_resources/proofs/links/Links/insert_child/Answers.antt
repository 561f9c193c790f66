use Rattle.std.proofs.Common.{◌≡◌, length, set, reverse, arith}
use Rattle.std.proofs.lemmas.Grind.{common_steps}
use Rattle.std.proofs.lemmas.List.{length-reverse, length-set}
use Rattle.strm_resources.specs.Nodes.{with_child, with_node, next_node}
use Rattle.strm_resources.proofs.SlotLemmas.{length-changed}
use Rattle.strm_resources.proofs.LinkLemmas.{IsLinked-filled_child, next_inside, length-filled, length-filled_small, some_reversed}
use Rattle.strm_resources.proofs.links.Links.insert_child.Goals as goal

pub fill-requires-clause-inside : goal.fill-requires-clause-inside
fill-requires-clause-inside c =
    λ some.
    let l = c.self.inside in
    let below = next_inside l.nodes.items (reverse l.freed.items) c.self.invariant.kept (some_reversed _ some) in
    rw length-set (omega (arith, l.nodes.ok))

pub invariant_of-self-2 : goal.invariant_of-self-2
invariant_of-self-2 c =
    let l = c.self.inside in
    let freed = reverse l.freed.items in
    let next = next_node freed (length l.nodes.items) in
    let room = rw (← c.self.view_is) at c.requires.room in
    let there = rw (← c.self.view_is) at c.requires.parent in
    let number : c.next-number.result ≡ next = rw (← c.self.view_is) at c.next-number.ensures in
    let more = with_node (with_child next) l.nodes.items c.args.parent in
    let written : set l.nodes.items c.args.parent c.add_child.new.slot ≡ more = grind (arith, common_steps) in
    rw (c.fill.ensures.nodes, c.fill.ensures.freed, c.fill.ensures.freed_capacity, c.new-node.ensures, written) (record {
      kept = IsLinked-filled_child l.nodes.items freed c.self.invariant.kept c.args.parent there;
      reserved = length-filled freed more _ _ (omega (arith, length-reverse l.freed.items, length-changed (with_child next) l.nodes.items c.args.parent, l.nodes.ok, l.freed.ok)) (omega (arith, length-changed (with_child next) l.nodes.items c.args.parent, c.self.invariant.reserved));
      small = length-filled_small freed more _ (rw (length-changed (with_child next) l.nodes.items c.args.parent) (rw (← c.self.view_is) at c.requires.small)) (omega (arith, length-changed (with_child next) l.nodes.items c.args.parent, c.self.invariant.small));
    })

pub returns-clause-inside : goal.returns-clause-inside
returns-clause-inside c =
    let l = c.self.inside in
    let inside = next_inside l.nodes.items (reverse l.freed.items) c.self.invariant.kept in
    rw (c.fill.ensures.number, ← c.self.view_is, length-set) inside
