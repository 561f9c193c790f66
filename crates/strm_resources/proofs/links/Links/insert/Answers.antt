use Rattle.std.proofs.Common.{reverse, arith}
use Rattle.std.proofs.lemmas.List.{length-reverse}
use Rattle.strm_resources.proofs.LinkLemmas.{IsLinked-filled, next_inside, length-filled, length-filled_small, some_reversed}
use Rattle.strm_resources.proofs.links.Links.insert.Goals as goal

pub fill-requires-clause-inside : goal.fill-requires-clause-inside
fill-requires-clause-inside c =
    λ some. let below = next_inside c.self.inside.nodes.items (reverse c.self.inside.freed.items) c.self.invariant.kept (some_reversed _ some) in omega (arith, c.self.inside.nodes.ok)

pub invariant_of-self : goal.invariant_of-self
invariant_of-self c =
    let l = c.self.inside in
    let room = rw (← c.self.view_is) at c.requires.room in
    rw (c.fill.ensures.nodes, c.fill.ensures.freed, c.fill.ensures.freed_capacity, c.new-node.ensures) (record {
      kept = IsLinked-filled l.nodes.items (reverse l.freed.items) c.self.invariant.kept;
      reserved = length-filled (reverse l.freed.items) l.nodes.items _ _ (omega (arith, length-reverse l.freed.items, l.nodes.ok, l.freed.ok)) c.self.invariant.reserved;
      small = length-filled_small (reverse l.freed.items) l.nodes.items _ (rw (← c.self.view_is) at c.requires.small) c.self.invariant.small;
    })

pub returns-clause-inside : goal.returns-clause-inside
returns-clause-inside c =
    let l = c.self.inside in
    let inside = next_inside l.nodes.items (reverse l.freed.items) c.self.invariant.kept in
    rw (c.fill.ensures.number, ← c.self.view_is) inside
