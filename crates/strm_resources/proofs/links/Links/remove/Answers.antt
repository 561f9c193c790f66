use Rattle.std.proofs.Common.{◌≡◌, ℕ, ◌∷◌, List, Option, None, set, reverse, ap, ◌∙◌, arith}
use Rattle.std.proofs.lemmas.List.{length-reverse, length-set, reverse-append}
use Rattle.std.specs.FinSet as set_of
use Rattle.strm_resources.specs.Nodes.{Node, node_at, parent_at, children_at, cut}
use Rattle.strm_resources.specs.Links.{IsLinked}
use Rattle.strm_resources.proofs.LinkLemmas.{IsLinked-emptied, is_some-cut, cut_is_loose, cut_is_childless, freed_fit}
use Rattle.strm_resources.proofs.links.Links.remove.Goals as goal
use Rattle.std.specs.Prelude.{is_some, true}
use Rattle.strm_resources.specs.Nodes.{is_childless}

-- the childless number emptied, of nodes that it was cut off in
emptied : (old nodes : List (Option Node)) (freed : List ℕ) (number : ℕ) → nodes ≡ cut old number → IsLinked nodes freed → is_some (node_at old number) ≡ true → is_childless (children_at old number) ≡ true → IsLinked (set nodes number None) (number ∷ freed)
emptied old nodes freed number is kept there childless =
    IsLinked-emptied nodes freed number kept
    (ap (λ ns. is_some (node_at ns number)) is ∙ is_some-cut old number number ∙ there)
    (ap (λ ns. parent_at ns number) is ∙ cut_is_loose old number)
    (λ child. ap (λ ns. set_of.contains (children_at ns number) child) is ∙ cut_is_childless old number child childless)

pub push_reserved-requires : goal.push_reserved-requires
push_reserved-requires c =
    let l = c.self.inside in
    let is : l.nodes.items ≡ cut c.args.self.now.nodes c.args.number = ap (λ v. v.nodes) c.self.view_is ∙ c.cut.ensures.nodes in
    let kept = emptied c.args.self.now.nodes l.nodes.items (reverse l.freed.items) c.args.number is c.self.invariant.kept c.requires.present c.requires.childless in
    omega (arith, freed_fit _ _ kept, length-reverse l.freed.items, length-set l.nodes.items c.args.number None, c.self.invariant.reserved, l.freed.ok)

pub invariant_of-self : goal.invariant_of-self
invariant_of-self c =
    let l = c.self.inside in
    let is : l.nodes.items ≡ cut c.args.self.now.nodes c.args.number = ap (λ v. v.nodes) c.self.view_is ∙ c.cut.ensures.nodes in
    rw (c.push_reserved.ensures.items, c.push_reserved.ensures.capacity, reverse-append) (record {
      kept = emptied c.args.self.now.nodes l.nodes.items (reverse l.freed.items) c.args.number is c.self.invariant.kept c.requires.present c.requires.childless;
      reserved = omega (arith, length-set l.nodes.items c.args.number None, c.self.invariant.reserved);
      small = omega (arith, length-set l.nodes.items c.args.number None, c.self.invariant.small);
    })
