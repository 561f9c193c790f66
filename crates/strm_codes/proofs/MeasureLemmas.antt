-- One part more, in a walk over the words of a type.
use Rattle.std.proofs.Common.{◌≡◌, ℕ, suc, ◌+◌, ◌≤◌, ◌-◌, max, List, ◌∷◌, length, refl, arith}
use Rattle.strm_codes.specs.ItemTypes.{rounded, item_size}
use Rattle.strm_codes.specs.Measures.{extent, span}
use Rattle.strm_codes.specs.Spellings.{taken, arity, type_with, spelled, behind, HasCount, AreSpelled}
use Rattle.strm_codes.specs.declared.measures.Extent.{Extent}
use Rattle.strm_codes.specs.declared.measures.Span.{Span}
use Rattle.strm_codes.specs.declared.nodes.Node.{Node}
use Rattle.strm_codes.proofs.SpellingLemmas.{spelled-behind}

-- the first word, and those behind it
pub record IsFirst (n : Node) (ns : List Node) : Type 0 where
  pub behind : AreSpelled ns
  pub counted : HasCount n
  pub enough : arity n ≤ length (spelled ns)
  pub small : item_size (type_with n (spelled ns)) ≤ 128

pub first_is : (n : Node) (ns : List Node) → AreSpelled (n ∷ ns) → IsFirst n ns
unfolding AreSpelled
first_is n ns s = record { behind = s.0; counted = s.1; enough = s.2; small = s.3 }

-- what is left behind a part
pub left_behind : (n : Node) (ns : List Node) (parts : ℕ) → AreSpelled (n ∷ ns) → parts ≤ length (spelled (n ∷ ns)) → parts - 1 ≤ length (spelled (behind (arity n) ns))
unfolding spelled
left_behind n ns parts s h = rw (spelled-behind (arity n) ns) (omega (arith, h))

-- a part, and those behind it
module _ (n : Node) (ns skipped : List Node) (parts at a m : ℕ) (first : Extent) (more : Span) where
  abbrev both_spans : Span
  both_spans = record { end = more.end; align = a; most = m }

  abbrev others_span : Span
  others_span = span (rounded at first.align + first.bytes) (taken (parts - 1) (spelled skipped))

  pub span_more : 1 ≤ parts → skipped ≡ behind (arity n) ns → first ≡ extent (type_with n (spelled ns)) → more ≡ others_span
      → a ≡ max first.align more.align → m ≡ max first.bytes more.most → both_spans ≡ span at (taken parts (spelled (n ∷ ns)))
  unfolding spelled
  span_more some es ef em ea el =
      let p : parts ≡ suc (parts - 1) = omega arith in
      rw (p, ea, el, em, es, ef, spelled-behind (arity n) ns) refl
