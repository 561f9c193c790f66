-- Words that spell types, one word more in front.
use Rattle.std.proofs.Common.{◌≡◌, ◌+◌, ◌≤◌, ◌-◌, List, [], ◌∷◌, ◌++◌, length, drop, replicate, refl, sym, subst, ap, ◌∙◌, arith, length-drop}
use Rattle.std.proofs.Math.Seq.{take-append_seam}
use Rattle.strm_codes.proofs.PaddedLemmas.{padded_new}
use Rattle.strm_codes.proofs.LayoutLemmas.{one-le-align_of}
use Rattle.strm_codes.specs.ItemTypes.{ItemType, no_parts, part, item_size}
use Rattle.strm_codes.specs.Measures.{span}
use Rattle.strm_codes.specs.Spellings.{arity, taken, type_with, spelled, first_type, HasCount, AreSpelled, IsCompound}
use Rattle.strm_codes.specs.Kept.{IsKept}
use Rattle.strm_codes.specs.declared.nodes.Node.{Node}
use Rattle.strm_codes.specs.declared.measures.Span.{Span}
use Rattle.strm_codes.specs.declared.nodes.Node.TheVariants as node

pub none_are : (ns : List Node) → length ns ≡ 0 → AreSpelled ns
unfolding AreSpelled
none_are [] e = tt
none_are (n ∷ ns) e = absurd (omega arith)

pub one_more : (n : Node) (ns : List Node) → AreSpelled ns → HasCount n → arity n ≤ length (spelled ns) → item_size (type_with n (spelled ns)) ≤ 128 → AreSpelled (n ∷ ns)
unfolding AreSpelled
one_more n ns a b c d = (a, b, c, d)

pub length-spelled : (n : Node) (ns : List Node) → arity n ≤ length (spelled ns) → length (spelled (n ∷ ns)) ≡ length (spelled ns) - arity n + 1
unfolding spelled
length-spelled n ns h = omega (arith, length-drop (arity n) (spelled ns))

-- an item takes 128 bytes at most
pub few_bytes : (ns : List Node) → IsCompound ns → item_size (first_type (spelled ns)) ≤ 128
unfolding spelled AreSpelled
few_bytes ns c = go ns c.one c.each
  where
    go : (ns : List Node) → length (spelled ns) ≡ 1 → AreSpelled ns → item_size (first_type (spelled ns)) ≤ 128
    go [] e s = absurd (omega (arith, e))
    go (n ∷ ns) e s = s.3

-- the first of one type, by the span of it alone
pub first_span : (ns : List Node) → length (spelled ns) ≡ 1 → span 0 (taken 1 (spelled ns)) ≡ span 0 (part (first_type (spelled ns)) no_parts)
first_span ns one = ap (λ ps. span 0 ps) (one_type (spelled ns) one)
  where
    one_type : (ts : List ItemType) → length ts ≡ 1 → taken 1 ts ≡ part (first_type ts) no_parts
    one_type [] e = absurd (omega arith)
    one_type (t ∷ ts) e = refl

pub kept_new : (ns : List Node) (s : Span) → IsCompound ns → s ≡ span 0 (taken 1 (spelled ns)) → IsKept (ns ++ drop (length ns) (replicate 16 node.Nothing)) (length ns) s.most s.align
kept_new ns s c e =
    let rest = drop (length ns) (replicate 16 node.Nothing) in
    let is = e ∙ first_span ns c.one in
    record {
      padded = padded_new 16 node.Nothing ns c.few;
      type = subst IsCompound (sym (take-append_seam ns rest)) c;
      measured = rw (take-append_seam ns rest) (omega (arith, ap (λ (x : Span). x.most) is));
      aligned = rw (take-append_seam ns rest) (omega (arith, one-le-align_of (first_type (spelled ns)), ap (λ (x : Span). x.align) is));
    }
