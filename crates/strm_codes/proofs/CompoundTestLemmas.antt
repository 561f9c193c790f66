-- The test of a compound decides whether words spell one.
use Rattle.std.proofs.Common.{◌≡◌, ℕ, ◌≤◌, ◌==◌, Bool, true, false, true≢false, not, ◌&&◌, leb, List, [], ◌∷◌, length, refl, sym}
use Rattle.std.specs.Bool.{Decides}
use Rattle.std.proofs.lemmas.Bool.{leb-true, le-leb}
use Rattle.std.proofs.lemmas.Bool.Decides.{Decides-eqb, Decides-and}
use Rattle.strm_codes.specs.ItemTypes.{item_size}
use Rattle.strm_codes.specs.Spellings.{arity, type_with, spelled, HasCount, AreSpelled, is_flat, IsCompound}
use Rattle.strm_codes.specs.CompoundTests.{has_count, are_spelled, spells_compound}
use Rattle.strm_codes.specs.declared.nodes.Node.{Node}
use Rattle.strm_codes.specs.declared.nodes.Node.TheVariants as node

Decides-leb : (a b : ℕ) → Decides (leb a b) (a ≤ b)
Decides-leb a b = (leb-true a b, le-leb a b)

Decides-not_so : (b : Bool) → Decides (not b) (b ≡ false)
Decides-not_so true = (λ e. absurd (true≢false (sym e)), λ h. absurd (true≢false h))
Decides-not_so false = (λ e. refl, λ h. refl)

Decides-has_count : (n : Node) → Decides (has_count n) (HasCount n)
Decides-has_count (node.Flags n) = Decides-and (leb 1 n) (leb n 32) (Decides-leb 1 n) (Decides-leb n 32)
Decides-has_count (node.Enum n) = Decides-and (leb 1 n) (leb n 128) (Decides-leb 1 n) (Decides-leb n 128)
Decides-has_count (node.Tuple n) = Decides-leb 1 n
Decides-has_count (node.Variant n) = Decides-leb 1 n
Decides-has_count node.Nothing = (λ e. tt, λ h. refl)
Decides-has_count (node.Plain s) = (λ e. tt, λ h. refl)
Decides-has_count node.Option = (λ e. tt, λ h. refl)
Decides-has_count node.Result = (λ e. tt, λ h. refl)

Decides-four : {P Q R S : Type 0} (a b c d : Bool) → Decides a P → Decides b Q → Decides c R → Decides d S → Decides (a && (b && (c && d))) (P × Q × R × S)
Decides-four a b c d p q r s =
    let all = Decides-and a (b && (c && d)) p (Decides-and b (c && d) q (Decides-and c d r s)) in
    (λ e. (let t = all.0 e in (t.0, t.1.0, t.1.1.0, t.1.1.1)), λ h. all.1 (h.0, (h.1, (h.2, h.3))))

pub Decides-are_spelled : (ns : List Node) → Decides (are_spelled ns) (AreSpelled ns)
unfolding are_spelled AreSpelled
Decides-are_spelled [] = (λ e. tt, λ h. refl)
Decides-are_spelled (n ∷ ns) =
    let size = item_size (type_with n (spelled ns)) in
    Decides-four (are_spelled ns) (has_count n) (leb (arity n) (length (spelled ns))) (leb size 128)
    (Decides-are_spelled ns) (Decides-has_count n) (Decides-leb (arity n) (length (spelled ns))) (Decides-leb size 128)

pub Decides-spells_compound : (ns : List Node) → Decides (spells_compound ns) (IsCompound ns)
Decides-spells_compound ns =
    let one = length (spelled ns) == 1 in
    let nested = not (is_flat ns) in
    let all = Decides-and (leb (length ns) 16) (one && (are_spelled ns && nested)) (Decides-leb (length ns) 16)
    (Decides-and one (are_spelled ns && nested) (Decides-eqb (length (spelled ns)) 1)
    (Decides-and (are_spelled ns) nested (Decides-are_spelled ns) (Decides-not_so (is_flat ns)))) in (
      λ e. (let t = all.0 e in record { few = t.0; one = t.1.0; each = t.1.1.0; nested = t.1.1.1 }),
      λ c. all.1 (c.few, (c.one, (c.each, c.nested))),
    )
