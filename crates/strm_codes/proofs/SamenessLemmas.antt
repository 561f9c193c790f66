-- Two scalars, and two payloads, are one type exactly where they are equal.
use Rattle.std.specs.Prelude.{◌≡◌, ℕ, ◌==◌, if◌then◌else◌, Bool, true, false, ◌&&◌, List, [], ◌∷◌, refl}
use Rattle.std.specs.Bool.{Decides}
use Rattle.std.proofs.Common.{sym, ap, ◌∙◌}
use Rattle.std.proofs.lemmas.Bool.Decides.{Decides-eqb, Decides-and}
use Rattle.std.proofs.lemmas.Slice.Eq.{slice_eq-Decides}
use Rattle.strm_codes.specs.Sameness.{scalar_number, node_kind, node_count, same_scalar, same_scalars, same_node, same_nodes, same_payload}
use Rattle.strm_codes.specs.declared.scalars.Scalar.{Scalar}
use Rattle.strm_codes.specs.declared.scalars.Scalar.TheVariants.{Bool as Flag, S8, U8, S16, U16, S32, U32, S64, U64, Char, F32, F64}
use Rattle.strm_codes.specs.declared.payloads.Payload.{Payload}
use Rattle.strm_codes.specs.declared.payloads.Payload.TheVariants.{Nothing, One, Tuple, Compound}
use Rattle.strm_codes.specs.declared.nodes.Node.{Node}
use Rattle.strm_codes.specs.declared.nodes.Node.TheVariants as node

-- the scalar that stands at a place
scalar_at : ℕ → Scalar
scalar_at n =
    if n == 0 then Flag else (if n == 1 then S8 else (if n == 2 then U8 else (if n == 3 then S16 else (if n == 4 then U16
    else (if n == 5 then S32 else (if n == 6 then U32 else (if n == 7 then S64 else (if n == 8 then U64
    else (if n == 9 then Char else (if n == 10 then F32 else F64))))))))))

scalar_at-number : (s : Scalar) → scalar_at (scalar_number s) ≡ s
unfolding scalar_at
scalar_at-number Flag = refl
scalar_at-number S8 = refl
scalar_at-number U8 = refl
scalar_at-number S16 = refl
scalar_at-number U16 = refl
scalar_at-number S32 = refl
scalar_at-number U32 = refl
scalar_at-number S64 = refl
scalar_at-number U64 = refl
scalar_at-number Char = refl
scalar_at-number F32 = refl
scalar_at-number F64 = refl

Decides-same_scalar : (a b : Scalar) → Decides (same_scalar a b) (a ≡ b)
Decides-same_scalar a b =
    let d = Decides-eqb (scalar_number a) (scalar_number b) in
    ((λ e. sym (scalar_at-number a) ∙ ap scalar_at (d.0 e) ∙ scalar_at-number b), (λ e. d.1 (ap scalar_number e)))

Decides-same_scalars : (a b : List Scalar) → Decides (same_scalars a b) (a ≡ b)
Decides-same_scalars a b = slice_eq-Decides Decides-same_scalar a b (same_scalars a b) refl

-- the word of a kind and a count
node_at : ℕ → ℕ → Node
node_at kind n =
    if kind == 0 then node.Nothing else (if kind == 1 then node.Plain (scalar_at n) else (if kind == 2 then node.Flags n
    else (if kind == 3 then node.Enum n else (if kind == 4 then node.Option else (if kind == 5 then node.Result
    else (if kind == 6 then node.Tuple n else node.Variant n))))))

node_at-kind : (w : Node) → node_at (node_kind w) (node_count w) ≡ w
unfolding node_at
node_at-kind node.Nothing = refl
node_at-kind (node.Plain s) = ap node.Plain (scalar_at-number s)
node_at-kind (node.Flags n) = refl
node_at-kind (node.Enum n) = refl
node_at-kind node.Option = refl
node_at-kind node.Result = refl
node_at-kind (node.Tuple n) = refl
node_at-kind (node.Variant n) = refl

Decides-same_node : (a b : Node) → Decides (same_node a b) (a ≡ b)
Decides-same_node a b =
    let k = Decides-eqb (node_kind a) (node_kind b) in
    let n = Decides-eqb (node_count a) (node_count b) in
    let both = Decides-and (node_kind a == node_kind b) (node_count a == node_count b) k n in (
      (λ e. let t = both.0 e in sym (node_at-kind a) ∙ ap (λ j. node_at j (node_count a)) t.0 ∙ ap (node_at (node_kind b)) t.1 ∙ node_at-kind b),
      (λ e. both.1 (ap node_kind e, ap node_count e)),
    )

Decides-same_nodes : (a b : List Node) → Decides (same_nodes a b) (a ≡ b)
Decides-same_nodes a b = slice_eq-Decides Decides-same_node a b (same_nodes a b) refl

and_left : (a b : Bool) → (a && b) ≡ true → a ≡ true
and_left true b e = refl
and_left false b e = e

pub Decides-same_payload : (a b : Payload) → Decides (same_payload a b) (a ≡ b)
Decides-same_payload Nothing Nothing = ((λ e. refl), (λ e. refl))
Decides-same_payload Nothing (One b) = ((λ e. cc), (λ e. cc))
Decides-same_payload Nothing (Tuple b) = ((λ e. cc), (λ e. cc))
Decides-same_payload Nothing (Compound b) = ((λ e. cc), (λ e. cc))
Decides-same_payload (One a) Nothing = ((λ e. cc), (λ e. cc))
Decides-same_payload (One a) (One b) =
    let d = Decides-same_scalars (a ∷ []) (b ∷ []) in
    ((λ e. let same : a ∷ [] ≡ b ∷ [] = d.0 (and_left (same_scalars (a ∷ []) (b ∷ [])) true e) in cc), (λ e. let same = d.1 cc in cc))
Decides-same_payload (One a) (Tuple b) = ((λ e. cc), (λ e. cc))
Decides-same_payload (One a) (Compound b) = ((λ e. cc), (λ e. cc))
Decides-same_payload (Tuple a) Nothing = ((λ e. cc), (λ e. cc))
Decides-same_payload (Tuple a) (One b) = ((λ e. cc), (λ e. cc))
Decides-same_payload (Tuple a) (Tuple b) =
    let d = Decides-same_scalars a b in
    ((λ e. ap Tuple (d.0 (and_left (same_scalars a b) true e))), (λ e. let same = d.1 cc in cc))
Decides-same_payload (Tuple a) (Compound b) = ((λ e. cc), (λ e. cc))
Decides-same_payload (Compound a) Nothing = ((λ e. cc), (λ e. cc))
Decides-same_payload (Compound a) (One b) = ((λ e. cc), (λ e. cc))
Decides-same_payload (Compound a) (Tuple b) = ((λ e. cc), (λ e. cc))
Decides-same_payload (Compound a) (Compound b) =
    let d = Decides-same_nodes a b in ((λ e. ap Compound (d.0 e)), (λ e. d.1 cc))
