-- The script as it grows.
use Rattle.std.proofs.Common.{◌≡◌, ℕ, zero, suc, ◌-◌, ◌<◌, ◌≤◌, List, [], ◌∷◌, ◌++◌, length, min, take, drop, refl, sym, ap, ◌∙◌, arith, length-drop}
use Rattle.std.proofs.lemmas.List.{append-nil, append_assoc, take_min, drop_min, nil_from_length}
use Rattle.strm_machine.specs.declared.steps.Step.{Step}
use Rattle.strm_machine.specs.declared.steps.Step.TheVariants as steps
use Rattle.strm_carry_laws.specs.OneStream.{carried_type, reads_of, piece_of, piece_steps, script_of}

-- it doesn't matter how many reads may come, if it's enough
reads_enough : (f g r j : ℕ) → 0 < r → j ≤ f → j ≤ g → reads_of f r j ≡ reads_of g r j
unfolding reads_of
reads_enough zero zero r j o h k = refl
reads_enough zero (suc g) r zero o h k = refl
reads_enough zero (suc g) r (suc j) o h k = absurd (omega arith)
reads_enough (suc f) zero r zero o h k = refl
reads_enough (suc f) zero r (suc j) o h k = absurd (omega arith)
reads_enough (suc f) (suc g) r zero o h k = refl
reads_enough (suc f) (suc g) r (suc j) o h k =
    ap (λ (more : List Step). steps.Read 1 carried_type 1 0 r ∷ steps.Dump 1 0 (min r (suc j)) ∷ more)
    (reads_enough f g r (suc j - min r (suc j)) o (omega arith) (omega arith))

reads_none : (r : ℕ) → reads_of 0 r 0 ≡ []
unfolding reads_of
reads_none r = refl

reads_some : (r j : ℕ) → 0 < r → 0 < j → reads_of j r j ≡ steps.Read 1 carried_type 1 0 r ∷ steps.Dump 1 0 (min r j) ∷ reads_of (j - min r j) r (j - min r j)
unfolding reads_of
reads_some r zero o p = absurd (omega arith)
reads_some r (suc j) o p =
    ap (λ (more : List Step). steps.Read 1 carried_type 1 0 r ∷ steps.Dump 1 0 (min r (suc j)) ∷ more)
    (reads_enough j (suc j - min r (suc j)) r (suc j - min r (suc j)) o (omega arith) (omega arith))

-- the steps so far, and the reads of what is left, are all
pub record ReadsSoFar (old now : List Step) (r len left : ℕ) : Type 0 where
  pub goes_on : now ++ reads_of left r left ≡ old ++ reads_of len r len

pub reads_begin : (old : List Step) (r len : ℕ) → ReadsSoFar old old r len len
reads_begin old r len = record { goes_on = refl }

pub reads_more : (old now new : List Step) (r len left count : ℕ) → 0 < r → 0 < left → count ≡ min r left → new ≡ now ++ steps.Read 1 carried_type 1 0 r ∷ steps.Dump 1 0 count ∷ [] → ReadsSoFar old now r len left → ReadsSoFar old new r len (left - count)
reads_more old now new r len left count o p c n a =
    let here : reads_of left r left ≡ steps.Read 1 carried_type 1 0 r ∷ steps.Dump 1 0 count ∷ reads_of (left - count) r (left - count) = rw c (reads_some r left o p) in
    record {
      goes_on = ap (λ (s : List Step). s ++ reads_of (left - count) r (left - count)) n
          ∙ append_assoc now (steps.Read 1 carried_type 1 0 r ∷ steps.Dump 1 0 count ∷ []) (reads_of (left - count) r (left - count))
          ∙ ap (λ (s : List Step). now ++ s) (sym here) ∙ a.goes_on;
    }

pub reads_end : (old now : List Step) (r len left : ℕ) → left ≡ 0 → ReadsSoFar old now r len left → now ≡ old ++ reads_of len r len
reads_end old now r len left z a =
    let none : reads_of left r left ≡ [] = rw z (reads_none r) in
    sym (append-nil now) ∙ ap (λ (s : List Step). now ++ s) (sym none) ∙ a.goes_on

-- PIECES

pieces_enough : (f g w r : ℕ) (bytes : List ℕ) → 0 < w → length bytes ≤ f → length bytes ≤ g → piece_steps f w r bytes ≡ piece_steps g w r bytes
unfolding piece_steps
pieces_enough zero zero w r bytes o h k = refl
pieces_enough zero (suc g) w r [] o h k = refl
pieces_enough zero (suc g) w r (b ∷ bytes) o h k = absurd (omega arith)
pieces_enough (suc f) zero w r [] o h k = refl
pieces_enough (suc f) zero w r (b ∷ bytes) o h k = absurd (omega arith)
pieces_enough (suc f) (suc g) w r [] o h k = refl
pieces_enough (suc f) (suc g) w r (b ∷ bytes) o h k =
    ap (λ (more : List Step). piece_of r (take w (b ∷ bytes)) ++ more)
    (pieces_enough f g w r (drop w (b ∷ bytes)) o (omega (arith, length-drop w (b ∷ bytes))) (omega (arith, length-drop w (b ∷ bytes))))

pieces_none : (w r : ℕ) → piece_steps 0 w r [] ≡ []
unfolding piece_steps
pieces_none w r = refl

pieces_some : (w r : ℕ) (bytes : List ℕ) → 0 < w → 0 < length bytes → piece_steps (length bytes) w r bytes ≡ piece_of r (take w bytes) ++ piece_steps (length (drop w bytes)) w r (drop w bytes)
unfolding piece_steps
pieces_some w r [] o p = absurd (omega arith)
pieces_some w r (b ∷ bytes) o p =
    let rest : List ℕ = drop w (b ∷ bytes) in
    ap (λ (more : List Step). piece_of r (take w (b ∷ bytes)) ++ more)
    (pieces_enough (length bytes) (length rest) w r rest o (omega (arith, length-drop w (b ∷ bytes))) (omega arith))

-- the steps so far, and those of the pieces of what is left, are all
pub record PiecesSoFar (now : List Step) (w r : ℕ) (bytes left : List ℕ) : Type 0 where
  pub goes_on : now ++ piece_steps (length left) w r left ≡ script_of w r bytes

pub pieces_begin : (none now : List Step) (w r : ℕ) (bytes : List ℕ) → none ≡ [] → now ≡ none ++ steps.Guest 64 ∷ steps.Guest 64 ∷ steps.Between 0 1 carried_type ∷ [] → PiecesSoFar now w r bytes bytes
pieces_begin none now w r bytes z n = record { goes_on = ap (λ (s : List Step). s ++ piece_steps (length bytes) w r bytes) (n ∙ ap (λ (s : List Step). s ++ steps.Guest 64 ∷ steps.Guest 64 ∷ steps.Between 0 1 carried_type ∷ []) z) }

-- the next piece, and what follows it
pub record IsCut (w : ℕ) (left piece more : List ℕ) : Type 0 where
  pub some : 0 < length left
  pub front : piece ≡ take (min (length left) w) left
  pub back : more ≡ drop (min (length left) w) left

pub pieces_more : (now new : List Step) (w r : ℕ) (bytes left piece more : List ℕ) → 0 < w → IsCut w left piece more → new ≡ now ++ piece_of r piece → PiecesSoFar now w r bytes left → PiecesSoFar new w r bytes more
pieces_more now new w r bytes left piece more o c n a =
    let least : min (length left) w ≡ min w (length left) = omega arith in
    let p : piece ≡ take w left = c.front ∙ rw least (take_min w left) in
    let q : more ≡ drop w left = c.back ∙ rw least (drop_min w left) in
    let here : piece_steps (length left) w r left ≡ piece_of r piece ++ piece_steps (length more) w r more = rw (p, q) (pieces_some w r left o c.some) in
    record {
      goes_on = ap (λ (s : List Step). s ++ piece_steps (length more) w r more) n
          ∙ append_assoc now (piece_of r piece) (piece_steps (length more) w r more) ∙ ap (λ (s : List Step). now ++ s) (sym here) ∙ a.goes_on;
    }

pub pieces_end : (now : List Step) (w r : ℕ) (bytes left : List ℕ) → length left ≡ 0 → PiecesSoFar now w r bytes left → now ≡ script_of w r bytes
pieces_end now w r bytes left z a =
    let nothing : left ≡ [] = nil_from_length left z in
    let none : piece_steps (length left) w r left ≡ [] = rw nothing (pieces_none w r) in
    sym (append-nil now) ∙ ap (λ (s : List Step). now ++ s) (sym none) ∙ a.goes_on
