-- The numbers of the slots in use ascend, and follow from which slots are in use.
use Rattle.std.proofs.Common.{◌≡◌, ℕ, zero, suc, ◌+◌, ◌<◌, ◌≤◌, Bool, true, false, ◌||◌, List, [], ◌∷◌, length, get_or, map, Option, Some, None, is_some, refl, sym, ap, ◌∙◌, arith}
use Rattle.std.specs.List.Sorted.{IsStrictlyIncreasing}
use Rattle.std.specs.Cmp.{nat_eq_equiv}
use Rattle.std.specs.Prelude.{nat_eq}
use Rattle.strm_resources.specs.Links.{is_among}
use Rattle.strm_resources.specs.Numbers.{used_numbers_from}
use Rattle.strm_resources.proofs.SlotLemmas.{eq-other}

numbers_at_least : {X : Type 0} (number : ℕ) (slots : List (Option X)) (k : ℕ) → k < length (used_numbers_from number slots) → number ≤ get_or (used_numbers_from number slots) k 0
numbers_at_least number [] k inside = absurd (omega arith)
numbers_at_least number (None ∷ slots) k inside = omega (arith, numbers_at_least (number + 1) slots k inside)
numbers_at_least number (Some x ∷ slots) zero inside = omega arith
numbers_at_least number (Some x ∷ slots) (suc k) inside = omega (arith, numbers_at_least (number + 1) slots k (omega arith))

numbers_ascend : {X : Type 0} (number : ℕ) (slots : List (Option X)) (k : ℕ) → suc k < length (used_numbers_from number slots) → get_or (used_numbers_from number slots) k 0 < get_or (used_numbers_from number slots) (suc k) 0
numbers_ascend number [] k inside = absurd (omega arith)
numbers_ascend number (None ∷ slots) k inside = numbers_ascend (number + 1) slots k inside
numbers_ascend number (Some x ∷ slots) zero inside = omega (arith, numbers_at_least (number + 1) slots zero (omega arith))
numbers_ascend number (Some x ∷ slots) (suc k) inside = numbers_ascend (number + 1) slots k (omega arith)

pub numbers-ascending : {X : Type 0} (number : ℕ) (slots : List (Option X)) → IsStrictlyIncreasing (used_numbers_from number slots)
numbers-ascending number slots k inside =
    let next : k + 1 ≡ suc k = omega arith in
    rw next (numbers_ascend number slots k (omega arith))

unfoldable occupied_from : ℕ → List Bool → List ℕ
occupied_from number [] = []
occupied_from number (true ∷ rest) = number ∷ occupied_from (number + 1) rest
occupied_from number (false ∷ rest) = occupied_from (number + 1) rest

numbers-occupied : {X : Type 0} (number : ℕ) (slots : List (Option X)) → used_numbers_from number slots ≡ occupied_from number (map is_some slots)
unfolding occupied_from
numbers-occupied number [] = refl
numbers-occupied number (None ∷ slots) = numbers-occupied (number + 1) slots
numbers-occupied number (Some x ∷ slots) = ap (λ ns. number ∷ ns) (numbers-occupied (number + 1) slots)

-- slots that are in use at the same numbers
pub numbers-alike : {X Y : Type 0} (number : ℕ) (xs : List (Option X)) (ys : List (Option Y)) → map is_some xs ≡ map is_some ys → used_numbers_from number xs ≡ used_numbers_from number ys
numbers-alike number xs ys alike = numbers-occupied number xs ∙ ap (occupied_from number) alike ∙ sym (numbers-occupied number ys)

below_start : {X : Type 0} (number other : ℕ) (slots : List (Option X)) → other < number → is_among (used_numbers_from number slots) other ≡ false
below_start number other [] below = refl
below_start number other (None ∷ slots) below = below_start (number + 1) other slots (omega arith)
below_start number other (Some x ∷ slots) below =
    ap (λ b. b || is_among (used_numbers_from (number + 1) slots) other) (eq-other other number (λ e. omega arith)) ∙ below_start (number + 1) other slots (omega arith)

-- a number is among those in use exactly where its slot is
pub among-numbers : {X : Type 0} (number at : ℕ) (slots : List (Option X)) → is_among (used_numbers_from number slots) (number + at) ≡ is_some (get_or slots at None)
among-numbers number at [] = refl
among-numbers number zero (None ∷ slots) = below_start (number + 1) (number + 0) slots (omega arith)
among-numbers number zero (Some x ∷ slots) =
    let same : number + 0 ≡ number = omega arith in
    ap (λ b. b || is_among (used_numbers_from (number + 1) slots) (number + 0)) (ap (λ n. nat_eq n number) same ∙ nat_eq_equiv.refl number)
among-numbers number (suc at) (None ∷ slots) =
    let shift : number + suc at ≡ number + 1 + at = omega arith in
    ap (is_among (used_numbers_from (number + 1) slots)) shift ∙ among-numbers (number + 1) at slots
among-numbers number (suc at) (Some x ∷ slots) =
    let shift : number + suc at ≡ number + 1 + at = omega arith in
    ap (λ b. b || is_among (used_numbers_from (number + 1) slots) (number + suc at)) (eq-other (number + suc at) number (λ e. omega arith))
    ∙ ap (is_among (used_numbers_from (number + 1) slots)) shift ∙ among-numbers (number + 1) at slots
