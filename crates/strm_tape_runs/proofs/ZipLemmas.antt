-- Two lists made one by one into one.
use Rattle.std.proofs.Common.{◌≡◌, ℕ, zero, suc, ◌+◌, ◌-◌, ◌<◌, ◌≤◌, List, [], ◌∷◌, ◌++◌, length, take, drop, map, get_or, Some, refl, sym, ap, ◌∙◌, subst, arith}
use Rattle.std.specs.Prelude.{All, slice_get}
use Rattle.std.specs.List.{AllZip}
use Rattle.std.proofs.lemmas.List.{take_more, take_all}
use Rattle.std.proofs.lemmas.List.Elements.{All-get_or}
use Rattle.std.proofs.lemmas.Option.{slice_get_within, get_or_from_slice_get}
use Rattle.strm_tape_runs.specs.Taking.{zip_with}
use Rattle.strm_tape_runs.specs.Marks.{IsNext}
use Rattle.strm_tape_runs.proofs.SameLemmas.{get-drop}

-- one more record behind a place
pub behind_next : {A : Type 0} (xs : List A) (from k : ℕ) (old new : List A) → IsNext xs (from + k) old new → old ≡ take k (drop from xs) → new ≡ take (k + 1) (drop from xs)
behind_next xs from k old new n e =
    let here = get-drop xs from k n.one n.there in
    n.behind ∙ ap (λ ys. ys ++ n.one ∷ []) e
    ∙ sym (take_more (drop from xs) k n.one (slice_get_within (drop from xs) k n.one here) ∙ ap (λ x. take k (drop from xs) ++ x ∷ []) (get_or_from_slice_get (drop from xs) k n.one n.one here))

module _ {A B : Type 0} (R : A → B → Type 0) where
  -- lists of which each two elements stand so are as long
  pub zipped_length : (xs : List A) (ys : List B) → AllZip R xs ys → length xs ≡ length ys
  zipped_length [] [] h = refl
  zipped_length [] (y ∷ ys) h = absurd h
  zipped_length (x ∷ xs) [] h = absurd h
  zipped_length (x ∷ xs) (y ∷ ys) h = ap suc (zipped_length xs ys h.1)

  -- the two at a place
  pub zipped_at : (xs : List A) (ys : List B) (n : ℕ) (d : A) (e : B) → AllZip R xs ys → n < length xs → R (get_or xs n d) (get_or ys n e)
  zipped_at [] [] n d e h l = absurd (omega (arith, l))
  zipped_at [] (y ∷ ys) n d e h l = absurd h
  zipped_at (x ∷ xs) [] n d e h l = absurd h
  zipped_at (x ∷ xs) (y ∷ ys) zero d e h l = h.0
  zipped_at (x ∷ xs) (y ∷ ys) (suc n) d e h l = zipped_at xs ys n d e h.1 (omega (arith, l))

module _ {A B C : Type 0} (f : A → B → C) where
  pub length-zip_with : (xs : List A) (ys : List B) → length xs ≡ length ys → length (zip_with f xs ys) ≡ length xs
  length-zip_with [] ys e = refl
  length-zip_with (x ∷ xs) [] e = absurd (omega (arith, e))
  length-zip_with (x ∷ xs) (y ∷ ys) e = ap suc (length-zip_with xs ys (omega (arith, e)))

  pub get_or-zip_with : (xs : List A) (ys : List B) (n : ℕ) (c : C) (d : A) (e : B) → length xs ≡ length ys → n < length xs → get_or (zip_with f xs ys) n c ≡ f (get_or xs n d) (get_or ys n e)
  get_or-zip_with [] ys n c d e s l = absurd (omega (arith, l))
  get_or-zip_with (x ∷ xs) [] n c d e s l = absurd (omega (arith, s))
  get_or-zip_with (x ∷ xs) (y ∷ ys) zero c d e s l = refl
  get_or-zip_with (x ∷ xs) (y ∷ ys) (suc n) c d e s l = get_or-zip_with xs ys n c d e (omega (arith, s)) (omega (arith, l))

  -- one more
  pub zip_with_more : (xs : List A) (ys : List B) (n : ℕ) (d : A) (e : B) (zs : List C) → length xs ≡ length ys → n < length xs → zs ≡ take n (zip_with f xs ys) → zs ++ f (get_or xs n d) (get_or ys n e) ∷ [] ≡ take (n + 1) (zip_with f xs ys)
  zip_with_more xs ys n d e zs s l h =
      let c = f (get_or xs n d) (get_or ys n e) in
      ap (λ us. us ++ c ∷ []) h
      ∙ ap (λ x. take n (zip_with f xs ys) ++ x ∷ []) (sym (get_or-zip_with xs ys n c d e s l))
      ∙ sym (take_more (zip_with f xs ys) n c (omega (arith, l, length-zip_with xs ys s)))

  -- all
  pub zip_with_all : (xs : List A) (ys : List B) (n : ℕ) (zs : List C) → length xs ≡ length ys → length xs ≤ n → zs ≡ take n (zip_with f xs ys) → zs ≡ zip_with f xs ys
  zip_with_all xs ys n zs s l h = h ∙ take_all n (zip_with f xs ys) (omega (arith, l, length-zip_with xs ys s))

-- made of what the first are
pub zip_with-map : {A B C D : Type 0} (g : A → B) (f : B → C → D) (xs : List A) (ys : List C) → zip_with f (map g xs) ys ≡ zip_with (λ x y. f (g x) y) xs ys
zip_with-map g f [] ys = refl
zip_with-map g f (x ∷ xs) [] = refl
zip_with-map g f (x ∷ xs) (y ∷ ys) = ap (λ zs. f (g x) y ∷ zs) (zip_with-map g f xs ys)

-- the two at a place, the first being one
pub zipped_here : {A B : Type 0} (R : A → B → Type 0) (xs : List A) (ys : List B) (n : ℕ) (x : A) (e : B) → x ≡ get_or xs n x → AllZip R xs ys → n < length xs → R x (get_or ys n e)
zipped_here R xs ys n x e here h l = subst (λ a. R a (get_or ys n e)) (sym here) (zipped_at R xs ys n x e h l)

-- one more is made of them
pub zipped_more : {A B C : Type 0} (R : A → B → Type 0) (f : A → B → C) (xs : List A) (ys : List B) (n : ℕ) (x : A) (e : B) → x ≡ get_or xs n x → (z u : List C) → AllZip R xs ys → n < length xs → z ≡ take n (zip_with f xs ys) → u ≡ z ++ f x (get_or ys n e) ∷ [] → u ≡ take (n + 1) (zip_with f xs ys)
zipped_more R f xs ys n x e here z u h l made w =
    w ∙ ap (λ a. z ++ f a (get_or ys n e) ∷ []) here ∙ zip_with_more f xs ys n x e z (zipped_length R xs ys h) l made

short-zip_with : {A B C : Type 0} (f : A → B → C) (xs : List A) (ys : List B) → length (zip_with f xs ys) ≤ length xs
short-zip_with f [] ys = omega arith
short-zip_with f (x ∷ xs) [] = omega arith
short-zip_with f (x ∷ xs) (y ∷ ys) = let shorter = short-zip_with f xs ys in omega (arith, shorter)

-- no more than the first are
pub few_made : {A B C : Type 0} (f : A → B → C) {xs us : List A} (ys : List B) {zs : List C} → xs ≡ us → length us ≤ 64 → zs ≡ zip_with f xs ys → length zs ≤ 64
few_made f {xs = xs} ys e few h =
    let a = ap (λ vs. length vs) e in
    let b = ap (λ vs. length vs) h in
    let c = short-zip_with f xs ys in
    omega (arith, few, a, b, c)

-- what holds of all behind a place holds of one
pub behind_all : {A : Type 0} (P : A → Type 0) (xs : List A) (from index : ℕ) (x : A) → from ≤ index → slice_get xs index ≡ Some x → All P (drop from xs) → P x
behind_all P xs from index x l e h =
    let same : index ≡ from + (index - from) = omega (arith, l) in
    let there = get-drop xs from (index - from) x (subst (λ k. slice_get xs k ≡ Some x) same e) in
    subst P (get_or_from_slice_get (drop from xs) (index - from) x x there) (All-get_or P (drop from xs) (index - from) x (slice_get_within (drop from xs) (index - from) x there) h)
