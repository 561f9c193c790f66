-- What host ends recorded behind their marks, beside a tape.
use Rattle.std.proofs.Common.{◌≡◌, ℕ, ◌+◌, ◌<◌, ◌≤◌, List, [], length, take, drop, map, get_or, Some, refl, sym, ap, ◌∙◌, subst, arith}
use Rattle.std.specs.Prelude.{slice_get}
use Rattle.std.specs.Option.{option_map}
use Rattle.std.proofs.lemmas.List.{length-map}
use Rattle.std.proofs.lemmas.Option.{slice_get-map, slice_get-get_or, slice_get_read, slice_get_within, get_or_from_slice_get, same_Some}
use Rattle.strm_codes.specs.declared.codes.TransmitIndex.{TransmitIndex}
use Rattle.strm_tape_runs.specs.declared.marks.Mark.{Mark}
use Rattle.strm_tape_runs.specs.Differing.{DifferFirst}
use Rattle.strm_tape_runs.specs.Taking.{zip_with}
use Rattle.strm_tape_runs.proofs.SameLemmas.{front_more, front_all}
use Rattle.strm_tape_runs.proofs.ZipLemmas.{length-zip_with, get_or-zip_with}

-- lists that are seen the same are as long
pub same_lengths : {A B C : Type 0} (f : A → C) (g : B → C) (xs : List A) (ys : List B) → map f xs ≡ map g ys → length xs ≡ length ys
same_lengths f g xs ys e = sym (length-map xs f) ∙ ap (λ zs. length zs) e ∙ length-map ys g

-- an element at its place
pub read_at : {A : Type 0} (xs : List A) (n : ℕ) (x : A) → n < length xs → x ≡ get_or xs n x → slice_get xs n ≡ Some x
read_at xs n x l e = slice_get_read xs (length xs) n x refl l e

-- what is behind a mark that is read
pub behind_mark : {S : Type 0} (xs ys zs : List S) (m m' : Mark) → m ≡ m' → ys ≡ zs → drop m'.records xs ≡ ys → drop m.records xs ≡ zs
behind_mark xs ys zs m m' e f h = ap (λ (k : Mark). drop k.records xs) e ∙ h ∙ f

pub differs_behind : {S : Type 0} (xs ys zs : List S) (m m' : Mark) (at : ℕ) → m ≡ m' → ys ≡ zs → DifferFirst at (drop m'.records xs) ys → DifferFirst at (drop m.records xs) zs
differs_behind xs ys zs m m' at e f h = subst (λ (k : Mark). DifferFirst at (drop k.records xs) zs) (sym e) (subst (λ us. DifferFirst at (drop m'.records xs) us) f h)

-- what is seen at a place
pub seen_there : {A B : Type 0} (see : A → B) (xs : List A) (n : ℕ) (x : A) → slice_get xs n ≡ Some x → slice_get (map see xs) n ≡ Some (see x)
seen_there see xs n x e = slice_get-map see xs n ∙ ap (option_map see) e

seen_same : {A B C : Type 0} (f : A → C) (g : B → C) (xs : List A) (ys : List B) (n : ℕ) (x : A) (y : B) → map f xs ≡ map g ys → slice_get xs n ≡ Some x → slice_get ys n ≡ Some y → f x ≡ g y
seen_same f g xs ys n x y e a b =
    same_Some (f x) (g y) (sym (seen_there f xs n x a) ∙ ap (λ zs. slice_get zs n) e ∙ seen_there g ys n y b)

module _ {T X S : Type 0} (f : Mark → T → X) (ty : X → TransmitIndex) (said : X → List S) (whole : (x y : X) → ty x ≡ ty y → said x ≡ said y → x ≡ y) (typed : (m : Mark) (t : T) → ty (f m t) ≡ m.ty) (marks : List Mark) (told : List T) (tapes : List X) (long : length marks ≡ length told) (types : map (λ (m : Mark). m.ty) marks ≡ map ty tapes) where
  -- all are the same
  pub none_differs : (n : ℕ) → length tapes ≤ n → take n (zip_with f marks told) ≡ take n tapes → zip_with f marks told ≡ tapes
  none_differs n l h =
      let as_long = same_lengths (λ (m : Mark). m.ty) ty marks tapes types in
      front_all (zip_with f marks told) tapes n (omega (arith, l, length-zip_with f marks told long, as_long)) l h

  module _ (n : ℕ) (m : Mark) (t : T) (w : X) (at_m : slice_get marks n ≡ Some m) (at_t : slice_get told n ≡ Some t) (at_w : slice_get tapes n ≡ Some w) where
    there : slice_get (zip_with f marks told) n ≡ Some (f m t)
    there =
        let inside = slice_get_within marks n m at_m in
        slice_get-get_or (zip_with f marks told) n (f m t) (omega (arith, inside, length-zip_with f marks told long))
        ∙ ap Some (get_or-zip_with f marks told n (f m t) m t long inside ∙ ap (λ a. f a (get_or told n t)) (get_or_from_slice_get marks n m m at_m) ∙ ap (f m) (get_or_from_slice_get told n t t at_t))

    -- one more is the same
    pub one_more_same : said (f m t) ≡ said w → take n (zip_with f marks told) ≡ take n tapes → take (n + 1) (zip_with f marks told) ≡ take (n + 1) tapes
    one_more_same e h =
        let same : f m t ≡ w = whole (f m t) w (typed m t ∙ seen_same (λ (k : Mark). k.ty) ty marks tapes n m w types at_m at_w) e in
        front_more (zip_with f marks told) tapes n w (there ∙ ap Some same) at_w h

    -- the next one differs
    pub next_differs : (at : ℕ) → DifferFirst at (said (f m t)) (said w) → DifferFirst at (get_or (map said (zip_with f marks told)) n []) (get_or (map said tapes) n [])
    next_differs at d =
        subst (λ xs. DifferFirst at xs (get_or (map said tapes) n [])) (sym (get_or_from_slice_get (map said (zip_with f marks told)) n (said (f m t)) [] (seen_there said (zip_with f marks told) n (f m t) there)))
        (subst (λ ys. DifferFirst at (said (f m t)) ys) (sym (get_or_from_slice_get (map said tapes) n (said w) [] (seen_there said tapes n w at_w))) d)
