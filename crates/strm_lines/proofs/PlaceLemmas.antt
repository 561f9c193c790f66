-- The first of a byte's places, and that there is none.
use Rattle.std.proofs.Common.{◌≡◌, ℕ, zero, suc, ◌+◌, ◌-◌, Bool, true, false, cond, List, [], ◌∷◌, length, get_or, Option, Some, None, refl, sym, subst, ◌∙◌, arith, ⊎_elim}
use Rattle.std.proofs.lemmas.Bool.{cases_lt, false≢true}
use Rattle.memchr.specs.Find.{Passes, Nowhere, NoneBefore, IsFirstByte, TakesFirst, places_from, places}

module _ (test : ℕ → Bool) (hay : List ℕ) where
  -- nor is it at one place before those where it is not
  nowhere_more : (i j : ℕ) → test (get_or hay i 0) ≡ false → Nowhere (Passes test hay) (i + 1) j → Nowhere (Passes test hay) i j
  nowhere_more i j f h = λ k low high p. ⊎_elim (λ l. h k (omega (arith, l)) high p) (λ l. here k (omega (arith, l, low)) p) (cases_lt i k)
    where
      here : (k : ℕ) → i ≡ k → Passes test hay k → ⊥
      here k e p = false≢true (sym f ∙ subst (Passes test hay) (sym e) p)

  -- of a list of places, one more of which may be listed
  abbrev one_more : Bool → ℕ → List ℕ → List ℕ
  one_more b i later = cond b (i ∷ later) later

  -- the first that is listed is the first at which the byte is
  abbrev LeadsTo : ℕ → ℕ → ℕ → List ℕ → List ℕ → Type 0
  LeadsTo i j k rest listed = listed ≡ k ∷ rest → NoneBefore (Passes test hay) i j k × Passes test hay k

  -- no place is listed
  pub no_places : (i n : ℕ) → places_from test hay i n ≡ [] → Nowhere (Passes test hay) i (i + n)
  unfolding places_from
  no_places i zero e = λ k low high p. omega (arith, low, high)
  no_places i (suc n) e = by_test (test (get_or hay i 0)) refl (no_places (i + 1) n) e
    where
      by_test : (b : Bool) → test (get_or hay i 0) ≡ b → (places_from test hay (i + 1) n ≡ [] → Nowhere (Passes test hay) (i + 1) (i + 1 + n)) → one_more b i (places_from test hay (i + 1) n) ≡ [] → Nowhere (Passes test hay) i (i + suc n)
      by_test true t others e = absurd cc
      by_test false f others e = nowhere_more i (i + suc n) f (λ k low high. others e k low (omega (arith, high)))

  -- the first that is listed
  pub first_place : (i n k : ℕ) (rest : List ℕ) → places_from test hay i n ≡ k ∷ rest → NoneBefore (Passes test hay) i (i + n) k × Passes test hay k
  unfolding places_from
  first_place i zero k rest e = absurd cc
  first_place i (suc n) k rest e = by_test (test (get_or hay i 0)) refl (first_place (i + 1) n k rest) e
    where
      by_test : (b : Bool) → test (get_or hay i 0) ≡ b → LeadsTo (i + 1) (i + 1 + n) k rest (places_from test hay (i + 1) n) → one_more b i (places_from test hay (i + 1) n) ≡ k ∷ rest → NoneBefore (Passes test hay) i (i + suc n) k × Passes test hay k
      by_test true t others e =
          let same : i ≡ k = cc in
          (record { low = omega (arith, same); high = omega (arith, same); before = λ m low high p. omega (arith, low, high, same) }, subst (Passes test hay) same t)
      by_test false f others e =
          let r = others e in
          (record { low = omega (arith, r.0.low); high = omega (arith, r.0.high); before = nowhere_more i k f r.0.before }, r.1)

-- what comes first of the list of all its places is the first
pub is_first : (test : ℕ → Bool) (hay : List ℕ) (r : Option ℕ) (all left : List ℕ) → all ≡ places test hay → TakesFirst all r left → IsFirstByte test hay r
is_first test hay None all left e h = λ k low high. no_places test hay 0 (length hay - 0) (sym e ∙ h.0) k low (omega (arith, high))
is_first test hay (Some k) all left e h =
    let found = first_place test hay 0 (length hay - 0) k left (sym e ∙ h) in
    (record { low = found.0.low; high = omega (arith, found.0.high); before = found.0.before }, found.1)
