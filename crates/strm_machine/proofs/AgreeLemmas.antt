-- What handles name and who holds ends, apart from any state: that they agree, and that they still do
-- after a handle more or a handle less.
use Rattle.std.proofs.Common.{◌≡◌, ℕ, Bool, true, false, refl, sym, ap, ◌∙◌, inl, inr}
use Rattle.std.specs.Prelude.{Ok, Err, ◌⊎◌, ◌==◌}
use Rattle.std.proofs.lemmas.Bool.{and_parts, cases_eq, eqb-true}
use Rattle.strm_machine.specs.Words.{same_side, Name, Side, Writing, Reading, is_end, Owner, Held, is_held}
use Rattle.strm_machine.specs.Tests.{side_of}
use Rattle.strm_machine.proofs.SideLemmas.{same_side_is}

-- ## One end or another

cases_side : (a b : Side) → (a ≡ b) ⊎ (a ≡ b → ⊥)
cases_side Writing Writing = inl refl
cases_side Writing Reading = inr (λ e. cc)
cases_side Reading Writing = inr (λ e. cc)
cases_side Reading Reading = inl refl

cases_both : {P Q : Type 0} → P ⊎ (P → ⊥) → Q ⊎ (Q → ⊥) → (P × Q) ⊎ (P × Q → ⊥)
cases_both (inl p) (inl q) = inl (p, q)
cases_both (inl p) (inr n) = inr (λ h. n h.1)
cases_both (inr n) q = inr (λ h. n h.0)

-- ## What a handle names

-- the answer is one end only
pub is_end-once : (s k : ℕ) (a b : Side) (n : Name) → is_end s a n ≡ true → is_end k b n ≡ true → (s ≡ k) × (a ≡ b)
is_end-once s k a b (Ok answer) e f =
    let p = and_parts (answer.0 == s) (same_side (side_of answer.1) a) e in
    let q = and_parts (answer.0 == k) (same_side (side_of answer.1) b) f in (
      sym (eqb-true answer.0 s p.0) ∙ eqb-true answer.0 k q.0,
      same_side_is (side_of answer.1) a p.1 ∙ sym (same_side_is (side_of answer.1) b q.1),
    )
is_end-once s k a b (Err error) e f = cc

is_end-same : (s k : ℕ) (a b : Side) (n m : Name) → s ≡ k → a ≡ b → n ≡ m → is_end k b m ≡ true → is_end s a n ≡ true
is_end-same s k a b n m e f h t = rw (e, f, h) t

not_true : (b : Bool) → b ≡ true → b ≡ false → ⊥
not_true true e f = cc
not_true false e f = cc

-- an end is not held by nobody and held
not_held : (a b : Owner) (g handle : ℕ) → is_held a ≡ false → b ≡ Held g handle → a ≡ b → ⊥
not_held a b g handle e f h = let is : is_held a ≡ true = ap is_held (h ∙ f) in cc

same_owner : (g k handle other : ℕ) → Held g handle ≡ Held k other → (g ≡ k) × (handle ≡ other)
same_owner g k handle other e = (cc, cc)

-- ## Handles and owners that agree

-- by what each handle of each guest names, and by who holds each end of each stream
pub record Agree (names : ℕ → ℕ → Name) (owners : ℕ → Side → Owner) : Type 0 where
  pub named : (g handle s : ℕ) (side : Side) → is_end s side (names g handle) ≡ true → owners s side ≡ Held g handle
  pub held : (g handle s : ℕ) (side : Side) → owners s side ≡ Held g handle → is_end s side (names g handle) ≡ true

module _ (names : ℕ → ℕ → Name) (owners : ℕ → Side → Owner) (h : Agree names owners) where
  -- an end has one handle at most
  pub Agree-single : (s : ℕ) (side : Side) (g handle k other : ℕ) → is_end s side (names g handle) ≡ true → is_end s side (names k other) ≡ true → (g ≡ k) × (handle ≡ other)
  Agree-single s side g handle k other e f = same_owner g k handle other (sym (h.named g handle s side e) ∙ h.named k other s side f)

  -- and none where no guest has it
  pub Agree-unheld : (s : ℕ) (side : Side) (g handle : ℕ) → is_held (owners s side) ≡ false → is_end s side (names g handle) ≡ false
  Agree-unheld s side g handle e = unnamed (is_end s side (names g handle)) refl
    where
      unnamed : (b : Bool) → is_end s side (names g handle) ≡ b → b ≡ false
      unnamed true is = let own = h.named g handle s side is in absurd (not_held (owners s side) (owners s side) g handle e own refl)
      unnamed false is = refl

module _ (names names' : ℕ → ℕ → Name) (owners owners' : ℕ → Side → Owner) (h : Agree names owners) where
  -- nothing has changed
  pub Agree-same : ((g handle s : ℕ) (side : Side) → is_end s side (names' g handle) ≡ is_end s side (names g handle)) → ((s : ℕ) (side : Side) → owners' s side ≡ owners s side) → Agree names' owners'
  Agree-same e f = record {
    named = λ g handle s side is. f s side ∙ h.named g handle s side (sym (e g handle s side) ∙ is);
    held = λ g handle s side is. e g handle s side ∙ h.held g handle s side (sym (f s side) ∙ is);
  }

  module _ (g : ℕ) (handle : ℕ) (s : ℕ) (side : Side)
      (others : (k other : ℕ) → ((k ≡ g) × (other ≡ handle) → ⊥) → names' k other ≡ names k other)
      (rest : (k : ℕ) (other : Side) → ((k ≡ s) × (other ≡ side) → ⊥) → owners' k other ≡ owners k other) where
    -- a handle that named no end names one that no guest had
    module _ (free : (k : ℕ) (other : Side) → is_end k other (names g handle) ≡ false) (here : is_end s side (names' g handle) ≡ true)
        (unheld : is_held (owners s side) ≡ false) (owned : owners' s side ≡ Held g handle) where
      more_named : (k other t : ℕ) (a : Side) → is_end t a (names' k other) ≡ true → owners' t a ≡ Held k other
      more_named k other t a is =
          elim (cases_both (cases_eq k g) (cases_eq other handle)) [
            | inl p ↦ let p0 = p.0 in
                let p1 = p.1 in
                let same : names' g handle ≡ names' k other = cc in
                let once = is_end-once s t side a (names' g handle) here (ap (is_end t a) same ∙ is) in
                let q0 = once.0 in
                let q1 = once.1 in
                let end : owners' t a ≡ owners' s side = cc in
                let owner : Held g handle ≡ Held k other = cc in
                end ∙ owned ∙ owner
            | inr n ↦ let own : owners t a ≡ Held k other = h.named k other t a (ap (is_end t a) (sym (others k other n)) ∙ is) in
                rest t a (λ q. let q0 = q.0 in let q1 = q.1 in let same : owners s side ≡ owners t a = cc in not_held (owners s side) (owners t a) k other unheld own same) ∙ own
          ]

      more_held : (k other t : ℕ) (a : Side) → owners' t a ≡ Held k other → is_end t a (names' k other) ≡ true
      more_held k other t a is =
          elim (cases_both (cases_eq t s) (cases_side a side)) [
            | inl q ↦ let q0 = q.0 in
                let q1 = q.1 in
                let owner : Held g handle ≡ Held k other = cc in
                let p = same_owner g k handle other owner in
                let p0 = p.0 in
                let p1 = p.1 in
                let same : names' k other ≡ names' g handle = cc in
                is_end-same t s a side (names' k other) (names' g handle) q0 q1 same here
            | inr off ↦ let before : is_end t a (names k other) ≡ true = h.held k other t a (sym (rest t a off) ∙ is) in
                ap (is_end t a) (others k other (λ p. let p0 = p.0 in let p1 = p.1 in let same : names g handle ≡ names k other = cc in not_true (is_end t a (names g handle)) (ap (is_end t a) same ∙ before) (free t a))) ∙ before
          ]

      pub Agree-more : Agree names' owners'
      Agree-more = record { named = more_named; held = more_held }

    -- a handle that named an end names none, and no guest has the end
    module _ (was : is_end s side (names g handle) ≡ true) (free : (k : ℕ) (other : Side) → is_end k other (names' g handle) ≡ false)
        (unheld : is_held (owners' s side) ≡ false) where
      less_named : (k other t : ℕ) (a : Side) → is_end t a (names' k other) ≡ true → owners' t a ≡ Held k other
      less_named k other t a is =
          elim (cases_both (cases_eq k g) (cases_eq other handle)) [
            | inl p ↦ let p0 = p.0 in
                let p1 = p.1 in
                let same : names' g handle ≡ names' k other = cc in
                absurd (not_true (is_end t a (names' g handle)) (ap (is_end t a) same ∙ is) (free t a))
            | inr n ↦ let own : owners t a ≡ Held k other = h.named k other t a (ap (is_end t a) (sym (others k other n)) ∙ is) in
                let mine : owners s side ≡ Held g handle = h.named g handle s side was in
                rest t a (λ q. let q0 = q.0 in let q1 = q.1 in let owner : Held k other ≡ Held g handle = cc in n (same_owner k g other handle owner)) ∙ own
          ]

      less_held : (k other t : ℕ) (a : Side) → owners' t a ≡ Held k other → is_end t a (names' k other) ≡ true
      less_held k other t a is =
          elim (cases_both (cases_eq t s) (cases_side a side)) [
            | inl q ↦ let q0 = q.0 in
                let q1 = q.1 in
                let same : owners' s side ≡ owners' t a = cc in
                absurd (not_held (owners' s side) (owners' t a) k other unheld is same)
            | inr off ↦ let before : is_end t a (names k other) ≡ true = h.held k other t a (sym (rest t a off) ∙ is) in
                ap (is_end t a) (others k other (λ p. let p0 = p.0 in let p1 = p.1 in let same : names g handle ≡ names k other = cc in off (is_end-once t s a side (names g handle) (ap (is_end t a) same ∙ before) was))) ∙ before
          ]

      pub Agree-less : Agree names' owners'
      Agree-less = record { named = less_named; held = less_held }

  -- an end that no guest had gets an owner that is none either
  module _ (s : ℕ) (side : Side) (same : (g handle : ℕ) → names' g handle ≡ names g handle)
      (rest : (k : ℕ) (other : Side) → ((k ≡ s) × (other ≡ side) → ⊥) → owners' k other ≡ owners k other)
      (was : is_held (owners s side) ≡ false) (unheld : is_held (owners' s side) ≡ false) where
    beside : (owner : ℕ → Side → Owner) → is_held (owner s side) ≡ false → (g handle t : ℕ) (a : Side) → owner t a ≡ Held g handle → (t ≡ s) × (a ≡ side) → ⊥
    beside owner none g handle t a is q = let q0 = q.0 in let q1 = q.1 in let here : owner s side ≡ owner t a = cc in not_held (owner s side) (owner t a) g handle none is here

    pub Agree-beside : Agree names' owners'
    Agree-beside = record {
      named = λ g handle t a is. let own = h.named g handle t a (ap (is_end t a) (sym (same g handle)) ∙ is) in rest t a (beside owners was g handle t a own) ∙ own;
      held = λ g handle t a is. ap (is_end t a) (same g handle) ∙ h.held g handle t a (sym (rest t a (beside owners' unheld g handle t a is)) ∙ is);
    }
