-- The steps that are drawn, one by one, and how many they are.
use Rattle.std.proofs.Common.{◌≡◌, ◌≤◌, ℕ, zero, suc, ◌+◌, ◌-◌, ◌%◌, ◌^◌, [], ◌∷◌, ◌++◌, length, length-append, drop, refl, ap, ◌∙◌, arith}
use Rattle.std.proofs.lemmas.List.{drop_all, length-drop}
use Rattle.strm_machine.specs.declared.steps.Step.{Step}
use Rattle.strm_lines.specs.Generator.{next_state, drawn, drawn_step, drawn_steps, first_steps, generated}

drawn_steps-suc : (n x : ℕ) → drawn_steps (suc n) x ≡ drawn_step (drawn (next_state x)) (drawn (next_state (next_state x))) (drawn (next_state (next_state (next_state x)))) ∷ drawn_steps n (next_state (next_state (next_state x)))
unfolding drawn_steps
drawn_steps-suc n x = refl

drawn_steps-end : (x : ℕ) → drawn_steps zero x ≡ []
unfolding drawn_steps
drawn_steps-end x = refl

-- three draws in a row, from the state x, and their states
pub record Draws (x : ℕ) (a b c y : ℕ) : Type 0 where
  pub first : ℕ
  pub second : ℕ
  pub first_is : first ≡ next_state x
  pub second_is : second ≡ next_state first
  pub third_is : y ≡ next_state second
  pub a_is : a ≡ drawn first
  pub b_is : b ≡ drawn second
  pub c_is : c ≡ drawn y

one_of : (n x a b c y : ℕ) → Draws x a b c y → drawn_steps (suc n) x ≡ drawn_step a b c ∷ drawn_steps n y
one_of n x a b c y d =
    rw (d.a_is, d.b_is, d.c_is, d.third_is, d.second_is, d.first_is) (drawn_steps-suc n x)

length-drawn_steps : (n x : ℕ) → length (drawn_steps n x) ≡ n
length-drawn_steps zero x = ap length (drawn_steps-end x)
length-drawn_steps (suc n) x = ap length (drawn_steps-suc n x) ∙ ap suc (length-drawn_steps n _)

pub length-generated : (n seed : ℕ) → length (generated n seed) ≡ 4 + n
length-generated n seed = omega (arith, length-drawn_steps n (seed % 2 ^ 31))

-- so many are left where so many of the first were given, and so many are to be drawn
pub length-left : (b n x : ℕ) → length (drop b first_steps ++ drawn_steps n x) ≡ (4 - b) + n
length-left b n x = omega (arith, length-append (drop b first_steps) (drawn_steps n x), length-drop b first_steps, length-drawn_steps n x)

-- the next of those that are drawn
pub drawn-next : (d n m x a b c y : ℕ) (s : Step) → 4 ≤ d → Draws x a b c y → n ≡ suc m → s ≡ drawn_step a b c → drop d first_steps ++ drawn_steps n x ≡ s ∷ (drop d first_steps ++ drawn_steps m y)
drawn-next d n m x a b c y s l h e f = rw (drop_all d first_steps l, e, f) (one_of m x a b c y h)
