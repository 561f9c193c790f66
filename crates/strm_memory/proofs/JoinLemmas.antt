-- Bytes that lie one behind the other. Assumes `Logic`.
use Rattle.std.proofs.Common.{◌≡◌, ℕ, ◌+◌, List, [], ◌∷◌, ◌++◌, length, refl, ap, arith, Vec}
use seplogic.Ra.Ura.{Ura}
use mir.Val.{Val}
use base.Logic.{ent, sep, guard, guard_i, never, id⊢}
use base.Fml.{ftrue}
use contract.Monad.{fact, fact_i, fact_use}
use types.Logic.{Logic, sem}
use types.Kit.{‵, given, ◌$◌, ◌∵◌, !, qed, by, move, drop, use1, use2, learn, rewrite, fsplit, fpick, feq_l, flt_l}
use types.SemTy.{cells}
use denote.Builtin.{u8}
use denote.Memory.{mem}
use denote.RawPtr.{Ptr, block_ptr, null_ptr, in_block, in_a_block, ◌+ₚ◌}
use borrow.Table.Elements.{at, at_mul, join_app}
use Rattle.core.proofs.slice.Relends.{array_out, array_in}
use Rattle.std.specs.Allocator.{block_with_items}
use Rattle.std_alloc.specs.Vec.Ownership.{owns_if, has_block}
use Rattle.std_alloc.specs.declared.vec.lodged.Lodged.{Lodged}
use Rattle.bytes.specs.Ownership.{run_owns}
use Rattle.bytes.proofs.Lodging.{Housed}

-- a place from which no step was made
pub no_step : (p : Ptr) → p +ₚ 0 ≡ p
no_step (block_ptr b o) = let e : o + 0 ≡ o = omega arith in ap (block_ptr b) e
no_step null_ptr = refl

-- it lies in a block
abbrev pub IsPlaced : Ptr → Type 0
IsPlaced p = (b : ℕ) × (o : ℕ) × (p ≡ block_ptr b o)

module _ {M : Type 1} {𝓤 : Ura M} (𝓛 : Logic 𝓤) where
  -- the bytes of a vector do
  housed_placed : (d : Vec ℕ Lodged) (u : Val) → ent 𝓤 (sem 𝓛 (Housed.own_val d (u ∷ []))) (fact 𝓤 (IsPlaced d.ptr))
  housed_placed d u =
      qed 𝓛 (‵ (Housed.own_val d (u ∷ [])) ∷ []) ∵ fsplit ! $ fpick ! (λ vss. fsplit ! $ feq_l ! (λ all. fsplit ! $ feq_l ! (λ e₀. fsplit ! $ fsplit ! $ feq_l ! (λ e₁. flt_l ! (λ fn. fsplit ! $ fsplit ! $ feq_l ! (λ e₂. flt_l ! (λ fc.
      fsplit ! $ drop ! $ drop ! $ fsplit ! $ flt_l ! (λ fit.
      in_a_block ! d.ptr (λ p. in_block p (owns_if (has_block d.cap) (block_with_items (λ _ _. ftrue) u8 p d.len d.cap d.items))) (id⊢ 𝓤 (never 𝓤)) (λ b o e.
      by ! (fact_i 𝓤 (IsPlaced d.ptr) _ (b, o, e)))))))))))

  pub housed_at : (d : Vec ℕ Lodged) (u : Val) → ent 𝓤 (sem 𝓛 (Housed.own_val d (u ∷ []))) (guard 𝓤 (IsPlaced d.ptr) (sem 𝓛 (Housed.own_val d (u ∷ []))))
  housed_at d u = fact_use 𝓤 (IsPlaced d.ptr) (housed_placed d u) (guard_i 𝓤 (IsPlaced d.ptr) (sem 𝓛 (Housed.own_val d (u ∷ []))))

  -- two runs, the second directly behind the first, are one
  pub runs_joined : (b o : ℕ) (xs ys : List ℕ) → ent 𝓤 (sep 𝓤 (sem 𝓛 (run_owns (block_ptr b o) xs)) (sem 𝓛 (run_owns (block_ptr b (o + length xs)) ys))) (sem 𝓛 (run_owns (block_ptr b o) (xs ++ ys)))
  runs_joined b o xs ys =
      let n : ℕ = length xs in
      let m : ℕ = length ys in
      let behind : o + n ≡ at o 1 n = let e = at_mul o 1 n in omega (arith, e) in
      qed 𝓛 (‵ (run_owns (block_ptr b o) xs) ∷ ‵ (run_owns (block_ptr b (o + n)) ys) ∷ []) ∵
      use1 𝓛 (given (length xs ≡ n) (‵ (cells (mem u8) xs b o))) (array_out 𝓛 u8 tt n b xs o) $ learn ! (λ _. move ! (1 ∷ []) $
      use1 𝓛 (given (length ys ≡ m) (‵ (cells (mem u8) ys b (o + n)))) (array_out 𝓛 u8 tt m b ys (o + n)) $ learn ! (λ _.
      rewrite ! 0 (λ (p : ℕ). ‵ (cells (mem u8) ys b p)) behind refl $ move ! (1 ∷ 0 ∷ []) $
      use2 𝓛 (‵ (cells (mem u8) (xs ++ ys) b o)) (join_app 𝓛 (mem u8) xs ys b o) $
      by ! (array_in 𝓛 u8 tt (length (xs ++ ys)) b (xs ++ ys) o refl)))
