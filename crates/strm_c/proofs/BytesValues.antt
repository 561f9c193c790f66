-- The machine values of a `LentBytes`, and how its bytes are lodged. Assumes `Logic`.
use Rattle.std.proofs.Common.{◌≡◌, ℕ, ◌+◌, ◌*◌, ◌^◌, ◌<◌, ◌≤◌, List, [], ◌∷◌, ◌++◌, length, refl, ap, ◌∙◌, arith}
use lib.Dec.{T}
use seplogic.Ra.Ura.{Ura}
use mir.Syntax.{w64}
use mir.Val.{Val, vptr, vint, vstruct, of_list, has_ty, WT}
use base.Fraction.{full_share}
use base.Logic.{SProp, ent, emp, never, snd∗}
use base.Fml.{flt, flft}
use prog.Memory.{Memory}
use prog.Routine.{Routine}
use contract.BorrowLft.{◌⊑◌, ⊑_refl}
use contract.Monad.{Fun, fact, fact_i}
use types.Logic.{Logic, sem}
use types.Kit.{Item, Goal, Seq, ‵, raw, ◌$◌, ◌∵◌, !, qed, drop, use0, join, fsplit, fjoin, fpick, feq_i, feq_l, flt_i, flt_l, done}
use denote.RattleType.{RattleType}
use denote.Builtin.{u8}
use denote.Param.{layout}
use denote.RawPtr.{Ptr, block_ptr, ptr_val, in_a_block}
use denote.Steps.{nothing}
use Rattle.std_alloc.specs.Vec.Ownership.{lodged}
use Rattle.bytes.proofs.Lodging.{Lodges, at_lodge}
use Rattle.strm_c.specs.Bytes.{IsRun}
use Rattle.strm_c.specs.contracts.lent_bytes.LentBytes as lent
use Rattle.strm_c.proofs.Values.{both}

abbrev pub Bytes : RattleType
Bytes = lent.the_row

-- the two words of bytes
abbrev pub words : ℕ → ℕ → ℕ → Val
words b o n = both (vptr b o) (vint w64 n)

pub words_good : (b o n : ℕ) → n < 2 ^ 64 → T (has_ty (layout Bytes) (words b o n)) × WT (words b o n)
words_good b o n fits = (tt, (tt, (record { fits = fits }, tt)))

module _ {M : Type 1} {𝓤 : Ura M} {𝓛 : Logic 𝓤} {K : Type 0} {Γ : List (Item 𝓤)} {G : Goal 𝓤 𝓛.H} where
  -- bytes, taken apart
  pub bytes_out : K → (d : Bytes.Denot) (vs : List Val)
      → ((b o : ℕ) → d.at ≡ block_ptr b o → vs ≡ words b o d.len ∷ [] → d.len < 2 ^ 64 → IsRun d.len d.items → Seq K 𝓛 (‵ (lodged u8 (block_ptr b o) d.len d.len d.items) ∷ Γ) G)
      → Seq K 𝓛 (‵ (Bytes.own_val d vs) ∷ Γ) G
  bytes_out t d vs k =
      fsplit t $ fpick t (λ vss. fsplit t $ feq_l t (λ ev. fsplit t $ feq_l t (λ ep. fsplit t $ fsplit t $ feq_l t (λ el. flt_l t (λ fits. drop t $ fpick t (λ run.
      in_a_block t d.at (λ p. lodged u8 p d.len d.len d.items) (snd∗ 𝓤 (sem 𝓛 (flt (d.len * 1) (2 ^ 63))) (never 𝓤)) (λ b o e.
      k b o e (ev ∙ ((λ i. vstruct (of_list (ep i ++ (el i ++ []))) ∷ []) ∙ ap (λ (p : Ptr). vstruct (of_list (ptr_val p ∷ vint w64 d.len ∷ [])) ∷ []) e)) fits run)))))))

module _ {M : Type 1} {𝓤 : Ura M} (𝓛 : Logic 𝓤) (at_mem : Memory → SProp 𝓤) (run : Routine → Fun 𝓤) where
  -- what `lodge` asks for
  pub run_goes : (b o n : ℕ) (xs : List ℕ) → IsRun n xs → ent 𝓤 (sem 𝓛 (lodged u8 (block_ptr b o) n n xs)) ((Lodges 𝓛 at_mem run).pre (at_lodge 𝓛 at_mem run b o n xs))
  run_goes b o n xs is =
      let Asked : Type 0 = (n ≡ length xs) × (n ≤ n) × (n < 2 ^ 63) in
      let small : n < 2 ^ 64 = omega (arith, is.1) in
      qed 𝓛 (‵ (lodged u8 (block_ptr b o) n n xs) ∷ []) ∵
      use0 𝓛 (raw (fact 𝓤 Asked)) (fact_i 𝓤 Asked (emp 𝓤) (is.0, omega arith, is.1)) $ join ! $
      use0 𝓛 (raw (fact 𝓤 ([] ⊑ []))) (fact_i 𝓤 ([] ⊑ []) (emp 𝓤) (⊑_refl [])) $ join ! $
      nothing ! $ flt_i ! n (2 ^ 64) small $ feq_i ! (List Val) (vint w64 n ∷ []) (vint w64 n ∷ []) refl $ fjoin ! $ fjoin ! $
      flt_i ! n (2 ^ 64) small $ feq_i ! (List Val) (vint w64 n ∷ []) (vint w64 n ∷ []) refl $ fjoin ! $ fjoin ! $
      feq_i ! (List Val) (vptr b o ∷ []) (vptr b o ∷ []) refl $ fjoin ! $ nothing ! $ use0 𝓛 (‵ (flft [] full_share)) (𝓛.lfts.lft-nil full_share) $ join ! $ join ! $ done !
