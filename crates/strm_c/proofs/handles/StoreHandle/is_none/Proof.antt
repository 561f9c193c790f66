-- `is_none` reads the pointer and compares it with null.
use Rattle.std.proofs.Common.{◌≡◌, Bool, true, false, List, [], ◌∷◌, refl, sym, subst}
use base.Fraction.{full_share}
use base.Fml.{ftrue, flft}
use mir.Syntax.{named}
use mir.Val.{Val, vbool}
use types.Kit.{‵, ◌⊛◌, ◌$◌, ◌∵◌, !, qed, done, move, keep, split, join, fsplit3, rewrite, suffices, frame, group}
use types.Part.{whole, sub, look_in}
use types.Run.{enter, of_opd, lit, bin, load, stop, fld, returns}
use types.ByLocal.{alloc_all, pass_all, free_all, look_at, get, through, sets}
use denote.Memory.{cell_at}
use denote.Plain.{bool_Makes}
use denote.Builtin.{bool}
use denote.Ref.{MutRef, mut_vals, mut_Tells}
use denote.RawPtr.{block_ptr, null_ptr, tests_null}
use denote.Signature.{plain}
use denote.Steps.{nothing, owned, opens, closes, peeks}
use denote.Triple.Walked.{Stays, walk_of, says, stay_ref, Goes-ref, ends_at}
use Rattle.core.proofs.atomic.Steps.{Ptr-Good}
use Rattle.std.proofs.raw_atomic.Walks.{proved}
use Rattle.strm_c.proofs.HandleValues.{Handle, Found, found, by_found}
use Rattle.strm_c.specs.contracts.handles.StoreHandle.is_none.{ended, clauses}
use Rattle.strm_c.specs.contracts.handles.StoreHandle.is_none.Key.{name as #self}
use Rattle.strm_c.proofs.handles.StoreHandle.is_none.Statement.{statement}
use Rattle.strm_c.proofs.handles.StoreHandle.is_none.Code as code

abbrev stayed : Stays ended.signature.params ended.kept
stayed = (stay_ref (0 ∷ []) tt (plain (λ _. Handle)), tt)

abbrev Differs : Bool → Type 0
Differs true = Unit {0}
Differs false = ⊥

differ : true ≡ false → ⊥
differ e = subst Differs e tt

pub is_none_spec : {M : Type 1} → statement M
is_none_spec 𝓤 𝓛 𝓜 𝓡 wired =
    let c = clauses 𝓛 𝓜.mem 𝓡.returns in
    proved 𝓛 ended stayed c 𝓜 𝓡 (Goes-ref 𝓛 1 0 tt (plain (λ _. Handle)), tt) #self code.function (code.unfolded 𝓤 𝓛.H 𝓜 𝓡 wired)
    (λ κs. (mut_vals, tt)) (λ κs. (mut_Tells (named 0) κs.0 Handle, tt)) (λ κs qs bounds a _ are.
    let b = a.0.ref_ptr.0 in let o = a.0.ref_ptr.1 in let h = a.0.now in let vs = mut_vals a.0 in
    let y : (walk_of 𝓛 ended stayed c).Ghost = ((κs, qs, bounds, a, (vs, tt)), tt) in
    let Cell = λ (ws : List Val). ‵ (cell_at full_share Handle.mir ws b o) in
    qed 𝓛 (((‵ (flft κs.0 qs.0) ⊛ ‵ ftrue) ⊛ ‵ ((MutRef (named 0) κs.0 Handle).own_val a.0 vs) ⊛ ‵ ftrue) ∷ ‵ ftrue ∷ []) ∵
    split ! $ split ! $ move ! (2 ∷ []) $ split ! $ keep ! (0 ∷ 2 ∷ []) $
    enter ! _ _ _ _ _ $ alloc_all ! (λ l. pass_all ! refl ((tt, tt), tt) $
    fsplit3 ! $ move ! (1 ∷ 2 ∷ 3 ∷ []) $ opens ! tt Handle b o (λ us.
    move ! (1 ∷ []) $ peeks ! Handle Found (found 𝓛) h us (λ is. by_found h us is
    (λ hv none. rewrite ! 1 Cell none.1 refl $
    sets ! (of_opd ! (load ! (through ! refl (fld ! refl (stop !))) (look_in ! 1 (sub ! 0 refl (whole !))))) refl (Ptr-Good null_ptr) $
    sets ! (bin ! (get ! refl) (lit ! tt) tt) refl (tt, tt) $
    rewrite ! 1 Cell (sym none.1) refl $ move ! (1 ∷ 0 ∷ []) $ closes ! tt Handle h us b o $
    returns ! (look_at ! 0 refl) $ free_all ! refl $ move ! (3 ∷ []) $
    suffices ! _ (ends_at 𝓛 ended stayed c y (vbool true) true (h, tt) (tt, tt)) $ says ! ((λ _. none.0), (λ e. absurd (differ e)), refl) $
    group ! 3 $ nothing ! $ move ! (1 ∷ 0 ∷ []) $ join ! $ nothing ! $ move ! (2 ∷ 0 ∷ []) $ join ! $ frame ! $ frame ! $
    owned ! bool _ (bool_Makes 𝓛) true _ refl $ done !)
    (λ hv of. rewrite ! 1 Cell of.3 refl $
    sets ! (of_opd ! (load ! (through ! refl (fld ! refl (stop !))) (look_in ! 1 (sub ! 0 refl (whole !))))) refl (tt, tt) $
    sets ! (bin ! (get ! refl) (lit ! tt) (tests_null (block_ptr of.0 of.1) of.4)) refl (tt, tt) $
    rewrite ! 1 Cell (sym of.3) refl $ move ! (1 ∷ 0 ∷ []) $ closes ! tt Handle h us b o $
    returns ! (look_at ! 0 refl) $ free_all ! refl $ move ! (3 ∷ []) $
    suffices ! _ (ends_at 𝓛 ended stayed c y (vbool false) false (h, tt) (tt, tt)) $ says ! ((λ e. absurd (differ (sym e))), (λ _. of.2), refl) $
    group ! 3 $ nothing ! $ move ! (1 ∷ 0 ∷ []) $ join ! $ nothing ! $ move ! (2 ∷ 0 ∷ []) $ join ! $ frame ! $ frame ! $
    owned ! bool _ (bool_Makes 𝓛) false _ refl $ done !)))))
