-- The machine values of a `StoreHandle`. Assumes `Logic`.
use Rattle.std.proofs.Common.{◌≡◌, ◌⊎◌, inl, inr, ℕ, Bool, true, false, List, [], ◌∷◌, ◌++◌, refl, sym, subst}
use Rattle.std.specs.Prelude.{Option, Some, None, IsSome}
use seplogic.Ra.Ura.{Ura}
use mir.Raw.{raw as bare}
use mir.Val.{Val, vnull, vptr, vstruct, of_list}
use base.Fml.{ftrue}
use base.Fraction.{full_share}
use base.Logic.{ent, guard, never, via, fst∗, snd∗, guard_i}
use types.Logic.{Logic, sem}
use types.Kit.{Item, Goal, Seq, Step, step, ‵, given, ◌$◌, ◌∵◌, !, qed, by, move, drop, use1, learn, fsplit, fjoin, fpick, fpack, feq_i, feq_l}
use contract.Monad.{fact, fact_i, fact_use}
use denote.RattleType.{RattleType, Valss}
use denote.Builtin.{RawPtr}
use denote.Memory.{lone}
use denote.RawPtr.{Ptr, Testable, block_ptr, null_ptr, lies_at, ptr_val, in_a_block}
use denote.Steps.{nothing}
use denote.Param.{layout}
use denote.Param.Laws.{Laws}
use denote.Struct.Struct.{within}
use denote.Struct.Owning.{shape, to}
use Rattle.core.proofs.alloc.Calls.{handle_tells}
use Rattle.core.proofs.cell.Inside.{Good}
use Rattle.std_alloc.specs.Box.Ownership.{box_owns}
use Rattle.std_heap.proofs.GlobalToken.{dealloc_token-Testable}
use Rattle.std_heap.specs.contracts.Global as Heap
use Rattle.std_heap.proofs.Global.TheLaws as heap
use Rattle.std_heap.specs.declared.Global.{Global}
use Rattle.std_heap.specs.contracts.GlobalAllocator.TheImpl.{ghosts}
use Rattle.strm_guest_store.specs.contracts.limited_store.LimitedStore as Stored
use Rattle.strm_guest_store.specs.declared.guest_limits.GuestLimits.{GuestLimits}
use Rattle.strm_machine.specs.State.{State}
use Rattle.strm_c.specs.Owned.{owned}
use Rattle.strm_c.specs.contracts.handles.StoreHandle as handle
use Rattle.strm_c.proofs.Values.{both, Loose, al}

abbrev pub R : RattleType
R = Stored.the_row

abbrev pub Z : RattleType
Z = Heap.the_row

abbrev pub LZ : Laws Z
LZ = heap.the_row_laws

abbrev pub Loosed : RattleType
Loosed = Loose R Z LZ ghosts

abbrev pub Handle : RattleType
Handle = handle.the_row

-- the store of a handle, with the limits of its guests
abbrev pub Holds : Option State → List GuestLimits → R.Denot → Type 0
Holds s l x = (s ≡ Some x.store) × (x.limits ≡ l)

-- the handle of a store that lies at an address
abbrev pub handle_of : Ptr → Global → R.Denot → Handle.Denot
handle_of at alloc x = record { at = at; alloc = alloc; state = Some x.store; limits = x.limits }

abbrev Differs : Bool → Type 0
Differs false = Unit {0}
Differs true = ⊥

module _ {M : Type 1} {𝓤 : Ura M} {𝓛 : Logic 𝓤} {K : Type 0} {Γ : List (Item 𝓤)} {G : Goal 𝓤 𝓛.H} where
  some_state : K → (a : Global) (p : Ptr) (s : Option State) (l : List GuestLimits) → IsSome s
      → ((x : R.Denot) → Holds s l x → Seq K 𝓛 (‵ (box_owns (ghosts.dealloc_token a) R p x) ∷ Γ) G) → Seq K 𝓛 (‵ (owned a p s l) ∷ Γ) G
  some_state t a p None l i k = absurd (subst Differs i tt)
  some_state t a p (Some s) l i k = k (record { store = s; limits = l }) (refl, refl)

-- the box of a store, and the allocator's value, before others
abbrev boxed : {M : Type 1} {𝓤 : Ura M} → Global → ℕ → ℕ → Val → R.Denot → List (Item 𝓤) → List (Item 𝓤)
boxed a b o h x more = ‵ (box_owns (ghosts.dealloc_token a) R (block_ptr b o) x) ∷ ‵ (Z.own_val a (h ∷ [])) ∷ more

module _ {M : Type 1} {𝓤 : Ura M} {𝓛 : Logic 𝓤} {K : Type 0} {Γ : List (Item 𝓤)} {G : Goal 𝓤 𝓛.H} where
  pub handle_out : K → (d : Handle.Denot) (vs : List Val) → IsSome d.state
      → ((b o : ℕ) (h : Val) (x : R.Denot) → d.at ≡ block_ptr b o → Holds d.state d.limits x → vs ≡ both (vptr b o) h ∷ [] → Good (layout Z) h → Seq K 𝓛 (boxed d.alloc b o h x Γ) G)
      → Seq K 𝓛 (‵ (Handle.own_val d vs) ∷ Γ) G
  handle_out t d vs i k =
      fsplit t $ fpick t (λ vss. fsplit t $ feq_l t (λ ev. fsplit t $ feq_l t (λ ep. fsplit t $ handle_tells (al R Z LZ ghosts) t d.alloc vss.1.0 (λ h ea fits. move t (1 ∷ []) $ drop t $ move t (1 ∷ []) $
      some_state t d.alloc d.at d.state d.limits i (λ x is.
      in_a_block t d.at (λ p. box_owns (ghosts.dealloc_token d.alloc) R p x) (fst∗ 𝓤 (never 𝓤) (sem 𝓛 (ghosts.dealloc_token d.alloc (bare (lone R.mir)) null_ptr))) (λ b o e. k b o h x e is
      (subst (λ (p : Ptr). vs ≡ vstruct (of_list (ptr_val p ∷ h ∷ [])) ∷ []) e
      (subst (λ (ws : List Val). vs ≡ vstruct (of_list (ptr_val d.at ∷ (ws ++ []))) ∷ []) ea (subst (λ (ps : List Val). vs ≡ vstruct (of_list (ps ++ (vss.1.0 ++ []))) ∷ []) ep ev))) fits))))))

  pub handle_in : K → (b o : ℕ) (h : Val) (a : Global) (x : R.Denot)
      → Step K 𝓛 (‵ (Handle.own_val (handle_of (block_ptr b o) a x) (both (vptr b o) h ∷ [])) ∷ Γ) G (‵ (box_owns (ghosts.dealloc_token a) R (block_ptr b o) x) ∷ ‵ (Z.own_val a (h ∷ [])) ∷ Γ) G
  handle_in t b o h a x = step (λ s. let v : Val = both (vptr b o) h in
      nothing t $ move t (2 ∷ 0 ∷ []) $ fjoin t $ feq_i t (List Val) (vptr b o ∷ []) (vptr b o ∷ []) refl $ fjoin t $ feq_i t (List Val) (v ∷ []) (v ∷ []) refl $ fjoin t $
      fpack t (Valss (RawPtr ∷ Z ∷ [])) (within (shape handle.the_type) (to handle.the_type (handle_of (block_ptr b o) a x)) (v ∷ [])) (vptr b o ∷ [], (h ∷ [], tt)) $ fjoin t $ s)

  pub none_in : K → (h : Val) (a : Global)
      → Step K 𝓛 (‵ (Handle.own_val (record { at = null_ptr; alloc = a; state = None; limits = [] }) (both vnull h ∷ [])) ∷ Γ) G (‵ (Z.own_val a (h ∷ [])) ∷ Γ) G
  none_in t h a = step (λ s. let v : Val = both vnull h in
      nothing t $ move t (1 ∷ 0 ∷ []) $ fjoin t $ feq_i t (List Val) (vnull ∷ []) (vnull ∷ []) refl $ fjoin t $ feq_i t (List Val) (v ∷ []) (v ∷ []) refl $ fjoin t $
      fpack t (Valss (RawPtr ∷ Z ∷ [])) (within (shape handle.the_type) (to handle.the_type (record { at = null_ptr; alloc = a; state = None; limits = [] })) (v ∷ [])) (vnull ∷ [], (h ∷ [], tt)) $
      nothing t $ fpack t (null_ptr ≡ null_ptr) (λ _. ftrue) refl $ move t (1 ∷ 0 ∷ []) $ fjoin t $ s)

-- the words of a handle of none: null
abbrev pub IsNone : Handle.Denot → Val → List Val → Type 0
IsNone d h vs = (d.state ≡ None) × (vs ≡ both vnull h ∷ [])

-- those of a handle of a store: an address that may be compared with null
abbrev pub IsOf : Handle.Denot → Val → List Val → Type 0
IsOf d h vs = (b : ℕ) × (o : ℕ) × IsSome d.state × (vs ≡ both (vptr b o) h ∷ []) × Testable (block_ptr b o)

-- they tell which it is
abbrev pub Found : Handle.Denot → List Val → Type 0
Found d vs = (h : Val) × (IsNone d h vs ⊎ IsOf d h vs)

is_some : (s : Option State) (x : State) → s ≡ Some x → IsSome s
is_some s x e = subst IsSome (sym e) refl

module _ {M : Type 1} {𝓤 : Ura M} (𝓛 : Logic 𝓤) where
  -- a block that may be freed lies at an address that may be compared with null
  tested : (a : Global) (p : Ptr) (x : R.Denot) → ent 𝓤 (sem 𝓛 (box_owns (ghosts.dealloc_token a) R p x)) (guard 𝓤 (Testable p) (sem 𝓛 (box_owns (ghosts.dealloc_token a) R p x)))
  tested a p x = let τ = bare (lone R.mir) in
      fact_use 𝓤 (Testable p) (via 𝓤 _ (snd∗ 𝓤 (sem 𝓛 (lies_at R full_share p x)) (sem 𝓛 (ghosts.dealloc_token a τ p))) (dealloc_token-Testable 𝓛 a τ p))
      (guard_i 𝓤 (Testable p) (sem 𝓛 (box_owns (ghosts.dealloc_token a) R p x)))

module _ {M : Type 1} {𝓤 : Ura M} {𝓛 : Logic 𝓤} {K : Type 0} {Γ : List (Item 𝓤)} {G : Goal 𝓤 𝓛.H} where
  either_state : K → (a : Global) (p : Ptr) (s : Option State) (l : List GuestLimits)
      → (s ≡ None → p ≡ null_ptr → Seq K 𝓛 Γ G)
      → ((x : R.Denot) → s ≡ Some x.store → Seq K 𝓛 (‵ (box_owns (ghosts.dealloc_token a) R p x) ∷ Γ) G) → Seq K 𝓛 (‵ (owned a p s l) ∷ Γ) G
  either_state t a p None l none some = fpick t (λ e. drop t $ none refl e)
  either_state t a p (Some s) l none some = some (record { store = s; limits = l }) refl

module _ {M : Type 1} {𝓤 : Ura M} {𝓛 : Logic 𝓤} {K : Type 0} {Γ : List (Item 𝓤)} {G : Goal 𝓤 𝓛.H} where
  -- the two cases of it
  pub by_found : (d : Handle.Denot) (vs : List Val) → Found d vs → ((h : Val) → IsNone d h vs → Seq K 𝓛 Γ G) → ((h : Val) → IsOf d h vs → Seq K 𝓛 Γ G) → Seq K 𝓛 Γ G
  by_found d vs (h, inl is) none some = none h is
  by_found d vs (h, inr is) none some = some h is

-- and so they do of each handle
pub found : {M : Type 1} {𝓤 : Ura M} (𝓛 : Logic 𝓤) (d : Handle.Denot) (vs : List Val) → ent 𝓤 (sem 𝓛 (Handle.own_val d vs)) (fact 𝓤 (Found d vs))
found {𝓤 = 𝓤} 𝓛 d vs =
    qed 𝓛 (‵ (Handle.own_val d vs) ∷ []) ∵ fsplit ! $ fpick ! (λ vss. fsplit ! $ feq_l ! (λ ev. fsplit ! $ feq_l ! (λ ep. fsplit ! $ handle_tells (al R Z LZ ghosts) ! d.alloc vss.1.0 (λ h ea fits. move ! (1 ∷ []) $ drop ! $ move ! (1 ∷ []) $
    let is : vs ≡ vstruct (of_list (ptr_val d.at ∷ h ∷ [])) ∷ [] =
    subst (λ (ws : List Val). vs ≡ vstruct (of_list (ptr_val d.at ∷ (ws ++ []))) ∷ []) ea (subst (λ (ps : List Val). vs ≡ vstruct (of_list (ps ++ (vss.1.0 ++ []))) ∷ []) ep ev) in
    let at : (p : Ptr) → d.at ≡ p → vs ≡ vstruct (of_list (ptr_val p ∷ h ∷ [])) ∷ [] = λ p e. subst (λ (p : Ptr). vs ≡ vstruct (of_list (ptr_val p ∷ h ∷ [])) ∷ []) e is in
    either_state ! d.alloc d.at d.state d.limits
    (λ none e. by ! (fact_i 𝓤 (Found d vs) _ (h, inl (none, at null_ptr e))))
    (λ x some. use1 𝓛 (given (Testable d.at) (‵ (box_owns (ghosts.dealloc_token d.alloc) R d.at x))) (tested 𝓛 d.alloc d.at x) $ learn ! (λ t.
    in_a_block ! d.at (λ p. box_owns (ghosts.dealloc_token d.alloc) R p x) (fst∗ 𝓤 (never 𝓤) (sem 𝓛 (ghosts.dealloc_token d.alloc (bare (lone R.mir)) null_ptr))) (λ b o e.
    by ! (fact_i 𝓤 (Found d vs) _ (h, inr (b, o, is_some d.state x.store some, at (block_ptr b o) e, subst Testable e t))))))))))
