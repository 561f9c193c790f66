-- What writes handed over, one moment further.
use Rattle.std.proofs.Common.{◌≡◌, ℕ, zero, suc, ◌+◌, ◌*◌, ◌≤◌, Bool, true, false, List, [], ◌∷◌, ◌++◌, length, drop, Option, None, Some, refl, sym, ap, ◌∙◌, cond, arith, append_assoc, length-append}
use Rattle.std.proofs.lemmas.List.{append-nil, drop-drop}
use Rattle.std.proofs.lemmas.Bool.{lt-ltb, le-ltb, cond-true, cond-false}
use Rattle.std.specs.Prelude.{is_some, nat_lt, ◌||◌}
use Rattle.strm_machine.specs.Words.{item_type, item_size, ReturnCode, TransmitKind, Payload, memory_in, stream_at, Moment, Call, k_of, items_in_memory, received, ItemType}
use Rattle.strm_memory.specs.Loads.{decode}
use Rattle.strm_machine.specs.Moments.{decoded}
use Rattle.strm_machine.proofs.RefusalLemmas.{neither}
use Rattle.strm_laws.specs.Conservation.{before_passing, item_handed, handed, all_handed}
use Rattle.strm_laws.specs.Laws.{total_of_calls, AreReported}

-- whether the number received passed n in one of these moments
abbrev pub reaches : ℕ → List Moment → ℕ → Bool
reaches s [] n = false
reaches s (m ∷ more) n = nat_lt n (received s m.after) || reaches s more n

pub reaches-push : (s : ℕ) (all : List Moment) (m : Moment) (n : ℕ) → reaches s (all ++ m ∷ []) n ≡ (reaches s all n || nat_lt n (received s m.after))
reaches-push s [] m n = elim (nat_lt n (received s m.after)) as (λ v. (v || false) ≡ v) [ true ↦ refl | false ↦ refl ]
reaches-push s (x ∷ xs) m n = elim (nat_lt n (received s x.after)) as (λ v. (v || reaches s (xs ++ m ∷ []) n) ≡ ((v || reaches s xs n) || nat_lt n (received s m.after))) [ true ↦ refl | false ↦ reaches-push s xs m n ]

cond-or : {A : Type 0} (b c : Bool) (x y z : A) → (b || c) ≡ true → (c ≡ true → y ≡ z) → cond b x y ≡ cond b x z
cond-or true c x y z h f = refl
cond-or false c x y z h f = f h

-- a number that was passed before stays with its moment
before_passing-old : (s : ℕ) (all : List Moment) (m : Moment) (n : ℕ) → reaches s all n ≡ true → before_passing s (all ++ m ∷ []) n ≡ before_passing s all n
before_passing-old s [] m n h = cc
before_passing-old s (x ∷ xs) m n h =
    cond-or (nat_lt n (received s x.after)) (reaches s xs n) x.before (before_passing s (xs ++ m ∷ []) n) (before_passing s xs n) h (λ g. before_passing-old s xs m n g)

-- one that is passed in the last moment has that
before_passing-new : (s : ℕ) (all : List Moment) (m : Moment) (n : ℕ) → reaches s all n ≡ false → nat_lt n (received s m.after) ≡ true → before_passing s (all ++ m ∷ []) n ≡ m.before
before_passing-new s [] m n h t = cond-true (nat_lt n (received s m.after)) m.before _ t
before_passing-new s (x ∷ xs) m n h t =
    let p = neither (nat_lt n (received s x.after)) (reaches s xs n) h in
    cond-false (nat_lt n (received s x.after)) x.before _ p.0 ∙ before_passing-new s xs m n p.1 t

-- the number r was received so far
abbrev pub IsReached : ℕ → List Moment → ℕ → Type 0
IsReached s all r = (n : ℕ) → reaches s all n ≡ nat_lt n r

pub handed-old : (s : ℕ) (all : List Moment) (m : Moment) (e : ℕ) (w : Call) (r i n : ℕ) → IsReached s all r → e + i + n ≤ r → handed s (all ++ m ∷ []) e w i n ≡ handed s all e w i n
unfolding handed
handed-old s all m e w r i zero h le = refl
handed-old s all m e w r i (suc n) h le =
    let here : before_passing s (all ++ m ∷ []) (e + i) ≡ before_passing s all (e + i) = before_passing-old s all m (e + i) (h (e + i) ∙ lt-ltb (e + i) r (omega arith)) in
    rw (here, handed-old s all m e w r (i + 1) n h (omega arith)) refl

next_place : (a size i : ℕ) → a + size * i + size ≡ a + size * (i + 1)
next_place a size i = omega arith

-- the next item, behind the one at a place
decoded-next : (ss : ItemType) (bytes : List ℕ) (a i n : ℕ) → decoded ss (drop (a + item_size ss * i) bytes) (suc n) ≡ decode ss (drop (a + item_size ss * i) bytes) ∷ decoded ss (drop (a + item_size ss * (i + 1)) bytes) n
unfolding decoded
decoded-next ss bytes a i n = ap (λ l. decode ss (drop (a + item_size ss * i) bytes) ∷ decoded ss l n) (drop-drop (item_size ss) (a + item_size ss * i) bytes ∙ ap (λ k. drop k bytes) (next_place a (item_size ss) i))

pub decoded-none : (ss : ItemType) (bytes : List ℕ) → decoded ss bytes 0 ≡ []
unfolding decoded
decoded-none ss bytes = refl

-- an item that is handed over in the last moment
module _ (s : ℕ) (all : List Moment) (m : Moment) (e : ℕ) (w : Call) (i : ℕ) (payload : Payload) where
  item_handed-new : payload ≡ (stream_at m.before s).payload → before_passing s all (e + i) ≡ m.before → item_handed s all e w i ≡ decode (item_type payload) (drop (w.address + item_size (item_type payload) * i) (memory_in m.before.guests w.guest))
  item_handed-new q h = rw (h, q) refl

module _ (s : ℕ) (all : List Moment) (m : Moment) (e : ℕ) (w : Call) (r : ℕ) (payload : Payload) (h : IsReached s all r) (q : payload ≡ (stream_at m.before s).payload) where
  pub handed-new : (i n : ℕ) → r ≤ e + i → e + i + n ≤ received s m.after → handed s (all ++ m ∷ []) e w i n ≡ items_in_memory payload m.before.guests w.guest (w.address + item_size (item_type payload) * i) n
  unfolding handed
  handed-new i zero le ge = sym (decoded-none (item_type payload) _)
  handed-new i (suc n) le ge =
      let here : before_passing s (all ++ m ∷ []) (e + i) ≡ m.before = before_passing-new s all m (e + i) (h (e + i) ∙ le-ltb (e + i) r le) (lt-ltb (e + i) _ (omega arith)) in
      let item = item_handed-new s (all ++ m ∷ []) m e w i payload q here in
      let more = handed-new (i + 1) n (omega arith) (omega arith) in
      ap (λ x. x ∷ handed s (all ++ m ∷ []) e w (i + 1) n) item
      ∙ ap (λ l. decode (item_type payload) (drop (w.address + item_size (item_type payload) * i) (memory_in m.before.guests w.guest)) ∷ l) more
      ∙ sym (decoded-next (item_type payload) (memory_in m.before.guests w.guest) w.address i n)

pub handed-add : (s : ℕ) (all : List Moment) (e : ℕ) (w : Call) (i n r k : ℕ) → k ≡ n + r → handed s all e w i k ≡ handed s all e w i n ++ handed s all e w (i + n) r
unfolding handed
handed-add s all e w i zero r k h = let a : k ≡ r = omega arith in let b : i + 0 ≡ i = omega arith in rw (a, b) refl
handed-add s all e w i (suc n) r zero h = absurd (omega arith)
handed-add s all e w i (suc n) r (suc k) h =
    let a : k ≡ n + r = omega arith in
    let b : i + suc n ≡ i + 1 + n = omega arith in
    rw (b, handed-add s all e w (i + 1) n r k a) refl

pub handed-none : (s : ℕ) (all : List Moment) (e : ℕ) (w : Call) (i : ℕ) → handed s all e w i 0 ≡ []
unfolding handed
handed-none s all e w i = refl

pub handed-place : (s : ℕ) (all : List Moment) (e : ℕ) (v w : Call) (i n : ℕ) → v.guest ≡ w.guest → v.address ≡ w.address → handed s all e v i n ≡ handed s all e w i n
unfolding handed
handed-place s all e v w i zero g a = refl
handed-place s all e v w i (suc n) g a = rw (g, a, handed-place s all e v w (i + 1) n g a) refl

pub length-handed : (s : ℕ) (all : List Moment) (e : ℕ) (w : Call) (i n : ℕ) → length (handed s all e w i n) ≡ n
unfolding handed
length-handed s all e w i zero = refl
length-handed s all e w i (suc n) = ap suc (length-handed s all e w (i + 1) n)

pub k_of-reported : (kind : TransmitKind) (a b : ℕ) (r : Option ReturnCode) → is_some r ≡ true → k_of kind a r ≡ k_of kind b r
k_of-reported kind a b None h = cc
k_of-reported kind a b (Some c) h = refl

-- where all have their reports, what the operation moved doesn't count
pub total_of_calls-reported : (kind : TransmitKind) (a b : ℕ) (ws : List Call) → AreReported ws → total_of_calls kind a ws ≡ total_of_calls kind b ws
total_of_calls-reported kind a b [] h = refl
total_of_calls-reported kind a b (w ∷ ws) h = rw (k_of-reported kind a b w.report h.0, total_of_calls-reported kind a b ws h.1) refl

pub all_handed-reported : (kind : TransmitKind) (s : ℕ) (all : List Moment) (a b e : ℕ) (ws : List Call) → AreReported ws → all_handed kind s all a e ws ≡ all_handed kind s all b e ws
unfolding all_handed
all_handed-reported kind s all a b e [] h = refl
all_handed-reported kind s all a b e (w ∷ ws) h = rw (k_of-reported kind a b w.report h.0, all_handed-reported kind s all a b (e + k_of kind b w.report) ws h.1) refl

pub total_of_calls-append : (kind : TransmitKind) (moved : ℕ) (xs ys : List Call) → total_of_calls kind moved (xs ++ ys) ≡ total_of_calls kind moved xs + total_of_calls kind moved ys
total_of_calls-append kind moved [] ys = omega arith
total_of_calls-append kind moved (x ∷ xs) ys = omega (arith, total_of_calls-append kind moved xs ys)

pub all_handed-append : (kind : TransmitKind) (s : ℕ) (all : List Moment) (moved e : ℕ) (xs ys : List Call) → all_handed kind s all moved e (xs ++ ys) ≡ all_handed kind s all moved e xs ++ all_handed kind s all moved (e + total_of_calls kind moved xs) ys
unfolding all_handed
all_handed-append kind s all moved e [] ys = let z : e + 0 ≡ e = omega arith in rw z refl
all_handed-append kind s all moved e (x ∷ xs) ys =
    let z : e + k_of kind moved x.report + total_of_calls kind moved xs ≡ e + (k_of kind moved x.report + total_of_calls kind moved xs) = omega arith in
    rw (all_handed-append kind s all moved (e + k_of kind moved x.report) xs ys, z)
    (sym (append_assoc (handed s all e x 0 (k_of kind moved x.report)) (all_handed kind s all moved (e + k_of kind moved x.report) xs) (all_handed kind s all moved (e + (k_of kind moved x.report + total_of_calls kind moved xs)) ys)))

pub all_handed-old : (kind : TransmitKind) (s : ℕ) (all : List Moment) (m : Moment) (moved e r : ℕ) (ws : List Call) → IsReached s all r → e + total_of_calls kind moved ws ≤ r → all_handed kind s (all ++ m ∷ []) moved e ws ≡ all_handed kind s all moved e ws
unfolding all_handed
all_handed-old kind s all m moved e r [] h le = refl
all_handed-old kind s all m moved e r (w ∷ ws) h le =
    rw (handed-old s all m e w r 0 (k_of kind moved w.report) h (omega arith), all_handed-old kind s all m moved (e + k_of kind moved w.report) r ws h (omega arith)) refl

pub length-all_handed : (kind : TransmitKind) (s : ℕ) (all : List Moment) (moved e : ℕ) (ws : List Call) → length (all_handed kind s all moved e ws) ≡ total_of_calls kind moved ws
unfolding all_handed
length-all_handed kind s all moved e [] = refl
length-all_handed kind s all moved e (w ∷ ws) =
    length-append (handed s all e w 0 (k_of kind moved w.report)) (all_handed kind s all moved (e + k_of kind moved w.report) ws) ∙ omega (arith, length-handed s all e w 0 (k_of kind moved w.report), length-all_handed kind s all moved (e + k_of kind moved w.report) ws)

-- one write alone
pub all_handed-one : (kind : TransmitKind) (s : ℕ) (all : List Moment) (moved e : ℕ) (w : Call) → all_handed kind s all moved e (w ∷ []) ≡ handed s all e w 0 (k_of kind moved w.report)
unfolding all_handed
all_handed-one kind s all moved e w = append-nil (handed s all e w 0 (k_of kind moved w.report))
