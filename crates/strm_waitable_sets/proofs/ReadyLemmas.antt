-- Falling lists: what an insert and a removal leave, where one is or would be, and which is the least.
use Rattle.std.proofs.Common.{◌≡◌, ◌≢◌, ℕ, ◌+◌, ◌-◌, ◌<◌, ◌≤◌, zero, suc, Bool, true, false, not, ◌&&◌, ◌||◌, List, [], ◌∷◌, length, get_or, refl, sym, ap, ◌∙◌, arith, inl, inr}
use Rattle.std.specs.Prelude.{nat_eq}
use Rattle.std.specs.List.{insert, remove}
use Rattle.std.specs.Cmp.{nat_eq_equiv}
use Rattle.std.proofs.lemmas.Bool.{cases_lt}
use Rattle.strm_waitable_sets.specs.Ready.{is_in, AreBelow, IsFalling}
use Rattle.strm_waitable_sets.proofs.HomeLemmas.{by_eq}
use Rattle.strm_waitable_sets.proofs.TieLemmas.{eq-other}

-- ## An insert

or_swap : (a b c : Bool) → (a || (b || c)) ≡ (b || (a || c))
or_swap true true c = refl
or_swap true false c = refl
or_swap false true c = refl
or_swap false false c = refl

pub is_in-insert : (hs : List ℕ) (i y other : ℕ) → i ≤ length hs → is_in (insert hs i y) other ≡ (nat_eq other y || is_in hs other)
is_in-insert hs zero y other inside = refl
is_in-insert [] (suc i) y other inside = absurd (omega arith)
is_in-insert (h ∷ hs) (suc i) y other inside =
    ap (λ b. nat_eq other h || b) (is_in-insert hs i y other (omega arith)) ∙ or_swap (nat_eq other h) (nat_eq other y) (is_in hs other)

below-insert : (top : ℕ) (hs : List ℕ) (i y : ℕ) → i ≤ length hs → y < top → AreBelow top hs → AreBelow top (insert hs i y)
below-insert top hs zero y inside below all = (below, all)
below-insert top [] (suc i) y inside below all = absurd (omega arith)
below-insert top (h ∷ hs) (suc i) y inside below all = (all.0, below-insert top hs i y (omega arith) below all.1)

all_below : (top : ℕ) (hs : List ℕ) → ((k : ℕ) → k < length hs → get_or hs k 0 < top) → AreBelow top hs
all_below top [] each = tt
all_below top (h ∷ hs) each = (each 0 (omega arith), all_below top hs (λ k inside. each (suc k) (omega arith)))

pub falling-insert : (hs : List ℕ) (i y : ℕ) → i ≤ length hs → IsFalling hs → ((k : ℕ) → k < i → y < get_or hs k 0) → ((k : ℕ) → i ≤ k → k < length hs → get_or hs k 0 < y) → IsFalling (insert hs i y)
falling-insert hs zero y inside falling before behind = (all_below y hs (λ k within. behind k (omega arith) within), falling)
falling-insert [] (suc i) y inside falling before behind = absurd (omega arith)
falling-insert (h ∷ hs) (suc i) y inside falling before behind =
    (below-insert h hs i y (omega arith) (before 0 (omega arith)) falling.0, falling-insert hs i y (omega arith) falling.1 (λ k less. before (suc k) (omega arith)) (λ k more within. behind (suc k) (omega arith) (omega arith)))

-- ## A place

below-at : (top : ℕ) (hs : List ℕ) → AreBelow top hs → (k : ℕ) → k < length hs → get_or hs k 0 < top
below-at top [] all k inside = absurd (omega arith)
below-at top (h ∷ hs) all zero inside = all.0
below-at top (h ∷ hs) all (suc k) inside = below-at top hs all.1 k (omega arith)

pub falling-at : (hs : List ℕ) → IsFalling hs → (i j : ℕ) → i < j → j < length hs → get_or hs j 0 < get_or hs i 0
falling-at [] falling i j less inside = absurd (omega arith)
falling-at (h ∷ hs) falling i zero less inside = absurd (omega arith)
falling-at (h ∷ hs) falling zero (suc j) less inside = below-at h hs falling.0 j (omega arith)
falling-at (h ∷ hs) falling (suc i) (suc j) less inside = falling-at hs falling.1 i j (omega arith) (omega arith)

pub none_is : (hs : List ℕ) (other : ℕ) → ((k : ℕ) → k < length hs → get_or hs k 0 ≢ other) → is_in hs other ≡ false
none_is [] other apart = refl
none_is (h ∷ hs) other apart =
    ap (λ b. b || is_in hs other) (eq-other other h (λ same. apart 0 (omega arith) (sym same))) ∙ none_is hs other (λ k inside. apart (suc k) (omega arith))

pub is_in-at : (hs : List ℕ) (k : ℕ) → k < length hs → is_in hs (get_or hs k 0) ≡ true
is_in-at [] k inside = absurd (omega arith)
is_in-at (h ∷ hs) zero inside = ap (λ b. b || is_in hs h) (nat_eq_equiv.refl h)
is_in-at (h ∷ hs) (suc k) inside = ap (λ b. nat_eq (get_or hs k 0) h || b) (is_in-at hs k (omega arith)) ∙ or-true (nat_eq (get_or hs k 0) h)
  where
    or-true : (a : Bool) → (a || true) ≡ true
    or-true true = refl
    or-true false = refl

-- where one is not at its place, it is not there
pub not_in : (hs : List ℕ) (i y : ℕ) → IsFalling hs → ((k : ℕ) → k < i → y < get_or hs k 0) → ((k : ℕ) → i ≤ k → k < length hs → get_or hs k 0 < y) → is_in hs y ≡ false
not_in hs i y falling before behind =
    none_is hs y (λ k inside same. elim (cases_lt k i) [
      | inl below ↦ let more = before k below in omega (arith, same)
      | inr above ↦ let less = behind k above inside in omega (arith, same)
    ])

-- ## A removal

below-remove : (top : ℕ) (hs : List ℕ) (i : ℕ) → AreBelow top hs → AreBelow top (remove hs i)
below-remove top [] zero all = tt
below-remove top [] (suc i) all = tt
below-remove top (h ∷ hs) zero all = all.1
below-remove top (h ∷ hs) (suc i) all = (all.0, below-remove top hs i all.1)

pub falling-remove : (hs : List ℕ) (i : ℕ) → IsFalling hs → IsFalling (remove hs i)
falling-remove [] zero falling = tt
falling-remove [] (suc i) falling = tt
falling-remove (h ∷ hs) zero falling = falling.1
falling-remove (h ∷ hs) (suc i) falling = (below-remove h hs i falling.0, falling-remove hs i falling.1)

below-none : (top : ℕ) (hs : List ℕ) → AreBelow top hs → is_in hs top ≡ false
below-none top hs all = none_is hs top (λ k inside same. let less = below-at top hs all k inside in omega (arith, same))

pub is_in-remove : (hs : List ℕ) (i other : ℕ) → i < length hs → IsFalling hs → is_in (remove hs i) other ≡ (not (nat_eq other (get_or hs i 0)) && is_in hs other)
is_in-remove [] i other inside falling = absurd (omega arith)
is_in-remove (h ∷ hs) zero other inside falling =
    by_eq other h (λ t. is_in hs other ≡ (not t && (t || is_in hs other))) (λ same. ap (is_in hs) same ∙ below-none h hs falling.0) (λ apart. refl)
is_in-remove (h ∷ hs) (suc i) other inside falling =
    let less : get_or hs i 0 < h = below-at h hs falling.0 i (omega arith) in
    ap (λ b. nat_eq other h || b) (is_in-remove hs i other (omega arith) falling.1)
    ∙ by_eq other h (λ t. (t || (not (nat_eq other (get_or hs i 0)) && is_in hs other)) ≡ (not (nat_eq other (get_or hs i 0)) && (t || is_in hs other)))
    (λ same. sym (ap (λ b. not b && true) (eq-other other (get_or hs i 0) (λ e. omega (arith, e, same)))))
    (λ apart. refl)

-- ## The least

pub last_is_least : (hs : List ℕ) → IsFalling hs → (other : ℕ) → other < get_or hs (length hs - 1) 0 → is_in hs other ≡ false
last_is_least hs falling other less =
    none_is hs other (λ k inside same. elim (cases_lt k (length hs - 1)) [
      | inl below ↦ let more = falling-at hs falling k (length hs - 1) below (omega arith) in omega (arith, same)
      | inr above ↦ let at : k ≡ length hs - 1 = omega arith in let here = ap (λ n. get_or hs n 0) at in omega (arith, same, here)
    ])

-- the last is there
pub is_in-last : (hs : List ℕ) → 0 < length hs → is_in hs (get_or hs (length hs - 1) 0) ≡ true
is_in-last hs some = is_in-at hs (length hs - 1) (omega arith)

-- ## Where one would be

-- those from its place on are below one that is not there
pub behind_place : (hs : List ℕ) (i y : ℕ) → IsFalling hs → ((k : ℕ) → i ≤ k → k < length hs → get_or hs k 0 ≤ y) → get_or hs i 0 ≢ y → (k : ℕ) → i ≤ k → k < length hs → get_or hs k 0 < y
behind_place hs i y falling behind apart k more inside =
    elim (cases_lt i k) [
      | inl less ↦ let lower = falling-at hs falling i k less inside in let first = behind i (omega arith) (omega arith) in omega (arith, lower, first)
      | inr same ↦
          let at : k ≡ i = omega arith in
          let here = ap (λ n. get_or hs n 0) at in
          let first = behind k more inside in
          elim (cases_lt (get_or hs k 0) y) [
            | inl below ↦ below
            | inr above ↦ absurd (apart (sym here ∙ omega (arith, first, above)))
          ]
    ]

-- one that is there is there once more
pub is_in-again : (hs : List ℕ) (handle other : ℕ) → is_in hs handle ≡ true → is_in hs other ≡ (nat_eq other handle || is_in hs other)
is_in-again hs handle other there =
    by_eq other handle (λ t. is_in hs other ≡ (t || is_in hs other)) (λ same. ap (is_in hs) same ∙ there) (λ apart. refl)

-- one that is not there is not there without it
pub is_in-still : (hs : List ℕ) (handle other : ℕ) → is_in hs handle ≡ false → is_in hs other ≡ (not (nat_eq other handle) && is_in hs other)
is_in-still hs handle other none =
    by_eq other handle (λ t. is_in hs other ≡ (not t && is_in hs other)) (λ same. ap (is_in hs) same ∙ none) (λ apart. refl)

-- one that is at a place is there
pub is_in_where : (hs : List ℕ) (k handle : ℕ) → k < length hs → get_or hs k 0 ≡ handle → is_in hs handle ≡ true
is_in_where hs k handle inside is = ap (is_in hs) (sym is) ∙ is_in-at hs k inside

-- ## Halves

-- all up to one that is above it are above it
pub before_more : (hs : List ℕ) (middle handle : ℕ) → IsFalling hs → middle < length hs → handle < get_or hs middle 0 → (k : ℕ) → k < middle + 1 → handle < get_or hs k 0
before_more hs middle handle falling inside above k less =
    elim (cases_lt k middle) [
      | inl below ↦ let more = falling-at hs falling k middle below inside in omega (arith, more, above)
      | inr same ↦ let at : k ≡ middle = omega arith in let here = ap (λ n. get_or hs n 0) at in omega (arith, here, above)
    ]

-- and all from one that is not above it are not
pub behind_more : (hs : List ℕ) (middle handle : ℕ) → IsFalling hs → get_or hs middle 0 ≤ handle → (k : ℕ) → middle ≤ k → k < length hs → get_or hs k 0 ≤ handle
behind_more hs middle handle falling below k more inside =
    elim (cases_lt middle k) [
      | inl less ↦ let lower = falling-at hs falling middle k less inside in omega (arith, lower, below)
      | inr same ↦ let at : k ≡ middle = omega arith in let here = ap (λ n. get_or hs n 0) at in omega (arith, here, below)
    ]
