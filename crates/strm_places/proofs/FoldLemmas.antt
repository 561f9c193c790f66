-- What a guest gives up as it ends, one number after the other: each piece frees one handle, and leaves what all other
-- numbers stand for. So the guest has no end once its ends are given up, and nothing once all is.
use Rattle.std.proofs.Common.{◌≡◌, ◌≢◌, ℕ, zero, suc, ◌+◌, ◌<◌, ◌≤◌, Bool, true, false, cond, List, [], ◌∷◌, length, get_or, Option, Some, None, Ok, Err, refl, sym, ap, subst, ◌∙◌, inl, inr, arith, add-one}
use Rattle.std.specs.Prelude.{◌⊎◌, ◌==◌, is_ok, sum_by}
use Rattle.std.proofs.lemmas.Bool.{cond_both, cases_eq, cases_lt, eq-eqb}
use Rattle.std.proofs.lemmas.List.{get_or_past, get_or-set_same, length-set, get_or-set_other}
use Rattle.strm_handles.specs.Handles.{Handles, entry_in, entry_at, removed, occupied_in, occupied}
use Rattle.strm_handles.specs.Lookups.{end_rep_in}
use Rattle.strm_handles.specs.declared.entries.Entry.{Entry}
use Rattle.strm_handles.specs.declared.entries.Entry.TheVariants as entries
use Rattle.strm_handles.proofs.HandleLemmas.{length-entries_with, entry_at-removed-same, entry_at-removed-other}
use Rattle.strm_waitable_sets.specs.Sets.{Sets, handle_left, without_set}
use Rattle.strm_machine.specs.State.{State, Guest, no_guest, guest_in, sets_in, with_table}
use Rattle.strm_machine.specs.Tests.{Name, end_named, side_of}
use Rattle.strm_machine.specs.WaitableSets.{set_named, number_named}
use Rattle.strm_machine.specs.declared.streams.Side.{Side}
use Rattle.strm_machine.proofs.TableLemmas.{handles-with_same}
use Rattle.strm_places.specs.Lives.{with_none_pending, end_given_up, ends_given_up, rest_given_up, all_given_up, numbers_given, handles_given_up, left_over, emptied, ended, HasNoEnd, is_made_by_steps, HasOnlyMade}

-- ## One number more

pub ends_given_up-none : (state : State) (g : ℕ) → ends_given_up state g 0 ≡ state
unfolding ends_given_up
ends_given_up-none state g = refl

pub ends_given_up-more : (state : State) (g n : ℕ) → ends_given_up state g (n + 1) ≡ end_given_up (ends_given_up state g n) g (n + 1) (end_named (ends_given_up state g n) g (n + 1))
unfolding ends_given_up
ends_given_up-more state g n = ap (ends_given_up state g) (add-one n)

pub all_given_up-none : (state : State) (g : ℕ) → all_given_up state g 0 ≡ state
unfolding all_given_up
all_given_up-none state g = refl

pub all_given_up-more : (state : State) (g n : ℕ) → all_given_up state g (n + 1) ≡ rest_given_up (all_given_up state g n) g (n + 1) (entry_at (guest_in (all_given_up state g n).guests g).handles (n + 1))
unfolding all_given_up
all_given_up-more state g n = ap (all_given_up state g) (add-one n)

-- ## What numbers stand for

-- a cancel leaves guests as they are
pub pending-guests : (state : State) (s : ℕ) (side : Side) → (with_none_pending state s side).guests ≡ state.guests
pending-guests state s side = cond_both _ _ _ (λ (after : State). after.guests ≡ state.guests) (λ e. refl) (λ e. refl)

-- what a number of a guest's table stands for
abbrev entry_of : List Guest → ℕ → ℕ → Option Entry
entry_of guests g n = entry_at (guest_in guests g).handles n

-- there are as many guests, and numbers of one's table, and each number stands for what it stood for, or for nothing
pub record HandlesLeft (g : ℕ) (old new : List Guest) : Type 0 where
  pub guests : length new ≡ length old
  pub numbers : length (guest_in new g).handles.entries ≡ length (guest_in old g).handles.entries
  pub each : (k : ℕ) → (entry_of new g k ≡ entry_of old g k) ⊎ (entry_of new g k ≡ None)

-- the same, and all numbers but one stand for what they stood for
record FreesAt (g handle : ℕ) (old new : List Guest) : Type 0 where
  left : HandlesLeft g old new
  others : (k : ℕ) → k ≢ handle → entry_of new g k ≡ entry_of old g k

stays : (g : ℕ) (guests : List Guest) → HandlesLeft g guests guests
stays g guests = record { guests = refl; numbers = refl; each = λ k. inl refl }

stays-at : (g handle : ℕ) (guests : List Guest) → FreesAt g handle guests guests
stays-at g handle guests = record { left = stays g guests; others = λ k ne. refl }

then-left : (g : ℕ) (a b c : List Guest) → HandlesLeft g a b → HandlesLeft g b c → HandlesLeft g a c
then-left g a b c h j = record {
  guests = j.guests ∙ h.guests;
  numbers = j.numbers ∙ h.numbers;
  each = λ k. by k (h.each k) (j.each k);
}
  where
    by : (k : ℕ) → (entry_of b g k ≡ entry_of a g k) ⊎ (entry_of b g k ≡ None) → (entry_of c g k ≡ entry_of b g k) ⊎ (entry_of c g k ≡ None) → (entry_of c g k ≡ entry_of a g k) ⊎ (entry_of c g k ≡ None)
    by k h (inr none) = inr none
    by k (inl e) (inl f) = inl (f ∙ e)
    by k (inr e) (inl f) = inr (f ∙ e)

module _ (guests : List Guest) (g handle : ℕ) (sets : Sets) (l : g < length guests) where
  abbrev table : Handles
  table = (guest_in guests g).handles

  abbrev freed : List Guest
  freed = with_table guests g (removed table handle) sets

  same : (guest_in freed g).handles ≡ removed table handle
  same = handles-with_same guests g (removed table handle) sets l

  -- a handle that is freed stands for nothing
  frees-here : entry_of freed g handle ≡ None
  frees-here = ap (λ (h : Handles). entry_at h handle) same ∙ entry_at-removed-same table handle

  frees-other : (k : ℕ) → k ≢ handle → entry_of freed g k ≡ entry_of guests g k
  frees-other k ne = ap (λ (h : Handles). entry_at h k) same ∙ entry_at-removed-other table handle k ne

  frees : FreesAt g handle guests freed
  frees = record {
    left = record {
      guests = length-set guests g (record (guest_in guests g) { handles = removed table handle; sets = sets });
      numbers = ap (λ (h : Handles). length h.entries) same ∙ length-entries_with table.entries handle None;
      each = λ k. by k (cases_eq k handle);
    };
    others = frees-other;
  }
    where
      by : (k : ℕ) → (k ≡ handle) ⊎ (k ≢ handle) → (entry_of freed g k ≡ entry_of guests g k) ⊎ (entry_of freed g k ≡ None)
      by k (inl e) = inr (ap (entry_of freed g) e ∙ frees-here)
      by k (inr ne) = inl (frees-other k ne)

-- ## Which numbers are given up

-- no number of a guest's table up to n stands for what is tested for
abbrev NoneUpTo : (Option Entry → Bool) → ℕ → ℕ → List Guest → Type 0
NoneUpTo is g n guests = (k : ℕ) → k ≤ n → is (entry_of guests g k) ≡ false

none-zero : (is : Option Entry → Bool) → is None ≡ false → (guests : List Guest) (g : ℕ) → NoneUpTo is g 0 guests
none-zero is none guests g zero l = none
none-zero is none guests g (suc k) l = absurd (omega (arith, l))

none-more : (is : Option Entry → Bool) (g n : ℕ) (old new : List Guest) → FreesAt g (n + 1) old new → is (entry_of new g (n + 1)) ≡ false → NoneUpTo is g n old → NoneUpTo is g (suc n) new
none-more is g n old new f here below k l = by (cases_eq k (n + 1))
  where
    by : (k ≡ n + 1) ⊎ (k ≢ n + 1) → is (entry_of new g k) ≡ false
    by (inl e) = subst (λ i. is (entry_of new g i) ≡ false) (sym e) here
    by (inr ne) = ap is (f.others k ne) ∙ below k (omega (arith, l, ne))

-- a number past the last stands for nothing
past-none : (es : List (Option Entry)) (n : ℕ) → length es < n → entry_in es n ≡ None
past-none es zero l = absurd (omega (arith, l))
past-none es (suc i) l = get_or_past es i None (omega (arith, l))

-- so none of all numbers does, where none up to the last does
none-at_all : (is : Option Entry → Bool) → is None ≡ false → (guests : List Guest) (g n : ℕ) → length (guest_in guests g).handles.entries ≡ n → NoneUpTo is g n guests → (k : ℕ) → is (entry_of guests g k) ≡ false
none-at_all is none guests g n count below k = by (cases_lt n k)
  where
    by : (n < k) ⊎ (k ≤ n) → is (entry_of guests g k) ≡ false
    by (inl l) = ap is (past-none (guest_in guests g).handles.entries k (omega (arith, l, count))) ∙ none
    by (inr l) = below k l

-- what is so of each number stays so, where it is so of nothing too
each-left : (is : Option Entry → Bool) (b : Bool) → is None ≡ b → (g : ℕ) (old new : List Guest) → HandlesLeft g old new → ((k : ℕ) → is (entry_of old g k) ≡ b) → (k : ℕ) → is (entry_of new g k) ≡ b
each-left is b none g old new h was k = by (h.each k)
  where
    by : (entry_of new g k ≡ entry_of old g k) ⊎ (entry_of new g k ≡ None) → is (entry_of new g k) ≡ b
    by (inl e) = ap is e ∙ was k
    by (inr e) = ap is e ∙ none

-- ## Ends

-- it stands for an end
abbrev is_of_end : Option Entry → Bool
is_of_end o = is_ok (end_rep_in o)

record GivesEnd (g handle : ℕ) (old new : List Guest) : Type 0 where
  frees : FreesAt g handle old new
  none : is_of_end (entry_of new g handle) ≡ false

end-gives : (state : State) (g handle : ℕ) (name : Name) → g < length state.guests → end_named state g handle ≡ name → GivesEnd g handle state.guests (end_given_up state g handle name).guests
end-gives state g handle (Err error) l e = record { frees = stays-at g handle state.guests; none = ap is_ok e }
end-gives state g handle (Ok answer) l e =
    let side = side_of answer.1 in
    let idle = with_none_pending state answer.0 side in
    let after = (end_given_up state g handle (Ok answer)).guests in
    let same = pending-guests state answer.0 side in
    let there : g < length idle.guests = subst (λ (gs : List Guest). g < length gs) (sym same) l in
    let sets = handle_left (sets_in idle.guests g) handle in
    record {
      frees = subst (λ (gs : List Guest). FreesAt g handle gs after) same (frees idle.guests g handle sets there);
      none = ap is_of_end (frees-here idle.guests g handle sets there);
    }

-- of the ends under the first so many numbers
pub record EndsLeft (state : State) (g n : ℕ) : Type 0 where
  pub left : HandlesLeft g state.guests (ends_given_up state g n).guests
  pub none : (handle : ℕ) → handle ≤ n → is_ok (end_named (ends_given_up state g n) g handle) ≡ false

pub ends-left : (state : State) (g n : ℕ) → g < length state.guests → EndsLeft state g n
unfolding ends_given_up
ends-left state g zero l = record { left = stays g state.guests; none = none-zero is_of_end refl state.guests g }
ends-left state g (suc n) l =
    let before = ends_given_up state g n in
    let h = ends-left state g n l in
    let there : g < length before.guests = omega (arith, l, h.left.guests) in
    let after = (end_given_up before g (n + 1) (end_named before g (n + 1))).guests in
    let gives = end-gives before g (n + 1) (end_named before g (n + 1)) there refl in
    record {
      left = then-left g state.guests before.guests after h.left gives.frees.left;
      none = none-more is_of_end g n before.guests after gives.frees gives.none h.none;
    }

-- a guest has no end once all of its table are given up
pub ends-none : (state : State) (g n : ℕ) → g < length state.guests → n ≡ numbers_given state g → HasNoEnd (ends_given_up state g n) g
ends-none state g n l all =
    let h = ends-left state g n l in
    none-at_all is_of_end refl (ends_given_up state g n).guests g n (h.left.numbers ∙ sym all) h.none

-- ## Sets and error contexts

-- it stands for a set or an error context
abbrev is_of_rest : Option Entry → Bool
is_of_rest (Some (entries.WaitableSet rep)) = true
is_of_rest (Some (entries.ErrorContext rep)) = true
is_of_rest _ = false

record GivesRest (g handle : ℕ) (old new : List Guest) : Type 0 where
  frees : FreesAt g handle old new
  none : is_of_rest (entry_of new g handle) ≡ false

rest-gives : (state : State) (g handle : ℕ) (o : Option Entry) → g < length state.guests → entry_of state.guests g handle ≡ o → GivesRest g handle state.guests (rest_given_up state g handle o).guests
rest-gives state g handle None l e = record { frees = stays-at g handle state.guests; none = ap is_of_rest e }
rest-gives state g handle (Some (entries.WaitableSet rep)) l e =
    let sets = without_set (sets_in state.guests g) (number_named (set_named state g handle)) in
    record { frees = frees state.guests g handle sets l; none = ap is_of_rest (frees-here state.guests g handle sets l) }
rest-gives state g handle (Some (entries.ErrorContext rep)) l e =
    let sets = sets_in state.guests g in
    record { frees = frees state.guests g handle sets l; none = ap is_of_rest (frees-here state.guests g handle sets l) }
rest-gives state g handle (Some (entries.Stream end)) l e = record { frees = stays-at g handle state.guests; none = ap is_of_rest e }
rest-gives state g handle (Some (entries.Future end)) l e = record { frees = stays-at g handle state.guests; none = ap is_of_rest e }
rest-gives state g handle (Some (entries.ResourceOwn resource lends)) l e = record { frees = stays-at g handle state.guests; none = ap is_of_rest e }
rest-gives state g handle (Some (entries.ResourceBorrow resource scope)) l e = record { frees = stays-at g handle state.guests; none = ap is_of_rest e }
rest-gives state g handle (Some (entries.Subtask rep is_host)) l e = record { frees = stays-at g handle state.guests; none = ap is_of_rest e }

-- of those under the first so many numbers
pub record RestLeft (state : State) (g n : ℕ) : Type 0 where
  pub left : HandlesLeft g state.guests (all_given_up state g n).guests
  none : NoneUpTo is_of_rest g n (all_given_up state g n).guests

pub rest-left : (state : State) (g n : ℕ) → g < length state.guests → RestLeft state g n
unfolding all_given_up
rest-left state g zero l = record { left = stays g state.guests; none = none-zero is_of_rest refl state.guests g }
rest-left state g (suc n) l =
    let before = all_given_up state g n in
    let h = rest-left state g n l in
    let there : g < length before.guests = omega (arith, l, h.left.guests) in
    let after = (rest_given_up before g (n + 1) (entry_of before.guests g (n + 1))).guests in
    let gives = rest-gives before g (n + 1) (entry_of before.guests g (n + 1)) there refl in
    record {
      left = then-left g state.guests before.guests after h.left gives.frees.left;
      none = none-more is_of_rest g n before.guests after gives.frees gives.none h.none;
    }

-- a guest without ends stays one
pub rest-none : (state : State) (g n : ℕ) → g < length state.guests → HasNoEnd state g → HasNoEnd (all_given_up state g n) g
rest-none state g n l none =
    each-left is_of_end false refl g state.guests (all_given_up state g n).guests (rest-left state g n l).left none

-- ## All

-- there are as many guests, and the guest has no end
pub record HandlesGone (state new : State) (g : ℕ) : Type 0 where
  pub guests : length new.guests ≡ length state.guests
  pub none : HasNoEnd new g

pub handles-gone : (state : State) (g : ℕ) → g < length state.guests → HandlesGone state (handles_given_up state g) g
handles-gone state g l =
    let count = numbers_given state g in
    let mid = ends_given_up state g count in
    let ends = (ends-left state g count l).left in
    let there : g < length mid.guests = omega (arith, l, ends.guests) in
    record {
      guests = (rest-left mid g count there).left.guests ∙ ends.guests;
      none = rest-none mid g count there (ends-none state g count l refl);
    }

-- what is left of a guest has no end either
left-none : (was : Guest) → ((handle : ℕ) → is_of_end (entry_at was.handles handle) ≡ false) → (handle : ℕ) → is_of_end (entry_at (left_over was).handles handle) ≡ false
left-none was none handle =
    cond_both (occupied was.handles == 0) no_guest (record was { memory = []; base = None }) (λ (y : Guest). is_of_end (entry_at y.handles handle) ≡ false)
    (λ e. ap is_of_end (nothing handle)) (λ e. none handle)
  where
    nothing : (n : ℕ) → entry_at no_guest.handles n ≡ None
    nothing zero = refl
    nothing (suc n) = refl

-- the guest of that number
emptied-here : (state : State) (g : ℕ) → g < length state.guests → guest_in (emptied state g).guests g ≡ left_over (guest_in state.guests g)
emptied-here state g l = get_or-set_same state.guests g (left_over (guest_in state.guests g)) no_guest l

pub ended-gone : (state : State) (g : ℕ) → g < length state.guests → HandlesGone state (ended state g) g
ended-gone state g l =
    let mid = handles_given_up state g in
    let h = handles-gone state g l in
    let there : g < length mid.guests = omega (arith, l, h.guests) in
    record {
      guests = length-set mid.guests g (left_over (guest_in mid.guests g)) ∙ h.guests;
      none = λ handle.
          ap (λ (y : Guest). is_of_end (entry_at y.handles handle)) (emptied-here mid g there)
          ∙ left-none (guest_in mid.guests g) h.none handle;
    }

-- ## Other guests

end-others : (state : State) (g handle : ℕ) (name : Name) (k : ℕ) → k ≢ g → guest_in (end_given_up state g handle name).guests k ≡ guest_in state.guests k
end-others state g handle (Err error) k ne = refl
end-others state g handle (Ok answer) k ne =
    let idle = with_none_pending state answer.0 (side_of answer.1) in
    get_or-set_other idle.guests g k _ no_guest ne ∙ ap (λ (gs : List Guest). guest_in gs k) (pending-guests state answer.0 (side_of answer.1))

ends-others : (state : State) (g n k : ℕ) → k ≢ g → guest_in (ends_given_up state g n).guests k ≡ guest_in state.guests k
unfolding ends_given_up
ends-others state g zero k ne = refl
ends-others state g (suc n) k ne = end-others (ends_given_up state g n) g (n + 1) _ k ne ∙ ends-others state g n k ne

rest-others : (state : State) (g handle : ℕ) (o : Option Entry) (k : ℕ) → k ≢ g → guest_in (rest_given_up state g handle o).guests k ≡ guest_in state.guests k
rest-others state g handle None k ne = refl
rest-others state g handle (Some (entries.WaitableSet rep)) k ne = get_or-set_other state.guests g k _ no_guest ne
rest-others state g handle (Some (entries.ErrorContext rep)) k ne = get_or-set_other state.guests g k _ no_guest ne
rest-others state g handle (Some (entries.Stream end)) k ne = refl
rest-others state g handle (Some (entries.Future end)) k ne = refl
rest-others state g handle (Some (entries.ResourceOwn resource lends)) k ne = refl
rest-others state g handle (Some (entries.ResourceBorrow resource scope)) k ne = refl
rest-others state g handle (Some (entries.Subtask rep is_host)) k ne = refl

all-others : (state : State) (g n k : ℕ) → k ≢ g → guest_in (all_given_up state g n).guests k ≡ guest_in state.guests k
unfolding all_given_up
all-others state g zero k ne = refl
all-others state g (suc n) k ne = rest-others (all_given_up state g n) g (n + 1) _ k ne ∙ all-others state g n k ne

-- each is as it was
pub ended-others : (state : State) (g k : ℕ) → k ≢ g → guest_in (ended state g).guests k ≡ guest_in state.guests k
ended-others state g k ne =
    get_or-set_other (handles_given_up state g).guests g k _ no_guest ne
    ∙ all-others (ends_given_up state g (numbers_given state g)) g (numbers_given state g) k ne
    ∙ ends-others state g (numbers_given state g) k ne

-- ## A guest that has nothing

-- what is made by steps is an end, a set or an error context
made-none : (o : Option Entry) → is_made_by_steps o ≡ true → is_of_end o ≡ false → is_of_rest o ≡ false → o ≡ None
made-none None a b c = refl
made-none (Some (entries.WaitableSet rep)) a b c = cc
made-none (Some (entries.ErrorContext rep)) a b c = cc
made-none (Some (entries.Stream end)) a b c = cc
made-none (Some (entries.Future end)) a b c = cc
made-none (Some (entries.ResourceOwn resource lends)) a b c = cc
made-none (Some (entries.ResourceBorrow resource scope)) a b c = cc
made-none (Some (entries.Subtask rep is_host)) a b c = cc

none-occupied : (es : List (Option Entry)) → ((i : ℕ) → get_or es i None ≡ None) → sum_by occupied_in es ≡ 0
none-occupied [] none = refl
none-occupied (None ∷ es) none = none-occupied es (λ i. none (suc i))
none-occupied (Some x ∷ es) none = let wrong : Some x ≡ None = none zero in cc

left-nothing : (was : Guest) → ((handle : ℕ) → entry_at was.handles handle ≡ None) → left_over was ≡ no_guest
left-nothing was none =
    let vacant : occupied was.handles ≡ 0 = none-occupied was.handles.entries (λ i. none (suc i)) in
    ap (λ (b : Bool). cond b no_guest (record was { memory = []; base = None })) (eq-eqb (occupied was.handles) 0 vacant)

-- one whose table had only what steps make
pub ended-nothing : (state : State) (g : ℕ) → g < length state.guests → HasOnlyMade state g → guest_in (ended state g).guests g ≡ no_guest
ended-nothing state g l made =
    let count = numbers_given state g in
    let mid = ends_given_up state g count in
    let last = all_given_up mid g count in
    let ends = ends-left state g count l in
    let there : g < length mid.guests = omega (arith, l, ends.left.guests) in
    let rest = rest-left mid g count there in
    let still : g < length last.guests = omega (arith, there, rest.left.guests) in
    let all = then-left g state.guests mid.guests last.guests ends.left rest.left in
    let none = λ (k : ℕ). made-none (entry_of last.guests g k)
    (each-left is_made_by_steps true refl g state.guests last.guests all made k)
    (rest-none mid g count there (ends-none state g count l refl) k)
    (none-at_all is_of_rest refl last.guests g count all.numbers rest.none k) in
    emptied-here last g still ∙ left-nothing (guest_in last.guests g) none
