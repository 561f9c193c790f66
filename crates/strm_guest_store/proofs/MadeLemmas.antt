-- The tables of a store among guests hold only what steps make: ends, waitable sets and error contexts. Every step keeps
-- that, and so does the lowering of an error context.
use Rattle.std.proofs.Common.{◌≡◌, ℕ, zero, suc, true, List, [], ◌∷◌, ◌++◌, length, get_or, set, Option, Some, None, refl, sym, subst}
use Rattle.std.proofs.lemmas.Bool.{cond_both}
use Rattle.strm_codes.specs.declared.codes.TransmitIndex.{TransmitIndex}
use Rattle.strm_codes.specs.declared.codes.TransmitIndex.TheVariants as index
use Rattle.strm_codes.specs.declared.refusals.Refusal.{Refusal}
use Rattle.strm_error_contexts.specs.Contexts.{next_number}
use Rattle.strm_handles.specs.Handles.{Handles, no_handles, entry_in, entry_at, entries_with, inserted, inserted_in, removed}
use Rattle.strm_handles.specs.declared.entries.Entry.{Entry}
use Rattle.strm_handles.specs.declared.entries.Entry.TheVariants as entries
use Rattle.strm_waitable_sets.specs.Sets.{Sets, least_free, with_new_set, handle_left, without_set}
use Rattle.strm_machine.specs.State.{State, Guest, no_guest, guest_in, sets_in, with_memory, with_table}
use Rattle.strm_machine.specs.ErrorContexts.{context_number}
use Rattle.strm_machine.specs.Making.{read_entry, write_entry, end_entry, with_read_end, with_ends, with_stream}
use Rattle.strm_machine.specs.Moves.{without_handle}
use Rattle.strm_machine.specs.Reactions.{Reaction, polls, shares_unless, performs, reaction, lowers_context}
use Rattle.strm_machine.specs.Refusals.{first_of, lower_context_reasons}
use Rattle.strm_machine.specs.Tests.{named, stream_named, side_named}
use Rattle.strm_machine.specs.WaitableSets.{set_named, number_named, ready_in}
use Rattle.strm_machine.specs.declared.acts.Act.{Act}
use Rattle.strm_machine.specs.declared.acts.Act.TheVariants.{Make, OnEnd, Transfer, OnLoose, OnHost, Drive, Event, OnSet, OnContext, OnMemory}
use Rattle.strm_machine.specs.declared.acts.ContextAct.TheVariants as context_acts
use Rattle.strm_machine.specs.declared.acts.EndAct.TheVariants.{Operate, Drop, Cancel, Lift}
use Rattle.strm_machine.specs.declared.acts.LooseAct.TheVariants.{Lower, Close}
use Rattle.strm_machine.specs.declared.acts.Making.TheVariants.{Guest as AGuest, Between, Set, Context}
use Rattle.strm_machine.specs.declared.acts.MemoryAct.TheVariants.{Poke, Dump}
use Rattle.strm_machine.specs.declared.acts.NamedEnd.{NamedEnd}
use Rattle.strm_machine.specs.declared.acts.SetAct.TheVariants as set_acts
use Rattle.strm_machine.specs.declared.streams.Side.{Side}
use Rattle.strm_machine.specs.declared.streams.Side.TheVariants.{Writing, Reading}
use Rattle.strm_machine.proofs.ReactionLemmas.{reaction-by}
use Rattle.strm_machine.proofs.TableLemmas.{at_push}
use Rattle.strm_places.specs.Again.{with_pair_at, reaction_at}
use Rattle.strm_places.specs.Lives.{is_made_by_steps}
use Rattle.strm_places.proofs.AgainLemmas.{performs_at-by, reaction_at-by}
use Rattle.strm_guest_store.proofs.TableGains.{table, operated-table}

-- what holds at each place of a list still does where one place was set
set_at : {A : Type 0} (P : A → Type 0) (xs : List A) (n : ℕ) (x d : A) → P x → ((k : ℕ) → P (get_or xs k d)) → (k : ℕ) → P (get_or (set xs n x) k d)
set_at P [] zero x d one all k = all k
set_at P [] (suc n) x d one all k = all k
set_at P (y ∷ ys) zero x d one all zero = one
set_at P (y ∷ ys) zero x d one all (suc k) = all (suc k)
set_at P (y ∷ ys) (suc n) x d one all zero = all zero
set_at P (y ∷ ys) (suc n) x d one all (suc k) = set_at P ys n x d one (λ j. all (suc j)) k

-- ## A table

-- what a number stands for is made by steps
abbrev Made : Option Entry → Type 0
Made o = is_made_by_steps o ≡ true

-- the same of each of these entries
abbrev Each : List (Option Entry) → Type 0
Each es = (n : ℕ) → Made (entry_in es n)

-- the same of each number of a table
abbrev pub IsMade : Handles → Type 0
IsMade h = (n : ℕ) → Made (entry_at h n)

with_entry-made : (es : List (Option Entry)) (n : ℕ) (x : Option Entry) → Made x → Each es → Each (entries_with es n x)
with_entry-made es zero x one all k = all k
with_entry-made es (suc i) x one all zero = refl
with_entry-made es (suc i) x one all (suc j) = set_at Made es i x None one (λ k. all (suc k)) j

push-made : (es : List (Option Entry)) (x : Option Entry) → Made x → Each es → Each (es ++ x ∷ [])
push-made es x one all zero = refl
push-made es x one all (suc j) = at_push es x None j Made (λ e. one) (λ ne. all (suc j))

inserted_in-made : (es : List (Option Entry)) (freed : List ℕ) (x : Entry) → Made (Some x) → Each es → IsMade (inserted_in es freed x)
inserted_in-made es [] x one all = push-made es (Some x) one all
inserted_in-made es (n ∷ ns) x one all = with_entry-made es n (Some x) one all

inserted-made : (h : Handles) (x : Entry) → Made (Some x) → IsMade h → IsMade (inserted h x)
inserted-made h x one all = inserted_in-made h.entries h.freed x one all

removed-made : (h : Handles) (n : ℕ) → IsMade h → IsMade (removed h n)
removed-made h n all = with_entry-made h.entries n None refl all

-- one without handles
pub none-made : IsMade no_handles
none-made zero = refl
none-made (suc n) = refl

-- an end's handle, whichever end it is
end-made : (side : Side) (ty : TransmitIndex) (s : ℕ) → Made (Some (end_entry side ty s))
end-made Writing (index.Stream payload) s = refl
end-made Writing (index.Future payload) s = refl
end-made Reading (index.Stream payload) s = refl
end-made Reading (index.Future payload) s = refl

-- ## The tables of all guests

-- each holds only what steps make
abbrev pub AreMade : List Guest → Type 0
AreMade guests = (g : ℕ) → IsMade (table guests g)

-- one guest more, another in the place of one, and guests of the same tables
pub added-made : (guests : List Guest) (x : Guest) → IsMade x.handles → AreMade guests → AreMade (guests ++ x ∷ [])
added-made guests x one all g = at_push guests x no_guest g (λ (y : Guest). IsMade y.handles) (λ e. one) (λ ne. all g)

pub replaced-made : (guests : List Guest) (g : ℕ) (x : Guest) → IsMade x.handles → AreMade guests → AreMade (set guests g x)
replaced-made guests g x one all = set_at (λ (y : Guest). IsMade y.handles) guests g x no_guest one all

pub same-made : (guests others : List Guest) → ((g : ℕ) → table others g ≡ table guests g) → AreMade guests → AreMade others
same-made guests others same all g = subst IsMade (sym (same g)) (all g)

module _ (guests : List Guest) (all : AreMade guests) where
  -- a handle of one that is freed, and one more
  freed : (g handle : ℕ) (sets : Sets) → AreMade (with_table guests g (removed (table guests g) handle) sets)
  freed g handle sets =
      replaced-made guests g (record (guest_in guests g) { handles = removed (table guests g) handle; sets = sets })
      (removed-made (table guests g) handle (all g)) all

  given : (g : ℕ) (x : Entry) (sets : Sets) → Made (Some x) → AreMade (with_table guests g (inserted (table guests g) x) sets)
  given g x sets one =
      replaced-made guests g (record (guest_in guests g) { handles = inserted (table guests g) x; sets = sets })
      (inserted-made (table guests g) x one (all g)) all

  -- another memory
  memory-made : (g : ℕ) (memory : List ℕ) → AreMade (with_memory guests g memory)
  memory-made g memory = replaced-made guests g (record (guest_in guests g) { memory = memory }) (all g) all

-- the two ends of a stream that is made
ends-made : (guests : List Guest) (writer reader : ℕ) (ty : TransmitIndex) (s : ℕ) → AreMade guests → AreMade (with_ends guests writer reader ty s)
ends-made guests writer reader ty s all =
    let held = with_read_end guests reader ty s in
    given held (given guests all reader (read_entry ty s) (sets_in guests reader) (end-made Reading ty s))
    writer (write_entry ty s) (sets_in held writer) (end-made Writing ty s)

-- ## Every step

module _ (state : State) (all : AreMade state.guests) where
  abbrev After : Reaction → Type 0
  After r = AreMade r.state.guests

  abbrev sets_of : ℕ → Sets
  sets_of g = sets_in state.guests g

  -- an end's handle that is freed, and leaves its set
  end_freed : (end : NamedEnd) → AreMade (without_handle state end.guest end.handle).guests
  end_freed end = freed state.guests all end.guest end.handle (handle_left (sets_of end.guest) end.handle)

  polls-made : (g : ℕ) (o : Option ℕ) → After (polls state g o)
  polls-made g None = all
  polls-made g (Some handle) = all

  performs-made : (act : Act) → After (performs state act)
  unfolding performs with_stream
  performs-made (Make (AGuest size)) = added-made state.guests _ none-made all
  performs-made (Make (Between writer reader ty)) = ends-made state.guests writer reader ty (length state.streams) all
  performs-made (Make (Set g)) = given state.guests all g (entries.WaitableSet (least_free (sets_of g))) (with_new_set (sets_of g)) refl
  performs-made (Make (Context g address len)) = given state.guests all g (entries.ErrorContext (next_number state.contexts)) (sets_of g) refl
  performs-made (OnEnd side end (Operate address count)) =
      same-made state.guests _ (operated-table state side end address count) all
  performs-made (OnEnd side end Drop) = end_freed end
  performs-made (OnEnd side end Cancel) = all
  performs-made (OnEnd side end Lift) = end_freed end
  performs-made (Transfer end to) =
      let held = (without_handle state end.guest end.handle).guests in
      let side = side_named (named state end) in
      let s = stream_named (named state end) in
      given held (end_freed end) to (end_entry side end.ty s) (sets_in held to) (end-made side end.ty s)
  performs-made (OnLoose reader (Lower g ty)) =
      given state.guests all g (end_entry Reading ty reader) (sets_of g) (end-made Reading ty reader)
  performs-made (OnLoose reader Close) = all
  performs-made (OnHost host act) = all
  performs-made Drive = all
  performs-made (Event g handle) = all
  performs-made (OnSet g set (set_acts.Join handle)) = replaced-made state.guests g _ (all g) all
  performs-made (OnSet g set set_acts.Poll) = polls-made g (ready_in state g set)
  performs-made (OnSet g set set_acts.Drop) =
      freed state.guests all g set (without_set (sets_of g) (number_named (set_named state g set)))
  performs-made (OnContext g handle (context_acts.Text address)) = memory-made state.guests all g _
  performs-made (OnContext g handle (context_acts.Move to)) =
      given state.guests all to (entries.ErrorContext (context_number state g handle)) (sets_of to) refl
  performs-made (OnContext g handle context_acts.Drop) = freed state.guests all g handle (sets_of g)
  performs-made (OnMemory g (Poke address bytes)) = memory-made state.guests all g _
  performs-made (OnMemory g (Dump address len)) = all

  pub reaction-made : (act : Act) → After (reaction state act)
  reaction-made act = reaction-by After state act (λ t. all) (λ r e. all) (λ e. performs-made act)

  -- whichever number a stream that it makes gets
  in-made : (n writer reader : ℕ) (ty : TransmitIndex) → AreMade (with_pair_at state n writer reader ty).guests
  unfolding with_pair_at
  in-made n writer reader ty = ends-made state.guests writer reader ty n all

  pub making-made : (n : ℕ) (act : Act) → After (reaction_at n state act)
  making-made n act =
      reaction_at-by After n state act
      (record {
        trapped = λ t. all;
        refused = λ r t e. all;
        performed = λ t e. performs_at-by After n state act (λ writer reader ty is. in-made n writer reader ty) (performs-made act);
      })

  -- ## The lowering of an error context

  shared-made : (number g : ℕ) (o : Option Refusal) → After (shares_unless state number g o)
  shared-made number g (Some r) = all
  shared-made number g None = given state.guests all g (entries.ErrorContext number) (sets_of g) refl

  pub lowering-made : (number g : ℕ) → After (lowers_context state number g)
  unfolding lowers_context
  lowering-made number g =
      cond_both state.trapped _ _ After (λ t. all) (λ t. shared-made number g (first_of (lower_context_reasons state number g)))
