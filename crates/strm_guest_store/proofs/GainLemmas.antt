-- How many handles a guest has after a call: no more than it had, or than its limits allow.
use Rattle.std.proofs.Common.{◌≡◌, ◌≢◌, ℕ, ◌<◌, ◌≤◌, Bool, true, false, List, length, set, Option, Some, None, refl, sym, ap, ◌∙◌, subst, inl, inr, length-set, arith, Ok, Err}
use Rattle.std.specs.Prelude.{◌⊎◌, ◌&&◌, not, is_ok}
use Rattle.std.proofs.lemmas.Bool.Decides.{nat_tests, Decides-eqb}
use Rattle.std.proofs.lemmas.Bool.{cond_both, cases_eq, ne_eqb}
use Rattle.strm_handles.specs.Handles.{Handles, entry_at, inserted, removed}
use Rattle.strm_handles.specs.Lookups.{end_rep_in}
use Rattle.strm_handles.specs.declared.entries.Entry.TheVariants as entries
use Rattle.strm_handles.proofs.HandleLemmas.{given}
use Rattle.strm_handles.specs.declared.entries.Entry.{Entry}
use Rattle.strm_codes.specs.declared.codes.ReturnCode.{ReturnCode}
use Rattle.strm_codes.specs.declared.codes.TransmitIndex.{TransmitIndex}
use Rattle.strm_codes.specs.declared.codes.TransmitIndex.TheVariants as index
use Rattle.strm_machine.specs.State.{State, Guest, guest_in, sets_in, with_table}
use Rattle.strm_machine.specs.Acts.{act_of, end_named_by}
use Rattle.strm_error_contexts.specs.Contexts.{next_number}
use Rattle.strm_machine.specs.ErrorContexts.{context_number}
use Rattle.strm_machine.specs.Refusals.{refusal}
use Rattle.strm_machine.proofs.RefusalLemmas.{named_ok, move_fits}
use Rattle.strm_machine.specs.declared.steps.Step.{Step}
use Rattle.strm_machine.specs.declared.steps.Step.TheVariants as steps
use Rattle.strm_machine.specs.Making.{read_entry, write_entry, end_entry, with_read_end, with_ends, with_stream}
use Rattle.strm_machine.specs.Moves.{without_handle, handle_given}
use Rattle.strm_machine.specs.Reactions.{Reaction, on_end, on_set, texts, on_memory, performs}
use Rattle.strm_machine.specs.Tests.{named, named_by, stream_named, side_named, is_unknown_guest}
use Rattle.strm_machine.specs.declared.acts.EndAct.TheVariants.{Operate, Drop, Cancel, Lift}
use Rattle.strm_machine.specs.declared.acts.MemoryAct.TheVariants.{Poke, Dump}
use Rattle.strm_machine.specs.declared.acts.NamedEnd.{NamedEnd}
use Rattle.strm_machine.specs.declared.acts.SetAct.TheVariants as set_acts
use Rattle.strm_machine.specs.declared.streams.Side.{Side}
use Rattle.strm_machine.specs.declared.streams.Side.TheVariants.{Writing, Reading}
use Rattle.strm_machine.specs.declared.streams.Stream.{Stream}
use Rattle.strm_waitable_sets.specs.Sets.{Sets}
use Rattle.strm_machine.proofs.TableLemmas.{handles-more, handles-with_same, handles-with_other}
use Rattle.strm_waitable_sets.specs.Sets.{handle_left}
use Rattle.strm_guest_store.specs.declared.guest_limits.Gain.{Gain}
use Rattle.strm_guest_store.specs.declared.guest_limits.GuestLimits.{GuestLimits}
use Rattle.strm_guest_store.specs.Limits.{counts_in, limits_of, passes_limits, is_past, is_pair_past, is_move_past, is_step_past}
use Rattle.strm_guest_store.specs.declared.guest_limits.Gain.TheVariants.{Ends, Set, Context}
use Rattle.std.proofs.Common.{Result}
use Rattle.strm_codes.specs.declared.refusals.Refusal.{Refusal}
use Rattle.strm_machine.specs.Reactions.{react, shares_unless, lowers_context}
use Rattle.strm_machine.specs.Refusals.{first_of, lower_context_reasons}
use Rattle.strm_machine.specs.declared.acts.Act.{Act}
use Rattle.strm_machine.specs.declared.replies.Reply.{Reply}
use Rattle.strm_machine.specs.declared.replies.Reply.TheVariants as replies
use Rattle.strm_machine.proofs.ReactionLemmas.{reaction-by}
use Rattle.strm_places.specs.Again.{with_pair_at, performs_at, reaction_at, reacts_at}
use Rattle.strm_places.proofs.AgainLemmas.{reaction_at-by}
use Rattle.strm_transmit.specs.Meets.{Meets}
use Rattle.strm_transmit.specs.declared.errors.StoreError.{StoreError}
use Rattle.strm_transmit.proofs.AgainLemmas.{meets_leaves}
use Rattle.strm_codes.specs.declared.codes.ReturnCode.{ReturnCode}
use Rattle.strm_guest_store.specs.Operations.{MeetsOrTells}
use Rattle.strm_guest_store.specs.declared.operations.OperateError.{OperateError}
use Rattle.strm_guest_store.specs.declared.operations.OperateError.TheVariants as errors
use Rattle.strm_guest_store.proofs.TableGains.{NoMore, Fits, table, same, neither, inserted-no_more, with_table-by, end-one, keeps-no_more, end-fits, set-fits, context-fits, ends-no_more, replaced-no_more, freed, on_end-no_more, on_set-no_more, texts-no_more, on_memory-no_more, given-no_more}

-- ## By the tests of a state

-- where the guest is there, the test is that of its limits
test_of : (unknown past : Bool) → unknown ≡ false → (not unknown && past) ≡ false → past ≡ false
test_of false past u e = e
test_of true past u e = cc

-- a handle that is looked up as an end's stands for one
named-is_end : (ty : TransmitIndex) (h : Handles) (n : ℕ) (o : Option Entry) → entry_at h n ≡ o → is_ok (named_by ty h n) ≡ true → is_ok (end_rep_in o) ≡ true
named-is_end ty h n (Some (entries.Stream end)) e ok = refl
named-is_end ty h n (Some (entries.Future end)) e ok = refl
named-is_end (index.Stream payload) h n None e ok = rw e at ok
named-is_end (index.Future payload) h n None e ok = rw e at ok
named-is_end (index.Stream payload) h n (Some (entries.ResourceOwn resource lends)) e ok = rw e at ok
named-is_end (index.Future payload) h n (Some (entries.ResourceOwn resource lends)) e ok = rw e at ok
named-is_end (index.Stream payload) h n (Some (entries.ResourceBorrow resource scope)) e ok = rw e at ok
named-is_end (index.Future payload) h n (Some (entries.ResourceBorrow resource scope)) e ok = rw e at ok
named-is_end (index.Stream payload) h n (Some (entries.ErrorContext rep)) e ok = rw e at ok
named-is_end (index.Future payload) h n (Some (entries.ErrorContext rep)) e ok = rw e at ok
named-is_end (index.Stream payload) h n (Some (entries.Subtask rep is_host)) e ok = rw e at ok
named-is_end (index.Future payload) h n (Some (entries.Subtask rep is_host)) e ok = rw e at ok
named-is_end (index.Stream payload) h n (Some (entries.WaitableSet rep)) e ok = rw e at ok
named-is_end (index.Future payload) h n (Some (entries.WaitableSet rep)) e ok = rw e at ok

module _ (limits : List GuestLimits) (state : State) (g : ℕ) where
  abbrev mine : GuestLimits
  mine = limits_of limits g

  abbrev Kept : Handles → Type 0
  Kept h = NoMore mine (table state.guests g) h

  -- what was tested of a guest, if it is this one
  tested : (k : ℕ) (gain : Gain) → is_past state limits k gain ≡ false → g ≡ k → k < length state.guests → passes_limits mine (counts_in state k) gain ≡ false
  tested k gain past e l =
      let known : is_unknown_guest state k ≡ false = grind (arith, nat_tests) in
      rw e (test_of (is_unknown_guest state k) (passes_limits (limits_of limits k) (counts_in state k) gain) known past)

  -- a set, an error context, or an end more of a guest
  pub set-no_more : (k number : ℕ) (sets : Sets) → is_past state limits k Set ≡ false → Kept (table (with_table state.guests k (inserted (table state.guests k) (entries.WaitableSet number)) sets) g)
  set-no_more k number sets past =
      given-no_more mine state g k (entries.WaitableSet number) sets (λ e l. set-fits mine (table state.guests k) (entries.WaitableSet number) refl refl (tested k Set past e l))

  pub context-no_more : (k number : ℕ) (sets : Sets) → is_past state limits k Context ≡ false → Kept (table (with_table state.guests k (inserted (table state.guests k) (entries.ErrorContext number)) sets) g)
  context-no_more k number sets past =
      given-no_more mine state g k (entries.ErrorContext number) sets (λ e l. context-fits mine (table state.guests k) (entries.ErrorContext number) refl refl (tested k Context past e l))

  end_fits : (count k : ℕ) (side : Side) (ty : TransmitIndex) (s : ℕ) → 1 ≤ count → is_past state limits k (Ends count) ≡ false → g ≡ k → k < length state.guests → Fits mine (table state.guests k) (end_entry side ty s)
  end_fits count k side ty s some past e l =
      let one = end-one side ty s in
      end-fits mine (table state.guests k) (end_entry side ty s) count one.0 one.1 some (tested k (Ends count) past e l)

  pub end-no_more : (count k : ℕ) (side : Side) (ty : TransmitIndex) (s : ℕ) (sets : Sets) → 1 ≤ count → is_past state limits k (Ends count) ≡ false → Kept (table (with_table state.guests k (inserted (table state.guests k) (end_entry side ty s)) sets) g)
  end-no_more count k side ty s sets some past =
      given-no_more mine state g k (end_entry side ty s) sets (end_fits count k side ty s some past)

  -- the two ends of a stream that is made
  pub pair-no_more : (writer reader : ℕ) (ty : TransmitIndex) (s : ℕ) → is_pair_past state limits writer reader ≡ false → Kept (table (with_ends state.guests writer reader ty s) g)
  pair-no_more writer reader ty s past = by (cases_eq writer reader)
    where
      held : List Guest
      held = with_read_end state.guests reader ty s

      few : (k : ℕ) → k < length held → k < length state.guests
      few k l = omega (arith, l, length-set state.guests reader (record (guest_in state.guests reader) { handles = inserted (table state.guests reader) (read_entry ty s) }))

      wrote : ((g ≡ writer) → writer < length state.guests → Kept (inserted (table held writer) (write_entry ty s))) → Kept (table held g) → Kept (table (with_ends state.guests writer reader ty s) g)
      wrote made kept =
          with_table-by Kept held writer (inserted (table held writer) (write_entry ty s)) (sets_in held writer) g (λ e l. made e (few writer l)) kept

      both : writer ≡ reader → is_past state limits writer (Ends 2) ≡ false → Kept (table (with_ends state.guests writer reader ty s) g)
      both alike past =
          let read = end-one Reading ty s in
          let write = end-one Writing ty s in
          wrote
          (λ e l.
          let there : reader < length state.guests = subst (λ k. k < length state.guests) alike l in
          let first : table held writer ≡ inserted (table state.guests reader) (read_entry ty s) = ap (table held) alike ∙ handles-with_same state.guests reader (inserted (table state.guests reader) (read_entry ty s)) (sets_in state.guests reader) there in
          let test = subst (λ k. passes_limits mine (counts_in state k) (Ends 2) ≡ false) alike (tested writer (Ends 2) past e l) in
          subst (λ k. NoMore mine (table state.guests k) (inserted (table held writer) (write_entry ty s))) (sym (e ∙ alike))
          (rw first (ends-no_more mine (table state.guests reader) (read_entry ty s) (write_entry ty s) read.0 read.1 write.0 write.1 test)))
          (end-no_more 2 reader Reading ty s (sets_in state.guests reader) (omega arith) (subst (λ k. is_past state limits k (Ends 2) ≡ false) alike past))

      apart : writer ≢ reader → is_past state limits writer (Ends 1) ≡ false → is_past state limits reader (Ends 1) ≡ false → Kept (table (with_ends state.guests writer reader ty s) g)
      apart ne past other =
          wrote
          (λ e l.
          let first : table held writer ≡ table state.guests writer = handles-with_other state.guests reader (inserted (table state.guests reader) (read_entry ty s)) (sets_in state.guests reader) writer ne in
          subst (λ k. NoMore mine (table state.guests k) (inserted (table held writer) (write_entry ty s))) (sym e)
          (rw first (inserted-no_more mine (table state.guests writer) (write_entry ty s) (end_fits 1 writer Writing ty s (omega arith) past e l))))
          (end-no_more 1 reader Reading ty s (sets_in state.guests reader) (omega arith) other)

      by : (writer ≡ reader) ⊎ (writer ≢ reader) → Kept (table (with_ends state.guests writer reader ty s) g)
      by (inl e) =
          let test = (Decides-eqb writer reader).1 e in
          both e (rw test at past)
      by (inr ne) =
          let test = ne_eqb writer reader ne in
          let tests = neither (is_past state limits writer (Ends 1)) (is_past state limits reader (Ends 1)) (rw test at past) in
          apart ne tests.0 tests.1

  -- of a stream within one guest
  pair_of_one : (k : ℕ) → is_past state limits k (Ends 2) ≡ false → is_pair_past state limits k k ≡ false
  pair_of_one k past = let test = (Decides-eqb k k).1 refl in rw test past

  -- an end that goes to a guest
  pub move-no_more : (end : NamedEnd) (to : ℕ) (side : Side) (s : ℕ) → is_move_past state limits end.guest to ≡ false → is_ok (named state end) ≡ true → Kept (table (handle_given (without_handle state end.guest end.handle) to side end.ty s).guests g)
  move-no_more end to side s past ok = by (cases_eq to end.guest)
    where
      a : ℕ
      a = end.guest

      held : List Guest
      held = (without_handle state a end.handle).guests

      x : Entry
      x = end_entry side end.ty s

      few : (k : ℕ) → k < length held → k < length state.guests
      few k l = omega (arith, l, length-set state.guests a (record (guest_in state.guests a) { handles = removed (table state.guests a) end.handle; sets = handle_left (sets_in state.guests a) end.handle }))

      given-to : ((g ≡ to) → to < length state.guests → Kept (inserted (table held to) x)) → Kept (table (handle_given (without_handle state a end.handle) to side end.ty s).guests g)
      given-to made =
          with_table-by Kept held to (inserted (table held to) x) (sets_in held to) g (λ e l. made e (few to l)) (freed mine state g a end.handle (handle_left (sets_in state.guests a) end.handle))

      here : to ≡ a → Kept (table (handle_given (without_handle state a end.handle) to side end.ty s).guests g)
      here alike =
          let one = end-one side end.ty s in
          given-to (λ e l.
          let there : a < length state.guests = subst (λ k. k < length state.guests) alike l in
          let first : table held to ≡ removed (table state.guests a) end.handle = ap (table held) alike ∙ handles-with_same state.guests a (removed (table state.guests a) end.handle) (handle_left (sets_in state.guests a) end.handle) there in
          subst (λ k. NoMore mine (table state.guests k) (inserted (table held to) x)) (sym (e ∙ alike))
          (rw first (replaced-no_more (table state.guests a) end.handle mine x one.0 one.1 (named-is_end end.ty (table state.guests a) end.handle (entry_at (table state.guests a) end.handle) refl ok))))

      away : to ≢ a → is_past state limits to (Ends 1) ≡ false → Kept (table (handle_given (without_handle state a end.handle) to side end.ty s).guests g)
      away ne past =
          given-to (λ e l.
          let first : table held to ≡ table state.guests to = handles-with_other state.guests a (removed (table state.guests a) end.handle) (handle_left (sets_in state.guests a) end.handle) to ne in
          subst (λ k. NoMore mine (table state.guests k) (inserted (table held to) x)) (sym e)
          (rw first (inserted-no_more mine (table state.guests to) x (end_fits 1 to side end.ty s (omega arith) past e l))))

      by : (to ≡ a) ⊎ (to ≢ a) → Kept (table (handle_given (without_handle state a end.handle) to side end.ty s).guests g)
      by (inl e) = here e
      by (inr ne) =
          let test = ne_eqb a to (λ e. ne (sym e)) in
          away ne (rw test at past)

  -- ## Every step

  -- after a step that nothing refuses, whichever number a stream that it makes gets
  abbrev Performed : ℕ → Act → Type 0
  Performed n act = Kept (table (performs_at n state act).state.guests g) × Kept (table (performs state act).state.guests g)

  both : {A : Type 0} → A → A × A
  both kept = (kept, kept)

  performed-no_more : (n : ℕ) (step : Step) → is_step_past state limits step ≡ false → refusal state (act_of step) ≡ None → Performed n (act_of step)
  unfolding performs performs_at with_stream with_pair_at refusal
  performed-no_more n (steps.Guest size) past e = both (keeps-no_more mine state.guests _ g (handles-more state.guests _ g refl))
  performed-no_more n (steps.New k ty) past e = (pair-no_more k k ty n (pair_of_one k past), pair-no_more k k ty (length state.streams) (pair_of_one k past))
  performed-no_more n (steps.Between writer reader ty) past e = (pair-no_more writer reader ty n past, pair-no_more writer reader ty (length state.streams) past)
  performed-no_more n (steps.Write k ty handle address count) past e = both (on_end-no_more mine state g Writing (end_named_by k ty handle) (Operate address count))
  performed-no_more n (steps.Read k ty handle address count) past e = both (on_end-no_more mine state g Reading (end_named_by k ty handle) (Operate address count))
  performed-no_more n (steps.DropWrite k ty handle) past e = both (on_end-no_more mine state g Writing (end_named_by k ty handle) Drop)
  performed-no_more n (steps.DropRead k ty handle) past e = both (on_end-no_more mine state g Reading (end_named_by k ty handle) Drop)
  performed-no_more n (steps.CancelWrite k ty handle) past e = both (on_end-no_more mine state g Writing (end_named_by k ty handle) Cancel)
  performed-no_more n (steps.CancelRead k ty handle) past e = both (on_end-no_more mine state g Reading (end_named_by k ty handle) Cancel)
  performed-no_more n (steps.Move k ty handle to) past e =
      let end = end_named_by k ty handle in
      both (move-no_more end to (side_named (named state end)) (stream_named (named state end)) past (named_ok state end (move_fits state end to e).leaves.found))
  performed-no_more n (steps.Lift k ty handle) past e = both (on_end-no_more mine state g Reading (end_named_by k ty handle) Lift)
  performed-no_more n (steps.Lower reader k ty) past e = both (end-no_more 1 k Reading ty reader (sets_in state.guests k) (omega arith) past)
  performed-no_more n (steps.Close reader) past e = both (same mine state g)
  performed-no_more n (steps.HostNew host) past e = both (same mine state g)
  performed-no_more n (steps.Feed host bytes) past e = both (same mine state g)
  performed-no_more n (steps.Pipe reader host) past e = both (same mine state g)
  performed-no_more n (steps.Grant host count) past e = both (same mine state g)
  performed-no_more n steps.Drive past e = both (same mine state g)
  performed-no_more n (steps.Event k handle) past e = both (same mine state g)
  performed-no_more n (steps.SetNew k) past e = both (set-no_more k _ _ past)
  performed-no_more n (steps.SetJoin k set handle) past e = both (on_set-no_more mine state g k set (set_acts.Join handle))
  performed-no_more n (steps.SetPoll k set) past e = both (on_set-no_more mine state g k set set_acts.Poll)
  performed-no_more n (steps.SetDrop k set) past e = both (on_set-no_more mine state g k set set_acts.Drop)
  performed-no_more n (steps.ErrNew k address len) past e = both (context-no_more k (next_number state.contexts) (sets_in state.guests k) past)
  performed-no_more n (steps.ErrText k handle address) past e = both (texts-no_more mine state g k handle address)
  performed-no_more n (steps.ErrMove k handle to) past e = both (context-no_more to (context_number state k handle) (sets_in state.guests to) past)
  performed-no_more n (steps.ErrDrop k handle) past e = both (freed mine state g k handle (sets_in state.guests k))
  performed-no_more n (steps.Poke k address bytes) past e = both (on_memory-no_more mine state g k (Poke address bytes))
  performed-no_more n (steps.Dump k address len) past e = both (same mine state g)

  -- after any step
  stepped-no_more : (step : Step) → is_step_past state limits step ≡ false → Kept (table (react state step).state.guests g)
  stepped-no_more step past =
      reaction-by (λ (r : Reaction). Kept (table r.state.guests g)) state (act_of step) (λ t. same mine state g) (λ r e. same mine state g)
      (λ e. (performed-no_more 0 step past e).1)

  made-no_more : (n : ℕ) (step : Step) → is_step_past state limits step ≡ false → Kept (table (reacts_at n state step).state.guests g)
  made-no_more n step past =
      reaction_at-by (λ (r : Reaction). Kept (table r.state.guests g)) n state (act_of step)
      (record {
        trapped = λ t. same mine state g;
        refused = λ r t e. same mine state g;
        performed = λ t e. (performed-no_more n step past e).0;
      })

  -- and after an error context was lowered
  shared-no_more : (number k : ℕ) (found : Option Refusal) → is_past state limits k Context ≡ false → Kept (table (shares_unless state number k found).state.guests g)
  shared-no_more number k (Some r) past = same mine state g
  shared-no_more number k None past = context-no_more k number (sets_in state.guests k) past

-- ## Every call

lowered-no_more : (limits : List GuestLimits) (state : State) (g number k : ℕ) → is_past state limits k Context ≡ false → NoMore (limits_of limits g) (table state.guests g) (table (lowers_context state number k).state.guests g)
unfolding lowers_context
lowered-no_more limits state g number k past =
    cond_both state.trapped _ _ (λ (r : Reaction). NoMore (limits_of limits g) (table state.guests g) (table r.state.guests g)) (λ e. same (limits_of limits g) state g)
    (λ e. shared-no_more limits state g number k (first_of (lower_context_reasons state number k)) past)

module _ (limits : List GuestLimits) (old new : State) (g : ℕ) where
  abbrev Now : State → Type 0
  Now s = NoMore (limits_of limits g) (table old.guests g) (table s.guests g)

  was : Now old
  was = same (limits_of limits g) old g

  module _ (result : Result Reply StoreError) where
    pub step-gains : (step : Step) → is_step_past old limits step ≡ false → Meets old new result (react old step) → Now new
    step-gains step past m = meets_leaves Now old new result (react old step) was (stepped-no_more limits old g step past) m

    pub making-gains : (n : ℕ) (step : Step) → is_step_past old limits step ≡ false → Meets old new result (reacts_at n old step) → Now new
    making-gains n step past m = meets_leaves Now old new result (reacts_at n old step) was (made-no_more limits old g n step past) m

    pub lowering-gains : (number k : ℕ) → is_past old limits k Context ≡ false → Meets old new result (lowers_context old number k) → Now new
    lowering-gains number k past m =
        meets_leaves Now old new result (lowers_context old number k) was (lowered-no_more limits old g number k past) m

  -- a read or write
  pub operation-gains : (result : Result ReturnCode OperateError) (step : Step) → is_step_past old limits step ≡ false → MeetsOrTells old new result step → Now new
  operation-gains (Ok code) step past m = step-gains (Ok (replies.Code code)) step past m
  operation-gains (Err (errors.Refused refusal)) step past m = subst Now (sym m.1) was
  operation-gains (Err (errors.BadItem item)) step past m = subst Now (sym m.1) was
