-- Every call changes the live handles of its table as it changes those of the counter.
use Rattle.std.proofs.Common.{◌≡◌, ℕ, ◌+◌, ◌-◌, ◌<◌, ◌≤◌, Bool, true, false, Option, Some, None, refl, arith}
use Rattle.std.proofs.lemmas.Bool.Decides.{Decides-eqb}
use Rattle.std.specs.Prelude.{Result, Ok, Err, IfOk, OnOk, ◌==◌, if◌then◌else◌, nat_le}
use Rattle.strm_handles.specs.Words.{Payload, Entry, RemovedResource, Scope, TransmitEnd, TransmitLocalState, TypedResource, HandleError}
use Rattle.strm_handles.specs.declared.entries.Entry.TheVariants.{ResourceOwn, ResourceBorrow, Stream, Future, ErrorContext, Subtask, WaitableSet}
use Rattle.strm_handles.specs.declared.entries.RemovedResource.TheVariants.{Own, Borrow}
use Rattle.strm_handles.specs.declared.errors.HandleError.TheVariants.{Lent, TooManyLends, HandleLimit}
use Rattle.strm_handles.specs.Changes.{Inserts, Removes}
use Rattle.strm_handles.specs.Counters.{Counter, counted, uncounted}
use Rattle.strm_handles.specs.Handles.{Handles, TableOf, Table, entry_at, with_entry, occupied, lends_of, live_of, IsTable}
use Rattle.strm_handles.specs.Live.{CountsAlike, CountsOccupied}
use Rattle.strm_handles.specs.Lookups.{◌>>=◌, end_typed, typed_rep, stream_end_in, stream_end_of, future_end_in, future_end_of, error_context_rep_in, subtask_rep_in, waitable_set_rep_in, guest_thread_rep_of}
use Rattle.strm_handles.specs.Lends.{own_lend, resource_lend_in, resource_undo_lend_in, remove_resource_in, HasLend, lent_in, returned_in}
use Rattle.strm_handles.proofs.HandleLemmas.{occupied-inserted, occupied-removed, live_of-inserted, live_of-removed, live_of-with_entry}
use Rattle.strm_handles.proofs.LookupLemmas.{entry-stream_of, entry-future_of}

on_ok : {A P : Type 0} (r : Result A HandleError) → P → OnOk r P
on_ok (Ok x) p = p
on_ok (Err e) p = tt

-- ---- inserts and removals

pub counts-inserted : (old new : Table) (before after : Counter) (e : Entry) (result : Result ℕ HandleError) → IsTable old.handles → lends_of e ≡ 0 → Inserts old new before after e result → CountsAlike old.handles new.handles before after
counts-inserted old new before after e (Ok n) sound none i =
    rw (i.ok, i.live) (omega (arith, live_of-inserted old.handles e sound, none))
counts-inserted old new before after e (Err x) sound none i = rw (i.err, i.kept) refl

pub counts-thread_inserted : (old new : TableOf ℕ) (before after : Counter) (rep : ℕ) (result : Result ℕ HandleError) → IsTable old.handles → Inserts old new before after rep result → CountsOccupied old.handles new.handles before after
counts-thread_inserted old new before after rep (Ok n) sound i =
    rw (i.ok, i.live) (omega (arith, occupied-inserted old.handles rep sound))
counts-thread_inserted old new before after rep (Err x) sound i = rw (i.err, i.kept) refl

-- what is there has no open lend
abbrev pub IsUnlent : Option Entry → Type 0
IsUnlent o = (e : Entry) × ((o ≡ Some e) × (lends_of e ≡ 0))

pub counts-removed : {A : Type 0} (old new : Table) (before after : Counter) (n : ℕ) (r : Result A HandleError) → live_of old.handles ≤ before.live → OnOk r (IsUnlent (entry_at old.handles n)) → Removes old new before after n r → CountsAlike old.handles new.handles before after
counts-removed old new before after n (Ok x) most there c =
    rw (c.ok, c.live) (omega (arith, live_of-removed old.handles n there.0 there.1.0, there.1.1))
counts-removed old new before after n (Err x) most there c = rw (c.err, c.kept) refl

pub counts-thread_removed : (old new : TableOf ℕ) (before after : Counter) (n : ℕ) → occupied old.handles ≤ before.live → Removes old new before after n (guest_thread_rep_of old.handles n) → CountsOccupied old.handles new.handles before after
counts-thread_removed old new before after n most r = by (entry_at old.handles n) refl
  where
    by : (o : Option ℕ) → entry_at old.handles n ≡ o → CountsOccupied old.handles new.handles before after
    by None is =
        let err = rw is at r.err in
        let kept = rw is at r.kept in
        rw (err, kept) refl
    by (Some rep) is =
        let ok = rw is at r.ok in
        let live = rw is at r.live in
        rw (ok, live) (omega (arith, occupied-removed old.handles n rep is))

-- what each removal takes has no open lend
pub unlent-stream : {A : Type 0} (ty : Payload) (o : Option Entry) (next : TransmitEnd → Result A HandleError) → OnOk (stream_end_in ty o >>= next) (IsUnlent o)
unlent-stream ty None next = tt
unlent-stream ty (Some (Stream end)) next = on_ok (end_typed ty end >>= next) (Stream end, (refl, refl))
unlent-stream ty (Some _) next = tt

pub unlent-future : {A : Type 0} (ty : Payload) (o : Option Entry) (next : TransmitEnd → Result A HandleError) → OnOk (future_end_in ty o >>= next) (IsUnlent o)
unlent-future ty None next = tt
unlent-future ty (Some (Future end)) next = on_ok (end_typed ty end >>= next) (Future end, (refl, refl))
unlent-future ty (Some _) next = tt

pub unlent-error_context : (o : Option Entry) → OnOk (error_context_rep_in o) (IsUnlent o)
unlent-error_context None = tt
unlent-error_context (Some (ErrorContext rep)) = (ErrorContext rep, (refl, refl))
unlent-error_context (Some _) = tt

pub unlent-subtask : (o : Option Entry) → OnOk (subtask_rep_in o) (IsUnlent o)
unlent-subtask None = tt
unlent-subtask (Some (Subtask rep is_host)) = (Subtask rep is_host, (refl, refl))
unlent-subtask (Some _) = tt

pub unlent-waitable_set : (o : Option Entry) → OnOk (waitable_set_rep_in o) (IsUnlent o)
unlent-waitable_set None = tt
unlent-waitable_set (Some (WaitableSet rep)) = (WaitableSet rep, (refl, refl))
unlent-waitable_set (Some _) = tt

unlent-own : (resource : TypedResource) (lend_count : ℕ) (b : Bool) (r : Result RemovedResource HandleError) → (b ≡ true → lend_count ≡ 0) → OnOk (if b then r else Err Lent) (IsUnlent (Some (ResourceOwn resource lend_count)))
unlent-own resource lend_count true r none = on_ok r (ResourceOwn resource lend_count, (refl, none refl))
unlent-own resource lend_count false r none = tt

unlent-borrow : (resource : TypedResource) (scope : Scope) (rep : Result ℕ HandleError) → OnOk (rep >>= (λ n. Ok (Borrow scope))) (IsUnlent (Some (ResourceBorrow resource scope)))
unlent-borrow resource scope (Ok n) = (ResourceBorrow resource scope, (refl, refl))
unlent-borrow resource scope (Err x) = tt

pub unlent-resource : (ty : ℕ) (o : Option Entry) → OnOk (remove_resource_in ty o) (IsUnlent o)
unlent-resource ty None = tt
unlent-resource ty (Some (ResourceOwn resource lend_count)) =
    unlent-own resource lend_count (lend_count == 0) (typed_rep ty resource >>= (λ rep. Ok (Own rep))) (Decides-eqb lend_count 0).0
unlent-resource ty (Some (ResourceBorrow resource scope)) = unlent-borrow resource scope (typed_rep ty resource)
unlent-resource ty (Some _) = tt

-- ---- lends

-- an own resource that is lent once more, or once less
pub live_of-lent : (h : Handles) (n : ℕ) (resource : TypedResource) (lend_count : ℕ) → entry_at h n ≡ Some (ResourceOwn resource lend_count) → live_of (lent_in h n (Some (ResourceOwn resource lend_count))) ≡ live_of h + 1
live_of-lent h n resource lend_count is =
    omega (arith, live_of-with_entry h n (ResourceOwn resource lend_count) (ResourceOwn resource (lend_count + 1)) is)

pub live_of-returned : (h : Handles) (n : ℕ) (resource : TypedResource) (lend_count : ℕ) → entry_at h n ≡ Some (ResourceOwn resource lend_count) → 0 < lend_count → live_of (returned_in h n (Some (ResourceOwn resource lend_count))) + 1 ≡ live_of h
live_of-returned h n resource lend_count is some =
    omega (arith, live_of-with_entry h n (ResourceOwn resource lend_count) (ResourceOwn resource (lend_count - 1)) is)

counts-own_lend : (counter : Counter) (old new lend_count : ℕ) (rep : Result ℕ HandleError) → new ≡ old + 1 → IfOk {T = ℕ × Bool} (rep >>= own_lend counter lend_count) (λ r. new + counter.live ≡ old + (if r.1 then counted counter else counter).live)
counts-own_lend counter old new lend_count (Err x) more = tt
counts-own_lend counter old new lend_count (Ok rep) more = by (lend_count == 4294967295) (nat_le counter.limit counter.live)
  where
    by : (most full : Bool) → IfOk {T = ℕ × Bool} (if most then Err TooManyLends else (if full then Err HandleLimit else Ok (rep, true))) (λ r. new + counter.live ≡ old + (if r.1 then counted counter else counter).live)
    by true full = tt
    by false true = tt
    by false false = omega (arith, more)

counts-borrow_lend : (counter : Counter) (live : ℕ) (rep : Result ℕ HandleError) → IfOk {T = ℕ × Bool} (rep >>= (λ n. Ok (n, false))) (λ r. live + counter.live ≡ live + (if r.1 then counted counter else counter).live)
counts-borrow_lend counter live (Ok n) = refl
counts-borrow_lend counter live (Err x) = tt

pub counts-lent : (h : Handles) (counter : Counter) (ty n : ℕ) (o : Option Entry) → entry_at h n ≡ o → IfOk (resource_lend_in counter ty o) (λ r. CountsAlike h (lent_in h n o) counter (if r.1 then counted counter else counter))
counts-lent h counter ty n None is = tt
counts-lent h counter ty n (Some (ResourceOwn resource lend_count)) is =
    counts-own_lend counter (live_of h) (live_of (lent_in h n (Some (ResourceOwn resource lend_count)))) lend_count (typed_rep ty resource) (live_of-lent h n resource lend_count is)
counts-lent h counter ty n (Some (ResourceBorrow resource scope)) is = counts-borrow_lend counter (live_of h) (typed_rep ty resource)
counts-lent h counter ty n (Some _) is = tt

pub counts-returned : (h : Handles) (counter : Counter) (n : ℕ) (o : Option Entry) → live_of h ≤ counter.live → entry_at h n ≡ o → HasLend o → OnOk (resource_undo_lend_in o) (CountsAlike h (returned_in h n o) counter (uncounted counter))
counts-returned h counter n None most is lend = tt
counts-returned h counter n (Some (ResourceOwn resource lend_count)) most is lend =
    omega (arith, live_of-returned h n resource lend_count is lend)
counts-returned h counter n (Some _) most is lend = tt

-- ---- states

pub live_of-stream_set : (h : Handles) (ty : Payload) (n : ℕ) (state : TransmitLocalState) → IfOk (stream_end_of h ty n) (λ end. live_of (with_entry h n (Stream (record end { state = state }))) ≡ live_of h)
live_of-stream_set h ty n state = by (stream_end_of h ty n) refl
  where
    by : (r : Result TransmitEnd HandleError) → stream_end_of h ty n ≡ r → IfOk r (λ end. live_of (with_entry h n (Stream (record end { state = state }))) ≡ live_of h)
    by (Err x) is = tt
    by (Ok end) is = omega (arith, live_of-with_entry h n (Stream end) (Stream (record end { state = state })) (entry-stream_of h ty n end is).0)

pub live_of-future_set : (h : Handles) (ty : Payload) (n : ℕ) (state : TransmitLocalState) → IfOk (future_end_of h ty n) (λ end. live_of (with_entry h n (Future (record end { state = state }))) ≡ live_of h)
live_of-future_set h ty n state = by (future_end_of h ty n) refl
  where
    by : (r : Result TransmitEnd HandleError) → future_end_of h ty n ≡ r → IfOk r (λ end. live_of (with_entry h n (Future (record end { state = state }))) ≡ live_of h)
    by (Err x) is = tt
    by (Ok end) is = omega (arith, live_of-with_entry h n (Future end) (Future (record end { state = state })) (entry-future_of h ty n end is).0)
