-- What a look-up of an end says of the number's entry, and back.
use Rattle.std.proofs.Common.{◌≡◌, ℕ, ◌+◌, Bool, true, false, Option, Some, None, refl, sym, ap, ◌∙◌, arith}
use Rattle.std.specs.Prelude.{◌≢◌, ◌↔◌, Result, Ok, Err, IsOk, IfOk, if◌then◌else◌}
use Rattle.strm_handles.specs.Words.{Payload, Entry, TransmitEnd, HandleError}
use Rattle.strm_codes.specs.Sameness.{same_payload}
use Rattle.strm_codes.proofs.SamenessLemmas.{Decides-same_payload}
use Rattle.strm_handles.specs.declared.entries.Entry.TheVariants.{Stream, Future}
use Rattle.strm_handles.specs.declared.errors.HandleError.TheVariants.{IndexOverflow, HandleLimit, WrongType}
use Rattle.strm_handles.specs.Handles.{Handles, Table, entry_at, next_index, inserted, removed, live_of, IsTable}
use Rattle.strm_handles.specs.Changes.{Inserts}
use Rattle.strm_handles.specs.Counters.{Counter}
use Rattle.strm_handles.specs.Lookups.{end_typed, stream_end_in, stream_end_of, stream_rep_of, future_end_in, future_end_of, end_rep_in, end_rep_of}
use Rattle.strm_handles.proofs.HandleLemmas.{entry_at-inserted-same, live_of-removed}

typed_cases : (b : Bool) (end found : TransmitEnd) → (if b then Ok end else Err WrongType) ≡ Ok found → (b ≡ true) × (end ≡ found)
typed_cases true end found is = (refl, cc)
typed_cases false end found is = cc

end_typed-ok : (ty : Payload) (end found : TransmitEnd) → end_typed ty end ≡ Ok found → (end ≡ found) × (found.ty ≡ ty)
end_typed-ok ty end found is =
    let c = typed_cases (same_payload end.ty ty) end found is in
    (c.1, ap (λ (e : TransmitEnd). e.ty) (sym c.1) ∙ (Decides-same_payload end.ty ty).0 c.0)

stream_end_in-ok : (ty : Payload) (o : Option Entry) (end : TransmitEnd) → stream_end_in ty o ≡ Ok end → (o ≡ Some (Stream end)) × (end.ty ≡ ty)
stream_end_in-ok ty None end is = cc
stream_end_in-ok ty (Some (Stream e)) end is = let t = end_typed-ok ty e end is in (ap (λ (x : TransmitEnd). Some (Stream x)) t.0, t.1)
stream_end_in-ok ty (Some _) end is = cc

future_end_in-ok : (ty : Payload) (o : Option Entry) (end : TransmitEnd) → future_end_in ty o ≡ Ok end → (o ≡ Some (Future end)) × (end.ty ≡ ty)
future_end_in-ok ty None end is = cc
future_end_in-ok ty (Some (Future e)) end is = let t = end_typed-ok ty e end is in (ap (λ (x : TransmitEnd). Some (Future x)) t.0, t.1)
future_end_in-ok ty (Some _) end is = cc

-- an end that was found is the number's entry, and has that payload
pub entry-stream_of : (h : Handles) (ty : Payload) (idx : ℕ) (end : TransmitEnd) → stream_end_of h ty idx ≡ Ok end → (entry_at h idx ≡ Some (Stream end)) × (end.ty ≡ ty)
entry-stream_of h ty idx end is = stream_end_in-ok ty (entry_at h idx) end is

pub entry-future_of : (h : Handles) (ty : Payload) (idx : ℕ) (end : TransmitEnd) → future_end_of h ty idx ≡ Ok end → (entry_at h idx ≡ Some (Future end)) × (end.ty ≡ ty)
entry-future_of h ty idx end is = future_end_in-ok ty (entry_at h idx) end is

-- and back, of a stream's
pub stream_end_of-entry : (h : Handles) (idx : ℕ) (end : TransmitEnd) → entry_at h idx ≡ Some (Stream end) → stream_end_of h end.ty idx ≡ Ok end
stream_end_of-entry h idx end is = rw (is, (Decides-same_payload end.ty end.ty).1 refl) refl

-- the end inserted last is found by its number
pub stream_end_of-inserted : (h : Handles) (end : TransmitEnd) → IsTable h → stream_end_of (inserted h (Stream end)) end.ty (next_index h) ≡ Ok end
stream_end_of-inserted h end s = stream_end_of-entry (inserted h (Stream end)) (next_index h) end (entry_at-inserted-same h (Stream end) s)

answered : (over full : Bool) (m n : ℕ) → (if over then Err IndexOverflow else (if full then Err HandleLimit else Ok m)) ≡ Ok n → m ≡ n
answered true full m n is = cc
answered false true m n is = cc
answered false false m n is = cc

-- what an insert of a stream's end answers finds that end from then on
pub stream_rep_of-inserts : (old new : Table) (before after : Counter) (end : TransmitEnd) (r : Result ℕ HandleError) → IsTable old.handles → Inserts old new before after (Stream end) r → IfOk r (λ n. stream_rep_of new.handles end.ty n ≡ Ok (end.rep, end.state))
stream_rep_of-inserts old new before after end (Err x) s i = tt
stream_rep_of-inserts old new before after end (Ok n) s i =
    let number : next_index old.handles ≡ n = answered _ _ _ n (sym (i.answer (λ e. cc))) in
    rw (i.ok, ← number, stream_end_of-inserted old.handles end s) refl

-- an end has no lends
pub live_of-removed-stream : (h : Handles) (ty : Payload) (idx : ℕ) (end : TransmitEnd) → stream_end_of h ty idx ≡ Ok end → live_of (removed h idx) + 1 ≡ live_of h
live_of-removed-stream h ty idx end is =
    omega (arith, live_of-removed h idx (Stream end) (entry-stream_of h ty idx end is).0)

pub live_of-removed-future : (h : Handles) (ty : Payload) (idx : ℕ) (end : TransmitEnd) → future_end_of h ty idx ≡ Ok end → live_of (removed h idx) + 1 ≡ live_of h
live_of-removed-future h ty idx end is =
    omega (arith, live_of-removed h idx (Future end) (entry-future_of h ty idx end is).0)

-- the same of what is an end, of whatever payload
pub live_of-removed-end : (h : Handles) (idx : ℕ) → IsOk (end_rep_of h idx) → live_of (removed h idx) + 1 ≡ live_of h
live_of-removed-end h idx ok = by (entry_at h idx) refl ok
  where
    by : (o : Option Entry) → entry_at h idx ≡ o → IsOk (end_rep_in o) → live_of (removed h idx) + 1 ≡ live_of h
    by None e ok = cc
    by (Some (Stream end)) e ok = omega (arith, live_of-removed h idx (Stream end) e)
    by (Some (Future end)) e ok = omega (arith, live_of-removed h idx (Future end) e)
    by (Some _) e ok = cc

-- an end of a payload is an end
pub stream_is_end : (ty : Payload) (o : Option Entry) → IsOk (stream_end_in ty o) → IsOk (end_rep_in o)
stream_is_end ty None ok = cc
stream_is_end ty (Some (Stream end)) ok = refl
stream_is_end ty (Some _) ok = cc

pub future_is_end : (ty : Payload) (o : Option Entry) → IsOk (future_end_in ty o) → IsOk (end_rep_in o)
future_is_end ty None ok = cc
future_is_end ty (Some (Future end)) ok = refl
future_is_end ty (Some _) ok = cc

-- an end has the wrong type exactly where its payload is another
pub end_typed-wrong : (ty : Payload) (end : TransmitEnd) → (end_typed ty end ≡ Err WrongType) ↔ (end.ty ≢ ty)
end_typed-wrong ty end = both (same_payload end.ty ty) refl
  where
    both : (b : Bool) → same_payload end.ty ty ≡ b → ((if b then Ok end else Err WrongType) ≡ Err WrongType) ↔ (end.ty ≢ ty)
    both true e = ((λ is. cc), (λ other. absurd (other ((Decides-same_payload end.ty ty).0 e))))
    both false e = ((λ is same. let yes : same_payload end.ty ty ≡ true = (Decides-same_payload end.ty ty).1 same in cc), (λ other. refl))
