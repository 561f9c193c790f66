-- A host end that is made, or that is not made.
use Rattle.std.proofs.Common.{◌≡◌, ℕ, List, [], ◌∷◌, ◌++◌, map, length, take, Err, sym, subst, ◌∙◌, ap}
use Rattle.std.proofs.Math.Seq.{take-append_seam}
use Rattle.std.proofs.lemmas.List.{take-map, map-append, length-map}
use Rattle.strm_codes.specs.declared.codes.TransmitKind.{TransmitKind}
use Rattle.strm_codes.specs.declared.payloads.Payload.{Payload}
use Rattle.strm_buffers.specs.Tells.{WriterTells, ReaderTells, Tells}
use Rattle.strm_machine.specs.State.{State}
use Rattle.strm_machine.specs.declared.acts.Act.TheVariants.{OnHost}
use Rattle.strm_machine.specs.declared.acts.HostAct.{HostAct}
use Rattle.strm_machine.specs.declared.acts.HostAct.TheVariants.{New, Pipe}
use Rattle.strm_host_machine.specs.Does.{Fits, saids, world_of}
use Rattle.strm_host_machine.proofs.DoesLemmas.{extends_self}
use Rattle.strm_transmit.specs.Hosted.{MeetsHosted, StoreStays}
use Rattle.strm_transmit.specs.declared.errors.StoreError.{StoreError}
use Rattle.strm_transmit.specs.declared.errors.StoreError.TheVariants.{Refused, HostFailed, HostBroke, BadItem, StoreTrapped, OutOfMemory}
use Rattle.strm_ready_ends.specs.SendQueues.{SendQueue, ready_tells, unfed}
use Rattle.strm_ready_ends.specs.ReceiveQueues.{ReceiveQueue, ready_reader_tells, ungranted}
use Rattle.strm_host_store.specs.HostStates.{HostState, ready_tell, host_state, TellsStay, IsAmongReady}
use Rattle.strm_host_store.specs.Hosting.{MakesWriter, MakesReaderOf}
use Rattle.strm_host_store.proofs.StopLemmas.{StopsTrapped, host_acts_stop_none}

-- an error of what is done to a host end, but that of making it or giving it a stream: nothing has changed
pub on_host_stays : (old new : State) (tells told : Tells) (n : ℕ) (act : HostAct) (error : StoreError) → MeetsHosted old new tells told (Err error) (OnHost n act) → StoreStays old new tells told
on_host_stays old new tells told n act (Refused refusal) m = m.err
on_host_stays old new tells told n act StoreTrapped m = m.err
on_host_stays old new tells told n act OutOfMemory m = m.err
on_host_stays old new tells told n act (HostFailed end) m =
    absurd (subst StopsTrapped (m.does.gives (saids told) (extends_self told)) (host_acts_stop_none (world_of old tells (saids told)) n act))
on_host_stays old new tells told n act (HostBroke end) m =
    absurd (subst StopsTrapped (m.does.gives (saids told) (extends_self told)) (host_acts_stop_none (world_of old tells (saids told)) n act))
on_host_stays old new tells told n act (BadItem s) m =
    absurd (subst StopsTrapped (m.does.gives (saids told) (extends_self told)) (host_acts_stop_none (world_of old tells (saids told)) n act))

-- a call on a host end that did nothing
abbrev NotDone : State → State → Tells → Tells → StoreError → ℕ → HostAct → Type 0
NotDone old new tells told error n act = MeetsHosted old new tells told (Err error) (OnHost n act)

-- the same call, said of a store that stayed
stayed : (old new : State) (tells told : Tells) (n : ℕ) (act : HostAct) (error : StoreError) → NotDone old new tells told error n act → NotDone old old tells tells error n act
stayed old new tells told n act error m =
    let s = on_host_stays old new tells told n act error m in
    subst (λ (t : Tells). NotDone old old tells t error n act) s.ends (subst (λ (state : State). NotDone old state tells told error n act) s.same m)

-- what host ends tell with a host writer more, and with a host reader more
abbrev tells_more : List SendQueue → List ReceiveQueue → TransmitKind → Payload → Tells
tells_more ws rs kind payload = ready_tell (ws ++ unfed kind payload ∷ []) rs

abbrev readers_tell_more : List SendQueue → List ReceiveQueue → TransmitKind → Payload → Tells
readers_tell_more ws rs kind payload = ready_tell ws (rs ++ ungranted kind payload ∷ [])

-- a host writer gets no stream
module _ (ws : List SendQueue) (rs : List ReceiveQueue) (old new : State) (kind : TransmitKind) (payload : Payload) where
  -- as it was refused
  abbrev pub NoWriter : StoreError → Type 0
  NoWriter error = NotDone old new (tells_more ws rs kind payload) (tells_more ws rs kind payload) error (length ws) New

  same_state : (error : StoreError) → NoWriter error → host_state new ws rs ≡ host_state old ws rs
  same_state error m =
      let s = on_host_stays old new (tells_more ws rs kind payload) (tells_more ws rs kind payload) (length ws) New error m in
      ap (λ (state : State). host_state state ws rs) s.same

  not_made : (error : StoreError) → NoWriter error → NotDone old old (tells_more ws rs kind payload) (tells_more ws rs kind payload) error (length ws) New
  not_made error m = stayed old new (tells_more ws rs kind payload) (tells_more ws rs kind payload) (length ws) New error m

  pub writer_unmade : (error : StoreError) → NoWriter error → MakesWriter (host_state old ws rs) (host_state new ws rs) kind payload (Err error)
  writer_unmade (Refused refusal) m = (same_state (Refused refusal) m, not_made (Refused refusal) m)
  writer_unmade StoreTrapped m = (same_state StoreTrapped m, not_made StoreTrapped m)
  writer_unmade OutOfMemory m = same_state OutOfMemory m
  writer_unmade (HostFailed end) m = (same_state (HostFailed end) m, not_made (HostFailed end) m)
  writer_unmade (HostBroke end) m = (same_state (HostBroke end) m, not_made (HostBroke end) m)
  writer_unmade (BadItem s) m = (same_state (BadItem s) m, not_made (BadItem s) m)

-- the readers but the last tell what they told
readers_tell : (ws vs : List SendQueue) (rs qs : List ReceiveQueue) (q : ReceiveQueue) → ready_tell vs qs ≡ ready_tell ws (rs ++ q ∷ []) → ready_tell vs (take (length rs) qs) ≡ ready_tell ws rs
readers_tell ws vs rs qs q e =
    let readers : map ready_reader_tells (take (length rs) qs) ≡ map ready_reader_tells rs =
    sym (take-map ready_reader_tells (length rs) qs)
    ∙ ap (λ (t : Tells). take (length rs) t.readers) e
    ∙ ap (take (length rs)) (map-append ready_reader_tells rs (q ∷ []))
    ∙ ap (λ n. take n (map ready_reader_tells rs ++ ready_reader_tells q ∷ [])) (sym (length-map rs ready_reader_tells))
    ∙ take-append_seam (map ready_reader_tells rs) (ready_reader_tells q ∷ []) in
    let writers : map ready_tells vs ≡ map ready_tells ws = ap (λ (t : Tells). t.writers) e in
    ap (λ (ts : List WriterTells). record { writers = ts; readers = map ready_reader_tells (take (length rs) qs) }) writers
    ∙ ap (λ (ts : List ReaderTells). record { writers = map ready_tells ws; readers = ts }) readers

-- a host reader gets no stream
module _ (ws vs : List SendQueue) (rs qs : List ReceiveQueue) (old new : State) (kind : TransmitKind) (payload : Payload) (s : ℕ) where
  -- as it was refused
  abbrev pub NoReader : StoreError → Type 0
  NoReader error = NotDone old new (readers_tell_more ws rs kind payload) (ready_tell vs qs) error (length rs) (Pipe s)

  tells_stay : (error : StoreError) → NoReader error → TellsStay (host_state old ws rs) (host_state new vs (take (length rs) qs))
  tells_stay error m =
      let stays = on_host_stays old new (readers_tell_more ws rs kind payload) (ready_tell vs qs) (length rs) (Pipe s) error m in
      record { state = stays.same; ends = readers_tell ws vs rs qs (ungranted kind payload) stays.ends }

  not_piped : (error : StoreError) → NoReader error → NotDone old old (readers_tell_more ws rs kind payload) (readers_tell_more ws rs kind payload) error (length rs) (Pipe s)
  not_piped error m = stayed old new (readers_tell_more ws rs kind payload) (ready_tell vs qs) (length rs) (Pipe s) error m

  pub reader_unmade : (error : StoreError) → NoReader error → MakesReaderOf (host_state old ws rs) (host_state new vs (take (length rs) qs)) kind payload s (Err error)
  reader_unmade (Refused refusal) m = (tells_stay (Refused refusal) m, not_piped (Refused refusal) m)
  reader_unmade StoreTrapped m = (tells_stay StoreTrapped m, not_piped StoreTrapped m)
  reader_unmade OutOfMemory m = tells_stay OutOfMemory m
  reader_unmade (HostFailed end) m = (tells_stay (HostFailed end) m, not_piped (HostFailed end) m)
  reader_unmade (HostBroke end) m = (tells_stay (HostBroke end) m, not_piped (HostBroke end) m)
  reader_unmade (BadItem t) m = (tells_stay (BadItem t) m, not_piped (BadItem t) m)

-- THE ANSWERS

-- a list without the one that was put behind it
pub truncated : {A : Type 0} (xs ys zs : List A) (y : A) (n : ℕ) → ys ≡ xs ++ y ∷ [] → n ≡ length xs → zs ≡ take n ys → zs ≡ xs
truncated xs ys zs y n e f g = g ∙ ap (λ k. take k ys) f ∙ ap (take (length xs)) e ∙ take-append_seam xs (y ∷ [])

module _ (host : HostState) (old new : State) (ws us vs : List SendQueue) (rs : List ReceiveQueue) (kind : TransmitKind) (payload : Payload) (error : StoreError) (n : ℕ) where
  writer_call : us ≡ ws ++ unfed kind payload ∷ [] → n ≡ length ws → NotDone old new (ready_tell us rs) (ready_tell us rs) error n New → NoWriter ws rs old new kind payload error
  writer_call e f m =
      subst (λ (k : ℕ). NotDone old new (tells_more ws rs kind payload) (tells_more ws rs kind payload) error k New) f
      (subst (λ (xs : List SendQueue). NotDone old new (ready_tell xs rs) (ready_tell xs rs) error n New) e m)

  -- a host writer was refused, and is none any more
  pub writer_refused : host_state old ws rs ≡ host → us ≡ ws ++ unfed kind payload ∷ [] → n ≡ length ws → vs ≡ take n us
      → NotDone old new (ready_tell us rs) (ready_tell us rs) error n New → MakesWriter host (host_state new vs rs) kind payload (Err error)
  writer_refused view e f g m =
      subst (λ (h : HostState). MakesWriter h (host_state new vs rs) kind payload (Err error)) view
      (subst (λ (xs : List SendQueue). MakesWriter (host_state old ws rs) (host_state new xs rs) kind payload (Err error))
      (sym (truncated ws us vs (unfed kind payload) n e f g)) (writer_unmade ws rs old new kind payload error (writer_call e f m)))

  pub writer_refused_fits : Fits old (ready_tell ws rs) → us ≡ ws ++ unfed kind payload ∷ [] → n ≡ length ws → vs ≡ take n us
      → NotDone old new (ready_tell us rs) (ready_tell us rs) error n New → IsAmongReady (host_state new vs rs)
  writer_refused_fits fits e f g m =
      let s = on_host_stays old new (ready_tell us rs) (ready_tell us rs) n New error m in
      record {
        fits = subst (λ (xs : List SendQueue). Fits new (ready_tell xs rs)) (sym (truncated ws us vs (unfed kind payload) n e f g))
            (subst (λ (state : State). Fits state (ready_tell ws rs)) (sym s.same) fits);
      }

module _ (host : HostState) (old new : State) (ws vs : List SendQueue) (rs ps qs zs : List ReceiveQueue) (kind : TransmitKind) (payload : Payload) (s : ℕ) (error : StoreError) (n : ℕ) where
  reader_call : ps ≡ rs ++ ungranted kind payload ∷ [] → n ≡ length rs → NotDone old new (ready_tell ws ps) (ready_tell vs qs) error n (Pipe s) → NoReader ws vs rs qs old new kind payload s error
  reader_call e f m =
      subst (λ (k : ℕ). NotDone old new (readers_tell_more ws rs kind payload) (ready_tell vs qs) error k (Pipe s)) f
      (subst (λ (xs : List ReceiveQueue). NotDone old new (ready_tell ws xs) (ready_tell vs qs) error n (Pipe s)) e m)

  -- a host reader was refused, and is none any more
  pub reader_refused : host_state old ws rs ≡ host → ps ≡ rs ++ ungranted kind payload ∷ [] → n ≡ length rs → zs ≡ take n qs
      → NotDone old new (ready_tell ws ps) (ready_tell vs qs) error n (Pipe s) → MakesReaderOf host (host_state new vs zs) kind payload s (Err error)
  reader_refused view e f g m =
      subst (λ (h : HostState). MakesReaderOf h (host_state new vs zs) kind payload s (Err error)) view
      (subst (λ (xs : List ReceiveQueue). MakesReaderOf (host_state old ws rs) (host_state new vs xs) kind payload s (Err error))
      (sym (g ∙ ap (λ k. take k qs) f)) (reader_unmade ws vs rs qs old new kind payload s error (reader_call e f m)))

  pub reader_refused_fits : Fits old (ready_tell ws rs) → ps ≡ rs ++ ungranted kind payload ∷ [] → n ≡ length rs → zs ≡ take n qs
      → NotDone old new (ready_tell ws ps) (ready_tell vs qs) error n (Pipe s) → IsAmongReady (host_state new vs zs)
  reader_refused_fits fits e f g m =
      let stays = tells_stay ws vs rs qs old new kind payload s error (reader_call e f m) in
      record {
        fits = subst (λ (xs : List ReceiveQueue). Fits new (ready_tell vs xs)) (sym (g ∙ ap (λ k. take k qs) f))
            (subst (λ (t : Tells). Fits new t) (sym stays.ends) (subst (λ (state : State). Fits state (ready_tell ws rs)) (sym stays.state) fits));
      }
