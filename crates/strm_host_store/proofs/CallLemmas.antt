-- Calls among ready host ends, of which records are forgotten before they answer.
use Rattle.std.proofs.Common.{◌≡◌, ℕ, List, map, Option, Some, None, sym, subst, ◌∙◌, ap}
use Rattle.std.specs.Prelude.{slice_set, Result}
use Rattle.strm_codes.specs.declared.codes.ReturnCode.{ReturnCode}
use Rattle.strm_buffers.specs.Tells.{Tells}
use Rattle.strm_machine.specs.State.{State}
use Rattle.strm_machine.specs.declared.acts.Act.{Act}
use Rattle.strm_machine.specs.declared.acts.Act.TheVariants.{OnEnd}
use Rattle.strm_machine.specs.declared.acts.EndAct.TheVariants.{Operate}
use Rattle.strm_machine.specs.declared.acts.NamedEnd.{NamedEnd}
use Rattle.strm_machine.specs.declared.replies.Reply.{Reply}
use Rattle.strm_machine.specs.declared.replies.Reply.TheVariants as replies
use Rattle.strm_machine.specs.declared.streams.Side.{Side}
use Rattle.strm_machine.specs.declared.streams.Side.TheVariants.{Writing, Reading}
use Rattle.strm_transmit.specs.Hosted.{MeetsHosted, RunsOutNoneHeld}
use Rattle.strm_transmit.specs.Meets.{as_reply}
use Rattle.strm_transmit.specs.declared.errors.StoreError.{StoreError}
use Rattle.strm_ready_ends.specs.SendQueues.{SendQueue, forgotten}
use Rattle.strm_ready_ends.specs.ReceiveQueues.{ReceiveQueue, reader_forgotten}
use Rattle.strm_host_store.specs.HostStates.{HostState, host_state, ready_tell, tells_in, queue_in, reader_queue_in, IsAmongReady}
use Rattle.strm_host_store.specs.Calls.{PollsAmong, OperatesBy, OperatesAmong, RunsOutPolling, forgotten_across, all_forgotten, host_across}
use Rattle.strm_host_store.proofs.FitLemmas.{read_fits, write_fits, drive_fits}
use Rattle.strm_host_store.proofs.ReadyLemmas.{forgets_writer, forgets_reader, forgets_all}

-- other lists that are these
abbrev pub TellSame : List SendQueue → List SendQueue → List ReceiveQueue → List ReceiveQueue → Type 0
TellSame vs us qs ps = ready_tell vs qs ≡ ready_tell us ps

pub tell_same : (vs us : List SendQueue) (qs ps : List ReceiveQueue) → vs ≡ us → qs ≡ ps → TellSame vs us qs ps
tell_same vs us qs ps e f = ap (λ (ws : List SendQueue). ready_tell ws qs) e ∙ ap (λ (rs : List ReceiveQueue). ready_tell us rs) f

pub among_same : (state : State) (vs us : List SendQueue) (qs ps : List ReceiveQueue) → vs ≡ us → qs ≡ ps → IsAmongReady (host_state state us ps) → IsAmongReady (host_state state vs qs)
among_same state vs us qs ps e f among =
    subst (λ (ws : List SendQueue). IsAmongReady (host_state state ws qs)) (sym e) (subst (λ (rs : List ReceiveQueue). IsAmongReady (host_state state us rs)) (sym f) among)

-- a call that polled, from a store that had these ends, and what they are behind it and behind what is forgotten
module _ (host : HostState) (old new : State) (us ws vs : List SendQueue) (ps rs qs : List ReceiveQueue) where
  polls : (result : Result Reply StoreError) (act : Act) (forgets : Tells → Tells) → host_state old us ps ≡ host → MeetsHosted old new (ready_tell us ps) (ready_tell ws rs) result act
      → ready_tell vs qs ≡ forgets (ready_tell ws rs) → PollsAmong host (host_state new vs qs) result act forgets
  polls result act forgets view m e =
      subst (λ (h : HostState). PollsAmong h (host_state new vs qs) result act forgets) view (record { told = ready_tell ws rs; meets = m; after = e })

  -- a drive
  pub drives : (result : Result Reply StoreError) (act : Act) → host_state old us ps ≡ host → MeetsHosted old new (ready_tell us ps) (ready_tell ws rs) result act
      → vs ≡ map forgotten ws → qs ≡ map reader_forgotten rs → PollsAmong host (host_state new vs qs) result act all_forgotten
  drives result act view m e f =
      polls result act all_forgotten view m (tell_same vs (map forgotten ws) qs (map reader_forgotten rs) e f ∙ forgets_all ws rs)

  pub drive_among : (result : Result Reply StoreError) (act : Act) → MeetsHosted old new (ready_tell us ps) (ready_tell ws rs) result act
      → vs ≡ map forgotten ws → qs ≡ map reader_forgotten rs → IsAmongReady (host_state new vs qs)
  drive_among result act m e f =
      among_same new vs (map forgotten ws) qs (map reader_forgotten rs) e f (drive_fits old new (ready_tell us ps) ws rs result act m)

  module _ (end : NamedEnd) (address count number : ℕ) (result : Result ReturnCode StoreError) where
    -- a read or write, as the store did it
    abbrev pub Did : Side → Type 0
    Did side = MeetsHosted old new (ready_tell us ps) (ready_tell ws rs) (as_reply replies.Code result) (OnEnd side end (Operate address count))

    -- and what it is among the host ends
    abbrev PollsAcross : Side → Type 0
    PollsAcross side = PollsAmong host (host_state new vs qs) (as_reply replies.Code result) (OnEnd side end (Operate address count)) (forgotten_across side number)

    across : (side : Side) → Some number ≡ host_across host.state side end.guest end.handle → PollsAcross side
        → OperatesAmong host (host_state new vs qs) side end address count result
    across side e p =
        subst (λ (o : Option ℕ). OperatesBy o host (host_state new vs qs) side (OnEnd side end (Operate address count)) (as_reply replies.Code result)) e p

    -- a read with a host writer across
    pub reads : host_state old us ps ≡ host → Some number ≡ host_across host.state Reading end.guest end.handle → Did Reading
        → vs ≡ slice_set ws number (forgotten (queue_in ws number)) → qs ≡ rs → OperatesAmong host (host_state new vs qs) Reading end address count result
    reads view e m f g =
        across Reading e (polls (as_reply replies.Code result) (OnEnd Reading end (Operate address count)) (forgotten_across Reading number) view m
        (tell_same vs (slice_set ws number (forgotten (queue_in ws number))) qs rs f g ∙ forgets_writer ws rs number))

    pub read_among : Did Reading → vs ≡ slice_set ws number (forgotten (queue_in ws number)) → qs ≡ rs → IsAmongReady (host_state new vs qs)
    read_among m f g =
        among_same new vs (slice_set ws number (forgotten (queue_in ws number))) qs rs f g
        (read_fits old new (ready_tell us ps) ws rs (as_reply replies.Code result) (OnEnd Reading end (Operate address count)) number m)

    -- a write with a host reader across
    pub writes : host_state old us ps ≡ host → Some number ≡ host_across host.state Writing end.guest end.handle → Did Writing
        → vs ≡ ws → qs ≡ slice_set rs number (reader_forgotten (reader_queue_in rs number)) → OperatesAmong host (host_state new vs qs) Writing end address count result
    writes view e m f g =
        across Writing e (polls (as_reply replies.Code result) (OnEnd Writing end (Operate address count)) (forgotten_across Writing number) view m
        (tell_same vs ws qs (slice_set rs number (reader_forgotten (reader_queue_in rs number))) f g ∙ forgets_reader ws rs number))

    pub write_among : Did Writing → vs ≡ ws → qs ≡ slice_set rs number (reader_forgotten (reader_queue_in rs number)) → IsAmongReady (host_state new vs qs)
    write_among m f g =
        among_same new vs ws qs (slice_set rs number (reader_forgotten (reader_queue_in rs number))) f g
        (write_fits old new (ready_tell us ps) ws rs (as_reply replies.Code result) (OnEnd Writing end (Operate address count)) number m)

    -- WANT OF MEMORY

    -- with a host end across it may run out, but not for items that are held
    pub runs_out : (side : Side) → host_state old us ps ≡ host → Some number ≡ host_across host.state side end.guest end.handle
        → RunsOutNoneHeld old (ready_tell us ps) (OnEnd side end (Operate address count)) result → RunsOutPolling host side end address count result
    runs_out side view e held = record {
      across = λ none. let wrong : Some number ≡ None = e ∙ none in cc;
      held = subst (λ (h : HostState). RunsOutNoneHeld h.state (tells_in h) (OnEnd side end (Operate address count)) result) view held;
    }
