-- What a step does under other numbers, act by act: the same, with the stream's number in the reply
-- exchanged. A making, which alone chooses a number, stands in `RenamedSteps.antt`.
use Rattle.std.proofs.Common.{◌≡◌, ℕ, ◌<◌, true, List, [], ◌∷◌, ◌++◌, length, min, take, drop, replicate, set, Option, Some, None, Ok, Err, refl, sym, ap, ◌∙◌, subst}
use Rattle.std.specs.Prelude.{is_ok, is_some}
use Rattle.std.proofs.lemmas.List.{map-append, length-map}
use Rattle.strm_codes.specs.declared.codes.ReturnCode.{ReturnCode}
use Rattle.strm_codes.specs.declared.codes.TransmitIndex.{TransmitIndex}
use Rattle.strm_handles.specs.Handles.{inserted, no_handles}
use Rattle.strm_handles.specs.declared.entries.Entry.TheVariants as entries
use Rattle.strm_waitable_sets.specs.Sets.{Sets, no_sets, least_free, with_new_set, without_set}
use Rattle.strm_error_contexts.specs.Contexts.{Contexts, next_number, inserted as with_message, raised, context_dropped}
use Rattle.strm_machine.specs.Words.{Guest, Name, State, Operated, guest_in, sets_in, stream_at, named, end_named, stream_named, first_of, without_handle, next_in, handle_given, with_owner, Reaction, operates, written_back, removed, with_table, with_handles, report_on, is_loose, IsSound}
use Rattle.strm_machine.specs.declared.acts.NamedEnd.{NamedEnd}
use Rattle.strm_machine.specs.declared.streams.Side.{Side}
use Rattle.strm_machine.specs.declared.streams.Stream.{Stream}
use Rattle.strm_machine.specs.declared.streams.Owner.TheVariants.{Held, Loose}
use Rattle.strm_machine.specs.declared.acts.Act.{Act}
use Rattle.strm_machine.specs.declared.streams.Side.TheVariants.{Reading}
use Rattle.strm_machine.specs.Meetings.{begun}
use Rattle.strm_machine.specs.Operating.{operate}
use Rattle.strm_machine.specs.Endings.{delivered, dropped, code_of_cancel, cancelled}
use Rattle.strm_machine.specs.Tests.{side_named, items_asked}
use Rattle.strm_machine.specs.WaitableSets.{set_named, number_named, report_of_named, ready_in, sets_joined, sets_changed}
use Rattle.strm_machine.specs.State.{with_bytes}
use Rattle.strm_memory.specs.Bytes.{bytes_at}
use Rattle.strm_machine.specs.ErrorContexts.{context_given, context_number, message_named, message_in}
use Rattle.strm_machine.specs.Refusals.{handle_reasons, own_reasons, on_end_reasons, front_reasons, last_reasons, refusal}
use Rattle.strm_machine.specs.Reactions.{with_stream_at, tells, transfers, lowers, closes, on_loose, member_told, polls, on_set, on_context, on_end, makes, on_memory}
use Rattle.strm_machine.specs.declared.acts.Making.TheVariants as makings
use Rattle.strm_machine.specs.declared.acts.EndAct.{EndAct}
use Rattle.strm_machine.specs.declared.acts.EndAct.TheVariants.{Drop, Cancel, Lift, Operate}
use Rattle.strm_machine.specs.declared.acts.LooseAct.{LooseAct}
use Rattle.strm_machine.specs.declared.acts.LooseAct.TheVariants.{Lower, Close}
use Rattle.strm_machine.specs.declared.acts.SetAct.{SetAct}
use Rattle.strm_machine.specs.declared.acts.SetAct.TheVariants as set_acts
use Rattle.strm_machine.specs.declared.acts.ContextAct.{ContextAct}
use Rattle.strm_machine.specs.declared.acts.ContextAct.TheVariants as context_acts
use Rattle.strm_machine.specs.declared.acts.MemoryAct.{MemoryAct}
use Rattle.strm_machine.specs.declared.acts.MemoryAct.TheVariants.{Poke, Dump}
use Rattle.strm_machine.specs.declared.acts.Act.TheVariants.{Transfer, Event, OnSet, OnContext, Make, OnEnd, OnLoose, OnMemory}
use Rattle.strm_machine.specs.declared.replies.Reply.TheVariants as replies
use Rattle.strm_machine.proofs.RefusalLemmas.{none_of_both, named_ok, event_fits, move_fits, lower_fits, close_fits}
use Rattle.strm_machine.proofs.NamedEndLemmas.{found_there, end_there, end_found}
use Rattle.strm_machine.proofs.SetStepLemmas.{ready_member-is}
use Rattle.strm_place_laws.specs.Renaming.{guest_as, state_as, AreRenamed, Renames, ComesOut}
use Rattle.strm_place_laws.proofs.RenamedTables.{turn_as, memory_in-as, sets_in-as, operate-as}
use Rattle.strm_place_laws.proofs.RenamedStreams.{AreRenamed-set}
use Rattle.strm_place_laws.proofs.RenamedStates.{renames_by, other, number, set_named-as, context_number-as, message_named-as, next_in-as, without_handle-as, inserted_with-as, removed_with-as, handle_given-as, with_bytes-as, sets_changed-as, stream_of-as, number_of-as, side_of-as, stream_on-as, number_on-as, side_on-as, ready_in-as, number-at, number-loose}

-- what is done to an end, and nothing refuses, is done to one that is named
end_ok : (state : State) (side : Side) (end : NamedEnd) (act : EndAct) → first_of (on_end_reasons state side end act) ≡ None → is_ok (named state end) ≡ true
end_ok state side end act e =
    let first = none_of_both (front_reasons state end act) ((handle_reasons (named state end) ++ own_reasons state side end act) ++ last_reasons state end act) e in
    let second = none_of_both (handle_reasons (named state end) ++ own_reasons state side end act) (last_reasons state end act) first.1 in
    let third = none_of_both (handle_reasons (named state end)) (own_reasons state side end act) second.0 in
    named_ok state end third.0

-- a member that is ready is named
ready_ok : (state : State) (name : Name) → is_some (report_of_named state name) ≡ true → is_ok name ≡ true
ready_ok state (Ok answer) e = refl
ready_ok state (Err error) e = cc

module _ (f : ℕ → ℕ) (state : State) (streams : List Stream) (r : AreRenamed f state.streams streams) (h : IsSound state) (n : ℕ) where
  abbrev pub there : State
  there = other f state streams

  -- what a step does there, beside what it does
  abbrev pub Out : Act → Reaction → Reaction → Type 0
  Out act slim full = ComesOut f n there act slim full

  -- the streams are as they were, or one of them was set
  pub same_streams : (after full : State) → after.streams ≡ state.streams → full ≡ state_as f after streams → Renames f after full
  same_streams after full s e = renames_by f after full streams e (rw s r)

  one_stream : (after full : State) (k : ℕ) (x : Stream) → k < length state.streams → after.streams ≡ set state.streams k x → full ≡ state_as f after (set streams (f k) x) → Renames f after full
  one_stream after full k x l s e = renames_by f after full (set streams (f k) x) e (rw s (AreRenamed-set f state.streams streams r k x l))

  -- ## Reads and writes

  written-as : (act : Act) (s : ℕ) (t : Operated) (code : Option ReturnCode) → s < length state.streams → Out act (written_back state s t code) (written_back there (f s) (turn_as f t) code)
  written-as act s t (Some code) l = record { reply = refl; state = one_stream _ _ s t.stream l refl refl }
  written-as act s t None l = record { reply = refl; state = one_stream _ _ s t.stream l refl refl }

  operates-as : (side : Side) (end : NamedEnd) (address count : ℕ) → is_ok (named state end) ≡ true → Out (OnEnd side end (Operate address count)) (operates state side end address count) (operates there side end address count)
  operates-as side end address count ok =
      let act = OnEnd side end (Operate address count) in
      let s = stream_named (named state end) in
      let mine = begun end.guest address (items_asked end.ty count) in
      let t = operate side state.guests (stream_at state s) mine in
      let back : ℕ → Stream → Reaction = λ k x. let u = operate side there.guests x mine in written_back there k u u.code in
      let first : operates there side end address count ≡ back (f s) (stream_at state s) = λ i. back (number_of-as f state streams r h end ok i) (stream_of-as f state streams r h end ok i) in
      let same : operates there side end address count ≡ written_back there (f s) (turn_as f t) t.code = first ∙ ap (λ (u : Operated). written_back there (f s) u u.code) (operate-as f side state.guests (stream_at state s) mine) in
      subst (Out act (operates state side end address count)) (sym same) (written-as act s t t.code (found_there state end h ok))

  -- ## An end that is told, dropped, cancelled, or leaves its guest

  module _ (side : Side) (end : NamedEnd) (ok : is_ok (named state end) ≡ true) where
    abbrev s : ℕ
    s = stream_named (named state end)

    l : s < length state.streams
    l = found_there state end h ok

    pub drops-as : Out (OnEnd side end Drop) (on_end state side end Drop) (on_end there side end Drop)
    drops-as = record {
      reply = refl;
      state = one_stream _ _ s (dropped side (stream_at state s)) l refl
          (λ i. with_stream_at (without_handle-as f state streams end.guest end.handle i) (number_of-as f state streams r h end ok i) (dropped side (stream_of-as f state streams r h end ok i)));
    }

    pub cancels-as : Out (OnEnd side end Cancel) (on_end state side end Cancel) (on_end there side end Cancel)
    cancels-as = record {
      reply = ap (λ stream. replies.Code (code_of_cancel side stream)) (stream_of-as f state streams r h end ok);
      state = one_stream _ _ s (cancelled side (stream_at state s)) l refl
          (λ i. with_stream_at there (number_of-as f state streams r h end ok i) (cancelled side (stream_of-as f state streams r h end ok i)));
    }

    pub lifts-as : Out (OnEnd side end Lift) (on_end state side end Lift) (on_end there side end Lift)
    lifts-as = record {
      reply = ap replies.Number (number_of-as f state streams r h end ok);
      state = one_stream _ _ s (with_owner side (stream_at state s) Loose) l refl
          (λ i. with_stream_at (without_handle-as f state streams end.guest end.handle i) (number_of-as f state streams r h end ok i) (with_owner side (stream_of-as f state streams r h end ok i) Loose));
    }

  ends-as : (side : Side) (end : NamedEnd) (act : EndAct) → is_ok (named state end) ≡ true → Out (OnEnd side end act) (on_end state side end act) (on_end there side end act)
  ends-as side end (Operate address count) ok = operates-as side end address count ok
  ends-as side end Drop ok = drops-as side end ok
  ends-as side end Cancel ok = cancels-as side end ok
  ends-as side end Lift ok = lifts-as side end ok

  -- the end goes to a guest, whose next handle it gets once its own is freed
  module _ (end : NamedEnd) (to : ℕ) (ok : is_ok (named state end) ≡ true) where
    abbrev moved : ℕ
    moved = stream_named (named state end)

    abbrev freed : State
    freed = without_handle state end.guest end.handle

    abbrev side : Side
    side = side_named (named state end)

    freed-as : without_handle there end.guest end.handle ≡ state_as f freed streams
    freed-as = without_handle-as f state streams end.guest end.handle

    given_number : next_in (without_handle there end.guest end.handle) to ≡ next_in freed to
    given_number = ap (λ st. next_in st to) freed-as ∙ next_in-as f freed streams to

    given : handle_given (without_handle there end.guest end.handle) to (side_named (named there end)) end.ty (stream_named (named there end)) ≡ state_as f (handle_given freed to side end.ty moved) streams
    given =
        let first : handle_given (without_handle there end.guest end.handle) to (side_named (named there end)) end.ty (stream_named (named there end)) ≡ handle_given (state_as f freed streams) to side end.ty (f moved) =
        λ i. handle_given (freed-as i) to (side_of-as f state streams r h end i) end.ty (number_of-as f state streams r h end ok i) in
        first ∙ handle_given-as f freed streams to side end.ty moved

    transfers-as : Out (Transfer end to) (transfers state moved side end to) (transfers there (stream_named (named there end)) (side_named (named there end)) end to)
    transfers-as = record {
      reply = ap replies.Number given_number;
      state = one_stream _ _ moved (with_owner side (stream_at state moved) (Held to (next_in freed to))) (found_there state end h ok) refl
          (λ i. with_stream_at (given i) (number_of-as f state streams r h end ok i) (with_owner (side_of-as f state streams r h end i) (stream_of-as f state streams r h end ok i) (Held to (given_number i))));
    }

  -- ## A loose end

  module _ (reader : ℕ) (loose : is_loose (stream_at state reader).reader.owner ≡ true) where
    found : (reader < length state.streams) × (number f state streams reader ≡ f reader)
    found = number-loose f state streams r h reader loose

    lowers-as : (g : ℕ) (ty : TransmitIndex) → Out (OnLoose reader (Lower g ty)) (lowers state reader g ty) (lowers there (number f state streams reader) g ty)
    lowers-as g ty = record {
      reply = ap replies.Number (next_in-as f state streams g);
      state = one_stream _ _ reader (with_owner Reading (stream_at state reader) (Held g (next_in state g))) found.0 refl
          (λ i. with_stream_at (given i) (found.1 i) (with_owner Reading (number-at f state streams r h reader i) (Held g (next_in-as f state streams g i))));
    }
      where
        given : handle_given there g Reading ty (number f state streams reader) ≡ state_as f (handle_given state g Reading ty reader) streams
        given = ap (handle_given there g Reading ty) found.1 ∙ handle_given-as f state streams g Reading ty reader

    closes-as : Out (OnLoose reader Close) (closes state reader) (closes there (number f state streams reader))
    closes-as = record {
      reply = refl;
      state = one_stream _ _ reader (dropped Reading (stream_at state reader)) found.0 refl
          (λ i. with_stream_at there (found.1 i) (dropped Reading (number-at f state streams r h reader i)));
    }

  pub looses-as : (reader : ℕ) (act : LooseAct) → refusal state (OnLoose reader act) ≡ None → Out (OnLoose reader act) (on_loose state reader act) (on_loose there (number f state streams reader) act)
  looses-as reader (Lower g ty) e = lowers-as reader (lower_fits state reader g ty e).loose g ty
  looses-as reader Close e = closes-as reader (close_fits state reader e)

  -- ## Events, and members of sets

  module _ (g handle : ℕ) (ok : is_ok (end_named state g handle) ≡ true) where
    abbrev told_one : ℕ
    told_one = stream_named (end_named state g handle)

    abbrev told_side : Side
    told_side = side_named (end_named state g handle)

    report : report_on (side_named (end_named there g handle)) (stream_at there (stream_named (end_named there g handle))) ≡ report_on told_side (stream_at state told_one)
    report = λ i. report_on (side_on-as f state streams r h g handle i) (stream_on-as f state streams r h g handle ok i)

    told-as : Renames f (with_stream_at state told_one (delivered told_side (stream_at state told_one))) (with_stream_at there (stream_named (end_named there g handle)) (delivered (side_named (end_named there g handle)) (stream_at there (stream_named (end_named there g handle)))))
    told-as =
        one_stream _ _ told_one (delivered told_side (stream_at state told_one)) (end_there state g handle h ok) refl
        (λ i. with_stream_at there (number_on-as f state streams r h g handle ok i) (delivered (side_on-as f state streams r h g handle i) (stream_on-as f state streams r h g handle ok i)))

    events-as : Out (Event g handle) (tells state told_one told_side) (tells there (stream_named (end_named there g handle)) (side_named (end_named there g handle)))
    events-as = record { reply = ap replies.Event report; state = told-as }

    members-as : (set : ℕ) → Out (OnSet g set set_acts.Poll) (polls state g (Some handle)) (polls there g (Some handle))
    members-as set = record { reply = ap (λ code. replies.Member (member_told handle code)) report; state = told-as }

  polls-as : (g set : ℕ) (o : Option ℕ) → ready_in state g set ≡ o → Out (OnSet g set set_acts.Poll) (polls state g o) (polls there g o)
  polls-as g set None e = record { reply = refl; state = same_streams _ _ refl refl }
  polls-as g set (Some handle) e =
      members-as g handle (ready_ok state (end_named state g handle) (ready_member-is state g (number_named (set_named state g set)) handle e).0) set

  pub sets-as : (g set : ℕ) (act : SetAct) → Out (OnSet g set act) (on_set state g set act) (on_set there g set act)
  sets-as g set (set_acts.Join handle) = record { reply = refl; state = same_streams _ _ refl joined }
    where
      sets : Sets
      sets = sets_joined (sets_in state.guests g) set (set_named state g set) handle

      joined : sets_changed there g (sets_joined (sets_in there.guests g) set (set_named there g set) handle) ≡ state_as f (sets_changed state g sets) streams
      joined =
          let first : sets_changed there g (sets_joined (sets_in there.guests g) set (set_named there g set) handle) ≡ sets_changed there g sets =
          λ i. sets_changed there g (sets_joined (sets_in-as f state.guests g i) set (set_named-as f state streams g set i) handle) in
          first ∙ sets_changed-as f state streams g sets
  sets-as g set set_acts.Poll =
      subst (λ o. Out (OnSet g set set_acts.Poll) (polls state g (ready_in state g set)) (polls there g o)) (sym (ready_in-as f state streams r h g set)) (polls-as g set (ready_in state g set) refl)
  sets-as g set set_acts.Drop = record { reply = refl; state = same_streams _ _ refl gone }
    where
      gone : (on_set there g set set_acts.Drop).state ≡ state_as f (on_set state g set set_acts.Drop).state streams
      gone =
          ap (λ name. record there { guests = with_table there.guests g (removed (guest_in there.guests g).handles set) (without_set (sets_in there.guests g) (number_named name)) }) (set_named-as f state streams g set)
          ∙ ap (λ (guests : List Guest). record there { guests = guests }) (removed_with-as f state streams (λ sets. without_set sets (number_named (set_named state g set))) g set)

  -- ## Error contexts

  -- a handle more to the error context of a number, and these error contexts
  context_given-as : (g number : ℕ) (contexts : Contexts) → context_given there g number contexts ≡ state_as f (context_given state g number contexts) streams
  context_given-as g number contexts =
      ap (λ (guests : List Guest). record there { guests = guests; contexts = contexts }) (inserted_with-as f state streams (λ sets. sets) g (entries.ErrorContext number))

  pub contexts-as : (g handle : ℕ) (act : ContextAct) → Out (OnContext g handle act) (on_context state g handle act) (on_context there g handle act)
  contexts-as g handle (context_acts.Text address) = record {
    reply = ap (λ (m : List ℕ). replies.Number (length m)) (message_named-as f state streams g handle);
    state = same_streams _ _ refl (ap (with_bytes there g address) (message_named-as f state streams g handle) ∙ with_bytes-as f state streams g address (message_named state g handle));
  }
  contexts-as g handle (context_acts.Move to) = record {
    reply = ap replies.Number (next_in-as f state streams to);
    state = same_streams _ _ refl
        (ap (λ k. context_given there to k (raised state.contexts k)) (context_number-as f state streams g handle)
        ∙ context_given-as to (context_number state g handle) (raised state.contexts (context_number state g handle)));
  }
  contexts-as g handle context_acts.Drop = record {
    reply = refl;
    state = same_streams _ _ refl
        (ap (λ k. record there { guests = with_handles there.guests g (removed (guest_in there.guests g).handles handle); contexts = context_dropped state.contexts k }) (context_number-as f state streams g handle)
        ∙ ap (λ (guests : List Guest). record there { guests = guests; contexts = context_dropped state.contexts (context_number state g handle) }) (removed_with-as f state streams (λ sets. sets) g handle));
  }

  -- ## Memories, and what is made but streams

  pub memories-as : (g : ℕ) (act : MemoryAct) → Out (OnMemory g act) (on_memory state g act) (on_memory there g act)
  memories-as g (Poke address bytes) = record { reply = refl; state = same_streams _ _ refl (with_bytes-as f state streams g address bytes) }
  memories-as g (Dump address len) = record {
    reply = ap (λ (m : List ℕ). replies.Bytes (take (min len 64) (drop address m))) (memory_in-as f state.guests g);
    state = same_streams _ _ refl refl;
  }

  pub guests-as : (size : ℕ) → Out (Make (makings.Guest size)) (makes state (makings.Guest size)) (makes there (makings.Guest size))
  guests-as size = record {
    reply = ap replies.Number (length-map state.guests (guest_as f));
    state = same_streams _ _ refl (ap (λ (guests : List Guest). record there { guests = guests }) (sym (map-append (guest_as f) state.guests (new ∷ []))));
  }
    where
      new : Guest
      new = record { memory = replicate size 0; base = None; handles = no_handles; sets = no_sets }

  pub made_sets-as : (g : ℕ) → Out (Make (makings.Set g)) (makes state (makings.Set g)) (makes there (makings.Set g))
  made_sets-as g = record { reply = ap replies.Number (next_in-as f state streams g); state = same_streams _ _ refl made }
    where
      made : (makes there (makings.Set g)).state ≡ state_as f (makes state (makings.Set g)).state streams
      made =
          ap (λ sets. record there { guests = with_table there.guests g (inserted (guest_in there.guests g).handles (entries.WaitableSet (least_free sets))) (with_new_set (sets_in there.guests g)) }) (sets_in-as f state.guests g)
          ∙ ap (λ (guests : List Guest). record there { guests = guests }) (inserted_with-as f state streams with_new_set g (entries.WaitableSet (least_free (sets_in state.guests g))))

  pub made_contexts-as : (g address len : ℕ) → Out (Make (makings.Context g address len)) (makes state (makings.Context g address len)) (makes there (makings.Context g address len))
  made_contexts-as g address len = record {
    reply = ap replies.Number (next_in-as f state streams g);
    state = same_streams _ _ refl
        (ap (λ m. context_given there g (next_number state.contexts) (with_message state.contexts (bytes_at m address len))) (memory_in-as f state.guests g)
        ∙ context_given-as g (next_number state.contexts) (with_message state.contexts (message_in state g address len)));
  }

  -- ## Every act but a making of a stream

  -- an act that nothing refuses
  abbrev Accepts : Act → Type 0
  Accepts act = refusal state act ≡ None

  pub on_end-as : (side : Side) (end : NamedEnd) (act : EndAct) → Accepts (OnEnd side end act) → Out (OnEnd side end act) (on_end state side end act) (on_end there side end act)
  unfolding refusal
  on_end-as side end act e = ends-as side end act (end_ok state side end act e)

  pub moves-as : (end : NamedEnd) (to : ℕ) → Accepts (Transfer end to) → Out (Transfer end to) (transfers state (stream_named (named state end)) (side_named (named state end)) end to) (transfers there (stream_named (named there end)) (side_named (named there end)) end to)
  moves-as end to e = transfers-as end to (named_ok state end (move_fits state end to e).leaves.found)

  pub told_ends-as : (g handle : ℕ) → Accepts (Event g handle) → Out (Event g handle) (tells state (stream_named (end_named state g handle)) (side_named (end_named state g handle))) (tells there (stream_named (end_named there g handle)) (side_named (end_named there g handle)))
  told_ends-as g handle e = events-as g handle (end_found state g handle (event_fits state g handle e).found)
