-- A step is refused under other numbers exactly where it is refused, with the same refusal.
use Rattle.std.proofs.Common.{◌≡◌, ℕ, ◌+◌, ◌<◌, Bool, true, false, List, [], ◌∷◌, ◌++◌, length, min, Ok, Err, refl, sym, ap, ◌∙◌, arith}
use Rattle.std.specs.Prelude.{◌||◌, not, ◌==◌, cond, is_ok, nat_le, nat_lt, IfErr}
use Rattle.std.proofs.lemmas.Bool.Decides.{nat_tests}
use Rattle.std.proofs.lemmas.List.{length-map}
use Rattle.std.specs.Option.{option_or}
use Rattle.std.specs.Str.{is_utf8}
use Rattle.strm_codes.specs.declared.codes.TransmitIndex.{TransmitIndex}
use Rattle.strm_codes.specs.declared.refusals.Refusal.{Refusal}
use Rattle.strm_codes.specs.declared.refusals.Refusal.TheVariants as refusals
use Rattle.strm_codes.specs.Layout.{item_type}
use Rattle.strm_memory.specs.Region as region
use Rattle.strm_handles.specs.declared.errors.HandleError.TheVariants as errors
use Rattle.strm_memory.specs.Bytes.{bytes_at}
use Rattle.strm_machine.specs.Words.{Name, State, guest_in, memory_in, payload_of, stream_at, named, end_named, stream_named, first_of, next_in, without_handle, handle_given, is_loose, IsSound}
use Rattle.strm_machine.specs.declared.acts.NamedEnd.{NamedEnd}
use Rattle.strm_machine.specs.declared.streams.Side.{Side}
use Rattle.strm_machine.specs.declared.streams.Stream.{Stream}
use Rattle.strm_machine.specs.declared.streams.Side.TheVariants.{Reading}
use Rattle.strm_machine.specs.declared.acts.Act.{Act}
use Rattle.strm_machine.specs.State.{memory_limit, guest_limit, stream_limit}
use Rattle.strm_machine.specs.Making.{writer_index}
use Rattle.strm_machine.specs.Tests.{side_of, side_named, is_unknown_guest, are_streams_full, is_no_handle, is_too_big, items_asked, names_misaligned, are_bytes_out_of_bounds, is_of_other_kind, is_of_other_payload}
use Rattle.strm_machine.specs.WaitableSets.{set_named, number_named, has_member}
use Rattle.strm_machine.specs.ErrorContexts.{message_named, is_message_too_long}
use Rattle.strm_machine.specs.Refusals.{Reason, where_, handle_reasons, own_reasons_of, front_reasons, last_reasons, on_end_reasons, leave_reasons_of, given_reasons, transfer_reasons, reader_reasons, on_loose_reasons, slot_reasons, set_reasons, context_reasons, handle_more_reasons, on_context_reasons, making_reasons, bytes_reasons, memory_reasons, region_reasons, reasons, refusal}
use Rattle.strm_machine.specs.declared.acts.Making.{Making}
use Rattle.strm_machine.specs.declared.acts.Making.TheVariants as makings
use Rattle.strm_machine.specs.declared.acts.EndAct.{EndAct}
use Rattle.strm_machine.specs.declared.acts.EndAct.TheVariants.{Drop, Cancel, Lift, Operate}
use Rattle.strm_machine.specs.declared.acts.LooseAct.{LooseAct}
use Rattle.strm_machine.specs.declared.acts.LooseAct.TheVariants.{Lower, Close}
use Rattle.strm_machine.specs.declared.acts.SetAct.{SetAct}
use Rattle.strm_machine.specs.declared.acts.SetAct.TheVariants as set_acts
use Rattle.strm_machine.specs.declared.acts.ContextAct.{ContextAct}
use Rattle.strm_machine.specs.declared.acts.ContextAct.TheVariants as context_acts
use Rattle.strm_machine.specs.declared.acts.MemoryAct.{MemoryAct}
use Rattle.strm_machine.specs.declared.acts.MemoryAct.TheVariants.{Poke, Dump}
use Rattle.strm_machine.specs.declared.acts.Act.TheVariants.{Transfer, OnHost, Drive, Event, OnSet, OnContext, Make, OnEnd, OnLoose, OnMemory}
use Rattle.strm_machine.proofs.NameLemmas.{IsNameError, named_by-error}
use Rattle.strm_machine.proofs.NamedEndLemmas.{found_there}
use Rattle.strm_machine.proofs.ReactionLemmas.{first_of-append}
use Rattle.strm_places.specs.Again.{is_making}
use Rattle.strm_places.proofs.AgainLemmas.{next-read_end}
use Rattle.strm_place_laws.specs.Renaming.{guest_as, guests_as, act_as, AreRenamed}
use Rattle.strm_place_laws.proofs.RenamedTables.{name_as, memory_in-as}
use Rattle.strm_place_laws.proofs.RenamedStates.{other, named-as, end_named-as, set_named-as, context_named-as, message_named-as, next_in-as, is_unknown_guest-as, are_handles_full-as, are_places_full-as, bytes_in_use-as, is_in_set-as, has_member-as, without_handle-as, handle_given-as, number, number-at}

-- a list of reasons by its first and its rest
first_and : {xs ys : List Reason} (r : Refusal) (a b : Bool) → a ≡ b → xs ≡ ys → where_ a r ∷ xs ≡ where_ b r ∷ ys
first_and r a b e es = λ i. where_ (e i) r ∷ es i

-- what stands before and behind some reasons
around : {front front' last last' : List Reason} (mid : List Reason) → front ≡ front' → last ≡ last' → first_of (front ++ (mid ++ last)) ≡ first_of (front' ++ (mid ++ last'))
around mid e g = λ i. first_of (e i ++ (mid ++ g i))

-- of two lists, of which both begin alike and then hold the first reasons alike
behind : (front xs ys : List Reason) → first_of xs ≡ first_of ys → first_of (front ++ xs) ≡ first_of (front ++ ys)
behind front xs ys e = first_of-append front xs ∙ ap (option_or (first_of front)) e ∙ sym (first_of-append front ys)

slots-as : (f : ℕ → ℕ) (name : Name) → slot_reasons (name_as f name) ≡ slot_reasons name
slots-as f (Ok answer) = refl
slots-as f (Err error) = refl

not_full : (n : ℕ) → n < stream_limit → nat_le stream_limit n ≡ false
not_full n l = grind (arith, nat_tests)

module _ (f : ℕ → ℕ) (state : State) (streams : List Stream) where
  -- ## What is looked at of guests

  memory-as : (g : ℕ) → memory_in (other f state streams).guests g ≡ memory_in state.guests g
  memory-as g = memory_in-as f state.guests g

  unknown : (g : ℕ) → is_unknown_guest (other f state streams) g ≡ is_unknown_guest state g
  unknown g = is_unknown_guest-as f state streams g

  unknown_either : (g k : ℕ) → is_unknown_guest (other f state streams) g || is_unknown_guest (other f state streams) k ≡ is_unknown_guest state g || is_unknown_guest state k
  unknown_either g k = λ i. unknown g i || unknown k i

  out_of_bounds : (g address count : ℕ) → are_bytes_out_of_bounds (other f state streams) g address count ≡ are_bytes_out_of_bounds state g address count
  out_of_bounds g address count = ap (λ (m : List ℕ). region.bytes_out_of_bounds (length m) address count) (memory-as g)

  region-as : (g : ℕ) (ty : TransmitIndex) (address count : ℕ) → region_reasons (other f state streams) g ty address count ≡ region_reasons state g ty address count
  region-as g ty address count =
      first_and refusals.UnknownGuest _ _ (unknown g)
      (ap (λ b. where_ (is_too_big ty count) refusals.StreamOpTooBig ∷ where_ b refusals.OutOfBounds ∷ where_ (names_misaligned ty address count) refusals.NotAligned ∷ [])
      (ap (λ (m : List ℕ). region.is_out_of_bounds (length m) (item_type (payload_of ty)) address (items_asked ty count)) (memory-as g)))

  front-as : (end : NamedEnd) (act : EndAct) → front_reasons (other f state streams) end act ≡ front_reasons state end act
  front-as end (Operate address count) = region-as end.guest end.ty address count
  front-as end Drop = first_and refusals.UnknownGuest _ _ (unknown end.guest) refl
  front-as end Cancel = first_and refusals.UnknownGuest _ _ (unknown end.guest) refl
  front-as end Lift = first_and refusals.UnknownGuest _ _ (unknown end.guest) refl

  last-as : (end : NamedEnd) (act : EndAct) → last_reasons (other f state streams) end act ≡ last_reasons state end act
  last-as end (Operate address count) = refl
  last-as end Drop = refl
  last-as end Cancel = refl
  last-as end Lift = first_and refusals.LiftInSet _ _ (is_in_set-as f state streams end.guest end.handle) refl

  bytes-as : (g address count : ℕ) → bytes_reasons (other f state streams) g address count ≡ bytes_reasons state g address count
  bytes-as g address count =
      first_and refusals.UnknownGuest _ _ (unknown g) (first_and refusals.OutOfBounds _ _ (out_of_bounds g address count) refl)

  next-as : (g : ℕ) → is_no_handle (next_in (other f state streams) g) ≡ is_no_handle (next_in state g)
  next-as g = ap is_no_handle (next_in-as f state streams g)

  more-as : (g : ℕ) → handle_more_reasons (other f state streams) g ≡ handle_more_reasons state g
  more-as g =
      first_and refusals.IndexOverflow _ _ (next-as g)
      (first_and refusals.HandleLimit _ _ (are_handles_full-as f state streams 1) refl)

  context-as : (g handle : ℕ) → context_reasons (other f state streams) g handle ≡ context_reasons state g handle
  context-as g handle = first_and refusals.UnknownGuest _ _ (unknown g) (ap slot_reasons (context_named-as f state streams g handle))

  memory_acts-as : (g : ℕ) (act : MemoryAct) → memory_reasons (other f state streams) g act ≡ memory_reasons state g act
  memory_acts-as g (Poke address bytes) = bytes-as g address (length bytes)
  memory_acts-as g (Dump address len) = bytes-as g address (min len 64)

  contexts-as : (g handle : ℕ) (act : ContextAct) → on_context_reasons (other f state streams) g handle act ≡ on_context_reasons state g handle act
  contexts-as g handle (context_acts.Text address) =
      λ i. context-as g handle i ++ where_ (texts i) refusals.OutOfBounds ∷ []
    where
      texts : are_bytes_out_of_bounds (other f state streams) g address (length (message_named (other f state streams) g handle)) ≡ are_bytes_out_of_bounds state g address (length (message_named state g handle))
      texts = ap (λ (m : List ℕ). are_bytes_out_of_bounds (other f state streams) g address (length m)) (message_named-as f state streams g handle) ∙ out_of_bounds g address (length (message_named state g handle))
  contexts-as g handle (context_acts.Move to) =
      first_and refusals.UnknownGuest _ _ (unknown_either g to)
      (λ i. slot_reasons (context_named-as f state streams g handle i) ++ more-as to i)
  contexts-as g handle context_acts.Drop = context-as g handle

  sets-as : (g set : ℕ) (act : SetAct) → set_reasons (other f state streams) g set act ≡ set_reasons state g set act
  sets-as g set (set_acts.Join handle) =
      λ i. cond (set == 0) [] (slot_reasons (set_named-as f state streams g set i)) ++ ends i
    where
      ends : slot_reasons (end_named (other f state streams) g handle) ≡ slot_reasons (end_named state g handle)
      ends = ap slot_reasons (end_named-as f state streams g handle) ∙ slots-as f (end_named state g handle)
  sets-as g set set_acts.Poll = ap slot_reasons (set_named-as f state streams g set)
  sets-as g set set_acts.Drop =
      λ i. slot_reasons (set_named-as f state streams g set i) ++ where_ (members i) refusals.SetNotEmpty ∷ []
    where
      members : has_member (other f state streams) g (number_named (set_named (other f state streams) g set)) ≡ has_member state g (number_named (set_named state g set))
      members = ap (λ n. has_member (other f state streams) g (number_named n)) (set_named-as f state streams g set) ∙ has_member-as f state streams g (number_named (set_named state g set))

  -- ## What is looked at of a stream

  module _ (r : AreRenamed f state.streams streams) (h : IsSound state) where
    -- reasons of the handle, and then of the end that it names
    abbrev middle : Name → State → (Stream → Side → List Reason) → List Reason
    middle name at own = handle_reasons name ++ own (stream_at at (stream_named name)) (side_named name)

    -- where none is named, the first reason is of the handle
    middle-as : (name : Name) (own : Stream → Side → List Reason) (last : List Reason) → IfErr name IsNameError → (is_ok name ≡ true → stream_named name < length state.streams) → first_of (middle (name_as f name) (other f state streams) own ++ last) ≡ first_of (middle name state own ++ last)
    middle-as (Ok answer) own last error l = ap (λ stream. first_of (own stream (side_of answer.1) ++ last)) (r.same answer.0 (l refl))
    middle-as (Err errors.UnknownHandle) own last error l = refl
    middle-as (Err errors.WrongKind) own last error l = refl
    middle-as (Err errors.WrongType) own last error l = refl
    middle-as (Err errors.IndexOverflow) own last error l = absurd error
    middle-as (Err errors.HandleLimit) own last error l = absurd error
    middle-as (Err errors.WrongEnd) own last error l = absurd error
    middle-as (Err errors.Busy) own last error l = absurd error
    middle-as (Err errors.Lent) own last error l = absurd error
    middle-as (Err errors.TooManyLends) own last error l = absurd error
    middle-as (Err errors.OutOfMemory) own last error l = absurd error

    named_middle : (end : NamedEnd) (own : Stream → Side → List Reason) (last : List Reason) → first_of (middle (named (other f state streams) end) (other f state streams) own ++ last) ≡ first_of (middle (named state end) state own ++ last)
    named_middle end own last =
        ap (λ name. first_of (middle name (other f state streams) own ++ last)) (named-as f state streams end)
        ∙ middle-as (named state end) own last (named_by-error end.ty (guest_in state.guests end.guest).handles end.handle) (found_there state end h)

    ends-as : (side : Side) (end : NamedEnd) (act : EndAct) → first_of (on_end_reasons (other f state streams) side end act) ≡ first_of (on_end_reasons state side end act)
    ends-as side end act =
        let own : Stream → Side → List Reason = λ stream named. own_reasons_of stream side end act named in
        around (middle (named (other f state streams) end) (other f state streams) own) (front-as end act) (last-as end act)
        ∙ behind (front_reasons state end act) _ _ (named_middle end own (last_reasons state end act))

    transfers-as : (end : NamedEnd) (to : ℕ) → first_of (transfer_reasons (other f state streams) end to) ≡ first_of (transfer_reasons state end to)
    transfers-as end to =
        around (middle (named (other f state streams) end) (other f state streams) leave_reasons_of)
        (first_and {xs = []} {ys = []} refusals.UnknownGuest (is_unknown_guest (other f state streams) end.guest || is_unknown_guest (other f state streams) to) (is_unknown_guest state end.guest || is_unknown_guest state to) (unknown_either end.guest to) refl) given-as
        ∙ behind (where_ (is_unknown_guest state end.guest || is_unknown_guest state to) refusals.UnknownGuest ∷ [])
        (middle (named (other f state streams) end) (other f state streams) leave_reasons_of ++ given_reasons state end to)
        (middle (named state end) state leave_reasons_of ++ given_reasons state end to)
        (named_middle end leave_reasons_of (given_reasons state end to))
      where
        number_given : next_in (without_handle (other f state streams) end.guest end.handle) to ≡ next_in (without_handle state end.guest end.handle) to
        number_given =
            ap (λ st. next_in st to) (without_handle-as f state streams end.guest end.handle)
            ∙ next_in-as f (without_handle state end.guest end.handle) streams to

        given-as : given_reasons (other f state streams) end to ≡ given_reasons state end to
        given-as =
            first_and refusals.LiftInSet _ _ (is_in_set-as f state streams end.guest end.handle)
            (first_and refusals.IndexOverflow _ _ (ap is_no_handle number_given) refl)

    loose-as : (reader : ℕ) (act : LooseAct) → on_loose_reasons (other f state streams) (number f state streams reader) act ≡ on_loose_reasons state reader act
    loose-as reader (Lower g ty) =
        first_and refusals.UnknownGuest _ _ (unknown g) (λ i. readers i ++ more-as g i)
      where
        readers : reader_reasons (other f state streams) (number f state streams reader) ty ≡ reader_reasons state reader ty
        readers = ap (λ (stream : Stream). where_ (not (is_loose stream.reader.owner)) refusals.UnknownReader ∷ where_ (is_of_other_kind ty stream) refusals.WrongKind ∷ where_ (is_of_other_payload ty stream) refusals.WrongType ∷ []) (number-at f state streams r h reader)
    loose-as reader Close =
        first_and refusals.UnknownReader _ _ (ap (λ (stream : Stream). not (is_loose stream.reader.owner)) (number-at f state streams r h reader)) refl

    -- ## What is made

    streams_full-as : length streams < stream_limit → are_streams_full (other f state streams) ≡ are_streams_full state
    streams_full-as room = not_full (length streams) room ∙ sym (not_full (length state.streams) (omega (arith, room, r.few)))

    pub writer_index-as : (writer reader : ℕ) (ty : TransmitIndex) → writer_index (other f state streams) writer reader ty ≡ writer_index state writer reader ty
    writer_index-as writer reader ty =
        next-read_end (guests_as f state.guests) reader writer ty (length streams) (f (length state.streams))
        ∙ ap (λ st. next_in st writer) (handle_given-as f state streams reader Reading ty (length state.streams))
        ∙ next_in-as f (handle_given state reader Reading ty (length state.streams)) streams writer

    -- a making looks at how many streams there are
    abbrev HasRoom : Act → Type 0
    HasRoom act = is_making act ≡ true → length streams < stream_limit

    makings-as : (making : Making) → HasRoom (Make making) → making_reasons (other f state streams) making ≡ making_reasons state making
    makings-as (makings.Guest size) room =
        first_and refusals.MemoryTooBig _ _ (ap (λ n. nat_lt memory_limit (n + size)) (bytes_in_use-as f state streams))
        (first_and refusals.Full _ _ (ap (nat_le guest_limit) (length-map state.guests (guest_as f))) refl)
    makings-as (makings.Between writer reader ty) room =
        first_and refusals.UnknownGuest _ _ (unknown_either writer reader)
        (first_and refusals.IndexOverflow _ _ (λ i. is_no_handle (next_in-as f state streams reader i) || is_no_handle (writer_index-as writer reader ty i))
        (first_and refusals.HandleLimit _ _ (are_handles_full-as f state streams 2)
        (first_and refusals.Full _ _ (λ i. are_places_full-as f state streams r.live 3 i || streams_full-as (room refl) i) refl)))
    makings-as (makings.Set g) room =
        first_and refusals.UnknownGuest _ _ (unknown g)
        (first_and refusals.IndexOverflow _ _ (next-as g)
        (first_and refusals.HandleLimit _ _ (are_handles_full-as f state streams 1)
        (first_and refusals.Full _ _ (are_places_full-as f state streams r.live 1) refl)))
    makings-as (makings.Context g address len) room =
        first_and refusals.UnknownGuest _ _ (unknown g)
        (ap (λ xs. where_ (is_message_too_long len) refusals.MessageTooLong ∷ xs)
        (first_and refusals.OutOfBounds _ _ (out_of_bounds g address len)
        (first_and refusals.BadText _ _ (ap (λ (m : List ℕ). not (is_utf8 (bytes_at m address len))) (memory-as g))
        (λ i. more-as g i ++ where_ (are_places_full-as f state streams r.live 1 i) refusals.Full ∷ []))))

    -- ## Every act

    reasons-as : (act : Act) → HasRoom act → first_of (reasons (other f state streams) (act_as (number f state streams) act)) ≡ first_of (reasons state act)
    reasons-as (Make making) room = ap first_of (makings-as making room)
    reasons-as (OnEnd side end act) room = ends-as side end act
    reasons-as (Transfer end to) room = transfers-as end to
    reasons-as (OnLoose reader act) room = ap first_of (loose-as reader act)
    reasons-as (OnHost host act) room = refl
    reasons-as Drive room = refl
    reasons-as (Event g handle) room =
        ap first_of (first_and refusals.UnknownGuest _ _ (unknown g) (ap slot_reasons (end_named-as f state streams g handle) ∙ slots-as f (end_named state g handle)))
    reasons-as (OnSet g set act) room = ap first_of (first_and refusals.UnknownGuest _ _ (unknown g) (sets-as g set act))
    reasons-as (OnContext g handle act) room = ap first_of (contexts-as g handle act)
    reasons-as (OnMemory g act) room = ap first_of (memory_acts-as g act)

    pub refusal-as : (act : Act) → HasRoom act → refusal (other f state streams) (act_as (number f state streams) act) ≡ refusal state act
    unfolding refusal
    refusal-as act room = reasons-as act room
