-- What is told of the handle of the other end, from what is told of the handle of one.
use Rattle.std.proofs.Common.{◌≡◌, ℕ, true, Option, Some, None, Ok, Err, refl, sym, ap, ◌∙◌, subst}
use Rattle.std.specs.Prelude.{◌==◌}
use Rattle.std.specs.Option.{option_map}
use Rattle.std.proofs.lemmas.Bool.{and_parts, and_from, eqb-true, eq-eqb}
use Rattle.strm_codes.specs.declared.codes.ReturnCode.{ReturnCode}
use Rattle.strm_codes.specs.declared.codes.TransmitIndex.{TransmitIndex}
use Rattle.strm_handles.specs.Handles.{entry_at}
use Rattle.strm_handles.specs.Lookups.{end_rep_in}
use Rattle.strm_handles.specs.declared.entries.Entry.{Entry}
use Rattle.strm_handles.specs.declared.entries.Entry.TheVariants as entries
use Rattle.strm_handles.specs.declared.entries.TransmitEnd.{TransmitEnd}
use Rattle.strm_machine.specs.Endings.{report_on}
use Rattle.strm_machine.specs.Moments.{is_end}
use Rattle.strm_machine.specs.Sides.{opposite, end_of, same_side}
use Rattle.strm_machine.specs.Soundness.{type_of}
use Rattle.strm_machine.specs.State.{State, guest_in, stream_at}
use Rattle.strm_machine.specs.Tests.{side_of}
use Rattle.strm_machine.specs.declared.streams.Owner.{Owner}
use Rattle.strm_machine.specs.declared.streams.Owner.TheVariants.{Held}
use Rattle.strm_machine.specs.declared.streams.Side.{Side}
use Rattle.strm_machine.specs.declared.streams.Side.TheVariants.{Writing, Reading}
use Rattle.strm_machine.specs.declared.streams.Stream.{Stream}
use Rattle.strm_machine.proofs.SideLemmas.{same_side_is, same_side-itself}
use Rattle.strm_transmit.specs.Queries.{end_told, told_of, handle_told}
use Rattle.strm_transmit.specs.declared.store.queries.EndInfo.{EndInfo}
use Rattle.strm_transmit.specs.declared.store.queries.Handle.{Handle}
use Rattle.strm_transmit.specs.declared.store.queries.Handle.TheVariants as handles
use Rattle.strm_guest_store.specs.Among.{HandlesAgree}

-- what is told of an end of a stream, by its side
abbrev told_on : State → ℕ → Side → EndInfo
told_on state s side = record {
  ty = type_of (stream_at state s);
  side = side;
  stream = s;
  event = report_on side (stream_at state s);
  other = (end_of (opposite side) (stream_at state s)).owner;
}

-- what a table keeps of an end is told, where it is this end
end_told-is : (state : State) (s : ℕ) (side : Side) (end : TransmitEnd) → is_end s side (Ok (end.rep, end.state)) ≡ true
    → end_told state end ≡ told_on state s side
end_told-is state s side end is =
    let both = and_parts (end.rep == s) (same_side (side_of end.state) side) is in
    let there : end.rep ≡ s = eqb-true end.rep s both.0 in
    let same : side ≡ side_of end.state = same_side_is (side_of end.state) side both.1 in
    ap (λ n. told_on state n (side_of end.state)) there ∙ ap (told_on state s) (sym same)

told-is : (state : State) (s : ℕ) (side : Side) (o : Option Entry) → is_end s side (end_rep_in o) ≡ true
    → option_map (told_of state) o ≡ Some (handles.End (told_on state s side))
told-is state s side None is = cc
told-is state s side (Some (entries.Stream end)) is = ap (λ (x : EndInfo). Some (handles.End x)) (end_told-is state s side end is)
told-is state s side (Some (entries.Future end)) is = ap (λ (x : EndInfo). Some (handles.End x)) (end_told-is state s side end is)
told-is state s side (Some (entries.ResourceOwn resource lends)) is = cc
told-is state s side (Some (entries.ResourceBorrow resource scope)) is = cc
told-is state s side (Some (entries.ErrorContext rep)) is = cc
told-is state s side (Some (entries.Subtask rep is_host)) is = cc
told-is state s side (Some (entries.WaitableSet rep)) is = cc

-- where an end is told, it is the one that the table's entry says
pub record IsToldAs (state : State) (o : Option Entry) (end : EndInfo) : Type 0 where
  pub named : is_end end.stream end.side (end_rep_in o) ≡ true
  pub told : end ≡ told_on state end.stream end.side

itself : (end : TransmitEnd) → is_end end.rep (side_of end.state) (Ok (end.rep, end.state)) ≡ true
itself end = and_from (end.rep == end.rep) (same_side (side_of end.state) (side_of end.state)) (eq-eqb end.rep end.rep refl) (same_side-itself (side_of end.state))

told_as : (state : State) (o : Option Entry) (end : EndInfo) → option_map (told_of state) o ≡ Some (handles.End end) → IsToldAs state o end
told_as state None end e = cc
told_as state (Some (entries.Stream kept)) end e =
    let same : end_told state kept ≡ end = cc in
    subst (λ (x : EndInfo). IsToldAs state (Some (entries.Stream kept)) x) same (record { named = itself kept; told = refl })
told_as state (Some (entries.Future kept)) end e =
    let same : end_told state kept ≡ end = cc in
    subst (λ (x : EndInfo). IsToldAs state (Some (entries.Future kept)) x) same (record { named = itself kept; told = refl })
told_as state (Some (entries.ResourceOwn resource lends)) end e = cc
told_as state (Some (entries.ResourceBorrow resource scope)) end e = cc
told_as state (Some (entries.ErrorContext rep)) end e = cc
told_as state (Some (entries.Subtask rep is_host)) end e = cc
told_as state (Some (entries.WaitableSet rep)) end e = cc

back : (side : Side) (stream : Stream) → (end_of (opposite (opposite side)) stream).owner ≡ (end_of side stream).owner
back Writing stream = refl
back Reading stream = refl

-- the end across, by its type and by who has the first
abbrev pub across_of : State → EndInfo → TransmitIndex → Owner → EndInfo
across_of state end ty owner = record {
  ty = ty;
  side = opposite end.side;
  stream = end.stream;
  event = report_on (opposite end.side) (stream_at state end.stream);
  other = owner;
}

pub across : (state : State) (g handle to other : ℕ) (end : EndInfo) → HandlesAgree state
    → handle_told state g handle ≡ Some (handles.End end) → end.other ≡ Held to other
    → handle_told state to other ≡ Some (handles.End (across_of state end end.ty (Held g handle)))
across state g handle to other end agree told there =
    let known = told_as state (entry_at (guest_in state.guests g).handles handle) end told in
    let mine = agree.named g handle end.stream end.side known.named in
    let theirs : (end_of (opposite end.side) (stream_at state end.stream)).owner ≡ Held to other = sym (ap (λ (x : EndInfo). x.other) known.told) ∙ there in
    let is = agree.held to other end.stream (opposite end.side) theirs in
    told-is state end.stream (opposite end.side) (entry_at (guest_in state.guests to).handles other) is
    ∙ ap (λ ty. Some (handles.End (across_of state end ty (end_of (opposite (opposite end.side)) (stream_at state end.stream)).owner))) (sym (ap (λ (x : EndInfo). x.ty) known.told))
    ∙ ap (λ owner. Some (handles.End (across_of state end end.ty owner))) (back end.side (stream_at state end.stream) ∙ mine)
