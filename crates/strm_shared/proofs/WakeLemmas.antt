-- Steps that bring no report and end no operation.
use Rattle.std.proofs.Common.{◌≡◌, ℕ, false, List, set, None, refl, sym, ap, ◌∙◌, subst}
use Rattle.std.specs.Option.{option_map}
use Rattle.std.proofs.lemmas.List.{get_or_append_left}
use Rattle.strm_events.specs.Reports.{report_of}
use Rattle.strm_machine.specs.Acts.{act_of}
use Rattle.strm_machine.specs.State.{State, no_stream, stream_at, is_gone}
use Rattle.strm_machine.specs.Sides.{end_of}
use Rattle.strm_machine.specs.Endings.{pending_of}
use Rattle.strm_machine.specs.Making.{with_stream}
use Rattle.strm_machine.specs.Moves.{without_handle, next_in, with_owner}
use Rattle.strm_machine.specs.Tests.{named, stream_named, side_named}
use Rattle.strm_machine.specs.Refusals.{refusal}
use Rattle.strm_machine.specs.Reactions.{transfers, makes, on_set, on_context, on_memory, performs, reaction}
use Rattle.strm_machine.specs.declared.acts.NamedEnd.{NamedEnd}
use Rattle.strm_machine.specs.declared.acts.Act.{Act}
use Rattle.strm_machine.specs.declared.acts.Act.TheVariants.{Make, OnEnd, Transfer, OnLoose, OnHost, Drive, Event, OnSet, OnContext, OnMemory}
use Rattle.strm_machine.specs.declared.acts.EndAct.TheVariants.{Operate, Drop, Cancel, Lift}
use Rattle.strm_machine.specs.declared.acts.Making.{Making}
use Rattle.strm_machine.specs.declared.acts.Making.TheVariants as makings
use Rattle.strm_machine.specs.declared.acts.SetAct.TheVariants as set_acts
use Rattle.strm_machine.specs.declared.acts.ContextAct.TheVariants as context_acts
use Rattle.strm_machine.specs.declared.acts.MemoryAct.TheVariants.{Poke, Dump}
use Rattle.strm_machine.specs.declared.steps.Step.{Step}
use Rattle.strm_machine.specs.declared.streams.Owner.{Owner}
use Rattle.strm_machine.specs.declared.streams.Owner.TheVariants.{Held}
use Rattle.strm_machine.specs.declared.streams.Side.{Side}
use Rattle.strm_machine.specs.declared.streams.Side.TheVariants.{Writing, Reading}
use Rattle.strm_machine.specs.declared.streams.Stream.{Stream}
use Rattle.strm_machine.proofs.NamedEndLemmas.{on_end-found}
use Rattle.strm_machine.proofs.ReactionLemmas.{reaction-by}
use Rattle.strm_machine.proofs.RefusalLemmas.{named_ok, move_fits}
use Rattle.strm_shared.specs.Places.{is_host_act}
use Rattle.strm_shared.specs.Reaching.{IsStateReached}
use Rattle.strm_shared.specs.Wakes.{ends_waits_in, ends_waits, IsEndKept, IsQuiet, WakesNone}
use Rattle.strm_shared.proofs.StayLemmas.{set_either}

kept_itself : (side : Side) (stream : Stream) → IsEndKept side stream stream
kept_itself side stream = record { operation = refl; report = refl }

-- another owner, of an end that isn't gone before or after
owner_kept : (on side : Side) (stream : Stream) (owner : Owner) → is_gone (end_of on stream).owner ≡ false → is_gone owner ≡ false → IsEndKept side stream (with_owner on stream owner)
owner_kept Writing Writing stream owner there here = record { operation = refl; report = refl }
owner_kept Writing Reading stream owner there here = record {
  operation = refl;
  report = ap (λ gone. report_of stream.kind (option_map pending_of stream.reader.operation) gone stream.reader.told stream.passed) (here ∙ sym there);
}
owner_kept Reading Writing stream owner there here = record {
  operation = refl;
  report = ap (λ gone. report_of stream.kind (option_map pending_of stream.writer.operation) gone stream.writer.told stream.passed) (here ∙ sym there);
}
owner_kept Reading Reading stream owner there here = record { operation = refl; report = refl }

module _ (state : State) (reached : IsStateReached state) where
  -- the streams are as they were
  quiet_same : (new : State) → new.streams ≡ state.streams → new.trapped ≡ state.trapped → IsQuiet state new
  quiet_same new same trapped = record {
    trapped = trapped;
    ends = λ s side made. subst (λ (xs : List Stream). IsEndKept side (stream_at state s) (stream_at (record state { streams = xs }) s)) (sym same) (kept_itself side (stream_at state s));
  }

  makes-quiet : (making : Making) → IsQuiet state (makes state making).state
  unfolding with_stream
  makes-quiet (makings.Guest size) = quiet_same (makes state (makings.Guest size)).state refl refl
  makes-quiet (makings.Between writer reader ty) = record {
    trapped = refl;
    ends = λ s side made. subst (IsEndKept side (stream_at state s)) (sym (get_or_append_left state.streams _ no_stream s made)) (kept_itself side (stream_at state s));
  }
  makes-quiet (makings.Set g) = quiet_same (makes state (makings.Set g)).state refl refl
  makes-quiet (makings.Context g address len) = quiet_same (makes state (makings.Context g address len)).state refl refl

  transfer-quiet : (end : NamedEnd) (to : ℕ) → refusal state (Transfer end to) ≡ None → IsQuiet state (transfers state (stream_named (named state end)) (side_named (named state end)) end to).state
  transfer-quiet end to e =
      let t = stream_named (named state end) in
      let on = side_named (named state end) in
      let fits = move_fits state end to e in
      let found = on_end-found state on end Drop reached.sound fits.leaves.there (named_ok state end fits.leaves.found) refl in
      let own : (end_of on (stream_at state t)).owner ≡ Held end.guest end.handle = reached.held.agree.named end.guest end.handle t on found.held in
      let number = next_in (without_handle state end.guest end.handle) to in
      let given = with_owner on (stream_at state t) (Held to number) in
      record {
        trapped = refl;
        ends = λ s side made.
            set_either (IsEndKept side (stream_at state s)) state.streams t s given no_stream
            (λ q. subst (λ k. IsEndKept side (stream_at state k) given) (sym q) (owner_kept on side (stream_at state t) (Held to number) (ap is_gone own) refl))
            (kept_itself side (stream_at state s));
      }

  performs-quiet : (act : Act) → ends_waits_in act ≡ false → is_host_act act ≡ false → refusal state act ≡ None → IsQuiet state (performs state act).state
  unfolding performs
  performs-quiet (Make making) w g e = makes-quiet making
  performs-quiet (OnEnd side end (Operate address count)) w g e = cc
  performs-quiet (OnEnd side end Drop) w g e = cc
  performs-quiet (OnEnd side end Cancel) w g e = cc
  performs-quiet (OnEnd side end Lift) w g e = cc
  performs-quiet (Transfer end to) w g e = transfer-quiet end to e
  performs-quiet (OnLoose reader act) w g e = cc
  performs-quiet (OnHost host act) w g e = cc
  performs-quiet Drive w g e = cc
  performs-quiet (Event guest handle) w g e = cc
  performs-quiet (OnSet guest set (set_acts.Join handle)) w g e = quiet_same (on_set state guest set (set_acts.Join handle)).state refl refl
  performs-quiet (OnSet guest set set_acts.Poll) w g e = cc
  performs-quiet (OnSet guest set set_acts.Drop) w g e = quiet_same (on_set state guest set set_acts.Drop).state refl refl
  performs-quiet (OnContext guest handle (context_acts.Text address)) w g e = quiet_same (on_context state guest handle (context_acts.Text address)).state refl refl
  performs-quiet (OnContext guest handle (context_acts.Move to)) w g e = quiet_same (on_context state guest handle (context_acts.Move to)).state refl refl
  performs-quiet (OnContext guest handle context_acts.Drop) w g e = quiet_same (on_context state guest handle context_acts.Drop).state refl refl
  performs-quiet (OnMemory guest (Poke address bytes)) w g e = quiet_same (on_memory state guest (Poke address bytes)).state refl refl
  performs-quiet (OnMemory guest (Dump address len)) w g e = quiet_same (on_memory state guest (Dump address len)).state refl refl

  reaction-quiet : (act : Act) → ends_waits_in act ≡ false → is_host_act act ≡ false → IsQuiet state (reaction state act).state
  reaction-quiet act w g =
      reaction-by (λ r. IsQuiet state r.state) state act
      (λ t. quiet_same state refl refl)
      (λ r e. quiet_same state refl refl)
      (λ e. performs-quiet act w g e)

pub wakes_none : (step : Step) → ends_waits step ≡ false → WakesNone step
wakes_none step w g state reached = reaction-quiet state reached (act_of step) w g
