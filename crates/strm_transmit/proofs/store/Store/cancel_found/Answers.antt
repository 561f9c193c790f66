use Rattle.std.proofs.Common.{◌≡◌, ◌++◌, ℕ, true, None, Result, Ok, Err, is_some, not}
use Rattle.std.specs.Prelude.{IfOk}
use Rattle.std.proofs.lemmas.Bool.{not-false}
use Rattle.strm_codes.specs.declared.refusals.Refusal.{Refusal}
use Rattle.strm_machine.specs.State.{State, stream_at}
use Rattle.strm_machine.specs.Sides.{end_of, same_side}
use Rattle.strm_machine.specs.Tests.{named, stream_named, side_named, is_busy}
use Rattle.strm_machine.specs.Refusals.{handle_reasons, own_reasons, cancel_reasons_of, first_of}
use Rattle.strm_machine.specs.declared.acts.NamedEnd.{NamedEnd}
use Rattle.strm_machine.specs.declared.acts.EndAct.TheVariants.{Cancel}
use Rattle.strm_machine.specs.declared.streams.Side.{Side}
use Rattle.strm_machine.proofs.RefusalLemmas.{none_of_both, not_refused}
use Rattle.strm_transmit.specs.Meets.{or_found}
use Rattle.strm_transmit.proofs.OperationLemmas.{found_ok}
use Rattle.strm_transmit.proofs.store.Store.cancel_found.Goals as goal

-- the stream whose end on a side a handle names, where nothing refuses a cancel of that end
abbrev found_by : State → Side → NamedEnd → Result ℕ Refusal
found_by state side end =
    or_found (first_of (handle_reasons (named state end) ++ own_reasons state side end Cancel)) (stream_named (named state end))

-- an end whose operation may be cancelled has one
busy_where : (state : State) (side : Side) (end : NamedEnd) (found : Result ℕ Refusal) → found ≡ found_by state side end → IfOk found (λ stream. is_some (end_of side (stream_at state stream)).operation ≡ true)
busy_where state side end (Err refusal) e = tt
busy_where state side end (Ok stream) e =
    let name = named state end in
    let found = found_ok (first_of (handle_reasons name ++ own_reasons state side end Cancel)) stream (stream_named name) e in
    let none = none_of_both (handle_reasons name) (own_reasons state side end Cancel) found.none in
    let own : first_of (cancel_reasons_of (stream_at state stream) side (side_named name)) ≡ None = rw found.same none.1 in
    let same = not_refused (not (same_side side (side_named name))) _ _ own in
    let busy = not_refused (not (is_busy side (stream_at state stream))) _ _ same.1 in
    not-false (is_busy side (stream_at state stream)) busy.0

pub returns-clause-busy : goal.returns-clause-busy
returns-clause-busy c = busy_where c.args.self.now c.args.side c.args.end.now c.found.result c.found.ensures.exact
