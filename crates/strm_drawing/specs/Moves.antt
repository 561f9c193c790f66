-- The moves of a run: which steps moved how many items on which stream, and who had its ends. A step moves items
-- on a stream where the machine's count of items received there rises. Ours.
use Rattle.std.specs.Prelude.{ℕ, zero, suc, ◌-◌, List, [], ◌∷◌, ◌++◌, length, map, Option, Some, None, Result, Ok}
use Rattle.std.specs.List.{flat_map, range_with_len}
use Rattle.strm_codes.specs.declared.refusals.Refusal.{Refusal}
use Rattle.strm_machine.specs.Moments.{received}
use Rattle.strm_machine.specs.State.{State}
use Rattle.strm_machine.specs.declared.replies.Reply.{Reply}
use Rattle.strm_machine.specs.declared.steps.Step.{Step}
use Rattle.strm_machine.specs.declared.steps.Step.TheVariants as steps
use Rattle.strm_host_machine.specs.World.{World}
use Rattle.strm_host_machine.specs.Outcomes.{Outcome, Goes, Stops, Stuck}
use Rattle.strm_host_machine.specs.Steps.{outcome_of_step}
use Rattle.strm_transmit.specs.Queries.{handle_answer}
use Rattle.strm_transmit.specs.declared.store.queries.EndInfo.{EndInfo}
use Rattle.strm_transmit.specs.declared.store.queries.Handle.{Handle}
use Rattle.strm_transmit.specs.declared.store.queries.Handle.TheVariants as handle
use Rattle.strm_drawing.specs.declared.arrows.Arrow.{Arrow}
use Rattle.strm_drawing.specs.declared.arrows.Row.{Row}
use Rattle.strm_drawing.specs.declared.arrows.Row.TheVariants as rows
use Rattle.strm_drawing.specs.declared.holders.Holders.{Holders}
use Rattle.strm_drawing.specs.declared.moves.GuestHandle.{GuestHandle}
use Rattle.strm_drawing.specs.declared.moves.Span.{Span}
use Rattle.strm_drawing.specs.Holders.{holders_at, holders_after}
use Rattle.strm_drawing.specs.Marks.{mark_of}

-- WHICH END A STEP NAMES

-- this handle of this guest
abbrev pub at_handle : ℕ → ℕ → Option GuestHandle
at_handle guest handle = Some (record { guest = guest; handle = handle })

-- the handle by which a step names an end, or an end that joins a set
abbrev pub handle_in : Step → Option GuestHandle
handle_in (steps.Write guest ty handle address count) = at_handle guest handle
handle_in (steps.Read guest ty handle address count) = at_handle guest handle
handle_in (steps.DropWrite guest ty handle) = at_handle guest handle
handle_in (steps.DropRead guest ty handle) = at_handle guest handle
handle_in (steps.CancelWrite guest ty handle) = at_handle guest handle
handle_in (steps.CancelRead guest ty handle) = at_handle guest handle
handle_in (steps.Move guest ty handle to) = at_handle guest handle
handle_in (steps.Lift guest ty handle) = at_handle guest handle
handle_in (steps.Event guest handle) = at_handle guest handle
handle_in (steps.SetJoin guest set handle) = at_handle guest handle
handle_in _ = None

-- what is told of a handle, if it is an end's
abbrev pub end_told_of : Result Handle Refusal → Option EndInfo
end_told_of (Ok (handle.End end)) = Some end
end_told_of _ = None

-- what a handle of a guest names, if that is an end
abbrev pub end_of_handle : State → GuestHandle → Option EndInfo
end_of_handle state at = end_told_of (handle_answer state at.guest at.handle)

-- the same of the handle that a step has, if it has one
abbrev pub end_at : State → Option GuestHandle → Option EndInfo
end_at state None = None
end_at state (Some at) = end_of_handle state at

-- the end that the handle of a step names, if it names one
abbrev pub end_named_in : State → Step → Option EndInfo
end_named_in state step = end_at state (handle_in step)

-- WHAT A STEP MOVES

-- so many streams from the first on
abbrev pub span : ℕ → ℕ → Span
span first count = record { first = first; count = count }

-- the stream of an end, or none
abbrev pub span_of_end : Option EndInfo → Span
span_of_end (Some end) = span end.stream 1
span_of_end None = span 0 0

-- the streams on which a step may move items: the one whose end a read or write names, or in a drive round all
abbrev pub span_of : State → Option EndInfo → Step → Span
span_of state named (steps.Write guest ty handle address count) = span_of_end named
span_of state named (steps.Read guest ty handle address count) = span_of_end named
span_of state named steps.Drive = span 0 (length state.streams)
span_of state named step = span 0 0

-- so many items were moved on a stream, if any, whose ends these have
abbrev pub move_of : ℕ → Holders → ℕ → List Arrow
move_of s holders zero = []
move_of s holders (suc n) =
    record { stream = s; count = suc n; from = holders.writer; to = holders.reader } ∷ []

-- what a step moved on a stream that led from the one state to the other
abbrev pub move_on : List Holders → State → State → ℕ → List Arrow
move_on all before after s = move_of s (holders_at all s) (received s after - received s before)

-- what it moved on these streams, by their numbers
abbrev pub moves_on : List Holders → State → State → Span → List Arrow
moves_on all before after on = flat_map (move_on all before after) (range_with_len on.first on.count)

-- what a step moved that led from the one state to the other
abbrev pub moves_in : List Holders → State → Step → State → List Arrow
moves_in all before step after = moves_on all before after (span_of before (end_named_in before step) step)

-- THE ROWS OF A RUN

-- the rows of a step: its mark, and the arrows of what it moved
abbrev pub rows_of_step : List Holders → State → Step → Reply → State → List Row
rows_of_step all before step reply after =
    rows.Mark (mark_of step (end_named_in before step) reply)
    ∷ map rows.Arrow (moves_in all before step after)

-- those of a step that goes on, and then those behind it; a step that stops the run has none
abbrev pub rows_then : List Holders → State → Step → Outcome → (List Holders → World → List Row) → List Row
rows_then all before step (Goes reply after) next =
    rows_of_step all before step reply after.state
    ++ next (holders_after all (end_named_in before step) step reply) after
rows_then all before step (Stops stop writers readers) next = []
rows_then all before step Stuck next = []

-- the rows of these steps from a world on, where these have the ends of the streams
abbrev pub rows_from : List Holders → World → List Step → List Row
rows_from all world [] = []
rows_from all world (step ∷ more) =
    rows_then all world.state step (outcome_of_step world step) (λ all' world'. rows_from all' world' more)

-- the rows of a run from an unused store
abbrev pub rows_of_run : World → List Step → List Row
rows_of_run world steps = rows_from [] world steps

-- THE MOVES OF A RUN

-- the arrow of a row, if it is one
abbrev pub arrow_in : Row → List Arrow
arrow_in (rows.Arrow arrow) = arrow ∷ []
arrow_in (rows.Mark mark) = []

-- the arrows of rows, in their order
abbrev pub arrows_in : List Row → List Arrow
arrows_in all = flat_map arrow_in all
