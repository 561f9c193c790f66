-- What a picture tells of a run. Ours.
use Rattle.std.specs.Prelude.{◌≡◌, ◌++◌, List, map, Some, None, Result, Ok, Err, IfErr, OnOk}
use Rattle.strm_buffers.specs.Tells.{Tells}
use Rattle.std.specs.List.{range_with_len}
use Rattle.strm_machine.specs.Moments.{received}
use Rattle.strm_machine.specs.State.{State}
use Rattle.strm_machine.specs.declared.replies.Reply.{Reply}
use Rattle.strm_machine.specs.declared.steps.Step.{Step}
use Rattle.strm_machine.specs.declared.stops.Stop.{Stop}
use Rattle.strm_host_machine.specs.Does.{Does, RunsTo}
use Rattle.strm_host_machine.specs.Steps.{outcome_of_step}
use Rattle.strm_session.specs.Runs.{start_among, stop_of}
use Rattle.strm_session.specs.Serving.{HaltsWith, IsStatusOf}
use Rattle.strm_session.specs.declared.runs.RunCause.{RunCause}
use Rattle.strm_drawing.specs.declared.arrows.Row.{Row}
use Rattle.strm_drawing.specs.declared.holders.Holders.{Holders}
use Rattle.strm_drawing.specs.declared.pictures.Picture.{Picture}
use Rattle.strm_drawing.specs.Folding.{spread_all}
use Rattle.strm_drawing.specs.Holders.{holders_after}
use Rattle.strm_drawing.specs.declared.running.Ending.{Ending}
use Rattle.strm_drawing.specs.declared.running.Seen.{Seen}
use Rattle.strm_drawing.specs.Moves.{end_named_in, span_of, rows_of_step, rows_of_run}

-- A STEP

-- what was seen of a store before a step: the end that the step names, the streams on which it may move items, and
-- how many were received on each
pub record WasSeen (state : State) (step : Step) (seen : Seen) : Type 0 where
  pub named : seen.named ≡ end_named_in state step
  pub span : seen.span ≡ span_of state (end_named_in state step) step
  pub before : seen.before ≡ map (λ s. received s state) (range_with_len seen.span.first seen.span.count)

-- a step was done, and drawn: these rows more, and what it gave to whom
pub record IsStepDrawn (step : Step) (old new : State) (tells told : Tells)
    (rows rows_then : List Row) (all all_then : List Holders) : Type 0 where
  pub reply : Reply
  pub does : Does old new tells told (Ok reply) (λ world. outcome_of_step world step)
  pub rows_are : rows_then ≡ rows ++ rows_of_step all old step reply new
  pub holders_are : all_then ≡ holders_after all (end_named_in old step) step reply

-- a step stopped the run, and nothing of it was drawn; nothing is said for running out of memory
pub record IsStopDrawn (step : Step) (old new : State) (tells told : Tells) (cause : RunCause)
    (rows rows_then : List Row) : Type 0 where
  pub does : (stop : Stop) → stop_of cause ≡ Some stop →
      Does old new tells told (Err (Some stop)) (λ world. outcome_of_step world step)
  pub rows_are : (stop : Stop) → stop_of cause ≡ Some stop → rows_then ≡ rows

-- A RUN

-- the rows are those of the machine's play of these steps, on the records that host ends which told this add until
-- they tell that
abbrev pub AreRowsOfRun : Tells → Tells → List Step → List Row → Type 0
AreRowsOfRun old new steps rows = rows ≡ rows_of_run (start_among old new) steps

-- the machine plays the steps to their end
abbrev pub RunsWhole : Tells → Tells → List Step → Type 0
RunsWhole old new steps =
    (replies : List Reply) × (state : State) × RunsTo (start_among old new) steps replies state new

-- steps were run to their end, or to the one that stopped them, and drawn; nothing is said for running out of memory
pub record IsRunDrawn (old new : Tells) (steps : List Step) (rows : List Row)
    (result : Result (Unit {0}) RunCause) : Type 0 where
  pub ok : OnOk result (AreRowsOfRun old new steps rows × RunsWhole old new steps)
  pub stop : IfErr result (λ cause. (stop : Stop) → stop_of cause ≡ Some stop →
      AreRowsOfRun old new steps rows × HaltsWith (start_among old new) steps stop)

-- how a run ended that came out so: with the status 0, or by a stop, with the status that goes with it
abbrev pub IsEnding : Result (Unit {0}) RunCause → Ending → Type 0
IsEnding (Ok done) ending = (ending.status ≡ 0) × (ending.stop ≡ None)
IsEnding (Err cause) ending =
    (stop : Stop) × (stop_of cause ≡ Some stop) × (ending.stop ≡ Some stop) × IsStatusOf ending.status cause stop

-- the picture has the rows of the machine's play of these steps, and tells its end: by the status 0 that all were
-- done, or the stop, and the status that goes with it
pub record IsPicture (old new : Tells) (steps : List Step) (picture : Picture) : Type 0 where
  pub rows : AreRowsOfRun old new steps (spread_all picture.blocks.items)
  pub done : picture.stop ≡ None → (picture.status ≡ 0) × RunsWhole old new steps
  pub stopped : (stop : Stop) → picture.stop ≡ Some stop →
      ((cause : RunCause) × IsStatusOf picture.status cause stop) × HaltsWith (start_among old new) steps stop
