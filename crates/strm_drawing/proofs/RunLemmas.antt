-- A run that is drawn: what holds before each step, and of the end.
use Rattle.std.proofs.Common.{◌≡◌, false, List, [], ◌∷◌, ◌++◌, Result, Ok, Err, Some, None, refl, sym, ap, subst, ◌∙◌}
use Rattle.std.specs.Prelude.{IfErr, OnOk}
use Rattle.std.proofs.lemmas.List.{append-nil, append_assoc}
use Rattle.strm_buffers.specs.Tells.{Tells}
use Rattle.strm_laws.specs.Starts.{run_start}
use Rattle.strm_machine.specs.State.{State}
use Rattle.strm_machine.specs.declared.replies.Reply.{Reply}
use Rattle.strm_machine.specs.declared.steps.Step.{Step}
use Rattle.strm_machine.specs.declared.stops.Stop.{Stop}
use Rattle.strm_host_machine.specs.Does.{Logs, Extends, Fits, saids, world_of}
use Rattle.strm_host_machine.specs.HostPlays.{host_play, after_host_step}
use Rattle.strm_host_machine.specs.Outcomes.{Outcome}
use Rattle.strm_host_machine.specs.Steps.{outcome_of_step}
use Rattle.strm_host_machine.proofs.DoesLemmas.{extends_self}
use Rattle.strm_session.specs.Runs.{start_among, stop_of}
use Rattle.strm_session.specs.Serving.{HaltsWith, IsStatusOf}
use Rattle.strm_session.specs.declared.runs.RunCause.{RunCause}
use Rattle.strm_session.specs.declared.runs.RunCause.TheVariants as causes
use Rattle.strm_drawing.specs.declared.arrows.Row.{Row}
use Rattle.strm_drawing.specs.declared.holders.Holders.{Holders}
use Rattle.strm_drawing.specs.declared.pictures.Picture.{Picture}
use Rattle.strm_drawing.specs.declared.running.Ending.{Ending}
use Rattle.strm_drawing.specs.Folding.{spread_all}
use Rattle.strm_drawing.specs.Holders.{holders_after}
use Rattle.strm_drawing.specs.Moves.{end_named_in, rows_of_step, rows_then, rows_from}
use Rattle.strm_drawing.specs.Running.{IsStepDrawn, IsStopDrawn, IsRunDrawn, IsEnding, IsPicture}

-- what holds where these steps are left: whatever is yet to come, the rows of the whole run are those so far and
-- those of the rest, and the run is played on from here
pub record Sketching (old now : Tells) (steps left : List Step) (rows : List Row) (all : List Holders) (state : State) : Type 0 where
  pub told : List Reply
  pub plays : (logs : Logs) → Extends now logs → host_play [] (world_of run_start old logs) steps ≡ host_play told (world_of state now logs) left
  pub drawn : (logs : Logs) → Extends now logs → rows_from [] (world_of run_start old logs) steps ≡ rows ++ rows_from all (world_of state now logs) left
  pub fits : Fits state now
  pub running : state.trapped ≡ false

pub sketching_none : (tells : Tells) (steps : List Step) → Fits run_start tells → Sketching tells tells steps steps [] [] run_start
sketching_none tells steps fits = record {
  told = [];
  plays = λ logs e. refl;
  drawn = λ logs e. refl;
  fits = fits;
  running = refl;
}

module _ (old now new : Tells) (steps left rest : List Step) (step : Step) (rows rows_now : List Row) (all : List Holders) (state next : State) (s : Sketching old now steps left rows all state) (is : left ≡ step ∷ rest) where
  -- what a step leads to, and the rest of the play
  played : (logs : Logs) (o : Outcome) → outcome_of_step (world_of state now logs) step ≡ o → host_play s.told (world_of state now logs) left ≡ after_host_step s.told o (λ told world. host_play told world rest)
  played logs o e =
      ap (host_play s.told (world_of state now logs)) is
      ∙ ap (λ x. after_host_step s.told x (λ told world. host_play told world rest)) e

  -- and of its rows
  drawn_on : (logs : Logs) (o : Outcome) → outcome_of_step (world_of state now logs) step ≡ o → rows_from all (world_of state now logs) left ≡ rows_then all state step o (λ all' world. rows_from all' world rest)
  drawn_on logs o e =
      ap (rows_from all (world_of state now logs)) is
      ∙ ap (λ x. rows_then all state step x (λ all' world. rows_from all' world rest)) e

  pub sketching_more : (all_now : List Holders) → IsStepDrawn step state next now new rows rows_now all all_now → Fits next new → next.trapped ≡ false → Sketching old new steps rest rows_now all_now next
  sketching_more all_now d fits running = record {
    told = s.told ++ d.reply ∷ [];
    plays = λ logs e. let before = d.does.begins logs e in s.plays logs before ∙ played logs _ (d.does.gives logs e);
    drawn = λ logs e.
        let before = d.does.begins logs e in
        let more = rows_of_step all state step d.reply next in
        s.drawn logs before ∙ ap (λ xs. rows ++ xs) (drawn_on logs _ (d.does.gives logs e))
        ∙ sym (append_assoc rows more (rows_from (holders_after all (end_named_in state step) step d.reply) (world_of next new logs) rest))
        ∙ ap (λ xs. xs ++ rows_from (holders_after all (end_named_in state step) step d.reply) (world_of next new logs) rest) (sym d.rows_are)
        ∙ ap (λ hs. rows_now ++ rows_from hs (world_of next new logs) rest) (sym d.holders_are);
    fits = fits;
    running = running;
  }

  pub drawn_stop : (cause : RunCause) → IsStopDrawn step state next now new cause rows rows_now → IsRunDrawn old new steps rows_now (Err cause)
  drawn_stop cause d = record {
    ok = tt;
    stop = λ stop e.
        let does = d.does stop e in
        let logs = saids new in
        let here = extends_self new in
        let before = does.begins logs here in
        let gives = does.gives logs here in (
          d.rows_are stop e ∙ sym (append-nil rows) ∙ sym (s.drawn logs before ∙ ap (λ xs. rows ++ xs) (drawn_on logs _ gives)),
          (s.told, (world_of next new logs).writers, (world_of next new logs).readers, s.plays logs before ∙ played logs _ gives),
        );
  }

pub drawn_all : (old new : Tells) (steps left : List Step) (rows : List Row) (all : List Holders) (state : State) → Sketching old new steps left rows all state → left ≡ [] → IsRunDrawn old new steps rows (Ok tt)
drawn_all old new steps left rows all state s none =
    let logs = saids new in
    let here = extends_self new in
    record {
      ok = (
        sym (s.drawn logs here ∙ ap (λ xs. rows ++ rows_from all (world_of state new logs) xs) none ∙ append-nil rows),
        (s.told, state, s.plays logs here ∙ ap (host_play s.told (world_of state new logs)) none),
      );
      stop = tt;
    }

-- before the first step
pub sketching_begins : (tells : Tells) (steps : List Step) (rows : List Row) (all : List Holders) (state : State) → state ≡ run_start → rows ≡ [] → all ≡ [] → Fits state tells → Sketching tells tells steps steps rows all state
sketching_begins tells steps rows all state e f h fits =
    subst (λ s. Sketching tells tells steps steps rows all s) (sym e)
    (subst (λ xs. Sketching tells tells steps steps xs all run_start) (sym f)
    (subst (λ hs. Sketching tells tells steps steps [] hs run_start) (sym h)
    (sketching_none tells steps (subst (λ s. Fits s tells) e fits))))

-- running out of memory is no stop of the machine
pub no_stop : (stop : Stop) → stop_of causes.OutOfMemory ≡ Some stop → ⊥
no_stop stop e = cc

pub out_of_memory_drawn : (step : Step) (old new : State) (tells told : Tells) (rows rows_now : List Row) → IsStopDrawn step old new tells told causes.OutOfMemory rows rows_now
out_of_memory_drawn step old new tells told rows rows_now = record {
  does = λ stop e. absurd (no_stop stop e);
  rows_are = λ stop e. absurd (no_stop stop e);
}

-- what is so where a run ended well or by a stop is so where it ended
pub at_end : (P : Type 0) (ended : Result (Unit {0}) RunCause) (ending : Ending) → IsEnding ended ending → OnOk ended P → IfErr ended (λ cause. (stop : Stop) → stop_of cause ≡ Some stop → P) → P
at_end P (Ok done) ending e ok err = ok
at_end P (Err cause) ending e ok err = err e.0 e.1

module _ (old new : Tells) (steps : List Step) (ending : Ending) (picture : Picture) where
  -- the picture of a run that ended so
  pub picture_is : (rows : List Row) (ended : Result (Unit {0}) RunCause) → IsRunDrawn old new steps rows ended → IsEnding ended ending → spread_all picture.blocks.items ≡ rows → picture.stop ≡ ending.stop → picture.status ≡ ending.status → IsPicture old new steps picture
  picture_is rows (Ok done) d e blocks stop status = record {
    rows = blocks ∙ d.ok.0;
    done = λ none. (status ∙ e.0, d.ok.1);
    stopped = λ other some. absurd (let wrong : Some other ≡ None = sym some ∙ stop ∙ e.1 in cc);
  }
  picture_is rows (Err cause) d e blocks stop status =
      let stops = d.stop e.0 e.1 in
      record {
        rows = blocks ∙ stops.0;
        done = λ none. absurd (let wrong : None ≡ Some e.0 = sym none ∙ stop ∙ e.2 in cc);
        stopped = λ other some.
            let same : e.0 ≡ other = (let both : Some e.0 ≡ Some other = sym e.2 ∙ sym stop ∙ some in cc) in (
              (cause, subst (λ s. IsStatusOf picture.status cause s) same (subst (λ n. IsStatusOf n cause e.0) (sym status) e.3)),
              subst (λ s. HaltsWith (start_among old new) steps s) same stops.1,
            );
      }
