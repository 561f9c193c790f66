-- Steps and runs of them, whatever their replies are kept as. Ours.
use Rattle.std.specs.Prelude.{◌≡◌, ◌+◌, ◌≤◌, ℕ, false, List, [], ◌∷◌, ◌++◌, length, take, All, Result, Ok, Err, IfOk, IfErr, OnOk}
use Rattle.strm_machine.specs.State.{State}
use Rattle.strm_laws.specs.Starts.{run_start}
use Rattle.strm_machine.specs.Plays.{play, Ends}
use Rattle.strm_machine.specs.declared.steps.Step.{Step}
use Rattle.strm_machine.specs.declared.replies.Reply.{Reply}
use Rattle.strm_laws.specs.Laws.{StepHasBytes}
use Rattle.strm_buffers.specs.Tells.{Tells}
use Rattle.strm_machine.specs.Reactions.{react}
use Rattle.strm_host_machine.specs.Asking.{GuestAsksBad}
use Rattle.strm_host_machine.specs.Does.{Does, Fits, RunsTo}
use Rattle.strm_host_machine.specs.Steps.{outcome_of_step}
use Rattle.strm_transmit.specs.Hosted.{lone}
use Rattle.strm_session.specs.declared.playing.Ended.{Ended}
use Rattle.strm_session.specs.declared.runs.RunCause.{RunCause}
use Rattle.strm_session.specs.declared.runs.RunCause.TheVariants as causes
use Rattle.strm_session.specs.Records.{StopsByRecord, RulesKept, StopRules, HostsGoOn}
use Rattle.strm_session.specs.Runs.{start_among, AreOfGuests, received_counts, stop_of, StopsAmong, StopsOutOfMemory, StopsAt, StopsStep, LeavesOutOfMemory, IsWhole, HasStopped}

-- a step was done from this state, and from what host ends told before, or it stopped the run: it is the machine's
-- among host ends, and after it the store fits what they tell
pub record IsStepped (old new : State) (tells told : Tells) (step : Step) (result : Result Reply RunCause) : Type 0 where
  pub ok : IfOk result (λ reply. Does old new tells told (Ok reply) (λ world. outcome_of_step world step))
  pub stop : IfErr result (λ cause. Does old new tells told (Err (stop_of cause)) (λ world. outcome_of_step world step))
  pub out_of_memory : IfErr result (LeavesOutOfMemory old new tells told step)
  -- where guests meet at a bad item memory does not run out
  pub unmet : IfErr result (λ cause. cause ≡ causes.OutOfMemory → (s : ℕ) → ¬ GuestAsksBad (lone old) step s)
  pub fits : Fits new told
  pub goes_on : OnOk result (new.trapped ≡ false)

-- a step that touches no host end: it is the machine's without them
pub record IsSteppedAlone (old new : State) (tells told : Tells) (step : Step) (result : Result Reply RunCause) : Type 0 where
  pub plays : (replies : List Reply) (more : List Step) →
      IfOk result (λ reply. play replies old (step ∷ more) ≡ play (replies ++ reply ∷ []) new more)
  pub state : OnOk result (new ≡ (react old step).state)
  pub stop : (replies : List Reply) → IfErr result (StopsStep replies old step)
  pub hosts : told ≡ tells

-- these steps were done to their end, which is this state, or to the one that stopped them; these are the
-- replies, and this is what host ends told before and tell after
pub record IsRunPlayed (old new : Tells) (steps : List Step) (told : List Reply) (state : State) (result : Result (Unit {0}) RunCause) : Type 0 where
  pub ok : OnOk result (RunsTo (start_among old new) steps told state new)
  pub stop : IfErr result (λ cause. StopsAmong old new steps told cause)
  pub by_record : IfErr result (λ cause. StopsByRecord old new (stop_of cause))
  pub rules_kept : OnOk result (RulesKept old new)
  pub rules : IfErr result (λ cause. StopRules (stop_of cause) old new)
  pub out_of_memory : IfErr result (λ cause. StopsOutOfMemory old new steps told (stop_of cause))
  pub alone : AreOfGuests steps → OnOk result (play [] run_start steps ≡ Ends told state)
  pub stop_alone : AreOfGuests steps → IfErr result (λ cause. (s : State)
      × (play [] run_start (take (length told) steps) ≡ Ends told s) × StopsAt steps told cause)
  pub hosts : AreOfGuests steps → new ≡ old
  pub goes_on : HostsGoOn old new
  pub all : OnOk result (length told ≡ length steps)
  pub count : length told ≤ length steps
  pub bytes : All StepHasBytes (take (length told) steps)
  pub bytes_there : All StepHasBytes (take (length told + 1) steps)

-- a run of these steps came to its end, or stopped; these are the replies, and this is what host ends told
-- before and tell after
pub record HasRun (old new : Tells) (steps : List Step) (told : List Reply) (result : Result Ended RunCause) : Type 0 where
  pub ok : IfOk result (λ e. IsWhole old new steps told e.store)
  pub received : IfOk result (λ e. e.moved ≡ received_counts e.store)
  pub stop : IfErr result (λ cause. HasStopped old new steps told cause)
  pub hosts : AreOfGuests steps → new ≡ old
  pub goes_on : HostsGoOn old new
  pub count : length told ≤ length steps
