-- What is written of a play that differs, and the status of one that does not.
use Rattle.std.proofs.Common.{◌≡◌, ◌⊎◌, ℕ, Bool, true, false, List, Result, Ok, Err, inl, inr, refl, sym, subst, arith}
use Rattle.std.specs.Prelude.{IsErrOf}
use Rattle.strm_buffers.specs.Tells.{Tells}
use Rattle.strm_machine.specs.declared.steps.Step.{Step}
use Rattle.strm_session.specs.Serving.{IsStopStatus}
use Rattle.strm_session.specs.declared.runs.RunStop.{RunStop}
use Rattle.strm_session.specs.declared.runs.Transcript.{Transcript}
use Rattle.strm_tape.specs.Spelling.{WriterTape, ReaderTape, TapeOf}
use Rattle.strm_tape.specs.declared.errors.TapeError.{TapeError}
use Rattle.strm_tape.specs.declared.errors.TapeError.TheVariants.{NotATape, NotTapable, Holding, Differs, OutOfMemory}
use Rattle.strm_tape_runs.specs.Errors.{IsReplayError}
use Rattle.strm_tape_runs.specs.Taking.{tape_of_run}
use Rattle.strm_tape_runs.specs.Playing.{IsPlayOf, WasRunOrNot, WasRunInMemory}
use Rattle.strm_tape_runs.specs.Differing.{WritersDiffer, ReadersDiffer, FirstDiffer}
use Rattle.strm_tape_runs.proofs.PlayLemmas.{one_play}
use Rattle.strm_tape_program.specs.Playing.{IsReplay, IsOtherRun, IsOfTape, IsStatusOfPlay}
use Rattle.strm_tape_program.specs.Texts.{differs_text}

pub other_run : (tape : TapeOf) (old new : Tells) (text : List ℕ) → IsOtherRun tape old new → text ≡ differs_text → IsOfTape tape old new 10 text
other_run tape old new text other is = record {
  known = inr (inr refl);
  done = λ e. absurd (omega (arith, e));
  stopped = λ s. absurd (omega (arith, s.1));
  differs = λ e. (other, is);
}

writers_same : (writers : List WriterTape) (n at : ℕ) → WritersDiffer writers writers n at → ⊥
writers_same writers n at d = d.1.there refl

readers_same : (readers : List ReaderTape) (r at : ℕ) → ReadersDiffer readers readers r at → ⊥
readers_same readers r at d = d.1.there refl

none_differs : (tape : TapeOf) (reader : Bool) (end at : ℕ) → FirstDiffer tape tape reader end at → ⊥
none_differs tape false n at d = writers_same tape.writers n at d
none_differs tape true r at (e, d) = readers_same tape.readers r at d

-- where the host ends recorded what a tape says, none of them differs
pub none_other : (tape : TapeOf) (old new : Tells) → tape_of_run tape.steps old new ≡ tape → IsOtherRun tape old new → ⊥
none_other tape old new same other =
    none_differs tape other.reader other.end other.at
    (subst (λ (t : TapeOf). FirstDiffer t tape other.reader other.end other.at) same other.differ)

-- the status that goes with the text of a play is that of each play of the tape, since they are one
pub status_of_play : (tape : TapeOf) (old new : Tells) (status : ℕ) (text : List ℕ) → IsOfTape tape old new status text → (status ≡ 0) ⊎ IsStopStatus status → (end : Result Transcript RunStop) → IsPlayOf tape end → IsStatusOfPlay status end
status_of_play tape old new status text h (inl e) end plays =
    let whole = h.done e in
    subst (IsStatusOfPlay status) (one_play tape (Ok whole.end) end whole.replay.plays plays) e
status_of_play tape old new status text h (inr s) end plays =
    let stopped = h.stopped s in
    subst (IsStatusOfPlay status) (one_play tape (Err stopped.end) end stopped.replay.plays plays) (stopped.why, stopped.status_is)

module _ {R : Type 0} (result : Result R TapeError) (old new : Tells) (steps : List Step) where
  -- each replay that answers an error was run, or nothing was done
  pub run_or_not : (error : TapeError) → result ≡ Err error → ((e : TapeError) → IsErrOf result e → IsReplayError e) → (IsErrOf result OutOfMemory → WasRunOrNot old new steps) → ((r : Bool) (end at : ℕ) → IsErrOf result (Differs r end at) → WasRunInMemory old new steps) → WasRunOrNot old new steps
  run_or_not OutOfMemory e other out_of_memory adds = out_of_memory e
  run_or_not (Differs reader end at) e other out_of_memory adds = let ran = adds reader end at e in inr (ran.0, ran.1)
  run_or_not NotATape e other out_of_memory adds = absurd (other NotATape e)
  run_or_not NotTapable e other out_of_memory adds = absurd (other NotTapable e)
  run_or_not (Holding n) e other out_of_memory adds = absurd (other (Holding n) e)
