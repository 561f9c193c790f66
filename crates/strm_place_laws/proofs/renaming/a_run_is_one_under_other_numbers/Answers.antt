-- A run.
use Rattle.strm_place_laws.proofs.RenamedRuns.{run-as, end-as, renames_itself}
use Rattle.strm_place_laws.proofs.renaming.a_run_is_one_under_other_numbers.Goals as goal

pub returns-clause-moments : goal.returns-clause-moments
returns-clause-moments c f slim full choices can = run-as f slim full choices can

pub returns-clause-end : goal.returns-clause-end
returns-clause-end c f slim full choices can = end-as f slim full choices can

pub returns-clause-window : goal.returns-clause-window
returns-clause-window c state choices sound hold free room =
    run-as (λ s. s) state state choices (record { renames = renames_itself state; sound = sound; hold = hold; free = free; room = room })
