use Rattle.strm_session.proofs.AmongLemmas.{goes_on_itself}
use Rattle.strm_tape_program.proofs.taking.answer_script.Goals as goal

pub returns-in-Err-TooLong-clause-goes_on : goal.returns-in-Err-TooLong-clause-goes_on
returns-in-Err-TooLong-clause-goes_on g c = goes_on_itself _

pub returns-in_ok-bad_line_text-in-Err-BadLine-clause-goes_on : goal.returns-in_ok-bad_line_text-in-Err-BadLine-clause-goes_on
returns-in_ok-bad_line_text-in-Err-BadLine-clause-goes_on g c = goes_on_itself _

pub returns-in_err-bad_line_text-in-Err-BadLine-clause-goes_on : goal.returns-in_err-bad_line_text-in-Err-BadLine-clause-goes_on
returns-in_err-bad_line_text-in-Err-BadLine-clause-goes_on g c = goes_on_itself _

pub returns-in-Err-OutOfMemory-clause-goes_on : goal.returns-in-Err-OutOfMemory-clause-goes_on
returns-in-Err-OutOfMemory-clause-goes_on g c = goes_on_itself _
