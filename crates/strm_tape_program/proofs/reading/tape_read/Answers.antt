use Rattle.strm_tape_program.proofs.ReadLemmas.{none_too_long, none_read, none_spelled}
use Rattle.strm_tape_program.proofs.WriteLemmas.{writes_answer}
use Rattle.strm_tape_program.proofs.reading.tape_read.Goals as goal

pub returns-in-Err-TooLong-clause-writes : goal.returns-in-Err-TooLong-clause-writes
returns-in-Err-TooLong-clause-writes g c =
    let ended = c.write_answer.ensures in
    let is = none_too_long _ _ _ _ (rw c.in-Err-TooLong.field-0-is at c.in-Err-TooLong.ensures.why) c.too_long_text.ensures in
    writes_answer _ _ _ c.write_answer.result 3 c.too_long_text.result.now is ended.told ended.part ended.write_fault

pub returns-in-Err-Fault-clause-writes : goal.returns-in-Err-Fault-clause-writes
returns-in-Err-Fault-clause-writes g c =
    let ended = c.write_answer-in-Err-Fault.ensures in
    let is = none_read _ _ _ _ (rw c.in-Err-Fault.field-0-is at c.in-Err-Fault.ensures.why) c.read_fault_text.ensures in
    writes_answer _ _ _ c.write_answer-in-Err-Fault.result 4 c.read_fault_text.result.now is ended.told ended.part ended.write_fault

pub returns-in-Err-NotSpelled-clause-writes : goal.returns-in-Err-NotSpelled-clause-writes
returns-in-Err-NotSpelled-clause-writes g c =
    let ended = c.write_answer-in-Err-NotSpelled.ensures in
    let is = none_spelled _ _ _ _ (rw c.in-Err-NotSpelled.field-0-is at c.in-Err-NotSpelled.ensures.why) c.not_a_tape_text.ensures in
    writes_answer _ _ _ c.write_answer-in-Err-NotSpelled.result 11 c.not_a_tape_text.result.now is ended.told ended.part ended.write_fault
