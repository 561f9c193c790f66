use Rattle.strm_ready_ends.proofs.RuleLemmas.{empty_keeps, empty_is_no_fault, takes_keeps, takes_is_no_fault}
use Rattle.strm_ready_ends.proofs.laws.no_rule_is_broken.Goals as goal

pub returns-clause-writers : goal.returns-clause-writers
returns-clause-writers c queue room finish = empty_keeps queue.kind queue.ended finish room

pub returns-clause-no_writer_fails : goal.returns-clause-no_writer_fails
returns-clause-no_writer_fails c queue room finish = empty_is_no_fault queue.kind queue.ended finish

pub returns-clause-readers : goal.returns-clause-readers
returns-clause-readers c old new before after finish answer t h = takes_keeps old new before after finish answer t h

pub returns-clause-no_reader_fails : goal.returns-clause-no_reader_fails
returns-clause-no_reader_fails c old new before after finish answer t = takes_is_no_fault old new before after finish answer t
