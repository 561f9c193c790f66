use Rattle.strm_frames.proofs.BothLemmas.{both_ok, both_whole, both_fault}
use Rattle.strm_frames.proofs.taking.survey_both.Goals as goal

pub returns-clause-ok : goal.returns-clause-ok
returns-clause-ok c = both_ok c.args.first.now c.args.second.now c.args.ended.now _ _ c.in_ok-_all._all c.survey-2.result c.in_ok-_all.ensures.ok c.requires c.survey-2.ensures.ok

pub returns-clause-whole : goal.returns-clause-whole
returns-clause-whole c = both_whole c.args.first.now c.args.ended.now _ c.in_ok-_all._all c.survey-2.result c.in_ok-_all.ensures.ok c.requires

pub returns-clause-fault : goal.returns-clause-fault
returns-clause-fault c = both_fault c.args.first.now c.args.second.now c.args.ended.now _ c.in_ok-_all._all c.args.place _ c.survey-2.result c.in_ok-_all.ensures.ok c.requires c.saturating_add.ensures c.survey-2.ensures.fault
