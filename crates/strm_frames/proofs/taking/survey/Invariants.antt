use Rattle.std.proofs.Common.{length}
use Rattle.strm_frames.proofs.TakingLemmas.{SurveysSoFar}
use Rattle.strm_frames.proofs.taking.survey.Given as goal

abbrev pub invariant-frames : goal.invariant-frames
invariant-frames l = SurveysSoFar l.bytes l.rest l.initial.ended l.ended

abbrev pub decreases-frames : goal.decreases-frames
decreases-frames l = length l.rest
