use Rattle.strm_mux.proofs.HearingLemmas.{HearsSoFar}
use Rattle.strm_mux.proofs.hearing.heard.Given as goal

abbrev pub invariant-loop-reply : goal.invariant-loop-reply
invariant-loop-reply l = HearsSoFar l.replies l.reply-index l.demux
