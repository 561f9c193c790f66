use Rattle.std.proofs.Common.{ap, ◌∙◌}
use Rattle.strm_session.specs.Runs.{received_counts}
use Rattle.strm_uses.proofs.RunFacts.{laws_at_end, one_at_end}
use Rattle.strm_uses.proofs.session.run_guests.Goals as goal

pub returns-clause-replies : goal.returns-clause-replies
returns-clause-replies c = (c.in_ok-transcript.ensures.ok.kept c.requires.guests).told

pub returns-clause-counts : goal.returns-clause-counts
returns-clause-counts c = c.in_ok-transcript.ensures.received ∙ ap received_counts (c.in_ok-transcript.ensures.ok.kept c.requires.guests).ends

pub returns-clause-conserves : goal.returns-clause-conserves
returns-clause-conserves c = λ s. (laws_at_end _ _ _ (c.in_ok-transcript.ensures.ok.kept c.requires.guests)).conserves s

pub returns-clause-passes_one : goal.returns-clause-passes_one
returns-clause-passes_one c = one_at_end _ _ _ (c.in_ok-transcript.ensures.ok.kept c.requires.guests)
