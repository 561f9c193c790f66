-- No two open sides.
use Rattle.strm_host_laws.proofs.GuestRuns.{apart, idle, unread}
use Rattle.strm_host_laws.proofs.guests.never_two_open.Goals as goal

pub returns-clause-apart : goal.returns-clause-apart
returns-clause-apart c tag limits old new run count s a = apart tag limits old new run count s a

pub returns-clause-idle : goal.returns-clause-idle
returns-clause-idle c tag limits old new run count s a h = idle tag limits old new run count s a h

pub returns-clause-unread : goal.returns-clause-unread
returns-clause-unread c tag limits old new run count s a h = unread tag limits old new run count s a h
