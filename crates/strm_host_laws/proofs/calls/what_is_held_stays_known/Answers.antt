-- Whether host writers hold items is known after every call.
use Rattle.strm_host_laws.proofs.Known.{call-knows, reaction-knows}
use Rattle.strm_host_laws.proofs.calls.what_is_held_stays_known.Goals as goal

pub returns-clause-hosted : goal.returns-clause-hosted
returns-clause-hosted c old new tells told reply act d h = call-knows old new tells told reply act d h

pub returns-clause-alone : goal.returns-clause-alone
returns-clause-alone c old tells act h = reaction-knows old tells act h
