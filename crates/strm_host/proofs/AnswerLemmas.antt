-- What holds whatever a poll answered.
use Rattle.strm_codes.specs.declared.codes.StreamResult.{StreamResult}
use Rattle.strm_buffers.specs.Said.{IfAnswered, IfNoMemory}
use Rattle.strm_buffers.specs.declared.answers.Turn.{Turn}
use Rattle.strm_buffers.specs.declared.answers.Turn.TheVariants.{Pending, Ready, Failed, NoMemory}
use Rattle.strm_host.specs.Futures.{IfPolled}

pub whatever_answered : {P : Type 0} (turn : Turn StreamResult) → P → IfAnswered turn (λ _. P)
whatever_answered Pending p = p
whatever_answered (Ready result) p = p
whatever_answered Failed p = p
whatever_answered NoMemory p = tt

-- and where memory had run out
pub whatever_wanted : {P : Type 0} (turn : Turn StreamResult) → P → IfNoMemory turn P
whatever_wanted Pending p = tt
whatever_wanted (Ready result) p = tt
whatever_wanted Failed p = tt
whatever_wanted NoMemory p = p

-- and whatever the end of a future did
pub whatever_polled : {P : Type 0} (turn : Turn (Unit {0})) → P → IfPolled turn P
whatever_polled Pending p = p
whatever_polled (Ready u) p = p
whatever_polled Failed p = p
whatever_polled NoMemory p = tt
