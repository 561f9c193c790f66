-- What a guest was told of its reads and writes, last, in steps and their replies. Ours.
use Rattle.std.specs.Prelude.{ℕ, ◌==◌, Bool, false, if◌then◌else◌, List, [], ◌∷◌, Option, Some, None}
use Rattle.std.specs.Option.{option_or}
use Rattle.strm_codes.specs.declared.codes.ReturnCode.{ReturnCode}
use Rattle.strm_events.specs.Reports.{is_dropped}
use Rattle.strm_machine.specs.Moments.{code_told, as_report}
use Rattle.strm_machine.specs.declared.steps.Step.{Step}
use Rattle.strm_machine.specs.declared.steps.Step.TheVariants as steps
use Rattle.strm_machine.specs.declared.replies.Reply.{Reply}

-- the report that a reply tells guest g, where the step is this guest's
abbrev pub report_if : ℕ → ℕ → Reply → Option ReturnCode
report_if g guest reply = if guest == g then as_report (code_told reply) else None

-- what a step reports to guest g: the code of its read, its write or its event, but Blocked
abbrev pub report_to : ℕ → Step → Reply → Option ReturnCode
report_to g (steps.Write guest ty handle address count) reply = report_if g guest reply
report_to g (steps.Read guest ty handle address count) reply = report_if g guest reply
report_to g (steps.Event guest handle) reply = report_if g guest reply
report_to g _ reply = None

-- the last report to guest g in these steps with their replies, behind an earlier one
unfoldable pub last_report : ℕ → Option ReturnCode → List Step → List Reply → Option ReturnCode
last_report g earlier [] told = earlier
last_report g earlier (step ∷ steps) [] = earlier
last_report g earlier (step ∷ steps) (reply ∷ told) =
    last_report g (option_or (report_to g step reply) earlier) steps told

-- a report that there is no more
abbrev pub tells_end : Option ReturnCode → Bool
tells_end (Some code) = is_dropped code
tells_end None = false

-- by its last report, guest g was told that there is no more
abbrev pub is_told : ℕ → List Step → List Reply → Bool
is_told g steps told = tells_end (last_report g None steps told)
