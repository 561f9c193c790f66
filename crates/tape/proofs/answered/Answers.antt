-- What is done for the words: what they name, and nothing else.
use Rattle.std.proofs.Common.{rules}
use Rattle.strm_tape_program.specs.declared.modes.Mode.TheVariants.{Take, Play}
use Rattle.tape.proofs.NamingLemmas.{take_only, play_only, not_none}
use Rattle.tape.proofs.answered.Goals as goal

pub returns-in-Ok-Take-clause-plays : goal.returns-in-Ok-Take-clause-plays
returns-in-Ok-Take-clause-plays g c = λ names.
    absurd (take_only c.tape_mode.result _ c.tape_mode.ensures.named _ c.in-Ok-Take.is c.in-Ok-Take.field-0-is names)

pub returns-in-Ok-Take-clause-usage : goal.returns-in-Ok-Take-clause-usage
returns-in-Ok-Take-clause-usage g c = λ none.
    absurd (not_none c.tape_mode.result _ c.tape_mode.ensures.named _ c.in-Ok-Take.is none)

pub returns-in-Ok-Take-clause-unread : goal.returns-in-Ok-Take-clause-unread
returns-in-Ok-Take-clause-unread g c = λ none.
    absurd (not_none c.tape_mode.result _ c.tape_mode.ensures.named _ c.in-Ok-Take.is none)

pub returns-in-Ok-Play-clause-takes : goal.returns-in-Ok-Play-clause-takes
returns-in-Ok-Play-clause-takes g c = λ names.
    absurd (play_only c.tape_mode.result _ c.tape_mode.ensures.named _ c.in-Ok-Play.is c.in-Ok-Play.field-0-is names)

pub returns-in-Ok-Play-clause-plays : goal.returns-in-Ok-Play-clause-plays
returns-in-Ok-Play-clause-plays g c = search rules

pub returns-in-Ok-Play-clause-usage : goal.returns-in-Ok-Play-clause-usage
returns-in-Ok-Play-clause-usage g c = λ none.
    absurd (not_none c.tape_mode.result _ c.tape_mode.ensures.named _ c.in-Ok-Play.is none)

pub returns-in-Ok-Play-clause-unread : goal.returns-in-Ok-Play-clause-unread
returns-in-Ok-Play-clause-unread g c = λ none.
    absurd (not_none c.tape_mode.result _ c.tape_mode.ensures.named _ c.in-Ok-Play.is none)

pub returns-in-Err-clause-takes : goal.returns-in-Err-clause-takes
returns-in-Err-clause-takes g c = λ names. absurd (c.in-Err.ensures.other Take names)

pub returns-in-Err-clause-plays : goal.returns-in-Err-clause-plays
returns-in-Err-clause-plays g c = λ names. absurd (c.in-Err.ensures.other Play names)
