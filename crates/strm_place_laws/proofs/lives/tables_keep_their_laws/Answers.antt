-- Tables.
use Rattle.strm_laws.proofs.Handles.{handles_hold, handles_are_single, members_are_live, contexts_count}
use Rattle.strm_place_laws.specs.Lives.{end_of_run}
use Rattle.strm_place_laws.proofs.Accounts.{lawful_end, held_end, unhosted_end}
use Rattle.strm_place_laws.proofs.lives.tables_keep_their_laws.Goals as goal

pub returns-clause-sound : goal.returns-clause-sound
returns-clause-sound c tag limits choices run = (lawful_end tag limits choices run).sound

pub returns-clause-hold : goal.returns-clause-hold
returns-clause-hold c tag limits choices run = handles_hold (end_of_run tag limits choices) (held_end tag limits choices run)

pub returns-clause-single : goal.returns-clause-single
returns-clause-single c tag limits choices run = handles_are_single (end_of_run tag limits choices) (held_end tag limits choices run)

pub returns-clause-unhosted : goal.returns-clause-unhosted
returns-clause-unhosted c tag limits choices run = unhosted_end tag limits choices run

pub returns-clause-members : goal.returns-clause-members
returns-clause-members c tag limits choices run = members_are_live (end_of_run tag limits choices) (lawful_end tag limits choices run).sound

pub returns-clause-contexts : goal.returns-clause-contexts
returns-clause-contexts c tag limits choices run = contexts_count (end_of_run tag limits choices) (lawful_end tag limits choices run).sound
