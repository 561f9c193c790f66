use Rattle.strm_waitable_sets.proofs.SetLemmas.{is_member-left_same, is_member-joined_same, lists_members}
use Rattle.strm_waitable_sets.proofs.laws.one_set_each.Goals as goal

pub returns-clause-left : goal.returns-clause-left
returns-clause-left c = is_member-left_same

pub returns-clause-joined : goal.returns-clause-joined
returns-clause-joined c = is_member-joined_same

pub returns-clause-members : goal.returns-clause-members
returns-clause-members c = lists_members
