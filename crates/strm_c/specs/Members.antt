-- What C gets of a poll of a waitable set. Ours.
use Rattle.std.specs.Prelude.{Option, Some, None, Result, Ok, Err}
use Rattle.strm_codes.specs.Codes.{word_of}
use Rattle.strm_machine.specs.declared.replies.Member.{Member}
use Rattle.strm_machine.specs.declared.replies.Reply.{Reply}
use Rattle.strm_machine.specs.declared.replies.Reply.TheVariants as replies
use Rattle.strm_transmit.specs.declared.errors.StoreError.{StoreError}
use Rattle.strm_c.specs.declared.exports.sets.StrmMember.{StrmMember}

-- the member's handle and the code that it was told; the word 3 for none, and the handle that was there
abbrev pub told_member : Option Member → StrmMember → StrmMember
told_member (Some member) old = record { handle = member.handle; code = word_of member.code }
told_member None old = record { handle = old.handle; code = 3 }

-- the same of the machine's reply; any other leaves what was there
abbrev pub member_in : Reply → StrmMember → StrmMember
member_in (replies.Member member) old = told_member member old
member_in _ old = old

-- and of an answer
abbrev pub answer_member : Result (Option Member) StoreError → StrmMember → StrmMember
answer_member (Ok member) old = told_member member old
answer_member (Err error) old = old
