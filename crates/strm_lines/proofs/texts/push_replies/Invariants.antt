use Rattle.std.proofs.Common.{◌≡◌, ◌++◌, take}
use Rattle.strm_lines.specs.Text.{reply_lines}
use Rattle.strm_lines.proofs.texts.push_replies.Given as goal

abbrev pub invariant-loop-reply : goal.invariant-loop-reply
invariant-loop-reply l = l.out ≡ l.fn.out ++ reply_lines (take l.reply-index l.replies)
