use Rattle.std.proofs.Common.{subst}
use Rattle.strm_lines.specs.Text.{HasPart, line_ended, reply_text}
use Rattle.strm_codes.proofs.ResultLemmas.{on_err}
use Rattle.strm_lines.proofs.PartLemmas.{part_of_item}
use Rattle.strm_lines.proofs.texts.push_replies.Goals as goal

pub returns-in_err-push_reply-clause-err : goal.returns-in_err-push_reply-clause-err
returns-in_err-push_reply-clause-err c =
    let item = c.reply-item.result in
    on_err c.from_residual.result
    (part_of_item (λ reply. line_ended (reply_text reply)) c.args.replies.now c.loop-reply.reply-index item c.args.out.now c.loop-reply.out c.push_reply.new.out c.loop-reply-test.true c.loop-reply.invariant
    (subst (λ reply. HasPart c.loop-reply.out c.push_reply.new.out (line_ended (reply_text reply))) c.reply-item.is c.in_err-push_reply.ensures.err))
