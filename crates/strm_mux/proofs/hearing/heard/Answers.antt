use Rattle.strm_mux.proofs.HearingLemmas.{hears_on}
use Rattle.strm_mux.proofs.hearing.heard.Goals as goal

pub hear-requires : goal.hear-requires
hear-requires c = hears_on c.args.replies.now c.loop-reply.reply-index c.reply-item.result c.loop-reply.demux c.loop-reply-test.true c.reply-item.is c.requires c.loop-reply.invariant
