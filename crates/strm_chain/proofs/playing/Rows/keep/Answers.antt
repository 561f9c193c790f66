use Rattle.std.proofs.Common.{arith}
use Rattle.strm_chain.proofs.PlayingLemmas.{follows_more, done_settled}
use Rattle.strm_chain.proofs.playing.Rows.keep.Goals as goal

pub returns-in-Ok-clause-follows : goal.returns-in-Ok-clause-follows
returns-in-Ok-clause-follows c =
    let p = c.requires.played in
    rw (c.in-Ok.ensures.steps, c.in-Ok.ensures.replies)
    (follows_more c.args.self.now.steps c.args.self.now.replies p.before c.args.step.now c.args.reply.now c.args.store.now
    p.follows c.sound.ensures (omega (arith, p.room)) p.reacts (done_settled c.args.reply.now p.done) p.fits)
