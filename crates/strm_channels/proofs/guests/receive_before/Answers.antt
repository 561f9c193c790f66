use Rattle.std.proofs.Common.{arith, rules, get_or}
use Rattle.strm_channels.proofs.BetweenLemmas.{before}
use Rattle.strm_channels.proofs.guests.receive_before.Goals as goal

pub returns-clause-received : goal.returns-clause-received
returns-clause-received c =
    before c.args.payload c.args.count c.args.source c.args.target c.args.guests.now c.split_at_mut-low.result.0.now c.split_at_mut-low.result.1.now c.args.from c.args.to
    (get_or c.split_at_mut-low.result.1.now 0 c.index-high-0.result) (get_or c.split_at_mut-low.result.0.now c.args.to c.index-low-to.result) c.receive.new.self c.split_at_mut-low.ensures.value c.receive.result
    (record { ok = c.receive.ensures.ok; bad = c.receive.ensures.bad; err = c.receive.ensures.err })
    c.split_at_mut-low.ensures.front_len (omega (arith, c.requires.there, c.split_at_mut-low.ensures.back_len)) c.requires.before (search rules) (search rules)
