use Rattle.strm_chain.proofs.ChainLemmas.{kept_ok, takes_ok}
use Rattle.strm_chain.proofs.chains.turn_in.Goals as goal

pub turn_at-requires-clause-chunk : goal.turn_at-requires-clause-chunk
turn_at-requires-clause-chunk c = c.requires.chain.chunk

pub turn_at-requires-clause-joined : goal.turn_at-requires-clause-joined
turn_at-requires-clause-joined c = c.requires.chain.going.joined

pub returns-clause-kept : goal.returns-clause-kept
returns-clause-kept c =
    let e = c.turn_at.ensures in
    let chain = c.requires.chain in
    kept_ok c.args.player.now c.turn_at.new.player c.args.workers.now c.turn_at.new.workers c.args.who c.args.chunk c.turn_at.result chain.chunk c.requires.there
    (record { many = e.many; others = e.others }) e.before e.after chain.going chain.some e.turned

pub returns-clause-ok : goal.returns-clause-ok
returns-clause-ok c =
    let e = c.turn_at.ensures in
    let chain = c.requires.chain in
    takes_ok c.args.player.now c.turn_at.new.player c.args.workers.now c.turn_at.new.workers c.args.who c.args.chunk c.turn_at.result chain.chunk c.requires.there
    (record { many = e.many; others = e.others }) e.before e.after chain.going chain.some.0 e.turned
