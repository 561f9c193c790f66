use Rattle.strm_chain.proofs.LimitLemmas.{pair_done}
use Rattle.strm_chain.proofs.MakingLemmas.{pair_ok}
use Rattle.strm_chain.proofs.making.make_pair.Goals as goal

pub new_between-requires-clause-done : goal.new_between-requires-clause-done
new_between-requires-clause-done c =
    let m = c.requires.made in
    pair_done m.0 c.args.writer c.args.player.now.state m.2.guests_are m.2.streams_are c.requires.few m.1 m.2.little c.played.ensures.running

pub returns : goal.returns
returns c =
    let m = c.requires.made in
    pair_ok c.new_between.result c.args.player.now c.new_between.new.self c.args.writer m.0 c.requires.few m.1 m.2 c.new_between.ensures
