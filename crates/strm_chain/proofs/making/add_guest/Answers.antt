use Rattle.strm_chain.proofs.LimitLemmas.{guest_done}
use Rattle.strm_chain.proofs.MakingLemmas.{guest_ok}
use Rattle.strm_chain.proofs.making.add_guest.Goals as goal

pub add_guest-requires-clause-done : goal.add_guest-requires-clause-done
add_guest-requires-clause-done c =
    let m = c.requires.made in
    guest_done m.0 0 c.args.player.now.state c.played.ensures.running m.2.guests_are m.1 m.2.little

pub returns : goal.returns
returns c = guest_ok c.add_guest.result c.args.player.now c.add_guest.new.self c.add_guest.ensures
