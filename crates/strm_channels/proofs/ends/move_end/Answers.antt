use Rattle.strm_channels.proofs.EndLemmas.{removable_end}
use Rattle.strm_channels.proofs.ends.move_end.Goals as goal

pub remove_end-requires-clause-end : goal.remove_end-requires-clause-end
remove_end-requires-clause-end c =
    let end = c.args.end.now in
    rw c.in_ok-reserve_move.ensures.seen (removable_end c.args.side end.ty _ end.handle c.requires.idle)
