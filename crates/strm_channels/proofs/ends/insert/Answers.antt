use Rattle.std.proofs.Common.{arith, ap}
use Rattle.strm_handles.specs.Handles.{live_of}
use Rattle.strm_handles.proofs.HandleLemmas.{live_of-inserted}
use Rattle.strm_handles.proofs.ChangeLemmas.{insert_gives}
use Rattle.strm_machine.specs.Making.{end_entry}
use Rattle.strm_channels.proofs.EndLemmas.{lends-end_entry}
use Rattle.strm_channels.proofs.ends.insert.Goals as goal

pub returns-clause-live : goal.returns-clause-live
returns-clause-live c =
    let entry = end_entry c.args.side c.args.ty c.args.stream in
    let given = insert_gives c.try_insert.ensures c.requires.room c.requires.small c.requires.below in
    let more = live_of-inserted c.args.table.now.handles entry c.sound.ensures in
    omega (arith, ap live_of given.1, more, lends-end_entry c.args.side c.args.ty c.args.stream)
