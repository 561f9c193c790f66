use Rattle.std.proofs.Common.{sym, ap}
use Rattle.strm_places.specs.Lives.{end_given_up}
use Rattle.strm_transmit.proofs.LivesLemmas.{may_leave, leaves_stream, end_goes}
use Rattle.strm_transmit.proofs.store.Store.give_up_end.Goals as goal

-- what is named is named by its stream's type too, and has no operation any more
pub release-requires-clause-fits : goal.release-requires-clause-fits
release-requires-clause-fits c =
    may_leave c.args.self.now c.end_operation.new.self c.args.guest c.args.handle c.in-Ok.name c.side_of-side.result c.stream_type-ty.result
    (record { there = c.requires.there; named = sym c.in-Ok.ensures.answer; is_side = c.side_of-side.ensures; idled = c.end_operation.ensures; sound = c.sound.ensures; unhosted = c.requires.unhosted })
    c.stream_type-ty.ensures

pub release-requires-clause-stream : goal.release-requires-clause-stream
release-requires-clause-stream c =
    leaves_stream c.args.self.now c.end_operation.new.self c.args.guest c.args.handle c.in-Ok.name c.side_of-side.result c.stream_type-ty.result
    (record { there = c.requires.there; named = sym c.in-Ok.ensures.answer; is_side = c.side_of-side.ensures; idled = c.end_operation.ensures; sound = c.sound.ensures; unhosted = c.requires.unhosted })
    c.stream_type-ty.ensures

pub returns-in-Ok : goal.returns-in-Ok
returns-in-Ok c =
    end_goes c.args.self.now c.end_operation.new.self c.args.guest c.args.handle c.in-Ok.name c.side_of-side.result c.stream_type-ty.result
    (record { there = c.requires.there; named = sym c.in-Ok.ensures.answer; is_side = c.side_of-side.ensures; idled = c.end_operation.ensures; sound = c.sound.ensures; unhosted = c.requires.unhosted })
    c.stream_type-ty.ensures c.release.new.self c.release.ensures

pub returns-in-Err : goal.returns-in-Err
returns-in-Err c = ap (end_given_up c.args.self.now c.args.guest c.args.handle) c.in-Err.ensures.answer
