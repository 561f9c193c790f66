use Rattle.std.proofs.Common.{arith}
use Rattle.std.proofs.lemmas.List.Sums.{count_by-le-length}
use Rattle.strm_machine.specs.State.{is_live}
use Rattle.strm_transmit.proofs.PlaceLemmas.{next_gone, some_free, ArePlaces-reused}
use Rattle.strm_transmit.proofs.places.reuse.Goals as goal

pub index_mut-requires : goal.index_mut-requires
index_mut-requires c =
    let gone = next_gone c.args.places.now c.args.streams.now.items c.args.place c.requires.next c.requires.places in
    omega (arith, gone.made, c.args.streams.now.ok)

pub take-requires-clause-some : goal.take-requires-clause-some
take-requires-clause-some c = some_free c.args.places.now.free c.args.place c.requires.next

pub take-requires-clause-few : goal.take-requires-clause-few
take-requires-clause-few c = omega (arith, c.requires.few, c.requires.places.live, count_by-le-length is_live c.args.streams.now.items)

pub returns-clause-places : goal.returns-clause-places
returns-clause-places c =
    ArePlaces-reused c.args.streams.now.items c.args.place c.args.stream
    (next_gone c.args.places.now c.args.streams.now.items c.args.place c.requires.next c.requires.places).made
    c.args.places.now _ c.requires.next c.take.ensures c.requires.live c.requires.places
