use Rattle.std.proofs.Common.{arith}
use Rattle.std.proofs.lemmas.List.Sums.{count_by-le-length}
use Rattle.strm_machine.specs.State.{is_live}
use Rattle.strm_transmit.proofs.PlaceLemmas.{ArePlaces-added}
use Rattle.strm_transmit.proofs.places.append.Goals as goal

pub add-requires : goal.add-requires
add-requires c = omega (arith, c.requires.few, c.requires.places.live, count_by-le-length is_live c.args.streams.now.items)

pub returns-clause-places : goal.returns-clause-places
returns-clause-places c =
    ArePlaces-added c.args.streams.now.items _ c.args.stream c.args.places.now _ c.push_reserved.ensures.items c.add.ensures c.requires.live c.requires.room c.requires.places
