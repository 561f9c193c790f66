use Rattle.strm_chain.specs.Making.{AreMade}
use Rattle.strm_chain.proofs.making.add_guests.Given as goal

abbrev pub invariant-loop-made : goal.invariant-loop-made
invariant-loop-made l = AreMade l._made 0 l.player
