use Rattle.std.proofs.Common.{◌≡◌, ◌+◌, ◌*◌}
use Rattle.strm_codes.specs.Spellings.{first_type, spelled}
use Rattle.strm_memory.specs.Items.{stored_at}
use Rattle.strm_memory.proofs.CompoundLemmas.{good_at, stored_from}
use Rattle.strm_memory.proofs.compounds.copy_compounds.Given as goal

abbrev pub invariant-loop-k : goal.invariant-loop-k
invariant-loop-k l = record {
  rest : stored_from (first_type (spelled l.nodes)) (good_at (first_type (spelled l.nodes)) l.source l.from l.count) l.k (l.to + l.size * l.k) l.destination
      ≡ stored_at (first_type (spelled l.nodes)) l.fn.destination l.to (good_at (first_type (spelled l.nodes)) l.source l.from l.count);
}
