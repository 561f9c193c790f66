use Rattle.std.proofs.Common.{map, take, string_bytes}
use Rattle.strm_chain.specs.WordReading.{SpellsStages}
use Rattle.strm_chain.proofs.asking.stages_of.Given as goal

abbrev pub invariant-loop-word : goal.invariant-loop-word
invariant-loop-word l = SpellsStages (map string_bytes (take l.word-index l.words)) l.stages.items
