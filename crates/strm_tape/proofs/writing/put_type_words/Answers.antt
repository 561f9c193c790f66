use Rattle.std.proofs.Common.{arith}
use Rattle.strm_codes.proofs.NodeByteLemmas.{HasByte-at}
use Rattle.strm_codes.specs.declared.nodes.Node.TheVariants as node
use Rattle.strm_tape.proofs.writing.put_type_words.Goals as goal

pub to_byte-requires-clause-counted : goal.to_byte-requires-clause-counted
to_byte-requires-clause-counted c = (HasByte-at c.args.words.now c.loop-k.k node.Nothing c.requires.each c.requires.few (omega (arith, c.loop-k-test.true))).counted

pub to_byte-requires-clause-few : goal.to_byte-requires-clause-few
to_byte-requires-clause-few c = (HasByte-at c.args.words.now c.loop-k.k node.Nothing c.requires.each c.requires.few (omega (arith, c.loop-k-test.true))).few
