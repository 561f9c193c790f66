use Rattle.std.proofs.Common.{arith}
use Rattle.strm_lines.proofs.TypeWordLemmas.{no_room, room}
use Rattle.strm_lines.proofs.type_words.TypeWords.push.Goals as goal

pub returns-then-self-eq16 : goal.returns-then-self-eq16
returns-then-self-eq16 c = no_room c.self.inside.nodes c.args.self.now c.self.inside.len c.args.node c.self.invariant.0 (omega (arith, c.if-self-eq16.true)) c.self.view_is

pub returns : goal.returns
returns c = room c.self.inside.nodes c.args.self.now c.self.inside.len c.args.node c.self.invariant.0 (omega (arith, c.if-self-eq16.false, c.self.invariant.1)) c.self.view_is
