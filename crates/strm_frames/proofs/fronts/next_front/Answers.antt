use Rattle.std.proofs.Common.{sym, ◌∙◌, length}
use Rattle.std.proofs.lemmas.Bool.{eqb-true, eqb-false}
use Rattle.strm_frames.proofs.FrontLemmas.{front-none, front-neither}
use Rattle.strm_frames.proofs.fronts.next_front.Goals as goal

pub returns-then-is_empty : goal.returns-then-is_empty
returns-then-is_empty c = front-none c.args.bytes.now (eqb-true (length c.args.bytes.now) 0 (sym c.is_empty.ensures ∙ c.if-is_empty.true))

pub returns-else-kind-eq1 : goal.returns-else-kind-eq1
returns-else-kind-eq1 c =
    front-neither c.args.bytes.now (eqb-false (length c.args.bytes.now) 0 (sym c.is_empty.ensures ∙ c.if-is_empty.false)) c.if-kind-eq0.false c.if-kind-eq1.false
