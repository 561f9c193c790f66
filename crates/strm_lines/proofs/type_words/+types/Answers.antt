use Rattle.std.proofs.Common.{◌-◌, ◌∙◌, None, Some, arith}
use Rattle.strm_lines.specs.Reading.{type_front}
use Rattle.strm_lines.proofs.TypeWordLemmas.{front_none, front_leaf, front_bracket, bracket_unpushed, bracket_unread, bracket_unclosed, bracket_closed, parts_none, parts_more, part_ends, part_stops, part_fails, part_more}
use Rattle.strm_lines.proofs.type_words.+types.Goals as goal

pub read_type-returns-then-depth-eq0 : goal.read_type-returns-then-depth-eq0
read_type-returns-then-depth-eq0 t c = front_none c.args.depth c.args.words.now c.args.text.now (omega (arith, c.if-depth-eq0.true))

pub read_type-returns-in_err-read_leaf : goal.read_type-returns-in_err-read_leaf
read_type-returns-in_err-read_leaf t c =
    rw c.from_residual.ensures
    (front_leaf c.args.depth c.args.words.now c.args.text.now c.name.result.0.now c.name.result.1.now None (omega (arith, c.if-depth-eq0.false)) c.name.ensures c.in_default.ensures c.in_err-read_leaf.ensures)

pub read_type-returns-in_default : goal.read_type-returns-in_default
read_type-returns-in_default t c =
    front_leaf c.args.depth c.args.words.now c.args.text.now c.name.result.0.now c.name.result.1.now (Some c.read_leaf.new.words) (omega (arith, c.if-depth-eq0.false)) c.name.ensures c.in_default.ensures c.in_ok-read_leaf.ensures

pub read_type-returns-in_err-push : goal.read_type-returns-in_err-push
read_type-returns-in_err-push t c =
    rw c.from_residual-in_err-push.ensures
    (bracket_unpushed (c.args.depth - 1) c.args.words.now c.name.result.0.now c.in-Some.inside.now c.in_err-push.ensures
    ∙ front_bracket c.args.depth c.args.words.now c.args.text.now c.name.result.0.now c.name.result.1.now c.in-Some.inside.now (omega (arith, c.if-depth-eq0.false)) c.name.ensures c.in-Some.ensures)

pub read_type-returns-in_err-parts : goal.read_type-returns-in_err-parts
read_type-returns-in_err-parts t c =
    rw c.from_residual-in_err-parts.ensures
    (bracket_unread (c.args.depth - 1) c.args.words.now c.push.new.self c.name.result.0.now c.in-Some.inside.now c.in_ok-push.ensures c.in_err-parts.ensures.exact
    ∙ front_bracket c.args.depth c.args.words.now c.args.text.now c.name.result.0.now c.name.result.1.now c.in-Some.inside.now (omega (arith, c.if-depth-eq0.false)) c.name.ensures c.in-Some.ensures)

pub read_type-returns-in_err-close : goal.read_type-returns-in_err-close
read_type-returns-in_err-close t c =
    rw c.from_residual-in_err-close.ensures
    (bracket_unclosed (c.args.depth - 1) c.args.words.now c.push.new.self c.read_parts.new.words c.name.result.0.now c.in-Some.inside.now c.in_ok-parts.parts.rest.now c.len-place.result c.in_ok-parts.parts.count c.in_ok-parts.parts.ends_empty
    c.in_ok-push.ensures c.in_ok-parts.ensures.exact c.len-place.ensures c.in_err-close.ensures
    ∙ front_bracket c.args.depth c.args.words.now c.args.text.now c.name.result.0.now c.name.result.1.now c.in-Some.inside.now (omega (arith, c.if-depth-eq0.false)) c.name.ensures c.in-Some.ensures)

pub read_type-returns : goal.read_type-returns
read_type-returns t c =
    bracket_closed (c.args.depth - 1) c.args.words.now c.push.new.self c.read_parts.new.words c.name.result.0.now c.in-Some.inside.now c.in_ok-parts.parts.rest.now c.len-place.result c.in_ok-parts.parts.count c.in_ok-parts.parts.ends_empty
    c.in_ok-push.ensures c.in_ok-parts.ensures.exact c.len-place.ensures c.close.new.words c.in_ok-close.ensures
    ∙ front_bracket c.args.depth c.args.words.now c.args.text.now c.name.result.0.now c.name.result.1.now c.in-Some.inside.now (omega (arith, c.if-depth-eq0.false)) c.name.ensures c.in-Some.ensures

pub read_parts-returns-then-most-eq0-clause-exact : goal.read_parts-returns-then-most-eq0-clause-exact
read_parts-returns-then-most-eq0-clause-exact t c = parts_none (type_front c.args.depth) c.args.most c.args.words.now c.args.text.now (omega (arith, c.if-most-eq0.true))

pub read_parts-returns-in_err-rest-clause-exact : goal.read_parts-returns-in_err-rest-clause-exact
read_parts-returns-in_err-rest-clause-exact t c =
    rw c.from_residual.ensures
    (parts_more (type_front c.args.depth) c.args.most c.args.words.now c.args.text.now None (omega (arith, c.if-most-eq0.false)) c.in_err-rest.ensures)

pub read_parts-returns-in-Some-clause-exact : goal.read_parts-returns-in-Some-clause-exact
read_parts-returns-in-Some-clause-exact t c =
    part_ends (type_front c.args.depth) (c.args.most - 1) c.args.words.now c.read_type.new.words c.in_ok-rest.rest.now c.in-Some.rest.now c.len-place.result c.is_nothing.result c.in-Some.ensures c.len-place.ensures c.is_nothing.ensures
    ∙ parts_more (type_front c.args.depth) c.args.most c.args.words.now c.args.text.now (Some (c.read_type.new.words, c.in_ok-rest.rest.now)) (omega (arith, c.if-most-eq0.false)) c.in_ok-rest.ensures

pub read_parts-returns-in_err-others-clause-exact : goal.read_parts-returns-in_err-others-clause-exact
read_parts-returns-in_err-others-clause-exact t c =
    rw c.from_residual-in_err-others.ensures
    (part_stops (type_front c.args.depth) (c.args.most - 1) c.args.words.now c.read_type.new.words c.in_ok-rest.rest.now c.in_default.ensures c.in_err-others.ensures
    ∙ parts_more (type_front c.args.depth) c.args.most c.args.words.now c.args.text.now (Some (c.read_type.new.words, c.in_ok-rest.rest.now)) (omega (arith, c.if-most-eq0.false)) c.in_ok-rest.ensures)

pub read_parts-returns-in_err-parts-clause-exact : goal.read_parts-returns-in_err-parts-clause-exact
read_parts-returns-in_err-parts-clause-exact t c =
    rw c.from_residual-in_err-parts.ensures
    (part_fails (type_front c.args.depth) (c.args.most - 1) c.args.words.now c.read_type.new.words c.in_ok-rest.rest.now c.in_ok-others.others.now c.in_default.ensures c.in_ok-others.ensures c.in_err-parts.ensures.exact
    ∙ parts_more (type_front c.args.depth) c.args.most c.args.words.now c.args.text.now (Some (c.read_type.new.words, c.in_ok-rest.rest.now)) (omega (arith, c.if-most-eq0.false)) c.in_ok-rest.ensures)

pub read_parts-returns-clause-exact : goal.read_parts-returns-clause-exact
read_parts-returns-clause-exact t c =
    part_more (type_front c.args.depth) (c.args.most - 1) c.args.words.now c.read_type.new.words c.in_ok-rest.rest.now c.in_ok-others.others.now c.in_default.ensures c.in_ok-others.ensures (c.in_ok-parts.parts.count, c.in_ok-parts.parts.ends_empty, c.read_parts.new.words, c.in_ok-parts.parts.rest.now) c.in_ok-parts.ensures.exact
    ∙ parts_more (type_front c.args.depth) c.args.most c.args.words.now c.args.text.now (Some (c.read_type.new.words, c.in_ok-rest.rest.now)) (omega (arith, c.if-most-eq0.false)) c.in_ok-rest.ensures
