use Rattle.std.proofs.Common.{◌+◌, [], ◌++◌, drop, get_or, refl, sym, ap, ◌∙◌, append_assoc}
use Rattle.std.proofs.lemmas.List.{append-nil, drop_more, drop_all}
use Rattle.strm_lines.specs.Text.{line_ended, stream_text, stream_lines}
use Rattle.strm_codes.proofs.ResultLemmas.{on_err}
use Rattle.strm_lines.proofs.PartLemmas.{part_same, part_more}
use Rattle.strm_lines.proofs.texts.push_streams.Goals as goal

pub returns-in_err-push_stream-clause-err : goal.returns-in_err-push_stream-clause-err
returns-in_err-push_stream-clause-err c =
    let moved = c.args.moved.now in
    let k = c.loop-stream.stream in
    let i = c.loop-stream.invariant in
    let line = line_ended (stream_text k (get_or moved k 0)) in
    on_err c.from_residual.result
    (part_same _ _ _ _ (ap (λ r. i.0 ++ stream_lines k r) (sym (drop_more moved k 0 c.loop-stream-test.true)) ∙ i.2)
    (part_more c.args.out.now c.loop-stream.out c.push_stream.new.out i.0 line (stream_lines (k + 1) (drop (k + 1) moved)) i.1 c.in_err-push_stream.ensures.err))

pub loop-stream-init : goal.loop-stream-init
loop-stream-init c = ([], sym (append-nil c.args.out.now), refl)

pub loop-stream-preserved : goal.loop-stream-preserved
loop-stream-preserved c =
    let moved = c.args.moved.now in
    let k = c.loop-stream.stream in
    let i = c.loop-stream.invariant in
    let line = line_ended (stream_text k (get_or moved k 0)) in
    let rest = stream_lines (k + 1) (drop (k + 1) moved) in (
      i.0 ++ line,
      c.in_ok-push_stream.ensures.ok ∙ ap (λ o. o ++ line) i.1 ∙ append_assoc c.args.out.now i.0 line,
      append_assoc i.0 line rest ∙ ap (λ r. i.0 ++ stream_lines k r) (sym (drop_more moved k 0 c.loop-stream-test.true)) ∙ i.2,
    )

pub returns-clause-ok : goal.returns-clause-ok
returns-clause-ok c =
    let moved = c.args.moved.now in
    let k = c.loop-stream.stream in
    let i = c.loop-stream.invariant in
    let whole = sym (append-nil i.0) ∙ ap (λ r. i.0 ++ stream_lines k r) (sym (drop_all k moved c.loop-stream-test.false)) ∙ i.2 in
    i.1 ∙ ap (λ t. c.args.out.now ++ t) whole
