use Rattle.std.proofs.Common.{◌≡◌, ◌++◌, ◌<◌, length, sym, ◌∙◌, subst, ⊎_elim, arith}
use Rattle.std.specs.Prelude.{OnOk}
use Rattle.std.proofs.lemmas.Bool.{eqb-true}
use Rattle.std.proofs.lemmas.List.{append-nil}
use Rattle.strm_mux.proofs.TextLemmas.{unnamed_line, line_of_bytes, line_of_end}
use Rattle.strm_mux.proofs.texts.push_lane.Goals as goal

pub returns-then-not-is_ended : goal.returns-then-not-is_ended
returns-then-not-is_ended c = λ given d h.
    let inside : c.args.lane < 256 = omega (arith, c.ranges.lane.fits) in
    let none = unnamed_line c.args.lane given _ _ h (sym (d.lanes c.args.lane inside) ∙ sym c.lane-bytes.ensures) (sym (d.ended c.args.lane inside) ∙ sym c.ended-is_ended.ensures) (eqb-true (length c.lane-bytes.result.now) 0 (sym c.is_empty.ensures ∙ c.if-is_empty.true)) c.if-not-is_ended.true in
    rw none (sym (append-nil c.args.out.now))

pub returns : goal.returns
returns c = λ given d h.
    let inside : c.args.lane < 256 = omega (arith, c.ranges.lane.fits) in
    let bytes = sym (d.lanes c.args.lane inside) ∙ sym c.lane-bytes.ensures in
    let flag = sym (d.ended c.args.lane inside) ∙ sym c.ended-is_ended.ensures in
    let line = ⊎_elim (λ b. line_of_end c.args.lane given _ _ h bytes flag b.1) (λ n. line_of_bytes c.args.lane given _ _ h bytes flag (sym c.is_empty.ensures ∙ n)) c.else-is_empty.either in
    subst (λ t. OnOk c.push_named.result (c.push_named.new.out ≡ c.args.out.now ++ t)) (sym line) c.push_named.ensures
