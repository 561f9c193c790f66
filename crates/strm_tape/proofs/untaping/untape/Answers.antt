use Rattle.std.proofs.Common.{◌≡◌, ◌∙◌, [], length, sym, ap}
use Rattle.std.proofs.lemmas.Option.{none-some}
use Rattle.std.proofs.lemmas.Bool.{eqb-true, eqb-false}
use Rattle.strm_tape.proofs.TapeLemmas.{whole_is, read_whole, one_tape}
use Rattle.strm_tape.proofs.untaping.untape.Goals as goal

pub returns-then-is_empty-clause-ok : goal.returns-then-is_empty-clause-ok
returns-then-is_empty-clause-ok c =
    whole_is c.args.bytes.now c.in-Ok-Some.rest.now c.in-Ok-Some.tape c.are_bytes.ensures (sym (rw c.in-Ok-Some.field-0-is at c.in-Ok-Some.ensures)) (eqb-true (length c.in-Ok-Some.rest.now) 0 (sym c.is_empty.ensures ∙ c.if-is_empty.true))

pub returns-then-is_empty-clause-again : goal.returns-then-is_empty-clause-again
returns-then-is_empty-clause-again c =
    λ t f s. (one_tape c.args.bytes.now c.in-Ok-Some.rest.now c.in-Ok-Some.tape t (sym (rw c.in-Ok-Some.field-0-is at c.in-Ok-Some.ensures)) f s).0

pub returns-else-is_empty-clause-not_a_tape : goal.returns-else-is_empty-clause-not_a_tape
returns-else-is_empty-clause-not_a_tape c =
    λ i t f s.
    let none : length c.in-Ok-Some.rest.now ≡ 0 = ap length (one_tape c.args.bytes.now c.in-Ok-Some.rest.now c.in-Ok-Some.tape t (sym (rw c.in-Ok-Some.field-0-is at c.in-Ok-Some.ensures)) f s).1 in
    eqb-false (length c.in-Ok-Some.rest.now) 0 (sym c.is_empty.ensures ∙ c.if-is_empty.false) none

pub returns-in-Ok-None-clause-not_a_tape : goal.returns-in-Ok-None-clause-not_a_tape
returns-in-Ok-None-clause-not_a_tape c =
    λ i t f s. none-some (t, []) ((rw c.in-Ok-None.field-0-is at c.in-Ok-None.ensures) ∙ read_whole c.args.bytes.now t f s)
