-- A stream between two guests is made where neither passes its limits.
use Rattle.std.proofs.Common.{sym}
use Rattle.strm_guest_store.specs.Limits.{is_pair_past}
use Rattle.strm_machine.specs.declared.steps.Step.TheVariants as steps
use Rattle.strm_places.specs.Again.{reacts_at}
use Rattle.strm_c.specs.Payloads.{type_at}
use Rattle.strm_c.proofs.MakingLemmas.{is_made, made_within}
use Rattle.strm_c.proofs.exports.moves.other_between.Goals as goal

pub returns-clause-answers : goal.returns-clause-answers
returns-clause-answers c =
    let limited = c.in-Some-limited_mut.store.now in
    let new = c.new_between.new.self in
    let writer = c.args.writer in
    let reader = c.args.reader in
    let ty = c.in-Some.ty in
    made_within c.args.store.now limited new (type_at c.args.word) ty
    (record { names = c.in-Some.ensures; state = sym c.in-Some-limited_mut.ensures.store; limits = sym c.in-Some-limited_mut.ensures.limits })
    (λ s limits. is_pair_past s limits writer reader) (λ n s ty. reacts_at n s (steps.Between writer reader ty)) c.in-Ok.answer c.pair.result c.args.out.now c.pair.new.out
    c.in-Ok.ensures.within
    (is_made limited.store new.store c.in-Ok.answer (λ n. reacts_at n limited.store (steps.Between writer reader ty)) c.pair.result c.args.out.now c.pair.new.out c.in-Ok.ensures.meets c.pair.ensures.status c.pair.ensures.pair)
