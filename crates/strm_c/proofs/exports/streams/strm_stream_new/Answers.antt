-- A stream is made where its guest does not pass its limits.
use Rattle.std.proofs.Common.{sym}
use Rattle.strm_codes.specs.declared.codes.TransmitIndex.TheVariants as index
use Rattle.strm_guest_store.specs.Limits.{is_past}
use Rattle.strm_guest_store.specs.declared.guest_limits.Gain.TheVariants.{Ends}
use Rattle.strm_machine.specs.declared.steps.Step.TheVariants as steps
use Rattle.strm_places.specs.Again.{reacts_at}
use Rattle.strm_c.specs.Payloads.{payload_at}
use Rattle.strm_c.proofs.MakingLemmas.{is_made, made_within}
use Rattle.strm_c.proofs.exports.streams.strm_stream_new.Goals as goal

pub returns-clause-answers : goal.returns-clause-answers
returns-clause-answers c =
    let limited = c.in-Some.store.now in
    let new = c.stream_new.new.self in
    let guest = c.args.guest in
    let payload = c.in-Some-payload_at.payload in
    made_within c.args.store.now limited new (payload_at c.args.payload) payload
    (record { names = sym c.in-Some-payload_at.ensures; state = sym c.in-Some.ensures.store; limits = sym c.in-Some.ensures.limits })
    (λ s limits. is_past s limits guest (Ends 2)) (λ n s payload. reacts_at n s (steps.New guest (index.Stream payload))) c.in-Ok.answer c.pair.result c.args.out.now c.pair.new.out
    c.in-Ok.ensures.within
    (is_made limited.store new.store c.in-Ok.answer (λ n. reacts_at n limited.store (steps.New guest (index.Stream payload))) c.pair.result c.args.out.now c.pair.new.out c.in-Ok.ensures.meets c.pair.ensures.status c.pair.ensures.pair)
