use Rattle.std.proofs.Common.{◌≡◌, length, refl, ap, subst, arith}
use Rattle.strm_codes.specs.declared.codes.ReturnCode.TheVariants as codes
use Rattle.strm_machine.specs.declared.steps.Step.TheVariants as steps
use Rattle.strm_machine.specs.declared.replies.Reply.TheVariants as replies
use Rattle.strm_chain.specs.Playing.{Adds, bytes_type}
use Rattle.strm_chain.specs.Turned.{Pokes, WriteServes}
use Rattle.strm_chain.proofs.GuestLemmas.{poke_is_done, guest_poked, write_is_done, write_answers, served_within, undropped, written_uncancelled}
use Rattle.strm_chain.proofs.workers.begin_write.Goals as goal

pub poke-requires-clause-done : goal.poke-requires-clause-done
poke-requires-clause-done c =
    poke_is_done c.args.guest c.args.worker.now c.args.player.now c.requires.guest c.requires.guest.played c.args.bytes.now (omega (arith, c.requires.some.most, c.requires.most))

pub operate-requires-clause-done : goal.operate-requires-clause-done
operate-requires-clause-done c =
    let pokes : Pokes c.args.guest c.args.chunk c.args.worker.now c.args.bytes.now c.args.player.now c.poke.new.self =
    record { rests = c.requires.rests; some = c.requires.some; next = c.requires.next; adds = c.in_ok-poke.ensures } in
    let guest = guest_poked c.args.guest c.args.worker.now c.args.player.now c.requires.guest c.requires.guest.played c.args.chunk c.args.bytes.now c.poke.new.self c.requires.most c.played.ensures c.requires.writes pokes in
    let many : length c.as_slice.result.now ≡ length c.args.bytes.now = ap length c.as_slice.ensures.exact in
    write_is_done c.args.guest c.args.worker.now c.poke.new.self guest c.played.ensures c.in-Some.handle (let i = c.in-Some.is in cc) (length c.as_slice.result.now) c.requires.rests
    (record { some = omega (arith, many, c.requires.some.some); most = omega (arith, many, c.requires.some.most, c.requires.most) })

pub hand_over-requires-clause-within : goal.hand_over-requires-clause-within
hand_over-requires-clause-within c =
    let pokes : Pokes c.args.guest c.args.chunk c.args.worker.now c.args.bytes.now c.args.player.now c.poke.new.self =
    record { rests = c.requires.rests; some = c.requires.some; next = c.requires.next; adds = c.in_ok-poke.ensures } in
    let adds = subst (λ k. Adds c.poke.new.self c.operate.new.self (steps.Write c.args.guest bytes_type c.in-Some.handle 64 (length c.as_slice.result.now)) (replies.Code k)) c.in-Completed.is c.in_ok-code.ensures in
    served_within c.args.guest c.args.worker.now c.args.player.now c.requires.guest c.requires.guest.played c.operate.new.self c.played-2.ensures c.in-Completed.count c.args.chunk c.requires.most
    (record {
      handle = c.in-Some.handle;
      has = (let i = c.in-Some.is in cc);
      bytes = c.args.bytes.now;
      mid = c.poke.new.self;
      pokes = pokes;
      adds = rw (← c.as_slice.ensures.exact) adds;
    })

pub unreachable-requires-in-Dropped : goal.unreachable-requires-in-Dropped
unreachable-requires-in-Dropped c =
    let pokes : Pokes c.args.guest c.args.chunk c.args.worker.now c.args.bytes.now c.args.player.now c.poke.new.self =
    record { rests = c.requires.rests; some = c.requires.some; next = c.requires.next; adds = c.in_ok-poke.ensures } in
    let guest = guest_poked c.args.guest c.args.worker.now c.args.player.now c.requires.guest c.requires.guest.played c.args.chunk c.args.bytes.now c.poke.new.self c.requires.most c.played.ensures c.requires.writes pokes in
    let many : length c.as_slice.result.now ≡ length c.args.bytes.now = ap length c.as_slice.ensures.exact in
    undropped c.in_ok-code.code _
    (write_answers c.args.guest c.args.worker.now c.poke.new.self guest c.played.ensures c.in-Some.handle (let i = c.in-Some.is in cc) (length c.as_slice.result.now) c.requires.rests
    (record { some = omega (arith, many, c.requires.some.some); most = omega (arith, many, c.requires.some.most, c.requires.most) })
    c.operate.new.self c.in_ok-code.code c.in_ok-code.ensures) c.in-Dropped.is

pub unreachable-requires-in-Cancelled : goal.unreachable-requires-in-Cancelled
unreachable-requires-in-Cancelled c =
    let pokes : Pokes c.args.guest c.args.chunk c.args.worker.now c.args.bytes.now c.args.player.now c.poke.new.self =
    record { rests = c.requires.rests; some = c.requires.some; next = c.requires.next; adds = c.in_ok-poke.ensures } in
    let guest = guest_poked c.args.guest c.args.worker.now c.args.player.now c.requires.guest c.requires.guest.played c.args.chunk c.args.bytes.now c.poke.new.self c.requires.most c.played.ensures c.requires.writes pokes in
    let many : length c.as_slice.result.now ≡ length c.args.bytes.now = ap length c.as_slice.ensures.exact in
    written_uncancelled c.in_ok-code.code _
    (write_answers c.args.guest c.args.worker.now c.poke.new.self guest c.played.ensures c.in-Some.handle (let i = c.in-Some.is in cc) (length c.as_slice.result.now) c.requires.rests
    (record { some = omega (arith, many, c.requires.some.some); most = omega (arith, many, c.requires.some.most, c.requires.most) })
    c.operate.new.self c.in_ok-code.code c.in_ok-code.ensures) c.in-Cancelled.is

pub returns-in-Completed : goal.returns-in-Completed
returns-in-Completed c =
    let pokes : Pokes c.args.guest c.args.chunk c.args.worker.now c.args.bytes.now c.args.player.now c.poke.new.self =
    record { rests = c.requires.rests; some = c.requires.some; next = c.requires.next; adds = c.in_ok-poke.ensures } in
    let adds = subst (λ k. Adds c.poke.new.self c.operate.new.self (steps.Write c.args.guest bytes_type c.in-Some.handle 64 (length c.as_slice.result.now)) (replies.Code k)) c.in-Completed.is c.in_ok-code.ensures in
    WriteServes (codes.Completed c.in-Completed.count) refl
    (record {
      handle = c.in-Some.handle;
      has = (let i = c.in-Some.is in cc);
      bytes = c.args.bytes.now;
      mid = c.poke.new.self;
      pokes = pokes;
      adds = rw (← c.as_slice.ensures.exact) adds;
    })
    c.hand_over.ensures
