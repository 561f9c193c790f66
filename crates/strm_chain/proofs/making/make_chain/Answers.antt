use Rattle.std.proofs.Common.{rules, ◌≡◌, ◌+◌, length, sym, subst, arith}
use Rattle.strm_chain.specs.Making.{AreMade, AreJoined, IsReady}
use Rattle.strm_chain.proofs.MomentLemmas.{played_run}
use Rattle.strm_chain.proofs.EndLemmas.{counts_are}
use Rattle.strm_chain.proofs.MakingLemmas.{none_made, joined_last, ready_joined, ready_untold}
use Rattle.strm_chain.proofs.RoomLemmas.{made_room}
use Rattle.strm_chain.proofs.making.make_chain.Goals as goal

pub add_guests-requires-clause-none : goal.add_guests-requires-clause-none
add_guests-requires-clause-none c = subst (AreMade 0 0) (sym c.new-player.ensures) none_made

pub add_source-requires-clause-room : goal.add_source-requires-clause-room
add_source-requires-clause-room c =
    made_room (length c.args.stages.now + 2) 0 1 c.add_guests.new.player c.in_ok-add_guests.ensures (omega (arith, c.requires))

pub add_source-requires-clause-made : goal.add_source-requires-clause-made
add_source-requires-clause-made c = (length c.args.stages.now + 2, omega arith, c.in_ok-add_guests.ensures)

pub add_stage-requires-clause-made : goal.add_stage-requires-clause-made
add_stage-requires-clause-made c =
    let many = c.loop-stage.invariant.joined.many in (
      length c.args.stages.now + 2,
      omega (arith, many, c.loop-stage-test.true),
      subst (λ k. AreMade (length c.args.stages.now + 2) k c.loop-stage.player) (sym many) c.loop-stage.invariant.made,
    )

pub add_stage-requires-clause-room : goal.add_stage-requires-clause-room
add_stage-requires-clause-room c =
    made_room (length c.args.stages.now + 2) (c.loop-stage.stage-index + 1) 1 c.loop-stage.player c.loop-stage.invariant.made (omega (arith, c.requires, c.loop-stage-test.true))

pub loop-stage-init : goal.loop-stage-init
loop-stage-init c =
    let x = c.in_ok-read.ensures c.args.stages.now (length c.args.stages.now + 2) c.in_ok-add_guests.ensures in
    record { joined = x.0; made = x.1 }

pub loop-stage-preserved : goal.loop-stage-preserved
loop-stage-preserved c =
    let i = c.loop-stage.invariant in
    let x = c.in_ok-read-2.ensures c.args.input.items c.args.stages.now (length c.args.stages.now + 2) c.loop-stage.stage-index c.loop-stage-test.true (search rules) i.joined i.made in
    record {
      joined = x.0;
      made = subst (λ k. AreMade (length c.args.stages.now + 2) k c.add_stage.new.player) (omega arith) x.1;
    }

pub returns-clause-ready : goal.returns-clause-ready
returns-clause-ready c =
    let i = c.loop-stage.invariant in
    let stages = c.args.stages.now in
    let all : c.loop-stage.stage-index ≡ length stages = omega (arith, c.loop-stage-test.false, c.loop-stage.auto.stage-index-end) in
    subst (IsReady stages c.args.input.items c.loop-stage.player) (sym c.in_ok-add_worker.ensures)
    (joined_last c.args.input.items c.loop-stage.read stages c.loop-stage.player c.loop-stage.workers.items c.new_worker.result
    (subst (λ k. AreJoined c.args.input.items k c.loop-stage.read stages c.loop-stage.player c.loop-stage.workers.items) all i.joined)
    (subst (λ k. AreMade (length stages + 2) (k + 1) c.loop-stage.player) all i.made)
    c.new_worker.ensures)

pub returns-clause-going : goal.returns-clause-going
returns-clause-going c =
    let ready = returns-clause-ready c in
    record {
      joined = ready_joined c.args.stages.now c.args.input.items c.loop-stage.player c.add_worker.new.workers.items ready
          (λ s. counts_are c.loop-stage.player s (played_run c.loop-stage.player c.played.ensures) c.conservation.ensures.conserves);
      told = ready_untold c.args.stages.now c.args.input.items c.loop-stage.player c.add_worker.new.workers.items ready;
    }
