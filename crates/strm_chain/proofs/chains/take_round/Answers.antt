use Rattle.std.proofs.Common.{◌-◌, ap, arith, length}
use Rattle.strm_chain.proofs.ChainLemmas.{goes_nowhere, goes_further, alike_of}
use Rattle.strm_chain.proofs.TurningLemmas.{some_none, some_more}
use Rattle.strm_chain.proofs.RoundLemmas.{round_none, round_more, round_falls}
use Rattle.strm_chain.proofs.chains.take_round.Goals as goal

pub loop-who-init : goal.loop-who-init
loop-who-init c = record {
  turns = some_none (length c.args.chain.now.workers - 1) c.args.chain.now.chunk c.args.chain.now.play;
  goes_on = goes_nowhere c.args.chain.now;
  runs = c.requires.runs;
  short = omega arith;
  round = round_none c.args.chain.now.play.state c.args.chain.now.workers;
}

pub turn_with_room-requires-clause-room : goal.turn_with_room-requires-clause-room
turn_with_room-requires-clause-room c =
    omega (arith, c.requires.room, c.loop-who.invariant.short, c.loop-who-test.true, c.loop-who.auto.who-end, c.guests-who-end.ensures.count, c.somebody_goes.ensures.few)

pub loop-who-preserved : goal.loop-who-preserved
loop-who-preserved c =
    let i = c.loop-who.invariant in
    let e = c.in_ok-turn_with_room.ensures.ok in
    record {
      turns = some_more (length c.args.chain.now.workers - 1) (length c.loop-who.chain.workers - 1) c.args.chain.now.chunk c.loop-who.chain.chunk
          c.args.chain.now.play c.loop-who.chain.play c.turn_with_room.new.self.play (ap (λ n. n - 1) i.goes_on.many) i.goes_on.chunk _ _ i.turns e.turns;
      goes_on = goes_further c.args.chain.now c.loop-who.chain c.turn_with_room.new.self i.goes_on e.goes_on;
      runs = e.runs;
      short = omega (arith, i.short, e.short);
      round = round_more _ _ c.args.chain.now.play.state c.loop-who.chain.play.state c.turn_with_room.new.self.play.state c.args.chain.now.workers c.loop-who.chain.workers c.turn_with_room.new.self.workers
          (alike_of c.args.chain.now c.loop-who.chain i.goes_on) (alike_of c.loop-who.chain c.turn_with_room.new.self e.goes_on) i.round e.lowers;
    }

pub returns-clause-less : goal.returns-clause-less
returns-clause-less c =
    let i = c.loop-who.invariant in
    round_falls _ c.args.chain.now.play.state c.loop-who.chain.play.state c.args.chain.now.workers c.loop-who.chain.workers
    (omega (arith, c.loop-who-test.false, c.loop-who.auto.who-end, c.guests-who-end.ensures.count)) (c.somebody_goes.ensures.goes c.requires.runs c.requires.untold) i.round

pub returns-clause-short : goal.returns-clause-short
returns-clause-short c =
    omega (arith, c.loop-who.invariant.short, c.loop-who-test.false, c.loop-who.auto.who-end, c.guests-who-end.ensures.count, c.somebody_goes.ensures.few)
