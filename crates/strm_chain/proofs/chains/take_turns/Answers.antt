use Rattle.std.proofs.Common.{refl, length}
use Rattle.strm_chain.proofs.ChainLemmas.{goes_nowhere, goes_further}
use Rattle.strm_chain.proofs.TurningLemmas.{turns_mod}
use Rattle.strm_chain.proofs.chains.take_turns.Goals as goal

pub loop-who-init : goal.loop-who-init
loop-who-init c = record {
  turns = refl;
  goes_on = goes_nowhere c.args.chain.now;
  runs = c.requires;
}

pub loop-who-preserved : goal.loop-who-preserved
loop-who-preserved c =
    let i = c.loop-who.invariant in
    record {
      turns = turns_mod c.args.chain.now.chunk c.loop-who.chain.chunk (length c.args.chain.now.workers) (length c.loop-who.chain.workers) c.guests-guests.result
          c.args.schedule.now c.loop-who.who-index 0 _ c.args.chain.now.play c.loop-who.chain.play c.turn.new.self.play
          c.loop-who-test.true i.goes_on.chunk i.goes_on.many c.guests-guests.ensures.count i.turns c.in_ok-turn.ensures.ok.turns;
      goes_on = goes_further c.args.chain.now c.loop-who.chain c.turn.new.self i.goes_on c.in_ok-turn.ensures.ok.goes_on;
      runs = c.in_ok-turn.ensures.ok.runs;
    }
