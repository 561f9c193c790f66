use Rattle.std.proofs.Common.{rules, arith, length}
use Rattle.strm_chain.proofs.ChainLemmas.{begins_ready}
use Rattle.strm_chain.proofs.RoomLemmas.{few_stages}
use Rattle.strm_chain.proofs.chains.Chain.new.Goals as goal

pub invariant_of-result : goal.invariant_of-result
invariant_of-result c =
    let few = few_stages c.args.stages.now (length c.args.input.items) (search rules) in
    let many = c.in_ok-player.ensures.ready.many in
    record {
      chunk = c.requires;
      some = (omega (arith, many), omega (arith, many, few));
      going = c.in_ok-player.ensures.going;
    }

pub returns-clause-begins : goal.returns-clause-begins
returns-clause-begins c =
    begins_ready c.args.stages.now c.args.input.items c.args.chunk c.in_ok-player.player c.in_ok-player.workers.items c.in_ok-player.ensures.ready c.in_ok-player.ensures.played
