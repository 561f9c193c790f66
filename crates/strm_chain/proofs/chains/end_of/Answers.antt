use Rattle.std.proofs.Common.{rules, ap, sym, ◌∙◌}
use Rattle.strm_chain.specs.declared.workers.Worker.{Worker}
use Rattle.strm_chain.proofs.PlayingLemmas.{follows_plays}
use Rattle.strm_chain.proofs.ChainLemmas.{end_flows, end_composed}
use Rattle.strm_chain.proofs.chains.end_of.Goals as goal

pub returns-clause-ok : goal.returns-clause-ok
returns-clause-ok c =
    let played = c.finish-steps.ensures in
    let sink = c.take_sink-sink.ensures in
    let joined = c.requires.going.joined in
    let laws = c.conservation.ensures.conserves in
    record {
      steps_are = played.steps;
      replies_are = played.replies;
      plays = rw (played.steps, played.replies) (follows_plays _ _ c.args.player.state played.follows);
      ended = rw (played.steps, played.replies) (ap (λ (w : Worker). w.closed) sink ∙ sym c.requires.going.told);
      flows = rw (played.steps)
          (end_flows c.args.player c.args.workers.items c.requires.some joined played.follows laws
          _ c.take_sink-sink.result c.add_received.new.bytes (search rules) sink c.in_ok-add_received.ensures);
      whole = λ told.
          end_composed c.args.player c.args.workers.items c.requires.some joined played.follows laws
          _ c.take_sink-sink.result c.add_received.new.bytes (search rules) sink c.in_ok-add_received.ensures told;
      within = rw (played.steps) played.follows.few;
    }
