use Rattle.std.proofs.Common.{rules, refl, sym, ap, ◌∙◌}
use Rattle.strm_machine.specs.declared.acts.EndAct.TheVariants.{Drop}
use Rattle.strm_machine.proofs.ReactionLemmas.{refusal-on_end}
use Rattle.strm_machine.proofs.RefusalLemmas.{drop_fits}
use Rattle.strm_transmit.specs.Meets.{admitted}
use Rattle.strm_transmit.proofs.StepLemmas.{is_admitted}
use Rattle.strm_transmit.proofs.store.Store.drop_here.Goals as goal

pub release-requires-clause-fits : goal.release-requires-clause-fits
release-requires-clause-fits c =
    drop_fits c.args.self.now c.args.side c.args.end.now
    (sym (refusal-on_end c.args.self.now c.args.side c.args.end.now Drop) ∙ (is_admitted c.args.self.now _ _ _ _ c.drop_found.ensures.exact c.in-Ok.ensures.exact).none)

pub release-requires-clause-stream : goal.release-requires-clause-stream
release-requires-clause-stream c = (is_admitted c.args.self.now _ _ _ _ c.drop_found.ensures.exact c.in-Ok.ensures.exact).same

pub returns-in-Ok : goal.returns-in-Ok
returns-in-Ok c = record {
  drops = record {
    exact = c.in-Ok.ensures.exact ∙ ap (admitted c.args.self.now) c.drop_found.ensures.exact;
    there = search rules;
    gone = c.release.ensures;
    err = tt;
    takes_no_memory = λ e. cc e;
  };
}

pub returns-in-Err : goal.returns-in-Err
returns-in-Err c = record {
  drops = record {
    exact = c.in-Err.ensures.exact ∙ ap (admitted c.args.self.now) c.drop_found.ensures.exact;
    there = tt;
    gone = tt;
    err = refl;
    takes_no_memory = c.in-Err.ensures.takes_no_memory;
  };
}
