use Rattle.strm_machine.specs.Meetings.{begun}
use Rattle.strm_machine.specs.Reactions.{on_stream, reaction}
use Rattle.strm_machine.specs.declared.acts.Act.TheVariants.{OnEnd}
use Rattle.strm_machine.specs.declared.acts.EndAct.TheVariants.{Operate}
use Rattle.strm_machine.specs.declared.replies.Reply.TheVariants as replies
use Rattle.strm_machine.proofs.ReactionLemmas.{performs-on_end}
use Rattle.strm_transmit.specs.BadItems.{MeetsOrStays}
use Rattle.strm_transmit.specs.Meets.{as_reply}
use Rattle.strm_transmit.proofs.BadItemLemmas.{stays_admitted, stays_not_admitted, fits_or_stays}
use Rattle.strm_transmit.proofs.StepLemmas.{is_admitted, reacts, not_admitted_has_memory}
use Rattle.strm_transmit.proofs.store.Store.stay_here.Goals as goal

pub returns-in-Ok : goal.returns-in-Ok
returns-in-Ok c =
    let found = is_admitted c.args.self.now _ _ _ _ c.operation_found.ensures.exact c.in-Ok.ensures.exact in
    let did = c.take_called_or_stay.ensures.begins in
    let act = OnEnd c.args.side c.args.end.now (Operate c.args.address c.args.count) in
    let result = as_reply replies.Code c.take_called_or_stay.result in
    let meets : MeetsOrStays c.args.self.now c.take_called_or_stay.new.self result (reaction c.args.self.now act) = stays_admitted c.args.self.now c.take_called_or_stay.new.self result _ _
    (reacts _ _ _ _ (λ q. on_stream c.args.self.now q.0 c.args.side (begun c.args.end.now.guest c.args.address q.1)) found
    (performs-on_end c.args.self.now c.args.side c.args.end.now (Operate c.args.address c.args.count)))
    did.meets in
    record {
      operates = record {
        meets = meets;
        fits = fits_or_stays c.args.self.now c.take_called_or_stay.new.self act c.sound.ensures c.served.ensures result meets;
        takes_no_memory = did.takes_no_memory;
      };
    }

pub returns-in-Err : goal.returns-in-Err
returns-in-Err c = record {
  operates = record {
    meets = stays_not_admitted _ _ _ _ _ c.operation_found.ensures.exact c.in-Err.ensures.exact;
    fits = λ tells fits. fits;
    takes_no_memory = λ e. not_admitted_has_memory c.args.self.now _ _ _ _ c.operation_found.ensures.exact c.in-Err.ensures.exact (cc e);
  };
}
