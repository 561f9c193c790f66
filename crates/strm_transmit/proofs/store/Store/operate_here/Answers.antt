use Rattle.std.proofs.Common.{ap, sym, ◌∙◌}
use Rattle.std.proofs.lemmas.Bool.{true≢false}
use Rattle.strm_machine.specs.Meetings.{begun}
use Rattle.strm_machine.specs.Reactions.{on_stream}
use Rattle.strm_machine.specs.declared.replies.Reply.TheVariants as replies
use Rattle.strm_machine.specs.declared.acts.EndAct.TheVariants.{Operate}
use Rattle.strm_machine.proofs.ReactionLemmas.{performs-on_end}
use Rattle.strm_transmit.specs.Meets.{as_reply}
use Rattle.strm_transmit.proofs.StepLemmas.{is_admitted, reacts, meets_admitted, meets_not_admitted, not_admitted_has_memory}
use Rattle.strm_transmit.proofs.HostStepLemmas.{hosted_alone, hosted_not_admitted}
use Rattle.strm_host_machine.proofs.OutcomeLemmas.{refusal_in-on_end}
use Rattle.strm_transmit.proofs.OperateLemmas.{IsAcross, hosted_across, polls_there, held_there, ok_wants_none, operate-alone, settled_code}
use Rattle.strm_transmit.proofs.store.Store.operate_here.Goals as goal

pub returns-in-Some : goal.returns-in-Some
returns-in-Some g c =
    let found = is_admitted c.args.self.now _ _ _ _ c.operation_found.ensures.exact c.in-Ok.ensures.exact in
    let across : IsAcross c.args.self.now c.args.side c.args.end.now c.args.address c.args.count c.in-Some.number c.in-Ok.found.0 c.begin-mine.result = record {
      untrapped = found.untrapped;
      none = found.none;
      stream = ap (λ q. q.0) found.same;
      begins = c.begin-mine.ensures ∙ ap (λ q. begun c.args.end.now.guest c.args.address q.1) found.same;
      owner = c.in-Some.ensures.some;
    } in
    record {
      operates = record {
        meets = hosted_across c.args.self.now _ _ _ c.args.side c.args.end.now c.args.address c.args.count c.in-Some.number _ _ across
            replies.Code c.poll_across.result c.poll_across.ensures.part.does
            (record { served = c.served.ensures; before = c.requires.fits; after = c.poll_across.ensures.part.fits })
            (record { stop = c.poll_across.ensures.part.stop; trapped = c.poll_across.ensures.part.trapped }) c.poll_across.ensures.part.out_of_memory;
        takes_no_memory = λ never.
            absurd (true≢false (sym (polls_there c.args.self.now c.args.side c.args.end.now c.args.address c.args.count c.in-Some.number _ _ across) ∙ never));
        held = λ held.
            let there = held_there c.args.self.now _ c.args.side c.args.end.now c.args.address c.args.count c.in-Some.number _ _ across held in
            ok_wants_none c.poll_across.result (c.poll_across.ensures.held there.0 there.1);
      };
    }

pub returns-in-None : goal.returns-in-None
returns-in-None g c =
    let found = is_admitted c.args.self.now _ _ _ _ c.operation_found.ensures.exact c.in-Ok.ensures.exact in
    let did = c.take_apart.ensures.begins in
    record {
      operates = record {
        meets = hosted_alone c.args.self.now _ _ _ (as_reply replies.Code c.take_apart.result) c.sound.ensures c.served.ensures.made
            (operate-alone c.args.self.now c.args.side c.args.end.now c.args.address c.args.count _ (ap (λ q. q.0) found.same) c.in-None.ensures.none)
            (settled_code c.take_apart.result)
            (meets_admitted c.args.self.now c.take_apart.new.self _ (as_reply replies.Code c.take_apart.result) _
            (reacts _ _ _ _ (λ q. on_stream c.args.self.now q.0 c.args.side (begun c.args.end.now.guest c.args.address q.1)) found
            (performs-on_end c.args.self.now c.args.side c.args.end.now (Operate c.args.address c.args.count)))
            did.meets)
            c.requires.fits;
        takes_no_memory = λ never. did.takes_no_memory;
        held = λ held. did.takes_no_memory;
      };
    }

pub returns-in-Err : goal.returns-in-Err
returns-in-Err g c =
    let refused = not_admitted_has_memory c.args.self.now _ _ _ _ c.operation_found.ensures.exact c.in-Err.ensures.exact in
    record {
      operates = record {
        meets = hosted_not_admitted c.args.self.now _ _ _ _ _ _ (λ logs. refusal_in-on_end _ c.args.side c.args.end.now (Operate c.args.address c.args.count)) c.operation_found.ensures.exact c.in-Err.ensures.exact c.requires.fits
            (λ u. meets_not_admitted _ _ _ _ _ c.operation_found.ensures.exact c.in-Err.ensures.exact);
        takes_no_memory = λ never e. refused (cc e);
        held = λ held e. refused (cc e);
      };
    }
