use Rattle.std.proofs.Common.{ap, ◌∙◌, refl}
use Rattle.strm_lines.specs.Text.{summary_text}
use Rattle.strm_session.proofs.GeneratedLemmas.{drawn_alone, drawn_stops}
use Rattle.strm_session.proofs.serving.answer_drawn.Goals as goal

pub returns-in_err-text-in-Ok-clause-hosts : goal.returns-in_err-text-in-Ok-clause-hosts
returns-in_err-text-in-Ok-clause-hosts g c = c.play_all.ensures.2.hosts (drawn_alone c.args.steps.now c.requires.drawn)

pub returns-in_ok-text-in-Ok-clause-hosts : goal.returns-in_ok-text-in-Ok-clause-hosts
returns-in_ok-text-in-Ok-clause-hosts g c = c.play_all.ensures.2.hosts (drawn_alone c.args.steps.now c.requires.drawn)

pub returns-in-Err-OutOfMemory-clause-hosts : goal.returns-in-Err-OutOfMemory-clause-hosts
returns-in-Err-OutOfMemory-clause-hosts g c = c.play_all.ensures.2.hosts (drawn_alone c.args.steps.now c.requires.drawn)

pub unreachable-requires : goal.unreachable-requires
unreachable-requires g c =
    let run = c.in-Err-HostFailed.ensures in
    let cause = drawn_stops _ _ c.args.steps.now c.requires.drawn run.0 _ run.2.stop.stops run.2.stop.kept_before (run.2.stop.alone (drawn_alone c.args.steps.now c.requires.drawn)) in
    cc

pub unreachable-requires-in-Err-HostBroke : goal.unreachable-requires-in-Err-HostBroke
unreachable-requires-in-Err-HostBroke g c =
    let run = c.in-Err-HostBroke.ensures in
    let cause = drawn_stops _ _ c.args.steps.now c.requires.drawn run.0 _ run.2.stop.stops run.2.stop.kept_before (run.2.stop.alone (drawn_alone c.args.steps.now c.requires.drawn)) in
    cc

pub unreachable-requires-in-Err-BadItem : goal.unreachable-requires-in-Err-BadItem
unreachable-requires-in-Err-BadItem g c =
    let run = c.in-Err-BadItem.ensures in
    let cause = drawn_stops _ _ c.args.steps.now c.requires.drawn run.0 _ run.2.stop.stops run.2.stop.kept_before (run.2.stop.alone (drawn_alone c.args.steps.now c.requires.drawn)) in
    cc

pub returns-in_ok-text-in-Ok-clause-done : goal.returns-in_ok-text-in-Ok-clause-done
returns-in_ok-text-in-Ok-clause-done g c =
    let played = c.in-Ok.ensures in (
      refl,
      record {
        of_guests = drawn_alone c.args.steps.now c.requires.drawn;
        replies = played.0;
        state = c.in-Ok.ended.store;
        run = played.2.ok;
        text_is = c.in_ok-text-in-Ok.ensures played.0 played.1 ∙ ap (summary_text played.0) (c.as_slice.ensures ∙ played.2.received);
      },
    )
