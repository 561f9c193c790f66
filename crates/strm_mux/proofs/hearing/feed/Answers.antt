use Rattle.std.proofs.Common.{◌++◌, ◌∙◌, ap, Err}
use Rattle.strm_frames.specs.declared.errors.Fault.TheVariants.{BadKind, EmptyFrame, AfterEnd}
use Rattle.strm_mux.proofs.HearingLemmas.{no_fault}
use Rattle.strm_mux.proofs.hearing.feed.Goals as goal

pub unreachable-requires : goal.unreachable-requires
unreachable-requires c =
    let at = c.in-Err-BadKind.field-0-0 in
    no_fault (c.requires.before ++ c.args.piece.now) c.requires.more (BadKind at) c.requires.whole
    ((c.feed.ensures.fault (BadKind at) c.requires.well (c.in-Err-BadKind.is ∙ ap (λ e. Err e) c.in-Err-BadKind.field-0-is)).1 c.requires.before c.requires.fed)

pub unreachable-requires-in-Err-EmptyFrame : goal.unreachable-requires-in-Err-EmptyFrame
unreachable-requires-in-Err-EmptyFrame c =
    let at = c.in-Err-EmptyFrame.field-0-0 in
    no_fault (c.requires.before ++ c.args.piece.now) c.requires.more (EmptyFrame at) c.requires.whole
    ((c.feed.ensures.fault (EmptyFrame at) c.requires.well (c.in-Err-EmptyFrame.is ∙ ap (λ e. Err e) c.in-Err-EmptyFrame.field-0-is)).1 c.requires.before c.requires.fed)

pub unreachable-requires-in-Err-AfterEnd : goal.unreachable-requires-in-Err-AfterEnd
unreachable-requires-in-Err-AfterEnd c =
    let at = c.in-Err-AfterEnd.field-0-0 in
    no_fault (c.requires.before ++ c.args.piece.now) c.requires.more (AfterEnd at) c.requires.whole
    ((c.feed.ensures.fault (AfterEnd at) c.requires.well (c.in-Err-AfterEnd.is ∙ ap (λ e. Err e) c.in-Err-AfterEnd.field-0-is)).1 c.requires.before c.requires.fed)
