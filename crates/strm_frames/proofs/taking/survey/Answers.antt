use Rattle.std.proofs.Common.{length, arith, refl, ap, length-append}
use Rattle.strm_frames.specs.Frames.{Data, End, encoding}
use Rattle.strm_frames.proofs.TakingLemmas.{shorter, surveys_none, surveys_more, surveys_all, survey_bad_kind, survey_empty, survey_after_end}
use Rattle.strm_frames.proofs.taking.survey.Goals as goal

pub frames-init : goal.frames-init
frames-init c = surveys_none c.args.bytes.now c.args.ended.now

pub frames-smaller-in-Data : goal.frames-smaller-in-Data
frames-smaller-in-Data c = shorter (Data c.in-Data.lane c.in-Data.bytes.now) c.args.bytes.now (encoding c.frames.invariant.frames) c.frames.rest.now c.in-Data.more.now (λ i. omega (arith, c.type_inv.bytes i)) c.frames.invariant.whole c.in-Data.ensures

pub frames-smaller : goal.frames-smaller
frames-smaller c = shorter (End c.in-End.lane) c.args.bytes.now (encoding c.frames.invariant.frames) c.frames.rest.now c.in-End.more.now (λ i. omega (arith, c.type_inv.bytes i)) c.frames.invariant.whole c.in-End.ensures

pub frames-preserved-in-Data : goal.frames-preserved-in-Data
frames-preserved-in-Data c = surveys_more c.args.bytes.now c.frames.rest.now c.in-Data.more.now c.args.ended.now c.frames.ended _ (Data c.in-Data.lane c.in-Data.bytes.now) (λ i. omega (arith, c.type_inv.bytes i)) c.frames.invariant c.in-Data.ensures c.if-ended-lane.false refl

pub frames-preserved : goal.frames-preserved
frames-preserved c = surveys_more c.args.bytes.now c.frames.rest.now c.in-End.more.now c.args.ended.now c.frames.ended _ (End c.in-End.lane) (λ i. omega (arith, c.type_inv.bytes i)) c.frames.invariant c.in-End.ensures c.if-ended-lane-2.false refl

pub returns-then-ended-lane-clause-fault : goal.returns-then-ended-lane-clause-fault
returns-then-ended-lane-clause-fault c = survey_after_end c.args.bytes.now c.frames.rest.now c.in-Data.more.now c.args.ended.now c.frames.ended c.args.place _ (Data c.in-Data.lane c.in-Data.bytes.now) (λ i. omega (arith, c.type_inv.bytes i)) c.frames.invariant c.in-Data.ensures c.if-ended-lane.true c.saturating_add-at.ensures

pub returns-then-ended-lane-2-clause-fault : goal.returns-then-ended-lane-2-clause-fault
returns-then-ended-lane-2-clause-fault c = survey_after_end c.args.bytes.now c.frames.rest.now c.in-End.more.now c.args.ended.now c.frames.ended c.args.place _ (End c.in-End.lane) (λ i. omega (arith, c.type_inv.bytes i)) c.frames.invariant c.in-End.ensures c.if-ended-lane-2.true c.saturating_add-at.ensures

pub returns-in-Other-clause-fault : goal.returns-in-Other-clause-fault
returns-in-Other-clause-fault c = survey_bad_kind c.args.bytes.now c.frames.rest.now c.args.ended.now c.frames.ended c.args.place _ c.frames.invariant c.in-Other.ensures c.saturating_add-at.ensures

pub returns-in-Empty-clause-fault : goal.returns-in-Empty-clause-fault
returns-in-Empty-clause-fault c = survey_empty c.args.bytes.now c.frames.rest.now c.args.ended.now c.frames.ended c.args.place _ c.frames.invariant c.in-Empty.ensures c.saturating_add-at.ensures

pub overflow_sub-result : goal.overflow_sub-result
overflow_sub-result c = omega (arith, ap length c.frames.invariant.whole, length-append (encoding c.frames.invariant.frames) c.frames.rest.now)

pub returns-in-Part-clause-ok : goal.returns-in-Part-clause-ok
returns-in-Part-clause-ok c = surveys_all c.args.bytes.now c.frames.rest.now c.args.ended.now c.frames.ended _ (λ i. omega (arith, c.type_inv.bytes i)) c.frames.invariant c.in-Part.ensures refl
