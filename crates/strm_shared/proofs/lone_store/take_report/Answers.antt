use Rattle.std.proofs.Common.{inr, refl}
use Rattle.strm_shared.proofs.AloneLemmas.{looks_refused, looks_bad, looks_same, looks_told, meets_refused, meets_bad, meets_event}
use Rattle.strm_shared.proofs.ReachedLemmas.{event-looks}
use Rattle.strm_shared.proofs.lone_store.take_report.Goals as goal

pub unreachable-requires : goal.unreachable-requires
unreachable-requires c = looks_refused _ _ _ _ (event-looks c.args.store.now c.args.place c.requires.busy) (meets_refused _ _ _ _ _ c.in-Err-Refused.field-0-is c.in-Err-Refused.ensures.meets)

pub unreachable-requires-in-Err-BadItem : goal.unreachable-requires-in-Err-BadItem
unreachable-requires-in-Err-BadItem c = looks_bad _ _ _ _ (event-looks c.args.store.now c.args.place c.requires.busy) (meets_bad _ _ _ _ _ c.in-Err-BadItem.field-0-is c.in-Err-BadItem.ensures.meets)

pub returns-in-Ok-None : goal.returns-in-Ok-None
returns-in-Ok-None c = looks_same _ _ _ (event-looks c.args.store.now c.args.place c.requires.busy) (meets_event _ _ _ _ c.in-Ok-None.field-0-is c.in-Ok-None.ensures.meets)

pub returns-in-Ok-Some : goal.returns-in-Ok-Some
returns-in-Ok-Some c =
    let made = meets_event _ _ _ _ c.in-Ok-Some.field-0-is c.in-Ok-Some.ensures.meets in
    (inr (c.in-Ok-Some.code, refl, looks_told _ _ _ _ (event-looks c.args.store.now c.args.place c.requires.busy) made), made)
