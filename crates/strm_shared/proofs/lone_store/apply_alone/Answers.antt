use Rattle.strm_machine.specs.Acts.{act_of}
use Rattle.strm_shared.proofs.AloneLemmas.{untouched, meets_bad, meets_trapped, meets_out_of_memory, meets_failed, meets_broke}
use Rattle.strm_shared.proofs.lone_store.apply_alone.Goals as goal

pub returns-in-Ok-clause-ok : goal.returns-in-Ok-clause-ok
returns-in-Ok-clause-ok c = (c.in-Ok.ensures.alone (untouched c.args.store.now (act_of c.args.step.now) c.requires.reached c.requires.guests)).meets

pub returns-in-Err-BadItem-clause-ok : goal.returns-in-Err-BadItem-clause-ok
returns-in-Err-BadItem-clause-ok c =
    meets_bad _ _ _ _ _ c.in-Err-BadItem.field-0-is (c.in-Err-BadItem.ensures.alone (untouched c.args.store.now (act_of c.args.step.now) c.requires.reached c.requires.guests)).meets

pub returns-in-Err-StoreTrapped-clause-ok : goal.returns-in-Err-StoreTrapped-clause-ok
returns-in-Err-StoreTrapped-clause-ok c =
    meets_trapped _ _ _ _ c.in-Err-StoreTrapped.field-0-is (c.in-Err-StoreTrapped.ensures.alone (untouched c.args.store.now (act_of c.args.step.now) c.requires.reached c.requires.guests)).meets

pub returns-in-Err-OutOfMemory-clause-err : goal.returns-in-Err-OutOfMemory-clause-err
returns-in-Err-OutOfMemory-clause-err c =
    meets_out_of_memory _ _ _ _ c.in-Err-OutOfMemory.field-0-is (c.in-Err-OutOfMemory.ensures.alone (untouched c.args.store.now (act_of c.args.step.now) c.requires.reached c.requires.guests)).meets

pub unreachable-requires-in-Err-HostFailed : goal.unreachable-requires-in-Err-HostFailed
unreachable-requires-in-Err-HostFailed c =
    meets_failed _ _ _ _ _ c.in-Err-HostFailed.field-0-is (c.in-Err-HostFailed.ensures.alone (untouched c.args.store.now (act_of c.args.step.now) c.requires.reached c.requires.guests)).meets

pub unreachable-requires-in-Err-HostBroke : goal.unreachable-requires-in-Err-HostBroke
unreachable-requires-in-Err-HostBroke c =
    meets_broke _ _ _ _ _ c.in-Err-HostBroke.field-0-is (c.in-Err-HostBroke.ensures.alone (untouched c.args.store.now (act_of c.args.step.now) c.requires.reached c.requires.guests)).meets
