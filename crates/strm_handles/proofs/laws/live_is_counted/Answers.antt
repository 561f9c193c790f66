use Rattle.std.proofs.Common.{refl}
use Rattle.strm_handles.specs.Handles.{entry_at}
use Rattle.strm_handles.proofs.HandleLemmas.{live_of-no_handles}
use Rattle.strm_handles.proofs.LiveLemmas.{counts-inserted, counts-thread_inserted, counts-removed, counts-thread_removed, unlent-stream, unlent-future, unlent-error_context, unlent-subtask, unlent-waitable_set, unlent-resource, counts-lent, counts-returned, live_of-stream_set, live_of-future_set}
use Rattle.strm_handles.proofs.laws.live_is_counted.Goals as goal

pub returns : goal.returns
returns c = record {
  new = live_of-no_handles;
  insert = counts-inserted;
  removals = record {
    stream_read_end = λ ty n old new before after most.
        counts-removed old new before after n _ most (unlent-stream ty (entry_at old.handles n) _);
    stream_write_end = λ ty n old new before after most.
        counts-removed old new before after n _ most (unlent-stream ty (entry_at old.handles n) _);
    future_read_end = λ ty n old new before after most.
        counts-removed old new before after n _ most (unlent-future ty (entry_at old.handles n) _);
    future_write_end = λ ty n old new before after most.
        counts-removed old new before after n _ most (unlent-future ty (entry_at old.handles n) _);
    error_context = λ n old new before after most.
        counts-removed old new before after n _ most (unlent-error_context (entry_at old.handles n));
    subtask = λ n old new before after most.
        counts-removed old new before after n _ most (unlent-subtask (entry_at old.handles n));
    waitable_set = λ n old new before after most.
        counts-removed old new before after n _ most (unlent-waitable_set (entry_at old.handles n));
    resource = λ idx old new before after most.
        counts-removed old new before after idx.index _ most (unlent-resource idx.ty (entry_at old.handles idx.index));
  };
  lend = λ h counter idx. counts-lent h counter idx.ty idx.index (entry_at h idx.index) refl;
  undo_lend = λ h counter idx most lend. counts-returned h counter idx.index (entry_at h idx.index) most refl lend;
  set_state = λ h ty n state. (live_of-stream_set h ty n state, live_of-future_set h ty n state);
  insert_thread = counts-thread_inserted;
  remove_thread = counts-thread_removed;
}
