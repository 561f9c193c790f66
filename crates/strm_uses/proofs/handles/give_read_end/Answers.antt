use Rattle.strm_handles.specs.Ends.{read_end}
use Rattle.strm_handles.proofs.LookupLemmas.{stream_rep_of-inserts}
use Rattle.strm_uses.proofs.handles.give_read_end.Goals as goal

pub returns-clause-found : goal.returns-clause-found
returns-clause-found c =
    stream_rep_of-inserts c.args.table.now c.stream_insert_read.new.self c.args.counter.now c.stream_insert_read.new.counter (read_end c.args.ty c.args.stream) c.stream_insert_read.result c.sound.ensures c.stream_insert_read.ensures
