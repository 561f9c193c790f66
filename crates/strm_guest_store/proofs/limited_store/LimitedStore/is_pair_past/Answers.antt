use Rattle.std.proofs.Common.{sym}
use Rattle.strm_guest_store.proofs.LimitLemmas.{no_pair_past}
use Rattle.strm_guest_store.proofs.limited_store.LimitedStore.is_pair_past.Goals as goal

pub returns-then-is_empty : goal.returns-then-is_empty
returns-then-is_empty c =
    rw (c.is_empty.ensures c.if-is_empty.true) (sym (no_pair_past c.args.self.now.store c.args.writer c.args.reader c.among_guests.ensures))
