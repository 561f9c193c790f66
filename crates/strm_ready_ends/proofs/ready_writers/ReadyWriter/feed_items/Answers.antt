use Rattle.std.proofs.Common.{sym, ◌∙◌, arith}
use Rattle.strm_ready_ends.proofs.RoomLemmas.{right_count}
use Rattle.strm_ready_ends.proofs.ready_writers.ReadyWriter.feed_items.Goals as goal

pub push-requires-clause-few : goal.push-requires-clause-few
push-requires-clause-few c =
    omega (arith, right_count c.self.inside.kind c.len.result c.args.count (sym c.is_wrong_count.ensures ∙ c.if-is_wrong_count.false) c.len.ensures.most, c.len.ensures.exact)
