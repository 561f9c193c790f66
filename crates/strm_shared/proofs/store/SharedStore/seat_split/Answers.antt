use Rattle.std.proofs.Common.{rules}
use Rattle.strm_shared.proofs.RuleLemmas.{split_keeps}
use Rattle.strm_shared.proofs.store.SharedStore.seat_split.Goals as goal

pub split_seat-inside-requires : goal.split_seat-inside-requires
split_seat-inside-requires g c =
    (search rules, search rules, split_keeps c.args.self.now.table.shared.key c.draw_number.new.seat.id c.draw_number.new.seat.me.0)
