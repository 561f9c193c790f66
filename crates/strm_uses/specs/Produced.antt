-- What a caller reads off the records of a tape. Ours.
use Rattle.std.specs.Prelude.{ℕ, length}
use Rattle.std.specs.List.{sum_by}
use Rattle.strm_buffers.specs.Said.{WriterSaid}
use Rattle.strm_tape.specs.Spelling.{WriterTape}

-- how many items a host writer produced in all polls of which a tape tells
abbrev pub items_produced : WriterTape → ℕ
items_produced writer = sum_by (λ (said : WriterSaid). length said.items) writer.said
