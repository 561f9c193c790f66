-- Whose bytes items are. Ours.
use Rattle.std.specs.Prelude.{ℕ, List}
use Rattle.strm_buffers.specs.declared.item_bytes.Held.{Held}
use Rattle.strm_buffers.specs.declared.item_bytes.Held.TheVariants.{Own, Shared}

-- the bytes, whosever they are
abbrev pub bytes_held : Held → List ℕ
bytes_held (Own bytes) = bytes.items
bytes_held (Shared bytes) = bytes
