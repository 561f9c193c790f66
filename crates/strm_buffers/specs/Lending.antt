-- What `unmarked` lends. Ours.
use Rattle.std.specs.Prelude.{ℕ, ◌+◌, ◌*◌, List, [], ◌++◌, length, take, drop}
use Rattle.std.specs.List.{refill}
use Rattle.std.specs.Borrow.{Lends, MutBor, Fml, Array, u8}
use Rattle.strm_codes.specs.Layout.{item_type}
use Rattle.strm_codes.specs.ItemTypes.{item_size}
use Rattle.strm_buffers.specs.Windows.{Lent, Place, Memory, Between}
use Rattle.strm_buffers.specs.contracts.windows.Window.{the_row}

-- the memory behind an address, of a place
abbrev pub past : Place → ℕ → List ℕ
past (Memory memory address room) from = drop (address + from) memory
past Between from = []

-- the place with these bytes from an address on
abbrev pub with_past : Place → ℕ → List ℕ → Place
with_past (Memory memory address room) from bytes =
    Memory (take (address + from) memory ++ bytes) address room
with_past Between from bytes = Between

-- where the unmarked bytes of a window end, from its address on
abbrev pub room_end : Lent → ℕ
room_end w = item_size (item_type w.payload) * length w.marked + length w.unmarked

-- the unmarked bytes and all behind them, with these written over them from the front on
abbrev pub written_over : Lent → List ℕ → List ℕ
written_over w bytes =
    let all = w.unmarked ++ past w.place (room_end w) in refill (length all) all bytes

-- the window with these bytes written over the unmarked ones: in their place, where there are as
-- many, as there always are
abbrev pub with_unmarked : Lent → List ℕ → Lent
with_unmarked w bytes =
    record w {
      place = with_past w.place (room_end w) (drop (length w.unmarked) (written_over w bytes));
      unmarked = take (length w.unmarked) (written_over w bytes);
    }

-- the window ends with what was last written behind r in place of its unmarked bytes
abbrev pub LendsUnmarked : MutBor Lent → MutBor (List ℕ) → Fml
LendsUnmarked w r = Lends the_row (Array u8 0) w r (with_unmarked w.now)
