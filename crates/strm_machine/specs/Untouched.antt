-- The memories of guests in a moment: which bytes it touches, what is put there, and that all others
-- stay. Ours.
use Rattle.std.specs.Prelude.{◌≡◌, ℕ, ◌*◌, ◌<◌, ◌≤◌, List, [], length}
use Rattle.strm_codes.specs.Layout.{item_type}
use Rattle.strm_codes.specs.ItemTypes.{item_size}
use Rattle.strm_memory.specs.Bytes.{bytes_at, IsApart}
use Rattle.strm_machine.specs.State.{State, Guest, memory_in, stream_at}
use Rattle.strm_machine.specs.ErrorContexts.{message_named}
use Rattle.strm_machine.specs.declared.acts.ContextAct.TheVariants.{Text}
use Rattle.strm_machine.specs.declared.acts.MemoryAct.TheVariants.{Poke}
use Rattle.strm_machine.specs.declared.acts.Act.{Act}
use Rattle.strm_machine.specs.declared.acts.Act.TheVariants.{OnContext, OnMemory}
use Rattle.strm_machine.specs.declared.replies.Reply.{Reply}
use Rattle.strm_machine.specs.declared.replies.Reply.TheVariants as replies
use Rattle.strm_machine.specs.Moments.{Moment, MemoryPlace, rise, target}

-- so many bytes of a guest's memory from a place on
pub record Region : Type 0 where
  pub place : MemoryPlace
  pub size : ℕ

-- its bytes
abbrev pub bytes_of : List Guest → Region → List ℕ
bytes_of guests r = bytes_at (memory_in guests r.place.guest) r.place.address r.size

-- two regions have no byte in common
abbrev pub LiesApart : Region → Region → Type 0
LiesApart r other =
    r.place.guest ≡ other.place.guest → 0 < r.size → 0 < other.size →
    IsApart other.place.address other.size r.place.address r.size

-- where bytes are put once it is done: those of a poke, or of a message, whose number is answered; no
-- byte elsewhere
abbrev pub put_by : Act → Reply → Region
put_by (OnMemory g (Poke address bytes)) replies.Done =
    record { place = record { guest = g; address = address }; size = length bytes }
put_by (OnContext g handle (Text address)) (replies.Number size) =
    record { place = record { guest = g; address = address }; size = size }
put_by _ _ = record { place = record { guest = 0; address = 0 }; size = 0 }

-- which bytes they are: those of the poke, or the message of the error context that was named
abbrev pub bytes_put : State → Act → Reply → List ℕ
bytes_put state (OnMemory g (Poke address bytes)) replies.Done = bytes
bytes_put state (OnContext g handle (Text address)) (replies.Number size) = message_named state g handle
bytes_put state _ _ = []

-- after a moment they lie where they are put
abbrev pub LieThere : Moment → Type 0
LieThere m = bytes_of m.after.guests (put_by m.act m.reply) ≡ bytes_put m.before m.act m.reply

-- where the items of stream s that are received in a moment lie
abbrev pub received_by : ℕ → Moment → Region
received_by s m = record {
  place = target s m;
  size = item_size (item_type (stream_at m.before s).payload) * rise s m;
}

-- in a moment no byte is put into the region by a poke or as a message, and on no stream an item is
-- received there
pub record IsUntouched (m : Moment) (r : Region) : Type 0 where
  pub put : LiesApart r (put_by m.act m.reply)
  pub got : (s : ℕ) → LiesApart r (received_by s m)

-- guests stay, each with a memory of the same length, and what isn't touched of it is as it was
pub record StaysAside (m : Moment) : Type 0 where
  pub guests : length m.before.guests ≤ length m.after.guests
  pub size : (g : ℕ) → g < length m.before.guests →
      length (memory_in m.after.guests g) ≡ length (memory_in m.before.guests g)
  pub bytes : (r : Region) → r.place.guest < length m.before.guests → IsUntouched m r →
      bytes_of m.after.guests r ≡ bytes_of m.before.guests r
