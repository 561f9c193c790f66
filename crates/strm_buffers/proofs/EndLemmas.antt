-- What the calls of a host end owe of a window that they leave as it is.
use Rattle.std.proofs.Common.{◌≡◌, ℕ, ◌+◌, ◌*◌, [], length, Option, Some, None, refl, sym, ap, ◌∙◌, arith}
use Rattle.std.proofs.lemmas.List.{take_all, drop_all}
use Rattle.strm_codes.specs.Layout.{item_type}
use Rattle.strm_codes.specs.ItemTypes.{item_size, ItemType}
use Rattle.strm_memory.proofs.RegionLemmas.{stored_at-nil}
use Rattle.strm_buffers.specs.Said.{in_room, past_room, answer_of_result, turn_of, IfAnswered, IfNoMemory}
use Rattle.strm_codes.specs.declared.codes.StreamResult.{StreamResult}
use Rattle.strm_buffers.specs.declared.answers.Turn.{Turn}
use Rattle.strm_buffers.specs.declared.answers.Turn.TheVariants as turn
use Rattle.strm_buffers.specs.declared.answers.Answer.{Answer}
use Rattle.strm_buffers.specs.declared.answers.Answer.TheVariants.{Pending, Completed, Cancelled, Dropped, Failed}
use Rattle.strm_buffers.specs.Windows.{Lent, Place, Memory, Between, stored_in}
use Rattle.strm_buffers.specs.Tells.{Fills}

pub stored_in-nil : (ss : ItemType) (place : Place) (n : ℕ) → stored_in ss place n [] ≡ place
stored_in-nil ss (Memory memory address room) n = ap (λ m. Memory m address room) (stored_at-nil ss memory (address + item_size ss * n))
stored_in-nil ss Between n = refl

-- a window that is left as it is
pub Fills-same : (w : Lent) → Fills w w
Fills-same w = record {
  payload = refl;
  place = sym (ap (stored_in (item_type w.payload) w.place (length w.marked)) (drop_all (length w.marked) w.marked (omega arith)) ∙ stored_in-nil (item_type w.payload) w.place (length w.marked));
  marked = take_all (length w.marked) w.marked (omega arith);
  prepared = refl;
  base = refl;
}

-- of no items none has room, and none is past it
pub in_room-nil : (room : Option ℕ) → in_room room [] ≡ []
in_room-nil None = refl
in_room-nil (Some n) = take_all n [] (omega arith)

pub past_room-nil : (room : Option ℕ) → past_room room [] ≡ []
past_room-nil None = refl
past_room-nil (Some n) = drop_all n [] (omega arith)

-- what holds of an answer holds of its turn
pub IfAnswered-turn_of : (a : Answer) (P : Answer → Type 0) → P a → IfAnswered (turn_of a) P
IfAnswered-turn_of Pending P p = p
IfAnswered-turn_of Completed P p = p
IfAnswered-turn_of Cancelled P p = p
IfAnswered-turn_of Dropped P p = p
IfAnswered-turn_of Failed P p = p

-- a turn that has an answer is no running out of memory
pub IfNoMemory-turn_of : (a : Answer) (P : Type 0) → IfNoMemory (turn_of a) P
IfNoMemory-turn_of Pending P = tt
IfNoMemory-turn_of Completed P = tt
IfNoMemory-turn_of Cancelled P = tt
IfNoMemory-turn_of Dropped P = tt
IfNoMemory-turn_of Failed P = tt

-- what follows from what holds of the answer of a turn
pub IfAnswered-then : (turn : Turn StreamResult) (P Q : Answer → Type 0) → ((a : Answer) → P a → Q a) → IfAnswered turn P → IfAnswered turn Q
IfAnswered-then turn.Pending P Q f p = f Pending p
IfAnswered-then (turn.Ready r) P Q f p = f (answer_of_result r) p
IfAnswered-then turn.Failed P Q f p = f Failed p
IfAnswered-then turn.NoMemory P Q f p = tt
