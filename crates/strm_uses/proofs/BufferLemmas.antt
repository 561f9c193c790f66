-- What a poll through a window leaves of the memory around its room.
use Rattle.std.proofs.Common.{◌≡◌, ℕ, ◌+◌, ◌*◌, ◌≤◌, inl, inr, Bool, true, List, ◌++◌, length, take, Some, refl, ap, subst, ◌∙◌, arith}
use Rattle.std.proofs.Math.Nat.{mul-le-mul_left}
use Rattle.strm_codes.specs.Layout.{item_type}
use Rattle.strm_codes.specs.ItemTypes.{item_size}
use Rattle.strm_codes.specs.declared.payloads.Payload.{Payload}
use Rattle.strm_memory.specs.Bytes.{bytes_at, IsApart}
use Rattle.strm_memory.specs.Items.{stored_at}
use Rattle.strm_memory.specs.Linear.{LinearMemory}
use Rattle.strm_memory.proofs.RegionLemmas.{bytes_at-stored_at}
use Rattle.strm_buffers.specs.Windows.{Lent, Place, Memory, HasRoom, lent_memory, memory_of, room_of}
use Rattle.strm_buffers.specs.declared.answers.Answer.{Answer}
use Rattle.strm_buffers.specs.Said.{in_room, past_room}
use Rattle.strm_buffers.specs.Tells.{Fills, PollsWriter, WriterTells, writer_record}
use Rattle.strm_uses.specs.Polled.{FetchesItems}

apart_less : (address n k other m : ℕ) → k ≤ n → IsApart address n other m → IsApart address k other m
apart_less address n k other m h (inl behind) = inl (omega (arith, h, behind))
apart_less address n k other m h (inr before) = inr before

module _ (payload : Payload) (memory : LinearMemory) (after : List ℕ) (address room count : ℕ) (w v : Lent) (h : address + item_size (item_type payload) * room ≤ length memory.bytes) (e : w ≡ record (lent_memory payload memory address room) { prepared = true }) where
  -- the bytes that lie apart from the room
  pub stays_outside : Fills w v → after ≡ memory_of v.place → count ≡ length v.marked → HasRoom v.place count 0
      → (other n : ℕ) → IsApart address (item_size (item_type payload) * room) other n → bytes_at after other n ≡ bytes_at memory.bytes other n
  stays_outside f a c r other n apart =
      let ss = item_type payload in
      let place : v.place ≡ Memory (stored_at ss memory.bytes (address + item_size ss * 0) v.marked) address room = f.place ∙ rw e refl in
      let at : address + item_size ss * 0 ≡ address = omega arith in
      let few : count + 0 ≤ room = subst (λ (p : Place). HasRoom p count 0) place r in
      let most : item_size ss * length v.marked ≤ item_size ss * room = mul-le-mul_left (item_size ss) (omega (arith, few, c)) in
      let is : after ≡ stored_at ss memory.bytes address v.marked = a ∙ ap memory_of place ∙ ap (λ k. stored_at ss memory.bytes k v.marked) at in
      rw is (bytes_at-stored_at ss memory.bytes address v.marked other n (omega (arith, most, h)) (apart_less address (item_size ss * room) (item_size ss * length v.marked) other n most apart))

  -- what was fetched, where a poll is answered
  pub fetches : (old new : WriterTells) (finish : Bool) (a : Answer) → payload ≡ old.payload → Fills w v → after ≡ memory_of v.place
      → PollsWriter old new (writer_record w finish v.marked new.holds a) v.marked → FetchesItems old new memory.bytes after address room finish a
  fetches old new finish a same f stays p =
      let ss = item_type payload in
      let place : v.place ≡ Memory (stored_at ss memory.bytes (address + item_size ss * 0) v.marked) address room = f.place ∙ rw e refl in
      let at : address + item_size ss * 0 ≡ address = omega arith in
      let items = v.marked ++ new.holds in
      let room_is : room_of w.place ≡ Some room = ap (λ (l : Lent). room_of l.place) e in
      let marks : v.marked ≡ take room items = p.marks ∙ ap (λ r. in_room r items) room_is in
      record {
        said = writer_record w finish v.marked new.holds a;
        told = p.said_more;
        room_is = room_is;
        finish_is = refl;
        answer_is = refl;
        stored = stays ∙ ap memory_of place ∙ ap (λ n. stored_at ss memory.bytes n v.marked) at ∙ ap (stored_at ss memory.bytes address) marks
            ∙ ap (λ q. stored_at (item_type q) memory.bytes address (take room items)) same;
        held = p.holds ∙ ap (λ r. past_room r items) room_is;
      }
