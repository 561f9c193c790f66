-- One poll through a window over a read's region, by what the writer's record says.
use Rattle.std.proofs.Common.{◌≡◌, ℕ, ◌≤◌, List, length, take, Option, Some, None, refl, ap, subst, ◌∙◌, arith, length-take}
use Rattle.strm_codes.specs.declared.codes.StreamResult.{StreamResult}
use Rattle.strm_codes.specs.declared.codes.StreamResult.TheVariants as results
use Rattle.strm_codes.specs.declared.payloads.Payload.{Payload}
use Rattle.strm_buffers.specs.declared.answers.Answer.{Answer}
use Rattle.strm_buffers.specs.declared.answers.Answer.TheVariants as answers
use Rattle.strm_buffers.specs.declared.answers.Turn.{Turn}
use Rattle.strm_buffers.specs.declared.answers.Turn.TheVariants.{Pending, Ready, Failed, NoMemory}
use Rattle.strm_buffers.specs.Listing.{Item}
use Rattle.strm_buffers.specs.Said.{WriterSaid, in_room, IfAnswered, IfNoMemory}
use Rattle.strm_buffers.specs.Tells.{WriterTells, PollsWriter, writer_record}
use Rattle.strm_buffers.specs.Windows.{Lent, room_of}
use Rattle.strm_machine.specs.State.{Guest}
use Rattle.strm_machine.specs.declared.streams.Operation.{Operation}
use Rattle.strm_host_machine.specs.WriterTurn.{lowered_items}
use Rattle.strm_host_turns.specs.WriterPolls.{PollsInto}
use Rattle.strm_host_turns.proofs.RegionLemmas.{Returns, marked_lowered}

-- an answer was read off a turn, or none where memory had run out
pub record Reads (turn : Turn StreamResult) (read : Option Answer) : Type 0 where
  pub answered : IfAnswered turn (λ answer. read ≡ Some answer)
  pub no_memory : IfNoMemory turn (read ≡ None)

some_is : (P : Answer → Type 0) (a b : Answer) (o : Option Answer) → o ≡ Some b → P a → o ≡ Some a → P b
some_is P a b o f p e = let same : a ≡ b = cc in subst P same p

some_none : (P : Type 0) (a : Answer) (o : Option Answer) → o ≡ Some a → o ≡ None → P
some_none P a o e f = cc

-- what holds of the answer of a turn holds of the answer that was read off it
pub of_answer : (P : Answer → Type 0) (turn : Turn StreamResult) (o : Option Answer) (a : Answer) → Reads turn o → o ≡ Some a → IfAnswered turn P → P a
of_answer P Pending o a r e p = some_is P answers.Pending a o e p r.answered
of_answer P (Ready results.Completed) o a r e p = some_is P answers.Completed a o e p r.answered
of_answer P (Ready results.Cancelled) o a r e p = some_is P answers.Cancelled a o e p r.answered
of_answer P (Ready results.Dropped) o a r e p = some_is P answers.Dropped a o e p r.answered
of_answer P Failed o a r e p = some_is P answers.Failed a o e p r.answered
of_answer P NoMemory o a r e p = some_none (P a) a o e r.no_memory

module _ (guests : List Guest) (payload : Payload) (read : Operation) (between after : List Guest) (window filled : Lent) (h : Returns guests payload read between after window filled) (tells told : WriterTells) where
  -- the poll's record
  abbrev record_of : Answer → WriterSaid
  record_of answer = writer_record window read.asked filled.marked told.holds answer

  polls_into : (answer : Answer) (count : ℕ) → count ≡ length filled.marked → PollsWriter tells told (record_of answer) filled.marked → PollsInto tells told guests after payload read answer count
  polls_into answer count n p =
      let said = record_of answer in
      let room : room_of window.place ≡ Some read.left = ap (λ (w : Lent). room_of w.place) h.lent in
      let marks : filled.marked ≡ take read.left said.items = p.marks ∙ ap (λ r. in_room r said.items) room in
      record {
        said = said;
        answer_is = refl;
        polled = record { polls = subst (PollsWriter tells told said) marks p; room = room; finish = refl };
        received_is = n ∙ ap length marks;
        lowers = subst (λ xs. after ≡ lowered_items guests payload read xs) marks (marked_lowered guests payload read between after window filled h);
      }

  -- by the turn, and the answer that was read off it
  pub polls_read : (turn : Turn StreamResult) (o : Option Answer) (answer : Answer) (count : ℕ) → Reads turn o → o ≡ Some answer → count ≡ length filled.marked → IfAnswered turn (λ a. PollsWriter tells told (record_of a) filled.marked) → PollsInto tells told guests after payload read answer count
  polls_read turn o answer count r e n p =
      polls_into answer count n (of_answer (λ a. PollsWriter tells told (record_of a) filled.marked) turn o answer r e p)

-- a read receives no more items than it has left
pub received_few : (tells told : WriterTells) (guests after : List Guest) (payload : Payload) (read : Operation) (answer : Answer) (count : ℕ) → PollsInto tells told guests after payload read answer count → count ≤ read.left
received_few tells told guests after payload read answer count p =
    omega (arith, p.received_is, length-take read.left p.said.items)

-- held items that were given are those that there was room for
pub given_items : (room : Option ℕ) (left : ℕ) (marked holds : List Item) → marked ≡ in_room room holds → room ≡ Some left → marked ≡ take left holds
given_items room left marked holds m r = m ∙ ap (λ o. in_room o holds) r

pub given_few : (left count : ℕ) (marked holds : List Item) → marked ≡ take left holds → count ≡ length marked → count ≤ left
given_few left count marked holds m n = omega (arith, n, ap length m, length-take left holds)
