-- What a poll gives of a queue, and that its records stay when more is fed.
use Rattle.std.proofs.Common.{◌≡◌, ℕ, zero, suc, ◌+◌, ◌-◌, ◌≤◌, Bool, true, false, List, [], ◌∷◌, ◌++◌, length, take, drop, Option, Some, None, refl, sym, ap, ◌∙◌, arith, append-nil, length-append, length-drop, length-take}
use Rattle.std.proofs.lemmas.List.{take_all, drop_all, drop-drop, length-map}
use Rattle.std.proofs.lemmas.List.Elements.{All-weaker}
use Rattle.std.specs.Prelude.{All, min}
use Rattle.strm_codes.specs.declared.codes.TransmitKind.{TransmitKind}
use Rattle.strm_codes.specs.declared.codes.TransmitKind.TheVariants.{Stream, Future}
use Rattle.strm_memory.specs.Items.{AreItems}
use Rattle.strm_buffers.specs.Listing.{Item}
use Rattle.strm_buffers.specs.Windows.{Place, Memory, Between, room_of, HasRoom}
use Rattle.strm_codes.specs.Layout.{item_type}
use Rattle.strm_codes.specs.declared.payloads.Payload.{Payload}
use Rattle.strm_buffers.specs.Windows.{Lent}
use Rattle.strm_buffers.specs.Said.{in_room, past_room}
use Rattle.strm_buffers.specs.Tells.{WriterTells, PollsWriter, RisesOnFailed, writer_record, writer_fed}
use Rattle.strm_buffers.specs.declared.answers.Answer.{Answer}
use Rattle.strm_program_ends.specs.Fed.{AllFed, more_fed}
use Rattle.strm_program_ends.specs.Queues.{items_fed, most_given, queue_left, is_over, answer_by}
use Rattle.strm_program_ends.specs.QueueTells.{queue_of, queue_tells, GivesNext, SameFed}
use Rattle.strm_program_ends.specs.declared.queue_writer.QueueWriter.{QueueWriter}
use Rattle.strm_program_ends.specs.Polls.{said_of, said_kept, IsPoll}
use Rattle.strm_program_ends.specs.declared.polls.Poll.{Poll}
use Rattle.strm_program_ends.proofs.FedLemmas.{part-more, map_same}

take-min : {A : Type 0} (m : ℕ) (xs : List A) → take (min m (length xs)) xs ≡ take m xs
take-min zero xs = let none : min 0 (length xs) ≡ 0 = omega arith in rw none refl
take-min (suc m) [] = let none : min (suc m) 0 ≡ 0 = omega arith in rw none refl
take-min (suc m) (x ∷ xs) =
    let more : min (suc m) (length (x ∷ xs)) ≡ suc (min m (length xs)) = omega arith in
    rw more (ap (λ l. x ∷ l) (take-min m xs))

drop-min : {A : Type 0} (m : ℕ) (xs : List A) → drop (min m (length xs)) xs ≡ drop m xs
drop-min zero xs = let none : min 0 (length xs) ≡ 0 = omega arith in rw none refl
drop-min (suc m) [] = let none : min (suc m) 0 ≡ 0 = omega arith in rw none refl
drop-min (suc m) (x ∷ xs) =
    let more : min (suc m) (length (x ∷ xs)) ≡ suc (min m (length xs)) = omega arith in
    rw more (drop-min m xs)

-- as many of the items behind others as are wanted, or all of them
pub given_is : (m n at : ℕ) (items : List Item) → n ≡ min m (length items - at) → take n (drop at items) ≡ take m (drop at items)
given_is m n at items e =
    let size : n ≡ min m (length (drop at items)) = omega (arith, e, length-drop at items) in
    ap (λ j. take j (drop at items)) size ∙ take-min m (drop at items)

-- and what is left behind them
pub left_is : (m n at : ℕ) (items : List Item) → n ≡ min m (length items - at) → drop (at + n) items ≡ drop m (drop at items)
left_is m n at items e =
    let size : n ≡ min m (length (drop at items)) = omega (arith, e, length-drop at items) in
    sym (drop-drop n at items) ∙ ap (λ j. drop j (drop at items)) size ∙ drop-min m (drop at items)

-- there is room for what a poll gives
pub room_given : (place : Place) (kind : TransmitKind) (n : ℕ) → n ≤ most_given kind (room_of place) → HasRoom place 0 n
room_given (Memory memory address room) Stream n h = omega (arith, h)
room_given (Memory memory address room) Future n h = omega (arith, h)
room_given Between Stream n h = omega (arith, h)
room_given Between Future n h = omega (arith, h)

module _ (payload : Payload) (items more : List Item) (polls : List Poll) (p : All (IsPoll items) polls) where
  -- the records stay
  pub said-more : said_kept payload (items ++ more) polls ≡ said_kept payload items polls
  said-more =
      map_same (said_of payload (items ++ more)) (said_of payload items) polls (All-weaker (IsPoll items) (λ (poll : Poll). said_of payload (items ++ more) poll ≡ said_of payload items poll)
      (λ (poll : Poll) h. rw (part-more items more poll.start poll.count h.0) refl) polls p)

  pub polls-more : All (IsPoll (items ++ more)) polls
  polls-more =
      All-weaker (IsPoll items) (IsPoll (items ++ more)) (λ (poll : Poll) h. (omega (arith, h.0, length-append items more), h.1)) polls p

-- what is given is all in room
in_room_given : (kind : TransmitKind) (room : Option ℕ) (xs : List Item) → in_room room (take (most_given kind room) xs) ≡ take (most_given kind room) xs
in_room_given kind None xs = refl
in_room_given kind (Some room) xs =
    take_all room (take (most_given kind (Some room)) xs) (omega (arith, length-take (most_given kind (Some room)) xs, most_in_room kind room))
  where
    most_in_room : (kind : TransmitKind) (room : ℕ) → most_given kind (Some room) ≤ room
    most_in_room Stream room = omega arith
    most_in_room Future room = omega arith

past_room_given : (kind : TransmitKind) (room : Option ℕ) (xs : List Item) → past_room room (take (most_given kind room) xs) ≡ []
past_room_given kind None xs = refl
past_room_given kind (Some room) xs =
    drop_all room (take (most_given kind (Some room)) xs) (omega (arith, length-take (most_given kind (Some room)) xs, most_in_room kind room))
  where
    most_in_room : (kind : TransmitKind) (room : ℕ) → most_given kind (Some room) ≤ room
    most_in_room Stream room = omega arith
    most_in_room Future room = omega arith

-- no answer is a fault
no_fault : (over finish : Bool) (n k : ℕ) → RisesOnFailed (answer_by over finish n k) 0 0
no_fault true finish zero k = omega arith
no_fault false true zero k = omega arith
no_fault false false zero k = omega arith
no_fault true finish (suc n) zero = omega arith
no_fault false finish (suc n) zero = omega arith
no_fault over finish (suc n) (suc k) = omega arith

-- what a poll leaves
pub record Polled (old new : QueueWriter) (window after : Lent) (finish : Bool) (a : Answer) : Type 0 where
  pub gives : GivesNext old new window after finish a
  pub said : (queue_tells new).said ≡ (queue_tells old).said ++ writer_record window finish after.marked [] a ∷ []
  pub fit : AreItems (item_type old.fed.payload) after.marked
  pub same : SameFed old new

pub gives_polls : (old new : QueueWriter) (window after : Lent) (finish : Bool) (a : Answer) → Polled old new window after finish a → PollsWriter (queue_tells old) (queue_tells new) (writer_record window finish after.marked [] a) after.marked
gives_polls old new window after finish a g =
    let room = room_of window.place in
    let all : after.marked ++ [] ≡ after.marked = append-nil after.marked in
    let rises : RisesOnFailed a 0 0 = rw g.gives.answers (no_fault (is_over old.kind old.is_ended) finish (length (queue_of old).items) (length (queue_left old.kind room (queue_of old)).items)) in
    record {
      said_more = g.said;
      fits = rw all g.fit;
      marks = rw (all, g.gives.items) (sym (in_room_given old.kind room (queue_of old).items));
      holds = rw (all, g.gives.items) (sym (past_room_given old.kind room (queue_of old).items));
      faults = rises;
      closed = g.same.closed;
      heard = ap (λ (f : AllFed). Some f.heard) g.same.fed;
      kind = g.same.kind;
      payload = ap (λ (f : AllFed). f.payload) g.same.fed;
    }

-- what a writer tells that was fed so
abbrev tells_of : TransmitKind → AllFed → List Poll → Bool → WriterTells
tells_of kind all polls closed =
    record { kind = kind; payload = all.payload; said = said_kept all.payload all.items polls; holds = []; faults = 0; closed = closed; heard = Some all.heard }

-- a feed is heard, and the records stay
pub fed_tells : (kind : TransmitKind) (old new : AllFed) (polls : List Poll) (closed : Bool) (records : ℕ) (bytes : List ℕ) → All (IsPoll old.items) polls → new ≡ more_fed old records bytes → records ≡ length polls → tells_of kind new polls closed ≡ writer_fed (tells_of kind old polls closed) bytes
fed_tells kind old new polls closed records bytes p n e =
    let count : records ≡ length (said_kept old.payload old.items polls) = e ∙ sym (length-map polls (said_of old.payload old.items)) in
    let stay : said_kept old.payload (old.items ++ items_fed old.payload bytes) polls ≡ said_kept old.payload old.items polls = said-more old.payload old.items (items_fed old.payload bytes) polls p in
    ap (λ (f : AllFed). tells_of kind f polls closed) n ∙ rw (stay, count) refl
