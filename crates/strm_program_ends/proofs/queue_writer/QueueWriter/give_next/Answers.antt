use Rattle.std.proofs.Common.{◌≡◌, ◌+◌, ◌-◌, ◌≤◌, [], ◌∷◌, ◌++◌, List, length, take, drop, refl, ap, ◌∙◌, arith, append-nil, length-drop}
use Rattle.std.proofs.lemmas.List.{map-append}
use Rattle.std.proofs.lemmas.List.Elements.{All-push, All-same}
use Rattle.std.specs.Prelude.{min}
use Rattle.strm_codes.specs.Layout.{item_type}
use Rattle.strm_memory.proofs.AppendLemmas.{AreItems-drop}
use Rattle.strm_buffers.specs.Windows.{room_of}
use Rattle.strm_buffers.specs.Listing.{Item}
use Rattle.strm_buffers.proofs.EndLemmas.{Fills-same}
use Rattle.strm_program_ends.specs.Queues.{Queue, most_given}
use Rattle.strm_program_ends.specs.Polls.{said_of, IsPoll}
use Rattle.strm_program_ends.specs.declared.polls.Poll.{Poll}
use Rattle.strm_buffers.proofs.ListingLemmas.{AreItems-take}
use Rattle.strm_program_ends.proofs.QueueLemmas.{given_is, left_is}
use Rattle.strm_program_ends.proofs.queue_writer.QueueWriter.give_next.Goals as goal

pub returns-in_err-reserve-clause-fills : goal.returns-in_err-reserve-clause-fills
returns-in_err-reserve-clause-fills c = Fills-same c.args.window.now

pub invariant_of-self-3 : goal.invariant_of-self-3
invariant_of-self-3 c =
    let old = c.args.self.now in
    let poll : Poll = record { room = c.room-room.result; finish = c.args.finish; start = old.given; count = c.min-count.result; answer = c.answer-answer.result } in
    let is : c.push_reserved.new.self.items ≡ old.polls.items ++ poll ∷ [] = c.push_reserved.ensures.items ∙ ap (λ l. l ++ poll ∷ []) c.reserve.ensures.items in
    let inside : old.given + c.min-count.result ≤ length old.fed.items = omega (arith, c.min-count.ensures, c.len.ensures, old.counted) in
    record {
      counted = inside;
      polled = All-same (IsPoll old.fed.items) c.push_reserved.new.self.items (old.polls.items ++ poll ∷ []) is
          (All-push (IsPoll old.fed.items) old.polls.items poll old.polled (inside, omega (arith, c.min-count.ensures, c.most_given.ensures.few)));
    }

pub returns-clause-gives : goal.returns-clause-gives
returns-clause-gives c =
    let old = c.args.self.now in
    let room = room_of c.args.window.now.place in
    let behind : List Item = drop old.given old.fed.items in
    let most : c.most_given.result ≡ most_given old.kind room = c.most_given.ensures.exact ∙ ap (most_given old.kind) c.room-room.ensures in
    let count : c.min-count.result ≡ min (most_given old.kind room) (length old.fed.items - old.given) = omega (arith, most, c.min-count.ensures, c.len.ensures) in
    let queued : c.len.result - old.given ≡ length behind = omega (arith, c.len.ensures, length-drop old.given old.fed.items) in
    let left : c.len.result - old.given - c.min-count.result ≡ length (drop (most_given old.kind room) behind) =
    omega (arith, most, queued, c.min-count.ensures, length-drop (most_given old.kind room) behind) in
    let queue : List Item → Queue = λ xs. record { items = xs; ended = old.is_ended } in
    record {
      items = c.in_ok-mark.ensures.marked ∙ given_is (most_given old.kind room) c.min-count.result old.given old.fed.items count;
      answers = c.answer-answer.ensures ∙ rw (left, queued) refl;
      queue = ap queue (left_is (most_given old.kind room) c.min-count.result old.given old.fed.items count);
    }

pub returns-clause-fit : goal.returns-clause-fit
returns-clause-fit c =
    let old = c.args.self.now in
    let ss = item_type old.fed.payload in
    rw c.in_ok-mark.ensures.marked (AreItems-take ss c.min-count.result (drop old.given old.fed.items) (AreItems-drop ss old.given old.fed.items c.sound.ensures))

pub returns-clause-said : goal.returns-clause-said
returns-clause-said c =
    let old = c.args.self.now in
    rw (c.push_reserved.ensures.items, c.reserve.ensures.items, map-append (said_of old.fed.payload old.fed.items) old.polls.items, c.in_ok-mark.ensures.marked, c.room-room.ensures, c.requires.payload, append-nil (take c.min-count.result (drop old.given old.fed.items))) refl
