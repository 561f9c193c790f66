-- What goes into a ready host end comes out of it in order.
use Rattle.std.proofs.Common.{◌≡◌, ℕ, List, [], ◌∷◌, ◌++◌, take, drop, Option, Some, None, sym, ap, ◌∙◌, append_assoc, append-nil}
use Rattle.std.proofs.lemmas.List.{take-append-drop}
use Rattle.strm_buffers.specs.Listing.{Item}
use Rattle.strm_buffers.specs.Said.{in_room, past_room}
use Rattle.strm_ready_ends.specs.SendQueues.{SendQueue, fed, given, with_end, polled, forgotten}
use Rattle.strm_ready_ends.specs.ReceiveQueues.{ReceiveQueue, granted, finished, took, collected, reader_forgotten}
use Rattle.strm_ready_ends.specs.Runs.{WriterCall, Feed, Give, Poll, End, Forget, after_calls, all_fed, all_given, ReaderCall, Took, Collect, Grant, Finish, ForgetPolls, reader_after_calls, all_taken, all_collected}

-- what there is room for, and what there is not, are all
pub room_splits : (room : Option ℕ) (xs : List Item) → in_room room xs ++ past_room room xs ≡ xs
room_splits None xs = append-nil xs
room_splits (Some n) xs = take-append-drop n xs

pub given_in_order : (queue : SendQueue) (calls : List WriterCall) → queue.items ++ all_fed calls ≡ all_given queue calls ++ (after_calls queue calls).items
given_in_order queue [] = append-nil queue.items
given_in_order queue (Feed items ∷ more) =
    sym (append_assoc queue.items items (all_fed more)) ∙ given_in_order (fed queue items) more
given_in_order queue (Give room ∷ more) =
    let behind = past_room room queue.items in
    ap (λ l. l ++ all_fed more) (sym (room_splits room queue.items))
    ∙ append_assoc (in_room room queue.items) behind (all_fed more)
    ∙ ap (λ l. in_room room queue.items ++ l) (given_in_order (given queue room) more)
    ∙ sym (append_assoc (in_room room queue.items) (all_given (given queue room) more) (after_calls (given queue room) more).items)
given_in_order queue (Poll room finish ∷ more) = given_in_order (polled queue room finish) more
given_in_order queue (End ∷ more) = given_in_order (with_end queue) more
given_in_order queue (Forget ∷ more) = given_in_order (forgotten queue) more

pub collected_in_order : (queue : ReceiveQueue) (calls : List ReaderCall) → queue.items ++ all_taken calls ≡ all_collected queue calls ++ (reader_after_calls queue calls).items
collected_in_order queue [] = append-nil queue.items
collected_in_order queue (Took items said ∷ more) =
    sym (append_assoc queue.items items (all_taken more)) ∙ collected_in_order (took queue items said) more
collected_in_order queue (Collect count ∷ more) =
    ap (λ l. l ++ all_taken more) (sym (take-append-drop count queue.items))
    ∙ append_assoc (take count queue.items) (drop count queue.items) (all_taken more)
    ∙ ap (λ l. take count queue.items ++ l) (collected_in_order (collected queue count) more)
    ∙ sym (append_assoc (take count queue.items) (all_collected (collected queue count) more) (reader_after_calls (collected queue count) more).items)
collected_in_order queue (Grant count ∷ more) = collected_in_order (granted queue count) more
collected_in_order queue (Finish ∷ more) = collected_in_order (finished queue) more
collected_in_order queue (ForgetPolls ∷ more) = collected_in_order (reader_forgotten queue) more
