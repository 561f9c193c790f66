-- A turn, as what the machine does among its host ends.
use Rattle.std.proofs.Common.{◌≡◌, ℕ, true, false, Bool, List, [], ◌∷◌, take, Some, None, Ok, Err, refl, sym, subst, arith}
use Rattle.std.specs.Prelude.{slice_set}
use Rattle.strm_codes.specs.declared.codes.StreamResult.TheVariants.{Dropped}
use Rattle.strm_buffers.specs.Listing.{Item}
use Rattle.strm_buffers.specs.Said.{WriterSaid}
use Rattle.strm_buffers.specs.Tells.{WriterTells, Tells, told_by, with_told, writer_given}
use Rattle.strm_machine.specs.State.{State, producer_at, stream_at}
use Rattle.strm_machine.specs.declared.stops.Stop.TheVariants.{HostFailed, HostBroke}
use Rattle.strm_machine.specs.declared.streams.HostEnd.TheVariants as ends
use Rattle.strm_machine.specs.declared.streams.Operation.{Operation}
use Rattle.strm_machine.specs.declared.replies.Reply.TheVariants as replies
use Rattle.strm_host_machine.specs.World.{World}
use Rattle.strm_host_machine.specs.Outcomes.{Outcome}
use Rattle.strm_host_machine.specs.WriterTurn.{writer_turn}
use Rattle.strm_host_machine.specs.Does.{Answered, Does}
use Rattle.strm_host_machine.proofs.GrowLemmas.{Follows, follows-same, follows-told, grows-same, grows-polled}
use Rattle.strm_host_machine.proofs.CloseLemmas.{ended_in}
use Rattle.strm_host_machine.proofs.PollLemmas.{IsServing}
use Rattle.strm_machine.proofs.TableLemmas.{OwnersStay}
use Rattle.strm_host_machine.proofs.SettleLemmas.{IsLeft}
use Rattle.strm_host_machine.proofs.BackLemmas.{Does-stays, Does-left}
use Rattle.strm_host_machine.proofs.WriterTurnLemmas.{turned_but, lowered_in, moved_in, WritesBack, told-same, turn-hands_over, turn-ended, IsPolledFor, turn-produced, turn-failed, turn-broke, turn-out_of_memory}
use Rattle.strm_host_turns.specs.WriterPolls.{IsPolledForRead}
use Rattle.strm_host_turns.specs.WriterTurns.{WriterScene, writer_scene, handed_over, read_ended, WriterGoes, IsWriterPoll, IsEmptyWriterTurn, IsHoldingWriterTurn, IsWriterTurn}
use Rattle.strm_host_turns.specs.declared.writer_turns.WriterStops.{WriterStops}
use Rattle.strm_host_turns.specs.declared.writer_turns.WriterStops.TheVariants.{Failed, OutOfMemory, Broke}

-- what the turn of host writer n on stream s touches
abbrev pub scene_in : State → Tells → ℕ → ℕ → WriterScene
scene_in state tells n s = writer_scene state.guests (stream_at state s) (producer_at state n) (told_by tells n)

-- what host ends tell after it
abbrev pub told_in : Tells → ℕ → WriterScene → Tells
told_in tells n new = with_told tells n new.tells

-- the state after it
abbrev pub turned_in : State → ℕ → ℕ → WriterScene → State
turned_in state n s new = record state {
  guests = new.guests;
  streams = slice_set state.streams s new.stream;
  producers = slice_set state.producers n new.producer;
}

-- why a turn stops the step; nothing by running out of memory
abbrev pub stop_of : WriterStops → ℕ → Answered
stop_of Failed n = Err (Some (HostFailed (ends.Writer n)))
stop_of Broke n = Err (Some (HostBroke (ends.Writer n)))
stop_of OutOfMemory n = Err None

-- a turn that goes on
pub record GoesOn (old : State) (tells : Tells) (n s : ℕ) (read : Operation) (new : WriterScene) : Type 0 where
  pub follows : Follows tells (told_in tells n new)
  pub back : WritesBack old (turned_but old n new.guests new.producer) tells (told_in tells n new) s new.stream (λ w. writer_turn w s n read)

module _ (old : State) (tells : Tells) (n s : ℕ) (read : Operation) (i : IsServing old tells n s) where
  -- its turn
  abbrev pub its_turn : World → Outcome
  its_turn world = writer_turn world s n read

  -- the state after it, but for its stream
  abbrev pub all_but : WriterScene → State
  all_but new = turned_but old n new.guests new.producer

  -- a turn that stops the step
  abbrev pub StopsBy : WriterStops → WriterScene → State → Type 0
  StopsBy e new after = Does old after tells (told_in tells n new) (stop_of e n) its_turn

  hands_on : (item : Item) (items : List Item) → (told_by tells n).holds ≡ item ∷ items → GoesOn old tells n s read (handed_over (scene_in old tells n s) read)
  hands_on item items e = record {
    follows = follows-told tells n (writer_given (told_by tells n) (Some read.left)) i.there (grows-same (told_by tells n) (writer_given (told_by tells n) (Some read.left)) refl refl (omega arith));
    back = turn-hands_over old tells n s read i item items e;
  }

  ends_it : (told_by tells n).holds ≡ [] → (producer_at old n).over ≡ true → GoesOn old tells n s read (read_ended (scene_in old tells n s) read)
  ends_it e over = record {
    follows = subst (Follows tells) (sym (told-same tells n)) (follows-same tells);
    back = subst (λ t. WritesBack old (turned_but old n (lowered_in old s read []) (producer_at old n)) tells t s (moved_in old s read [] (Some Dropped)) its_turn) (sym (told-same tells n)) (turn-ended old tells n s read i e over);
  }

  polled_for : (told_by tells n).holds ≡ [] → (producer_at old n).over ≡ false → (said : WriterSaid) (w : WriterTells) → IsPolledForRead (told_by tells n) w read said → IsPolledFor old tells n read said w
  polled_for e over said w p = record { empty = e; over = over; polls = p.polls; room = p.room; finish = p.finish }

  polls_on : (told_by tells n).holds ≡ [] → (producer_at old n).over ≡ false → (said : WriterSaid) (new : WriterScene) → WriterGoes (scene_in old tells n s) new read said → GoesOn old tells n s read new
  polls_on e over said new p =
      subst (GoesOn old tells n s read) (sym p.after) (record {
        follows = follows-told tells n new.tells i.there (grows-polled (told_by tells n) new.tells said (take read.left said.items) p.polled.polls);
        back = turn-produced old tells n s read i said new.tells (polled_for e over said new.tells p.polled) p.failed p.broke;
      })

  empty_on : (over : Bool) (new : WriterScene) → (told_by tells n).holds ≡ [] → (producer_at old n).over ≡ over → IsEmptyWriterTurn over (Ok tt) (scene_in old tells n s) new read → GoesOn old tells n s read new
  empty_on true new e o t = subst (GoesOn old tells n s read) (sym t.1) (ends_it e o)
  empty_on false new e o t = polls_on e o t.0 new t.1

  holding_on : (held : List Item) (new : WriterScene) → (told_by tells n).holds ≡ held → IsHoldingWriterTurn held (Ok tt) (scene_in old tells n s) new read → GoesOn old tells n s read new
  holding_on (item ∷ items) new e t = subst (GoesOn old tells n s read) (sym t.1) (hands_on item items e)
  holding_on [] new e t = empty_on (producer_at old n).over new e refl t

  goes_on : (new : WriterScene) → IsWriterTurn (Ok tt) (scene_in old tells n s) new read → GoesOn old tells n s read new
  goes_on new t = holding_on (told_by tells n).holds new refl t

  -- its owners stay
  pub turn_stays : (new : WriterScene) → IsWriterTurn (Ok tt) (scene_in old tells n s) new read → OwnersStay (stream_at old s) new.stream
      → Does old (turned_in old n s new) tells (told_in tells n new) (Ok replies.Done) its_turn
  turn_stays new t e =
      let g = goes_on new t in
      Does-stays old (turned_but old n new.guests new.producer) tells (told_in tells n new) s new.stream its_turn g.follows g.back e

  -- its writer is gone, and was closed
  pub turn_left : (new : WriterScene) (w : WriterTells) → IsWriterTurn (Ok tt) (scene_in old tells n s) new read → IsLeft (all_but new) (told_in tells n new) s n new.stream w
      → Does old (ended_in (turned_in old n s new) n) tells (with_told (told_in tells n new) n w) (Ok replies.Done) its_turn
  turn_left new w t l =
      let g = goes_on new t in
      Does-left old (turned_but old n new.guests new.producer) tells (told_in tells n new) s n new.stream w its_turn g.follows g.back l

  -- IT STOPS

  polls_stop : (e : WriterStops) (new : WriterScene) (after : State) → (told_by tells n).holds ≡ [] → (producer_at old n).over ≡ false → after.producers ≡ old.producers → IsWriterPoll (Err e) (scene_in old tells n s) new read
      → StopsBy e new after
  polls_stop Failed new after h o k t = turn-failed old tells n s read i t.0 new.tells (polled_for h o t.0 new.tells t.1.polled) after t.1.failed k
  polls_stop Broke new after h o k t = turn-broke old tells n s read i t.0 new.tells (polled_for h o t.0 new.tells t.1.polled) after t.1.failed t.1.broke k
  polls_stop OutOfMemory new after h o k t = turn-out_of_memory old after tells n new.tells its_turn i.there t.1.tells

  empty_stops : (over : Bool) (e : WriterStops) (new : WriterScene) (after : State) → (told_by tells n).holds ≡ [] → (producer_at old n).over ≡ over → after.producers ≡ old.producers → IsEmptyWriterTurn over (Err e) (scene_in old tells n s) new read
      → StopsBy e new after
  empty_stops true e new after h o k t = cc (t.0)
  empty_stops false e new after h o k t = polls_stop e new after h o k t

  holding_stops : (held : List Item) (e : WriterStops) (new : WriterScene) (after : State) → (told_by tells n).holds ≡ held → after.producers ≡ old.producers → IsHoldingWriterTurn held (Err e) (scene_in old tells n s) new read
      → StopsBy e new after
  holding_stops (item ∷ items) e new after h k t = cc (t.0)
  holding_stops [] e new after h k t = empty_stops (producer_at old n).over e new after h refl k t

  pub turn_stops : (e : WriterStops) (new : WriterScene) (after : State) → IsWriterTurn (Err e) (scene_in old tells n s) new read → after.producers ≡ old.producers
      → StopsBy e new after
  turn_stops e new after t k = holding_stops (told_by tells n).holds e new after refl k t
