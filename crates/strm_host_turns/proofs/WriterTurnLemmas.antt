-- What a turn does, by the held items that it handed over, or by the poll that it did.
use Rattle.std.proofs.Common.{◌≡◌, ℕ, suc, ◌+◌, ◌<◌, ◌≤◌, ◌*◌, Bool, true, false, List, [], ◌∷◌, length, take, drop, Some, Result, Ok, Err, refl, sym, ap, ◌∙◌, arith, length-append, length-take}
use Rattle.std.specs.Prelude.{◌^◌, ◌||◌, nat_lt, IsErrAnd}
use Rattle.std.proofs.lemmas.List.{take-append-drop}
use Rattle.std.proofs.lemmas.Bool.Decides.{nat_tests}
use Rattle.strm_codes.specs.Layout.{item_type}
use Rattle.strm_codes.specs.ItemTypes.{item_size}
use Rattle.strm_codes.specs.declared.payloads.Payload.{Payload}
use Rattle.strm_codes.specs.declared.codes.StreamResult.TheVariants as results
use Rattle.strm_buffers.specs.declared.answers.Answer.{Answer}
use Rattle.strm_buffers.specs.declared.answers.Answer.TheVariants as answers
use Rattle.strm_buffers.specs.Listing.{Item}
use Rattle.strm_buffers.specs.Said.{past_room}
use Rattle.strm_buffers.specs.HostRules.{writer_breaks, breaks_as_writer}
use Rattle.strm_buffers.specs.Tells.{WriterTells, writer_given}
use Rattle.strm_machine.specs.State.{Guest}
use Rattle.strm_machine.specs.Soundness.{sizes_of, AreSmall, IsPlaced}
use Rattle.strm_machine.specs.declared.streams.Side.TheVariants.{Reading}
use Rattle.strm_machine.specs.declared.streams.Operation.{Operation}
use Rattle.strm_machine.specs.declared.streams.Producer.{Producer}
use Rattle.strm_machine.specs.declared.streams.Stream.{Stream}
use Rattle.strm_machine.proofs.BoundLemmas.{address_room, not_out-front}
use Rattle.strm_host_machine.specs.Polls.{is_failed}
use Rattle.strm_host_machine.specs.WriterTurn.{lowered_items, is_last, produced_result}
use Rattle.strm_host_machine.specs.Settling.{moved_on}
use Rattle.strm_host_machine.specs.Attaching.{has_items}
use Rattle.strm_host_turns.specs.WriterPolls.{PollsInto}
use Rattle.strm_host_turns.specs.WriterTurns.{WriterScene, writer_scene, handed_over, read_ended, WriterTurnStopped, writer_verdict_by, writer_verdict, IsWriterPoll, IsEmptyWriterTurn, IsHoldingWriterTurn}
use Rattle.strm_host_turns.specs.declared.writer_turns.WriterStops.{WriterStops}
use Rattle.strm_host_turns.specs.declared.writer_turns.WriterStops.TheVariants.{Failed, OutOfMemory, Broke}
use Rattle.strm_host_turns.proofs.RegionLemmas.{lowered_items-none}

-- an error that `?` hands on is the one that came
pub handed_on : {T E : Type 0} {e : E} (r : Result T E) → IsErrAnd r (λ x. x ≡ e) → r ≡ Err e
handed_on (Ok x) f = absurd f
handed_on (Err x) f = ap Err f

-- the address behind some of the items that a read has left
pub room_behind : (guests : List Guest) (payload : Payload) (read : Operation) (n : ℕ) → IsPlaced (sizes_of guests) payload read → AreSmall (sizes_of guests) → read.address < 2 ^ 32 → n ≤ read.left → read.address + item_size (item_type payload) * n < 2 ^ 32
room_behind guests payload read n h s a l =
    let front = not_out-front _ (item_type payload) read.address read.left n l h.inside in
    address_room (sizes_of guests) read.guest (item_type payload) read.address n h.there front s a

-- ## What is held

-- some are, where their number is above none
pub any_held : (items : List Item) → nat_lt 0 (length items) ≡ has_items items
any_held [] = refl
any_held (item ∷ items) = some (length items)
  where
    some : (n : ℕ) → nat_lt 0 (suc n) ≡ true
    some n = grind (arith, nat_tests)

-- ## Without a poll

-- held items were lowered and counted, the read was settled, and what is left is kept of the writer
pub record Hands (guests after : List Guest) (stream moved : Stream) (producer kept : Producer) (tells told : WriterTells) (read : Operation) : Type 0 where
  pub items : List Item
  pub count : ℕ
  pub held : items ≡ take read.left tells.holds
  pub counted : count ≡ length items
  pub lowers : after ≡ lowered_items guests stream.payload read items
  pub moves : moved ≡ moved_on Reading stream read count (Some results.Completed)
  pub gives : told ≡ writer_given tells (Some read.left)
  pub keeps : kept ≡ record producer { holding = nat_lt 0 (length told.holds) }

pub handed : (guests after : List Guest) (stream moved : Stream) (p kept : Producer) (tells told : WriterTells) (read : Operation) → Hands guests after stream moved p kept tells told read
    → writer_scene after moved kept told ≡ handed_over (writer_scene guests stream p tells) read
handed guests after stream moved producer kept tells told read h =
    let left : has_items told.holds ≡ has_items (drop read.left tells.holds) = ap (λ (w : WriterTells). has_items w.holds) h.gives in
    let kept_is : kept ≡ record producer { holding = has_items (drop read.left tells.holds) } =
    h.keeps ∙ ap (λ b. record producer { holding = b }) (any_held told.holds ∙ left) in
    rw (h.lowers, h.moves, kept_is, h.gives, h.counted, h.held) refl

pub gone : (guests : List Guest) (stream moved : Stream) (producer : Producer) (tells : WriterTells) (read : Operation) → moved ≡ moved_on Reading stream read 0 (Some results.Dropped) → writer_scene guests moved producer tells ≡ read_ended (writer_scene guests stream producer tells) read
gone guests stream moved producer tells read m = rw (m, lowered_items-none guests stream.payload read) refl

-- ## By a poll

failed_is : (answer : Answer) → is_failed answer ≡ true → answer ≡ answers.Failed
failed_is answers.Pending e = cc
failed_is answers.Completed e = cc
failed_is answers.Cancelled e = cc
failed_is answers.Dropped e = cc
failed_is answers.Failed e = refl

module _ (guests after : List Guest) (stream : Stream) (producer : Producer) (tells told : WriterTells) (read : Operation) where
  -- before the poll
  abbrev before : WriterScene
  before = writer_scene guests stream producer tells

  -- after one that stops the step
  abbrev stayed : WriterScene
  stayed = writer_scene after stream producer told

  module _ (answer : Answer) (count held : ℕ) (p : PollsInto tells told guests after stream.payload read answer count) (holds : held ≡ length told.holds) where
    rest_held : told.holds ≡ drop read.left p.said.items
    rest_held = p.polled.polls.holds ∙ ap (λ r. past_room r p.said.items) p.polled.room

    -- how many items the poll produced
    all_produced : count + held ≡ length p.said.items
    all_produced =
        sym (length-append (take read.left p.said.items) (drop read.left p.said.items) ∙ rw (p.received_is, holds, rest_held) refl)
        ∙ ap length (take-append-drop read.left p.said.items)

    rules : breaks_as_writer stream.kind p.said ≡ writer_breaks stream.kind answer (Some read.left) read.asked (count + held)
    rules = rw (p.answer_is, p.polled.room, p.polled.finish, all_produced) refl

    stopped : WriterTurnStopped before stayed read (take read.left p.said.items)
    stopped = record {
      few = omega (arith, length-take read.left p.said.items);
      after = ap (λ g. writer_scene g stream producer told) p.lowers;
    }

    stops_by : (error : WriterStops) (failed broke : Bool) → is_failed answer ≡ failed → writer_breaks stream.kind answer (Some read.left) read.asked (count + held) ≡ broke → writer_verdict_by failed broke ≡ Err error → IsWriterPoll (Err error) before stayed read
    stops_by Failed true broke f b e = (p.said, record { polled = p.polled; failed = p.answer_is ∙ failed_is answer f; stopped = stopped })
    stops_by Broke true broke f b e = cc
    stops_by OutOfMemory true broke f b e = cc
    stops_by Failed false true f b e = cc
    stops_by Broke false true f b e = (p.said, record { polled = p.polled; failed = rw p.answer_is f; broke = rules ∙ b; stopped = stopped })
    stops_by OutOfMemory false true f b e = cc
    stops_by error false false f b e = cc

    -- the step stops
    pub judged_stops : (error : WriterStops) → writer_verdict stream.kind answer read (count + held) ≡ Err error → IsWriterPoll (Err error) before stayed read
    judged_stops error e = stops_by error (is_failed answer) _ refl refl e

    passed : (failed broke : Bool) → writer_verdict_by failed broke ≡ Ok tt → (failed ≡ false) × (broke ≡ false)
    passed true broke e = cc
    passed false true e = cc
    passed false false e = (refl, refl)

    -- the stream, once its read received and is settled by the answer
    abbrev pub settled_read : Stream
    settled_read = moved_on Reading stream read count (produced_result answer told.holds)

    -- what is kept of the writer
    abbrev pub noted : Producer
    noted = record producer { over = producer.over || is_last answer; holding = nat_lt 0 held }

    noted_is : noted ≡ record producer { over = producer.over || is_last answer; holding = has_items (drop read.left p.said.items) }
    noted_is = ap (λ b. record producer { over = producer.over || is_last answer; holding = b }) (ap (nat_lt 0) holds ∙ any_held told.holds ∙ ap has_items rest_held)

    -- the step goes on
    pub judged_passes : (moved : Stream) (kept : Producer) → writer_verdict stream.kind answer read (count + held) ≡ Ok tt → moved ≡ settled_read → kept ≡ noted → IsWriterPoll (Ok tt) before (writer_scene after moved kept told) read
    judged_passes moved kept e m k =
        let fine = passed (is_failed answer) (writer_breaks stream.kind answer (Some read.left) read.asked (count + held)) e in (
          p.said,
          record {
            polled = p.polled;
            failed = rw p.answer_is fine.0;
            broke = rules ∙ fine.1;
            after = rw (p.answer_is, m, k ∙ noted_is, p.lowers, p.received_is, rest_held) refl;
          },
        )

-- ## The turn

-- held items were handed over
pub holding : (items : List Item) (result : Result (Unit {0}) WriterStops) (old new : WriterScene) (read : Operation) → 0 < length items → result ≡ Ok tt → new ≡ handed_over old read → IsHoldingWriterTurn items result old new read
holding [] result old new read l r n = absurd (omega (arith, l))
holding (item ∷ items) result old new read l r n = (r, n)

-- nothing was held
pub empty : (items : List Item) (result : Result (Unit {0}) WriterStops) (old new : WriterScene) (read : Operation) → length items ≡ 0 → IsEmptyWriterTurn old.producer.over result old new read → IsHoldingWriterTurn items result old new read
empty [] result old new read l t = t
empty (item ∷ items) result old new read l t = absurd (omega (arith, l))

-- and there was no more to come
pub over : (b : Bool) (result : Result (Unit {0}) WriterStops) (old new : WriterScene) (read : Operation) → b ≡ true → result ≡ Ok tt → new ≡ read_ended old read → IsEmptyWriterTurn b result old new read
over true result old new read e r n = (r, n)
over false result old new read e r n = cc
