-- A poll of a box is the machine's poll: the record that it added is the next one.
use Rattle.std.proofs.Common.{◌≡◌, ℕ, ◌<◌, Bool, true, cond, List, ◌∷◌, length, drop, Option, sym, ap, subst, ◌∙◌}
use Rattle.strm_buffers.specs.Listing.{Item}
use Rattle.strm_buffers.specs.Said.{WriterSaid}
use Rattle.strm_buffers.specs.Tells.{WriterTells, Tells, no_tells, told_by, with_told, PollsWriter}
use Rattle.strm_machine.specs.State.{State, producer_at, no_producer}
use Rattle.strm_machine.specs.declared.streams.Duty.TheVariants.{Serves}
use Rattle.strm_host_machine.specs.Ends.{Writer, polled_writer}
use Rattle.strm_host_machine.specs.World.{World, stream_in, writer_at, with_writer}
use Rattle.strm_host_machine.specs.Outcomes.{Stuck}
use Rattle.strm_host_machine.specs.Polls.{AfterWriter, is_writer_poll, writer_judged, writer_says, polls_writer}
use Rattle.strm_host_machine.specs.Does.{Logs, LogBegins, first_duty, first_log, writer_of, world_of}
use Rattle.strm_host_machine.proofs.WorldLemmas.{writers_from-set, writer_in-from, first_duty-drop, coming-next, polled-writer_of}

-- a host writer in use, of a store that keeps something of it
pub record IsServing (state : State) (tells : Tells) (n s : ℕ) : Type 0 where
  pub there : n < length tells.writers
  pub kept : n < length state.producers
  pub duty : (producer_at state n).duty ≡ Serves s

-- a poll of it that added this record, whose log begins with what it has said
pub record IsRecorded (tells : Tells) (logs : Logs) (n : ℕ) (room : Option ℕ) (finish : Bool) (said : WriterSaid) (w : WriterTells) : Type 0 where
  pub marked : List Item
  pub polls : PollsWriter (told_by tells n) w said marked
  pub asked : is_writer_poll room finish said ≡ true
  pub room_is : said.room ≡ room
  pub begins : LogBegins w.said (first_log (drop n logs.writers))

module _ (state : State) (tells : Tells) (logs : Logs) (n t : ℕ) (i : IsServing state tells n t) where
  abbrev before : World
  before = world_of state tells logs

  duty_is : first_duty (drop n state.producers) ≡ Serves t
  duty_is = first_duty-drop state.producers n no_producer i.kept ∙ i.duty

  -- a writer in use is to the machine as it tells
  pub writer_at-serving : writer_at before n ≡ writer_of (Serves t) (told_by tells n) (first_log (drop n logs.writers))
  writer_at-serving =
      writer_in-from state.producers tells.writers logs.writers n no_tells i.there
      ∙ ap (λ d. writer_of d (told_by tells n) (first_log (drop n logs.writers))) duty_is

  -- and so where it tells something else
  pub with_writer-serving : (w : WriterTells) → with_writer before n (writer_of (Serves t) w (first_log (drop n logs.writers))) ≡ world_of state (with_told tells n w) logs
  with_writer-serving w =
      ap (λ d. with_writer before n (writer_of d w (first_log (drop n logs.writers)))) (sym duty_is)
      ∙ ap (λ ws. record before { writers = ws }) (sym (writers_from-set state.producers tells.writers logs.writers n w i.there))

module _ (state : State) (tells : Tells) (logs : Logs) (n t : ℕ) (i : IsServing state tells n t)
    (room : Option ℕ) (finish : Bool) (said : WriterSaid) (w : WriterTells) (h : IsRecorded tells logs n room finish said w) where
  abbrev polled : World
  polled = world_of state tells logs

  abbrev log : List WriterSaid
  log = first_log (drop n logs.writers)

  abbrev more : List WriterSaid
  more = drop (length w.said) log

  next_is : (writer_at polled n).coming ≡ said ∷ more
  next_is =
      ap (λ (x : Writer). x.coming) (writer_at-serving state tells logs n t i)
      ∙ coming-next (told_by tells n).said log said (subst (λ xs. LogBegins xs log) h.polls.said_more h.begins)
      ∙ ap (λ (xs : List WriterSaid). said ∷ drop (length xs) log) (sym h.polls.said_more)

  end_is : polled_writer (writer_at polled n) room said more ≡ writer_of (Serves t) w log
  end_is =
      ap (λ x. polled_writer x room said more) (writer_at-serving state tells logs n t i)
      ∙ ap (λ r. polled_writer (writer_of (Serves t) (told_by tells n) log) r said more) (sym h.room_is)
      ∙ sym (polled-writer_of t (told_by tells n) w said h.marked log h.polls)

  world_is : with_writer polled n (polled_writer (writer_at polled n) room said more) ≡ world_of state (with_told tells n w) logs
  world_is = ap (λ v. with_writer polled n v) end_is ∙ with_writer-serving state tells logs n t i w

  -- what follows is what is judged of the record, with the box as it is then
  pub polls_writer-box : (s : ℕ) (next : AfterWriter)
      → polls_writer polled s n room finish next ≡ writer_judged (world_of state (with_told tells n w) logs) (stream_in polled s).kind n said next
  polls_writer-box s next =
      ap (λ rs. writer_says polled s n room finish rs next) next_is
      ∙ ap (λ b. cond b (writer_judged (with_writer polled n (polled_writer (writer_at polled n) room said more)) (stream_in polled s).kind n said next) Stuck) h.asked
      ∙ ap (λ v. writer_judged v (stream_in polled s).kind n said next) world_is
