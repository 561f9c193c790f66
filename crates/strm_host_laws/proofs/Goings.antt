-- What comes of a part of a run, by the changes that it is made of: what holds of each of them and from
-- one to the next holds of the whole.
use Rattle.std.proofs.Common.{◌≡◌, ℕ, ◌||◌, ◌&&◌, Bool, true, false, List, [], ◌∷◌, length, take, drop, Option, Some, None, refl, subst}
use Rattle.std.proofs.lemmas.Bool.{cond_both}
use Rattle.strm_codes.specs.declared.codes.ReturnCode.{ReturnCode}
use Rattle.strm_codes.specs.declared.codes.StreamResult.{StreamResult}
use Rattle.strm_codes.specs.declared.codes.StreamResult.TheVariants as results
use Rattle.strm_codes.specs.declared.refusals.Refusal.{Refusal}
use Rattle.strm_buffers.specs.declared.answers.Answer.{Answer}
use Rattle.strm_buffers.specs.declared.answers.ReaderSaid.{ReaderSaid}
use Rattle.strm_buffers.specs.HostRules.{breaks_as_writer, breaks_as_reader}
use Rattle.strm_buffers.specs.Listing.{Item}
use Rattle.strm_buffers.specs.Said.{WriterSaid}
use Rattle.strm_machine.specs.State.{State, no_consumer, producer_at, kept_at, consumer_at, is_host}
use Rattle.strm_machine.specs.Sides.{opposite, end_of, with_operation}
use Rattle.strm_machine.specs.Meetings.{begun}
use Rattle.strm_machine.specs.Endings.{report_on, delivered}
use Rattle.strm_machine.specs.Tests.{named, stream_named, items_asked}
use Rattle.strm_machine.specs.Reactions.{reaction}
use Rattle.strm_machine.specs.declared.acts.Act.{Act}
use Rattle.strm_machine.specs.declared.acts.Act.TheVariants.{OnEnd, OnHost}
use Rattle.strm_machine.specs.declared.acts.EndAct.TheVariants.{Operate}
use Rattle.strm_machine.specs.declared.acts.HostAct.{HostAct}
use Rattle.strm_machine.specs.declared.acts.HostAct.TheVariants.{New, Feed, Pipe, Grant}
use Rattle.strm_machine.specs.declared.acts.NamedEnd.{NamedEnd}
use Rattle.strm_machine.specs.declared.streams.Duty.TheVariants.{Serves}
use Rattle.strm_machine.specs.declared.streams.Owner.{Owner}
use Rattle.strm_machine.specs.declared.streams.Owner.TheVariants.{Host}
use Rattle.strm_machine.specs.declared.streams.Operation.{Operation}
use Rattle.strm_machine.specs.declared.streams.Side.{Side}
use Rattle.strm_machine.specs.declared.streams.Side.TheVariants.{Writing, Reading}
use Rattle.strm_machine.specs.declared.streams.Stream.{Stream}
use Rattle.strm_machine.specs.declared.replies.Reply.{Reply}
use Rattle.strm_machine.specs.declared.replies.Reply.TheVariants as replies
use Rattle.strm_host_machine.specs.Ends.{Writer, Reader, polled_writer, fed_writer, polled_reader, granted_reader}
use Rattle.strm_host_machine.specs.World.{World, stream_in, writer_at, reader_at, held_of, with_guests, with_producer, with_kept, with_consumer, with_writer, with_reader, with_stream_in}
use Rattle.strm_host_machine.specs.Outcomes.{Outcome, Goes, Stops, Stuck, then_on, done, of_reply}
use Rattle.strm_host_machine.specs.Polls.{AfterWriter, is_failed, is_writer_poll, writer_says, is_reader_poll, tells_truly, reader_says}
use Rattle.strm_host_machine.specs.Settling.{result_of, with_some_received, moved_on, answered_with, turn_answered}
use Rattle.strm_host_machine.specs.WriterTurn.{lowered_items, receives, with_answer, produced_result, hands_out, hands_over, produces, writer_turn}
use Rattle.strm_host_machine.specs.ReaderTurn.{lifted_items, reader_with_taken, gives_up, reader_turn}
use Rattle.strm_host_machine.specs.Attaching.{hosts_new, piped, has_items, is_dry, without_ends, pipes, forsaken, forsakes}
use Rattle.strm_host_machine.specs.Piping.{wants_items, fetches, gathered, passed_on, offers, is_done_with, is_run_dry, both_gone, ends_if_done, pipe_round}
use Rattle.strm_host_machine.specs.Driving.{if_open, driven_by, drive_turn}
use Rattle.strm_host_machine.proofs.TouchLemmas.{touch-by}
use Rattle.strm_host_machine.specs.HostRefusals.{refusal_in}
use Rattle.strm_host_machine.specs.Steps.{reacts, reads_from, writes_to, operates_by, drops_in, on_host, performs_by, performs_in, unless_refused_in, outcome}
use Rattle.strm_host_laws.specs.HostMoments.{Part, Acts, Turns, part_on}
use Rattle.strm_host_laws.proofs.Chains.{is_part}
use Rattle.strm_host_laws.proofs.GoingRules.{with_state, gave_up, with_passed, Begins, Stopping, Rules, Halted, Comes, is_passing, moved_on-left, delivered-stays, with_operation-owned, forsaken-left, piped-ends, some_received-owned, without_ends-left}

module _ (R K : World → World → Type 0) (begins : Begins R) (stopping : Stopping K) where
  fetched-comes : (w : World) (s n : ℕ) (coming : List WriterSaid) → (writer_at w n).coming ≡ coming
      → Comes R K w (writer_says w s n None false coming (λ after said. done (with_kept (with_answer after n said.answer []) n said.items)))
  fetched-comes w s n [] e = tt
  fetched-comes w s n (said ∷ more) e =
      let after = with_writer w n (polled_writer (writer_at w n) None said more) in
      let halted : Halted K w after.writers after.readers = record { at = after; kept = stopping.polls w n None said more e; is = refl; read = refl } in
      let turn_answered = with_answer after n said.answer [] in
      let kept = with_kept turn_answered n said.items in
      cond_both (is_writer_poll None false said) _ _ (Comes R K w)
      (λ f. cond_both (is_failed said.answer) _ _ (Comes R K w) (λ g. halted)
      (λ g. cond_both (breaks_as_writer (stream_in w s).kind said) _ _ (Comes R K w) (λ k. halted)
      (λ k. begins.joins w turn_answered kept (begins.says w n None said more e) (begins.keeps turn_answered n said.items))))
      (λ f. tt)

  pub fetches-comes : (w : World) (s n r : ℕ) → Comes R K w (fetches w s n r)
  fetches-comes w s n r =
      cond_both (wants_items w n r) _ _ (Comes R K w) (λ e. fetched-comes w s n (writer_at w n).coming refl) (λ e. begins.stays w)

module _ (K : World → World → Type 0) (begins : Begins K) where
  -- all that is held is kept
  pub gathered-comes : (w : World) (n : ℕ) → K w (gathered w n)
  gathered-comes w n =
      let kept = with_kept w n (held_of w n) in
      let writer = writer_at w n in
      begins.joins w kept (gathered w n) (begins.keeps w n (held_of w n))
      (subst (λ xs. K kept (gave kept n writer xs)) (drop-all writer.holds) (begins.gives kept n (length writer.holds)))
    where
      -- the writer holds these items then
      gave : World → ℕ → Writer → List Item → World
      gave v m writer xs = with_producer (with_writer v m (record writer { holds = xs })) m (record (producer_at v.state m) { holding = has_items xs })

      drop-all : (xs : List Item) → drop (length xs) xs ≡ []
      drop-all [] = refl
      drop-all (x ∷ xs) = drop-all xs

module _ (R K : World → World → Type 0) (rules : Rules R) (stopping : Stopping K) where
  abbrev begins : Begins K
  begins = stopping.begins

  -- what holds of an outcome from this world
  abbrev Is : World → Outcome → Type 0
  Is w o = Comes R K w o

  -- one more change behind others
  abbrev joined : (a b c : World) → R a b → R b c → R a c
  joined = rules.begins.joins

  halts-behind : (a b : World) (writers : List Writer) (readers : List Reader) → K a b → Halted K b writers readers → Halted K a writers readers
  halts-behind a b writers readers k h = record { at = h.at; kept = begins.joins a b h.at k h.kept; is = h.is; read = h.read }

  -- A TURN OF A HOST WRITER

  receives-comes : (w : World) (s : ℕ) (read : Operation) (items : List Item) (result : Option StreamResult) → R w (receives w s read items result)
  receives-comes w s read items result =
      let stream = stream_in w s in
      let v = with_guests w (lowered_items w.state.guests stream.payload read items) in
      let now = moved_on Reading stream read (length items) result in
      joined w v (with_stream_in v s now) (rules.lowers w (lowered_items w.state.guests stream.payload read items))
      (rules.leaves v s now (moved_on-left Reading stream read (length items) result))

  -- whatever record host writer n has next, what is done after it holds
  abbrev AllNext : World → ℕ → Option ℕ → AfterWriter → Type 0
  AllNext w n room next =
      (said : WriterSaid) (more : List WriterSaid) → (writer_at w n).coming ≡ said ∷ more → Is w (next (with_writer w n (polled_writer (writer_at w n) room said more)) said)

  says-comes : (w : World) (s n : ℕ) (room : Option ℕ) (finish : Bool) (coming : List WriterSaid) (next : AfterWriter) → (writer_at w n).coming ≡ coming → AllNext w n room next
      → Is w (writer_says w s n room finish coming next)
  says-comes w s n room finish [] next e h = tt
  says-comes w s n room finish (said ∷ more) next e h =
      let after = with_writer w n (polled_writer (writer_at w n) room said more) in
      let halted : Halted K w after.writers after.readers = record { at = after; kept = stopping.polls w n room said more e; is = refl; read = refl } in
      cond_both (is_writer_poll room finish said) _ _ (Is w)
      (λ f. cond_both (is_failed said.answer) _ _ (Is w) (λ g. halted)
      (λ g. cond_both (breaks_as_writer (stream_in w s).kind said) _ _ (Is w) (λ k. halted) (λ k. h said more e)))
      (λ f. tt)

  produces-comes : (w : World) (s n : ℕ) (read : Operation) (items : List Item) → Is w (produces w s n read items)
  produces-comes w s n read (item ∷ items) =
      let writer = writer_at w n in
      let v = hands_out w n read.left in
      joined w v (hands_over w s n read) (rules.begins.gives w n read.left)
      (receives-comes v s read (take read.left writer.holds) (Some results.Completed))
  produces-comes w s n read [] =
      cond_both (producer_at w.state n).over _ _ (Is w)
      (λ e. receives-comes w s read [] (Some results.Dropped))
      (λ e. says-comes w s n (Some read.left) read.asked (writer_at w n).coming
      (λ after said. done (receives (with_answer after n said.answer (drop read.left said.items)) s read (take read.left said.items) (produced_result said.answer (drop read.left said.items))))
      refl
      (λ said more f.
      let after = with_writer w n (polled_writer (writer_at w n) (Some read.left) said more) in
      let turn_answered = with_answer after n said.answer (drop read.left said.items) in
      let items = take read.left said.items in
      let result = produced_result said.answer (drop read.left said.items) in
      joined w turn_answered (receives turn_answered s read items result) (rules.begins.says w n (Some read.left) said more f) (receives-comes turn_answered s read items result)))

  turn-comes : (w : World) (s n : ℕ) (read : Operation) → Is w (writer_turn w s n read)
  unfolding writer_turn
  turn-comes w s n read = produces-comes w s n read (writer_at w n).holds

  -- A TURN OF A HOST READER

  gives_up-comes : (w : World) (s : ℕ) (write : Operation) (taken : ℕ) (answer : Answer) → R w (gives_up w s write taken answer)
  gives_up-comes w s write taken answer =
      rules.leaves w s (moved_on Writing (stream_in w s) write taken (result_of answer)) (moved_on-left Writing (stream_in w s) write taken (result_of answer))

  taken-comes : (w : World) (s r : ℕ) (write : Operation) (finish : Bool) (first : ℕ → List Item) (coming : List ReaderSaid) → (reader_at w r).coming ≡ coming
      → Is w (reader_says w s r write.left finish first coming (λ after said. done (gave_up s r write after said)))
  taken-comes w s r write finish first [] e = tt
  taken-comes w s r write finish first (said ∷ more) e =
      let after = with_reader w r (polled_reader (reader_at w r) (first said.taken) more) in
      let halted : Halted K w after.writers after.readers = record { at = after; kept = begins.takes w r (first said.taken) said more e; is = refl; read = refl } in
      let counted = reader_with_taken after r said.answer said.taken in
      cond_both (is_reader_poll write.left (consumer_at w.state r).since finish said && tells_truly write.left first said) _ _ (Is w)
      (λ f. cond_both (is_failed said.answer) _ _ (Is w) (λ g. halted)
      (λ g. cond_both said.bad _ _ (Is w) (λ b. halted)
      (λ b. cond_both (breaks_as_reader (stream_in w s).kind said) _ _ (Is w) (λ k. halted)
      (λ k.
      joined w after (gives_up counted s write said.taken said.answer) (rules.begins.takes w r (first said.taken) said more e)
      (joined after counted (gives_up counted s write said.taken said.answer) (rules.counts after r said.answer said.taken) (gives_up-comes counted s write said.taken said.answer))))))
      (λ f. tt)

  consumer-comes : (w : World) (s r : ℕ) (write : Operation) → Is w (reader_turn w s r write)
  unfolding reader_turn
  consumer-comes w s r write = taken-comes w s r write write.asked (lifted_items w.state.guests (stream_in w s).payload write) (reader_at w r).coming refl

  -- THE ROUND OF A PIPE

  -- it is done, or goes on
  ends-comes : (w v : World) (s n r : ℕ) (answer : Option Answer) → R w v → Is w (ends_if_done v s n r answer)
  ends-comes w v s n r answer h =
      let gone = with_stream_in v s (without_ends (stream_in v s)) in
      cond_both (is_done_with (stream_in v s).kind answer || is_run_dry v n r) _ _ (Is w)
      (λ e. joined w v (both_gone v s n) h (joined v gone (both_gone v s n) (rules.leaves v s (without_ends (stream_in v s)) (without_ends-left (stream_in v s))) (rules.begins.keeps gone n [])))
      (λ e. h)

  -- the reader took so many items
  passed-comes : (w : World) (s n r : ℕ) (answer : Answer) (taken : ℕ) → R w (passed_on w s n r answer taken)
  passed-comes w s n r answer taken =
      let kept = with_kept w n (drop taken (kept_at w.state n)) in
      let rested = with_passed kept r answer taken in
      joined w kept (passed_on w s n r answer taken) (rules.begins.keeps w n (drop taken (kept_at w.state n)))
      (joined kept rested (passed_on w s n r answer taken) (rules.rests kept r answer taken)
      (rules.begins.opens rested s (with_some_received (stream_in w s) taken) (some_received-owned (stream_in w s) taken)))

  -- what is done after its poll
  abbrev after_passing : ℕ → ℕ → ℕ → World → ReaderSaid → Outcome
  after_passing s n r after said = ends_if_done (passed_on after s n r said.answer said.taken) s n r (Some said.answer)

  offered-comes : (w u : World) (s n r offered : ℕ) (first : ℕ → List Item) (coming : List ReaderSaid) → (reader_at u r).coming ≡ coming → R w u → K w u
      → Is w (reader_says u s r offered false first coming (after_passing s n r))
  offered-comes w u s n r offered first [] e h k = tt
  offered-comes w u s n r offered first (said ∷ more) e h k =
      let after = with_reader u r (polled_reader (reader_at u r) (first said.taken) more) in
      let halted : Halted K w after.writers after.readers = record { at = after; kept = begins.joins w u after k (begins.takes u r (first said.taken) said more e); is = refl; read = refl } in
      let passed = passed_on after s n r said.answer said.taken in
      cond_both (is_reader_poll offered (consumer_at u.state r).since false said && tells_truly offered first said) _ _ (Is w)
      (λ f. cond_both (is_failed said.answer) _ _ (Is w) (λ g. halted)
      (λ g. cond_both said.bad _ _ (Is w) (λ b. halted)
      (λ b. cond_both (breaks_as_reader (stream_in u s).kind said) _ _ (Is w) (λ x. halted)
      (λ x. ends-comes w passed s n r (Some said.answer) (joined w u passed h (joined u after passed (rules.begins.takes u r (first said.taken) said more e) (passed-comes after s n r said.answer said.taken)))))))
      (λ f. tt)

  offers-comes : (w v : World) (s n r : ℕ) → R w v → K w v → Is w (offers v s n r (λ after answer. ends_if_done after s n r answer))
  offers-comes w v s n r h k =
      let held = held_of v n in
      let u = gathered v n in
      cond_both (has_items held || (consumer_at v.state r).resting) _ _ (Is w)
      (λ e. offered-comes w u s n r (length held) (λ taken. take taken held) (reader_at u r).coming refl
      (joined w v u h (gathered-comes R rules.begins v n)) (begins.joins w v u k (gathered-comes K begins v n)))
      (λ e. ends-comes w v s n r None h)

  round-comes : (w : World) (s n r : ℕ) → Is w (pipe_round w s n r)
  unfolding pipe_round
  round-comes w s n r = by (fetches w s n r) (fetches-comes R K rules.begins stopping w s n r) (fetches-comes K K begins stopping w s n r)
    where
      by : (o : Outcome) → Comes R K w o → Comes K K w o → Is w (then_on o (λ fetched. offers fetched s n r (λ after answer. ends_if_done after s n r answer)))
      by (Goes reply v) h k = offers-comes w v s n r h k
      by (Stops stop writers readers) h k = k
      by Stuck h k = tt

  -- A DRIVE ROUND

  open-comes : (w : World) (o : Option Operation) (turn : Operation → Outcome) → ((operation : Operation) → Is w (turn operation)) → Is w (if_open w o turn)
  open-comes w None turn h = rules.begins.stays w
  open-comes w (Some operation) turn h =
      cond_both operation.is_open _ _ (Is w) (λ e. h operation) (λ e. rules.begins.stays w)

  driven-comes : (w : World) (s : ℕ) (stream : Stream) (writer reader : Owner) → Is w (driven_by w s stream writer reader)
  driven-comes w s stream (Host n) (Host r) = round-comes w s n r
  driven-comes w s stream (Host n) _ = open-comes w stream.reader.operation (writer_turn w s n) (turn-comes w s n)
  driven-comes w s stream _ (Host r) = open-comes w stream.writer.operation (reader_turn w s r) (consumer-comes w s r)
  driven-comes w s stream _ _ = rules.begins.stays w

  drive-comes : (w : World) (s : ℕ) → Is w (drive_turn w s)
  unfolding drive_turn
  drive-comes w s = driven-comes w s (stream_in w s) (stream_in w s).writer.owner (stream_in w s).reader.owner

  -- A READ OF A HOST WRITER, A WRITE TO A HOST READER

  answers-comes : (w : World) (s : ℕ) (side : Side) (report : Option ReturnCode) → Is w (answered_with w s side report)
  answers-comes w s side (Some code) =
      rules.begins.opens w s (delivered side (stream_in w s)) (delivered-stays side (stream_in w s))
  answers-comes w s side None = rules.begins.stays w

  turn_answered-behind : (a b : World) (s : ℕ) (side : Side) (report : Option ReturnCode) → R a b → Is a (answered_with b s side report)
  turn_answered-behind a b s side (Some code) r = joined a b _ r (answers-comes b s side (Some code))
  turn_answered-behind a b s side None r = r

  then-comes : (a b : World) (s : ℕ) (side : Side) (o : Outcome) → R a b → K a b → Is b o → Is a (then_on o (λ after. turn_answered after s side))
  then-comes a b s side (Goes reply v) r k h =
      turn_answered-behind a v s side (report_on side (stream_in v s)) (joined a b v r h)
  then-comes a b s side (Stops stop writers readers) r k h = halts-behind a b writers readers k h
  then-comes a b s side Stuck r k h = tt

  reads-comes : (w : World) (s n : ℕ) (read : Operation) → Is w (reads_from w s n read)
  reads-comes w s n read =
      let stream = with_operation Reading (stream_in w s) read in
      let opened = with_stream_in w s stream in
      then-comes w opened s Reading (writer_turn opened s n read) (rules.begins.opens w s stream (with_operation-owned Reading (stream_in w s) read)) (begins.opens w s stream (with_operation-owned Reading (stream_in w s) read))
      (turn-comes opened s n read)

  writes-comes : (w : World) (s r : ℕ) (write : Operation) → Is w (writes_to w s r write)
  writes-comes w s r write =
      let stream = with_operation Writing (stream_in w s) write in
      let opened = with_stream_in w s stream in
      then-comes w opened s Writing (reader_turn opened s r write) (rules.begins.opens w s stream (with_operation-owned Writing (stream_in w s) write)) (begins.opens w s stream (with_operation-owned Writing (stream_in w s) write))
      (consumer-comes opened s r write)

  -- WHAT THE MACHINE DOES WITHOUT HOST ENDS

  replied-comes : (w : World) (reply : Reply) (state : State) → R w (with_state w state) → Is w (of_reply reply (with_state w state))
  replied-comes w (replies.BadItem stream) state r = record { at = w; kept = begins.stays w; is = refl; read = refl }
  replied-comes w replies.StoreTrapped state r = record { at = w; kept = begins.stays w; is = refl; read = refl }
  replied-comes w _ state r = r

  reacts-comes : (w : World) (act : Act) → Is w (reacts w act)
  reacts-comes w act =
      let r = reaction w.state act in replied-comes w r.reply r.state (rules.reacts w act)

  forsakes-comes : (w : World) (s : ℕ) (side : Side) (o : Outcome) → Is w o → Is w (forsakes o s side)
  forsakes-comes w s side (Goes reply v) h = joined w v _ h (rules.leaves v s (forsaken side (stream_in v s)) (forsaken-left side (stream_in v s)))
  forsakes-comes w s side (Stops stop writers readers) h = h
  forsakes-comes w s side Stuck h = tt

  drops-comes : (w : World) (s : ℕ) (side : Side) (act : Act) → Is w (drops_in w s side act)
  drops-comes w s side act =
      cond_both (is_host (end_of (opposite side) (stream_in w s)).owner) _ _ (Is w)
      (λ e. forsakes-comes w s side (reacts w act) (reacts-comes w act))
      (λ e. reacts-comes w act)

  operates-comes : (w : World) (side : Side) (end : NamedEnd) (address count : ℕ) (owner : Owner) → Is w (operates_by w side end address count owner)
  operates-comes w Reading end address count (Host n) =
      reads-comes w (stream_named (named w.state end)) n (begun end.guest address (items_asked end.ty count))
  operates-comes w Writing end address count (Host r) =
      writes-comes w (stream_named (named w.state end)) r (begun end.guest address (items_asked end.ty count))
  operates-comes w side end address count _ = reacts-comes w (OnEnd side end (Operate address count))

  -- A STEP

  hosts-comes : (w : World) (n : ℕ) → refusal_in w (OnHost n New) ≡ None → Is w (hosts_new w n)
  unfolding hosts_new
  hosts-comes w n e = rules.hosts w n e

  -- nothing comes any more, or the pipe stays
  pipes-comes : (w : World) (s r : ℕ) → refusal_in w (OnHost r (Pipe s)) ≡ None → Is w (pipes w s r)
  unfolding pipes
  pipes-comes w s r e =
      let v = with_consumer w r (record no_consumer { duty = Serves s }) in
      let stream = piped (stream_in w s) r in
      let after = with_stream_in v s stream in
      cond_both (is_dry v stream.writer.owner) (with_stream_in after s (without_ends stream)) after (λ x. R w x)
      (λ dry. joined w after (with_stream_in after s (without_ends stream)) (rules.pipes w s r e) (rules.leaves after s (without_ends stream) (piped-ends w s r)))
      (λ wet. rules.pipes w s r e)

  on_host-comes : (w : World) (n : ℕ) (act : HostAct) → is_passing (Acts (OnHost n act)) ≡ false → refusal_in w (OnHost n act) ≡ None → Is w (on_host w n act)
  on_host-comes w n New f e = hosts-comes w n e
  on_host-comes w n (Feed bytes) f e = cc
  on_host-comes w r (Pipe s) f e = pipes-comes w s r e
  on_host-comes w r (Grant count) f e = cc

  performs-comes : (w : World) (act : Act) → is_part (Acts act) ≡ true → is_passing (Acts act) ≡ false → refusal_in w act ≡ None → Is w (performs_in w act)
  unfolding performs_in
  performs-comes w =
      touch-by (λ act touch. is_part (Acts act) ≡ true → is_passing (Acts act) ≡ false → refusal_in w act ≡ None → Is w (performs_by w act touch)) w.state
      (record {
        operated = λ side end address count p f e. operates-comes w side end address count _;
        dropped = λ act s side d p f e. drops-comes w s side act;
        hosted = λ n act p f e. on_host-comes w n act f e;
        driven = λ p f e. cc;
        alone = λ act n p f e. reacts-comes w act;
      })

  unless-comes : (w : World) (act : Act) (o : Option Refusal) → is_part (Acts act) ≡ true → is_passing (Acts act) ≡ false → refusal_in w act ≡ o → Is w (unless_refused_in w act o)
  unless-comes w act (Some r) p f e = rules.begins.stays w
  unless-comes w act None p f e = performs-comes w act p f e

  outcome-comes : (w : World) (act : Act) → is_part (Acts act) ≡ true → is_passing (Acts act) ≡ false → Is w (outcome w act)
  unfolding outcome
  outcome-comes w act p f =
      cond_both w.state.trapped _ _ (Is w)
      (λ t. record { at = w; kept = begins.stays w; is = refl; read = refl })
      (λ t. unless-comes w act (refusal_in w act) p f refl)

  -- a part of a run but a feed or a grant
  pub part-comes : (w : World) (part : Part) → is_part part ≡ true → is_passing part ≡ false → Is w (part_on w part)
  part-comes w (Acts act) p f = outcome-comes w act p f
  part-comes w (Turns s) p f = drive-comes w s

  -- a feed, by what it is where nothing refuses it
  pub feed-comes : (w : World) (n : ℕ) (bytes : List ℕ) → (refusal_in w (OnHost n (Feed bytes)) ≡ None → R w (with_writer w n (fed_writer (writer_at w n) bytes))) → Is w (part_on w (Acts (OnHost n (Feed bytes))))
  unfolding outcome performs_in
  feed-comes w n bytes h =
      cond_both w.state.trapped _ _ (Is w)
      (λ t. record { at = w; kept = begins.stays w; is = refl; read = refl })
      (λ t. by (refusal_in w (OnHost n (Feed bytes))) refl)
    where
      by : (o : Option Refusal) → refusal_in w (OnHost n (Feed bytes)) ≡ o → Is w (unless_refused_in w (OnHost n (Feed bytes)) o)
      by (Some r) e = rules.begins.stays w
      by None e = h e

  -- a grant
  pub grant-comes : (w : World) (r count : ℕ) → (refusal_in w (OnHost r (Grant count)) ≡ None → R w (with_reader w r (granted_reader (reader_at w r) count))) → Is w (part_on w (Acts (OnHost r (Grant count))))
  unfolding outcome performs_in
  grant-comes w r count h =
      cond_both w.state.trapped _ _ (Is w)
      (λ t. record { at = w; kept = begins.stays w; is = refl; read = refl })
      (λ t. by (refusal_in w (OnHost r (Grant count))) refl)
    where
      by : (o : Option Refusal) → refusal_in w (OnHost r (Grant count)) ≡ o → Is w (unless_refused_in w (OnHost r (Grant count)) o)
      by (Some x) e = rules.begins.stays w
      by None e = h e
