-- Among host ends a store that is not trapped answers for itself, and is not trapped where it goes on.
use Rattle.std.proofs.Common.{◌≡◌, ◌≢◌, ℕ, Bool, true, false, ◌||◌, ◌&&◌, cond, List, [], ◌∷◌, length, take, drop, Option, Some, None, refl, sym, ◌∙◌}
use Rattle.std.proofs.lemmas.Bool.{cond_both}
use Rattle.strm_codes.specs.declared.codes.ReturnCode.{ReturnCode}
use Rattle.strm_codes.specs.declared.codes.TransmitKind.{TransmitKind}
use Rattle.strm_codes.specs.declared.refusals.Refusal.{Refusal}
use Rattle.strm_buffers.specs.Listing.{Item}
use Rattle.strm_buffers.specs.declared.answers.Answer.{Answer}
use Rattle.strm_buffers.specs.declared.answers.ReaderSaid.{ReaderSaid}
use Rattle.strm_buffers.specs.Said.{WriterSaid}
use Rattle.strm_buffers.specs.HostRules.{breaks_as_writer, breaks_as_reader}
use Rattle.strm_machine.specs.State.{producer_at, consumer_at, is_host}
use Rattle.strm_machine.specs.Acts.{act_of}
use Rattle.strm_machine.specs.Plays.{is_settled}
use Rattle.strm_machine.specs.Reactions.{reaction}
use Rattle.strm_machine.specs.Sides.{opposite, end_of}
use Rattle.strm_machine.specs.declared.acts.Act.{Act}
use Rattle.strm_machine.specs.declared.acts.Act.TheVariants.{OnEnd}
use Rattle.strm_machine.specs.declared.acts.EndAct.TheVariants.{Operate}
use Rattle.strm_machine.specs.declared.acts.HostAct.{HostAct}
use Rattle.strm_machine.specs.declared.acts.HostAct.TheVariants.{New, Feed, Pipe, Grant}
use Rattle.strm_machine.specs.declared.acts.NamedEnd.{NamedEnd}
use Rattle.strm_machine.specs.declared.replies.Reply.{Reply}
use Rattle.strm_machine.specs.declared.replies.Reply.TheVariants as replies
use Rattle.strm_machine.specs.declared.stops.Stop.TheVariants.{HostFailed, HostBroke, BadItem, StoreTrapped}
use Rattle.strm_machine.specs.declared.streams.HostEnd.{HostEnd}
use Rattle.strm_machine.specs.declared.streams.HostEnd.TheVariants as ends
use Rattle.strm_codes.specs.declared.codes.StreamResult.TheVariants as results
use Rattle.strm_machine.specs.declared.streams.Operation.{Operation}
use Rattle.strm_machine.specs.declared.streams.Owner.{Owner}
use Rattle.strm_machine.specs.declared.streams.Owner.TheVariants.{Host, Gone}
use Rattle.strm_machine.specs.declared.streams.Side.{Side}
use Rattle.strm_machine.specs.declared.streams.Side.TheVariants.{Writing, Reading}
use Rattle.strm_machine.specs.declared.streams.Stream.{Stream}
use Rattle.strm_host_machine.specs.World.{World, stream_in, writer_at, reader_at, held_of, with_kept, with_writer, with_reader, leaves_writer, leaves_reader, with_stream_in}
use Rattle.strm_host_machine.specs.Ends.{polled_writer, polled_reader}
use Rattle.strm_host_machine.specs.Outcomes.{Outcome, Goes, Stops, Stuck, stops, done, then_on, of_reply}
use Rattle.strm_host_machine.specs.Polls.{AfterWriter, is_failed, is_writer_poll, writer_judged, writer_says, polls_writer, AfterReader, is_reader_poll, tells_truly, reader_judged, reader_says, polls_reader}
use Rattle.strm_host_machine.specs.WriterTurn.{receives, with_answer, produced_result, is_produced, produces, writer_turn}
use Rattle.strm_host_machine.specs.ReaderTurn.{lifted_items, reader_with_taken, gives_up, reader_turn}
use Rattle.strm_host_machine.specs.Settling.{answered_with}
use Rattle.strm_host_machine.specs.Piping.{wants_items, fetches, gathered, passed_on, offers, is_done_with, is_run_dry, both_gone, ends_if_done, pipe_round}
use Rattle.strm_host_machine.specs.Driving.{if_open, driven_by, drive_turn, driven}
use Rattle.strm_host_machine.specs.Attaching.{has_items, hosts_new, is_dry, piped, without_ends, piped_by, pipes, forsakes}
use Rattle.strm_host_machine.specs.HostRefusals.{refusal_in}
use Rattle.strm_host_machine.specs.Steps.{reacts, operates_by, drops_in, on_host, performs_by, performs_in, unless_refused_in, outcome, outcome_of_step}
use Rattle.strm_host_machine.proofs.TouchLemmas.{touch-by}
use Rattle.strm_machine.specs.declared.steps.Step.{Step}
use Rattle.strm_session.proofs.PlayLemmas.{RunsOn, reaction-runs}

-- a world whose store is not trapped
abbrev pub IsRunning : World → Type 0
IsRunning world = world.state.trapped ≡ false

-- what comes of a step of such a world
abbrev pub Running : Outcome → Type 0
Running (Goes reply world) = IsRunning world
Running (Stops stop writers readers) = stop ≢ StoreTrapped
Running Stuck = Unit {0}

leaves_writer-runs : (a b : Owner) (world : World) → IsRunning world → IsRunning (leaves_writer a b world)
leaves_writer-runs (Host n) Gone world t = t
leaves_writer-runs _ _ world t = t

leaves_reader-runs : (a b : Owner) (world : World) → IsRunning world → IsRunning (leaves_reader a b world)
leaves_reader-runs (Host r) Gone world t = t
leaves_reader-runs _ _ world t = t

with_stream-runs : (world : World) (s : ℕ) (stream : Stream) → IsRunning world → IsRunning (with_stream_in world s stream)
unfolding with_stream_in
with_stream-runs world s stream t =
    leaves_writer-runs (stream_in world s).writer.owner stream.writer.owner _
    (leaves_reader-runs (stream_in world s).reader.owner stream.reader.owner _ t)

then-runs : (o : Outcome) (next : World → Outcome) → Running o → ((w : World) → IsRunning w → Running (next w)) → Running (then_on o next)
then-runs (Goes reply world) next r h = h world r
then-runs (Stops stop writers readers) next r h = r
then-runs Stuck next r h = tt

failed_untrapped : (end : HostEnd) → HostFailed end ≢ StoreTrapped
failed_untrapped end = λ e. cc

broke_untrapped : (end : HostEnd) → HostBroke end ≢ StoreTrapped
broke_untrapped end = λ e. cc

bad_untrapped : (stream : ℕ) → BadItem stream ≢ StoreTrapped
bad_untrapped stream = λ e. cc

judged-runs : (world : World) (kind : TransmitKind) (n : ℕ) (said : WriterSaid) (next : AfterWriter) → IsRunning world → ((w : World) (x : WriterSaid) → IsRunning w → Running (next w x)) → Running (writer_judged world kind n said next)
judged-runs world kind n said next t h =
    let broke = stops (HostBroke (ends.Writer n)) world in
    cond_both (is_failed said.answer) (stops (HostFailed (ends.Writer n)) world) (cond (breaks_as_writer kind said) broke (next world said)) Running
    (λ f. failed_untrapped (ends.Writer n))
    (λ f. cond_both (breaks_as_writer kind said) broke (next world said) Running (λ b. broke_untrapped (ends.Writer n)) (λ b. h world said t))

says-runs : (world : World) (s n : ℕ) (room : Option ℕ) (finish : Bool) (said : List WriterSaid) (next : AfterWriter) → IsRunning world → ((w : World) (x : WriterSaid) → IsRunning w → Running (next w x)) → Running (writer_says world s n room finish said next)
says-runs world s n room finish [] next t h = tt
says-runs world s n room finish (said ∷ more) next t h =
    let after = with_writer world n (polled_writer (writer_at world n) room said more) in
    cond_both (is_writer_poll room finish said) (writer_judged after (stream_in world s).kind n said next) Stuck Running
    (λ p. judged-runs after (stream_in world s).kind n said next t h) (λ p. tt)

produced-runs : (world : World) (s n : ℕ) (read : Operation) → IsRunning world → Running (is_produced world s n read)
produced-runs world s n read t =
    says-runs world s n (Some read.left) read.asked (writer_at world n).coming
    (λ after said. done (receives (with_answer after n said.answer (drop read.left said.items)) s read (take read.left said.items) (produced_result said.answer (drop read.left said.items))))
    t (λ w x r. with_stream-runs _ s _ r)

produces-runs : (world : World) (s n : ℕ) (read : Operation) (items : List Item) → IsRunning world → Running (produces world s n read items)
produces-runs world s n read (item ∷ items) t = with_stream-runs _ s _ t
produces-runs world s n read [] t =
    cond_both (producer_at world.state n).over (done (receives world s read [] (Some results.Dropped))) (is_produced world s n read) Running
    (λ o. with_stream-runs _ s _ t) (λ o. produced-runs world s n read t)

turn-runs : (world : World) (s n : ℕ) (read : Operation) → IsRunning world → Running (writer_turn world s n read)
unfolding writer_turn
turn-runs world s n read t = produces-runs world s n read _ t

-- A HOST READER'S TURN

judged_reader-runs : (world : World) (kind : TransmitKind) (s r : ℕ) (said : ReaderSaid) (next : AfterReader) → IsRunning world → ((w : World) (x : ReaderSaid) → IsRunning w → Running (next w x)) → Running (reader_judged world kind s r said next)
judged_reader-runs world kind s r said next t h =
    let broken = cond (breaks_as_reader kind said) (stops (HostBroke (ends.Reader r)) world) (next world said) in
    let bad = cond said.bad (stops (BadItem s) world) broken in
    cond_both (is_failed said.answer) (stops (HostFailed (ends.Reader r)) world) bad Running
    (λ f. failed_untrapped (ends.Reader r))
    (λ f. cond_both said.bad (stops (BadItem s) world) broken Running
    (λ b. bad_untrapped s)
    (λ b. cond_both (breaks_as_reader kind said) (stops (HostBroke (ends.Reader r)) world) (next world said) Running (λ k. broke_untrapped (ends.Reader r)) (λ k. h world said t)))

reader_says-runs : (world : World) (s r offered : ℕ) (finish : Bool) (first : ℕ → List Item) (said : List ReaderSaid) (next : AfterReader) → IsRunning world → ((w : World) (x : ReaderSaid) → IsRunning w → Running (next w x)) → Running (reader_says world s r offered finish first said next)
reader_says-runs world s r offered finish first [] next t h = tt
reader_says-runs world s r offered finish first (said ∷ more) next t h =
    let after = with_reader world r (polled_reader (reader_at world r) (first said.taken) more) in
    cond_both (is_reader_poll offered (consumer_at world.state r).since finish said && tells_truly offered first said) (reader_judged after (stream_in world s).kind s r said next) Stuck Running
    (λ p. judged_reader-runs after (stream_in world s).kind s r said next t h) (λ p. tt)

reader_turn-runs : (world : World) (s r : ℕ) (write : Operation) → IsRunning world → Running (reader_turn world s r write)
unfolding reader_turn
reader_turn-runs world s r write t =
    reader_says-runs world s r write.left write.asked (lifted_items world.state.guests (stream_in world s).payload write) (reader_at world r).coming
    (λ after said. done (gives_up (reader_with_taken after r said.answer said.taken) s write said.taken said.answer))
    t (λ w x k. with_stream-runs _ s _ k)

-- THE ROUND OF A PIPE

fetches-runs : (world : World) (s n r : ℕ) → IsRunning world → Running (fetches world s n r)
fetches-runs world s n r t =
    cond_both (wants_items world n r) (polls_writer world s n None false (λ after said. done (with_kept (with_answer after n said.answer []) n said.items))) (done world) Running
    (λ w. says-runs world s n None false (writer_at world n).coming (λ after said. done (with_kept (with_answer after n said.answer []) n said.items)) t (λ after said k. k))
    (λ w. t)

offers-runs : (world : World) (s n r : ℕ) (next : World → Option Answer → Outcome) → IsRunning world → ((w : World) (answer : Option Answer) → IsRunning w → Running (next w answer)) → Running (offers world s n r next)
offers-runs world s n r next t h =
    let held = held_of world n in
    let goes_on : AfterReader = λ after said. next (passed_on after s n r said.answer said.taken) (Some said.answer) in
    cond_both (has_items held || (consumer_at world.state r).resting) (polls_reader (gathered world n) s r (length held) false (λ k. take k held) goes_on) (next world None) Running
    (λ o. reader_says-runs (gathered world n) s r (length held) false (λ k. take k held) (reader_at (gathered world n) r).coming goes_on t
    (λ after said k. h (passed_on after s n r said.answer said.taken) (Some said.answer) (with_stream-runs _ s _ k)))
    (λ o. h world None t)

ends_if_done-runs : (world : World) (s n r : ℕ) (answer : Option Answer) → IsRunning world → Running (ends_if_done world s n r answer)
ends_if_done-runs world s n r answer t =
    cond_both (is_done_with (stream_in world s).kind answer || is_run_dry world n r) (done (both_gone world s n)) (done world) Running
    (λ d. with_stream-runs world s (without_ends (stream_in world s)) t) (λ d. t)

pipe_round-runs : (world : World) (s n r : ℕ) → IsRunning world → Running (pipe_round world s n r)
unfolding pipe_round
pipe_round-runs world s n r t =
    then-runs (fetches world s n r) (λ fetched. offers fetched s n r (λ after answer. ends_if_done after s n r answer)) (fetches-runs world s n r t)
    (λ fetched k. offers-runs fetched s n r (λ after answer. ends_if_done after s n r answer) k (λ after answer. ends_if_done-runs after s n r answer))

-- A STEP

answered-runs : (world : World) (s : ℕ) (side : Side) (code : Option ReturnCode) → IsRunning world → Running (answered_with world s side code)
answered-runs world s side (Some code) t = with_stream-runs world s _ t
answered-runs world s side None t = t

open-runs : (world : World) (operation : Option Operation) (turn : Operation → Outcome) → IsRunning world → ((o : Operation) → Running (turn o)) → Running (if_open world operation turn)
open-runs world None turn t h = t
open-runs world (Some operation) turn t h = cond_both operation.is_open (turn operation) (done world) Running (λ o. h operation) (λ o. t)

driven_by-runs : (world : World) (s : ℕ) (stream : Stream) (writer reader : Owner) → IsRunning world → Running (driven_by world s stream writer reader)
driven_by-runs world s stream (Host n) (Host r) t = pipe_round-runs world s n r t
driven_by-runs world s stream (Host n) _ t = open-runs world stream.reader.operation _ t (λ o. turn-runs world s n o t)
driven_by-runs world s stream _ (Host r) t = open-runs world stream.writer.operation _ t (λ o. reader_turn-runs world s r o t)
driven_by-runs world s stream _ _ t = t

drive_turn-runs : (world : World) (s : ℕ) → IsRunning world → Running (drive_turn world s)
unfolding drive_turn
drive_turn-runs world s t = driven_by-runs world s (stream_in world s) (stream_in world s).writer.owner (stream_in world s).reader.owner t

driven-runs : (world : World) (streams : List ℕ) → IsRunning world → Running (driven world streams)
driven-runs world [] t = t
driven-runs world (s ∷ more) t = then-runs (drive_turn world s) _ (drive_turn-runs world s t) (λ w r. driven-runs w more r)

reply-runs : (reply : Reply) (world : World) → (is_settled reply ≡ true → IsRunning world) → (reply ≡ replies.StoreTrapped → ⊥) → Running (of_reply reply world)
reply-runs (replies.BadItem stream) world goes trapped = bad_untrapped stream
reply-runs replies.StoreTrapped world goes trapped = absurd (trapped refl)
reply-runs _ world goes trapped = goes refl

reacts-runs : (world : World) (act : Act) → RunsOn (reaction world.state act) → Running (reacts world act)
reacts-runs world act r = reply-runs (reaction world.state act).reply _ r.goes_on r.trapped

forsakes-runs : (o : Outcome) (s : ℕ) (side : Side) → Running o → Running (forsakes o s side)
forsakes-runs (Goes reply world) s side r = with_stream-runs world s _ r
forsakes-runs (Stops stop writers readers) s side r = r
forsakes-runs Stuck s side r = tt

operates-runs : (world : World) (side : Side) (end : NamedEnd) (address count : ℕ) (owner : Owner) → IsRunning world → RunsOn (reaction world.state (OnEnd side end (Operate address count))) → Running (operates_by world side end address count owner)
operates-runs world Reading end address count (Host n) t r =
    then-runs _ _ (turn-runs _ _ n _ (with_stream-runs world _ _ t)) (λ w k. answered-runs w _ Reading _ k)
operates-runs world Writing end address count (Host n) t r =
    then-runs _ _ (reader_turn-runs _ _ n _ (with_stream-runs world _ _ t)) (λ w k. answered-runs w _ Writing _ k)
operates-runs world side end address count _ t r = reacts-runs world (OnEnd side end (Operate address count)) r

drops-runs : (world : World) (s : ℕ) (side : Side) (act : Act) → RunsOn (reaction world.state act) → Running (drops_in world s side act)
drops-runs world s side act r =
    cond_both (is_host (end_of (opposite side) (stream_in world s)).owner) (forsakes (reacts world act) s side) (reacts world act) Running
    (λ h. forsakes-runs (reacts world act) s side (reacts-runs world act r)) (λ h. reacts-runs world act r)

piped_by-runs : (world : World) (s r : ℕ) → IsRunning world → IsRunning (piped_by world s r)
piped_by-runs world s r t =
    let stream = piped (stream_in world s) r in
    let after = with_stream_in world s stream in
    let here = with_stream-runs world s stream t in
    cond_both (is_dry world stream.writer.owner) (with_stream_in after s (without_ends stream)) after IsRunning (λ d. with_stream-runs after s _ here) (λ d. here)

on_host-runs : (world : World) (n : ℕ) (act : HostAct) → IsRunning world → Running (on_host world n act)
unfolding hosts_new pipes
on_host-runs world n New t = t
on_host-runs world n (Feed bytes) t = t
on_host-runs world r (Pipe reader) t = piped_by-runs _ reader r t
on_host-runs world r (Grant count) t = t

performs-runs : (world : World) (act : Act) → IsRunning world → RunsOn (reaction world.state act) → Running (performs_in world act)
unfolding performs_in
performs-runs world act t =
    touch-by (λ act touch. RunsOn (reaction world.state act) → Running (performs_by world act touch)) world.state
    (record {
      operated = λ side end address count r. operates-runs world side end address count _ t r;
      dropped = λ act s side d r. drops-runs world s side act r;
      hosted = λ n act r. on_host-runs world n act t;
      driven = λ r. driven-runs world _ t;
      alone = λ act n r. reacts-runs world act r;
    })
    act

unless-runs : (world : World) (act : Act) (o : Option Refusal) → IsRunning world → RunsOn (reaction world.state act) → Running (unless_refused_in world act o)
unless-runs world act (Some refusal) t r = t
unless-runs world act None t r = performs-runs world act t r

pub step-runs : (world : World) (step : Step) → IsRunning world → Running (outcome_of_step world step)
unfolding outcome
step-runs world step t =
    let act = act_of step in
    cond_both world.state.trapped (stops StoreTrapped world) (unless_refused_in world act (refusal_in world act)) Running
    (λ e. absurd (let wrong : true ≡ false = sym e ∙ t in cc))
    (λ e. unless-runs world act (refusal_in world act) t (reaction-runs world.state step t))
