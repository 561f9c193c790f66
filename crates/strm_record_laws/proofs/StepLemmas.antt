-- What a step does to worlds that are alike, and how runs come out from them.
use Rattle.std.proofs.Common.{◌≡◌, ℕ, ◌++◌, ◌∙◌, Bool, true, false, not, List, [], ◌∷◌, length, take, Option, Some, None, refl, ap, subst}
use Rattle.std.specs.Prelude.{slice_set, if◌then◌else◌, ◌&&◌, ◌||◌}
use Rattle.strm_codes.specs.declared.refusals.Refusal.{Refusal}
use Rattle.strm_codes.specs.declared.refusals.Refusal.TheVariants as refusals
use Rattle.strm_buffers.specs.declared.answers.Answer.{Answer}
use Rattle.strm_buffers.specs.Listing.{Item}
use Rattle.strm_machine.specs.State.{State, producer_at, consumer_at, stream_at, is_host}
use Rattle.strm_machine.specs.Sides.{opposite, end_of}
use Rattle.strm_machine.specs.Tests.{named, stream_named, items_asked, are_places_full, are_streams_full}
use Rattle.strm_machine.specs.Meetings.{begun}
use Rattle.strm_machine.specs.Reactions.{reaction}
use Rattle.strm_machine.specs.Acts.{act_of}
use Rattle.strm_machine.specs.Refusals.{where_, first_of, reader_reasons}
use Rattle.strm_machine.specs.Soundness.{type_with}
use Rattle.strm_machine.specs.declared.streams.Owner.{Owner}
use Rattle.strm_machine.specs.declared.streams.Owner.TheVariants.{Held, Loose, Host, Gone}
use Rattle.strm_machine.specs.declared.streams.Operation.{Operation}
use Rattle.strm_machine.specs.declared.streams.Stream.{Stream}
use Rattle.strm_machine.specs.declared.streams.Side.{Side}
use Rattle.strm_machine.specs.declared.streams.Side.TheVariants.{Writing, Reading}
use Rattle.strm_machine.specs.declared.acts.NamedEnd.{NamedEnd}
use Rattle.strm_machine.specs.declared.acts.HostAct.{HostAct}
use Rattle.strm_machine.specs.declared.acts.HostAct.TheVariants.{New, Feed, Pipe, Grant}
use Rattle.strm_machine.specs.declared.acts.Act.{Act}
use Rattle.strm_machine.specs.declared.acts.Act.TheVariants.{Make, OnEnd, Transfer, OnLoose, OnHost, Drive, Event, OnSet, OnContext, OnMemory}
use Rattle.strm_machine.specs.declared.replies.Reply.{Reply}
use Rattle.strm_machine.specs.declared.replies.Reply.TheVariants as replies
use Rattle.strm_machine.specs.declared.steps.Step.{Step}
use Rattle.strm_host_machine.specs.Ends.{Writer, Reader, reader_in, fed_writer, granted_reader}
use Rattle.strm_host_machine.specs.World.{World, stream_in, with_kept, with_stream_in}
use Rattle.strm_host_machine.specs.Outcomes.{Outcome, Goes, Stops, Stuck, of_reply}
use Rattle.strm_host_machine.specs.Polls.{polls_reader}
use Rattle.strm_host_machine.specs.Attaching.{has_items, hosted_stream, new_producer, hosts_new, is_dry, piped_by, pipes, forsaken, forsakes}
use Rattle.strm_host_machine.specs.Piping.{fetches, gathered, passed_on, offers, is_done_with, ends_if_done, pipe_round}
use Rattle.strm_host_machine.specs.WriterTurn.{writer_turn}
use Rattle.strm_host_machine.specs.ReaderTurn.{reader_turn}
use Rattle.strm_host_machine.specs.Driving.{if_open, driven_by, drive_turn, driven, round_of}
use Rattle.strm_host_machine.specs.HostRefusals.{is_unknown_host, is_used, reasons_in, on_host_reasons, refusal_in}
use Rattle.strm_host_machine.specs.Steps.{Touch, Operates, Drops, Hosts, Drives, TouchesNone, touch_of, reacts, reads_from, writes_to, operates_by, drops_in, on_host, performs_by, performs_in, unless_refused_in, outcome, outcome_of_step}
use Rattle.strm_host_machine.specs.HostPlays.{host_play, after_host_step}
use Rattle.strm_record_laws.specs.Alike.{AreAlike, ComeOutAlike}
use Rattle.strm_record_laws.proofs.AlikeLemmas.{SameWriters, SameReaders, world, Alike, alike, of_alike, writer_same, reader_same, holds_same, held_same, count_same, reader_count_same, change_same, change_reader_same, if_alike, if_same_alike, then_alike}
use Rattle.strm_record_laws.proofs.TurnLemmas.{with_stream_in-alike, polls_writer-alike, polls_reader-alike, with_answer-alike, writer_turn-alike, reader_turn-alike, turn_answered-alike}

-- WITHOUT HOST ENDS

of_reply-alike : (reply : Reply) (a b : World) → AreAlike a b → Alike (of_reply reply a) (of_reply reply b)
of_reply-alike replies.Done a b l = (refl, l)
of_reply-alike (replies.Number n) a b l = (refl, l)
of_reply-alike (replies.Pair p) a b l = (refl, l)
of_reply-alike (replies.Code c) a b l = (refl, l)
of_reply-alike (replies.Event c) a b l = (refl, l)
of_reply-alike (replies.Member m) a b l = (refl, l)
of_reply-alike (replies.Bytes c) a b l = (refl, l)
of_reply-alike (replies.Refused r) a b l = (refl, l)
of_reply-alike (replies.BadItem s) a b l = (refl, l.writers, l.readers)
of_reply-alike replies.StoreTrapped a b l = (refl, l.writers, l.readers)

reacts-alike : (act : Act) (a b : World) → AreAlike a b → Alike (reacts a act) (reacts b act)
reacts-alike act a b l =
    of_alike (λ a b. Alike (reacts a act) (reacts b act))
    (λ st ws us rs ts e h. of_reply-alike (reaction st act).reply _ _ (alike (reaction st act).state ws us rs ts e h)) a b l

-- PIPES

with_kept-alike : (n : ℕ) (items : List Item) (a b : World) → AreAlike a b → AreAlike (with_kept a n items) (with_kept b n items)
with_kept-alike n items a b l =
    of_alike (λ a b. AreAlike (with_kept a n items) (with_kept b n items)) (λ st ws us rs ts e h. alike _ ws us rs ts e h) a b l

fetches-alike : (s n r : ℕ) (a b : World) → AreAlike a b → Alike (fetches a s n r) (fetches b s n r)
fetches-alike s n r a b l =
    of_alike (λ a b. Alike (fetches a s n r) (fetches b s n r))
    (λ st ws us rs ts e h.
    if_same_alike _ _ _ _ _ _
    (ap (λ (xs : List Item). not (consumer_at st r).resting && (not (has_items xs) && not (producer_at st n).over)) (held_same st ws us rs ts n e))
    (polls_writer-alike s n None false _ _ _ _ (alike st ws us rs ts e h)
    (λ x y said k. (refl, with_kept-alike n said.items _ _ (with_answer-alike n said.answer [] x y k))))
    (refl, alike st ws us rs ts e h)) a b l

gathered-alike : (n : ℕ) (a b : World) → AreAlike a b → AreAlike (gathered a n) (gathered b n)
gathered-alike n a b l =
    of_alike (λ a b. AreAlike (gathered a n) (gathered b n))
    (λ st ws us rs ts e h. record {
      state = ap (λ (xs : List Item). record st { kept = slice_set st.kept n xs; producers = slice_set st.producers n (record (producer_at st n) { holding = false }) }) (held_same st ws us rs ts n e);
      writers = change_same (λ w. record w { holds = [] }) (λ w. refl) ws us n e;
      readers = h;
    }) a b l

passed_on-alike : (s n r : ℕ) (answer : Answer) (taken : ℕ) (a b : World) → AreAlike a b → AreAlike (passed_on a s n r answer taken) (passed_on b s n r answer taken)
passed_on-alike s n r answer taken a b l =
    of_alike (λ a b. AreAlike (passed_on a s n r answer taken) (passed_on b s n r answer taken))
    (λ st ws us rs ts e h. with_stream_in-alike s _ _ _ (alike _ ws us rs ts e h)) a b l

-- what is offered, where this is held
abbrev offered : World → ℕ → ℕ → ℕ → (World → Option Answer → Outcome) → List Item → Outcome
offered w s n r next held =
    if has_items held || (consumer_at w.state r).resting
    then polls_reader (gathered w n) s r (length held) false (λ k. take k held)
    (λ after said. next (passed_on after s n r said.answer said.taken) (Some said.answer))
    else next w None

offers-alike : (s n r : ℕ) (f g : World → Option Answer → Outcome) (a b : World) → AreAlike a b → ((x y : World) (answer : Option Answer) → AreAlike x y → Alike (f x answer) (g y answer)) → Alike (offers a s n r f) (offers b s n r g)
offers-alike s n r f g a b l next =
    of_alike (λ a b. Alike (offers a s n r f) (offers b s n r g))
    (λ st ws us rs ts e h.
    subst (λ held. Alike (offers (world st ws rs) s n r f) (offered (world st us ts) s n r g held)) (held_same st ws us rs ts n e)
    (if_alike _ _ _ _ _
    (polls_reader-alike s r _ false _ _ _ _ _ (gathered-alike n _ _ (alike st ws us rs ts e h))
    (λ x y said k. next _ _ (Some said.answer) (passed_on-alike s n r said.answer said.taken x y k)))
    (next _ _ None (alike st ws us rs ts e h)))) a b l

ends_if_done-alike : (s n r : ℕ) (answer : Option Answer) (a b : World) → AreAlike a b → Alike (ends_if_done a s n r answer) (ends_if_done b s n r answer)
ends_if_done-alike s n r answer a b l =
    of_alike (λ a b. Alike (ends_if_done a s n r answer) (ends_if_done b s n r answer))
    (λ st ws us rs ts e h.
    if_same_alike _ _ _ _ _ _
    (ap (λ (xs : List Item). is_done_with (stream_at st s).kind answer || ((producer_at st n).over && (not (has_items xs) && not (consumer_at st r).resting))) (held_same st ws us rs ts n e))
    (refl, with_kept-alike n [] _ _ (with_stream_in-alike s _ _ _ (alike st ws us rs ts e h)))
    (refl, alike st ws us rs ts e h)) a b l

pipe_round-alike : (s n r : ℕ) (a b : World) → AreAlike a b → Alike (pipe_round a s n r) (pipe_round b s n r)
unfolding pipe_round
pipe_round-alike s n r a b l =
    then_alike _ _ _ _ (fetches-alike s n r a b l)
    (λ x y k. offers-alike s n r _ _ x y k (λ u v answer m. ends_if_done-alike s n r answer u v m))

-- A DRIVE ROUND

if_open-alike : (operation : Option Operation) (f g : Operation → Outcome) (a b : World) → AreAlike a b → ((o : Operation) → Alike (f o) (g o)) → Alike (if_open a operation f) (if_open b operation g)
if_open-alike None f g a b l turn = (refl, l)
if_open-alike (Some o) f g a b l turn = if_alike o.is_open _ _ _ _ (turn o) (refl, l)

-- the turn of a host writer alone, and of a host reader alone
reading : (s n : ℕ) (stream : Stream) (a b : World) → AreAlike a b → Alike (if_open a stream.reader.operation (writer_turn a s n)) (if_open b stream.reader.operation (writer_turn b s n))
reading s n stream a b l = if_open-alike stream.reader.operation _ _ a b l (λ o. writer_turn-alike s n o a b l)

writing : (s r : ℕ) (stream : Stream) (a b : World) → AreAlike a b → Alike (if_open a stream.writer.operation (reader_turn a s r)) (if_open b stream.writer.operation (reader_turn b s r))
writing s r stream a b l = if_open-alike stream.writer.operation _ _ a b l (λ o. reader_turn-alike s r o a b l)

driven_by-alike : (s : ℕ) (stream : Stream) (o p : Owner) (a b : World) → AreAlike a b → Alike (driven_by a s stream o p) (driven_by b s stream o p)
driven_by-alike s stream (Host n) (Host r) a b l = pipe_round-alike s n r a b l
driven_by-alike s stream (Host n) (Held g h) a b l = reading s n stream a b l
driven_by-alike s stream (Host n) Loose a b l = reading s n stream a b l
driven_by-alike s stream (Host n) Gone a b l = reading s n stream a b l
driven_by-alike s stream (Held g h) (Host r) a b l = writing s r stream a b l
driven_by-alike s stream Loose (Host r) a b l = writing s r stream a b l
driven_by-alike s stream Gone (Host r) a b l = writing s r stream a b l
driven_by-alike s stream (Held g h) (Held g' h') a b l = (refl, l)
driven_by-alike s stream (Held g h) Loose a b l = (refl, l)
driven_by-alike s stream (Held g h) Gone a b l = (refl, l)
driven_by-alike s stream Loose (Held g' h') a b l = (refl, l)
driven_by-alike s stream Loose Loose a b l = (refl, l)
driven_by-alike s stream Loose Gone a b l = (refl, l)
driven_by-alike s stream Gone (Held g' h') a b l = (refl, l)
driven_by-alike s stream Gone Loose a b l = (refl, l)
driven_by-alike s stream Gone Gone a b l = (refl, l)

drive_turn-alike : (s : ℕ) (a b : World) → AreAlike a b → Alike (drive_turn a s) (drive_turn b s)
unfolding drive_turn
drive_turn-alike s a b l =
    of_alike (λ a b. Alike (drive_turn a s) (drive_turn b s))
    (λ st ws us rs ts e h. driven_by-alike s (stream_at st s) (stream_at st s).writer.owner (stream_at st s).reader.owner _ _ (alike st ws us rs ts e h)) a b l

driven-alike : (streams : List ℕ) (a b : World) → AreAlike a b → Alike (driven a streams) (driven b streams)
driven-alike [] a b l = (refl, l)
driven-alike (s ∷ more) a b l = then_alike _ _ _ _ (drive_turn-alike s a b l) (λ x y k. driven-alike more x y k)

-- WHAT IS DONE TO A HOST END

-- the state in which a host writer got a stream
abbrev hosting : State → ℕ → Writer → State
hosting st n w = record st {
  producers = slice_set st.producers n (new_producer (length st.streams) w);
  streams = st.streams ++ hosted_stream w n ∷ [];
}

hosts_new-alike : (n : ℕ) (a b : World) → AreAlike a b → Alike (hosts_new a n) (hosts_new b n)
unfolding hosts_new
hosts_new-alike n a b l =
    of_alike (λ a b. Alike (hosts_new a n) (hosts_new b n))
    (λ st ws us rs ts e h. (
      refl,
      record {
        state = ap (hosting st n) (writer_same ws us n e);
        writers = e;
        readers = h;
      },
    )) a b l

is_dry-same : (o : Owner) (st : State) (ws us : List Writer) (rs ts : List Reader) → SameWriters ws us → is_dry (world st ws rs) o ≡ is_dry (world st us ts) o
is_dry-same Gone st ws us rs ts e = refl
is_dry-same (Host n) st ws us rs ts e = ap (λ (xs : List Item). (producer_at st n).over && not (has_items xs)) (holds_same ws us n e)
is_dry-same (Held g h) st ws us rs ts e = refl
is_dry-same Loose st ws us rs ts e = refl

if_worlds : (b c : Bool) (x x' y y' : World) → b ≡ c → AreAlike x x' → AreAlike y y' → AreAlike (if b then x else y) (if c then x' else y')
if_worlds b c x x' y y' same e f = subst (λ c. AreAlike (if b then x else y) (if c then x' else y')) same (by b e f)
  where
    by : (b : Bool) → AreAlike x x' → AreAlike y y' → AreAlike (if b then x else y) (if b then x' else y')
    by true e f = e
    by false e f = f

piped_by-alike : (s r : ℕ) (a b : World) → AreAlike a b → AreAlike (piped_by a s r) (piped_by b s r)
piped_by-alike s r a b l =
    of_alike (λ a b. AreAlike (piped_by a s r) (piped_by b s r))
    (λ st ws us rs ts e h.
    if_worlds _ _ _ _ _ _ (is_dry-same (stream_at st s).writer.owner st ws us rs ts e)
    (with_stream_in-alike s _ _ _ (with_stream_in-alike s _ _ _ (alike st ws us rs ts e h)))
    (with_stream_in-alike s _ _ _ (alike st ws us rs ts e h))) a b l

pipes-alike : (s r : ℕ) (a b : World) → AreAlike a b → Alike (pipes a s r) (pipes b s r)
unfolding pipes
pipes-alike s r a b l =
    of_alike (λ a b. Alike (pipes a s r) (pipes b s r))
    (λ st ws us rs ts e h. (refl, piped_by-alike s r _ _ (alike _ ws us rs ts e h))) a b l

on_host-alike : (n : ℕ) (act : HostAct) (a b : World) → AreAlike a b → Alike (on_host a n act) (on_host b n act)
on_host-alike n New a b l = hosts_new-alike n a b l
on_host-alike n (Feed bytes) a b l = (
  refl,
  record {
    state = l.state;
    writers = change_same (λ w. fed_writer w bytes) (λ w. refl) a.writers b.writers n l.writers;
    readers = l.readers;
  },
)
on_host-alike r (Pipe reader) a b l = pipes-alike reader r a b l
on_host-alike r (Grant count) a b l = (
  refl,
  record {
    state = l.state;
    writers = l.writers;
    readers = change_reader_same (λ t. granted_reader t count) (λ t. refl) a.readers b.readers r l.readers;
  },
)

-- ENDS

forsakes-alike : (x y : Outcome) (s : ℕ) (side : Side) → Alike x y → Alike (forsakes x s side) (forsakes y s side)
forsakes-alike (Goes r a) (Goes r' b) s side e = (
  e.0,
  of_alike (λ a b. AreAlike (with_stream_in a s (forsaken side (stream_in a s))) (with_stream_in b s (forsaken side (stream_in b s))))
      (λ st ws us rs ts f h. with_stream_in-alike s _ _ _ (alike st ws us rs ts f h)) a b e.1,
)
forsakes-alike (Goes r a) (Stops t us ts) s side e = elim e [ ]
forsakes-alike (Goes r a) Stuck s side e = elim e [ ]
forsakes-alike (Stops t ws rs) (Goes r b) s side e = elim e [ ]
forsakes-alike (Stops t ws rs) (Stops t' us ts) s side e = e
forsakes-alike (Stops t ws rs) Stuck s side e = elim e [ ]
forsakes-alike Stuck (Goes r b) s side e = elim e [ ]
forsakes-alike Stuck (Stops t us ts) s side e = elim e [ ]
forsakes-alike Stuck Stuck s side e = tt

drops_in-alike : (s : ℕ) (side : Side) (act : Act) (a b : World) → AreAlike a b → Alike (drops_in a s side act) (drops_in b s side act)
drops_in-alike s side act a b l =
    of_alike (λ a b. Alike (drops_in a s side act) (drops_in b s side act))
    (λ st ws us rs ts e h.
    let dropped = reacts-alike act _ _ (alike st ws us rs ts e h) in
    if_alike (is_host (end_of (opposite side) (stream_at st s)).owner) _ _ _ _ (forsakes-alike _ _ s side dropped) dropped) a b l

reads_from-alike : (s n : ℕ) (read : Operation) (a b : World) → AreAlike a b → Alike (reads_from a s n read) (reads_from b s n read)
reads_from-alike s n read a b l =
    of_alike (λ a b. Alike (reads_from a s n read) (reads_from b s n read))
    (λ st ws us rs ts e h.
    then_alike _ _ _ _ (writer_turn-alike s n read _ _ (with_stream_in-alike s _ _ _ (alike st ws us rs ts e h)))
    (λ x y k. turn_answered-alike s Reading x y k)) a b l

writes_to-alike : (s r : ℕ) (write : Operation) (a b : World) → AreAlike a b → Alike (writes_to a s r write) (writes_to b s r write)
writes_to-alike s r write a b l =
    of_alike (λ a b. Alike (writes_to a s r write) (writes_to b s r write))
    (λ st ws us rs ts e h.
    then_alike _ _ _ _ (reader_turn-alike s r write _ _ (with_stream_in-alike s _ _ _ (alike st ws us rs ts e h)))
    (λ x y k. turn_answered-alike s Writing x y k)) a b l

operates_by-alike : (side : Side) (end : NamedEnd) (address count : ℕ) (o : Owner) (st : State) (ws us : List Writer) (rs ts : List Reader) → SameWriters ws us → SameReaders rs ts → Alike (operates_by (world st ws rs) side end address count o) (operates_by (world st us ts) side end address count o)
operates_by-alike Reading end address count (Host n) st ws us rs ts e h =
    reads_from-alike (stream_named (named st end)) n (begun end.guest address (items_asked end.ty count)) _ _ (alike st ws us rs ts e h)
operates_by-alike Writing end address count (Host r) st ws us rs ts e h =
    writes_to-alike (stream_named (named st end)) r (begun end.guest address (items_asked end.ty count)) _ _ (alike st ws us rs ts e h)
operates_by-alike Reading end address count (Held g k) st ws us rs ts e h = reacts-alike _ _ _ (alike st ws us rs ts e h)
operates_by-alike Reading end address count Loose st ws us rs ts e h = reacts-alike _ _ _ (alike st ws us rs ts e h)
operates_by-alike Reading end address count Gone st ws us rs ts e h = reacts-alike _ _ _ (alike st ws us rs ts e h)
operates_by-alike Writing end address count (Held g k) st ws us rs ts e h = reacts-alike _ _ _ (alike st ws us rs ts e h)
operates_by-alike Writing end address count Loose st ws us rs ts e h = reacts-alike _ _ _ (alike st ws us rs ts e h)
operates_by-alike Writing end address count Gone st ws us rs ts e h = reacts-alike _ _ _ (alike st ws us rs ts e h)

-- STEPS

performs_by-alike : (act : Act) (touch : Touch) (st : State) (ws us : List Writer) (rs ts : List Reader) → SameWriters ws us → SameReaders rs ts → Alike (performs_by (world st ws rs) act touch) (performs_by (world st us ts) act touch)
performs_by-alike act (Operates side end address count) st ws us rs ts e h =
    operates_by-alike side end address count (end_of (opposite side) (stream_at st (stream_named (named st end)))).owner st ws us rs ts e h
performs_by-alike act (Drops s side) st ws us rs ts e h = drops_in-alike s side act _ _ (alike st ws us rs ts e h)
performs_by-alike act (Hosts n host_act) st ws us rs ts e h = on_host-alike n host_act _ _ (alike st ws us rs ts e h)
performs_by-alike act Drives st ws us rs ts e h = driven-alike (round_of (world st ws rs)) _ _ (alike st ws us rs ts e h)
performs_by-alike act TouchesNone st ws us rs ts e h = reacts-alike act _ _ (alike st ws us rs ts e h)

on_host_reasons-same : (n : ℕ) (act : HostAct) (st : State) (ws us : List Writer) (rs ts : List Reader) → SameWriters ws us → SameReaders rs ts → on_host_reasons (world st ws rs) n act ≡ on_host_reasons (world st us ts) n act
on_host_reasons-same n New st ws us rs ts e h =
    ap (λ (c : ℕ). where_ (is_unknown_host c n) refusals.UnknownHost ∷ where_ (is_used (producer_at st n).duty) refusals.HostUsed ∷ where_ (are_places_full st 3 || are_streams_full st) refusals.Full ∷ []) (count_same ws us e)
on_host_reasons-same n (Feed bytes) st ws us rs ts e h = ap (λ (c : ℕ). where_ (is_unknown_host c n) refusals.UnknownHost ∷ []) (count_same ws us e)
on_host_reasons-same r (Pipe reader) st ws us rs ts e h =
    ap (λ (c : ℕ). where_ (is_unknown_host c r) refusals.UnknownHost ∷ where_ (is_used (consumer_at st r).duty) refusals.HostUsed ∷ reader_reasons st reader (type_with (reader_in rs r).kind (reader_in rs r).payload)) (reader_count_same rs ts h)
    ∙ ap (λ (t : Reader). where_ (is_unknown_host (length ts) r) refusals.UnknownHost ∷ where_ (is_used (consumer_at st r).duty) refusals.HostUsed ∷ reader_reasons st reader (type_with t.kind t.payload)) (reader_same rs ts r h)
on_host_reasons-same r (Grant count) st ws us rs ts e h = ap (λ (c : ℕ). where_ (is_unknown_host c r) refusals.UnknownHost ∷ []) (reader_count_same rs ts h)

reasons_in-same : (act : Act) (st : State) (ws us : List Writer) (rs ts : List Reader) → SameWriters ws us → SameReaders rs ts → reasons_in (world st ws rs) act ≡ reasons_in (world st us ts) act
reasons_in-same (OnHost n act) st ws us rs ts e h = on_host_reasons-same n act st ws us rs ts e h
reasons_in-same (Make making) st ws us rs ts e h = refl
reasons_in-same (OnEnd side end act) st ws us rs ts e h = refl
reasons_in-same (Transfer end to) st ws us rs ts e h = refl
reasons_in-same (OnLoose reader act) st ws us rs ts e h = refl
reasons_in-same Drive st ws us rs ts e h = refl
reasons_in-same (Event guest handle) st ws us rs ts e h = refl
reasons_in-same (OnSet guest set act) st ws us rs ts e h = refl
reasons_in-same (OnContext guest handle act) st ws us rs ts e h = refl
reasons_in-same (OnMemory guest act) st ws us rs ts e h = refl

refusal_in-same : (act : Act) (st : State) (ws us : List Writer) (rs ts : List Reader) → SameWriters ws us → SameReaders rs ts → refusal_in (world st ws rs) act ≡ refusal_in (world st us ts) act
unfolding refusal_in
refusal_in-same act st ws us rs ts e h = ap first_of (reasons_in-same act st ws us rs ts e h)

unless-alike : (act : Act) (refusal : Option Refusal) (st : State) (ws us : List Writer) (rs ts : List Reader) → SameWriters ws us → SameReaders rs ts → Alike (unless_refused_in (world st ws rs) act refusal) (unless_refused_in (world st us ts) act refusal)
unfolding performs_in
unless-alike act (Some r) st ws us rs ts e h = (refl, alike st ws us rs ts e h)
unless-alike act None st ws us rs ts e h = performs_by-alike act (touch_of st act) st ws us rs ts e h

pub outcome-alike : (act : Act) (a b : World) → AreAlike a b → Alike (outcome a act) (outcome b act)
unfolding outcome
outcome-alike act a b l =
    of_alike (λ a b. Alike (outcome a act) (outcome b act))
    (λ st ws us rs ts e h.
    if_alike st.trapped _ _ _ _ (refl, e, h)
    (subst (λ o. Alike (unless_refused_in (world st ws rs) act (refusal_in (world st ws rs) act)) (unless_refused_in (world st us ts) act o)) (refusal_in-same act st ws us rs ts e h)
    (unless-alike act (refusal_in (world st ws rs) act) st ws us rs ts e h))) a b l

-- RUNS

pub host_play-alike : (steps : List Step) (told : List Reply) (a b : World) → AreAlike a b → ComeOutAlike (host_play told a steps) (host_play told b steps)
host_play-alike [] told a b l = (refl, l)
host_play-alike (step ∷ more) told a b l = by (outcome_of_step a step) (outcome_of_step b step) (λ t x y k. host_play-alike more t x y k) (outcome-alike (act_of step) a b l)
  where
    by : (x y : Outcome) → ((t : List Reply) (a b : World) → AreAlike a b → ComeOutAlike (host_play t a more) (host_play t b more)) → Alike x y → ComeOutAlike (after_host_step told x (λ t w. host_play t w more)) (after_host_step told y (λ t w. host_play t w more))
    by (Goes r x) (Goes r' y) next e = subst (λ reply. ComeOutAlike (host_play (told ++ r ∷ []) x more) (host_play (told ++ reply ∷ []) y more)) e.0 (next (told ++ r ∷ []) x y e.1)
    by (Goes r x) (Stops t us ts) next e = elim e [ ]
    by (Goes r x) Stuck next e = elim e [ ]
    by (Stops t ws rs) (Goes r y) next e = elim e [ ]
    by (Stops t ws rs) (Stops t' us ts) next e = (refl, e.0, e.1, e.2)
    by (Stops t ws rs) Stuck next e = elim e [ ]
    by Stuck (Goes r y) next e = elim e [ ]
    by Stuck (Stops t us ts) next e = elim e [ ]
    by Stuck Stuck next e = refl
