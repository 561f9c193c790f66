-- What one host end's turn does to worlds that are alike.
use Rattle.std.proofs.Common.{◌≡◌, ℕ, Bool, List, [], ◌∷◌, take, drop, Option, Some, None, refl, ap, subst}
use Rattle.std.specs.Prelude.{slice_set, ◌&&◌}
use Rattle.strm_codes.specs.declared.codes.StreamResult.{StreamResult}
use Rattle.strm_buffers.specs.declared.answers.Answer.{Answer}
use Rattle.strm_buffers.specs.declared.answers.ReaderSaid.{ReaderSaid}
use Rattle.strm_buffers.specs.Listing.{Item}
use Rattle.strm_buffers.specs.Said.{WriterSaid}
use Rattle.strm_machine.specs.State.{State, producer_at, consumer_at, stream_at}
use Rattle.strm_machine.specs.declared.streams.Duty.TheVariants.{Ended}
use Rattle.strm_machine.specs.declared.streams.Owner.{Owner}
use Rattle.strm_machine.specs.declared.streams.Owner.TheVariants.{Held, Loose, Host, Gone}
use Rattle.strm_machine.specs.declared.streams.Operation.{Operation}
use Rattle.strm_machine.specs.declared.streams.Stream.{Stream}
use Rattle.strm_machine.specs.declared.streams.Side.{Side}
use Rattle.strm_codes.specs.declared.codes.ReturnCode.{ReturnCode}
use Rattle.strm_codes.specs.declared.codes.TransmitKind.{TransmitKind}
use Rattle.strm_host_machine.specs.Ends.{Writer, Reader, writer_in, reader_in, polled_writer, given_writer, closed_writer, polled_reader, closed_reader}
use Rattle.strm_host_machine.specs.World.{World, with_stream_in, leaves_writer, leaves_reader}
use Rattle.strm_host_machine.specs.Polls.{AfterWriter, AfterReader, is_failed, is_writer_poll, writer_judged, writer_says, polls_writer, is_reader_poll, tells_truly, reader_judged, reader_says, polls_reader}
use Rattle.strm_buffers.specs.HostRules.{breaks_as_writer, breaks_as_reader}
use Rattle.strm_host_machine.specs.Settling.{turn_answered, answered_with}
use Rattle.strm_codes.specs.declared.codes.StreamResult.TheVariants.{Completed, Dropped}
use Rattle.strm_host_machine.specs.Attaching.{has_items}
use Rattle.strm_host_machine.specs.WriterTurn.{receives, hands_out, hands_over, with_answer, produced_result, is_produced, produces, writer_turn}
use Rattle.strm_host_machine.specs.ReaderTurn.{reader_turn, gives_up, reader_with_taken}
use Rattle.strm_machine.specs.Endings.{report_on}
use Rattle.strm_record_laws.specs.Alike.{AreAlike}
use Rattle.strm_record_laws.proofs.AlikeLemmas.{SameWriters, SameReaders, world, Alike, OfAlike, alike, of_alike, holds_same, coming_same, reader_coming_same, change_same, change_reader_same, if_alike}

-- A STREAM IS WRITTEN

leaves_writer-alike : (o p : Owner) (a b : World) → AreAlike a b → AreAlike (leaves_writer o p a) (leaves_writer o p b)
leaves_writer-alike (Host n) Gone a b l = record {
  state = ap (λ (s : State). record s { producers = slice_set s.producers n (record (producer_at s n) { duty = Ended }) }) l.state;
  writers = change_same closed_writer (λ w. refl) a.writers b.writers n l.writers;
  readers = l.readers;
}
leaves_writer-alike (Host n) (Held g h) a b l = l
leaves_writer-alike (Host n) Loose a b l = l
leaves_writer-alike (Host n) (Host m) a b l = l
leaves_writer-alike (Held g h) p a b l = l
leaves_writer-alike Loose p a b l = l
leaves_writer-alike Gone p a b l = l

leaves_reader-alike : (o p : Owner) (a b : World) → AreAlike a b → AreAlike (leaves_reader o p a) (leaves_reader o p b)
leaves_reader-alike (Host n) Gone a b l = record {
  state = ap (λ (s : State). record s { consumers = slice_set s.consumers n (record (consumer_at s n) { duty = Ended }) }) l.state;
  writers = l.writers;
  readers = change_reader_same closed_reader (λ r. refl) a.readers b.readers n l.readers;
}
leaves_reader-alike (Host n) (Held g h) a b l = l
leaves_reader-alike (Host n) Loose a b l = l
leaves_reader-alike (Host n) (Host m) a b l = l
leaves_reader-alike (Held g h) p a b l = l
leaves_reader-alike Loose p a b l = l
leaves_reader-alike Gone p a b l = l

pub with_stream_in-alike : (s : ℕ) (stream : Stream) (a b : World) → AreAlike a b → AreAlike (with_stream_in a s stream) (with_stream_in b s stream)
unfolding with_stream_in
with_stream_in-alike s stream a b l =
    of_alike (λ a b. AreAlike (with_stream_in a s stream) (with_stream_in b s stream))
    (λ st ws us rs ts e f.
    let state = record st { streams = slice_set st.streams s stream } in
    leaves_writer-alike (stream_at st s).writer.owner stream.writer.owner _ _
    (leaves_reader-alike (stream_at st s).reader.owner stream.reader.owner _ _ (alike state ws us rs ts e f))) a b l

-- POLLS

-- what is done after a poll of a host writer
abbrev pub AfterAlike : AfterWriter → AfterWriter → Type 0
AfterAlike f g = (a b : World) (said : WriterSaid) → AreAlike a b → Alike (f a said) (g b said)

writer_judged-alike : (kind : TransmitKind) (n : ℕ) (said : WriterSaid) (f g : AfterWriter) (a b : World) → AreAlike a b → AfterAlike f g → Alike (writer_judged a kind n said f) (writer_judged b kind n said g)
writer_judged-alike kind n said f g a b l next =
    if_alike (is_failed said.answer) _ _ _ _ (refl, l.writers, l.readers)
    (if_alike (breaks_as_writer kind said) _ _ _ _ (refl, l.writers, l.readers) (next a b said l))

writer_says-alike : (s n : ℕ) (room : Option ℕ) (finish : Bool) (saids : List WriterSaid) (f g : AfterWriter) → AfterAlike f g → OfAlike (λ a b. Alike (writer_says a s n room finish saids f) (writer_says b s n room finish saids g))
writer_says-alike s n room finish [] f g next st ws us rs ts e h = tt
writer_says-alike s n room finish (said ∷ more) f g next st ws us rs ts e h =
    if_alike (is_writer_poll room finish said) _ _ _ _
    (writer_judged-alike (stream_at st s).kind n said f g _ _
    (alike st _ _ rs ts (change_same (λ w. polled_writer w room said more) (λ w. refl) ws us n e) h) next)
    tt

pub polls_writer-alike : (s n : ℕ) (room : Option ℕ) (finish : Bool) (f g : AfterWriter) (a b : World) → AreAlike a b → AfterAlike f g → Alike (polls_writer a s n room finish f) (polls_writer b s n room finish g)
polls_writer-alike s n room finish f g a b l next =
    of_alike (λ a b. Alike (polls_writer a s n room finish f) (polls_writer b s n room finish g))
    (λ st ws us rs ts e h.
    subst (λ c. Alike (polls_writer (world st ws rs) s n room finish f) (writer_says (world st us ts) s n room finish c g)) (coming_same ws us n e)
    (writer_says-alike s n room finish (writer_in ws n).coming f g next st ws us rs ts e h)) a b l

-- what is done after a poll of a host reader
abbrev pub AfterReaderAlike : AfterReader → AfterReader → Type 0
AfterReaderAlike f g = (a b : World) (said : ReaderSaid) → AreAlike a b → Alike (f a said) (g b said)

reader_judged-alike : (kind : TransmitKind) (s r : ℕ) (said : ReaderSaid) (f g : AfterReader) (a b : World) → AreAlike a b → AfterReaderAlike f g → Alike (reader_judged a kind s r said f) (reader_judged b kind s r said g)
reader_judged-alike kind s r said f g a b l next =
    if_alike (is_failed said.answer) _ _ _ _ (refl, l.writers, l.readers)
    (if_alike said.bad _ _ _ _ (refl, l.writers, l.readers)
    (if_alike (breaks_as_reader kind said) _ _ _ _ (refl, l.writers, l.readers) (next a b said l)))

reader_says-alike : (s r offered : ℕ) (finish : Bool) (first : ℕ → List Item) (saids : List ReaderSaid) (f g : AfterReader) → AfterReaderAlike f g → OfAlike (λ a b. Alike (reader_says a s r offered finish first saids f) (reader_says b s r offered finish first saids g))
reader_says-alike s r offered finish first [] f g next st ws us rs ts e h = tt
reader_says-alike s r offered finish first (said ∷ more) f g next st ws us rs ts e h =
    if_alike (is_reader_poll offered (consumer_at st r).since finish said && tells_truly offered first said) _ _ _ _
    (reader_judged-alike (stream_at st s).kind s r said f g _ _
    (alike st ws us _ _ e (change_reader_same (λ t. polled_reader t (first said.taken) more) (λ t. refl) rs ts r h)) next)
    tt

pub polls_reader-alike : (s r offered : ℕ) (finish : Bool) (first : ℕ → List Item) (f g : AfterReader) (a b : World) → AreAlike a b → AfterReaderAlike f g → Alike (polls_reader a s r offered finish first f) (polls_reader b s r offered finish first g)
polls_reader-alike s r offered finish first f g a b l next =
    of_alike (λ a b. Alike (polls_reader a s r offered finish first f) (polls_reader b s r offered finish first g))
    (λ st ws us rs ts e h.
    subst (λ c. Alike (polls_reader (world st ws rs) s r offered finish first f) (reader_says (world st us ts) s r offered finish first c g)) (reader_coming_same rs ts r h)
    (reader_says-alike s r offered finish first (reader_in rs r).coming f g next st ws us rs ts e h)) a b l

-- THE TURN OF A HOST WRITER

-- a read receives the same items
receives-alike : (s : ℕ) (read : Operation) (items : List Item) (result : Option StreamResult) (a b : World) → AreAlike a b → AreAlike (receives a s read items result) (receives b s read items result)
receives-alike s read items result a b l =
    of_alike (λ a b. AreAlike (receives a s read items result) (receives b s read items result))
    (λ st ws us rs ts e h. with_stream_in-alike s _ _ _ (alike _ ws us rs ts e h)) a b l

hands_over-alike : (s n : ℕ) (read : Operation) (st : State) (ws us : List Writer) (rs ts : List Reader) → SameWriters ws us → SameReaders rs ts → AreAlike (hands_over (world st ws rs) s n read) (hands_over (world st us ts) s n read)
hands_over-alike s n read st ws us rs ts e h =
    let same : (writer_in ws n).holds ≡ (writer_in us n).holds = holds_same ws us n e in
    let out : AreAlike (hands_out (world st ws rs) n read.left) (hands_out (world st us ts) n read.left) = record {
      state = ap (λ (xs : List Item). record st { producers = slice_set st.producers n (record (producer_at st n) { holding = has_items (drop read.left xs) }) }) same;
      writers = change_same (λ w. given_writer w read.left) (λ w. refl) ws us n e;
      readers = h;
    } in
    subst (λ xs. AreAlike (hands_over (world st ws rs) s n read) (receives (hands_out (world st us ts) n read.left) s read (take read.left xs) (Some Completed))) same
    (receives-alike s read (take read.left (writer_in ws n).holds) (Some Completed) _ _ out)

-- what is kept of a host writer changes in the same way
pub with_answer-alike : (n : ℕ) (answer : Answer) (held : List Item) (a b : World) → AreAlike a b → AreAlike (with_answer a n answer held) (with_answer b n answer held)
with_answer-alike n answer held a b l =
    of_alike (λ a b. AreAlike (with_answer a n answer held) (with_answer b n answer held))
    (λ st ws us rs ts e h. alike _ ws us rs ts e h) a b l

is_produced-alike : (s n : ℕ) (read : Operation) (a b : World) → AreAlike a b → Alike (is_produced a s n read) (is_produced b s n read)
is_produced-alike s n read a b l =
    polls_writer-alike s n (Some read.left) read.asked _ _ a b l
    (λ x y said k. (refl, receives-alike s read (take read.left said.items) (produced_result said.answer (drop read.left said.items)) _ _ (with_answer-alike n said.answer (drop read.left said.items) x y k)))

produces-alike : (s n : ℕ) (read : Operation) (held : List Item) (st : State) (ws us : List Writer) (rs ts : List Reader) → SameWriters ws us → SameReaders rs ts → Alike (produces (world st ws rs) s n read held) (produces (world st us ts) s n read held)
produces-alike s n read (item ∷ items) st ws us rs ts e h = (refl, hands_over-alike s n read st ws us rs ts e h)
produces-alike s n read [] st ws us rs ts e h =
    if_alike (producer_at st n).over _ _ _ _
    (refl, receives-alike s read [] (Some Dropped) _ _ (alike st ws us rs ts e h))
    (is_produced-alike s n read _ _ (alike st ws us rs ts e h))

pub writer_turn-alike : (s n : ℕ) (read : Operation) (a b : World) → AreAlike a b → Alike (writer_turn a s n read) (writer_turn b s n read)
unfolding writer_turn
writer_turn-alike s n read a b l =
    of_alike (λ a b. Alike (writer_turn a s n read) (writer_turn b s n read))
    (λ st ws us rs ts e h.
    subst (λ held. Alike (produces (world st ws rs) s n read (writer_in ws n).holds) (produces (world st us ts) s n read held)) (holds_same ws us n e)
    (produces-alike s n read (writer_in ws n).holds st ws us rs ts e h)) a b l

-- THE TURN OF A HOST READER

gives_up-alike : (s : ℕ) (write : Operation) (taken : ℕ) (answer : Answer) (a b : World) → AreAlike a b → AreAlike (gives_up a s write taken answer) (gives_up b s write taken answer)
gives_up-alike s write taken answer a b l =
    of_alike (λ a b. AreAlike (gives_up a s write taken answer) (gives_up b s write taken answer))
    (λ st ws us rs ts e h. with_stream_in-alike s _ _ _ (alike st ws us rs ts e h)) a b l

reader_with_taken-alike : (r : ℕ) (answer : Answer) (taken : ℕ) (a b : World) → AreAlike a b → AreAlike (reader_with_taken a r answer taken) (reader_with_taken b r answer taken)
reader_with_taken-alike r answer taken a b l =
    of_alike (λ a b. AreAlike (reader_with_taken a r answer taken) (reader_with_taken b r answer taken))
    (λ st ws us rs ts e h. alike _ ws us rs ts e h) a b l

pub reader_turn-alike : (s r : ℕ) (write : Operation) (a b : World) → AreAlike a b → Alike (reader_turn a s r write) (reader_turn b s r write)
unfolding reader_turn
reader_turn-alike s r write a b l =
    of_alike (λ a b. Alike (reader_turn a s r write) (reader_turn b s r write))
    (λ st ws us rs ts e h.
    polls_reader-alike s r write.left write.asked _ _ _ _ _ (alike st ws us rs ts e h)
    (λ x y said k. (refl, gives_up-alike s write said.taken said.answer _ _ (reader_with_taken-alike r said.answer said.taken x y k)))) a b l

-- WHAT A CALL ANSWERS

pub turn_answered-alike : (s : ℕ) (side : Side) (a b : World) → AreAlike a b → Alike (turn_answered a s side) (turn_answered b s side)
turn_answered-alike s side a b l =
    of_alike (λ a b. Alike (turn_answered a s side) (turn_answered b s side))
    (λ st ws us rs ts e h. by (report_on side (stream_at st s)) st ws us rs ts e h) a b l
  where
    by : (code : Option ReturnCode) (st : State) (ws us : List Writer) (rs ts : List Reader) → SameWriters ws us → SameReaders rs ts → Alike (answered_with (world st ws rs) s side code) (answered_with (world st us ts) s side code)
    by (Some code) st ws us rs ts e h = (refl, with_stream_in-alike s _ _ _ (alike st ws us rs ts e h))
    by None st ws us rs ts e h = (refl, alike st ws us rs ts e h)
