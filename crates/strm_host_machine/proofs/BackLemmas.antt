-- A part that goes on with a stream written back, as the code leaves the store and its boxes.
use Rattle.std.proofs.Common.{ℕ, Ok, refl, ap, ◌∙◌, arith}
use Rattle.strm_buffers.specs.Tells.{WriterTells, Tells, told_by, with_told, reader_tells_closed as closed_tells, told_by_reader}
use Rattle.strm_machine.specs.State.{State, stream_at}
use Rattle.strm_machine.specs.Reactions.{with_stream_at}
use Rattle.strm_machine.specs.declared.streams.Stream.{Stream}
use Rattle.strm_machine.specs.declared.replies.Reply.TheVariants as replies
use Rattle.strm_machine.proofs.TableLemmas.{OwnersStay}
use Rattle.strm_host_machine.specs.Outcomes.{done}
use Rattle.strm_host_machine.specs.Does.{Does}
use Rattle.strm_host_machine.proofs.GrowLemmas.{Part, Follows, follows-told, follows-then, grows-closed, Does-follows}
use Rattle.strm_host_machine.proofs.CloseLemmas.{ended_in}
use Rattle.strm_host_machine.proofs.ReaderLemmas.{grows-same_reader, follows-told_reader, ended_reader_in}
use Rattle.strm_host_machine.proofs.SettleLemmas.{with_stream_in-stays, IsLeft, with_stream_in-left, IsLeftByReader, with_reader_closed, with_stream_in-left_by_reader}
use Rattle.strm_host_machine.proofs.WriterTurnLemmas.{WritesBack}

-- its owners stay
pub Does-stays : (old but : State) (tells told : Tells) (s : ℕ) (stream : Stream) (part : Part) → Follows tells told
    → WritesBack old but tells told s stream part → OwnersStay (stream_at but s) stream
    → Does old (with_stream_at but s stream) tells told (Ok replies.Done) part
Does-stays old but tells told s stream part f back e =
    Does-follows old (with_stream_at but s stream) tells told (Ok replies.Done) part f
    (λ logs x. back logs x ∙ ap done (with_stream_in-stays but told logs s stream e)) tt

-- the state after its writer is gone
abbrev pub left_in : State → ℕ → ℕ → Stream → State
left_in but s n stream = ended_in (with_stream_at but s stream) n

-- its writer is gone, and was closed
pub Does-left : (old but : State) (tells told : Tells) (s n : ℕ) (stream : Stream) (w : WriterTells) (part : Part) → Follows tells told
    → WritesBack old but tells told s stream part → IsLeft but told s n stream w → Does old (left_in but s n stream) tells (with_told told n w) (Ok replies.Done) part
Does-left old but tells told s n stream w part f back l =
    let g = follows-told told n w l.there (grows-closed (told_by told n) w l.closes) in
    Does-follows old (ended_in (with_stream_at but s stream) n) tells (with_told told n w) (Ok replies.Done) part
    (follows-then tells told (with_told told n w) f g)
    (λ logs x. back logs (g.begins logs x) ∙ ap done (with_stream_in-left but told logs s n stream w l)) tt

-- a part that leaves this stream as stream s, without its reader r
abbrev pub DoesUnread : State → State → Tells → Tells → ℕ → ℕ → Stream → Part → Type 0
DoesUnread old but tells told s r stream part =
    Does old (ended_reader_in (with_stream_at but s stream) r) tells (with_reader_closed told r) (Ok replies.Done) part

-- its reader is gone, and was closed
pub Does-left_by_reader : (old but : State) (tells told : Tells) (s r : ℕ) (stream : Stream) (part : Part) → Follows tells told
    → WritesBack old but tells told s stream part → IsLeftByReader but told s r stream → DoesUnread old but tells told s r stream part
Does-left_by_reader old but tells told s r stream part f back l =
    let g = follows-told_reader told r (closed_tells (told_by_reader told r)) l.there (grows-same_reader (told_by_reader told r) (closed_tells (told_by_reader told r)) refl (omega arith)) in
    Does-follows old (ended_reader_in (with_stream_at but s stream) r) tells (with_reader_closed told r) (Ok replies.Done) part
    (follows-then tells told (with_reader_closed told r) f g)
    (λ logs x. back logs (g.begins logs x) ∙ ap done (with_stream_in-left_by_reader but told logs s r stream l)) tt
