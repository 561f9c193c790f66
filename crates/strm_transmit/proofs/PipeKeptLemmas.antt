-- What a fetch and an offer of a pipe keep: the duty, the type and the ends of the stream, and what its host ends
-- tell where memory had run out.
use Rattle.std.proofs.Common.{◌≡◌, ◌⊎◌, ℕ, ◌==◌, ◌≤◌, Bool, true, false, cond, List, Result, Ok, Err, refl, sym, ap, subst, ◌∙◌, inl, inr, arith}
use Rattle.strm_codes.specs.declared.codes.TransmitKind.{TransmitKind}
use Rattle.strm_buffers.specs.declared.answers.Answer.{Answer}
use Rattle.strm_buffers.specs.Listing.{Item}
use Rattle.strm_buffers.specs.Tells.{WriterTells, ReaderTells, Tells, KeepsReader}
use Rattle.strm_machine.specs.State.{State}
use Rattle.strm_machine.specs.Sides.{end_of}
use Rattle.strm_machine.specs.Operating.{with_received}
use Rattle.strm_machine.specs.declared.streams.Consumer.{Consumer}
use Rattle.strm_machine.specs.declared.streams.Side.{Side}
use Rattle.strm_machine.specs.declared.streams.Side.TheVariants.{Writing, Reading}
use Rattle.strm_machine.specs.declared.streams.Stream.{Stream}
use Rattle.strm_host_machine.specs.Does.{Fits}
use Rattle.strm_host_turns.specs.Piping.{Fetching, Fetches, Offering, Ungathered, Unoffered, OfferRunsOut, Offers}
use Rattle.strm_host_turns.specs.declared.reader_turns.ReaderStops.{ReaderStops}
use Rattle.strm_host_turns.specs.declared.reader_turns.ReaderStops.TheVariants as reader_stops
use Rattle.strm_host_turns.specs.declared.writer_turns.WriterStops.{WriterStops}
use Rattle.strm_host_turns.specs.declared.writer_turns.WriterStops.TheVariants.{Failed, OutOfMemory, Broke}

-- other items are kept
pub other_kept : (state : State) (kept : List (List Item)) (tells : Tells) → Fits state tells → Fits (record state { kept = kept }) tells
other_kept state kept tells fits = record { writers = fits.writers; readers = fits.readers }

-- a fetch keeps the duty
pub fetches_duty : (result : Result (Unit {0}) WriterStops) (kind : TransmitKind) (old new : Fetching) → Fetches result kind old new → new.producer.duty ≡ old.producer.duty
fetches_duty (Ok v) kind old new f = ap (λ (x : Fetching). x.producer.duty) f.1.after
fetches_duty (Err Failed) kind old new f = ap (λ (x : Fetching). x.producer.duty) f.1.after
fetches_duty (Err Broke) kind old new f = ap (λ (x : Fetching). x.producer.duty) f.1.after
fetches_duty (Err OutOfMemory) kind old new f = ap (λ (x : Fetching). x.producer.duty) f.after

received-kind : (b : Bool) (stream : Stream) (k : ℕ) → (cond b stream (with_received stream k)).kind ≡ stream.kind
received-kind true stream k = refl
received-kind false stream k = refl

received-payload : (b : Bool) (stream : Stream) (k : ℕ) → (cond b stream (with_received stream k)).payload ≡ stream.payload
received-payload true stream k = refl
received-payload false stream k = refl

received-ends : (side : Side) (b : Bool) (stream : Stream) (k : ℕ) → end_of side (cond b stream (with_received stream k)) ≡ end_of side stream
received-ends side true stream k = refl
received-ends Writing false stream k = refl
received-ends Reading false stream k = refl

-- the type, the ends and the duty that an offer keeps
pub record KeepsStream (old new : Offering) : Type 0 where
  pub kind : new.stream.kind ≡ old.stream.kind
  pub payload : new.stream.payload ≡ old.stream.payload
  pub ends : (side : Side) → end_of side new.stream ≡ end_of side old.stream
  pub duty : new.consumer.duty ≡ old.consumer.duty

same_stream : (old new : Offering) → new.stream ≡ old.stream → new.consumer ≡ old.consumer → KeepsStream old new
same_stream old new e f = record {
  kind = ap (λ (x : Stream). x.kind) e;
  payload = ap (λ (x : Stream). x.payload) e;
  ends = λ side. ap (end_of side) e;
  duty = ap (λ (x : Consumer). x.duty) f;
}

pub offers_keep : (result : Result Answer ReaderStops) (old new : Offering) → Offers result old new → KeepsStream old new
offers_keep (Ok answer) old new f =
    let taken = f.0.taken in
    record {
      kind = ap (λ (x : Offering). x.stream.kind) f.1.after ∙ received-kind (taken == 0) old.stream taken;
      payload = ap (λ (x : Offering). x.stream.payload) f.1.after ∙ received-payload (taken == 0) old.stream taken;
      ends = λ side. ap (λ (x : Offering). end_of side x.stream) f.1.after ∙ received-ends side (taken == 0) old.stream taken;
      duty = ap (λ (x : Offering). x.consumer.duty) f.1.after;
    }
offers_keep (Err reader_stops.Failed) old new f = same_stream old new (ap (λ (x : Offering). x.stream) f.1.after) (ap (λ (x : Offering). x.consumer) f.1.after)
offers_keep (Err reader_stops.BadItem) old new f = same_stream old new (ap (λ (x : Offering). x.stream) f.1.after) (ap (λ (x : Offering). x.consumer) f.1.after)
offers_keep (Err reader_stops.Broke) old new f = same_stream old new (ap (λ (x : Offering). x.stream) f.1.after) (ap (λ (x : Offering). x.consumer) f.1.after)
offers_keep (Err reader_stops.OutOfMemory) old new f = same_stream old new f.stream f.consumer

-- what an offer for which memory had run out keeps of what its ends tell
pub record SaysNothing (old new : Offering) : Type 0 where
  pub said : new.writer.said ≡ old.writer.said
  pub faults : old.writer.faults ≤ new.writer.faults
  pub kind : new.writer.kind ≡ old.writer.kind
  pub payload : new.writer.payload ≡ old.writer.payload
  pub reader : KeepsReader old.reader new.reader

same_writer : (old new : WriterTells) → new.faults ≡ old.faults → old.faults ≤ new.faults
same_writer old new e = omega (arith, e)

keeps_itself : (t : ReaderTells) → KeepsReader t t
keeps_itself t = record { said = refl; holds = refl; faults = omega arith; closed = refl; heard = refl; kind = refl; payload = refl }

pub says_nothing : (old new : Offering) → OfferRunsOut old new → SaysNothing old new
says_nothing old new w = by w.ends
  where
    by : Ungathered old new ⊎ Unoffered old new → SaysNothing old new
    by (inl u) = record {
      said = ap (λ (x : WriterTells). x.said) u.writer.same;
      faults = same_writer old.writer new.writer (ap (λ (x : WriterTells). x.faults) u.writer.same);
      kind = ap (λ (x : WriterTells). x.kind) u.writer.same;
      payload = ap (λ (x : WriterTells). x.payload) u.writer.same;
      reader = subst (KeepsReader old.reader) (sym u.reader) (keeps_itself old.reader);
    }
    by (inr u) = record {
      said = ap (λ (x : WriterTells). x.said) u.writer;
      faults = same_writer old.writer new.writer (ap (λ (x : WriterTells). x.faults) u.writer);
      kind = ap (λ (x : WriterTells). x.kind) u.writer;
      payload = ap (λ (x : WriterTells). x.payload) u.writer;
      reader = u.reader;
    }
