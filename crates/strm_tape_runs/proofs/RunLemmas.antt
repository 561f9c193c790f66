-- What a run says of a tape, and of the machine's play of it.
use Rattle.std.proofs.Common.{◌≡◌, ℕ, ◌≤◌, List, [], ◌∷◌, length, drop, map, Bool, false, Option, Some, None, Result, Ok, Err, refl, sym, ap, ◌∙◌, subst, arith}
use Rattle.std.specs.Prelude.{All, ◌≢◌}
use Rattle.std.specs.List.{AllZip}
use Rattle.std.proofs.lemmas.List.{length-append}
use Rattle.std.proofs.lemmas.List.Elements.{All-head, All-tail}
use Rattle.strm_codes.specs.Types.{kind_of, payload_of}
use Rattle.strm_codes.specs.declared.codes.TransmitKind.{TransmitKind}
use Rattle.strm_codes.specs.declared.codes.TransmitKind.TheVariants.{Stream, Future}
use Rattle.strm_codes.specs.declared.payloads.Payload.{Payload}
use Rattle.strm_buffers.specs.Listing.{Item}
use Rattle.strm_buffers.specs.Said.{WriterSaid}
use Rattle.strm_buffers.specs.declared.answers.ReaderSaid.{ReaderSaid}
use Rattle.strm_buffers.specs.Tells.{WriterTells, ReaderTells, Tells}
use Rattle.strm_machine.specs.Soundness.{type_with}
use Rattle.strm_machine.specs.declared.replies.Reply.{Reply}
use Rattle.strm_machine.specs.declared.steps.Step.{Step}
use Rattle.strm_machine.specs.declared.stops.Stop.{Stop}
use Rattle.strm_machine.specs.declared.streams.Duty.{Duty}
use Rattle.strm_machine.specs.declared.streams.Duty.TheVariants.{Ended}
use Rattle.strm_machine.specs.declared.streams.Producer.{Producer}
use Rattle.strm_host_machine.specs.Ends.{Writer, Reader}
use Rattle.strm_host_machine.specs.World.{World}
use Rattle.strm_host_machine.specs.HostPlays.{HostPlayed, host_play, Ends, Halts, Hangs}
use Rattle.strm_host_machine.proofs.GrowLemmas.{supplied_since_itself}
use Rattle.strm_host_machine.specs.Does.{LogBegins, AllBegin, held_while, first_duty, writer_of, writers_from, reader_of, readers_from, world_spent}
use Rattle.strm_record_laws.specs.Alike.{bare_writer, bare_reader, AreAlike, ComeOutAlike}
use Rattle.strm_session.specs.declared.runs.RunCause.{RunCause}
use Rattle.strm_session.specs.declared.runs.RunCause.TheVariants as causes
use Rattle.strm_session.specs.declared.runs.RunStop.{RunStop}
use Rattle.strm_session.specs.declared.runs.Transcript.{Transcript}
use Rattle.strm_session.specs.Records.{HostsGoOn}
use Rattle.strm_laws.specs.Starts.{run_start}
use Rattle.strm_session.specs.Runs.{start_among, stop_of, received_counts, halted_in, HaltsBy}
use Rattle.strm_host_machine.proofs.DoesLemmas.{extends_self}
use Rattle.strm_tape.specs.Spelling.{WriterTape, ReaderTape}
use Rattle.strm_codes.specs.declared.codes.TransmitIndex.{TransmitIndex}
use Rattle.strm_tape.specs.declared.errors.TapeError.{TapeError}
use Rattle.strm_tape.specs.declared.errors.TapeError.TheVariants.{Differs}
use Rattle.strm_tape_runs.specs.declared.marks.Mark.{Mark}
use Rattle.strm_tape_runs.specs.declared.marks.Marks.{Marks}
use Rattle.strm_tape_runs.specs.Marks.{mark_of, reader_mark_of, writer_behind, reader_behind, tape_behind, IsMarkReached, ReaderReached}
use Rattle.strm_tape_runs.specs.Taking.{HoldsNone, NoneHolds, writer_added, reader_added, zip_with, tape_of_run}
use Rattle.strm_tape_runs.specs.Playing.{IsRunOfSteps, FoundMemory, taped_writer, taped_reader, taped_world, IsPlayOf}
use Rattle.strm_tape_runs.proofs.ZipLemmas.{zip_with-map}

-- HOST ENDS

-- host ends go on from themselves
pub hosts_stay : (tells : Tells) → HostsGoOn tells tells
hosts_stay tells = record { begins = extends_self tells; faults = λ end. omega arith; supplied = supplied_since_itself tells }

pub begins_length : {A : Type 0} (said log : List A) → LogBegins said log → length said ≤ length log
begins_length said log e =
    let counted = ap (λ xs. length xs) e ∙ length-append said (drop (length said) log) in
    omega (arith, counted)

-- host writers have the records that they had
writers_reached : (ws vs : List WriterTells) → AllBegin (map (λ w. w.said) ws) (map (λ w. w.said) vs) → AllZip IsMarkReached (map mark_of ws) vs
writers_reached [] [] b = tt
writers_reached [] (v ∷ vs) b = absurd b
writers_reached (w ∷ ws) [] b = absurd b
writers_reached (w ∷ ws) (v ∷ vs) b = (begins_length w.said v.said b.0, writers_reached ws vs b.1)

readers_reached : (ws vs : List ReaderTells) → AllBegin (map (λ w. w.said) ws) (map (λ w. w.said) vs) → AllZip ReaderReached (map reader_mark_of ws) vs
readers_reached [] [] b = tt
readers_reached [] (v ∷ vs) b = absurd b
readers_reached (w ∷ ws) [] b = absurd b
readers_reached (w ∷ ws) (v ∷ vs) b = (begins_length w.said v.said b.0, readers_reached ws vs b.1)

pub reach_writers : (marks : List Mark) (old new : Tells) → marks ≡ map mark_of old.writers → HostsGoOn old new → AllZip IsMarkReached marks new.writers
reach_writers marks old new e h = subst (λ ms. AllZip IsMarkReached ms new.writers) (sym e) (writers_reached old.writers new.writers h.begins.0)

pub reach_readers : (marks : List Mark) (old new : Tells) → marks ≡ map reader_mark_of old.readers → HostsGoOn old new → AllZip ReaderReached marks new.readers
reach_readers marks old new e h = subst (λ ms. AllZip ReaderReached ms new.readers) (sym e) (readers_reached old.readers new.readers h.begins.1)

-- marks have the types of their host ends
pub types_marked : {T : Type 0} (mark : T → Mark) (ty : T → TransmitIndex) (typed : (t : T) → (mark t).ty ≡ ty t) (marks : List Mark) (told : List T) (tapes : List TransmitIndex) → marks ≡ map mark told → map ty told ≡ tapes → map (λ (m : Mark). m.ty) marks ≡ tapes
types_marked {T = T} mark ty typed marks told tapes e f = ap (map (λ (m : Mark). m.ty)) e ∙ marked told ∙ f
  where
    marked : (ts : List T) → map (λ (m : Mark). m.ty) (map mark ts) ≡ map ty ts
    marked [] = refl
    marked (t ∷ ts) = ap (λ y. y ∷ map (λ (m : Mark). m.ty) (map mark ts)) (typed t) ∙ ap (λ ys. ty t ∷ ys) (marked ts)

-- what was recorded behind the marks of before a run is what it added
pub tape_is : (steps : List Step) (marks : Marks) (old new : Tells) → marks.writers.items ≡ map mark_of old.writers → marks.readers.items ≡ map reader_mark_of old.readers → tape_behind steps marks new ≡ tape_of_run steps old new
tape_is steps marks old new e f =
    let writers : zip_with writer_behind marks.writers.items new.writers ≡ zip_with writer_added old.writers new.writers = ap (λ ms. zip_with writer_behind ms new.writers) e ∙ zip_with-map mark_of writer_behind old.writers new.writers in
    let readers : zip_with reader_behind marks.readers.items new.readers ≡ zip_with reader_added old.readers new.readers = ap (λ ms. zip_with reader_behind ms new.readers) f ∙ zip_with-map reader_mark_of reader_behind old.readers new.readers in
    ap (λ (ws : List WriterTape). record { steps = steps; writers = ws; readers = zip_with reader_behind marks.readers.items new.readers }) writers
    ∙ ap (λ (rs : List ReaderTape). record { steps = steps; writers = zip_with writer_added old.writers new.writers; readers = rs }) readers

-- THE WORLD OF A TAPE

kind_back : (kind : TransmitKind) (payload : Payload) → kind_of (type_with kind payload) ≡ kind
kind_back Stream payload = refl
kind_back Future payload = refl

pub payload_back : (kind : TransmitKind) (payload : Payload) → payload_of (type_with kind payload) ≡ payload
payload_back Stream payload = refl
payload_back Future payload = refl

-- a host writer that made no record yet
new_writer : TransmitKind → Payload → List Item → List WriterSaid → Writer
new_writer kind payload holds coming = record { kind = kind; payload = payload; holds = holds; coming = coming; spoken = 0; closed = false; ended = false; heard = None }

held_none : (duty : Duty) → held_while duty [] ≡ []
held_none Ended = refl
held_none _ = refl

same_writer : (duty : Duty) (w : WriterTells) (log : List WriterSaid) → HoldsNone w → bare_writer (writer_of duty w log) ≡ bare_writer (taped_writer (record { ty = type_with w.kind w.payload; said = drop (length w.said) log }))
unfolding new_writer
same_writer duty w log h =
    let rest = drop (length w.said) log in
    ap (λ k. new_writer k w.payload (held_while duty w.holds) rest) (sym (kind_back w.kind w.payload))
    ∙ ap (λ p. new_writer (kind_of (type_with w.kind w.payload)) p (held_while duty w.holds) rest) (sym (payload_back w.kind w.payload))
    ∙ ap (λ xs. new_writer (kind_of (type_with w.kind w.payload)) (payload_of (type_with w.kind w.payload)) xs rest) (ap (held_while duty) h ∙ held_none duty)

same_writers : (ps : List Producer) (ws vs : List WriterTells) → AllBegin (map (λ w. w.said) ws) (map (λ w. w.said) vs) → All HoldsNone ws → map bare_writer (writers_from ps ws (map (λ w. w.said) vs)) ≡ map bare_writer (map taped_writer (zip_with writer_added ws vs))
same_writers ps [] [] b h = refl
same_writers ps [] (v ∷ vs) b h = absurd b
same_writers ps (w ∷ ws) [] b h = absurd b
same_writers ps (w ∷ ws) (v ∷ vs) b h =
    ap (λ x. x ∷ map bare_writer (writers_from (drop 1 ps) ws (map (λ w. w.said) vs))) (same_writer (first_duty ps) w v.said (All-head HoldsNone w ws h))
    ∙ ap (λ xs. bare_writer (taped_writer (writer_added w v)) ∷ xs) (same_writers (drop 1 ps) ws vs b.1 (All-tail HoldsNone w ws h))

new_reader : TransmitKind → Payload → List ReaderSaid → Reader
new_reader kind payload coming = record { kind = kind; payload = payload; holds = None; coming = coming; spoken = 0; closed = false; heard = None }

same_reader : (w : ReaderTells) (log : List ReaderSaid) → bare_reader (reader_of w log) ≡ bare_reader (taped_reader (record { ty = type_with w.kind w.payload; said = drop (length w.said) log }))
unfolding new_reader
same_reader w log =
    ap (λ k. new_reader k w.payload (drop (length w.said) log)) (sym (kind_back w.kind w.payload))
    ∙ ap (λ p. new_reader (kind_of (type_with w.kind w.payload)) p (drop (length w.said) log)) (sym (payload_back w.kind w.payload))

same_readers : (ws vs : List ReaderTells) → AllBegin (map (λ w. w.said) ws) (map (λ w. w.said) vs) → map bare_reader (readers_from ws (map (λ w. w.said) vs)) ≡ map bare_reader (map taped_reader (zip_with reader_added ws vs))
same_readers [] [] b = refl
same_readers [] (v ∷ vs) b = absurd b
same_readers (w ∷ ws) [] b = absurd b
same_readers (w ∷ ws) (v ∷ vs) b =
    ap (λ x. x ∷ map bare_reader (readers_from ws (map (λ w. w.said) vs))) (same_reader w v.said)
    ∙ ap (λ xs. bare_reader (taped_reader (reader_added w v)) ∷ xs) (same_readers ws vs b.1)

-- a run tells its host ends and those of its tape not apart
alike_tape : (steps : List Step) (old new : Tells) → NoneHolds old → HostsGoOn old new → AreAlike (start_among old new) (taped_world (tape_of_run steps old new))
alike_tape steps old new held h = record {
  state = refl;
  writers = same_writers run_start.producers old.writers new.writers h.begins.0 held;
  readers = same_readers old.readers new.readers h.begins.1;
}

-- HOW RUNS COME OUT

-- runs from worlds that are alike come out alike
abbrev pub AllAlike : Type 0
AllAlike = (a b : World) (steps : List Step) → AreAlike a b → ComeOutAlike (host_play [] a steps) (host_play [] b steps)

-- what is alike a run that ends, ends so too
record EndsToo (told : List Reply) (a : World) (p : HostPlayed) : Type 0 where
  end : World
  ends : p ≡ Ends told end
  state : a.state ≡ end.state

ends_too : (told : List Reply) (a : World) (p : HostPlayed) → ComeOutAlike (Ends told a) p → EndsToo told a p
ends_too told a (Ends told' b) h = record { end = b; ends = ap (λ t. Ends t b) (sym h.0); state = h.1.state }
ends_too told a (Halts told' stop ws rs) h = elim h [ ]
ends_too told a (Hangs told') h = elim h [ ]

-- and what is alike one that halts
record HaltsToo (told : List Reply) (stop : Stop) (p : HostPlayed) : Type 0 where
  writers : List Writer
  readers : List Reader
  halts : p ≡ Halts told stop writers readers

halts_too : (told : List Reply) (stop : Stop) (ws : List Writer) (rs : List Reader) (p : HostPlayed) → ComeOutAlike (Halts told stop ws rs) p → HaltsToo told stop p
halts_too told stop ws rs (Halts told' stop' us ts) h = record {
  writers = us;
  readers = ts;
  halts = ap (λ t. Halts t stop' us ts) (sym h.0) ∙ ap (λ s. Halts told s us ts) (sym h.1);
}
halts_too told stop ws rs (Ends told' b) h = elim h [ ]
halts_too told stop ws rs (Hangs told') h = elim h [ ]

-- the stop of a cause that is not running out of memory
pub stop_found : (cause : RunCause) → cause ≢ causes.OutOfMemory → (why : Stop) × (stop_of cause ≡ Some why)
stop_found (causes.HostFailed end) n = (_, refl)
stop_found (causes.HostBroke end) n = (_, refl)
stop_found (causes.BadItem s) n = (_, refl)
stop_found causes.OutOfMemory n = absurd (n refl)

-- a run that found memory is the machine's play of its tape
pub run_plays : AllAlike → (steps : List Step) (old new : Tells) (end : Result Transcript RunStop) → NoneHolds old → IsRunOfSteps old new steps end → FoundMemory end → IsPlayOf (tape_of_run steps old new) end
run_plays alike steps old new (Ok t) held r m =
    let tape = tape_of_run steps old new in
    let out = subst (λ (p : HostPlayed). ComeOutAlike p (host_play [] (taped_world tape) steps)) r.ok.played (alike (start_among old new) (taped_world tape) steps (alike_tape steps old new held r.goes_on)) in
    let ends = ends_too t.replies (world_spent t.store new) (host_play [] (taped_world tape) steps) out in
    record { end = ends.end; plays = ends.ends; state = ends.state; counts = r.received ∙ ap received_counts ends.state }
run_plays alike steps old new (Err s) held r m =
    let tape = tape_of_run steps old new in
    let why = stop_found s.cause m in
    let halts = subst (λ (o : Option Stop). HaltsBy (start_among old new) steps s.replies new o) why.1 r.stop.stops.halts in
    let there = world_spent (halted_in (start_among old new) steps) new in
    let out = subst (λ (p : HostPlayed). ComeOutAlike p (host_play [] (taped_world tape) steps)) halts (alike (start_among old new) (taped_world tape) steps (alike_tape steps old new held r.goes_on)) in
    let too = halts_too s.replies why.0 there.writers there.readers (host_play [] (taped_world tape) steps) out in
    record { why = why.0; writers = too.writers; readers = too.readers; plays = too.halts; cause = why.1; at = r.at }

-- WHERE THEY DIFFER

-- what holds of a difference that is told
abbrev IfDiffers : {T : Type 0} → (Bool → ℕ → ℕ → Type 0) → Result T TapeError → Type 0
IfDiffers P (Err (Differs reader end at)) = P reader end at
IfDiffers P _ = Unit {0}

-- it holds of one that is the same
pub told_difference : {T : Type 0} (P : Bool → ℕ → ℕ → Type 0) (r : Bool) (n k : ℕ) (r' : Bool) (n' k' : ℕ) → ◌≡◌ {A = Result T TapeError} (Err (Differs r n k)) (Err (Differs r' n' k')) → P r n k → P r' n' k'
told_difference P r n k r' n' k' e h = subst (IfDiffers P) e h
