-- Where a call stops since a host end failed or broke its rules, the record that says so is the last that the
-- end made.
use Rattle.std.proofs.Common.{◌≡◌, ℕ, zero, suc, List, [], ◌∷◌, ◌++◌, length, drop, map, get_or, Some, Err, refl, sym, ap, ◌∙◌, subst, arith}
use Rattle.std.proofs.lemmas.List.{drop_all}
use Rattle.strm_buffers.specs.declared.answers.ReaderSaid.{ReaderSaid}
use Rattle.strm_buffers.specs.Said.{WriterSaid}
use Rattle.strm_buffers.specs.Tells.{WriterTells, ReaderTells, Tells, no_tells, no_reader_tells, told_by, told_by_reader}
use Rattle.strm_machine.specs.State.{State, stream_at}
use Rattle.strm_machine.specs.Hosting.{duty_of}
use Rattle.strm_machine.specs.Sides.{end_of}
use Rattle.strm_machine.specs.declared.acts.Act.{Act}
use Rattle.strm_machine.specs.declared.stops.Stop.{Stop}
use Rattle.strm_machine.specs.declared.stops.Stop.TheVariants.{HostFailed, HostBroke, BadItem, StoreTrapped}
use Rattle.strm_machine.specs.declared.streams.Duty.TheVariants.{Serves}
use Rattle.strm_machine.specs.declared.streams.HostEnd.TheVariants as ends
use Rattle.strm_machine.specs.declared.streams.Owner.TheVariants.{Host}
use Rattle.strm_machine.specs.declared.streams.Producer.{Producer}
use Rattle.strm_machine.specs.declared.streams.Side.{Side}
use Rattle.strm_machine.specs.declared.streams.Side.TheVariants.{Writing, Reading}
use Rattle.strm_host_machine.specs.World.{World}
use Rattle.strm_host_machine.specs.Ends.{no_writer, no_reader}
use Rattle.strm_host_machine.specs.Steps.{outcome}
use Rattle.strm_host_machine.specs.Does.{AllBegin, Extends, saids, writers_from, readers_from, world_of, world_spent, Logs, Fits, Does}
use Rattle.strm_host_machine.specs.LastRecord.{SaysFailed, SaysBroken, ReaderSaysFailed, ReaderSaysBroken, SaysLast, HaltsByRecord}
use Rattle.strm_host_machine.proofs.DoesLemmas.{extends_self}
use Rattle.strm_host_machine.proofs.LaterLemmas.{Behind_one, EndsFit}
use Rattle.strm_host_machine.proofs.StepRecordLemmas.{NamedBy, Halts, act-halts}

-- WHAT HOST ENDS TELL

-- what is to come of a host writer is what it says behind what it said
pub writer-coming : (ps : List Producer) (ws vs : List WriterTells) (n : ℕ) → AllBegin (map (λ w. w.said) ws) (map (λ w. w.said) vs) → (get_or vs n no_tells).said ≡ (get_or ws n no_tells).said ++ (get_or (writers_from ps ws (map (λ w. w.said) vs)) n no_writer).coming
writer-coming ps [] [] n b = refl
writer-coming ps [] (v ∷ vs) n b = absurd b
writer-coming ps (w ∷ ws) [] n b = absurd b
writer-coming ps (w ∷ ws) (v ∷ vs) zero b = b.0
writer-coming ps (w ∷ ws) (v ∷ vs) (suc n) b = writer-coming (drop 1 ps) ws vs n b.1

pub writer-spent : (ps : List Producer) (vs : List WriterTells) (n : ℕ) → (get_or (writers_from ps vs (map (λ w. w.said) vs)) n no_writer).coming ≡ []
writer-spent ps [] n = refl
writer-spent ps (v ∷ vs) zero = drop_all (length v.said) v.said (omega arith)
writer-spent ps (v ∷ vs) (suc n) = writer-spent (drop 1 ps) vs n

pub writer-kind : (ps : List Producer) (vs : List WriterTells) (logs : List (List WriterSaid)) (n : ℕ) → (get_or (writers_from ps vs logs) n no_writer).kind ≡ (get_or vs n no_tells).kind
writer-kind ps [] logs n = refl
writer-kind ps (v ∷ vs) logs zero = refl
writer-kind ps (v ∷ vs) logs (suc n) = writer-kind (drop 1 ps) vs (drop 1 logs) n

-- the same of a host reader
pub reader-coming : (ws vs : List ReaderTells) (n : ℕ) → AllBegin (map (λ w. w.said) ws) (map (λ w. w.said) vs) → (get_or vs n no_reader_tells).said ≡ (get_or ws n no_reader_tells).said ++ (get_or (readers_from ws (map (λ w. w.said) vs)) n no_reader).coming
reader-coming [] [] n b = refl
reader-coming [] (v ∷ vs) n b = absurd b
reader-coming (w ∷ ws) [] n b = absurd b
reader-coming (w ∷ ws) (v ∷ vs) zero b = b.0
reader-coming (w ∷ ws) (v ∷ vs) (suc n) b = reader-coming ws vs n b.1

pub reader-spent : (vs : List ReaderTells) (n : ℕ) → (get_or (readers_from vs (map (λ w. w.said) vs)) n no_reader).coming ≡ []
reader-spent [] n = refl
reader-spent (v ∷ vs) zero = drop_all (length v.said) v.said (omega arith)
reader-spent (v ∷ vs) (suc n) = reader-spent vs n

pub reader-kind : (vs : List ReaderTells) (logs : List (List ReaderSaid)) (n : ℕ) → (get_or (readers_from vs logs) n no_reader).kind ≡ (get_or vs n no_reader_tells).kind
reader-kind [] logs n = refl
reader-kind (v ∷ vs) logs zero = refl
reader-kind (v ∷ vs) logs (suc n) = reader-kind vs (drop 1 logs) n

-- a host end that has an end of a stream serves it
abbrev pub AreServing : State → Type 0
AreServing state = (side : Side) (n s : ℕ) → (end_of side (stream_at state s)).owner ≡ Host n → duty_of side state n ≡ Serves s

-- where host ends and streams agree, those in use are of the kinds of their streams
pub ends_fit : (state : State) (tells : Tells) (logs : Logs) → AreServing state → Fits state tells → EndsFit (world_of state tells logs)
ends_fit state tells logs h fits = record {
  writers = λ n s o. writer-kind state.producers tells.writers logs.writers n ∙ (fits.writers n s (h Writing n s o)).kind;
  readers = λ r s o. reader-kind tells.readers logs.readers r ∙ (fits.readers r s (h Reading r s o)).kind;
}

-- a record of which this holds is the last that was said, behind what had been said
last_said : {A : Type 0} (P : A → Type 0) (old new coming rest : List A) → new ≡ old ++ coming → rest ≡ [] → Behind_one P coming rest → SaysLast P old new
last_said P old new coming rest e r b =
    (b.0, b.1, e ∙ ap (λ xs. old ++ xs) (b.2 ∙ ap (λ ys. b.0 ++ b.1 ∷ ys) r), b.3)

-- a step that stops by this has used all records that are told, and the last of them says why
halted_by : (now new : Tells) (state next : State) (stop : Stop) → Extends now (saids new) → NamedBy (world_of state now (saids new)) stop (world_spent next new).writers (world_spent next new).readers → HaltsByRecord now new stop
halted_by now new state next (HostFailed (ends.Writer n)) b h = last_said SaysFailed _ _ _ _ (writer-coming state.producers now.writers new.writers n b.0) (writer-spent next.producers new.writers n) h
halted_by now new state next (HostFailed (ends.Reader r)) b h = last_said ReaderSaysFailed _ _ _ _ (reader-coming now.readers new.readers r b.1) (reader-spent new.readers r) h
halted_by now new state next (HostBroke (ends.Writer n)) b h =
    subst (λ kind. SaysLast (SaysBroken kind) (told_by now n).said (told_by new n).said) (writer-kind next.producers new.writers (saids new).writers n)
    (last_said (SaysBroken _) _ _ _ _ (writer-coming state.producers now.writers new.writers n b.0) (writer-spent next.producers new.writers n) h)
halted_by now new state next (HostBroke (ends.Reader r)) b h =
    subst (λ kind. SaysLast (ReaderSaysBroken kind) (told_by_reader now r).said (told_by_reader new r).said) (reader-kind new.readers (saids new).readers r)
    (last_said (ReaderSaysBroken _) _ _ _ _ (reader-coming now.readers new.readers r b.1) (reader-spent new.readers r) h)
halted_by now new state next (BadItem s) b h = tt
halted_by now new state next StoreTrapped b h = tt

-- a call that stops
pub halts_by_record : (now new : Tells) (state next : State) (act : Act) (stop : Stop) → AreServing state → Fits state now → Does state next now new (Err (Some stop)) (λ w. outcome w act) → HaltsByRecord now new stop
halts_by_record now new state next act stop h fits d =
    let logs = saids new in
    let e = extends_self new in
    let first = world_of state now logs in
    halted_by now new state next stop (d.begins logs e)
    (subst (Halts first) (d.gives logs e) (act-halts first (ends_fit state now logs h fits) act)).named
