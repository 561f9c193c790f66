-- Which record says why a step stopped, and which keep the rules of the host ends of their kind of stream. Ours.
use Rattle.std.specs.Prelude.{◌≡◌, ℕ, true, false, List, [], ◌∷◌, ◌++◌}
use Rattle.strm_codes.specs.declared.codes.TransmitKind.{TransmitKind}
use Rattle.strm_buffers.specs.Tells.{Tells, told_by, told_by_reader}
use Rattle.strm_buffers.specs.Said.{WriterSaid}
use Rattle.strm_buffers.specs.declared.answers.ReaderSaid.{ReaderSaid}
use Rattle.strm_buffers.specs.HostRules.{breaks_as_writer, breaks_as_reader}
use Rattle.strm_machine.specs.declared.stops.Stop.{Stop}
use Rattle.strm_machine.specs.declared.stops.Stop.TheVariants as stops
use Rattle.strm_machine.specs.declared.streams.HostEnd.TheVariants as ends
use Rattle.strm_host_machine.specs.Polls.{is_failed}

-- THE LAST RECORD

-- a record of a host writer says that it failed
abbrev pub SaysFailed : WriterSaid → Type 0
SaysFailed said = is_failed said.answer ≡ true

-- or, without that, breaks the rules of the host writers of this kind of stream
abbrev pub SaysBroken : TransmitKind → WriterSaid → Type 0
SaysBroken kind said = (is_failed said.answer ≡ false) × (breaks_as_writer kind said ≡ true)

-- a record of a host reader says that it failed
abbrev pub ReaderSaysFailed : ReaderSaid → Type 0
ReaderSaysFailed said = is_failed said.answer ≡ true

-- or, without that, breaks the rules of the host readers of this kind of stream
abbrev pub ReaderSaysBroken : TransmitKind → ReaderSaid → Type 0
ReaderSaysBroken kind said = (is_failed said.answer ≡ false) × (breaks_as_reader kind said ≡ true)

-- of what was said behind what had been said before, this holds of the last
abbrev pub SaysLast : {A : Type 0} → (A → Type 0) → List A → List A → Type 0
SaysLast {A} P old new = (more : List A) × (said : A) × (new ≡ old ++ (more ++ said ∷ [])) × P said

-- the host end that failed, or broke the rules of its kind, says so by its last record, which it made since
abbrev pub HaltsByRecord : Tells → Tells → Stop → Type 0
HaltsByRecord old new (stops.HostFailed (ends.Writer n)) = SaysLast SaysFailed (told_by old n).said (told_by new n).said
HaltsByRecord old new (stops.HostFailed (ends.Reader r)) =
    SaysLast ReaderSaysFailed (told_by_reader old r).said (told_by_reader new r).said
HaltsByRecord old new (stops.HostBroke (ends.Writer n)) =
    SaysLast (SaysBroken (told_by new n).kind) (told_by old n).said (told_by new n).said
HaltsByRecord old new (stops.HostBroke (ends.Reader r)) =
    SaysLast (ReaderSaysBroken (told_by_reader new r).kind) (told_by_reader old r).said (told_by_reader new r).said
HaltsByRecord old new (stops.BadItem s) = Unit {0}
HaltsByRecord old new stops.StoreTrapped = Unit {0}

-- THE OTHERS

-- a record of a host writer keeps the rules of the host writers of this kind of stream, and does not say that
-- it failed
abbrev pub KeepsRules : TransmitKind → WriterSaid → Type 0
KeepsRules kind said = (is_failed said.answer ≡ false) × (breaks_as_writer kind said ≡ false)

-- a record of a host reader does, and found no item that is none
abbrev pub ReaderKeepsRules : TransmitKind → ReaderSaid → Type 0
ReaderKeepsRules kind said =
    (is_failed said.answer ≡ false) × (said.bad ≡ false) × (breaks_as_reader kind said ≡ false)

-- a record of host writer n says why the machine stops so
abbrev pub SaysWhy : Stop → ℕ → TransmitKind → WriterSaid → Type 0
SaysWhy (stops.HostFailed (ends.Writer m)) n kind said = (m ≡ n) × SaysFailed said
SaysWhy (stops.HostBroke (ends.Writer m)) n kind said = (m ≡ n) × SaysBroken kind said
SaysWhy _ n kind said = ⊥

-- a record of host reader r does
abbrev pub ReaderSaysWhy : Stop → ℕ → TransmitKind → ReaderSaid → Type 0
ReaderSaysWhy (stops.HostFailed (ends.Reader m)) r kind said = (m ≡ r) × ReaderSaysFailed said
ReaderSaysWhy (stops.HostBroke (ends.Reader m)) r kind said = (m ≡ r) × ReaderSaysBroken kind said
ReaderSaysWhy (stops.BadItem s) r kind said = (is_failed said.answer ≡ false) × (said.bad ≡ true)
ReaderSaysWhy _ r kind said = ⊥
