-- What the records say that host ends add in a run. Ours.
use Rattle.std.specs.Prelude.{◌≡◌, ℕ, ◌≤◌, ◌⊎◌, false, List, [], ◌∷◌, ◌++◌, All, Option, Some, None}
use Rattle.strm_codes.specs.Counters.{Rose}
use Rattle.strm_buffers.specs.Tells.{Tells, told_by, told_by_reader}
use Rattle.strm_buffers.specs.Said.{WriterSaid}
use Rattle.strm_buffers.specs.declared.answers.ReaderSaid.{ReaderSaid}
use Rattle.strm_buffers.specs.HostRules.{breaks_as_writer, breaks_as_reader}
use Rattle.strm_machine.specs.declared.stops.Stop.{Stop}
use Rattle.strm_machine.specs.declared.streams.HostEnd.{HostEnd}
use Rattle.strm_host_machine.specs.LastRecord.{HaltsByRecord, KeepsRules, ReaderKeepsRules, SaysWhy, ReaderSaysWhy}
use Rattle.strm_host_machine.specs.Does.{saids, faults_of, Extends, AreSuppliedSince}

-- THE LAST RECORD

-- where a run stops for a host end, that end says so by its last record; nothing is said for running out of memory
abbrev pub StopsByRecord : Tells → Tells → Option Stop → Type 0
StopsByRecord old new None = Unit {0}
StopsByRecord old new (Some stop) = HaltsByRecord old new stop

-- EACH RECORD

-- the records that were added keep the rules
pub record AddsKept {A : Type 0} (keeps : A → Type 0) (old new : List A) : Type 0 where
  pub added : List A
  pub said : new ≡ old ++ added
  pub kept : All keeps added

-- those before the last do, and the last says why
pub record AddsWhy {A : Type 0} (keeps why : A → Type 0) (old new : List A) : Type 0 where
  pub added : List A
  pub last : A
  pub said : new ≡ old ++ (added ++ last ∷ [])
  pub kept : All keeps added
  pub says : why last

-- the records that were added to host writer n keep the rules of its kind of stream
abbrev pub WriterKeeps : Tells → Tells → ℕ → Type 0
WriterKeeps old new n =
    AddsKept (KeepsRules (told_by old n).kind) (told_by old n).said (told_by new n).said

-- those before the last do, and the last says why the machine stops
abbrev pub WriterTellsWhy : Stop → Tells → Tells → ℕ → Type 0
WriterTellsWhy stop old new n =
    AddsWhy (KeepsRules (told_by old n).kind) (SaysWhy stop n (told_by old n).kind)
    (told_by old n).said (told_by new n).said

-- the same of host reader r
abbrev pub ReaderKeeps : Tells → Tells → ℕ → Type 0
ReaderKeeps old new r =
    AddsKept (ReaderKeepsRules (told_by_reader old r).kind) (told_by_reader old r).said (told_by_reader new r).said

-- and of its last record
abbrev pub ReaderTellsWhy : Stop → Tells → Tells → ℕ → Type 0
ReaderTellsWhy stop old new r =
    AddsWhy (ReaderKeepsRules (told_by_reader old r).kind) (ReaderSaysWhy stop r (told_by_reader old r).kind)
    (told_by_reader old r).said (told_by_reader new r).said

-- each record that was added keeps the rules
pub record RulesKept (old new : Tells) : Type 0 where
  pub writers : (n : ℕ) → WriterKeeps old new n
  pub readers : (r : ℕ) → ReaderKeeps old new r

-- each does, but for the last one of the host end that stopped the run, which says why
pub record RulesKeptBut (stop : Stop) (old new : Tells) : Type 0 where
  pub writers : (n : ℕ) → WriterKeeps old new n ⊎ WriterTellsWhy stop old new n
  pub readers : (r : ℕ) → ReaderKeeps old new r ⊎ ReaderTellsWhy stop old new r

-- the same of a run that stops, which may be out of memory
abbrev pub StopRules : Option Stop → Tells → Tells → Type 0
StopRules None old new = Unit {0}
StopRules (Some stop) old new = RulesKeptBut stop old new

-- a record that was added behind what had been said, and those that were added behind it
abbrev pub IsAdded : {A : Type 0} → List A → List A → A → List A → Type 0
IsAdded {A} old new said more = (front : List A) × (new ≡ old ++ (front ++ said ∷ more))

-- each record that was added obeys the rules of the host ends of its kind of stream
pub record ObeyRules (old new : Tells) : Type 0 where
  pub writers : (n : ℕ) (said : WriterSaid) (more : List WriterSaid) →
      IsAdded (told_by old n).said (told_by new n).said said more →
      breaks_as_writer (told_by new n).kind said ≡ false
  pub readers : (r : ℕ) (said : ReaderSaid) (more : List ReaderSaid) →
      IsAdded (told_by_reader old r).said (told_by_reader new r).said said more →
      breaks_as_reader (told_by_reader new r).kind said ≡ false

-- no host end's count of faults rose
abbrev pub NoneRose : Tells → Tells → Type 0
NoneRose old new = (end : HostEnd) → ¬ Rose (faults_of old end) (faults_of new end)

-- host ends have their records of before, in front of those that were added; no count of their faults fell;
-- and host writers recorded items alone
pub record HostsGoOn (old new : Tells) : Type 0 where
  pub begins : Extends old (saids new)
  pub faults : (end : HostEnd) → faults_of old end ≤ faults_of new end
  pub supplied : AreSuppliedSince old new
