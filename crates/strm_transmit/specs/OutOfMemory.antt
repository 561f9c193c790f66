-- What host ends tell where memory had run out in a step that may poll them: what they would tell had the one that
-- was polled failed in that poll, but for its record of it; or, before items that a host writer holds are offered
-- along a pipe, what they tell then. Ours.
use Rattle.std.specs.Prelude.{◌≡◌, ◌≢◌, ℕ, false, [], ◌∷◌, ◌++◌, Some, Ok, Err}
use Rattle.strm_buffers.specs.declared.answers.Answer.TheVariants.{Failed}
use Rattle.strm_buffers.specs.declared.answers.ReaderSaid.{ReaderSaid}
use Rattle.strm_buffers.specs.Said.{WriterSaid}
use Rattle.strm_codes.specs.Counters.{one_more}
use Rattle.strm_buffers.specs.Tells.{WriterTells, ReaderTells, Tells, told_by, with_told, told_by_reader, with_told_reader}
use Rattle.strm_machine.specs.State.{State, stream_at}
use Rattle.strm_machine.specs.declared.acts.Act.{Act}
use Rattle.strm_machine.specs.declared.acts.Act.TheVariants.{Drive}
use Rattle.strm_machine.specs.declared.replies.Reply.TheVariants as replies
use Rattle.strm_machine.specs.declared.stops.Stop.TheVariants.{HostFailed}
use Rattle.strm_machine.specs.declared.streams.HostEnd.{HostEnd}
use Rattle.strm_machine.specs.declared.streams.HostEnd.TheVariants as ends
use Rattle.strm_machine.specs.declared.streams.Owner.TheVariants.{Host}
use Rattle.strm_host_machine.specs.World.{World}
use Rattle.strm_host_machine.specs.Outcomes.{Outcome, then_on}
use Rattle.strm_host_machine.specs.Piping.{fetches}
use Rattle.strm_host_machine.specs.Driving.{drive_turn, driven, numbers_from, round_of}
use Rattle.strm_host_machine.specs.Steps.{outcome}
use Rattle.strm_host_machine.specs.Does.{Does}
use Rattle.strm_transmit.specs.declared.errors.StoreError.{StoreError}
use Rattle.strm_transmit.specs.declared.errors.StoreError.TheVariants.{OutOfMemory}

-- A RECORD THAT WAS NOT MADE

-- a poll in which a host writer failed, and produced nothing
pub record ProducesNone (said : WriterSaid) : Type 0 where
  pub failed : said.answer ≡ Failed
  pub none : said.items ≡ []

-- a poll in which a host reader failed, and took nothing
pub record TakesNone (said : ReaderSaid) : Type 0 where
  pub failed : said.answer ≡ Failed
  pub none : said.taken ≡ 0
  pub good : said.bad ≡ false

-- a host writer with this record more
abbrev pub writer_failed : WriterTells → WriterSaid → WriterTells
writer_failed tells said = record tells { said = tells.said ++ said ∷ []; faults = one_more tells.faults }

-- a host reader with this record more
abbrev pub reader_failed : ReaderTells → ReaderSaid → ReaderTells
reader_failed tells said = record tells { said = tells.said ++ said ∷ []; faults = one_more tells.faults }

-- all host ends tell the same, but that this one had one poll more, in which it failed, with no items
abbrev pub FailsOnce : HostEnd → Tells → Tells → Type 0
FailsOnce (ends.Writer n) told more =
    (said : WriterSaid) × ProducesNone said × (more ≡ with_told told n (writer_failed (told_by told n) said))
FailsOnce (ends.Reader r) told more =
    (said : ReaderSaid) × TakesNone said × (more ≡ with_told_reader told r (reader_failed (told_by_reader told r) said))

-- a poll found no memory: had the host end failed in it, the machine would stop there, and host ends would tell
-- what they tell, with that record more
pub record RunsOutInPoll (old : State) (tells told : Tells) (machine : World → Outcome) : Type 0 where
  pub end : HostEnd
  pub more : Tells
  pub fails : FailsOnce end told more
  pub state : State
  pub does : Does old state tells more (Err (Some (HostFailed end))) machine

-- the same of this part of a step
abbrev pub OfPoll : (World → Outcome) → State → Tells → Tells → Type 0
OfPoll part old tells told = RunsOutInPoll old tells told part

-- ALONG A PIPE

-- host writer n holds items itself, which are to be offered to host reader r along stream s
pub record HoldsBefore (s n r : ℕ) (state : State) (told : Tells) : Type 0 where
  pub writer : (stream_at state s).writer.owner ≡ Host n
  pub reader : (stream_at state s).reader.owner ≡ Host r
  pub held : (told_by told n).holds ≢ []

-- memory had run out before they were offered: host ends tell what they tell behind this part of what the machine
-- does
pub record RunsOutBefore (s n r : ℕ) (old : State) (tells told : Tells) (part : World → Outcome) : Type 0 where
  pub state : State
  pub does : Does old state tells told (Ok replies.Done) part
  pub holds : HoldsBefore s n r state told

-- in a poll of what the machine does in all, or behind a part of it, before an offer along stream s
pub data RunsOutAt (s n r : ℕ) (old : State) (tells told : Tells) (whole part : World → Outcome) : Type 0 where
  InPoll : RunsOutInPoll old tells told whole → RunsOutAt s n r old tells told whole part
  BeforeOffer : RunsOutBefore s n r old tells told part → RunsOutAt s n r old tells told whole part

-- in the offer along stream s, before which nothing was done
pub data RunsOutInOffer (n : ℕ) (old : State) (tells told : Tells) (offer : World → Outcome) : Type 0 where
  Polled : RunsOutInPoll old tells told offer → RunsOutInOffer n old tells told offer
  Unpolled : told ≡ tells → (told_by told n).holds ≢ [] → RunsOutInOffer n old tells told offer

-- the same of this part of a step
abbrev pub OfOffer : ℕ → (World → Outcome) → State → Tells → Tells → Type 0
OfOffer n part old tells told = RunsOutInOffer n old tells told part

-- in the round of the pipe of stream s, from host writer n to host reader r
abbrev pub OfRound : ℕ → ℕ → ℕ → (World → Outcome) → State → Tells → Tells → Type 0
OfRound s n r part old tells told = RunsOutAt s n r old tells told part (λ w. fetches w s n r)

-- in the turn of stream s
abbrev pub RunsOutInTurn : ℕ → State → Tells → Tells → Type 0
RunsOutInTurn s old tells told =
    (n : ℕ) × (r : ℕ) × RunsOutAt s n r old tells told (λ w. drive_turn w s) (λ w. fetches w s n r)

-- the same of this part of a step
abbrev pub OfTurn : ℕ → (World → Outcome) → State → Tells → Tells → Type 0
OfTurn s part old tells told = RunsOutInTurn s old tells told

-- a drive round up to an offer along stream s: the turns of the streams before it, and its own fetch
abbrev pub up_to_offer : ℕ → ℕ → ℕ → World → Outcome
up_to_offer s n r world = then_on (driven world (numbers_from 0 s)) (λ w. fetches w s n r)

-- in a drive round
abbrev pub RunsOutInDrive : State → Tells → Tells → Type 0
RunsOutInDrive old tells told =
    (s : ℕ) × (n : ℕ) × (r : ℕ) × RunsOutAt s n r old tells told (λ w. driven w (round_of w)) (up_to_offer s n r)

-- the same of this part of a step
abbrev pub OfDrive : (World → Outcome) → State → Tells → Tells → Type 0
OfDrive part old tells told = RunsOutInDrive old tells told

-- IN A STEP

-- in a poll of the step, or in a drive round before an offer along a pipe
pub data RunsOutIn (old : State) (tells told : Tells) (act : Act) : Type 0 where
  InAPoll : RunsOutInPoll old tells told (λ w. outcome w act) → RunsOutIn old tells told act
  InADrive : (s n r : ℕ) → act ≡ Drive → RunsOutBefore s n r old tells told (up_to_offer s n r) → RunsOutIn old tells told act

-- where an error is running out of memory, this holds
abbrev pub IfOutOfMemory : StoreError → Type 0 → Type 0
IfOutOfMemory OutOfMemory P = P
IfOutOfMemory _ P = Unit {0}
