-- A worked run in which a number is given again, computed: of the stream that has it at the end its events since
-- it was made, the codes that were answered, and the codes of these events.
use Rattle.std.proofs.Common.{◌≡◌, ℕ, List, [], ◌∷◌, map, Option, Some, refl}
use Rattle.strm_codes.specs.declared.codes.ReturnCode.{ReturnCode}
use Rattle.strm_codes.specs.declared.codes.ReturnCode.TheVariants as codes
use Rattle.strm_codes.specs.declared.codes.TransmitIndex.{TransmitIndex}
use Rattle.strm_codes.specs.declared.codes.TransmitIndex.TheVariants as index
use Rattle.strm_codes.specs.declared.payloads.Payload.TheVariants.{One}
use Rattle.strm_codes.specs.declared.scalars.Scalar.TheVariants.{U8}
use Rattle.strm_memory.specs.Items.{items, stored}
use Rattle.strm_memory.specs.Loads.{decode, encode}
use Rattle.strm_machine.specs.State.{stream_at}
use Rattle.strm_machine.specs.Operating.{operate}
use Rattle.strm_machine.specs.Endings.{delivered, dropped, cancelled}
use Rattle.strm_machine.specs.Moments.{decoded}
use Rattle.strm_machine.specs.Refusals.{refusal}
use Rattle.strm_machine.specs.Reactions.{performs}
use Rattle.strm_machine.specs.declared.limits.Limits.{Limits}
use Rattle.strm_machine.specs.declared.steps.Step.{Step}
use Rattle.strm_machine.specs.declared.steps.Step.TheVariants as steps
use Rattle.strm_machine.specs.declared.streams.Side.TheVariants.{Writing, Reading}
use Rattle.strm_host_machine.specs.Courses.{StreamEvent, Calls, Hears, course_by, codes_of}
use Rattle.strm_host_laws.specs.HostMoments.{HostMoment}
use Rattle.strm_host_laws.specs.StreamEvents.{events, codes_answered}
use Rattle.strm_places.specs.Again.{put, with_pair_at, performs_at, reaction_at}
use Rattle.strm_place_laws.specs.Isolation.{among_guests}
use Rattle.strm_place_laws.specs.Lives.{life, run_of, end_of_run}
use Rattle.strm_place_laws.specs.Runs.{Choice}

abbrev bytes : TransmitIndex
bytes = index.Stream (One U8)

abbrev one_byte : TransmitIndex
one_byte = index.Future (One U8)

abbrev few : Limits
few = record { handles = 32; places = 32 }

-- a step that makes no stream, and one that makes it in this place
abbrev then_ : Step → Choice
then_ step = record { step = step; place = 0 }

abbrev make : TransmitIndex → ℕ → Choice
make ty place = record { step = steps.Between 0 1 ty; place = place }

-- stream 0 is a stream with a write that is given up, and later, while stream 1 is used, a future
abbrev run : List Choice
run =
    then_ (steps.Guest 16)
    ∷ then_ (steps.Guest 16)
    ∷ make bytes 0
    ∷ then_ (steps.Write 0 bytes 1 0 5)
    ∷ then_ (steps.DropRead 1 bytes 1)
    ∷ then_ (steps.Event 0 1)
    ∷ then_ (steps.DropWrite 0 bytes 1)
    ∷ make bytes 1
    ∷ make one_byte 0
    ∷ then_ (steps.Write 0 bytes 1 0 3)
    ∷ then_ (steps.Read 1 one_byte 2 4 1)
    ∷ then_ (steps.Read 1 one_byte 2 4 1)
    ∷ then_ (steps.Read 1 bytes 1 8 2)
    ∷ then_ (steps.Write 0 one_byte 2 8 1)
    ∷ then_ (steps.DropRead 1 bytes 1)
    ∷ then_ (steps.Event 1 2)
    ∷ []

abbrev lived : List HostMoment
lived = map among_guests (life 0 (run_of 0 few run))

record Row : Type 0 where
  happens : List StreamEvent
  answers : List (Option ReturnCode)
  codes_alone : List (Option ReturnCode)

-- what the future's ends were told
abbrev told : List (Option ReturnCode)
told = Some codes.Blocked ∷ Some (codes.Completed 0) ∷ Some (codes.Completed 0) ∷ []

abbrev found : Row
found = record {
  happens = events 0 lived;
  answers = codes_answered 0 lived;
  codes_alone = codes_of (stream_at (end_of_run 0 few run) 0).kind (events 0 lived);
}

abbrev expected : Row
expected = record {
  happens = Calls Reading 1 [] ∷ Calls Writing 1 [] ∷ Hears Reading ∷ [];
  answers = told;
  codes_alone = told;
}

given_again : found ≡ expected
unfolding course_by reaction_at performs_at with_pair_at put refusal performs operate delivered dropped cancelled decode encode items stored decoded
given_again = refl
