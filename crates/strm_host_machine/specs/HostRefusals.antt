-- Why a step is refused where host ends are there: the first whose condition holds. Ours: the order.
use Rattle.std.specs.Prelude.{ℕ, Bool, true, false, ◌||◌, List, [], ◌∷◌, length, nat_le, Option}
use Rattle.strm_codes.specs.declared.codes.TransmitIndex.{TransmitIndex}
use Rattle.strm_codes.specs.declared.refusals.Refusal.{Refusal}
use Rattle.strm_codes.specs.declared.refusals.Refusal.TheVariants as refusals
use Rattle.strm_machine.specs.State.{host_limit, producer_at, consumer_at}
use Rattle.strm_machine.specs.Tests.{are_places_full, are_streams_full}
use Rattle.strm_machine.specs.Refusals.{Reason, where_, first_of, reader_reasons, reasons}
use Rattle.strm_machine.specs.Soundness.{type_with}
use Rattle.strm_machine.specs.declared.streams.Duty.{Duty}
use Rattle.strm_machine.specs.declared.streams.Duty.TheVariants.{Unused}
use Rattle.strm_machine.specs.declared.acts.HostAct.{HostAct}
use Rattle.strm_machine.specs.declared.acts.HostAct.TheVariants.{New, Feed, Pipe, Grant}
use Rattle.strm_machine.specs.declared.acts.Act.{Act}
use Rattle.strm_machine.specs.declared.acts.Act.TheVariants.{OnHost}
use Rattle.strm_host_machine.specs.World.{World, reader_at}

-- a number is none of so many host ends; numbers at the limit and past it are none
abbrev pub is_unknown_host : ℕ → ℕ → Bool
is_unknown_host count n = nat_le count n || nat_le host_limit n

-- a host end is an end of a stream, or was one
abbrev pub is_used : Duty → Bool
is_used Unused = false
is_used _ = true

-- the type of the streams that host reader r reads
abbrev pub type_for_reader : World → ℕ → TransmitIndex
type_for_reader world r = type_with (reader_at world r).kind (reader_at world r).payload

-- what is done to host end n
abbrev pub on_host_reasons : World → ℕ → HostAct → List Reason
on_host_reasons world n New =
    where_ (is_unknown_host (length world.writers) n) refusals.UnknownHost
    ∷ where_ (is_used (producer_at world.state n).duty) refusals.HostUsed
    ∷ where_ (are_places_full world.state 3 || are_streams_full world.state) refusals.Full
    ∷ []
on_host_reasons world n (Feed bytes) =
    where_ (is_unknown_host (length world.writers) n) refusals.UnknownHost ∷ []
on_host_reasons world r (Pipe reader) =
    where_ (is_unknown_host (length world.readers) r) refusals.UnknownHost
    ∷ where_ (is_used (consumer_at world.state r).duty) refusals.HostUsed
    ∷ reader_reasons world.state reader (type_for_reader world r)
on_host_reasons world r (Grant count) =
    where_ (is_unknown_host (length world.readers) r) refusals.UnknownHost ∷ []

-- the reasons of what a step does, in their order: where it names no host end they are its own
abbrev pub reasons_in : World → Act → List Reason
reasons_in world (OnHost n act) = on_host_reasons world n act
reasons_in world act = reasons world.state act

-- why it is refused, if it is
unfoldable pub refusal_in : World → Act → Option Refusal
refusal_in world act = first_of (reasons_in world act)
