-- The host ends of the program, in the order of their numbers, by what each tells before it is used. Ours.
use Rattle.std.specs.Prelude.{ℕ, List, [], ◌∷◌}
use Rattle.strm_codes.specs.declared.codes.TransmitKind.TheVariants.{Stream, Future}
use Rattle.strm_codes.specs.declared.payloads.Payload.TheVariants.{Nothing, One, Tuple}
use Rattle.strm_codes.specs.declared.scalars.Scalar.TheVariants.{U8, U32, Char}
use Rattle.strm_buffers.specs.Tells.{WriterTells, ReaderTells, Tells}
use Rattle.strm_program_ends.specs.Credits.{ungranted}
use Rattle.strm_program_ends.specs.QueueTells.{unfed_writer}
use Rattle.strm_host.specs.Erasing.{unpolled}

-- what each of two streams of bytes that are ready holds; a third holds nothing
abbrev pub five : List ℕ
five = 1 ∷ 2 ∷ 3 ∷ 4 ∷ 5 ∷ []

-- what a stream of bytes that is ready tells
abbrev pub ready_writer : WriterTells
ready_writer = unpolled Stream (One U8) 0

-- the writers: five queues, and three streams of bytes that are ready
abbrev pub writers : List WriterTells
writers =
    unfed_writer Stream (One U8)
    ∷ unfed_writer Stream (One U32)
    ∷ unfed_writer Stream Nothing
    ∷ unfed_writer Stream (One Char)
    ∷ unfed_writer Future (One U32)
    ∷ ready_writer
    ∷ ready_writer
    ∷ ready_writer ∷ []

-- the readers, each with a credit
abbrev pub readers : List ReaderTells
readers =
    ungranted Stream (One U8)
    ∷ ungranted Stream (One U32)
    ∷ ungranted Stream Nothing
    ∷ ungranted Stream (One Char)
    ∷ ungranted Future (One U32)
    ∷ ungranted Stream (One U8)
    ∷ ungranted Stream (Tuple (U8 ∷ U32 ∷ []))
    ∷ ungranted Future Nothing ∷ []

-- all of them
abbrev pub host_ends : Tells
host_ends = record { writers = writers; readers = readers }
