-- The host ends that follow a tape, by what each tells before it is used. Ours.
use Rattle.std.specs.Prelude.{map}
use Rattle.strm_codes.specs.Types.{kind_of, payload_of}
use Rattle.strm_buffers.specs.Tells.{WriterTells, ReaderTells, Tells}
use Rattle.strm_program_ends.specs.Scripts.{unpolled_writer}
use Rattle.strm_program_ends.specs.Takings.{unpolled_discarding}
use Rattle.strm_tape.specs.Spelling.{WriterTape, ReaderTape, TapeOf}

-- a host writer that follows one of a tape
abbrev pub following : WriterTape → WriterTells
following t = unpolled_writer (kind_of t.ty) (payload_of t.ty)

-- and a host reader
abbrev pub following_reader : ReaderTape → ReaderTells
following_reader t = unpolled_discarding (kind_of t.ty) (payload_of t.ty)

-- the host ends that follow a tape, which it is played among
abbrev pub followers : TapeOf → Tells
followers tape = record {
  writers = map following tape.writers;
  readers = map following_reader tape.readers;
}
