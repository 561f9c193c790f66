-- What a buffer that is lent without its item's type lends on. Ours.
use mir.Syntax.{named}
use Rattle.std.specs.Prelude.{Result, []}
use Rattle.std.specs.Borrow.{LendsIfOk, MutBor, Fml, RattleType}
use Rattle.strm_buffers.specs.declared.values.TypeMismatch.{TypeMismatch}
use Rattle.strm_buffers.specs.declared.values.UntypedWriteBuffer.{UntypedWriteBuffer}
use Rattle.strm_buffers.specs.contracts.values.UntypedWriteBuffer.{the_row}

module _ (B : RattleType) where
  -- the same buffer, left with this value
  abbrev pub with_buffer : UntypedWriteBuffer B.Denot → B.Denot → UntypedWriteBuffer B.Denot
  with_buffer untyped w = record untyped { buffer = record untyped.buffer { now = w } }

  -- the buffer that was given ends as what was last written behind r; where there is none, as it was
  abbrev pub LendsBuffer : MutBor (UntypedWriteBuffer B.Denot) → Result (MutBor B.Denot) TypeMismatch → Fml
  LendsBuffer untyped r = LendsIfOk (the_row (record { mir = named 0; lft = [] }) B) B untyped r (with_buffer untyped.now) untyped.now
