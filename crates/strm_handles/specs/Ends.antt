-- The ends of streams and futures in a table: new ones, their state, and what their removal answers.
-- wasmtime, `handle_table.rs`, the calls of these names.
use Rattle.std.specs.Prelude.{ℕ, Bool, true, false, Result, Ok, Err}
use Rattle.strm_handles.specs.Words.{Payload, TransmitEnd, TransmitLocalState, HandleError}
use Rattle.strm_handles.specs.declared.entries.TransmitLocalState.TheVariants as state
use Rattle.strm_handles.specs.declared.errors.HandleError.TheVariants.{WrongEnd, Busy}
use Rattle.strm_handles.specs.Handles.{Handles}
use Rattle.strm_handles.specs.Lookups.{◌>>=◌, stream_end_of, future_end_of}

-- a new read end
abbrev pub read_end : Payload → ℕ → TransmitEnd
read_end ty rep = record { rep = rep; ty = ty; state = state.Read false }

-- a new write end
abbrev pub write_end : Payload → ℕ → TransmitEnd
write_end ty rep = record { rep = rep; ty = ty; state = state.Write false }

-- it is the read end
abbrev pub is_reading : TransmitLocalState → Bool
is_reading (state.Write done) = false
is_reading (state.Read done) = true
is_reading (state.Busy reading) = reading

-- whether an idle read end is done; a busy write end is the other end, and not busy
abbrev pub readable : TransmitLocalState → Result Bool HandleError
readable (state.Read done) = Ok done
readable (state.Write done) = Err WrongEnd
readable (state.Busy true) = Err Busy
readable (state.Busy false) = Err WrongEnd

-- whether an idle write end is done; a busy read end is the other end, and not busy
abbrev pub writable : TransmitLocalState → Result Bool HandleError
writable (state.Write done) = Ok done
writable (state.Read done) = Err WrongEnd
writable (state.Busy true) = Err WrongEnd
writable (state.Busy false) = Err Busy

-- that something was found, and no more
abbrev pub without_value : {A : Type 0} → Result A HandleError → Result (Unit {0}) HandleError
without_value (Ok x) = Ok tt
without_value (Err e) = Err e

-- what the removal of a stream's read end answers: the stream's number, and whether it is done
abbrev pub stream_readable_of : Handles → Payload → ℕ → Result (ℕ × Bool) HandleError
stream_readable_of h ty idx = do
  end ← stream_end_of h ty idx
  done ← readable end.state
  Ok (end.rep, done)

-- what the removal of a stream's write end answers: the stream's number
abbrev pub stream_writable_of : Handles → Payload → ℕ → Result ℕ HandleError
stream_writable_of h ty idx = do
  end ← stream_end_of h ty idx
  done ← writable end.state
  Ok end.rep

-- what the removal of a future's read end answers: the future's number, and whether it is done
abbrev pub future_readable_of : Handles → Payload → ℕ → Result (ℕ × Bool) HandleError
future_readable_of h ty idx = do
  end ← future_end_of h ty idx
  done ← readable end.state
  Ok (end.rep, done)

-- what the removal of a future's write end answers: the future's number, and whether it is done
abbrev pub future_writable_of : Handles → Payload → ℕ → Result (ℕ × Bool) HandleError
future_writable_of h ty idx = do
  end ← future_end_of h ty idx
  done ← writable end.state
  Ok (end.rep, done)
