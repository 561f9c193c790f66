-- The kind and the payload of a stream's or future's type.
-- wasmtime, `futures_and_streams.rs`, `TransmitIndex`.
use Rattle.strm_codes.specs.declared.codes.TransmitIndex.{TransmitIndex}
use Rattle.strm_codes.specs.declared.codes.TransmitIndex.TheVariants as index
use Rattle.strm_codes.specs.declared.codes.TransmitKind.{TransmitKind}
use Rattle.strm_codes.specs.declared.codes.TransmitKind.TheVariants.{Stream, Future}
use Rattle.strm_codes.specs.declared.payloads.Payload.{Payload}

-- a stream's type, or a future's
abbrev pub kind_of : TransmitIndex → TransmitKind
kind_of (index.Stream payload) = Stream
kind_of (index.Future payload) = Future

-- what one item of it is
abbrev pub payload_of : TransmitIndex → Payload
payload_of (index.Stream payload) = payload
payload_of (index.Future payload) = payload
