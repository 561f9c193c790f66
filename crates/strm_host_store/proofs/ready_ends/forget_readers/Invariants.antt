-- Those up to the number are forgotten.
use Rattle.std.proofs.Common.{◌≡◌}
use Rattle.strm_codes.specs.declared.codes.TransmitKind.TheVariants.{Stream}
use Rattle.strm_codes.specs.declared.payloads.Payload.TheVariants.{Nothing}
use Rattle.strm_ready_ends.specs.ReceiveQueues.{reader_forgotten, ungranted}
use Rattle.strm_host_store.proofs.LoopLemmas.{changed_first}
use Rattle.strm_host_store.proofs.ready_ends.forget_readers.Given as goal

abbrev pub invariant-loop-number : goal.invariant-loop-number
invariant-loop-number l = l.readers.items ≡ changed_first reader_forgotten (ungranted Stream Nothing) l.number l.fn.readers.items
