-- Those up to the number are forgotten.
use Rattle.std.proofs.Common.{◌≡◌}
use Rattle.strm_codes.specs.declared.codes.TransmitKind.TheVariants.{Stream}
use Rattle.strm_codes.specs.declared.payloads.Payload.TheVariants.{Nothing}
use Rattle.strm_ready_ends.specs.SendQueues.{forgotten, unfed}
use Rattle.strm_host_store.proofs.LoopLemmas.{changed_first}
use Rattle.strm_host_store.proofs.ready_ends.forget_writers.Given as goal

abbrev pub invariant-loop-number : goal.invariant-loop-number
invariant-loop-number l = l.writers.items ≡ changed_first forgotten (unfed Stream Nothing) l.number l.fn.writers.items
