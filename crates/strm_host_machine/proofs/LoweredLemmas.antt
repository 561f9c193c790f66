-- What the turn of a host writer leaves: the lengths of all memories, and its read in one of them.
use Rattle.std.proofs.Common.{ℕ, ◌≤◌, List, length, Option, Some, None}
use Rattle.strm_codes.specs.Layout.{item_type}
use Rattle.strm_codes.specs.declared.codes.StreamResult.{StreamResult}
use Rattle.strm_codes.specs.declared.payloads.Payload.{Payload}
use Rattle.strm_buffers.specs.Listing.{Item}
use Rattle.strm_machine.specs.Soundness.{sizes_of, IsPlaced}
use Rattle.strm_machine.specs.State.{Guest, memory_in}
use Rattle.strm_machine.specs.declared.streams.Operation.{Operation}
use Rattle.strm_machine.proofs.BoundLemmas.{length-stored_front}
use Rattle.strm_machine.proofs.SideLemmas.{IsPlaced-advanced}
use Rattle.strm_machine.proofs.TurnLemmas.{GuestsKeep, with_memory-keeps, size_in}
use Rattle.strm_host_machine.specs.WriterTurn.{lowered_items}
use Rattle.strm_host_machine.specs.Settling.{went, operation_settled}

pub lowered_items-keeps : (guests : List Guest) (payload : Payload) (read : Operation) (items : List Item) → IsPlaced (sizes_of guests) payload read → length items ≤ read.left → GuestsKeep guests (lowered_items guests payload read items)
lowered_items-keeps guests payload read items p l =
    let inside = p.inside in
    with_memory-keeps guests read.guest _
    (length-stored_front (item_type payload) (memory_in guests read.guest) read.address read.left items l (rw (size_in guests read.guest) at inside))

pub went-placed : (sizes : List ℕ) (payload : Payload) (read : Operation) (n : ℕ) → n ≤ read.left → IsPlaced sizes payload read → IsPlaced sizes payload (went payload read n)
went-placed sizes payload read n l p =
    let q = IsPlaced-advanced sizes payload read n l p in
    record { there = q.there; inside = q.inside; counted = q.counted }

pub operation_settled-placed : (sizes : List ℕ) (payload : Payload) (operation : Operation) (result : Option StreamResult) → IsPlaced sizes payload operation → IsPlaced sizes payload (operation_settled result operation)
operation_settled-placed sizes payload operation None p = p
operation_settled-placed sizes payload operation (Some result) p = record { there = p.there; inside = p.inside; counted = p.counted }
