use Rattle.std.proofs.Common.{Some, ap, arith}
use Rattle.strm_codes.specs.Layout.{item_type}
use Rattle.strm_buffers.proofs.ListingLemmas.{lie_none}
use Rattle.strm_program_ends.specs.Takings.{unpolled_reader}
use Rattle.strm_program_ends.proofs.KeepLemmas.{taken_none}
use Rattle.strm_program_ends.proofs.scripted_reader.ScriptedReader.new.Goals as goal

pub invariant_of-result : goal.invariant_of-result
invariant_of-result c = record { taken = λ _. taken_none c.args.payload _ _ c.new.ensures.items c.new-2.ensures.items }

pub returns-clause-tells : goal.returns-clause-tells
returns-clause-tells c =
    let none = (lie_none (item_type c.args.payload) c.new.result.items 0 (omega arith)).is in
    rw c.new-2.ensures.items (ap (λ xs. record (unpolled_reader c.args.kind c.args.payload) { holds = Some xs }) none)
