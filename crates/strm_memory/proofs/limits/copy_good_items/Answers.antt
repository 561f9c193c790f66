use Rattle.std.proofs.Common.{◌≡◌, ◌≤◌, ◌*◌, arith, ◌∙◌, length, take, drop, length-drop, ap, ◌++◌}
use Rattle.strm_codes.specs.Fields.{fields_size}
use Rattle.strm_memory.specs.Copies.{item_limits}
use Rattle.strm_memory.specs.Bytes.{IsBytes}
use Rattle.strm_memory.proofs.ByteLemmas.{IsBytes-drop}
use Rattle.strm_memory.proofs.LimitLemmas.{items_blended, item_written}
use Rattle.strm_memory.proofs.limits.copy_good_items.Goals as goal

pub returns : goal.returns
returns c =
    let ss = c.args.fields.now in
    let source = drop c.args.from c.args.source.now in
    let bytes = drop c.args.to c.args.destination.now in
    let item : take c.args.size c.repeat_item.new.limits ≡ item_limits ss = c.repeat_item.ensures.item ∙ item_written ss c.limit_fields.new.limits c.args.size 176 c.requires.size (omega (arith, c.requires.most)) c.limit_fields.ensures in
    let are_bytes : IsBytes c.args.source.now = λ k. omega (arith, c.type_inv.source k) in
    let a : fields_size ss * c.args.count ≤ length source = rw (← c.requires.size) (omega (arith, c.requires.source_holds, length-drop c.args.from c.args.source.now)) in
    let b : fields_size ss * c.args.count ≤ length bytes = rw (← c.requires.size) (omega (arith, c.requires.destination_holds, length-drop c.args.to c.args.destination.now)) in
    rw item at c.blend_items.ensures
    ∙ ap (λ t. take c.args.to c.args.destination.now ++ t) (items_blended ss c.args.count source bytes (IsBytes-drop c.args.source.now c.args.from are_bytes) a b)
