use Rattle.std.proofs.Common.{◌≡◌, ◌*◌, true, length, nat_eq, sym, ap, ◌∙◌, arith}
use Rattle.std.specs.Prelude.{is_some}
use Rattle.std.proofs.lemmas.Bool.Decides.{nat_tests}
use Rattle.strm_codes.specs.Layout.{item_type}
use Rattle.strm_codes.specs.ItemTypes.{item_size}
use Rattle.strm_memory.specs.Items.{items}
use Rattle.strm_ready_ends.proofs.WholeLemmas.{good_if_all, whole_lies}
use Rattle.strm_ready_ends.proofs.wholes.are_whole.Goals as goal

pub returns-clause-exact : goal.returns-clause-exact
returns-clause-exact c =
    let ss = item_type c.args.payload.now in
    let bytes = c.args.bytes.now in
    let n = c.args.count in
    let size : length bytes ≡ item_size ss * n = c.if-bytes-size.false ∙ ap (λ w. w * n) c.size.ensures.exact in
    let all : nat_eq (length bytes) (item_size ss * n) ≡ true = grind (arith, nat_tests) in
    let found : nat_eq c.count_good_items.result n ≡ is_some (items ss bytes n) = ap (λ k. nat_eq k n) c.count_good_items.ensures ∙ good_if_all ss bytes n in
    rw all found

pub returns-clause-whole : goal.returns-clause-whole
returns-clause-whole c = λ e. whole_lies c.args.payload.now c.args.bytes.now c.args.count c.are_bytes.ensures (sym (returns-clause-exact c) ∙ e)
