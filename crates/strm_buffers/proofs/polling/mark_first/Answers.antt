use Rattle.std.proofs.Common.{◌≡◌, ◌+◌, ◌-◌, ◌++◌, take, drop, sym, ap, ◌∙◌, arith}
use Rattle.std.proofs.lemmas.Result.{on_ok_weaker}
use Rattle.std.proofs.Math.Seq.{take-add}
use Rattle.strm_codes.specs.Layout.{item_type}
use Rattle.strm_buffers.specs.Listing.{items_in}
use Rattle.strm_buffers.specs.Windows.{Lent}
use Rattle.strm_buffers.proofs.polling.mark_first.Goals as goal

pub returns-clause-ok : goal.returns-clause-ok
returns-clause-ok c =
    let xs = c.args.items.now.items in
    let n = c.marked-first.result in
    let k = c.args.count - n in
    let first : c.args.window.now.marked ≡ take n xs = c.requires.begun ∙ ap (λ j. take j xs) (sym c.marked-first.ensures.exact) in
    let all : n + k ≡ c.args.count = omega (arith, c.requires.least, c.marked-first.ensures.exact) in
    let items : items_in (item_type c.args.window.now.payload) c.bytes_of.result.now 0 k ≡ take k (drop n xs) = ap (λ p. items_in (item_type p) c.bytes_of.result.now 0 k) (sym c.requires.payload) ∙ c.bytes_of.ensures.items in
    on_ok_weaker c.put_all.result
    (λ e. ap (λ (w : Lent). w.marked) e ∙ ap (λ ys. c.args.window.now.marked ++ ys) items ∙ ap (λ ys. ys ++ take k (drop n xs)) first ∙ sym (take-add n k xs) ∙ ap (λ j. take j xs) all)
    c.put_all.ensures.ok
