use Rattle.std.proofs.Common.{◌≡◌, ◌*◌, ◌<◌, ◌≤◌, [], ◌∷◌, ◌++◌, length, take, map, get_or, refl, sym, ap, subst, ◌∙◌, arith}
use Rattle.std.proofs.lemmas.List.{length-map, take_all, take_more}
use Rattle.std.proofs.Math.ListN.{get_or-map}
use Rattle.strm_codes.specs.Layout.{item_type}
use Rattle.strm_codes.specs.ItemTypes.{item_size}
use Rattle.strm_memory.specs.Items.{AreItems}
use Rattle.strm_memory.proofs.ItemLemmas.{item_fits, stored_next, stored_end}
use Rattle.strm_memory.proofs.AppendLemmas.{AreItems-append}
use Rattle.strm_memory.proofs.payloaded.put_values.Goals as goal

pub loop-k-init : goal.loop-k-init
loop-k-init g c = let none : c.size-size.result * 0 ≡ 0 = omega arith in record { fit = tt; rest = rw none refl }

pub put-requires : goal.put-requires
put-requires g c =
    let w = item_size (item_type g.T.Payloaded.payload) in
    let size : c.size-size.result ≡ w = c.size-size.ensures.exact ∙ ap (λ p. item_size (item_type p)) c.payload.ensures in
    let at : c.size-size.result * c.loop-k.k ≡ w * c.loop-k.k = ap (λ n. n * c.loop-k.k) size in
    omega (arith, at, item_fits c.loop-k.k (length c.args.values.now) w c.loop-k-test.true, c.requires, c.loop-k.auto.bytes)

pub loop-k-preserved : goal.loop-k-preserved
loop-k-preserved g c =
    let ss = item_type g.T.Payloaded.payload in
    let values = c.args.values.now in
    let k = c.loop-k.k in
    let xs = map g.T.Payloaded.item values in
    let x = g.T.Payloaded.item c.index-values-k.result in
    let size : c.size-size.result ≡ item_size ss = c.size-size.ensures.exact ∙ ap (λ p. item_size (item_type p)) c.payload.ensures in
    let count : length xs ≡ length values = length-map values g.T.Payloaded.item in
    let there : k < length xs = omega (arith, count) in
    let is : x ≡ get_or xs k x = ap g.T.Payloaded.item c.index-values-k.is ∙ sym (get_or-map g.T.Payloaded.item values k c.index-values-k.result) in
    let room : c.size-size.result * length xs ≤ length c.loop-k.bytes = rw (size, count) (omega (arith, c.requires, c.loop-k.auto.bytes)) in
    record {
      fit = subst (AreItems ss) (sym (take_more xs k x there ∙ ap (λ y. take k xs ++ y ∷ []) (sym is))) (AreItems-append ss (take k xs) (x ∷ []) c.loop-k.invariant.fit (c.put.ensures.fits, tt));
      rest = stored_next ss c.size-size.result xs c.loop-k.bytes c.put.new.bytes k x there is size room c.put.ensures.stored ∙ c.loop-k.invariant.rest;
    }

pub returns-clause-stored : goal.returns-clause-stored
returns-clause-stored g c =
    let xs = map g.T.Payloaded.item c.args.values.now in
    sym (stored_end (item_type g.T.Payloaded.payload) c.loop-k.bytes (c.size-size.result * c.loop-k.k) c.loop-k.k xs (omega (arith, length-map c.args.values.now g.T.Payloaded.item)))
    ∙ c.loop-k.invariant.rest

pub returns-clause-fit : goal.returns-clause-fit
returns-clause-fit g c =
    let xs = map g.T.Payloaded.item c.args.values.now in
    subst (AreItems (item_type g.T.Payloaded.payload)) (take_all c.loop-k.k xs (omega (arith, length-map c.args.values.now g.T.Payloaded.item))) c.loop-k.invariant.fit
