use Rattle.std.proofs.Common.{◌<◌, length, arith, sym, ap, subst, ◌∙◌}
use Rattle.std.specs.Prelude.{slice_get}
use Rattle.strm_codes.specs.Layout.{item_type}
use Rattle.strm_codes.specs.ItemTypes.{item_size}
use Rattle.strm_codes.specs.Begins.{FitsItem}
use Rattle.strm_buffers.proofs.ListingLemmas.{length-items_in, lie_get, fits_get, some_get, spot}
use Rattle.strm_buffers.proofs.items.Items.get_into.Goals as goal

pub lift_item_into-requires-clause-holds : goal.lift_item_into-requires-clause-holds
lift_item_into-requires-clause-holds c =
    let s = c.self.inside in
    let h : c.args.index < s.len = omega (arith, c.requires.inside, length-items_in _ _ _ _ c.self.invariant.lie, ap (λ v. length v.items) c.self.view_is) in
    spot (item_size (item_type s.payload)) c.args.index s.len s.start (length c.as_slice.result.now) c.size-size.result h (ap length c.as_slice.ensures ∙ c.self.invariant.all) c.size-size.ensures.exact

pub overflow_add-self-inside : goal.overflow_add-self-inside
overflow_add-self-inside c =
    let s = c.self.inside in
    let h : c.args.index < s.len = omega (arith, c.requires.inside, length-items_in _ _ _ _ c.self.invariant.lie, ap (λ v. length v.items) c.self.view_is) in
    omega (arith, c.as_slice.type_inv.0, spot (item_size (item_type s.payload)) c.args.index s.len s.start (length c.as_slice.result.now) c.size-size.result h (ap length c.as_slice.ensures ∙ c.self.invariant.all) c.size-size.ensures.exact)

pub overflow_mul-size : goal.overflow_mul-size
overflow_mul-size c =
    let s = c.self.inside in
    let h : c.args.index < s.len = omega (arith, c.requires.inside, length-items_in _ _ _ _ c.self.invariant.lie, ap (λ v. length v.items) c.self.view_is) in
    omega (arith, c.as_slice.type_inv.0, spot (item_size (item_type s.payload)) c.args.index s.len s.start (length c.as_slice.result.now) c.size-size.result h (ap length c.as_slice.ensures ∙ c.self.invariant.all) c.size-size.ensures.exact)

pub unreachable-requires : goal.unreachable-requires
unreachable-requires c =
    let s = c.self.inside in
    let n = length-items_in _ _ _ _ c.self.invariant.lie in
    let h : c.args.index < s.len = omega (arith, c.requires.inside, n, ap (λ v. length v.items) c.self.view_is) in
    let got = sym (lie_get (item_type s.payload) s.bytes s.start s.len c.args.index c.self.invariant.lie h)
    ∙ rw (← c.size-size.ensures.exact, ← c.as_slice.ensures) (sym c.if-not-lift_item_into.ensures) in
    some_get c.args.index _ (omega (arith, h, n)) got

pub returns-clause-exact : goal.returns-clause-exact
returns-clause-exact c =
    let s = c.self.inside in
    let h : c.args.index < s.len = omega (arith, c.requires.inside, length-items_in _ _ _ _ c.self.invariant.lie, ap (λ v. length v.items) c.self.view_is) in
    let got = sym (lie_get (item_type s.payload) s.bytes s.start s.len c.args.index c.self.invariant.lie h)
    ∙ rw (← c.size-size.ensures.exact, ← c.as_slice.ensures) (sym c.if-not-lift_item_into.ensures) in
    ap (λ v. slice_get v.items c.args.index) (sym c.self.view_is) ∙ got

pub returns-clause-fits : goal.returns-clause-fits
returns-clause-fits c =
    let s = c.self.inside in
    let h : c.args.index < s.len = omega (arith, c.requires.inside, length-items_in _ _ _ _ c.self.invariant.lie, ap (λ v. length v.items) c.self.view_is) in
    let got = sym (lie_get (item_type s.payload) s.bytes s.start s.len c.args.index c.self.invariant.lie h)
    ∙ rw (← c.size-size.ensures.exact, ← c.as_slice.ensures) (sym c.if-not-lift_item_into.ensures) in
    subst (λ v. FitsItem (item_type v.payload) c.lift_item_into.new.item) c.self.view_is (fits_get (item_type s.payload) c.args.index _ c.lift_item_into.new.item c.self.invariant.lie.fit got)
