use Rattle.std.proofs.Common.{◌++◌, [], ◌∷◌, length, arith, sym, ap, subst, ◌∙◌}
use Rattle.strm_codes.specs.Layout.{item_type}
use Rattle.strm_codes.specs.ItemTypes.{item_size}
use Rattle.strm_codes.specs.Begins.{FitsItem}
use Rattle.strm_buffers.proofs.ListingLemmas.{length-items_in, pushed, Pushed}
use Rattle.strm_buffers.proofs.items.Items.push.Goals as goal

pub invariant_of-self-2 : goal.invariant_of-self-2
invariant_of-self-2 c =
    let s = c.self.inside in
    let f = subst (λ v. FitsItem (item_type v.payload) c.args.item.now) (sym c.self.view_is) c.requires.fits in
    let p : Pushed (item_type s.payload) s.bytes c.append_item.new.self s.start s.len (c.args.item.now ∷ []) = pushed _ _ _ _ _ c.len-end.result (item_size (item_type s.payload)) _ c.self.invariant.lie (f, tt) (omega (arith, c.len-end.ensures, c.self.invariant.all)) (omega (arith, c.len-end.ensures)) (omega arith) c.in_ok-append_item.ensures.ok in
    record { all = p.all; lie = p.lie.lie; few = omega (arith, c.requires.few, length-items_in _ _ _ _ c.self.invariant.lie, ap (λ v. length v.items) c.self.view_is) }

pub returns-clause-ok : goal.returns-clause-ok
returns-clause-ok c =
    let s = c.self.inside in
    let f = subst (λ v. FitsItem (item_type v.payload) c.args.item.now) (sym c.self.view_is) c.requires.fits in
    let p : Pushed (item_type s.payload) s.bytes c.append_item.new.self s.start s.len (c.args.item.now ∷ []) = pushed _ _ _ _ _ c.len-end.result (item_size (item_type s.payload)) _ c.self.invariant.lie (f, tt) (omega (arith, c.len-end.ensures, c.self.invariant.all)) (omega (arith, c.len-end.ensures)) (omega arith) c.in_ok-append_item.ensures.ok in
    p.lie.is ∙ ap (λ v. v.items ++ c.args.item.now ∷ []) c.self.view_is
