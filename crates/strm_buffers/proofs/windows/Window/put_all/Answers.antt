use Rattle.std.proofs.Common.{◌*◌, refl, sym, ap, ◌∙◌, arith}
use Rattle.strm_memory.specs.Linear.{LinearMemory}
use Rattle.strm_codes.specs.Layout.{item_type}
use Rattle.strm_codes.specs.ItemTypes.{item_size}
use Rattle.strm_memory.specs.Items.{stored_at}
use Rattle.strm_buffers.specs.Listing.{items_in}
use Rattle.strm_buffers.specs.Windows.{Lent, place_kept}
use Rattle.strm_codes.proofs.ResultLemmas.{on_err}
use Rattle.strm_buffers.proofs.WindowLemmas.{all_any, any_inside, lying_nowhere, lies_there}
use Rattle.strm_buffers.proofs.windows.Window.put_all.Goals as goal

pub write_items-requires-clause-inside : goal.write_items-requires-clause-inside
write_items-requires-clause-inside c =
    let s = c.self.inside in
    let w = item_size (item_type s.payload) in
    rw (ap (λ (m : LinearMemory). m.bytes) c.in_ok-make_space.ensures.ok) (any_inside s.payload s.memory.bytes s.kept.items _ s.address s.marked s.is_prepared s.room (lying_nowhere c.args.self.now) c.self.invariant.0 (ap lying_nowhere c.self.view_is) c.args.count c.requires.room c.item_place-at.result (w * c.args.count) s.room c.item_place-at.ensures refl refl).1

pub overflow_add-self : goal.overflow_add-self
overflow_add-self c =
    let s = c.self.inside in
    let w = item_size (item_type s.payload) in
    omega (arith, (any_inside s.payload s.memory.bytes s.kept.items _ s.address s.marked s.is_prepared s.room (lying_nowhere c.args.self.now) c.self.invariant.0 (ap lying_nowhere c.self.view_is) c.args.count c.requires.room c.item_place-at.result (w * c.args.count) s.room c.item_place-at.ensures refl refl).0)

pub invariant_of-self-2 : goal.invariant_of-self-2
invariant_of-self-2 c =
    let s = c.self.inside in
    let ss = item_type s.payload in
    let new = ap (λ (m : LinearMemory). m.bytes) c.write_items.ensures ∙ ap (λ (m : LinearMemory). stored_at ss m.bytes c.item_place-at.result (items_in ss c.args.bytes.now 0 c.args.count)) c.in_ok-make_space.ensures.ok in
    ((all_any s.payload _ _ _ _ _ _ _ c.self.invariant.0 c.args.bytes.now c.args.count _ c.item_place-at.ensures _ (ap lying_nowhere c.self.view_is) (c.requires.lie, c.requires.room) s.room _ refl new).is_window, λ none. ap (λ (m : LinearMemory). m.base) c.write_items.ensures ∙ ap (λ (m : LinearMemory). m.base) c.in_ok-make_space.ensures.ok ∙ c.self.invariant.1 none)

pub returns-clause-ok : goal.returns-clause-ok
returns-clause-ok c =
    let s = c.self.inside in
    let ss = item_type s.payload in
    let new = ap (λ (m : LinearMemory). m.bytes) c.write_items.ensures ∙ ap (λ (m : LinearMemory). stored_at ss m.bytes c.item_place-at.result (items_in ss c.args.bytes.now 0 c.args.count)) c.in_ok-make_space.ensures.ok in
    let stays = ap (λ (m : LinearMemory). m.base) c.write_items.ensures ∙ ap (λ (m : LinearMemory). m.base) c.in_ok-make_space.ensures.ok in
    lies_there _ _ _ ((all_any s.payload _ _ _ _ _ _ _ c.self.invariant.0 c.args.bytes.now c.args.count _ c.item_place-at.ensures _ (ap lying_nowhere c.self.view_is) (c.requires.lie, c.requires.room) s.room _ refl new).is) (stays ∙ ap (λ (w : Lent). w.base) c.self.view_is)

pub returns-in_err-make_space-clause-out_of_memory : goal.returns-in_err-make_space-clause-out_of_memory
returns-in_err-make_space-clause-out_of_memory c =
    let s = c.self.inside in
    on_err c.from_residual.result (ap (λ (v : Lent). v.place) (sym (ap lying_nowhere c.self.view_is)) ∙ ap (λ q. place_kept (item_type s.payload) s.memory.bytes s.kept.items s.address q s.marked) c.in_err-make_space.ensures.out_of_memory)
