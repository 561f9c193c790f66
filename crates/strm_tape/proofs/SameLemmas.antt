-- Items of one payload are the same where the bytes that spell them are.
use Rattle.std.proofs.Common.{◌≡◌, ℕ, List, length, Some, sym, ap, subst, ◌∙◌}
use Rattle.std.specs.Bool.{Decides}
use Rattle.std.specs.Str.{bytes_eq}
use Rattle.std.proofs.lemmas.Option.{same_Some}
use Rattle.std.proofs.lemmas.Slice.Eq.{bytes_eq-Decides}
use Rattle.strm_codes.specs.Layout.{item_type}
use Rattle.strm_codes.specs.ItemTypes.{ItemType}
use Rattle.strm_codes.specs.declared.payloads.Payload.{Payload}
use Rattle.strm_memory.specs.Items.{items, AreItems}
use Rattle.strm_buffers.specs.Listing.{Item}
use Rattle.strm_tape.specs.Spelling.{region_bytes}
use Rattle.strm_tape.proofs.TapeLemmas.{items-region}

one_region : (ss : ItemType) (xs ys : List Item) → AreItems ss xs → AreItems ss ys → length xs ≡ length ys → region_bytes ss xs ≡ region_bytes ss ys → xs ≡ ys
one_region ss xs ys f g l e =
    let first : items ss (region_bytes ss ys) (length ys) ≡ Some xs = ap (items ss (region_bytes ss ys)) (sym l) ∙ ap (λ b. items ss b (length xs)) (sym e) ∙ items-region ss xs f in
    same_Some xs ys (sym first ∙ items-region ss ys g)

pub same_regions : (p q : Payload) (xs ys : List Item) (one other : List ℕ) → p ≡ q → AreItems (item_type p) xs → AreItems (item_type q) ys → length xs ≡ length ys → one ≡ region_bytes (item_type p) xs → other ≡ region_bytes (item_type q) ys
    → Decides (bytes_eq one other) (xs ≡ ys)
same_regions p q xs ys one other e f g l is are =
    let here : one ≡ region_bytes (item_type q) xs = is ∙ ap (λ r. region_bytes (item_type r) xs) e in
    let fit : AreItems (item_type q) xs = subst (λ (r : Payload). AreItems (item_type r) xs) e f in (
      (λ t. one_region (item_type q) xs ys fit g l (sym here ∙ (bytes_eq-Decides one other).0 t ∙ are)),
      (λ s. (bytes_eq-Decides one other).1 (here ∙ ap (region_bytes (item_type q)) s ∙ sym are)),
    )
