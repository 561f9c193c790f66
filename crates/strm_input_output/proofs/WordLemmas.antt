-- The words behind the first.
use Rattle.std.proofs.Common.{◌≡◌, List, drop, length, Option, Some, None, sym, ap, ◌∙◌}
use Rattle.std.proofs.lemmas.List.{nil_from_length}
use Rattle.std.specs.Vec.Iter.{into_iter_items, into_iter_len, into_iter_steps}

-- what is to come once the first was taken
pub left_behind : {X Z : Type 0} (s t : _) (r : Option X) → length (into_iter_items {X = X} {Z = Z} s) ≡ into_iter_len s → length (into_iter_items {X = X} {Z = Z} t) ≡ into_iter_len t → into_iter_steps {X = X} {Z = Z} s r t → into_iter_items t ≡ drop 1 (into_iter_items s)
left_behind s t (Some x) e f h = ap (drop 1) (sym h.0)
left_behind s t None e f h =
    nil_from_length (into_iter_items t) (f ∙ h.1) ∙ sym (ap (drop 1) (nil_from_length (into_iter_items s) (e ∙ h.0)))
