-- Rows that are folded stand for what they stood for.
use Rattle.std.proofs.Common.{◌≡◌, ℕ, zero, suc, ◌+◌, ◌<◌, List, [], ◌∷◌, ◌++◌, length, take, drop, get_or, sym, ap, ◌∙◌, arith}
use Rattle.std.proofs.lemmas.Grind.{flat_map-append}
use Rattle.std.proofs.lemmas.List.{append-nil, append_assoc, take-append-drop, drop_more, take_more}
use Rattle.strm_drawing.specs.declared.arrows.Row.{Row}
use Rattle.strm_drawing.specs.declared.folding.Block.{Block}
use Rattle.strm_drawing.specs.Folding.{times_over, spread, spread_all}

times_over-once : (rows : List Row) → times_over 1 rows ≡ rows
unfolding times_over
times_over-once rows = append-nil rows

-- one time more
times_over-more : (n : ℕ) (rows : List Row) → times_over (n + 1) rows ≡ times_over n rows ++ rows
unfolding times_over
times_over-more zero rows = append-nil rows
times_over-more (suc n) rows =
    let s : suc n + 1 ≡ suc (n + 1) = omega arith in
    ap (λ k. times_over k rows) s ∙ ap (λ xs. rows ++ xs) (times_over-more n rows) ∙ sym (append_assoc rows (times_over n rows) rows)

pub nothing_kept : (done : List Block) (rows tail : List Row) → done ≡ [] → rows ≡ [] → tail ≡ [] → spread_all done ++ (times_over 1 rows ++ tail) ≡ []
nothing_kept done rows tail d e f =
    ap (λ bs. spread_all bs ++ (times_over 1 rows ++ tail)) d ∙ ap (λ xs. times_over 1 rows ++ xs) f ∙ append-nil (times_over 1 rows) ∙ times_over-once rows ∙ e

-- the rows of a block come again behind it
pub stands_again : (front rows tail rest : List Row) (n m : ℕ) → m ≡ n + 1 → take (length rows) tail ≡ rows → rest ≡ drop (length rows) tail → front ++ (times_over m rows ++ rest) ≡ front ++ (times_over n rows ++ tail)
stands_again front rows tail rest n m k e f =
    ap (λ xs. front ++ xs)
    (ap (λ x. times_over x rows ++ rest) k ∙ ap (λ xs. xs ++ rest) (times_over-more n rows) ∙ append_assoc (times_over n rows) rows rest
    ∙ ap (λ xs. times_over n rows ++ xs) (ap (λ xs. xs ++ rest) (sym e) ∙ ap (λ xs. take (length rows) tail ++ xs) f ∙ take-append-drop (length rows) tail))

-- the blocks and one more
spread-push : (done : List Block) (last : Block) → spread_all (done ++ last ∷ []) ≡ spread_all done ++ spread last
spread-push done last = flat_map-append spread done (last ∷ []) ∙ ap (λ xs. spread_all done ++ xs) (append-nil (spread last))

pub spread_more : (done : List Block) (last : Block) → spread_all (done ++ last ∷ []) ≡ spread_all done ++ (spread last ++ [])
spread_more done last = spread-push done last ∙ ap (λ xs. spread_all done ++ xs) (sym (append-nil (spread last)))

-- so many rows of the tail begin a block
pub begun : (done done_now : List Block) (last block : Block) (tail rest : List Row) (count : ℕ) → done_now ≡ done ++ last ∷ [] → block.times ≡ 1 → block.rows.items ≡ take count tail → rest ≡ drop count tail → spread_all done_now ++ (spread block ++ rest) ≡ spread_all done ++ (spread last ++ tail)
begun done done_now last block tail rest count d once is e =
    ap (λ xs. spread_all xs ++ (spread block ++ rest)) d
    ∙ ap (λ xs. xs ++ (spread block ++ rest)) (spread-push done last)
    ∙ append_assoc (spread_all done) (spread last) (spread block ++ rest)
    ∙ ap (λ xs. spread_all done ++ (spread last ++ xs))
    (ap (λ n. times_over n block.rows.items ++ rest) once ∙ ap (λ xs. xs ++ rest) (times_over-once block.rows.items ∙ is)
    ∙ ap (λ xs. take count tail ++ xs) e ∙ take-append-drop count tail)

-- the first of the tail goes into a block that stands there once
pub gone_on : (front rows rows_now tail rest : List Row) (x : Row) (n : ℕ) → n ≡ 1 → 0 < length tail → get_or tail 0 x ≡ x → rows_now ≡ rows ++ x ∷ [] → rest ≡ drop 1 tail → front ++ (times_over n rows_now ++ rest) ≡ front ++ (times_over n rows ++ tail)
gone_on front rows rows_now tail rest x n once some e is f =
    ap (λ xs. front ++ xs)
    (ap (λ k. times_over k rows_now ++ rest) once ∙ ap (λ xs. xs ++ rest) (times_over-once rows_now ∙ is) ∙ append_assoc rows (x ∷ []) rest
    ∙ ap (λ xs. rows ++ xs) (ap (λ xs. x ∷ xs) f ∙ ap (λ y. y ∷ drop 1 tail) (sym e) ∙ sym (drop_more tail 0 x some))
    ∙ ap (λ xs. xs ++ tail) (sym (times_over-once rows)) ∙ ap (λ k. times_over k rows ++ tail) (sym once))

-- rows that begin with the same begin with one more of the same
pub same_front : (xs ys : List Row) (k : ℕ) (d e : Row) → k < length xs → k < length ys → get_or xs k d ≡ get_or ys k e → take k xs ≡ take k ys → take (k + 1) xs ≡ take (k + 1) ys
same_front xs ys k d e a b same front =
    take_more xs k d a ∙ ap (λ zs. zs ++ get_or xs k d ∷ []) front
    ∙ ap (λ z. take k ys ++ z ∷ []) same ∙ sym (take_more ys k e b)
