-- Texts in which arrows stand, one behind the other.
use Rattle.std.proofs.Common.{◌≡◌, ℕ, ◌+◌, ◌<◌, List, [], ◌∷◌, ◌++◌, length, take, get_or, sym, ap, ◌∙◌, subst}
use Rattle.std.specs.List.{flat_map}
use Rattle.std.proofs.lemmas.Grind.{flat_map-append}
use Rattle.std.proofs.lemmas.List.{append-nil, append_assoc, take_more}
use Rattle.strm_drawing.specs.declared.arrows.Arrow.{Arrow}
use Rattle.strm_drawing.specs.declared.arrows.Lane.{Lane}
use Rattle.strm_drawing.specs.Svg.{IsArrowText, Shows, Shown}

-- behind another text
shows-behind : (lanes : List Lane) (arrows : List Arrow) (t u : List ℕ) → Shows lanes arrows u → Shows lanes arrows (t ++ u)
unfolding Shows
shows-behind lanes [] t u s = tt
shows-behind lanes (arrow ∷ more) t u s =
    (t ++ s.0, s.1, s.2, ap (λ xs. t ++ xs) s.3 ∙ sym (append_assoc t s.0 (s.1 ++ s.2)), s.4, s.5)

-- and those of one text, and then of another
shows-append : (lanes : List Lane) (xs ys : List Arrow) (t u : List ℕ) → Shows lanes xs t → Shows lanes ys u → Shows lanes (xs ++ ys) (t ++ u)
unfolding Shows
shows-append lanes [] ys t u a b = shows-behind lanes ys t u b
shows-append lanes (x ∷ xs) ys t u a b = (
  a.0,
  a.1,
  a.2 ++ u,
  ap (λ zs. zs ++ u) a.3 ∙ append_assoc a.0 (a.1 ++ a.2) u ∙ ap (λ zs. a.0 ++ zs) (append_assoc a.1 a.2 u),
  a.4,
  shows-append lanes xs ys a.2 u a.5 b,
)

shows-none : (lanes : List Lane) (text : List ℕ) → Shows lanes [] text
unfolding Shows
shows-none lanes text = tt

shows-one : (lanes : List Lane) (arrow : Arrow) (text : List ℕ) → IsArrowText lanes arrow text → Shows lanes (arrow ∷ []) text
unfolding Shows
shows-one lanes arrow text is = ([], text, [], sym (append-nil text), is, tt)

-- any text more
pub shown_none : (lanes : List Lane) (old more new : List ℕ) → new ≡ old ++ more → Shown lanes [] old new
shown_none lanes old more new e = record { more = more; more_is = e; shows = shows-none lanes more }

pub shown_same : (lanes : List Lane) (text : List ℕ) → Shown lanes [] text text
shown_same lanes text = shown_none lanes text [] text (sym (append-nil text))

-- one arrow more
pub shown_one : (lanes : List Lane) (arrow : Arrow) (old more new : List ℕ) → new ≡ old ++ more → IsArrowText lanes arrow more → Shown lanes (arrow ∷ []) old new
shown_one lanes arrow old more new e is = record { more = more; more_is = e; shows = shows-one lanes arrow more is }

-- first these, then those
pub shown_then : (lanes : List Lane) (xs ys : List Arrow) (a b c : List ℕ) → Shown lanes xs a b → Shown lanes ys b c → Shown lanes (xs ++ ys) a c
shown_then lanes xs ys a b c p q = record {
  more = p.more ++ q.more;
  more_is = q.more_is ∙ ap (λ zs. zs ++ q.more) p.more_is ∙ append_assoc a p.more q.more;
  shows = shows-append lanes xs ys p.more q.more p.shows q.shows;
}

-- those of the first of some, and of the next
pub shown_more : {X : Type 0} (lanes : List Lane) (f : X → List Arrow) (all : List X) (k : ℕ) (d : X) (a b c : List ℕ) → k < length all → Shown lanes (flat_map f (take k all)) a b → Shown lanes (f (get_or all k d)) b c → Shown lanes (flat_map f (take (k + 1) all)) a c
shown_more lanes f all k d a b c inside p q =
    subst (λ ys. Shown lanes ys a c)
    (sym (ap (flat_map f) (take_more all k d inside) ∙ flat_map-append f (take k all) (get_or all k d ∷ [])
    ∙ ap (λ zs. flat_map f (take k all) ++ zs) (append-nil (f (get_or all k d)))))
    (shown_then lanes (flat_map f (take k all)) (f (get_or all k d)) a b c p q)

-- between other texts
pub shown_within : (lanes : List Lane) (arrows : List Arrow) (front a b back : List ℕ) → Shown lanes arrows a b → Shows lanes arrows ((front ++ b) ++ back)
shown_within lanes arrows front a b back s =
    let inner = shows-behind lanes arrows a s.more s.shows in
    let text = subst (Shows lanes arrows) (sym s.more_is) inner in
    subst (λ xs. Shows lanes xs ((front ++ b) ++ back)) (append-nil arrows)
    (shows-append lanes arrows [] (front ++ b) back (shows-behind lanes arrows front b text) (shows-none lanes back))

-- in a text that goes on behind them
pub shown_text : (lanes : List Lane) (arrows : List Arrow) (front a b end tail first second third : List ℕ) → first ≡ front ++ b → second ≡ first ++ end → third ≡ second ++ tail → Shown lanes arrows a b → Shows lanes arrows third
shown_text lanes arrows front a b end tail first second third e f g s =
    subst (Shows lanes arrows)
    (sym (g ∙ ap (λ xs. xs ++ tail) (f ∙ ap (λ xs. xs ++ end) e) ∙ append_assoc (front ++ b) end tail))
    (shown_within lanes arrows front a b (end ++ tail) s)
