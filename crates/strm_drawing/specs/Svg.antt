-- The text of a picture, as far as it is promised: each arrow has a text with its count, from the lane of its write end
-- to that of its read end, and these texts stand there in the order of the arrows. Ours.
use Rattle.std.specs.Prelude.{◌≡◌, ℕ, List, [], ◌∷◌, ◌++◌, codes, decimal, ◌⊎◌}
use Rattle.std.specs.List.{flat_map}
use Rattle.strm_drawing.specs.declared.arrows.Arrow.{Arrow}
use Rattle.strm_drawing.specs.declared.arrows.Lane.{Lane}
use Rattle.strm_drawing.specs.declared.folding.Block.{Block}
use Rattle.strm_drawing.specs.declared.shapes.Point.{Point}
use Rattle.strm_drawing.specs.Moves.{arrows_in}
use Rattle.strm_drawing.specs.Places.{StandsAt}

-- ELEMENTS OF SVG

-- an attribute with its value
abbrev pub attribute_text : List ℕ → ℕ → List ℕ
attribute_text name value = codes " " ++ name ++ codes "=\"" ++ decimal value ++ codes "\""

-- what an element of a class begins with
abbrev pub element_begin : List ℕ → List ℕ → List ℕ
element_begin name class = codes "<" ++ name ++ codes " class=\"" ++ class ++ codes "\""

-- a line
abbrev pub line_text : List ℕ → Point → Point → List ℕ
line_text class from to =
    element_begin (codes "line") class ++ attribute_text (codes "x1") from.x ++ attribute_text (codes "y1") from.y
    ++ attribute_text (codes "x2") to.x ++ attribute_text (codes "y2") to.y ++ codes "/>\n"

-- a path that begins at a place, and how it goes from there
abbrev pub path_text : List ℕ → Point → List ℕ → List ℕ
path_text class from steps =
    element_begin (codes "path") class ++ codes " d=\"M" ++ decimal from.x ++ codes " " ++ decimal from.y
    ++ steps ++ codes "\"/>\n"

-- what a text begins with
abbrev pub open_text : List ℕ → Point → List ℕ
open_text class at =
    element_begin (codes "text") class ++ attribute_text (codes "x") at.x ++ attribute_text (codes "y") at.y ++ codes ">"

-- and ends with
abbrev pub close_text : List ℕ
close_text = codes "</text>\n"

-- ARROWS

-- the count of an arrow
abbrev pub count_text : List ℕ → Point → Arrow → List ℕ
count_text class at arrow =
    open_text class at ++ decimal arrow.count ++ codes " on stream " ++ decimal arrow.stream ++ close_text

-- a place beside another one, below or at the height of which it does not matter
abbrev pub at_height : ℕ → ℕ → Point
at_height x y = record { x = x; y = y }

-- a line from the one place to the other, at some height, with the count
abbrev pub IsLineText : Point → Point → Arrow → List ℕ → Type 0
IsLineText from to arrow text =
    (y : ℕ) × (at : Point)
    × (text ≡ line_text (codes "move") (at_height from.x y) (at_height to.x y) ++ count_text (codes "count") at arrow)

-- an arrow that leads back to where it begins, with the count
abbrev pub IsLoopText : Point → Arrow → List ℕ → Type 0
IsLoopText from arrow text =
    (steps : List ℕ) × (at : Point)
    × (text ≡ path_text (codes "move") from steps ++ count_text (codes "aside") at arrow)

-- the text of an arrow, from the lane of its write end to that of its read end
pub record IsArrowText (lanes : List Lane) (arrow : Arrow) (text : List ℕ) : Type 0 where
  pub from : Point
  pub to : Point
  pub stands : StandsAt lanes from.x arrow.from
  pub leads : StandsAt lanes to.x arrow.to
  pub text_is : (IsLoopText from arrow text × (from.x ≡ to.x)) ⊎ IsLineText from to arrow text

-- THE WHOLE

-- the arrows of a block's rows, each once
abbrev pub arrows_of_block : Block → List Arrow
arrows_of_block block = arrows_in block.rows.items

-- those of blocks
abbrev pub arrows_of_blocks : List Block → List Arrow
arrows_of_blocks all = flat_map arrows_of_block all

-- the texts of these arrows stand in a text, one behind the other
unfoldable pub Shows : List Lane → List Arrow → List ℕ → Type 0
Shows lanes [] text = Unit {0}
Shows lanes (arrow ∷ more) text =
    (front : List ℕ) × (first : List ℕ) × (rest : List ℕ)
    × (text ≡ front ++ (first ++ rest)) × IsArrowText lanes arrow first × Shows lanes more rest

-- a text has more, in which they stand
pub record Shown (lanes : List Lane) (arrows : List Arrow) (old new : List ℕ) : Type 0 where
  pub more : List ℕ
  pub more_is : new ≡ old ++ more
  pub shows : Shows lanes arrows more

-- the text of a picture: the arrows of its blocks' rows stand there
abbrev pub IsSvg : List Block → List ℕ → Type 0
IsSvg blocks text = (lanes : List Lane) × Shows lanes (arrows_of_blocks blocks) text
