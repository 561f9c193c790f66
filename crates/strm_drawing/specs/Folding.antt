-- Rows that are kept once for each time that they follow each other, and what they stand for. Ours.
use Rattle.std.specs.Prelude.{◌≡◌, ◌≤◌, ◌<◌, ℕ, zero, suc, true, false, List, [], ◌++◌, length, take}
use Rattle.std.specs.List.{flat_map}
use Rattle.strm_drawing.specs.declared.arrows.Row.{Row}
use Rattle.strm_drawing.specs.declared.folding.Block.{Block}
use Rattle.strm_drawing.specs.declared.folding.FoldedRows.{FoldedRows}

-- rows, so many times, one time behind the other
unfoldable pub times_over : ℕ → List Row → List Row
times_over zero rows = []
times_over (suc n) rows = rows ++ times_over n rows

-- the rows that a block stands for
abbrev pub spread : Block → List Row
spread block = times_over block.times block.rows.items

-- the rows that blocks stand for, in order
abbrev pub spread_all : List Block → List Row
spread_all blocks = flat_map spread blocks

-- all rows that were kept: those of blocks, and those that wait behind the last
abbrev pub rows_kept : FoldedRows → List Row
rows_kept f = spread_all f.done.items ++ (spread f.last ++ f.tail.items)

-- rows begin with those of a block, which may stand there once more
pub record ComesAgain (block : Block) (rows : List Row) : Type 0 where
  pub front : take (length block.rows.items) rows ≡ block.rows.items
  pub fits : length block.rows.items ≤ length rows
  pub few : block.times < 4294967295

-- the last block has rows where it may stand there once more, and else it stands there once
pub record IsFolding (f : FoldedRows) : Type 0 where
  pub some : f.repeats ≡ true → 0 < length f.last.rows.items
  pub once : f.repeats ≡ false → f.last.times ≡ 1
