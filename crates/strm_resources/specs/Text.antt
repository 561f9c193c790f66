-- How a table is printed: its numbers in use. Ours, as `Debug` of a list prints.
use Rattle.std.specs.Prelude.{ℕ, List, [], ◌∷◌, ◌++◌, codes, decimal}

-- the numbers, each after a comma and a blank
abbrev pub more_text : List ℕ → List ℕ
more_text [] = []
more_text (number ∷ rest) = (codes ", " ++ decimal number) ++ more_text rest

-- the numbers, with commas between them
abbrev pub items_text : List ℕ → List ℕ
items_text [] = []
items_text (number ∷ rest) = decimal number ++ more_text rest

-- the numbers in brackets
abbrev pub numbers_text : List ℕ → List ℕ
numbers_text numbers = codes "[" ++ items_text numbers ++ codes "]"
