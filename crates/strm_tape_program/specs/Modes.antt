-- What the words of the program of tapes tell it to do. Ours.
use Rattle.std.specs.Prelude.{◌≡◌, ℕ, List, [], ◌∷◌, codes, Option, Some, None, if◌then◌else◌}
use Rattle.std.specs.Str.{bytes_eq}
use Rattle.strm_tape_program.specs.declared.modes.Mode.{Mode}
use Rattle.strm_tape_program.specs.declared.modes.Mode.TheVariants.{Take, Play}

-- the word of a mode
abbrev pub word_of_mode : Mode → List ℕ
word_of_mode Take = codes "take"
word_of_mode Play = codes "play"

-- the words behind the program's name are the one word of this mode
abbrev pub Names : List (List ℕ) → Mode → Type 0
Names words mode = words ≡ word_of_mode mode ∷ []

-- they are that of none
abbrev pub NamesNone : List (List ℕ) → Type 0
NamesNone words = (mode : Mode) → ¬ Names words mode

-- the mode of a word
abbrev pub mode_of_word : List ℕ → Option Mode
mode_of_word word = if bytes_eq word (codes "take") then Some Take else (if bytes_eq word (codes "play") then Some Play else None)
