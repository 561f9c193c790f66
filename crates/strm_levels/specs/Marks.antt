-- Levels of words. The lowest are the counts, each a word; above them, each bit of a word tells of one place of the
-- level below whether that word is not 0. So no place is looked at where a bit says that it has none. Ours.
use Rattle.std.specs.Prelude.{◌≡◌, ◌≢◌, ℕ, ◌+◌, ◌*◌, ◌/◌, ◌%◌, ◌<◌, ◌≤◌, Bool, true, false, nat_lt, List, [], length, slice_index_or}
use Rattle.std.specs.Int.{bit_at}
use Rattle.strm_levels.specs.Counts.{count_at, has_any}

-- ONE WORD

-- this is the lowest bit of a word, from one on, that is set
pub record IsLowestFrom (word from bit : ℕ) : Type 0 where
  pub behind : from ≤ bit
  pub inside : bit < 64
  pub here : bit_at word bit ≡ 1
  pub none_before : (i : ℕ) → from ≤ i → i < bit → bit_at word i ≡ 0

-- WORDS

-- of how many places a word tells
abbrev pub width : ℕ
width = 64

-- the words tell of a place that it has any
abbrev pub is_marked : List ℕ → ℕ → Bool
is_marked words place = nat_lt 0 (bit_at (count_at words (place / width)) (place % width))

-- no place from one on, and before another, is marked
abbrev pub HasNoMark : List ℕ → ℕ → ℕ → Type 0
HasNoMark words from end = (place : ℕ) → from ≤ place → place < end → is_marked words place ≡ false

-- this is the least place, from one on, that is marked
pub record IsNextMark (words : List ℕ) (from place : ℕ) : Type 0 where
  pub behind : from ≤ place
  pub here : is_marked words place ≡ true
  pub least : HasNoMark words from place

-- this is the lowest bit of a word, and the least place that it marks
pub record IsFirstMark (words : List ℕ) (word bit : ℕ) : Type 0 where
  pub inside : bit < width
  pub here : is_marked words (width * word + bit) ≡ true
  pub least : (b : ℕ) → b < bit → is_marked words (width * word + b) ≡ false

-- a place is marked, or it is not any more; the words that tell of other places are as they were
pub record Marks (old new : List ℕ) (place : ℕ) (any : Bool) : Type 0 where
  pub all : length new ≡ length old
  pub here : is_marked new place ≡ any
  pub others : (other : ℕ) → other ≢ place → is_marked new other ≡ is_marked old other
  pub words : (word : ℕ) → word ≢ place / width → has_any new word ≡ has_any old word

-- LEVELS

-- the words of a level tell of each place of another whether it has any
pub record IsOver (low high : List ℕ) : Type 0 where
  pub covers : length low ≤ width * length high
  pub marks : (place : ℕ) → is_marked high place ≡ has_any low place

-- the same of all places but one
pub record IsOverBut (low high : List ℕ) (place : ℕ) : Type 0 where
  pub covers : length low ≤ width * length high
  pub marks : (other : ℕ) → other ≢ place → is_marked high other ≡ has_any low other

-- the level of a number
abbrev pub level_at : List (List ℕ) → ℕ → List ℕ
level_at levels k = slice_index_or levels k []

-- each level but the lowest tells of the one below it
pub record AreOver (levels : List (List ℕ)) : Type 0 where
  pub each : (k : ℕ) → k + 1 < length levels → IsOver (level_at levels k) (level_at levels (k + 1))

-- the same, but of one place of level k
pub record AreOverBut (levels : List (List ℕ)) (k place : ℕ) : Type 0 where
  pub rest : (j : ℕ) → j + 1 < length levels → j ≢ k → IsOver (level_at levels j) (level_at levels (j + 1))
  pub here : k + 1 < length levels → IsOverBut (level_at levels k) (level_at levels (k + 1)) place

-- the level over one, if there is one, has room for a place more of it
abbrev pub HasRoom : List (List ℕ) → ℕ → Type 0
HasRoom levels k = k + 1 < length levels → length (level_at levels k) < width * length (level_at levels (k + 1))
