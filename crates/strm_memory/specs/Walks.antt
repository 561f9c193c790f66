-- What a walk over the words of a type leaves. Ours.
use Rattle.std.specs.Prelude.{◌≡◌, ℕ, ◌+◌, ◌≤◌, ℤ, List, ◌++◌, length, take, drop, Option}
use Rattle.std.specs.Option.{option_map}
use Rattle.strm_codes.specs.ItemTypes.{ItemType, Parts, end_of, item_size}
use Rattle.strm_codes.specs.Spellings.{arity, behind, taken, type_with}
use Rattle.strm_codes.specs.Begins.{left, left_fields, BeginFields}
use Rattle.strm_memory.specs.Loads.{decode, decode_parts, encode, encode_parts}
use Rattle.strm_codes.specs.declared.nodes.Node.{Node}
use Rattle.strm_codes.specs.declared.insides.Inside.{Inside}
use Rattle.strm_codes.specs.declared.insides.Entered.{Entered}

-- these numbers, and then the others where there are any
abbrev pub with_front : List ℤ → Option (List ℤ) → Option (List ℤ)
with_front front o = option_map (λ xs. front ++ xs) o

-- no more numbers came than there are words before those behind so many types
abbrev pub IsFew : List ℤ → List ℤ → ℕ → List Node → Type 0
IsFew old new types nodes = length new + length (behind types nodes) ≤ length old + length nodes

-- a type was entered that lies from an address on: what is left of its item are the parts inside
pub record Enters (n : Node) (ts : List ItemType) (bytes : List ℕ) (from : ℕ) (old new : List ℤ) (i : Inside) : Type 0 where
  pub same : with_front old (decode (type_with n ts) (drop from bytes)) ≡ with_front new (decode_parts 0 (taken i.parts (drop i.skipped ts)) (drop (from + i.offset) bytes))
  pub within : i.skipped + i.parts ≤ arity n
  pub room : i.offset + end_of 0 (taken i.parts (drop i.skipped ts)) ≤ item_size (type_with n ts)
  pub few : length new ≤ length old + 1

-- the bytes with what F makes of those from an address on
abbrev pub from_on : (List ℕ → List ℕ) → ℕ → List ℕ → List ℕ
from_on F address bytes = take address bytes ++ F (drop address bytes)

-- bytes with an item of a type stored from an address on
abbrev pub item_on : ItemType → List ℤ → ℕ → List ℕ → List ℕ
item_on t xs address bytes = from_on (λ b. encode t b xs) address bytes

-- bytes with fields stored that may begin at an offset, and from an address on
abbrev pub fields_on : ℕ → Parts → List ℤ → ℕ → List ℕ → List ℕ
fields_on at ps xs address bytes = from_on (λ b. encode_parts at ps b xs) address bytes

-- a type was entered that is stored from an address on: what is left are the parts inside, behind so many
-- of the numbers
pub record IsEntered (t : ItemType) (inside : Parts) (xs : List ℤ) (old new : List ℕ) (from offset numbers : ℕ) : Type 0 where
  pub same : item_on t xs from old ≡ fields_on 0 inside (drop numbers xs) (from + offset) new
  pub rest : left t xs ≡ left_fields inside (drop numbers xs)
  pub begins : BeginFields inside (drop numbers xs)
  pub room : offset + end_of 0 inside ≤ item_size t
  pub long : length new ≡ length old
  pub few : numbers ≤ length xs

-- the same by the words: these parts are among those of the type
pub record EntersStore (n : Node) (ts : List ItemType) (xs : List ℤ) (old new : List ℕ) (from : ℕ) (e : Entered) : Type 0 where
  pub entered : IsEntered (type_with n ts) (taken e.inside.parts (drop e.inside.skipped ts)) xs old new from e.inside.offset e.numbers
  pub within : e.inside.skipped + e.inside.parts ≤ arity n
