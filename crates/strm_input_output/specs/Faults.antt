-- What a failure of a sink leaves. Ours.
use Rattle.std.specs.Prelude.{ℕ, ◌<◌, Option, List, length, take}
use Rattle.std.specs.Io.KnownBytes.{Appends}

-- a sink took some of these bytes, from their front, and not all
abbrev pub TakesPart : Option (List ℕ) → Option (List ℕ) → List ℕ → Type 0
TakesPart old new bytes = (n : ℕ) × (n < length bytes) × Appends old new (take n bytes)
