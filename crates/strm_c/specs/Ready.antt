-- The next guest that is ready, in a word. Ours.
use Rattle.std.specs.Prelude.{ℕ, Option, Some, None}

-- the number of a guest, if there is one; none has the last of 32 bits
abbrev pub guest_or_none : Option ℕ → ℕ
guest_or_none (Some guest) = guest
guest_or_none None = 4294967295
