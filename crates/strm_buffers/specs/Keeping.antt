-- What a window keeps of the bytes that it lends. Ours.
use Rattle.std.specs.Prelude.{ℕ, ◌+◌, List, [], ◌∷◌, ◌++◌, take, replicate, Option, Some, None}

-- where the bytes of a room end, of so many
abbrev pub end_kept : ℕ → Option ℕ → ℕ → ℕ
end_kept address None len = len
end_kept address (Some room) len = address + room

-- what is kept after these bytes of a room were lent: those of a stated one, where none were yet
abbrev pub kept_after : Option ℕ → List ℕ → List ℕ → List ℕ
kept_after None kept bytes = kept
kept_after (Some room) [] bytes = bytes
kept_after (Some room) (k ∷ kept) bytes = k ∷ kept

-- how many bytes may have to be kept, of so many
abbrev pub space_needed : Option ℕ → ℕ → ℕ
space_needed None len = 0
space_needed (Some room) len = len

-- the bytes with space for so many at a place: those of a stated room have it, else it is made behind
-- what stands before the place
abbrev pub with_space : Option ℕ → List ℕ → ℕ → ℕ → List ℕ
with_space None bytes at count = take at bytes ++ replicate count 0
with_space (Some room) bytes at count = bytes
