-- Where lanes stand. Ours.
use Rattle.std.specs.Prelude.{◌≡◌, ◌≢◌, ◌⊎◌, ◌+◌, ◌*◌, ℕ, List, slice_get, All, Some}
use Rattle.strm_drawing.specs.declared.arrows.Lane.{Lane}

-- a lane stands at its place among all, each 200 pixels to the right of the one before it, the first at 200; what
-- has no lane stands left of them
abbrev pub StandsAt : List Lane → ℕ → Lane → Type 0
StandsAt all x lane =
    ((place : ℕ) × (slice_get all place ≡ Some lane) × (x ≡ 200 + place * 200))
    ⊎ (All (λ other. other ≢ lane) all × (x ≡ 136))
