-- Words that name a mode name no other, and not none.
use Rattle.std.proofs.Common.{◌≡◌, ◌↔◌, ℕ, List, Result, Ok}
use Rattle.strm_tape_program.specs.declared.modes.Mode.{Mode}
use Rattle.strm_tape_program.specs.declared.modes.Mode.TheVariants.{Take, Play}
use Rattle.strm_tape_program.specs.Modes.{Names, NamesNone}

-- the mode that was answered is the one that the words name
module _ (answer : Result Mode ℕ) (words : List (List ℕ)) (named : (mode : Mode) → (answer ≡ Ok mode) ↔ Names words mode) (mode : Mode) (is : answer ≡ Ok mode) where
  pub take_only : mode ≡ Take → Names words Play → ⊥
  take_only take names = let other : answer ≡ Ok Play = (named Play).1 names in cc

  pub play_only : mode ≡ Play → Names words Take → ⊥
  play_only play names = let other : answer ≡ Ok Take = (named Take).1 names in cc

  pub not_none : NamesNone words → ⊥
  not_none none = none mode ((named mode).0 is)
