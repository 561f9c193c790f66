-- What the program answers to its words. Ours.
use Rattle.std.specs.Prelude.{◌≡◌, ◌≢◌, ℕ, List, [], ◌∷◌, codes, Option}
use Rattle.strm_buffers.specs.Tells.{Tells}
use Rattle.strm_session.specs.Serving.{IsRunOutput, IsRunStatus}
use Rattle.strm_drawing.specs.Serving.{IsOfDrawing}
use Rattle.strm_program_hosts.specs.HostEnds.{host_ends}

-- the words behind the program's name tell it to draw the run of an input
abbrev pub TellsToDraw : List (List ℕ) → Type 0
TellsToDraw words = words ≡ codes "draw" ∷ []

-- a text whose cause is known: from what the input had left and its faults, and among the program's host ends,
-- none of which was used before
pub record HasText (words : List (List ℕ)) (left : Option (List ℕ)) (before status : ℕ) : Type 0 where
  pub rest : Option (List ℕ)
  pub faults : ℕ
  pub text : List ℕ
  pub told : Tells
  pub output : IsRunOutput words left rest host_ends told before faults status text

-- the same of the picture of an input's run
pub record HasPicture (left : Option (List ℕ)) (before status : ℕ) : Type 0 where
  pub rest : Option (List ℕ)
  pub faults : ℕ
  pub text : List ℕ
  pub told : Tells
  pub output : IsOfDrawing left rest host_ends told before faults status text

-- the program's status to these words; with each but 5 and 9 goes such a text, or such a picture where they tell it to
-- draw
pub record IsServed (words : List (List ℕ)) (left : Option (List ℕ)) (before status : ℕ) : Type 0 where
  pub known : IsRunStatus status
  pub told : ¬ TellsToDraw words → status ≢ 5 → status ≢ 9 → HasText words left before status
  pub drawn : TellsToDraw words → status ≢ 5 → status ≢ 9 → HasPicture left before status
