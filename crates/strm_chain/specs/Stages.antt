-- What a stage makes of a list of bytes, and a list of stages one after the other. Ours.
use Rattle.std.specs.Prelude.{ℕ, ◌+◌, ◌-◌, ◌%◌, ◌==◌, not, if◌then◌else◌, List, [], ◌∷◌, ◌++◌, map, filter, take}
use Rattle.strm_chain.specs.declared.stages.Stage.{Stage}
use Rattle.strm_chain.specs.declared.stages.Stage.TheVariants as stages
use Rattle.strm_chain.specs.declared.stages.Work.{Work}

-- WHAT A STAGE MEANS

-- each byte two times
abbrev pub twice : List ℕ → List ℕ
twice [] = []
twice (b ∷ bs) = b ∷ b ∷ twice bs

-- the sums of a number and the first 1, 2, .. bytes, modulo 256
abbrev pub sums : ℕ → List ℕ → List ℕ
sums total [] = []
sums total (b ∷ bs) = (total + b) % 256 ∷ sums ((total + b) % 256) bs

-- what a stage makes of a list of bytes
abbrev pub of : Stage → List ℕ → List ℕ
of stages.Copy bytes = bytes
of (stages.Add k) bytes = map (λ b. (b + k) % 256) bytes
of (stages.Without k) bytes = filter (λ b. not (b == k)) bytes
of stages.Twice bytes = twice bytes
of stages.Sum bytes = sums 0 bytes
of (stages.First n) bytes = take n bytes

-- the stages in order
abbrev pub composed : List Stage → List ℕ → List ℕ
composed [] bytes = bytes
composed (stage ∷ more) bytes = composed more (of stage bytes)

-- HOW IT IS DONE PIECE BY PIECE

-- how many bytes a stage lets through before it has taken any
abbrev pub stage_room : Stage → ℕ
stage_room (stages.First n) = n
stage_room _ = 0

-- a stage that has taken nothing
abbrev pub work_begun : Stage → Work
work_begun stage = record { stage = stage; sum = 0; left = stage_room stage }

-- what a stage puts out for one byte, with this sum and so many bytes left
abbrev pub puts : Stage → ℕ → ℕ → ℕ → List ℕ
puts stages.Copy sum work_left b = b ∷ []
puts (stages.Add k) sum work_left b = (b + k) % 256 ∷ []
puts (stages.Without k) sum work_left b = if b == k then [] else b ∷ []
puts stages.Twice sum work_left b = b ∷ b ∷ []
puts stages.Sum sum work_left b = (sum + b) % 256 ∷ []
puts (stages.First n) sum work_left b = if work_left == 0 then [] else b ∷ []

-- the same of a stage under way
abbrev pub put_out : Work → ℕ → List ℕ
put_out work b = puts work.stage work.sum work.left b

-- the stage behind that byte
abbrev pub work_after : Work → ℕ → Work
work_after work b = record {
  stage = work.stage;
  sum = (work.sum + b) % 256;
  left = work.left - 1;
}

-- the sum of a number and bytes, modulo 256
unfoldable pub byte_sum : ℕ → List ℕ → ℕ
byte_sum total [] = total
byte_sum total (b ∷ bs) = byte_sum ((total + b) % 256) bs

-- what a stage under way puts out for a list of bytes
unfoldable pub work_done : Work → List ℕ → List ℕ
work_done work [] = []
work_done work (b ∷ bs) = put_out work b ++ work_done (work_after work b) bs

-- the stage behind them
unfoldable pub work_left : Work → List ℕ → Work
work_left work [] = work
work_left work (b ∷ bs) = work_left (work_after work b) bs
