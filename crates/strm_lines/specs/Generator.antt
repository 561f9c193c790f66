-- The generator: a list of steps from a number and a seed. Ours.
-- The draws are those of the example of `rand` in the C standard, whose state is held below 2^31 here.
use Rattle.std.specs.Prelude.{ℕ, zero, suc, ◌+◌, ◌*◌, ◌/◌, ◌%◌, ◌^◌, ◌==◌, nat_lt, List, [], ◌∷◌, ◌++◌, if◌then◌else◌}
use Rattle.std.specs.List.{range_with_len}
use Rattle.strm_codes.specs.declared.scalars.Scalar.TheVariants.{U8}
use Rattle.strm_codes.specs.declared.payloads.Payload.TheVariants.{One}
use Rattle.strm_codes.specs.declared.codes.TransmitIndex.{TransmitIndex}
use Rattle.strm_codes.specs.declared.codes.TransmitIndex.TheVariants.{Stream}
use Rattle.strm_machine.specs.declared.steps.Step.{Step}
use Rattle.strm_machine.specs.declared.steps.Step.TheVariants.{Guest, Between, Poke, Write, Read, Event, Move}

-- the state of the next draw
abbrev pub next_state : ℕ → ℕ
next_state x = (x * 1103515245 + 12345) % 2 ^ 31

-- the number that a draw gives by its state, below 32768
abbrev pub drawn : ℕ → ℕ
drawn x = x / 65536

-- the one stream's type
abbrev pub byte_stream : TransmitIndex
byte_stream = Stream (One U8)

-- the step of three draws: guest 0 writes, guest 1 reads, either asks for an event, and guest 0 moves its
-- write end to itself
abbrev pub drawn_step : ℕ → ℕ → ℕ → Step
drawn_step a b c =
    if nat_lt (a % 8) 3 then Write 0 byte_stream 1 b (c % 1024)
    else (if nat_lt (a % 8) 6 then Read 1 byte_stream 1 b (c % 1024)
    else (if a % 8 == 6 then Event 0 1
    else (if b % 2 == 0 then Event 1 1 else Move 0 byte_stream 1 0)))

-- so many steps, each of three draws, from this state on
unfoldable pub drawn_steps : ℕ → ℕ → List Step
drawn_steps zero x = []
drawn_steps (suc n) x =
    let a = next_state x in
    let b = next_state a in
    let c = next_state b in
    drawn_step (drawn a) (drawn b) (drawn c) ∷ drawn_steps n c

-- two guests, a stream from the one to the other, and bytes to write
abbrev pub first_steps : List Step
first_steps =
    Guest 65536 ∷ Guest 65536 ∷ Between 0 1 byte_stream ∷ Poke 0 0 (range_with_len 0 64) ∷ []

-- those four, and behind them so many steps that are drawn from the seed
abbrev pub generated : ℕ → ℕ → List Step
generated n seed = first_steps ++ drawn_steps n (seed % 2 ^ 31)
