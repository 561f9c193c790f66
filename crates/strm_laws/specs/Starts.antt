-- The store that a run begins with, also that of a chain and of a carry. Ours.
use Rattle.strm_machine.specs.State.{State, empty}

-- without guests, named 0, under these limits
abbrev pub run_start : State
run_start = empty 0 (record { handles = 1000000; places = 1000000 })
