use Rattle.std.proofs.Common.{◌≡◌, map, take}
use Rattle.tape.specs.HostEnds.{following, following_reader}
use Rattle.tape.proofs.played_among_ends.OwnLists as owns
use Rattle.tape.proofs.played_among_ends.Given as goal

-- the writers so far follow the first of the tape's
abbrev pub invariant-loop-n : goal.invariant-loop-n
invariant-loop-n g l = map (λ b. (owns.own-1.entry b.vtable).1.writer_tells b.value) l.writers.items ≡ map following (take l.n l.tape.writers)

-- and so do the readers
abbrev pub invariant-loop-r : goal.invariant-loop-r
invariant-loop-r g l = map (λ b. (owns.own-2.entry b.vtable).1.reader_tells b.value) l.readers.items ≡ map following_reader (take l.r l.tape.readers)
