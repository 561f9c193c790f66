-- Courses of single streams, computed: events and codes of streams out of random runs of another
-- implementation of the machine, among them pipes, moves of both ends and host readers.
use Rattle.std.proofs.Common.{◌≡◌, ℕ, [], ◌∷◌, Some, None, refl}
use Rattle.strm_codes.specs.declared.codes.ReturnCode.TheVariants as codes
use Rattle.strm_codes.specs.declared.codes.TransmitKind.TheVariants.{Stream as AStream, Future}
use Rattle.strm_buffers.specs.declared.answers.Answer.{Answer}
use Rattle.strm_buffers.specs.declared.answers.Answer.TheVariants as answers
use Rattle.strm_machine.specs.declared.streams.Side.TheVariants.{Writing, Reading}
use Rattle.strm_host_machine.specs.Courses.{AGuest, NoGuest, AHost, CoursePoll, Begins, Calls, Hears, Cancels, Drops, Moves, Turns, course_by, codes_of}

abbrev poll : ℕ → Answer → CoursePoll
poll n answer = record { items = n; answer = answer }

row-30 : codes_of Future
    (Moves Writing AGuest
    ∷ Moves Reading NoGuest
    ∷ Moves Reading AGuest
    ∷ Moves Writing AGuest
    ∷ Moves Reading NoGuest
    ∷ Moves Reading AHost
    ∷ Moves Writing AGuest
    ∷ Calls Writing 1 (poll 1 answers.Pending ∷ [])
    ∷ Cancels Writing
    ∷ Turns [] (poll 0 answers.Completed ∷ [])
    ∷ Hears Writing
    ∷ Hears Writing
    ∷ Turns [] []
    ∷ Turns [] []
    ∷ Drops Writing
    ∷ [])
    ≡ Some (codes.Blocked) ∷ Some (codes.Blocked) ∷ Some (codes.Completed 0) ∷ None ∷ []
unfolding course_by
row-30 = refl

row-2 : codes_of AStream
    (Calls Writing 7 []
    ∷ Calls Reading 0 []
    ∷ Calls Reading 4 []
    ∷ Calls Reading 3 []
    ∷ Hears Writing
    ∷ Drops Writing
    ∷ Calls Reading 8 []
    ∷ Drops Reading
    ∷ Turns [] []
    ∷ [])
    ≡ Some (codes.Blocked) ∷ Some (codes.Completed 0) ∷ Some (codes.Completed 4) ∷ Some (codes.Completed 3) ∷ Some (codes.Completed 7) ∷ Some (codes.Dropped 0) ∷ []
unfolding course_by
row-2 = refl

row-4 : codes_of AStream
    (Begins 0
    ∷ Moves Reading AGuest
    ∷ Calls Reading 3 (poll 0 answers.Pending ∷ [])
    ∷ Cancels Reading
    ∷ Turns (poll 2 answers.Completed ∷ []) []
    ∷ Hears Reading
    ∷ Calls Reading 8 (poll 0 answers.Pending ∷ [])
    ∷ [])
    ≡ Some (codes.Blocked) ∷ Some (codes.Blocked) ∷ Some (codes.Completed 2) ∷ Some (codes.Blocked) ∷ []
unfolding course_by
row-4 = refl

row-5 : codes_of Future
    (Begins 0
    ∷ Moves Reading AGuest
    ∷ Moves Reading NoGuest
    ∷ Turns [] []
    ∷ [])
    ≡ []
unfolding course_by
row-5 = refl

row-6 : codes_of AStream
    (Calls Writing 1 []
    ∷ Drops Reading
    ∷ Hears Writing
    ∷ Drops Writing
    ∷ Turns [] []
    ∷ Turns [] []
    ∷ [])
    ≡ Some (codes.Blocked) ∷ Some (codes.Dropped 0) ∷ []
unfolding course_by
row-6 = refl

row-7 : codes_of AStream
    (Calls Reading 5 []
    ∷ Calls Writing 6 []
    ∷ Calls Writing 5 []
    ∷ Hears Reading
    ∷ Calls Reading 6 []
    ∷ Moves Reading NoGuest
    ∷ Hears Writing
    ∷ Drops Writing
    ∷ Moves Reading AGuest
    ∷ Calls Reading 4 []
    ∷ Turns [] []
    ∷ Turns [] []
    ∷ Drops Reading
    ∷ [])
    ≡ Some (codes.Blocked) ∷ Some (codes.Completed 5) ∷ Some (codes.Blocked) ∷ Some (codes.Completed 5) ∷ Some (codes.Completed 5) ∷ Some (codes.Completed 5) ∷ Some (codes.Dropped 0) ∷ []
unfolding course_by
row-7 = refl

row-9 : codes_of AStream
    (Begins 0
    ∷ Moves Reading AGuest
    ∷ Calls Reading 4 (poll 0 answers.Pending ∷ [])
    ∷ Turns (poll 0 answers.Pending ∷ []) []
    ∷ Turns (poll 0 answers.Pending ∷ []) []
    ∷ Turns (poll 0 answers.Pending ∷ []) []
    ∷ Turns (poll 0 answers.Pending ∷ []) []
    ∷ Turns (poll 3 answers.Completed ∷ []) []
    ∷ Hears Reading
    ∷ Calls Reading 0 (poll 0 answers.Pending ∷ [])
    ∷ Cancels Reading
    ∷ Turns (poll 0 answers.Cancelled ∷ []) []
    ∷ Hears Reading
    ∷ Calls Reading 1 (poll 0 answers.Pending ∷ [])
    ∷ Turns (poll 0 answers.Pending ∷ []) []
    ∷ Hears Reading
    ∷ Turns (poll 0 answers.Pending ∷ []) []
    ∷ Cancels Reading
    ∷ Turns (poll 0 answers.Cancelled ∷ []) []
    ∷ Hears Reading
    ∷ Calls Reading 3 (poll 0 answers.Pending ∷ [])
    ∷ Turns (poll 0 answers.Pending ∷ []) []
    ∷ [])
    ≡ Some (codes.Blocked) ∷ Some (codes.Completed 3) ∷ Some (codes.Blocked) ∷ Some (codes.Blocked) ∷ Some (codes.Cancelled 0) ∷ Some (codes.Blocked) ∷ None ∷ Some (codes.Blocked) ∷ Some (codes.Cancelled 0) ∷ Some (codes.Blocked) ∷ []
unfolding course_by
row-9 = refl

row-10 : codes_of AStream
    (Begins 0
    ∷ Turns [] []
    ∷ Moves Reading AHost
    ∷ Turns (poll 5 answers.Dropped ∷ []) (poll 0 answers.Pending ∷ [])
    ∷ Turns [] (poll 0 answers.Pending ∷ [])
    ∷ Turns [] (poll 0 answers.Pending ∷ [])
    ∷ Turns [] (poll 3 answers.Completed ∷ [])
    ∷ Turns [] (poll 1 answers.Completed ∷ [])
    ∷ Turns [] (poll 0 answers.Pending ∷ [])
    ∷ Turns [] (poll 0 answers.Pending ∷ [])
    ∷ Turns [] (poll 1 answers.Completed ∷ [])
    ∷ Turns [] []
    ∷ [])
    ≡ []
unfolding course_by
row-10 = refl

row-11 : codes_of AStream
    (Begins 0
    ∷ Moves Reading AGuest
    ∷ Calls Reading 6 (poll 3 answers.Completed ∷ [])
    ∷ Turns [] []
    ∷ Turns [] []
    ∷ Calls Reading 8 (poll 0 answers.Pending ∷ [])
    ∷ Turns (poll 0 answers.Pending ∷ []) []
    ∷ Turns (poll 0 answers.Pending ∷ []) []
    ∷ Turns (poll 5 answers.Completed ∷ []) []
    ∷ Hears Reading
    ∷ Moves Reading NoGuest
    ∷ Moves Reading AGuest
    ∷ Moves Reading NoGuest
    ∷ Moves Reading AGuest
    ∷ Moves Reading NoGuest
    ∷ Moves Reading AGuest
    ∷ Drops Reading
    ∷ [])
    ≡ Some (codes.Completed 3) ∷ Some (codes.Blocked) ∷ Some (codes.Completed 5) ∷ []
unfolding course_by
row-11 = refl

row-12 : codes_of Future
    (Begins 0
    ∷ Moves Reading AHost
    ∷ Turns (poll 0 answers.Pending ∷ []) []
    ∷ Turns (poll 0 answers.Pending ∷ []) []
    ∷ Turns (poll 0 answers.Pending ∷ []) []
    ∷ Turns (poll 0 answers.Pending ∷ []) []
    ∷ Turns (poll 0 answers.Pending ∷ []) []
    ∷ Turns (poll 0 answers.Pending ∷ []) []
    ∷ Turns (poll 1 answers.Completed ∷ []) (poll 1 answers.Completed ∷ [])
    ∷ [])
    ≡ []
unfolding course_by
row-12 = refl

row-13 : codes_of Future
    (Calls Writing 1 []
    ∷ Calls Reading 1 []
    ∷ Hears Writing
    ∷ Drops Writing
    ∷ Turns [] []
    ∷ Turns [] []
    ∷ Drops Reading
    ∷ [])
    ≡ Some (codes.Blocked) ∷ Some (codes.Completed 0) ∷ Some (codes.Completed 0) ∷ []
unfolding course_by
row-13 = refl

row-14 : codes_of Future
    (Calls Reading 1 []
    ∷ Calls Writing 1 []
    ∷ Hears Reading
    ∷ Hears Writing
    ∷ Hears Reading
    ∷ Turns [] []
    ∷ Turns [] []
    ∷ Hears Writing
    ∷ Drops Reading
    ∷ Drops Writing
    ∷ [])
    ≡ Some (codes.Blocked) ∷ Some (codes.Completed 0) ∷ Some (codes.Completed 0) ∷ None ∷ None ∷ None ∷ []
unfolding course_by
row-14 = refl

row-15 : codes_of Future
    (Begins 0
    ∷ Turns [] []
    ∷ Turns [] []
    ∷ Moves Reading AGuest
    ∷ Moves Reading AGuest
    ∷ Hears Reading
    ∷ Moves Reading AGuest
    ∷ Moves Reading AGuest
    ∷ Calls Reading 1 (poll 0 answers.Pending ∷ [])
    ∷ Turns (poll 0 answers.Pending ∷ []) []
    ∷ Turns (poll 0 answers.Pending ∷ []) []
    ∷ Turns (poll 0 answers.Pending ∷ []) []
    ∷ Cancels Reading
    ∷ Turns (poll 0 answers.Cancelled ∷ []) []
    ∷ Hears Reading
    ∷ Calls Reading 1 (poll 0 answers.Pending ∷ [])
    ∷ Cancels Reading
    ∷ [])
    ≡ None ∷ Some (codes.Blocked) ∷ Some (codes.Blocked) ∷ Some (codes.Cancelled 0) ∷ Some (codes.Blocked) ∷ Some (codes.Blocked) ∷ []
unfolding course_by
row-15 = refl

row-16 : codes_of AStream
    (Calls Writing 7 []
    ∷ Turns [] []
    ∷ Turns [] []
    ∷ Moves Reading NoGuest
    ∷ Cancels Writing
    ∷ Moves Writing AGuest
    ∷ Moves Writing AGuest
    ∷ Calls Writing 0 []
    ∷ Moves Reading AGuest
    ∷ Drops Reading
    ∷ Hears Writing
    ∷ Drops Writing
    ∷ [])
    ≡ Some (codes.Blocked) ∷ Some (codes.Cancelled 0) ∷ Some (codes.Blocked) ∷ Some (codes.Dropped 0) ∷ []
unfolding course_by
row-16 = refl

row-18 : codes_of AStream
    (Moves Reading NoGuest
    ∷ Moves Reading AHost
    ∷ Calls Writing 8 (poll 0 answers.Pending ∷ [])
    ∷ Turns [] (poll 0 answers.Pending ∷ [])
    ∷ Cancels Writing
    ∷ Turns [] (poll 6 answers.Completed ∷ [])
    ∷ Hears Writing
    ∷ Turns [] []
    ∷ Turns [] []
    ∷ [])
    ≡ Some (codes.Blocked) ∷ Some (codes.Blocked) ∷ Some (codes.Completed 6) ∷ []
unfolding course_by
row-18 = refl

row-19 : codes_of Future
    (Moves Reading NoGuest
    ∷ Drops Reading
    ∷ Hears Writing
    ∷ Turns [] []
    ∷ Turns [] []
    ∷ Drops Writing
    ∷ [])
    ≡ Some (codes.Dropped 0) ∷ []
unfolding course_by
row-19 = refl

row-21 : codes_of Future
    (Calls Writing 1 []
    ∷ Hears Writing
    ∷ Moves Reading NoGuest
    ∷ Moves Reading AHost
    ∷ Hears Writing
    ∷ Turns [] (poll 0 answers.Pending ∷ [])
    ∷ Turns [] (poll 0 answers.Pending ∷ [])
    ∷ Cancels Writing
    ∷ Turns [] (poll 0 answers.Cancelled ∷ [])
    ∷ Hears Writing
    ∷ Calls Writing 1 (poll 0 answers.Pending ∷ [])
    ∷ Turns [] (poll 0 answers.Pending ∷ [])
    ∷ Hears Writing
    ∷ Turns [] (poll 0 answers.Pending ∷ [])
    ∷ Cancels Writing
    ∷ Turns [] (poll 1 answers.Completed ∷ [])
    ∷ Turns [] []
    ∷ Hears Writing
    ∷ Turns [] []
    ∷ Drops Writing
    ∷ [])
    ≡ Some (codes.Blocked) ∷ None ∷ None ∷ Some (codes.Blocked) ∷ Some (codes.Cancelled 0) ∷ Some (codes.Blocked) ∷ None ∷ Some (codes.Blocked) ∷ Some (codes.Completed 0) ∷ []
unfolding course_by
row-21 = refl

row-22 : codes_of Future
    (Calls Writing 1 []
    ∷ Calls Reading 1 []
    ∷ Drops Reading
    ∷ Cancels Writing
    ∷ Hears Writing
    ∷ Turns [] []
    ∷ Drops Writing
    ∷ Turns [] []
    ∷ [])
    ≡ Some (codes.Blocked) ∷ Some (codes.Completed 0) ∷ Some (codes.Completed 0) ∷ None ∷ []
unfolding course_by
row-22 = refl

row-23 : codes_of Future
    (Begins 0
    ∷ Moves Reading AGuest
    ∷ Calls Reading 1 (poll 0 answers.Pending ∷ [])
    ∷ Turns (poll 1 answers.Completed ∷ []) []
    ∷ Hears Reading
    ∷ Hears Reading
    ∷ Turns [] []
    ∷ Turns [] []
    ∷ Drops Reading
    ∷ [])
    ≡ Some (codes.Blocked) ∷ Some (codes.Completed 0) ∷ None ∷ []
unfolding course_by
row-23 = refl
