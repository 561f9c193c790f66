-- Courses of single streams, computed: events and codes of streams out of random runs of another
-- implementation of the machine, among them pipes, moves of both ends and host readers.
use Rattle.std.proofs.Common.{◌≡◌, ℕ, [], ◌∷◌, Some, None, refl}
use Rattle.strm_codes.specs.declared.codes.ReturnCode.TheVariants as codes
use Rattle.strm_codes.specs.declared.codes.TransmitKind.TheVariants.{Stream as AStream, Future}
use Rattle.strm_buffers.specs.declared.answers.Answer.{Answer}
use Rattle.strm_buffers.specs.declared.answers.Answer.TheVariants as answers
use Rattle.strm_machine.specs.declared.streams.Side.TheVariants.{Writing, Reading}
use Rattle.strm_host_machine.specs.Courses.{AGuest, NoGuest, AHost, CoursePoll, Begins, Calls, Hears, Cancels, Drops, Moves, Turns, course_by, codes_of}

abbrev poll : ℕ → Answer → CoursePoll
poll n answer = record { items = n; answer = answer }

row-1 : codes_of AStream
    (Calls Writing 0 []
    ∷ Moves Reading AGuest
    ∷ Moves Reading NoGuest
    ∷ Moves Reading AGuest
    ∷ Moves Reading NoGuest
    ∷ Turns [] []
    ∷ Moves Reading AGuest
    ∷ Hears Writing
    ∷ Cancels Writing
    ∷ Calls Reading 0 []
    ∷ Hears Writing
    ∷ Turns [] []
    ∷ Moves Writing AGuest
    ∷ Hears Reading
    ∷ Hears Writing
    ∷ Cancels Reading
    ∷ Calls Reading 0 []
    ∷ Hears Writing
    ∷ Drops Writing
    ∷ Hears Reading
    ∷ [])
    ≡ Some (codes.Blocked) ∷ None ∷ Some (codes.Cancelled 0) ∷ Some (codes.Blocked) ∷ None ∷ None ∷ None ∷ Some (codes.Cancelled 0) ∷ Some (codes.Blocked) ∷ None ∷ Some (codes.Dropped 0) ∷ []
unfolding course_by
row-1 = refl

row-2 : codes_of AStream
    (Calls Reading 6 []
    ∷ Calls Writing 7 []
    ∷ Drops Writing
    ∷ Hears Reading
    ∷ Turns [] []
    ∷ Drops Reading
    ∷ Turns [] []
    ∷ [])
    ≡ Some (codes.Blocked) ∷ Some (codes.Completed 6) ∷ Some (codes.Dropped 6) ∷ []
unfolding course_by
row-2 = refl

row-3 : codes_of AStream
    (Begins 0
    ∷ Turns [] []
    ∷ Drops Reading
    ∷ Turns [] []
    ∷ [])
    ≡ []
unfolding course_by
row-3 = refl

row-4 : codes_of Future
    (Begins 0
    ∷ Moves Reading AGuest
    ∷ Calls Reading 1 (poll 0 answers.Pending ∷ [])
    ∷ Turns (poll 1 answers.Completed ∷ []) []
    ∷ Hears Reading
    ∷ Hears Reading
    ∷ Drops Reading
    ∷ Turns [] []
    ∷ Turns [] []
    ∷ [])
    ≡ Some (codes.Blocked) ∷ Some (codes.Completed 0) ∷ None ∷ []
unfolding course_by
row-4 = refl

row-5 : codes_of AStream
    (Moves Reading NoGuest
    ∷ Moves Reading AHost
    ∷ Calls Writing 5 (poll 2 answers.Dropped ∷ [])
    ∷ Turns [] []
    ∷ Hears Writing
    ∷ Turns [] []
    ∷ Drops Writing
    ∷ [])
    ≡ Some (codes.Dropped 2) ∷ None ∷ []
unfolding course_by
row-5 = refl

row-6 : codes_of Future
    (Moves Reading AGuest
    ∷ Calls Reading 1 []
    ∷ Moves Writing AGuest
    ∷ Calls Writing 1 []
    ∷ Drops Writing
    ∷ Turns [] []
    ∷ Cancels Reading
    ∷ Drops Reading
    ∷ Turns [] []
    ∷ [])
    ≡ Some (codes.Blocked) ∷ Some (codes.Completed 0) ∷ Some (codes.Completed 0) ∷ []
unfolding course_by
row-6 = refl

row-7 : codes_of AStream
    (Calls Writing 1 []
    ∷ Calls Reading 1 []
    ∷ Hears Writing
    ∷ Moves Reading AGuest
    ∷ Calls Writing 2 []
    ∷ Calls Reading 1 []
    ∷ Drops Reading
    ∷ Hears Writing
    ∷ Drops Writing
    ∷ [])
    ≡ Some (codes.Blocked) ∷ Some (codes.Completed 1) ∷ Some (codes.Completed 1) ∷ Some (codes.Blocked) ∷ Some (codes.Completed 1) ∷ Some (codes.Dropped 1) ∷ []
unfolding course_by
row-7 = refl

row-9 : codes_of AStream
    (Moves Writing AGuest
    ∷ Calls Writing 1 []
    ∷ Moves Reading NoGuest
    ∷ Moves Reading AHost
    ∷ Cancels Writing
    ∷ Hears Writing
    ∷ Hears Writing
    ∷ [])
    ≡ Some (codes.Blocked) ∷ Some (codes.Blocked) ∷ None ∷ None ∷ []
unfolding course_by
row-9 = refl

row-10 : codes_of AStream
    (Moves Writing AGuest
    ∷ Calls Writing 5 []
    ∷ Moves Reading NoGuest
    ∷ Moves Reading AGuest
    ∷ Calls Reading 0 []
    ∷ Calls Reading 5 []
    ∷ Moves Reading NoGuest
    ∷ Hears Writing
    ∷ Drops Writing
    ∷ Moves Reading AGuest
    ∷ Calls Reading 2 []
    ∷ Hears Reading
    ∷ Hears Reading
    ∷ Drops Reading
    ∷ [])
    ≡ Some (codes.Blocked) ∷ Some (codes.Completed 0) ∷ Some (codes.Completed 5) ∷ Some (codes.Completed 5) ∷ Some (codes.Dropped 0) ∷ None ∷ None ∷ []
unfolding course_by
row-10 = refl

row-12 : codes_of Future
    (Calls Reading 1 []
    ∷ Calls Writing 1 []
    ∷ Hears Reading
    ∷ Drops Reading
    ∷ Drops Writing
    ∷ [])
    ≡ Some (codes.Blocked) ∷ Some (codes.Completed 0) ∷ Some (codes.Completed 0) ∷ []
unfolding course_by
row-12 = refl

row-13 : codes_of AStream
    (Begins 0
    ∷ Moves Reading AGuest
    ∷ Calls Reading 3 (poll 4 answers.Completed ∷ [])
    ∷ Moves Reading NoGuest
    ∷ Drops Reading
    ∷ [])
    ≡ Some (codes.Completed 3) ∷ []
unfolding course_by
row-13 = refl

row-15 : codes_of AStream
    (Begins 4
    ∷ Moves Reading AGuest
    ∷ Calls Reading 0 []
    ∷ Calls Reading 7 []
    ∷ Turns [] []
    ∷ Calls Reading 7 (poll 0 answers.Pending ∷ [])
    ∷ Turns (poll 3 answers.Completed ∷ []) []
    ∷ Cancels Reading
    ∷ Calls Reading 7 (poll 3 answers.Completed ∷ [])
    ∷ Moves Reading NoGuest
    ∷ Moves Reading AGuest
    ∷ Turns [] []
    ∷ Moves Reading NoGuest
    ∷ Drops Reading
    ∷ [])
    ≡ Some (codes.Completed 0) ∷ Some (codes.Completed 4) ∷ Some (codes.Blocked) ∷ Some (codes.Cancelled 3) ∷ Some (codes.Completed 3) ∷ []
unfolding course_by
row-15 = refl

row-16 : codes_of Future
    (Calls Writing 1 []
    ∷ Cancels Writing
    ∷ Moves Reading NoGuest
    ∷ Calls Writing 1 []
    ∷ Moves Reading AGuest
    ∷ Moves Reading NoGuest
    ∷ Moves Reading AGuest
    ∷ Moves Reading NoGuest
    ∷ Moves Reading AGuest
    ∷ Calls Reading 1 []
    ∷ Drops Reading
    ∷ Hears Writing
    ∷ Turns [] []
    ∷ Turns [] []
    ∷ Drops Writing
    ∷ [])
    ≡ Some (codes.Blocked) ∷ Some (codes.Cancelled 0) ∷ Some (codes.Blocked) ∷ Some (codes.Completed 0) ∷ Some (codes.Completed 0) ∷ []
unfolding course_by
row-16 = refl

row-17 : codes_of AStream
    (Begins 4
    ∷ Moves Reading AHost
    ∷ Turns [] (poll 4 answers.Completed ∷ [])
    ∷ Turns (poll 0 answers.Completed ∷ []) []
    ∷ Turns (poll 0 answers.Completed ∷ []) []
    ∷ Turns (poll 4 answers.Completed ∷ []) (poll 1 answers.Completed ∷ [])
    ∷ Turns [] (poll 0 answers.Pending ∷ [])
    ∷ Turns [] (poll 3 answers.Completed ∷ [])
    ∷ Turns (poll 5 answers.Dropped ∷ []) (poll 5 answers.Completed ∷ [])
    ∷ [])
    ≡ []
unfolding course_by
row-17 = refl

row-18 : codes_of Future
    (Drops Reading
    ∷ Hears Writing
    ∷ Drops Writing
    ∷ Turns [] []
    ∷ Turns [] []
    ∷ [])
    ≡ Some (codes.Dropped 0) ∷ []
unfolding course_by
row-18 = refl

row-19 : codes_of AStream
    (Calls Writing 2 []
    ∷ Moves Reading NoGuest
    ∷ Moves Reading AHost
    ∷ Cancels Writing
    ∷ Turns [] (poll 2 answers.Cancelled ∷ [])
    ∷ Hears Writing
    ∷ Calls Writing 0 (poll 0 answers.Completed ∷ [])
    ∷ Calls Writing 1 (poll 0 answers.Dropped ∷ [])
    ∷ Turns [] []
    ∷ Turns [] []
    ∷ [])
    ≡ Some (codes.Blocked) ∷ Some (codes.Blocked) ∷ Some (codes.Cancelled 2) ∷ Some (codes.Completed 0) ∷ Some (codes.Dropped 0) ∷ []
unfolding course_by
row-19 = refl

row-20 : codes_of AStream
    (Begins 0
    ∷ Turns [] []
    ∷ Turns [] []
    ∷ Moves Reading AGuest
    ∷ Calls Reading 3 (poll 0 answers.Pending ∷ [])
    ∷ Cancels Reading
    ∷ Turns (poll 0 answers.Cancelled ∷ []) []
    ∷ Hears Reading
    ∷ Calls Reading 8 (poll 0 answers.Pending ∷ [])
    ∷ Turns (poll 0 answers.Pending ∷ []) []
    ∷ Turns (poll 0 answers.Pending ∷ []) []
    ∷ Cancels Reading
    ∷ Turns (poll 0 answers.Cancelled ∷ []) []
    ∷ Hears Reading
    ∷ Moves Reading NoGuest
    ∷ Moves Reading AGuest
    ∷ Calls Reading 6 (poll 0 answers.Pending ∷ [])
    ∷ Turns (poll 0 answers.Pending ∷ []) []
    ∷ Cancels Reading
    ∷ [])
    ≡ Some (codes.Blocked) ∷ Some (codes.Blocked) ∷ Some (codes.Cancelled 0) ∷ Some (codes.Blocked) ∷ Some (codes.Blocked) ∷ Some (codes.Cancelled 0) ∷ Some (codes.Blocked) ∷ Some (codes.Blocked) ∷ []
unfolding course_by
row-20 = refl

row-21 : codes_of AStream
    (Moves Reading AGuest
    ∷ Calls Writing 1 []
    ∷ Turns [] []
    ∷ Turns [] []
    ∷ Calls Reading 0 []
    ∷ Moves Reading NoGuest
    ∷ Moves Reading AHost
    ∷ Turns [] (poll 1 answers.Completed ∷ [])
    ∷ Hears Writing
    ∷ Calls Writing 6 (poll 2 answers.Completed ∷ [])
    ∷ Calls Writing 1 (poll 1 answers.Completed ∷ [])
    ∷ Calls Writing 3 (poll 2 answers.Completed ∷ [])
    ∷ Calls Writing 3 (poll 3 answers.Pending ∷ [])
    ∷ [])
    ≡ Some (codes.Blocked) ∷ Some (codes.Completed 0) ∷ Some (codes.Completed 1) ∷ Some (codes.Completed 2) ∷ Some (codes.Completed 1) ∷ Some (codes.Completed 2) ∷ Some (codes.Blocked) ∷ []
unfolding course_by
row-21 = refl

row-22 : codes_of Future
    (Drops Reading
    ∷ Moves Writing AGuest
    ∷ Calls Writing 1 []
    ∷ Hears Writing
    ∷ Turns [] []
    ∷ Turns [] []
    ∷ Drops Writing
    ∷ [])
    ≡ Some (codes.Dropped 0) ∷ None ∷ []
unfolding course_by
row-22 = refl

row-23 : codes_of AStream
    (Begins 0
    ∷ Moves Reading AGuest
    ∷ Calls Reading 0 (poll 0 answers.Pending ∷ [])
    ∷ Cancels Reading
    ∷ Turns (poll 0 answers.Completed ∷ []) []
    ∷ Hears Reading
    ∷ Calls Reading 8 (poll 8 answers.Completed ∷ [])
    ∷ Moves Reading NoGuest
    ∷ Moves Reading AGuest
    ∷ Calls Reading 3 (poll 2 answers.Completed ∷ [])
    ∷ Moves Reading NoGuest
    ∷ Moves Reading AGuest
    ∷ Calls Reading 8 (poll 0 answers.Pending ∷ [])
    ∷ Turns (poll 0 answers.Pending ∷ []) []
    ∷ Turns (poll 0 answers.Pending ∷ []) []
    ∷ Turns (poll 0 answers.Pending ∷ []) []
    ∷ Turns (poll 0 answers.Pending ∷ []) []
    ∷ [])
    ≡ Some (codes.Blocked) ∷ Some (codes.Blocked) ∷ Some (codes.Completed 0) ∷ Some (codes.Completed 8) ∷ Some (codes.Completed 2) ∷ Some (codes.Blocked) ∷ []
unfolding course_by
row-23 = refl

row-24 : codes_of Future
    (Begins 0
    ∷ Moves Reading AGuest
    ∷ Moves Reading NoGuest
    ∷ Moves Reading AGuest
    ∷ Calls Reading 1 (poll 0 answers.Pending ∷ [])
    ∷ Turns (poll 0 answers.Pending ∷ []) []
    ∷ Cancels Reading
    ∷ Turns (poll 0 answers.Cancelled ∷ []) []
    ∷ Hears Reading
    ∷ Calls Reading 1 (poll 0 answers.Pending ∷ [])
    ∷ Turns (poll 1 answers.Completed ∷ []) []
    ∷ Turns [] []
    ∷ Hears Reading
    ∷ [])
    ≡ Some (codes.Blocked) ∷ Some (codes.Blocked) ∷ Some (codes.Cancelled 0) ∷ Some (codes.Blocked) ∷ Some (codes.Completed 0) ∷ []
unfolding course_by
row-24 = refl

row-25 : codes_of Future
    (Moves Reading NoGuest
    ∷ Moves Reading AHost
    ∷ Hears Writing
    ∷ Calls Writing 1 (poll 1 answers.Completed ∷ [])
    ∷ Drops Writing
    ∷ Turns [] []
    ∷ Turns [] []
    ∷ [])
    ≡ None ∷ Some (codes.Completed 0) ∷ []
unfolding course_by
row-25 = refl

row-26 : codes_of Future
    (Calls Writing 1 []
    ∷ Moves Reading NoGuest
    ∷ Moves Reading AHost
    ∷ Cancels Writing
    ∷ Turns [] (poll 1 answers.Completed ∷ [])
    ∷ Turns [] []
    ∷ Turns [] []
    ∷ Hears Writing
    ∷ Hears Writing
    ∷ Drops Writing
    ∷ [])
    ≡ Some (codes.Blocked) ∷ Some (codes.Blocked) ∷ Some (codes.Completed 0) ∷ None ∷ []
unfolding course_by
row-26 = refl

row-27 : codes_of Future
    (Begins 0
    ∷ Moves Reading AGuest
    ∷ Moves Reading AGuest
    ∷ Moves Reading NoGuest
    ∷ Moves Reading AHost
    ∷ Turns (poll 1 answers.Completed ∷ []) (poll 0 answers.Pending ∷ [])
    ∷ Turns [] (poll 1 answers.Pending ∷ [])
    ∷ Turns [] (poll 0 answers.Completed ∷ [])
    ∷ Turns [] []
    ∷ Turns [] []
    ∷ [])
    ≡ []
unfolding course_by
row-27 = refl

row-29 : codes_of Future
    (Moves Writing AGuest
    ∷ Calls Writing 1 []
    ∷ Hears Reading
    ∷ Turns [] []
    ∷ Moves Reading NoGuest
    ∷ Hears Writing
    ∷ Moves Reading AHost
    ∷ Turns [] (poll 1 answers.Pending ∷ [])
    ∷ Cancels Writing
    ∷ Hears Writing
    ∷ Hears Writing
    ∷ Turns [] (poll 0 answers.Completed ∷ [])
    ∷ Hears Writing
    ∷ Drops Writing
    ∷ [])
    ≡ Some (codes.Blocked) ∷ None ∷ None ∷ Some (codes.Blocked) ∷ None ∷ None ∷ Some (codes.Completed 0) ∷ []
unfolding course_by
row-29 = refl
