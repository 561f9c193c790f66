-- Return codes as words.
-- Canonical ABI, `pack_copy_result` and `BLOCKED`; wasmtime, `ReturnCode::encode`.
use Rattle.std.specs.Prelude.{ℕ, ◌+◌, ◌*◌, ◌/◌, ◌%◌, ◌==◌, if◌then◌else◌, Option, Some, None}
use Rattle.strm_codes.specs.declared.codes.ReturnCode.{ReturnCode}
use Rattle.strm_codes.specs.declared.codes.ReturnCode.TheVariants.{Blocked, Completed, Dropped, Cancelled}
use Rattle.strm_codes.specs.declared.codes.TransmitKind.{TransmitKind}
use Rattle.strm_codes.specs.declared.codes.TransmitKind.TheVariants.{Stream, Future}

-- the word of a code: the count above four bits that say how it ended
abbrev pub word_of : ReturnCode → ℕ
word_of Blocked = 4294967295
word_of (Completed n) = 16 * n
word_of (Dropped n) = 16 * n + 1
word_of (Cancelled n) = 16 * n + 2

-- the code that has these four bits and this count
abbrev pub code_with : ℕ → ℕ → Option ReturnCode
code_with bits n =
    if bits == 0 then Some (Completed n)
    else (if bits == 1 then Some (Dropped n)
    else (if bits == 2 then Some (Cancelled n) else None))

-- the code of a word, where it has one
abbrev pub code_of : ℕ → Option ReturnCode
code_of word = if word == 4294967295 then Some Blocked else code_with (word % 16) (word / 16)

-- the items that a code speaks of
abbrev pub count_of_code : ReturnCode → ℕ
count_of_code Blocked = 0
count_of_code (Completed n) = n
count_of_code (Dropped n) = n
count_of_code (Cancelled n) = n

-- Completed as it is reported: a future's carries no count
abbrev pub completed_code : TransmitKind → ℕ → ReturnCode
completed_code Stream n = Completed n
completed_code Future n = Completed 0
