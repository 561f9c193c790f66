-- What a call of host ends changes in what they tell. Ours.
use Rattle.std.specs.Prelude.{◌≡◌, ℕ, List}
use Rattle.strm_buffers.specs.Tells.{Tells, told_by, with_told, writer_fed, told_by_reader, with_told_reader, reader_tells_closed, reader_granted}

-- no end but host writer n tells anything else
abbrev pub OnlyWriter : ℕ → Tells → Tells → Type 0
OnlyWriter n tells told = told ≡ with_told tells n (told_by told n)

-- no end but host reader r does
abbrev pub OnlyReader : ℕ → Tells → Tells → Type 0
OnlyReader r tells told = told ≡ with_told_reader tells r (told_by_reader told r)

-- no end but these two does
abbrev pub OnlyPipe : ℕ → ℕ → Tells → Tells → Type 0
OnlyPipe n r tells told =
    told ≡ with_told_reader (with_told tells n (told_by told n)) r (told_by_reader told r)

-- host writer n was fed bytes
abbrev pub fed_at : Tells → ℕ → List ℕ → Tells
fed_at tells n bytes = with_told tells n (writer_fed (told_by tells n) bytes)

-- host reader r was granted items
abbrev pub granted_at : Tells → ℕ → ℕ → Tells
granted_at tells r count = with_told_reader tells r (reader_granted (told_by_reader tells r) count)

-- host reader r was closed
abbrev pub closed_at : Tells → ℕ → Tells
closed_at tells r = with_told_reader tells r (reader_tells_closed (told_by_reader tells r))
