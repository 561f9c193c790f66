-- What is kept of replies. Ours.
use Rattle.std.specs.Prelude.{◌≡◌, ℕ, List, length}
use Rattle.std.specs.List.{count_by}
use Rattle.strm_machine.specs.declared.replies.Reply.{Reply}
use Rattle.strm_lines.specs.Text.{reply_lines, is_refusal}
use Rattle.strm_machine.specs.Moments.{is_blocked}

-- a text is the lines of these replies, which are so many
abbrev pub AreLines : List ℕ → ℕ → List Reply → Type 0
AreLines text count told = (text ≡ reply_lines told) × (count ≡ length told)

-- so many of these replies are refusals, so many those of reads and writes that wait, and so many are all
abbrev pub AreRepliesCounted : ℕ → ℕ → ℕ → List Reply → Type 0
AreRepliesCounted refused blocked count told =
    (refused ≡ count_by is_refusal told) × (blocked ≡ count_by is_blocked told) × (count ≡ length told)
