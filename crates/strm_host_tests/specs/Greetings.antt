-- What a greeting leaves. Ours.
use Rattle.std.specs.Prelude.{◌≡◌, ◌≢◌, ◌⊎◌, [], ◌∷◌, length, take, min}
use Rattle.strm_codes.specs.declared.codes.StreamResult.{StreamResult}
use Rattle.strm_buffers.specs.declared.answers.Turn.{Turn}
use Rattle.strm_buffers.specs.declared.answers.Turn.TheVariants.{Failed}
use Rattle.strm_buffers.specs.Windows.{Lent, with_direct}
use Rattle.strm_host.specs.Producing.{with_written}

-- two bytes, or as many as there is room for
abbrev pub greeted : Lent → Lent
greeted w = let d = with_direct w 2 in with_written d (take (min (length d.unmarked) 2) (7 ∷ 8 ∷ []))

-- they were written; or memory had run out
abbrev pub Greets : Lent → Lent → Type 0
Greets old new = (new ≡ old) ⊎ (new ≡ greeted old)

-- it doesn't fail
abbrev pub NeverFails : Turn StreamResult → Type 0
NeverFails turn = turn ≢ Failed
