use Rattle.std.proofs.Common.{◌≡◌, ℕ, ◌<◌, replicate, length, ap, ◌∙◌, arith, ⊎_elim}
use Rattle.std.proofs.lemmas.Bool.{cases_lt}
use Rattle.std.proofs.lemmas.List.{get_or-replicate, get_or_past, length-replicate}
use Rattle.strm_levels.specs.Counts.{count_at}
use Rattle.strm_base_tests.proofs.levels.next_of.Goals as goal

-- where none has any, each has none
none_of : (many number : ℕ) → count_at (replicate many 0) number ≡ 0
none_of many number =
    ⊎_elim
    (λ inside. get_or-replicate many number 0 0 inside)
    (λ past. get_or_past (replicate many 0) number 0 (omega (arith, past, length-replicate {A = ℕ} many 0)))
    (cases_lt number many)

pub raise-requires : goal.raise-requires
raise-requires c = omega (arith, ap (λ counts. count_at counts c.args.number) c.in_ok-levels.ensures ∙ none_of c.args.many c.args.number)
