-- What is written where there is no tape.
use Rattle.std.proofs.Common.{◌≡◌, ℕ, ◌≤◌, ◌<◌, List, length, Option, rules}
use Rattle.std.specs.Prelude.{IfSome}
use Rattle.strm_codes.specs.Counters.{Rose}
use Rattle.strm_lines.specs.Text.{too_long_text, read_fault_text}
use Rattle.strm_tape_program.specs.Reading.{most_bytes, IsSpelling, IsNoTape}
use Rattle.strm_tape_program.specs.Texts.{not_a_tape_text}

module _ (left : Option (List ℕ)) (before after : ℕ) (text : List ℕ) where
  pub none_too_long : IfSome left (λ bytes. most_bytes < length bytes) → text ≡ too_long_text → IsNoTape left before after 3 text
  none_too_long why is = search (rules, why, is)

  pub none_read : Rose before after → text ≡ read_fault_text → IsNoTape left before after 4 text
  none_read why is = search (rules, why, is)

  pub none_spelled : IfSome left (λ bytes. (length bytes ≤ most_bytes) × (IsSpelling bytes → ⊥)) → text ≡ not_a_tape_text → IsNoTape left before after 11 text
  none_spelled why is = search (rules, why, is)
