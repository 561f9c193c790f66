-- What `write_answer` writes is what a program writes with the status that it answers.
use Rattle.std.proofs.Common.{◌≡◌, ◌≢◌, ℕ, List, sym, subst, arith}
use Rattle.std.specs.Io.KnownBytes.{Appends}
use Rattle.strm_codes.specs.Counters.{Rose}
use Rattle.strm_input_output.specs.Faults.{TakesPart}
use Rattle.strm_input_output.specs.Serving.{Port, Writes}

module _ (IsText : ℕ → List ℕ → Type 0) (old new : Port) (answered : ℕ) where
  -- a text that goes with a status
  pub writes_answer : (status : ℕ) (text : List ℕ) → IsText status text → (answered ≢ 5 → (answered ≡ status) × Appends old.bytes new.bytes text) → (answered ≡ 5 → TakesPart old.bytes new.bytes text) → (answered ≡ 5 → Rose old.faults new.faults) → Writes IsText old new answered
  writes_answer status text is told part fault = record {
    told = λ ended memory. let t = told ended in (text, subst (λ s. IsText s text) (sym t.0) is, t.1);
    part = λ failed. (status, text, is, part failed);
    write_fault = fault;
  }

  -- nothing, where memory had run out
  pub writes_nothing : answered ≡ 9 → Writes IsText old new answered
  writes_nothing e = record {
    told = λ ended memory. absurd (memory e);
    part = λ failed. absurd (omega (arith, e, failed));
    write_fault = λ failed. absurd (omega (arith, e, failed));
  }
