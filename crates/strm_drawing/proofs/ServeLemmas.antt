-- What is written of a script that is drawn.
use Rattle.std.specs.Prelude.{IfSome}
use Rattle.std.proofs.Common.{◌≡◌, ◌≢◌, ◌⊎◌, inl, inr, ℕ, ◌≤◌, List, [], Option, Some, None, sym, subst, arith}
use Rattle.std.specs.Io.KnownBytes.{Appends, IsAtEnd}
use Rattle.strm_buffers.specs.Tells.{Tells}
use Rattle.strm_codes.specs.Counters.{Rose}
use Rattle.strm_input_output.specs.Faults.{TakesPart}
use Rattle.strm_input_output.specs.Serving.{Port, Writes}
use Rattle.strm_input_output.proofs.ServingLemmas.{source_of_input}
use Rattle.strm_session.specs.Serving.{IsStatusOfLines, IsStopStatus}
use Rattle.strm_drawing.specs.Serving.{IsOfDrawing}

module _ {rest : Option (List ℕ)} {old new : Tells} {before after status : ℕ} {text : List ℕ} where
  -- what is told of an input that was read is told of its source, which is at its end then
  pub told_of_source : (left : Option (List ℕ)) (input : List ℕ) → IfSome left (λ bytes. input ≡ bytes) → IsAtEnd rest → IsOfDrawing (Some input) (Some []) old new before after status text → IsOfDrawing left rest old new before after status text
  told_of_source None input e end h = record {
    source = source_of_input None input e end h.source;
    drawn = λ _. tt;
    bad_line = λ s. let bad = h.bad_line s in (bad.0, tt, bad.2);
    unrun = h.unrun;
  }
  told_of_source (Some bytes) input e end h =
      let k = subst (λ b. IsOfDrawing (Some b) (Some []) old new before after status text) e h in
      record {
        source = source_of_input (Some bytes) input e end h.source;
        drawn = k.drawn;
        bad_line = k.bad_line;
        unrun = k.unrun;
      }

  -- the statuses of what is told
  pub told_known : {left : Option (List ℕ)} → IsOfDrawing left rest old new before after status text → (status ≤ 4) ⊎ IsStopStatus status
  told_known h = by h.source.known
    where
      by : IsStatusOfLines status ⊎ ((status ≡ 3) ⊎ (status ≡ 4)) → (status ≤ 4) ⊎ IsStopStatus status
      by (inl (inl e)) = inl (omega (arith, e))
      by (inl (inr (inl e))) = inl (omega (arith, e))
      by (inl (inr (inr s))) = inr s
      by (inr (inl e)) = inl (omega (arith, e))
      by (inr (inr e)) = inl (omega (arith, e))

-- of such a status
pub unfailed : {status : ℕ} → (status ≤ 4) ⊎ IsStopStatus status → (status ≢ 5) × (status ≢ 9) × (status ≤ 9)
unfailed (inl l) = ((λ e. omega (arith, l, e)), (λ e. omega (arith, l, e)), omega (arith, l))
unfailed (inr s) =
    let a = s.0 in
    let b = s.1 in
    ((λ e. omega (arith, a, e)), (λ e. omega (arith, b, e)), omega (arith, b))

module _ (IsText : ℕ → List ℕ → Type 0) (old new : Port) (answered : ℕ) where
  -- a text that goes with a status was written
  pub writes_answer : (status : ℕ) (text : List ℕ) → IsText status text → (answered ≢ 5 → (answered ≡ status) × Appends old.bytes new.bytes text) → (answered ≡ 5 → TakesPart old.bytes new.bytes text) → (answered ≡ 5 → Rose old.faults new.faults) → Writes IsText old new answered
  writes_answer status text is told part fault = record {
    told = λ ended memory. let t = told ended in (text, subst (λ s. IsText s text) (sym t.0) is, t.1);
    part = λ failed. (status, text, is, part failed);
    write_fault = fault;
  }

  -- nothing was, for running out of memory
  pub writes_nothing : answered ≡ 9 → Writes IsText old new answered
  writes_nothing e = record {
    told = λ ended memory. absurd (memory e);
    part = λ failed. absurd (omega (arith, e, failed));
    write_fault = λ failed. absurd (omega (arith, e, failed));
  }
