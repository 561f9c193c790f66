-- What a program tells of its source, and what it wrote.
use Rattle.std.specs.Prelude.{IfSome}
use Rattle.std.proofs.Common.{◌≡◌, ◌≢◌, ◌⊎◌, inl, inr, ℕ, List, [], Option, Some, None, sym, ◌∙◌, subst}
use Rattle.std.proofs.lemmas.Bool.{cases_eq}
use Rattle.std.specs.Io.KnownBytes.{IsAtEnd}
use Rattle.strm_codes.specs.Counters.{Rose}
use Rattle.strm_input_output.specs.Serving.{IsOfSource, IsOfWords, IsOr}

module _ {IsRead : ℕ → Type 0} {IsTooLong : List ℕ → Type 0} {rest : Option (List ℕ)} {before after status : ℕ} {text : List ℕ} where
  -- what is told of an input that was read is told of its source, which is at its end then
  pub source_of_input : (left : Option (List ℕ)) (input : List ℕ) → IfSome left (λ bytes. input ≡ bytes) → IsAtEnd rest → IsOfSource IsRead IsTooLong (Some input) (Some []) before after status text → IsOfSource IsRead IsTooLong left rest before after status text
  source_of_input None input e end h = record {
    known = h.known;
    too_long = λ s. (tt, (h.too_long s).1);
    read_fault = h.read_fault;
    within = λ _. tt;
    whole = λ _. end;
  }
  source_of_input (Some bytes) input e end h =
      let k = subst (λ b. IsOfSource IsRead IsTooLong (Some b) (Some []) before after status text) e h in
      record {
        known = k.known;
        too_long = k.too_long;
        read_fault = k.read_fault;
        within = k.within;
        whole = λ _. end;
      }

  -- an input that is neither too long nor failed to be read was read
  pub is_read : {left : Option (List ℕ)} → IsOfSource IsRead IsTooLong left rest before after status text → status ≢ 3 → status ≢ 4 → IsRead status
  is_read {left} h long fault = by h.known
    where
      by : IsRead status ⊎ ((status ≡ 3) ⊎ (status ≡ 4)) → IsRead status
      by (inl r) = r
      by (inr (inl e)) = absurd (long e)
      by (inr (inr e)) = absurd (fault e)

-- A FAULTLESS INPUT

-- of a source that has this input left, of which the program is asked something, where it does not fail
module _ {Asked : Type 0} {usage_text : List ℕ} {IsRead : ℕ → Type 0} {IsTooLong : List ℕ → Type 0} {left rest : Option (List ℕ)} {before after status : ℕ} {text : List ℕ} (h : IsOfWords Asked usage_text (IsOfSource IsRead IsTooLong left rest before after) status text) where
  module _ (input : List ℕ) (asked : Asked) (is : left ≡ Some input) (calm : Rose before after → ⊥) where
    of_source : IsOfSource IsRead IsTooLong (Some input) rest before after status text
    of_source = subst (λ l. IsOfSource IsRead IsTooLong l rest before after status text) is (h.asked (λ q. (h.usage q).0 asked)).1

    not_fault : status ≢ 4
    not_fault q = calm (of_source.read_fault q).0

    -- one within the limit is read
    pub read_of : (IsTooLong input → ⊥) → IsRead status
    read_of short = is_read of_source (λ q. short (of_source.too_long q).0) not_fault

    -- and one over it is told
    pub too_long_of : IsTooLong input → status ≡ 3
    too_long_of long = by (cases_eq status 3)
      where
        by : (status ≡ 3) ⊎ (status ≢ 3) → status ≡ 3
        by (inl e) = e
        by (inr n) = absurd (of_source.within (is_read of_source n not_fault) long)

  -- where it is asked nothing that it does, it tells how it is called
  pub usage_of : (Asked → ⊥) → status ≡ 1
  usage_of none = by (cases_eq status 1)
    where
      by : (status ≡ 1) ⊎ (status ≢ 1) → status ≡ 1
      by (inl e) = e
      by (inr n) = absurd (none (h.asked n).0)

-- WRITING

-- the status that `write_answer` answers, where the sink does not fail, is the one that was meant
pub written : (answered status : ℕ) {Taken Fault : Type 0} → (answered ≢ 5 → (answered ≡ status) × Taken) → (answered ≡ 5 → Fault) → (Fault → ⊥) → answered ≡ status
written answered status told fault calm = (told (λ five. calm (fault five))).0

pub is_or : (answered status expected : ℕ) {Taken Fault : Type 0} → (answered ≢ 5 → (answered ≡ status) × Taken) → (answered ≡ 5 → Fault) → (Fault → ⊥) → status ≡ expected → IsOr expected answered
is_or answered status expected told fault calm e = inl (written answered status told fault calm ∙ e)
