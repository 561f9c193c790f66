-- What a status tells.
use Rattle.std.specs.Prelude.{IfSome}
use Rattle.std.proofs.Common.{◌≡◌, ◌≢◌, ◌⊎◌, ℕ, ◌≤◌, List, length, Option, Some, None, sym, ap, ◌∙◌, subst, arith, inl, inr}
use Rattle.std.specs.Io.KnownBytes.{IsAtEnd}
use Rattle.std.proofs.lemmas.Bool.{cases_eq}
use Rattle.strm_codes.specs.Counters.{Rose}
use Rattle.strm_input_output.specs.Serving.{IsOfSource}
use Rattle.strm_lines.specs.Text.{too_long_text, read_fault_text}
use Rattle.strm_chain.specs.declared.stages.Stage.{Stage}
use Rattle.strm_chain.specs.Asking.{Asks, IsChainAsked}
use Rattle.strm_chain.specs.Serving.{chain_usage_text, IsChainTooLong, IsPipedBy, IsPiped, IsOfStages, IsChainOutput, IsChainStatus}
use Rattle.strm_chain.proofs.AskingLemmas.{one_chain}

-- what is piped by these stages is piped by all that the words ask for, which are these
piped : (words : List (List ℕ)) (chunk : ℕ) (stages : List Stage) → Asks words chunk stages → (input text : List ℕ) → IsPipedBy chunk stages input text → IsPiped words input text
piped words chunk stages a input text p other more b = let same = one_chain words chunk other stages more a b in rw (same.0, same.1) at p

-- a status that is no piped output says nothing of one
undone : {status n : ℕ} {P : Type 0} → status ≡ n → n ≢ 0 → status ≡ 0 → P
undone s other q = absurd (other (sym s ∙ q))

module _ {words : List (List ℕ)} {before after : ℕ} where
  -- other words
  pub told_other : (left rest : Option (List ℕ)) (status : ℕ) (text : List ℕ) → ¬ IsChainAsked words → status ≡ 1 → text ≡ chain_usage_text → IsChainOutput words left rest before after status text
  told_other left rest status text a s t = record {
    by_words = record { usage = λ _. (a, t); asked = λ n. absurd (n s) };
    done = undone s (λ e. omega (arith, e));
  }

  module _ (chunk : ℕ) (stages : List Stage) (a : Asks words chunk stages) where
    -- the words ask for these stages, which come to this
    of_source : (left rest : Option (List ℕ)) (status : ℕ) (text : List ℕ) → status ≢ 1 → IsOfSource IsOfStages IsChainTooLong left rest before after status text → (status ≡ 0 → IfSome left (λ input. IsPiped words input text)) → IsChainOutput words left rest before after status text
    of_source left rest status text n source done = record {
      by_words = record { usage = λ q. absurd (n q); asked = λ _. ((chunk, stages, a), source) };
      done = done;
    }

    -- an input over the limit
    pub told_far : (left rest : Option (List ℕ)) (status : ℕ) (text : List ℕ) → IfSome left IsChainTooLong → status ≡ 3 → text ≡ too_long_text → IsChainOutput words left rest before after status text
    told_far left rest status text l s t =
        let not_done : status ≢ 0 = λ q. omega (arith, s, q) in
        of_source left rest status text (λ q. omega (arith, s, q)) (record {
          known = inr (inl s);
          too_long = λ _. (l, t);
          read_fault = λ q. absurd (omega (arith, s, q));
          within = λ q. absurd (not_done q);
          whole = λ q. absurd (not_done q);
        }) (λ q. absurd (not_done q))

    -- a source that failed
    pub told_fault : (left rest : Option (List ℕ)) (status : ℕ) (text : List ℕ) → Rose before after → status ≡ 4 → text ≡ read_fault_text → IsChainOutput words left rest before after status text
    told_fault left rest status text r s t =
        let not_done : status ≢ 0 = λ q. omega (arith, s, q) in
        of_source left rest status text (λ q. omega (arith, s, q)) (record {
          known = inr (inr s);
          too_long = λ q. absurd (omega (arith, s, q));
          read_fault = λ _. (r, t);
          within = λ q. absurd (not_done q);
          whole = λ q. absurd (not_done q);
        }) (λ q. absurd (not_done q))

    -- an input that was read
    pub told_done : (left rest : Option (List ℕ)) (input : List ℕ) (status : ℕ) (text : List ℕ) → IfSome left (λ bytes. input ≡ bytes) → IsAtEnd rest → length input ≤ 65536 → status ≡ 0 → IsPipedBy chunk stages input text → IsChainOutput words left rest before after status text
    told_done left rest input status text r end few s p =
        of_source left rest status text (λ q. omega (arith, s, q)) (record {
          known = inl s;
          too_long = λ q. absurd (omega (arith, s, q));
          read_fault = λ q. absurd (omega (arith, s, q));
          within = λ _. short left r;
          whole = λ _. end;
        }) (λ _. of_left left r)
      where
        of_left : (left : Option (List ℕ)) → IfSome left (λ bytes. input ≡ bytes) → IfSome left (λ bytes. IsPiped words bytes text)
        of_left None r = tt
        of_left (Some bytes) r = subst (λ b. IsPiped words b text) r (piped words chunk stages a input text p)

        short : (left : Option (List ℕ)) → IfSome left (λ bytes. input ≡ bytes) → IfSome left (λ bytes. ¬ IsChainTooLong bytes)
        short None r = tt
        short (Some bytes) r = λ l. omega (arith, few, l, ap length r)

-- the statuses of a text
module _ {words : List (List ℕ)} {left rest : Option (List ℕ)} {before after status : ℕ} {text : List ℕ} (h : IsChainOutput words left rest before after status text) where
  known : (status ≡ 1) ⊎ ((status ≡ 0) ⊎ ((status ≡ 3) ⊎ (status ≡ 4)))
  known = by (cases_eq status 1)
    where
      by : (status ≡ 1) ⊎ (status ≢ 1) → (status ≡ 1) ⊎ ((status ≡ 0) ⊎ ((status ≡ 3) ⊎ (status ≡ 4)))
      by (inl e) = inl e
      by (inr n) = inr (h.by_words.asked n).1.known

  pub unfailed : (status ≢ 5) × (status ≢ 9)
  unfailed = by known
    where
      by : (status ≡ 1) ⊎ ((status ≡ 0) ⊎ ((status ≡ 3) ⊎ (status ≡ 4))) → (status ≢ 5) × (status ≢ 9)
      by (inl e) = (λ q. omega (arith, e, q), λ q. omega (arith, e, q))
      by (inr (inl e)) = (λ q. omega (arith, e, q), λ q. omega (arith, e, q))
      by (inr (inr (inl e))) = (λ q. omega (arith, e, q), λ q. omega (arith, e, q))
      by (inr (inr (inr e))) = (λ q. omega (arith, e, q), λ q. omega (arith, e, q))

  -- and what is answered by `write_answer`
  pub written_known : (answered : ℕ) {Taken : Type 0} → (answered ≢ 5 → (answered ≡ status) × Taken) → IsChainStatus answered
  written_known answered told = by (cases_eq answered 5)
    where
      of : (status ≡ 1) ⊎ ((status ≡ 0) ⊎ ((status ≡ 3) ⊎ (status ≡ 4))) → answered ≡ status → IsChainStatus answered
      of (inl e) q = inl (omega (arith, e, q))
      of (inr (inl e)) q = inl (omega (arith, e, q))
      of (inr (inr (inl e))) q = inr (inl (omega (arith, e, q), omega (arith, e, q)))
      of (inr (inr (inr e))) q = inr (inl (omega (arith, e, q), omega (arith, e, q)))

      by : (answered ≡ 5) ⊎ (answered ≢ 5) → IsChainStatus answered
      by (inl e) = inr (inl (omega (arith, e), omega (arith, e)))
      by (inr n) = of known (told n).0
