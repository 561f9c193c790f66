-- What the links say of a whole chain: what is received behind a stage is the front of what it makes of what
-- was received before it.
use Rattle.std.proofs.Common.{◌≡◌, ℕ, ◌+◌, ◌≤◌, ℤ, List, [], ◌++◌, length, take, Option, Some, None, sym, ap, ◌∙◌, subst, arith}
use Rattle.std.proofs.lemmas.List.{append-nil, take-append-le, take_all}
use Rattle.strm_memory.specs.Bytes.{bytes_at}
use Rattle.strm_machine.specs.Moments.{moved_of}
use Rattle.strm_machine.specs.declared.streams.Operation.{Operation}
use Rattle.strm_chain.specs.declared.stages.Stage.{Stage}
use Rattle.strm_chain.specs.declared.stages.Work.{Work}
use Rattle.strm_chain.specs.Stages.{of, work_begun, work_done, work_left}
use Rattle.strm_chain.specs.Flowing.{as_items}
use Rattle.strm_chain.specs.Linking.{Sends, HoldsIf, Takes}
use Rattle.strm_chain.proofs.StageLemmas.{of_is_done, of-append}
use Rattle.strm_chain.proofs.LinkLemmas.{as_items-append}

-- what a read that waits has moved are bytes
rest_bytes : (g at : ℕ) (memory : List ℕ) (o : Option Operation) (rest : List (Option (List ℤ))) → HoldsIf g at memory o rest → (bytes : List ℕ) × (rest ≡ as_items bytes)
rest_bytes g at memory None rest h = ([], h)
rest_bytes g at memory (Some o) rest h = (bytes_at memory at o.moved, h.lies)

-- what was received before a stage, as bytes, of which it has taken the front
pub record Passes (stage : Stage) (received got : List (Option (List ℤ))) : Type 0 where
  pub bytes : List ℕ
  pub count : ℕ
  pub before : received ≡ as_items bytes
  pub behind : got ≡ as_items (take count (of stage bytes))

pub passes : (stage : Stage) (g at from sent : ℕ) (work : Work) (made memory : List ℕ) (read write : Option Operation) (received got : List (Option (List ℤ))) → Takes g at (work_begun stage) work made memory read received → Sends g from sent made memory write got → Passes stage received got
passes stage g at from sent work made memory read write received got t h =
    let rest = rest_bytes g at memory read t.rest t.holds in
    let k = sent + moved_of write in
    let made_is : made ≡ of stage t.taken = t.makes ∙ of_is_done stage t.taken in
    record {
      bytes = t.taken ++ rest.0;
      count = k;
      before = t.split ∙ ap (λ r. as_items t.taken ++ r) rest.1 ∙ sym (as_items-append t.taken rest.0);
      behind = h.front
          ∙ ap (λ m. as_items (take k m)) made_is
          ∙ ap as_items (sym (take-append-le k (of stage t.taken) (work_done (work_left (work_begun stage) t.taken) rest.0) (subst (λ m. k ≤ length m) made_is h.within)))
          ∙ ap (λ m. as_items (take k m)) (sym (of-append stage t.taken rest.0));
    }

-- where a stage has taken all and handed all over, what is received behind it is what it makes of the whole
module _ (stage : Stage) (g at from sent : ℕ) (work : Work) (made memory bytes : List ℕ)
    (received got : List (Option (List ℤ))) where
  pub passes_all : Takes g at (work_begun stage) work made memory None received → Sends g from sent made memory None got → sent ≡ length made → (taken : List ℕ) × (received ≡ as_items taken) × (got ≡ as_items (of stage taken))
  passes_all t h e = (
    t.taken,
    t.split ∙ ap (λ r. as_items t.taken ++ r) t.holds ∙ append-nil (as_items t.taken),
    h.front ∙ ap as_items (take_all (sent + 0) made (omega (arith, e))) ∙ ap as_items (t.makes ∙ of_is_done stage t.taken),
  )
