-- Handles after an insert, a removal and a change of an entry: what each number stands for, how many
-- are live, and that the freed numbers stay sound.
use Rattle.std.proofs.Common.{◌≡◌, ◌≢◌, ℕ, zero, suc, ◌+◌, ◌<◌, ◌≤◌, List, [], ◌∷◌, ◌++◌, length, get_or, set, sum_by, Option, Some, None, refl, sym, ap, ◌∙◌, arith, length-append, length-set, ⊎_elim}
use Rattle.std.proofs.lemmas.List.{get_or-set_same, get_or-set_other, get_or_append_left, get_or_past, get_or_push}
use Rattle.std.proofs.lemmas.List.Elements.{All-head, All-tail, All-cons}
use Rattle.std.proofs.lemmas.List.Sums.{sum_by-set, sum_by_push, get_or-le-sum_by}
use Rattle.std.proofs.lemmas.Bool.{cases_lt}
use Rattle.std.specs.Prelude.{All}
use Rattle.strm_handles.specs.Handles.{handle_limit, HandlesOf, Handles, no_handles, entry_in, entry_at, next_of, next_index, entries_with, inserted_in, inserted, removed, with_entry, occupied_in, occupied, IsFreed, IsTable, lends_of, lends_in, live_of}
use Rattle.strm_handles.specs.declared.entries.Entry.{Entry}

module _ {E : Type 0} where
  -- a number that stands for something was given
  pub given : (es : List (Option E)) (n : ℕ) (e : E) → entry_in es n ≡ Some e → (0 < n) × (n ≤ length es)
  given es zero e h = cc
  given es (suc i) e h =
      ⊎_elim (λ l. (omega arith, omega arith)) (λ l. let past = get_or_past es i None l in cc) (cases_lt i (length es))

  pub length-entries_with : (es : List (Option E)) (n : ℕ) (x : Option E) → length (entries_with es n x) ≡ length es
  length-entries_with es zero x = refl
  length-entries_with es (suc i) x = length-set es i x

  pub entry_in-entries_with-same : (es : List (Option E)) (n : ℕ) (x : Option E) → 0 < n → n ≤ length es → entry_in (entries_with es n x) n ≡ x
  entry_in-entries_with-same es zero x p h = absurd (omega arith)
  entry_in-entries_with-same es (suc i) x p h = get_or-set_same es i x None (omega arith)

  pub entry_in-entries_with-other : (es : List (Option E)) (n k : ℕ) (x : Option E) → k ≢ n → entry_in (entries_with es n x) k ≡ entry_in es k
  entry_in-entries_with-other es zero k x ne = refl
  entry_in-entries_with-other es (suc i) zero x ne = refl
  entry_in-entries_with-other es (suc i) (suc j) x ne = get_or-set_other es i j x None (λ e. ne (ap suc e))

  pub entry_in-push-same : (es : List (Option E)) (n : ℕ) (x : Option E) → n ≡ length es + 1 → entry_in (es ++ x ∷ []) n ≡ x
  entry_in-push-same es zero x e = absurd (omega arith)
  entry_in-push-same es (suc j) x e = get_or_push es x None j (omega arith)

  pub entry_in-push-other : (es : List (Option E)) (k : ℕ) (x : Option E) → k ≢ length es + 1 → entry_in (es ++ x ∷ []) k ≡ entry_in es k
  entry_in-push-other es zero x ne = refl
  entry_in-push-other es (suc j) x ne =
      ⊎_elim
      (λ l. get_or_append_left es (x ∷ []) None j l)
      (λ l. let longer : length (es ++ x ∷ []) ≤ j = omega (arith, length-append es (x ∷ [])) in get_or_past (es ++ x ∷ []) j None longer ∙ sym (get_or_past es j None l))
      (cases_lt j (length es))

  -- a sum over the entries, one of which is another now
  pub sum_by-entries_with : (f : Option E → ℕ) (es : List (Option E)) (n : ℕ) (x : Option E) → 0 < n → n ≤ length es → sum_by f (entries_with es n x) + f (entry_in es n) ≡ sum_by f es + f x
  sum_by-entries_with f es zero x p h = absurd (omega arith)
  sum_by-entries_with f es (suc i) x p h = sum_by-set f es i x None (omega arith)

  pub le-sum_by : (f : Option E → ℕ) (es : List (Option E)) (n : ℕ) → 0 < n → n ≤ length es → f (entry_in es n) ≤ sum_by f es
  le-sum_by f es zero p h = absurd (omega arith)
  le-sum_by f es (suc i) p h = get_or-le-sum_by f es i None (omega arith)

  IsFreed-with : (es : List (Option E)) (n k : ℕ) (x : Option E) → k ≢ n → IsFreed es k → IsFreed (entries_with es n x) k
  IsFreed-with es n k x ne f = record {
    some = f.some;
    given = omega (arith, f.given, length-entries_with es n x);
    free = entry_in-entries_with-other es n k x ne ∙ f.free;
  }

  freed-with : (es : List (Option E)) (n : ℕ) (x : Option E) (ns : List ℕ) → All (λ k. n ≢ k) ns → All (IsFreed es) ns → All (IsFreed (entries_with es n x)) ns
  freed-with es n x ns apart free = λ k d l. IsFreed-with es n (get_or ns k d) x (λ e. apart k d l (sym e)) (free k d l)

  -- a number past those given stands for nothing
  entry_in-past : (es : List (Option E)) (n : ℕ) → length es < n → entry_in es n ≡ None
  entry_in-past es zero l = absurd (omega arith)
  entry_in-past es (suc j) l = get_or_past es j None (omega arith)

  first_freed : (es : List (Option E)) (n : ℕ) (ns : List ℕ) → All (IsFreed es) (n ∷ ns) → IsFreed es n
  first_freed es n ns all = All-head (IsFreed es) n ns all

  at_next : (es : List (Option E)) (ns : List ℕ) → IsTable (record { entries = es; freed = ns }) → entry_in es (next_of ns (length es)) ≡ None
  at_next es [] s = entry_in-past es (length es + 1) (omega arith)
  at_next es (n ∷ ns) s = (first_freed es n ns s.free).free

  inserted_same : (es : List (Option E)) (ns : List ℕ) (e : E) → IsTable (record { entries = es; freed = ns }) → entry_at (inserted_in es ns e) (next_of ns (length es)) ≡ Some e
  inserted_same es [] e s = entry_in-push-same es (length es + 1) (Some e) refl
  inserted_same es (n ∷ ns) e s = let f = first_freed es n ns s.free in entry_in-entries_with-same es n (Some e) f.some f.given

  inserted_other : (es : List (Option E)) (ns : List ℕ) (e : E) (k : ℕ) → k ≢ next_of ns (length es) → entry_at (inserted_in es ns e) k ≡ entry_in es k
  inserted_other es [] e k ne = entry_in-push-other es k (Some e) ne
  inserted_other es (n ∷ ns) e k ne = entry_in-entries_with-other es n k (Some e) ne

  -- a sum over the entries after an insert, where nothing adds nothing
  pub inserted_sum : (f : Option E → ℕ) → f None ≡ 0 → (es : List (Option E)) (ns : List ℕ) (e : E) → IsTable (record { entries = es; freed = ns }) → sum_by f (inserted_in es ns e).entries ≡ sum_by f es + f (Some e)
  inserted_sum f zero_none es [] e s = sum_by_push f es (Some e)
  inserted_sum f zero_none es (n ∷ ns) e s =
      let freed = first_freed es n ns s.free in
      let nothing : f (entry_in es n) ≡ 0 = ap f freed.free ∙ zero_none in
      omega (arith, sum_by-entries_with f es n (Some e) freed.some freed.given, nothing)

  sound_inserted : (es : List (Option E)) (ns : List ℕ) (e : E) → IsTable (record { entries = es; freed = ns }) → next_of ns (length es) < handle_limit → IsTable (inserted_in es ns e)
  sound_inserted es [] e s l = record {
    free = λ k d h. absurd (omega arith);
    apart = tt;
    all = omega (arith, s.all, sum_by_push occupied_in es (Some e), length-append es (Some e ∷ []));
    small = omega (arith, l, length-append es (Some e ∷ []));
  }
  sound_inserted es (n ∷ ns) e s l = record {
    free = freed-with es n (Some e) ns s.apart.0 (All-tail (IsFreed es) n ns s.free);
    apart = s.apart.1;
    all = omega (arith, s.all, inserted_sum occupied_in refl es (n ∷ ns) e s, length-entries_with es n (Some e));
    small = omega (arith, s.small, length-entries_with es n (Some e));
  }

  -- a number that stands for something is no freed one
  pub apart-freed : (es : List (Option E)) (ns : List ℕ) (n : ℕ) (e : E) → entry_in es n ≡ Some e → All (IsFreed es) ns → All (λ k. n ≢ k) ns
  apart-freed es ns n e is all = λ k d h same. let free = (all k d h).free in let here = rw (← same) at free in cc

  sound_removed : (es : List (Option E)) (ns : List ℕ) (n : ℕ) (e : E) → entry_in es n ≡ Some e → IsTable (record { entries = es; freed = ns }) → IsTable (record { entries = entries_with es n None; freed = n ∷ ns })
  sound_removed es ns n e is s =
      let g = given es n e is in
      let apart = apart-freed es ns n e is s.free in
      let freed : IsFreed (entries_with es n None) n = record {
        some = g.0;
        given = omega (arith, g.1, length-entries_with es n None);
        free = entry_in-entries_with-same es n None g.0 g.1;
      } in
      let was : occupied_in (entry_in es n) ≡ 1 = ap occupied_in is in
      record {
        free = All-cons (IsFreed (entries_with es n None)) n ns freed (freed-with es n None ns apart s.free);
        apart = (apart, s.apart);
        all = omega (arith, s.all, sum_by-entries_with occupied_in es n None g.0 g.1, was, length-entries_with es n None);
        small = omega (arith, s.small, length-entries_with es n None);
      }

  sound_with_entry : (es : List (Option E)) (ns : List ℕ) (n : ℕ) (old e : E) → entry_in es n ≡ Some old → IsTable (record { entries = es; freed = ns }) → IsTable (record { entries = entries_with es n (Some e); freed = ns })
  sound_with_entry es ns n old e is s =
      let g = given es n old is in
      let apart = apart-freed es ns n old is s.free in
      let was : occupied_in (entry_in es n) ≡ 1 = ap occupied_in is in
      record {
        free = freed-with es n (Some e) ns apart s.free;
        apart = s.apart;
        all = omega (arith, s.all, sum_by-entries_with occupied_in es n (Some e) g.0 g.1, was, length-entries_with es n (Some e));
        small = omega (arith, s.small, length-entries_with es n (Some e));
      }

  -- a new table is sound, and each change keeps it so
  pub IsTable-no_handles : IsTable {E = E} no_handles
  IsTable-no_handles = record {
    free = λ k d h. absurd (omega arith);
    apart = tt;
    all = omega arith;
    small = omega arith;
  }

  pub IsTable-inserted : (h : HandlesOf E) (e : E) → IsTable h → next_index h < handle_limit → IsTable (inserted h e)
  IsTable-inserted h e s l = sound_inserted h.entries h.freed e s l

  pub IsTable-removed : (h : HandlesOf E) (n : ℕ) (e : E) → entry_at h n ≡ Some e → IsTable h → IsTable (removed h n)
  IsTable-removed h n e is s = sound_removed h.entries h.freed n e is s

  pub IsTable-with_entry : (h : HandlesOf E) (n : ℕ) (old e : E) → entry_at h n ≡ Some old → IsTable h → IsTable (with_entry h n e)
  IsTable-with_entry h n old e is s = sound_with_entry h.entries h.freed n old e is s

  -- a number that stands for something is none that is given next
  pub entry_at-next_index : (h : HandlesOf E) → IsTable h → entry_at h (next_index h) ≡ None
  entry_at-next_index h s = at_next h.entries h.freed s

  -- what each number stands for
  pub entry_at-inserted-same : (h : HandlesOf E) (e : E) → IsTable h → entry_at (inserted h e) (next_index h) ≡ Some e
  entry_at-inserted-same h e s = inserted_same h.entries h.freed e s

  pub entry_at-inserted-other : (h : HandlesOf E) (e : E) (n : ℕ) → n ≢ next_index h → entry_at (inserted h e) n ≡ entry_at h n
  entry_at-inserted-other h e n ne = inserted_other h.entries h.freed e n ne

  pub entry_at-removed-same : (h : HandlesOf E) (n : ℕ) → entry_at (removed h n) n ≡ None
  entry_at-removed-same h n = removed_same h.entries n
    where
      removed_same : (es : List (Option E)) (n : ℕ) → entry_in (entries_with es n None) n ≡ None
      removed_same es zero = refl
      removed_same es (suc i) =
          ⊎_elim
          (λ l. get_or-set_same es i None None l)
          (λ l. let past : length (set es i None) ≤ i = omega (arith, length-set es i None) in get_or_past (set es i None) i None past)
          (cases_lt i (length es))

  pub entry_at-removed-other : (h : HandlesOf E) (n k : ℕ) → k ≢ n → entry_at (removed h n) k ≡ entry_at h k
  entry_at-removed-other h n k ne = entry_in-entries_with-other h.entries n k None ne

  -- how many are occupied
  pub occupied-inserted : (h : HandlesOf E) (e : E) → IsTable h → occupied (inserted h e) ≡ occupied h + 1
  occupied-inserted h e s = inserted_sum occupied_in refl h.entries h.freed e s

  pub occupied-removed : (h : HandlesOf E) (n : ℕ) (e : E) → entry_at h n ≡ Some e → occupied (removed h n) + 1 ≡ occupied h
  occupied-removed h n e is =
      let g = given h.entries n e is in
      let was : occupied_in (entry_in h.entries n) ≡ 1 = ap occupied_in is in
      omega (arith, sum_by-entries_with occupied_in h.entries n None g.0 g.1, was)

  pub occupied-with_entry : (h : HandlesOf E) (n : ℕ) (old e : E) → entry_at h n ≡ Some old → occupied (with_entry h n e) ≡ occupied h
  occupied-with_entry h n old e is =
      let g = given h.entries n old is in
      let was : occupied_in (entry_in h.entries n) ≡ 1 = ap occupied_in is in
      omega (arith, sum_by-entries_with occupied_in h.entries n (Some e) g.0 g.1, was)

-- how many are live, open lends included
pub live_of-no_handles : live_of no_handles ≡ 0
live_of-no_handles = refl

pub live_of-inserted : (h : Handles) (e : Entry) → IsTable h → live_of (inserted h e) ≡ live_of h + 1 + lends_of e
live_of-inserted h e s =
    omega (arith, occupied-inserted h e s, inserted_sum lends_in refl h.entries h.freed e s)

pub live_of-removed : (h : Handles) (n : ℕ) (e : Entry) → entry_at h n ≡ Some e → live_of (removed h n) + 1 + lends_of e ≡ live_of h
live_of-removed h n e is =
    let g = given h.entries n e is in
    let lends : lends_in (entry_in h.entries n) ≡ lends_of e = ap lends_in is in
    omega (arith, occupied-removed h n e is, sum_by-entries_with lends_in h.entries n None g.0 g.1, lends)

pub live_of-with_entry : (h : Handles) (n : ℕ) (old e : Entry) → entry_at h n ≡ Some old → live_of (with_entry h n e) + lends_of old ≡ live_of h + lends_of e
live_of-with_entry h n old e is =
    let g = given h.entries n old is in
    let lends : lends_in (entry_in h.entries n) ≡ lends_of old = ap lends_in is in
    omega (arith, occupied-with_entry h n old e is, sum_by-entries_with lends_in h.entries n (Some e) g.0 g.1, lends)
