-- That each level tells of the one below it, after each change of one level.
use Rattle.std.proofs.Common.{◌≡◌, ◌≢◌, ℕ, ◌+◌, ◌*◌, ◌/◌, ◌%◌, ◌<◌, ◌≤◌, Bool, false, Result, Ok, Err, OnOk, OnErr, List, [], ◌∷◌, ◌++◌, length, set, sym, ap, ◌∙◌, subst, arith, ⊎_elim, length-set}
use Rattle.std.specs.Prelude.{nat_lt}
use Rattle.std.specs.Int.{bit_at}
use Rattle.std.proofs.lemmas.Bool.{cases_eq, cases_lt}
use Rattle.std.proofs.lemmas.List.{get_or-set_same, get_or-set_other, get_or_append_left, get_or_push, length_push, set-get_or}
use Rattle.strm_levels.specs.Counts.{count_at, has_any}
use Rattle.strm_levels.specs.Marks.{width, is_marked, Marks, IsOver, IsOverBut, level_at, AreOver, AreOverBut, HasRoom}
use Rattle.strm_levels.proofs.MarkLemmas.{count_at-push, none_past, unmarked-word}

-- ## Two levels

-- the same of lists that are these
same-over : (low high a b : List ℕ) → a ≡ low → b ≡ high → IsOver low high → IsOver a b
same-over low high a b e f h = subst (λ x. IsOver x b) (sym e) (subst (λ y. IsOver low y) (sym f) h)

same-over_but : (low high a b : List ℕ) (place : ℕ) → a ≡ low → b ≡ high → IsOverBut low high place → IsOverBut a b place
same-over_but low high a b place e f h =
    subst (λ x. IsOverBut x b place) (sym e) (subst (λ y. IsOverBut low y place) (sym f) h)

-- the upper one tells of the place that was left out
pub over-told : (low high : List ℕ) (place : ℕ) → IsOverBut low high place → is_marked high place ≡ has_any low place → IsOver low high
over-told low high place h is = record {
  covers = h.covers;
  marks = λ other.
      ⊎_elim
      (λ e. ap (is_marked high) e ∙ is ∙ ap (has_any low) (sym e))
      (λ ne. h.marks other ne)
      (cases_eq other place);
}

-- as it does once it is marked
over-marked : (low high new : List ℕ) (place : ℕ) → IsOverBut low high place → Marks high new place (has_any low place) → IsOver low new
over-marked low high new place h marks =
    over-told low new place
    (record { covers = omega (arith, h.covers, marks.all); marks = λ other ne. marks.others other ne ∙ h.marks other ne })
    marks.here

-- the lower one is another, but only of one place is that to be told
over_but : (old new high : List ℕ) (place : ℕ) → IsOver old high → length new ≡ length old
    → ((m : ℕ) → m ≢ place → has_any new m ≡ has_any old m) → IsOverBut new high place
over_but old new high place h all others = record {
  covers = omega (arith, h.covers, all);
  marks = λ m ne. h.marks m ∙ sym (others m ne);
}

-- the lower one has a place more, for which there is room
over-longer : (low high : List ℕ) → IsOver low high → length low < width * length high → IsOver (low ++ 0 ∷ []) high
over-longer low high h room = record {
  covers = omega (arith, room, length_push low 0);
  marks = λ place. h.marks place ∙ sym (ap (nat_lt 0) (count_at-push low place));
}

-- or the upper one has
over-wider : (low high : List ℕ) → IsOver low high → IsOver low (high ++ 0 ∷ [])
over-wider low high h = record {
  covers = omega (arith, h.covers, length_push high 0);
  marks = λ place. ap (λ x. nat_lt 0 (bit_at x (place % width))) (count_at-push high (place / width)) ∙ h.marks place;
}

-- ## One of all levels

module _ (levels : List (List ℕ)) (k : ℕ) (new : List ℕ) where
  -- the levels with another one at k
  abbrev with_level : List (List ℕ)
  with_level = set levels k new

  set_here : k < length levels → level_at with_level k ≡ new
  set_here l = get_or-set_same levels k new [] l

  set_other : (j : ℕ) → j ≢ k → level_at with_level j ≡ level_at levels j
  set_other j ne = get_or-set_other levels k j new [] ne

  as_many : length with_level ≡ length levels
  as_many = length-set levels k new

  -- two levels of which it is none
  over-beside : (j : ℕ) → j ≢ k → j + 1 ≢ k → IsOver (level_at levels j) (level_at levels (j + 1))
      → IsOver (level_at with_level j) (level_at with_level (j + 1))
  over-beside j ne next h =
      same-over (level_at levels j) (level_at levels (j + 1)) (level_at with_level j) (level_at with_level (j + 1))
      (set_other j ne) (set_other (j + 1) next) h

next_apart : (k : ℕ) → k + 1 ≡ k → ⊥
next_apart k e = omega (arith, e)

-- all levels tell of all places
pub all-told : (levels : List (List ℕ)) (k place : ℕ) → AreOverBut levels k place
    → (k + 1 < length levels → is_marked (level_at levels (k + 1)) place ≡ has_any (level_at levels k) place) → AreOver levels
all-told levels k place h is = record {
  each = λ j l. ⊎_elim (λ e. same j e l) (λ ne. h.rest j l ne) (cases_eq j k);
}
  where
    same : (j : ℕ) → j ≡ k → j + 1 < length levels → IsOver (level_at levels j) (level_at levels (j + 1))
    same j e l =
        let here : k + 1 < length levels = omega (arith, e, l) in
        subst (λ n. IsOver (level_at levels n) (level_at levels (n + 1))) (sym e)
        (over-told (level_at levels k) (level_at levels (k + 1)) place (h.here here) (is here))

module _ (levels : List (List ℕ)) (k place : ℕ) (new : List ℕ) (h : AreOverBut levels k place) (l : k + 1 < length levels)
    (marks : Marks (level_at levels (k + 1)) new place (has_any (level_at levels k) place)) where
  -- the levels once level k + 1 tells of the place
  abbrev after : List (List ℕ)
  after = set levels (k + 1) new

  here_told : IsOver (level_at after k) (level_at after (k + 1))
  here_told =
      same-over (level_at levels k) new (level_at after k) (level_at after (k + 1))
      (set_other levels (k + 1) new k (λ f. next_apart k (sym f))) (set_here levels (k + 1) new l)
      (over-marked (level_at levels k) (level_at levels (k + 1)) new place (h.here l) marks)

  above_but : k + 1 + 1 < length levels → IsOverBut (level_at after (k + 1)) (level_at after (k + 1 + 1)) (place / width)
  above_but m =
      same-over_but new (level_at levels (k + 1 + 1)) (level_at after (k + 1)) (level_at after (k + 1 + 1)) (place / width)
      (set_here levels (k + 1) new l) (set_other levels (k + 1) new (k + 1 + 1) (next_apart (k + 1)))
      (over_but (level_at levels (k + 1)) new (level_at levels (k + 1 + 1)) (place / width)
      (h.rest (k + 1) m (next_apart k)) marks.all marks.words)

  -- the one above it does not tell of its word yet
  pub but-told : AreOverBut after (k + 1) (place / width)
  but-told = record {
    rest = λ j m ne.
        ⊎_elim
        (λ e. subst (λ n. IsOver (level_at after n) (level_at after (n + 1))) (sym e) here_told)
        (λ apart. over-beside levels (k + 1) new j ne (λ f. apart (omega (arith, f))) (h.rest j (omega (arith, m, as_many levels (k + 1) new)) apart))
        (cases_eq j k);
    here = λ m. above_but (omega (arith, m, as_many levels (k + 1) new));
  }

  -- where its word is 0 as it was, or is not as it was not, all levels tell of all places
  pub told-all : has_any new (place / width) ≡ has_any (level_at levels (k + 1)) (place / width) → AreOver after
  told-all same =
      all-told after (k + 1) (place / width) but-told
      (λ m.
      ap (λ (x : List ℕ). is_marked x (place / width)) (set_other levels (k + 1) new (k + 1 + 1) (next_apart (k + 1)))
      ∙ (h.rest (k + 1) (omega (arith, m, as_many levels (k + 1) new)) (next_apart k)).marks (place / width)
      ∙ sym same
      ∙ ap (λ (x : List ℕ). has_any x (place / width)) (sym (set_here levels (k + 1) new l)))

-- what is marked, by what was read of two levels
pub marks-read : (levels : List (List ℕ)) (k place : ℕ) (low high new : List ℕ) (any : Bool) → low ≡ level_at levels k → high ≡ level_at levels (k + 1)
    → any ≡ has_any low place → Marks high new place any → Marks (level_at levels (k + 1)) new place (has_any (level_at levels k) place)
marks-read levels k place low high new any e f g marks =
    subst (λ (x : List ℕ). Marks x new place (has_any (level_at levels k) place)) f
    (subst (λ (b : Bool). Marks high new place b) (g ∙ ap (λ (x : List ℕ). has_any x place) e) marks)

-- ## The counts are others

module _ (levels : List (List ℕ)) (n : ℕ) (new : List ℕ) (h : AreOver levels) (l : 0 < length levels) (all : length new ≡ length (level_at levels 0))
    (others : (m : ℕ) → m ≢ n → has_any new m ≡ has_any (level_at levels 0) m) where
  -- those of one number
  pub but-recounted : AreOverBut (set levels 0 new) 0 n
  but-recounted = record {
    rest = λ j m ne. over-beside levels 0 new j ne (λ f. absurd (omega (arith, f))) (h.each j (omega (arith, m, as_many levels 0 new)));
    here = λ m.
        same-over_but new (level_at levels 1) (level_at (set levels 0 new) 0) (level_at (set levels 0 new) 1) n
        (set_here levels 0 new l) (set_other levels 0 new 1 (λ f. absurd (omega (arith, f))))
        (over_but (level_at levels 0) new (level_at levels 1) n (h.each 0 (omega (arith, m, as_many levels 0 new))) all others);
  }

  -- which has any as before
  pub all-recounted : has_any new n ≡ has_any (level_at levels 0) n → AreOver (set levels 0 new)
  all-recounted same =
      all-told (set levels 0 new) 0 n but-recounted
      (λ m.
      ap (λ (x : List ℕ). is_marked x n) (set_other levels 0 new 1 (λ f. absurd (omega (arith, f))))
      ∙ (h.each 0 (omega (arith, m, as_many levels 0 new))).marks n
      ∙ sym same
      ∙ ap (λ (x : List ℕ). has_any x n) (sym (set_here levels 0 new l)))

-- the other numbers have their counts
pub others-recounted : (counts : List ℕ) (n count m : ℕ) → m ≢ n → has_any (set counts n count) m ≡ has_any counts m
others-recounted counts n count m ne = ap (nat_lt 0) (get_or-set_other counts n m count 0 ne)

-- one number has another count
pub all-counted : (levels : List (List ℕ)) (n count : ℕ) (old new : List ℕ) → AreOver levels → 0 < length levels → old ≡ level_at levels 0
    → new ≡ set old n count → has_any new n ≡ has_any old n → AreOver (set levels 0 new)
all-counted levels n count old new h l e is same =
    let counts : new ≡ set (level_at levels 0) n count = is ∙ ap (λ (y : List ℕ). set y n count) e in
    all-recounted levels n new h l (ap length counts ∙ length-set (level_at levels 0) n count)
    (λ m ne. ap (λ (y : List ℕ). has_any y m) counts ∙ others-recounted (level_at levels 0) n count m ne)
    (same ∙ ap (λ (y : List ℕ). has_any y n) e)

-- ## Room

module _ (levels : List (List ℕ)) (k : ℕ) (h : AreOver levels) (l : k < length levels) (room : HasRoom levels k) where
  abbrev longer : List ℕ
  longer = level_at levels k ++ 0 ∷ []

  abbrev pushed : List (List ℕ)
  pushed = set levels k longer

  lower : k + 1 < length levels → IsOver (level_at pushed k) (level_at pushed (k + 1))
  lower m =
      same-over longer (level_at levels (k + 1)) (level_at pushed k) (level_at pushed (k + 1))
      (set_here levels k longer l) (set_other levels k longer (k + 1) (next_apart k))
      (over-longer (level_at levels k) (level_at levels (k + 1)) (h.each k m) (room m))

  upper : (j : ℕ) → j + 1 ≡ k → j + 1 < length levels → IsOver (level_at pushed j) (level_at pushed (j + 1))
  upper j e m =
      same-over (level_at levels j) longer (level_at pushed j) (level_at pushed (j + 1))
      (set_other levels k longer j (λ f. next_apart j (e ∙ sym f)))
      (ap (level_at pushed) e ∙ set_here levels k longer l)
      (subst (λ n. IsOver (level_at levels j) (level_at levels n ++ 0 ∷ [])) e
      (over-wider (level_at levels j) (level_at levels (j + 1)) (h.each j m)))

  -- a level has a place more, for which there is room above
  pub all-pushed : AreOver pushed
  all-pushed = record {
    each = λ j m.
        let inside : j + 1 < length levels = omega (arith, m, as_many levels k longer) in
        ⊎_elim
        (λ e. subst (λ n. IsOver (level_at pushed n) (level_at pushed (n + 1))) (sym e) (lower (omega (arith, inside, e))))
        (λ apart. ⊎_elim (λ e. upper j e inside) (λ ne. over-beside levels k longer j apart ne (h.each j inside)) (cases_eq (j + 1) k))
        (cases_eq j k);
  }

-- or has none, where there was no memory
pub all-pushed_or_not : {T E : Type 0} (r : Result T E) (levels : List (List ℕ)) (k : ℕ) (old new : List ℕ) → AreOver levels → k < length levels
    → HasRoom levels k → old ≡ level_at levels k → OnOk r (new ≡ old ++ 0 ∷ []) → OnErr r (new ≡ old) → AreOver (set levels k new)
all-pushed_or_not (Ok x) levels k old new h l room e ok err =
    subst (λ (y : List ℕ). AreOver (set levels k y)) (sym (ok ∙ ap (λ (y : List ℕ). y ++ 0 ∷ []) e)) (all-pushed levels k h l room)
all-pushed_or_not (Err x) levels k old new h l room e ok err =
    subst (λ (y : List ℕ). AreOver (set levels k y)) (sym (err ∙ e)) (subst AreOver (sym (set-get_or levels k [])) h)

-- the levels below a new one are as they were
pub below-topped : (levels : List (List ℕ)) (high : List ℕ) (j : ℕ) → j < length levels → level_at (levels ++ high ∷ []) j ≡ level_at levels j
below-topped levels high j l = get_or_append_left levels (high ∷ []) [] j l

-- a level more above the highest
pub all-topped : (levels : List (List ℕ)) (high : List ℕ) (k : ℕ) → AreOver levels → length levels ≡ k + 1
    → IsOver (level_at levels k) high → AreOver (levels ++ high ∷ [])
all-topped levels high k h all over = record {
  each = λ j m.
      ⊎_elim
      (λ l.
      same-over (level_at levels j) (level_at levels (j + 1)) (level_at (levels ++ high ∷ []) j) (level_at (levels ++ high ∷ []) (j + 1))
      (below-topped levels high j (omega (arith, l))) (below-topped levels high (j + 1) l) (h.each j l))
      (λ past.
      let e : j ≡ k = omega (arith, m, past, all, length_push levels high) in
      subst (λ n. IsOver (level_at (levels ++ high ∷ []) n) (level_at (levels ++ high ∷ []) (n + 1))) (sym e)
      (same-over (level_at levels k) high (level_at (levels ++ high ∷ []) k) (level_at (levels ++ high ∷ []) (k + 1))
      (below-topped levels high k (omega (arith, all))) (get_or_push levels high [] (k + 1) all) over))
      (cases_lt (j + 1) (length levels));
}

-- at most one level, which tells of none
pub all-one : (levels : List (List ℕ)) → length levels ≤ 1 → AreOver levels
all-one levels few = record { each = λ j l. absurd (omega (arith, few, l)) }

-- ## A new level

-- the words that tell of the places before one, and of no other
pub record IsOverBelow (low high : List ℕ) (end : ℕ) : Type 0 where
  pub covers : length low < width * length high
  pub told : (place : ℕ) → place < end → is_marked high place ≡ has_any low place
  pub untold : (place : ℕ) → end ≤ place → is_marked high place ≡ false

pub below-none : (low high : List ℕ) → length low < width * length high → ((word : ℕ) → count_at high word ≡ 0) → IsOverBelow low high 0
below-none low high room none = record {
  covers = room;
  told = λ place l. absurd (omega (arith, l));
  untold = λ place l. unmarked-word high place (ap (nat_lt 0) (none (place / width)));
}

pub below-more : (low old new : List ℕ) (end : ℕ) → IsOverBelow low old end → Marks old new end (has_any low end) → IsOverBelow low new (end + 1)
below-more low old new end h marks = record {
  covers = omega (arith, h.covers, marks.all);
  told = λ place l.
      ⊎_elim
      (λ e. ap (is_marked new) e ∙ marks.here ∙ ap (has_any low) (sym e))
      (λ ne. marks.others place ne ∙ h.told place (omega (arith, l, ne)))
      (cases_eq place end);
  untold = λ place l. marks.others place (λ e. absurd (omega (arith, l, e))) ∙ h.untold place (omega (arith, l));
}

pub over-below : (low high : List ℕ) (end : ℕ) → IsOverBelow low high end → length low ≤ end → IsOver low high
over-below low high end h all = record {
  covers = omega (arith, h.covers);
  marks = λ place.
      ⊎_elim
      (λ l. h.told place l)
      (λ past. h.untold place past ∙ sym (none_past low place (omega (arith, all, past))))
      (cases_lt place end);
}
