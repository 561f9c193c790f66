-- A word is read as a stage exactly where it spells it, and words are taken for a chain exactly where they ask for it.
use Rattle.std.proofs.Common.{◌≡◌, Bool, true, false, cond, ℕ, ◌+◌, ◌<◌, ◌≤◌, ◌^◌, List, [], ◌∷◌, ◌++◌, length, map, take, get_or, codes, Option, Some, None, refl, sym, ap, ◌∙◌, arith}
use Rattle.std.specs.Prelude.{All, count_by, decimal}
use Rattle.std.specs.Option.{option_map, option_map_or}
use Rattle.std.specs.Str.{bytes_eq}
use Rattle.std.proofs.lemmas.List.{take_more, map-append, get_or-map, length-map}
use Rattle.std.proofs.lemmas.List.Elements.{All-nil, All-push, All-get_or, All-head, All-tail}
use Rattle.std.proofs.lemmas.Option.{same_Some, none-some}
use Rattle.std.proofs.lemmas.Slice.Eq.{bytes_eq-Decides}
use Rattle.strm_lines.specs.Grammar.{IsBetween}
use Rattle.strm_lines.specs.Reading.{behind, number_within}
use Rattle.strm_lines.proofs.CutLemmas.{option_map_some}
use Rattle.strm_lines.proofs.ReadingLemmas.{IsReading, IsReading-within, behind_sound}
use Rattle.strm_chain.specs.declared.stages.Stage.{Stage}
use Rattle.strm_chain.specs.declared.stages.Stage.TheVariants as stages
use Rattle.strm_chain.specs.Faults.{is_twice}
use Rattle.strm_chain.specs.Asking.{stage_word, HasWord, Asks, IsChainAsked}
use Rattle.strm_chain.specs.WordReading.{numbered_stage, numbered_read, stage_read, SpellsStages}

-- ONE WORD

-- a number that is read as a byte is one
pub byte_fits : (word : List ℕ) (n : ℕ) → Some n ≡ number_within 0 255 word → n < 256
byte_fits word n e = let r = (IsReading-within 0 255 (omega arith)).sound word n (sym e) in omega (arith, r.1.1)

-- a stage spells a word, and has one
abbrev IsSpelled : Stage → List ℕ → Type 0
IsSpelled s word = (stage_word s ≡ word) × HasWord s

-- what is read behind a front is a number of at most so much, and the front and it are the word
record IsNumbered (front : List ℕ) (most : ℕ) (make : ℕ → Stage) (word : List ℕ) (s : Stage) : Type 0 where
  number : ℕ
  made : make number ≡ s
  fits : IsBetween 0 most number
  spelled : front ++ decimal number ≡ word

numbered_is : (front : List ℕ) (most : ℕ) (make : ℕ → Stage) → most < 2 ^ 32 → (word rest : List ℕ) (s : Stage) → behind front word ≡ Some rest → option_map make (number_within 0 most rest) ≡ Some s → IsNumbered front most make word s
numbered_is front most make l word rest s b e =
    option_map_some make (number_within 0 most rest) s e (λ n r same.
    let d = (IsReading-within 0 most l).sound rest n r in
    record { number = n; made = same; fits = d.1; spelled = ap (λ w. front ++ w) d.0 ∙ sym (behind_sound front word rest b) })

numbered_sound : (word : List ℕ) (s : Stage) → numbered_read word ≡ Some s → IsSpelled s word
unfolding numbered_read
numbered_sound word s e = by_add (behind (codes "add:") word) refl e
  where
    by_first : (o : Option (List ℕ)) → behind (codes "first:") word ≡ o → option_map_or (λ rest. option_map stages.First (number_within 0 4294967295 rest)) o None ≡ Some s → IsSpelled s word
    by_first None b e = absurd (none-some s e)
    by_first (Some rest) b e = let n = numbered_is (codes "first:") 4294967295 stages.First (omega arith) word rest s b e in rw (← n.made) (n.spelled, n.fits)

    by_without : (o : Option (List ℕ)) → behind (codes "without:") word ≡ o → option_map_or (λ rest. option_map stages.Without (number_within 0 255 rest)) o (numbered_stage (codes "first:") 4294967295 stages.First word None) ≡ Some s → IsSpelled s word
    by_without None b e = by_first (behind (codes "first:") word) refl e
    by_without (Some rest) b e = let n = numbered_is (codes "without:") 255 stages.Without (omega arith) word rest s b e in rw (← n.made) (n.spelled, n.fits)

    by_add : (o : Option (List ℕ)) → behind (codes "add:") word ≡ o → option_map_or (λ rest. option_map stages.Add (number_within 0 255 rest)) o (numbered_stage (codes "without:") 255 stages.Without word (numbered_stage (codes "first:") 4294967295 stages.First word None)) ≡ Some s → IsSpelled s word
    by_add None b e = by_without (behind (codes "without:") word) refl e
    by_add (Some rest) b e = let n = numbered_is (codes "add:") 255 stages.Add (omega arith) word rest s b e in rw (← n.made) (n.spelled, n.fits)

-- a test for a word that is a stage's whole
by_word : (word : List ℕ) (own s : Stage) (b : Bool) (other : Option Stage) → bytes_eq word (stage_word own) ≡ b → HasWord own → (other ≡ Some s → IsSpelled s word) → cond b (Some own) other ≡ Some s → IsSpelled s word
by_word word own s true other t h f e = let same : own ≡ s = same_Some own s e in rw (← same) (sym ((bytes_eq-Decides word (stage_word own)).0 t), h)
by_word word own s false other t h f e = f e

stage_sound : (word : List ℕ) (s : Stage) → stage_read word ≡ Some s → IsSpelled s word
unfolding stage_read
stage_sound word s e =
    by_word word stages.Copy s (bytes_eq word (codes "copy")) _ refl tt
    (λ e. by_word word stages.Twice s (bytes_eq word (codes "twice")) _ refl tt
    (λ e. by_word word stages.Sum s (bytes_eq word (codes "sum")) _ refl tt (numbered_sound word s) e) e) e

stage_complete : (s : Stage) → HasWord s → stage_read (stage_word s) ≡ Some s
unfolding stage_read numbered_read behind
stage_complete stages.Copy h = refl
stage_complete (stages.Add k) h = ap (option_map stages.Add) ((IsReading-within 0 255 (omega arith)).complete k h)
stage_complete (stages.Without k) h = ap (option_map stages.Without) ((IsReading-within 0 255 (omega arith)).complete k h)
stage_complete stages.Twice h = refl
stage_complete stages.Sum h = refl
stage_complete (stages.First n) h = ap (option_map stages.First) ((IsReading-within 0 4294967295 (omega arith)).complete n h)

IsReading-stage : IsReading stage_read stage_word HasWord
IsReading-stage = record { sound = stage_sound; complete = stage_complete }

-- WORDS

pub spells_none : {X : Type 0} (f : X → List ℕ) (items : List X) → SpellsStages (map f (take 0 items)) []
spells_none f items = record { words_are = refl; have = All-nil HasWord }

module _ {X : Type 0} (f : X → List ℕ) (items : List X) (k : ℕ) (x : X) (word : List ℕ) (l : k < length items) (at : x ≡ get_or items k x) (is : word ≡ f x) where
  read_at : stage_read word ≡ stage_read (f (get_or items k x))
  read_at = ap stage_read (is ∙ ap f at)

  pub spells_more : (list : List Stage) (s : Stage) → SpellsStages (map f (take k items)) list → Some s ≡ stage_read word → SpellsStages (map f (take (k + 1) items)) (list ++ s ∷ [])
  spells_more list s h e =
      let r = IsReading-stage.sound (f (get_or items k x)) s (sym (e ∙ read_at)) in
      let spelled : f (get_or items k x) ∷ [] ≡ stage_word s ∷ [] = ap (λ w. w ∷ []) (sym r.0) in
      record {
        words_are = ap (map f) (take_more items k x l) ∙ map-append f (take k items) (get_or items k x ∷ [])
            ∙ ap (λ ws. ws ++ f (get_or items k x) ∷ []) h.words_are ∙ ap (λ ws. map stage_word list ++ ws) spelled ∙ sym (map-append stage_word list (s ∷ []));
        have = All-push HasWord list s h.have r.1;
      }

  -- where one word is none of a stage, all are not those of stages
  pub not_spelled : None ≡ stage_read word → (list : List Stage) → ¬ SpellsStages (map f items) list
  not_spelled none list h =
      let long : length items ≡ length list = sym (length-map items f) ∙ ap length h.words_are ∙ length-map list stage_word in
      let inside : k < length list = omega (arith, l, long) in
      let s = get_or list k stages.Copy in
      let spelled : f (get_or items k x) ≡ stage_word s = sym (get_or-map f items k x [] l) ∙ ap (λ ws. get_or ws k []) h.words_are ∙ get_or-map stage_word list k stages.Copy [] inside in
      let read : stage_read word ≡ Some s = read_at ∙ ap stage_read spelled ∙ IsReading-stage.complete s (All-get_or HasWord list k stages.Copy inside h.have) in
      none-some s (none ∙ read)

-- words are as many as the stages that they spell
pub spelled_many : {X : Type 0} (f : X → List ℕ) (items : List X) (list : List Stage) → SpellsStages (map f items) list → length items ≡ length list
spelled_many f items list h = sym (length-map items f) ∙ ap length h.words_are ∙ length-map list stage_word

heads : {X : Type 0} (a b : X) (xs ys : List X) → a ∷ xs ≡ b ∷ ys → (a ≡ b) × (xs ≡ ys)
heads a b xs ys e = (cc, cc)

same_stage : (s t : Stage) → HasWord s → HasWord t → stage_word s ≡ stage_word t → s ≡ t
same_stage s t h i e = same_Some s t (sym (IsReading-stage.complete s h) ∙ ap stage_read e ∙ IsReading-stage.complete t i)

same_stages : (list other : List Stage) → All HasWord list → All HasWord other → map stage_word list ≡ map stage_word other → list ≡ other
same_stages [] [] h i e = refl
same_stages [] (t ∷ other) h i e = cc
same_stages (s ∷ list) [] h i e = cc
same_stages (s ∷ list) (t ∷ other) h i e =
    let both = heads (stage_word s) (stage_word t) (map stage_word list) (map stage_word other) e in
    let one : s ≡ t = same_stage s t (All-head HasWord s list h) (All-head HasWord t other i) both.0 in
    let rest : list ≡ other = same_stages list other (All-tail HasWord s list h) (All-tail HasWord t other i) both.1 in
    rw (one, rest) refl

-- words spell one list of stages
pub one_spelling : (words : List (List ℕ)) (list other : List Stage) → SpellsStages words list → SpellsStages words other → list ≡ other
one_spelling words list other h i = same_stages list other h.have i.have (sym h.words_are ∙ i.words_are)

-- so that where they are too many or too many are Twice, no others are fewer
pub too_many_twice : (words : List (List ℕ)) (list other : List Stage) → SpellsStages words list → 2 < count_by is_twice list → count_by is_twice other ≤ 2 → ¬ SpellsStages words other
too_many_twice words list other h m l i = let same : count_by is_twice list ≡ count_by is_twice other = ap (count_by is_twice) (one_spelling words list other h i) in absurd (omega (arith, m, l, same))

-- A CHAIN

module _ {X : Type 0} (f : X → List ℕ) (items rest : List X) (first : X) (word : List ℕ) (e : items ≡ first ∷ rest) (is : word ≡ f first) where
  words_are : map f items ≡ word ∷ map f rest
  words_are = ap (map f) e ∙ ap (λ w. w ∷ map f rest) (sym is)

  pub asks : (chunk : ℕ) (list : List Stage) → Some chunk ≡ number_within 16 64 word → SpellsStages (map f rest) list → length list ≤ 8 → count_by is_twice list ≤ 2 → Asks (map f items) chunk list
  asks chunk list n h few twice =
      let c = (IsReading-within 16 64 (omega arith)).sound word chunk (sym n) in
      record {
        words_are = words_are ∙ ap (λ w. w ∷ map f rest) (sym c.0) ∙ ap (λ ws. decimal chunk ∷ ws) h.words_are;
        chunk_is = c.1;
        have = h.have;
        few = few;
        few_twice = twice;
      }

  parts : (chunk : ℕ) (list : List Stage) → Asks (map f items) chunk list → (word ≡ decimal chunk) × (map f rest ≡ map stage_word list)
  parts chunk list a = heads word (decimal chunk) (map f rest) (map stage_word list) (sym words_are ∙ a.words_are)

  pub asks_chunk : None ≡ number_within 16 64 word → ¬ IsChainAsked (map f items)
  asks_chunk none a =
      let p = parts a.0 a.1 a.2 in
      let read : number_within 16 64 word ≡ Some a.0 = ap (number_within 16 64) p.0 ∙ (IsReading-within 16 64 (omega arith)).complete a.0 a.2.chunk_is in
      none-some a.0 (none ∙ read)

  pub asks_stages : ((list : List Stage) → length list ≤ 8 → count_by is_twice list ≤ 2 → ¬ SpellsStages (map f rest) list) → ¬ IsChainAsked (map f items)
  asks_stages none a = none a.1 a.2.few a.2.few_twice (record { words_are = (parts a.0 a.1 a.2).1; have = a.2.have })

pub asks_some : {X : Type 0} (f : X → List ℕ) (items : List X) → items ≡ [] → ¬ IsChainAsked (map f items)
asks_some f items e a = let none : [] ≡ decimal a.0 ∷ map stage_word a.1 = ap (map f) (sym e) ∙ a.2.words_are in cc

-- words ask for one chain
pub one_chain : (words : List (List ℕ)) (chunk other : ℕ) (list more : List Stage) → Asks words chunk list → Asks words other more → (chunk ≡ other) × (list ≡ more)
one_chain words chunk other list more a b =
    let both = heads (decimal chunk) (decimal other) (map stage_word list) (map stage_word more) (sym a.words_are ∙ b.words_are) in
    let number = IsReading-within 16 64 (omega arith) in (
      same_Some chunk other (sym (number.complete chunk a.chunk_is) ∙ ap (number_within 16 64) both.0 ∙ number.complete other b.chunk_is),
      same_stages list more a.have b.have both.1,
    )
