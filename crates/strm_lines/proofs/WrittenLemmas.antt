-- Types that hold others: what is written at the front of a text is read there.
use Rattle.std.proofs.Common.{◌≡◌, ℕ, zero, suc, ◌+◌, ◌<◌, ◌≤◌, List, [], ◌∷◌, ◌++◌, length, take, drop, codes, Bool, true, false, eqb, not, ◌&&◌, ◌||◌, Some, None, append_assoc, length-append, refl, sym, ap, ◌∙◌, arith}
use Rattle.std.specs.Fmt.{decimal}
use Rattle.std.specs.Str.{bytes_eq, all_ascii_digits}
use Rattle.std.specs.List.{join_with_byte}
use Rattle.std.proofs.lemmas.Bool.{lt-ltb, eq-eqb, not-true}
use Rattle.std.proofs.lemmas.Bool.Decides.{nat_tests}
use Rattle.std.proofs.lemmas.List.{take_all, drop_at, append-nil}
use Rattle.std.proofs.Math.Bool.{or-true}
use Rattle.strm_codes.specs.declared.nodes.Node.{Node}
use Rattle.strm_codes.specs.declared.nodes.Node.TheVariants as node
use Rattle.strm_codes.specs.declared.scalars.Scalar.{Scalar}
use Rattle.strm_codes.specs.declared.scalars.Scalar.TheVariants.{Bool as Flag, S8, U8, S16, U16, S32, U32, S64, U64, Char, F32, F64}
use Rattle.strm_codes.specs.Spellings.{arity, HasCount}
use Rattle.strm_lines.specs.Words.{scalar_word, text_with, bracketed, result_text}
use Rattle.strm_lines.specs.Reading.{behind, is_digit, scalar_read, name_cut, ends_name, flags_read, enum_read, plain_read, is_nothing, pushed, holding, leaf_front, closed, parts_by, type_front}
use Rattle.strm_lines.proofs.ChoiceLemmas.{both_true}
use Rattle.strm_lines.proofs.NumberLemmas.{decimal_digits}
use Rattle.strm_lines.proofs.ReadingLemmas.{behind_complete, IsReading-within}
use Rattle.strm_lines.proofs.TreeLemmas.{Tree, Branch, Trees, no_trees, more, count, words_of, all_words, text_of, all_texts, IsTree, AreTrees, ends_empty, length-all_texts}
use Rattle.strm_lines.proofs.FrontLemmas.{nothing_text, kept_place, bracket_text, closed_over}
use Rattle.strm_lines.proofs.TypeWordLemmas.{Reader, PartsRead}

-- names, and what may follow a type

-- no byte ends the name
abbrev pub is_name : List ℕ → Bool
is_name [] = true
is_name (c ∷ cs) = not (ends_name c) && is_name cs

pub is_name-append : (xs ys : List ℕ) → is_name xs ≡ true → is_name ys ≡ true → is_name (xs ++ ys) ≡ true
is_name-append [] ys e f = f
is_name-append (x ∷ xs) ys e f =
    let b : (not (ends_name x) ≡ true) × (is_name xs ≡ true) = both_true (not (ends_name x)) (is_name xs) e in
    rw (b.0, is_name-append xs ys b.1 f) refl

digit_inside : (c : ℕ) → is_digit c ≡ true → ends_name c ≡ false
digit_inside c e = grind (arith, nat_tests)

is_name-digits : (ds : List ℕ) → all_ascii_digits ds ≡ true → is_name ds ≡ true
is_name-digits [] e = refl
is_name-digits (d ∷ ds) e =
    let b : (is_digit d ≡ true) × (all_ascii_digits ds ≡ true) = both_true (is_digit d) (all_ascii_digits ds) e in
    rw (digit_inside d b.0, is_name-digits ds b.1) refl

is_name-scalar : (s : Scalar) → is_name (scalar_word s) ≡ true
is_name-scalar Flag = refl
is_name-scalar S8 = refl
is_name-scalar U8 = refl
is_name-scalar S16 = refl
is_name-scalar U16 = refl
is_name-scalar S32 = refl
is_name-scalar U32 = refl
is_name-scalar S64 = refl
is_name-scalar U64 = refl
is_name-scalar Char = refl
is_name-scalar F32 = refl
is_name-scalar F64 = refl

-- the end, a comma or a closing bracket
abbrev pub Follows : List ℕ → Type 0
Follows [] = Unit {0}
Follows (c ∷ rest) = eqb c 44 || eqb c 62 ≡ true

ends : (c : ℕ) → eqb c 44 || eqb c 62 ≡ true → ends_name c ≡ true
ends c e = rw e (or-true (eqb c 60))

not_opening : (c : ℕ) → eqb c 44 || eqb c 62 ≡ true → eqb c 60 ≡ false
not_opening c e = grind (arith, nat_tests)

cut_following : (rest : List ℕ) → Follows rest → name_cut rest ≡ ([], rest)
unfolding name_cut
cut_following [] f = refl
cut_following (c ∷ rest) f = rw (ends c f) refl

cut_opening : (rest : List ℕ) → name_cut (60 ∷ rest) ≡ ([], 60 ∷ rest)
unfolding name_cut
cut_opening rest = refl

none_opens : (rest : List ℕ) → Follows rest → behind (codes "<") rest ≡ None
unfolding behind
none_opens [] f = refl
none_opens (c ∷ rest) f = rw (not_opening c f) refl

cut_name : (name rest : List ℕ) → is_name name ≡ true → name_cut rest ≡ ([], rest) → name_cut (name ++ rest) ≡ (name, rest)
unfolding name_cut
cut_name [] rest e f = f
cut_name (c ∷ name) rest e f =
    let b : (not (ends_name c) ≡ true) × (is_name name ≡ true) = both_true (not (ends_name c)) (is_name name) e in
    let goes : ends_name c ≡ false = not-true (ends_name c) b.0 in
    rw (goes, cut_name name rest b.1 f) refl

-- one word more

pub pushed_complete : (n : Node) (words : List Node) → length words < 16 → pushed n words ≡ Some (words ++ n ∷ [])
unfolding pushed
pushed_complete n words h = rw (lt-ltb (length words) 16 h) refl

-- types without brackets

-- the text of a word without parts is a name that is read as it
record IsLeafText (n : Node) : Type 0 where
  name : is_name (text_with n []) ≡ true
  read : plain_read (text_with n []) ≡ Some n
  other : bytes_eq (text_with n []) (codes "result") ≡ false

scalar_text : (s : Scalar) → IsLeafText (node.Plain s)
unfolding plain_read behind scalar_read
scalar_text Flag = record { name = refl; read = refl; other = refl }
scalar_text S8 = record { name = refl; read = refl; other = refl }
scalar_text U8 = record { name = refl; read = refl; other = refl }
scalar_text S16 = record { name = refl; read = refl; other = refl }
scalar_text U16 = record { name = refl; read = refl; other = refl }
scalar_text S32 = record { name = refl; read = refl; other = refl }
scalar_text U32 = record { name = refl; read = refl; other = refl }
scalar_text S64 = record { name = refl; read = refl; other = refl }
scalar_text U64 = record { name = refl; read = refl; other = refl }
scalar_text Char = record { name = refl; read = refl; other = refl }
scalar_text F32 = record { name = refl; read = refl; other = refl }
scalar_text F64 = record { name = refl; read = refl; other = refl }

flags_front : (digits : List ℕ) → plain_read (codes "flags" ++ digits) ≡ flags_read digits
unfolding plain_read behind
flags_front digits = refl

enum_front : (digits : List ℕ) → plain_read (codes "enum" ++ digits) ≡ enum_read digits
unfolding plain_read behind
enum_front digits = refl

flags_complete : (n : ℕ) → (1 ≤ n) × (n ≤ 32) → flags_read (decimal n) ≡ Some (node.Flags n)
unfolding flags_read
flags_complete n h = rw ((IsReading-within 1 32 (omega arith)).complete n h) refl

enum_complete : (n : ℕ) → (1 ≤ n) × (n ≤ 128) → enum_read (decimal n) ≡ Some (node.Enum n)
unfolding enum_read
enum_complete n h = rw ((IsReading-within 1 128 (omega arith)).complete n h) refl

leaf_text : (n : Node) → HasCount n → arity n ≡ 0 → IsLeafText n
unfolding plain_read
leaf_text node.Nothing h e = record { name = refl; read = refl; other = refl }
leaf_text (node.Plain s) h e = scalar_text s
leaf_text (node.Flags n) h e = record {
  name = is_name-append (codes "flags") (decimal n) refl (is_name-digits (decimal n) (decimal_digits n (omega (arith, h.1))));
  read = flags_front (decimal n) ∙ flags_complete n h;
  other = refl;
}
leaf_text (node.Enum n) h e = record {
  name = is_name-append (codes "enum") (decimal n) refl (is_name-digits (decimal n) (decimal_digits n (omega (arith, h.1))));
  read = enum_front (decimal n) ∙ enum_complete n h;
  other = refl;
}
leaf_text node.Option h e = absurd (omega (arith, e))
leaf_text node.Result h e = absurd (omega (arith, e))
leaf_text (node.Tuple n) h e = absurd (omega (arith, e, h))
leaf_text (node.Variant n) h e = absurd (omega (arith, e, h))

leaf_complete : (name : List ℕ) (n : Node) (words : List Node) → bytes_eq name (codes "result") ≡ false → plain_read name ≡ Some n → length words < 16 → leaf_front name words ≡ Some (words ++ n ∷ [])
unfolding leaf_front
leaf_complete name n words e f h = rw (e, f) (pushed_complete n words h)

leaf_read : (name : List ℕ) (depth : ℕ) (words after : List Node) (rest : List ℕ) → is_name name ≡ true → Follows rest → leaf_front name words ≡ Some after → type_front (suc depth) words (name ++ rest) ≡ Some (after, rest)
unfolding type_front
leaf_read name depth words after rest e f g = rw (cut_name name rest e (cut_following rest f), none_opens rest f, g) refl

-- types in brackets

-- the text of a type is read as it, whatever may follow it
abbrev pub CanRead : Tree → Type 0
CanRead t = (depth : ℕ) (words : List Node) (rest : List ℕ) → length (words_of t) ≤ depth → length (words ++ words_of t) ≤ 16 → Follows rest → type_front depth words (text_of t ++ rest) ≡ Some (words ++ words_of t, rest)

abbrev pub AllRead : Trees → Type 0
AllRead no_trees = Unit {0}
AllRead (more t ts) = CanRead t × AllRead ts

one_part : (read : Reader) (most : ℕ) (words : List Node) (text : List ℕ) (after : List Node) (rest : List ℕ) → read words text ≡ Some (after, 62 ∷ rest) → parts_by read (suc most) words text ≡ Some (1, is_nothing (drop (length words) after), after, rest)
unfolding parts_by behind
one_part read most words text after rest e = rw e refl

more_parts : (read : Reader) (most : ℕ) (words : List Node) (text : List ℕ) (between : List Node) (others : List ℕ) (q : PartsRead) → read words text ≡ Some (between, 44 ∷ others) → parts_by read most between others ≡ Some q → parts_by read (suc most) words text ≡ Some (q.0 + 1, q.1, q.2, q.3)
unfolding parts_by behind
more_parts read most words text between others q e f = rw (e, f) refl

-- what is known of the words of so many types
record HasRoom (depth most : ℕ) (words : List Node) (ts : Trees) : Type 0 where
  deep : length (all_words ts) ≤ depth
  many : count ts ≤ most
  few : length (words ++ all_words ts) ≤ 16

first_room : (depth most : ℕ) (words : List Node) (t : Tree) (ts : Trees) → HasRoom depth most words (more t ts) → (length (words_of t) ≤ depth) × (length (words ++ words_of t) ≤ 16)
first_room depth most words t ts r =
    let a = length-append (words_of t) (all_words ts) in
    let b = length-append words (words_of t ++ all_words ts) in
    let c = length-append words (words_of t) in
    (omega (arith, a, r.deep), omega (arith, a, b, c, r.few))

other_room : (depth most : ℕ) (words : List Node) (t : Tree) (ts : Trees) → HasRoom depth (suc most) words (more t ts) → HasRoom depth most (words ++ words_of t) ts
other_room depth most words t ts r =
    let a = length-append (words_of t) (all_words ts) in
    record {
      deep = omega (arith, a, r.deep);
      many = omega (arith, r.many);
      few = rw (append_assoc words (words_of t) (all_words ts)) r.few;
    }

parts_complete : (ts : Trees) → AllRead ts → 0 < count ts → (depth most : ℕ) (words : List Node) (rest : List ℕ) → HasRoom depth most words ts → parts_by (type_front depth) most words (join_with_byte 44 (all_texts ts) ++ 62 ∷ rest) ≡ Some (count ts, ends_empty false ts, words ++ all_words ts, rest)
parts_complete no_trees a some depth most words rest r = absurd (omega (arith, some))
parts_complete (more t ts) a some depth zero words rest r = absurd (omega (arith, r.many))
parts_complete (more t no_trees) a some depth (suc most) words rest r =
    let room = first_room depth (suc most) words t no_trees r in
    one_part (type_front depth) most words (text_of t ++ 62 ∷ rest) (words ++ words_of t) rest (a.0 depth words (62 ∷ rest) room.0 room.1 refl)
    ∙ rw (drop_at words (words_of t) (length words) refl, append-nil (words_of t)) refl
parts_complete (more t (more u ts)) a some depth (suc most) words rest r =
    let room = first_room depth (suc most) words t (more u ts) r in
    let inner = join_with_byte 44 (all_texts (more u ts)) ++ 62 ∷ rest in
    let one = a.0 depth words (44 ∷ inner) room.0 room.1 refl in
    let behind_it = parts_complete (more u ts) a.1 (omega arith) depth most (words ++ words_of t) rest (other_room depth most words t (more u ts) r) in
    let number : count (more u ts) + 1 ≡ count (more t (more u ts)) = omega arith in
    ap (parts_by (type_front depth) (suc most) words) (append_assoc (text_of t) (44 ∷ join_with_byte 44 (all_texts (more u ts))) (62 ∷ rest))
    ∙ more_parts (type_front depth) most words (text_of t ++ 44 ∷ inner) (words ++ words_of t) inner _ one behind_it
    ∙ rw (number, append_assoc words (words_of t) (all_words (more u ts))) refl

module _ (name inside rest : List ℕ) (depth number : ℕ) (empty_end : Bool) (words own between all : List Node) where
  bracket_read : is_name name ≡ true → pushed node.Nothing words ≡ Some own → parts_by (type_front depth) depth own inside ≡ Some (number, empty_end, between, rest) → closed name (length words) number empty_end between ≡ Some all → type_front (suc depth) words (name ++ 60 ∷ inside) ≡ Some (all, rest)
  unfolding type_front
  bracket_read n e f g = rw (cut_name name (60 ∷ inside) n (cut_opening inside), behind_complete (codes "<") inside, e, f, g) refl

count-words : (ts : Trees) → count ts ≤ length (all_words ts)
count-words no_trees = omega arith
count-words (more (Branch n inner) ts) = omega (arith, count-words ts, length-append (all_words inner) (all_words ts))

module _ (name : List ℕ) (ts : Trees) (n : is_name name ≡ true) (a : AllRead ts) (some : 0 < count ts) (depth : ℕ) (words : List Node) (rest : List ℕ) (all : List Node) where
  bracket_complete : length (all_words ts) ≤ depth → length words + 1 + length (all_words ts) ≤ 16 → closed_over name words ts ≡ Some all → type_front (suc depth) words ((name ++ bracketed (all_texts ts)) ++ rest) ≡ Some (all, rest)
  bracket_complete h l e =
      let own = words ++ node.Nothing ∷ [] in
      let inside = join_with_byte 44 (all_texts ts) ++ 62 ∷ rest in
      let b = length-append words (node.Nothing ∷ []) in
      let c = length-append own (all_words ts) in
      let room : HasRoom depth depth own ts = record { deep = h; many = omega (arith, count-words ts, h); few = omega (arith, b, c, l) } in
      ap (type_front (suc depth) words) (bracket_text name (all_texts ts) rest)
      ∙ bracket_read name inside rest depth (count ts) (ends_empty false ts) words own (own ++ all_words ts) all n (pushed_complete node.Nothing words (omega (arith, l))) (parts_complete ts a some depth depth own rest room) e

-- types that hold others and are no result

closed_holder : (name : List ℕ) (words : List Node) (ts : Trees) (n : Node) → bytes_eq name (codes "result") ≡ false → holding name (count ts) ≡ Some n → closed_over name words ts ≡ Some (words ++ n ∷ all_words ts)
unfolding closed
closed_holder name words ts n e f = rw (e, f) (ap Some (kept_place words (all_words ts) n))

record IsHolderText (name : List ℕ) (n : Node) (ts : Trees) : Type 0 where
  named : is_name name ≡ true
  other : bytes_eq name (codes "result") ≡ false
  held : holding name (count ts) ≡ Some n
  spelled : text_with n (all_texts ts) ≡ name ++ bracketed (all_texts ts)

holder_complete : (name : List ℕ) (n : Node) (ts : Trees) → IsHolderText name n ts → AllRead ts → 0 < count ts → CanRead (Branch n ts)
holder_complete name n ts t a some zero words rest h l f = absurd (omega (arith, h))
holder_complete name n ts t a some (suc depth) words rest h l f =
    let b = length-append words (n ∷ all_words ts) in
    ap (λ w. type_front (suc depth) words (w ++ rest)) t.spelled
    ∙ bracket_complete name ts t.named a some depth words rest (words ++ n ∷ all_words ts) (omega (arith, h)) (omega (arith, b, l)) (closed_holder name words ts n t.other t.held)

all_first : (front : List ℕ) (ts : Trees) (k : ℕ) → k ≡ count ts → front ++ bracketed (take k (all_texts ts)) ≡ front ++ bracketed (all_texts ts)
all_first front ts k e = rw (take_all k (all_texts ts) (omega (arith, e, length-all_texts ts))) refl

option_holds : (ts : Trees) → 1 ≡ count ts → IsHolderText (codes "option") node.Option ts
unfolding holding
option_holds ts e = record { named = refl; other = refl; held = rw (eq-eqb (count ts) 1 (sym e)) refl; spelled = all_first (codes "option") ts 1 e }

tuple_holds : (k : ℕ) (ts : Trees) → k ≡ count ts → IsHolderText (codes "record") (node.Tuple k) ts
unfolding holding
tuple_holds k ts e = record { named = refl; other = refl; held = ap (λ m. Some (node.Tuple m)) (sym e); spelled = all_first (codes "record") ts k e }

variant_holds : (k : ℕ) (ts : Trees) → k ≡ count ts → IsHolderText (codes "variant") (node.Variant k) ts
unfolding holding
variant_holds k ts e = record { named = refl; other = refl; held = ap (λ m. Some (node.Variant m)) (sym e); spelled = all_first (codes "variant") ts k e }

-- results

pub nothing_words : (t : Tree) → IsTree t → is_nothing (words_of t) ≡ true → words_of t ≡ node.Nothing ∷ []
nothing_words (Branch node.Nothing no_trees) h e = refl
nothing_words (Branch node.Nothing (more t ts)) h e = absurd (omega (arith, h.1))
nothing_words (Branch (node.Plain s) ts) h e = cc
nothing_words (Branch (node.Flags n) ts) h e = cc
nothing_words (Branch (node.Enum n) ts) h e = cc
nothing_words (Branch node.Option ts) h e = cc
nothing_words (Branch node.Result ts) h e = cc
nothing_words (Branch (node.Tuple n) ts) h e = cc
nothing_words (Branch (node.Variant n) ts) h e = cc

no_parts_front : (words : List Node) → length words + 3 ≤ 16 → leaf_front (codes "result") words ≡ Some (words ++ node.Result ∷ node.Nothing ∷ node.Nothing ∷ [])
unfolding leaf_front
no_parts_front words h =
    let one = words ++ node.Result ∷ [] in
    let two = one ++ node.Nothing ∷ [] in
    let a = length-append words (node.Result ∷ []) in
    let b = length-append one (node.Nothing ∷ []) in
    rw (pushed_complete node.Result words (omega (arith, h)), pushed_complete node.Nothing one (omega (arith, h, a)), pushed_complete node.Nothing two (omega (arith, h, a, b)))
    (ap Some (append_assoc one (node.Nothing ∷ []) (node.Nothing ∷ []) ∙ append_assoc words (node.Result ∷ []) (node.Nothing ∷ node.Nothing ∷ [])))

closed_one : (words : List Node) (a : Tree) → length words + 2 + length (words_of a) ≤ 16 → is_nothing (words_of a) ≡ false → closed_over (codes "result") words (more a no_trees) ≡ Some (words ++ node.Result ∷ (words_of a ++ node.Nothing ∷ []))
unfolding closed
closed_one words a h e =
    let b = length-append words (node.Result ∷ words_of a) in
    rw (e, append-nil (words_of a), kept_place words (words_of a) node.Result)
    (pushed_complete node.Nothing (words ++ node.Result ∷ words_of a) (omega (arith, h, b)) ∙ ap Some (append_assoc words (node.Result ∷ words_of a) (node.Nothing ∷ [])))

closed_two : (words inner : List Node) (b : Bool) → b ≡ false → closed (codes "result") (length words) 2 b ((words ++ node.Nothing ∷ []) ++ inner) ≡ Some (words ++ node.Result ∷ inner)
unfolding closed
closed_two words inner b e = rw e (ap Some (kept_place words inner node.Result))

result_complete : (a b : Tree) → IsTree a → IsTree b → CanRead a → CanRead b → CanRead (Branch node.Result (more a (more b no_trees)))
result_complete a b f g r s zero words rest h l o = absurd (omega (arith, h))
result_complete a b f g r s (suc depth) words rest h l o = by (is_nothing (words_of b)) (is_nothing (words_of a)) refl refl
  where
    by : (c d : Bool) → is_nothing (words_of b) ≡ c → is_nothing (words_of a) ≡ d → type_front (suc depth) words (result_text (text_of a) (text_of b) ++ rest) ≡ Some (words ++ node.Result ∷ (words_of a ++ (words_of b ++ [])), rest)
    by true true e i =
        let p = nothing_words a f i in
        let q = nothing_words b g e in
        let m = length-append words (node.Result ∷ (words_of a ++ (words_of b ++ []))) in
        let k : length (words_of a ++ (words_of b ++ [])) ≡ 2 = rw (p, q) refl in
        rw (nothing_text b, nothing_text a, e, i, p, q) (leaf_read (codes "result") depth words _ rest refl o (no_parts_front words (omega (arith, l, m, k))))
    by true false e i =
        let q = nothing_words b g e in
        let m = length-append words (node.Result ∷ (words_of a ++ (words_of b ++ []))) in
        let k = length-append (words_of a) (words_of b ++ []) in
        let j : length (words_of b ++ []) ≡ 1 = rw q refl in
        let n = ap length (append-nil (words_of a)) in
        rw (nothing_text b, nothing_text a, e, i, q)
        (bracket_complete (codes "result") (more a no_trees) refl (r, tt) (omega arith) depth words rest (words ++ node.Result ∷ (words_of a ++ node.Nothing ∷ [])) (omega (arith, h, k, n)) (omega (arith, l, m, k, j, n)) (closed_one words a (omega (arith, l, m, k, j)) i))
    by false d e i =
        let m = length-append words (node.Result ∷ (words_of a ++ (words_of b ++ []))) in
        rw (nothing_text b, e)
        (bracket_complete (codes "result") (more a (more b no_trees)) refl (r, (s, tt)) (omega arith) depth words rest (words ++ node.Result ∷ (words_of a ++ (words_of b ++ []))) (omega (arith, h)) (omega (arith, l, m)) (closed_two words (words_of a ++ (words_of b ++ [])) (is_nothing (words_of b)) e))

-- each type

leaf_branch : (n : Node) (ts : Trees) → HasCount n → arity n ≡ count ts → arity n ≡ 0 → CanRead (Branch n ts)
leaf_branch n (more t ts) c e z depth words rest h l f = absurd (omega (arith, e, z))
leaf_branch n no_trees c e z zero words rest h l f = absurd (omega (arith, h))
leaf_branch n no_trees c e z (suc depth) words rest h l f =
    let t = leaf_text n c z in
    let b = length-append words (n ∷ []) in
    leaf_read (text_with n []) depth words (words ++ n ∷ []) rest t.name f (leaf_complete (text_with n []) n words t.other t.read (omega (arith, b, l)))

branch_complete : (n : Node) (ts : Trees) → IsTree (Branch n ts) → AllRead ts → CanRead (Branch n ts)
branch_complete node.Nothing ts h a = leaf_branch node.Nothing ts h.0 h.1 refl
branch_complete (node.Plain s) ts h a = leaf_branch (node.Plain s) ts h.0 h.1 refl
branch_complete (node.Flags n) ts h a = leaf_branch (node.Flags n) ts h.0 h.1 refl
branch_complete (node.Enum n) ts h a = leaf_branch (node.Enum n) ts h.0 h.1 refl
branch_complete node.Option ts h a = holder_complete (codes "option") node.Option ts (option_holds ts h.1) a (omega (arith, h.1))
branch_complete node.Result no_trees h a = absurd (omega (arith, h.1))
branch_complete node.Result (more t no_trees) h a = absurd (omega (arith, h.1))
branch_complete node.Result (more t (more u no_trees)) h a = result_complete t u h.2.0 h.2.1.0 a.0 a.1.0
branch_complete node.Result (more t (more u (more v ts))) h a = absurd (omega (arith, h.1))
branch_complete (node.Tuple n) ts h a = holder_complete (codes "record") (node.Tuple n) ts (tuple_holds n ts h.1) a (omega (arith, h.0, h.1))
branch_complete (node.Variant n) ts h a = holder_complete (codes "variant") (node.Variant n) ts (variant_holds n ts h.1) a (omega (arith, h.0, h.1))

mutual
  pub can_read : (t : Tree) → IsTree t → CanRead t
  can_read (Branch n ts) h = branch_complete n ts h (all_read ts h.2)

  all_read : (ts : Trees) → AreTrees ts → AllRead ts
  all_read no_trees h = tt
  all_read (more t ts) h = (can_read t h.0, all_read ts h.1)
