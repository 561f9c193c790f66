-- Types that hold others: what is read at the front of a text is written there.
use Rattle.std.proofs.Common.{◌≡◌, ℕ, zero, suc, ◌+◌, ◌<◌, ◌≤◌, List, [], ◌∷◌, ◌++◌, length, drop, take, codes, Bool, true, false, cond, eqb, ltb, ◌||◌, slice_set, Option, Some, None, append_assoc, refl, sym, ap, ◌∙◌, subst, arith}
use Rattle.std.specs.Prelude.{option_and_then}
use Rattle.std.specs.Str.{bytes_eq}
use Rattle.std.specs.List.{join_with_byte}
use Rattle.std.specs.Option.{option_map, option_map_or}
use Rattle.std.proofs.lemmas.Bool.{ltb-false, eqb-true}
use Rattle.std.proofs.lemmas.List.{take_all, drop_at, append-nil}
use Rattle.std.proofs.lemmas.Option.{option_and_then_some, same_Some, none-some, cond_some}
use Rattle.std.proofs.lemmas.Slice.Eq.{bytes_eq-Decides}
use Rattle.std.proofs.Math.Seq.{set-append_seam}
use Rattle.strm_codes.specs.declared.nodes.Node.{Node}
use Rattle.strm_codes.specs.declared.nodes.Node.TheVariants as node
use Rattle.strm_codes.specs.declared.scalars.Scalar.{Scalar}
use Rattle.strm_codes.specs.declared.scalars.Scalar.TheVariants.{Bool as Flag, S8, U8, S16, U16, S32, U32, S64, U64, Char, F32, F64}
use Rattle.strm_codes.specs.Spellings.{arity, HasCount}
use Rattle.strm_lines.specs.Words.{scalar_word, first_text, text_with, bracketed, result_text}
use Rattle.strm_lines.specs.Reading.{behind, scalar_read, number_within, name_cut, ends_name, flags_read, enum_read, plain_read, is_nothing, pushed, holding, leaf_front, closed, parts_by, type_front}
use Rattle.strm_lines.proofs.ChoiceLemmas.{skipped}
use Rattle.strm_lines.proofs.CutLemmas.{option_map_some}
use Rattle.strm_lines.proofs.ReadingLemmas.{behind_sound, IsReading-within}
use Rattle.strm_lines.proofs.ScalarLemmas.{scalar_sound}
use Rattle.strm_lines.proofs.TypeWordLemmas.{Reader, PartsRead, part_by, front_by}
use Rattle.strm_lines.proofs.TreeLemmas.{Tree, Branch, Trees, no_trees, more, count, words_of, all_words, text_of, all_texts, IsTree, AreTrees, ends_empty, length-all_texts}

-- a type that stands at the front of a text, whose words were put behind others
pub record IsFront (words : List Node) (text : List ℕ) (after : List Node) (rest : List ℕ) : Type 0 where
  pub tree : Tree
  pub is : IsTree tree
  pub put : after ≡ words ++ words_of tree
  pub stands : text ≡ text_of tree ++ rest

-- the name that is cut off a text

pub name_cut_sound : (text : List ℕ) → (name_cut text).0 ++ (name_cut text).1 ≡ text
unfolding name_cut
name_cut_sound [] = refl
name_cut_sound (c ∷ text) = by (name_cut_sound text) (ends_name c)
  where
    by : (name_cut text).0 ++ (name_cut text).1 ≡ text → (b : Bool) → (cond {A = List ℕ × List ℕ} b ([], c ∷ text) (c ∷ (name_cut text).0, (name_cut text).1)).0 ++ (cond {A = List ℕ × List ℕ} b ([], c ∷ text) (c ∷ (name_cut text).0, (name_cut text).1)).1 ≡ c ∷ text
    by e true = refl
    by e false = ap (λ t. c ∷ t) e

-- one word more

pub pushed_sound : (n : Node) (words after : List Node) → pushed n words ≡ Some after → after ≡ words ++ n ∷ []
unfolding pushed
pushed_sound n words after e = sym (cond_some (ltb (length words) 16) (words ++ n ∷ []) after e).1

-- types without brackets

-- a word without parts, and its text
record IsLeaf (name : List ℕ) (n : Node) : Type 0 where
  counted : HasCount n
  alone : arity n ≡ 0
  spelled : text_with n [] ≡ name

flags_sound : (digits : List ℕ) (n : Node) → flags_read digits ≡ Some n → IsLeaf (codes "flags" ++ digits) n
unfolding flags_read
flags_sound digits n e =
    option_map_some node.Flags (number_within 1 32 digits) n e (λ k f g.
    let r = (IsReading-within 1 32 (omega arith)).sound digits k f in
    rw (← g) (record { counted = r.1; alone = refl; spelled = ap (λ w. codes "flags" ++ w) r.0 }))

enum_sound : (digits : List ℕ) (n : Node) → enum_read digits ≡ Some n → IsLeaf (codes "enum" ++ digits) n
unfolding enum_read
enum_sound digits n e =
    option_map_some node.Enum (number_within 1 128 digits) n e (λ k f g.
    let r = (IsReading-within 1 128 (omega arith)).sound digits k f in
    rw (← g) (record { counted = r.1; alone = refl; spelled = ap (λ w. codes "enum" ++ w) r.0 }))

plain_sound : (name : List ℕ) (n : Node) → plain_read name ≡ Some n → IsLeaf name n
unfolding plain_read
plain_sound name n e = by_nothing (bytes_eq name (codes "_")) refl e
  where
    by_enum : (o : Option (List ℕ)) → behind (codes "enum") name ≡ o → option_map_or enum_read o (option_map node.Plain (scalar_read name)) ≡ Some n → IsLeaf name n
    by_enum None f e = option_map_some node.Plain (scalar_read name) n e (λ s g h. rw (← h) (record { counted = tt; alone = refl; spelled = scalar_sound name s g }))
    by_enum (Some digits) f e = rw (behind_sound (codes "enum") name digits f) (enum_sound digits n e)

    by_flags : (o : Option (List ℕ)) → behind (codes "flags") name ≡ o → option_map_or flags_read o (option_map_or enum_read (behind (codes "enum") name) (option_map node.Plain (scalar_read name))) ≡ Some n → IsLeaf name n
    by_flags None f e = by_enum (behind (codes "enum") name) refl e
    by_flags (Some digits) f e = rw (behind_sound (codes "flags") name digits f) (flags_sound digits n e)

    by_nothing : (b : Bool) → bytes_eq name (codes "_") ≡ b → cond b (Some node.Nothing) (option_map_or flags_read (behind (codes "flags") name) (option_map_or enum_read (behind (codes "enum") name) (option_map node.Plain (scalar_read name)))) ≡ Some n → IsLeaf name n
    by_nothing true f e =
        let same : node.Nothing ≡ n = same_Some node.Nothing n e in
        rw (← same) (record { counted = tt; alone = refl; spelled = sym ((bytes_eq-Decides name (codes "_")).0 f) })
    by_nothing false f e = by_flags (behind (codes "flags") name) refl e

-- no value
abbrev pub empty : Tree
empty = Branch node.Nothing no_trees

-- what is read by a name, which may be that of a result
abbrev leaf_by : Bool → List ℕ → List Node → Option (List Node)
leaf_by b name words =
    cond b (option_and_then {U = List Node} (λ one. option_and_then {U = List Node} (λ two. pushed node.Nothing two) (pushed node.Nothing one)) (pushed node.Result words))
    (option_and_then {U = List Node} (λ n. pushed n words) (plain_read name))

leaf_sound : (name : List ℕ) (words after : List Node) (rest : List ℕ) → leaf_front name words ≡ Some after → IsFront words (name ++ rest) after rest
unfolding leaf_front
leaf_sound name words after rest e = by_result (bytes_eq name (codes "result")) refl e
  where
    by_result : (b : Bool) → bytes_eq name (codes "result") ≡ b → leaf_by b name words ≡ Some after → IsFront words (name ++ rest) after rest
    by_result true f e =
        option_and_then_some _ (pushed node.Result words) after e (λ one g h.
        option_and_then_some _ (pushed node.Nothing one) after h (λ two i j.
        let a = pushed_sound node.Result words one g in
        let b = pushed_sound node.Nothing one two i in
        let c = pushed_sound node.Nothing two after j in
        record {
          tree = Branch node.Result (more empty (more empty no_trees));
          is = (tt, refl, ((tt, refl, tt), ((tt, refl, tt), tt)));
          put = c ∙ ap (λ ws. ws ++ node.Nothing ∷ []) (b ∙ ap (λ ws. ws ++ node.Nothing ∷ []) a)
              ∙ append_assoc (words ++ node.Result ∷ []) (node.Nothing ∷ []) (node.Nothing ∷ []) ∙ append_assoc words (node.Result ∷ []) (node.Nothing ∷ node.Nothing ∷ []);
          stands = ap (λ w. w ++ rest) ((bytes_eq-Decides name (codes "result")).0 f);
        }))
    by_result false f e =
        option_and_then_some _ (plain_read name) after e (λ n g h.
        let l = plain_sound name n g in
        record {
          tree = Branch n no_trees;
          is = (l.counted, l.alone, tt);
          put = pushed_sound n words after h;
          stands = ap (λ w. w ++ rest) (sym l.spelled);
        })

-- types in brackets

pub join-more : (t : List ℕ) (ts : Trees) → 0 < count ts → join_with_byte 44 (t ∷ all_texts ts) ≡ t ++ 44 ∷ join_with_byte 44 (all_texts ts)
join-more t no_trees h = absurd (omega arith)
join-more t (more u ts) h = refl

pub ends_empty-more : (b : Bool) (ts : Trees) → 0 < count ts → ends_empty b ts ≡ ends_empty false ts
ends_empty-more b no_trees h = absurd (omega arith)
ends_empty-more b (more t ts) h = refl

-- what was read up to a closing bracket: so many types
record AreFront (words : List Node) (text : List ℕ) (number : ℕ) (empty_end : Bool) (after : List Node) (rest : List ℕ) : Type 0 where
  trees : Trees
  are : AreTrees trees
  some : 0 < count trees
  counted : number ≡ count trees
  last : empty_end ≡ ends_empty false trees
  put : after ≡ words ++ all_words trees
  stand : text ≡ join_with_byte 44 (all_texts trees) ++ 62 ∷ rest

-- a way to read one type, which finds what is written
abbrev ReadsTypes : Reader → Type 0
ReadsTypes read = (words : List Node) (text : List ℕ) (p : List Node × List ℕ) → read words text ≡ Some p → IsFront words text p.0 p.1

-- and so of so many types up to a closing bracket
abbrev ReadsParts : Reader → ℕ → Type 0
ReadsParts read most = (words : List Node) (text : List ℕ) (q : PartsRead) → parts_by read most words text ≡ Some q → AreFront words text q.0 q.1 q.2 q.3

one_front : (words : List Node) (text : List ℕ) (after : List Node) (rest more_text : List ℕ) → IsFront words text after rest → rest ≡ 62 ∷ more_text → AreFront words text 1 (is_nothing (drop (length words) after)) after more_text
one_front words text after rest more_text f e = record {
  trees = more f.tree no_trees;
  are = (f.is, tt);
  some = omega arith;
  counted = refl;
  last = ap is_nothing (ap (drop (length words)) f.put ∙ drop_at words (words_of f.tree) (length words) refl);
  put = f.put ∙ ap (λ ws. words ++ ws) (sym (append-nil (words_of f.tree)));
  stand = f.stands ∙ ap (λ r. text_of f.tree ++ r) e;
}

module _ (words between after : List Node) (text rest more_text behind_it : List ℕ) (number : ℕ) (empty_end : Bool) where
  more_front : IsFront words text between rest → rest ≡ 44 ∷ more_text → AreFront between more_text number empty_end after behind_it → AreFront words text (number + 1) empty_end after behind_it
  more_front f e g =
      let joined = join_with_byte 44 (all_texts g.trees) in
      record {
        trees = more f.tree g.trees;
        are = (f.is, g.are);
        some = omega arith;
        counted = omega (arith, g.counted);
        last = g.last ∙ sym (ends_empty-more (is_nothing (words_of f.tree)) g.trees g.some);
        put = g.put ∙ ap (λ ws. ws ++ all_words g.trees) f.put ∙ append_assoc words (words_of f.tree) (all_words g.trees);
        stand =
            f.stands ∙ ap (λ r. text_of f.tree ++ r) (e ∙ ap (λ t. 44 ∷ t) g.stand)
            ∙ sym (ap (λ t. t ++ 62 ∷ behind_it) (join-more (text_of f.tree) g.trees g.some) ∙ append_assoc (text_of f.tree) (44 ∷ joined) (62 ∷ behind_it));
      }

parts_sound : (read : Reader) → ReadsTypes read → (most : ℕ) → ReadsParts read most
unfolding parts_by
parts_sound read r zero words text q e = absurd (none-some q e)
parts_sound read r (suc most) words text q e =
    option_and_then_some _ (read words text) q e (λ p f g. by_end (parts_sound read r most) p (r words text p f) (behind (codes ">") p.1) refl g)
  where
    by_end : ReadsParts read most → (p : List Node × List ℕ) → IsFront words text p.0 p.1 → (o : Option (List ℕ)) → behind (codes ">") p.1 ≡ o → part_by read most words p o ≡ Some q → AreFront words text q.0 q.1 q.2 q.3
    by_end sound p front (Some after) f e =
        let same : (1, is_nothing (drop (length words) p.0), p.0, after) ≡ q = same_Some _ q e in
        rw (← same) (one_front words text p.0 p.1 after front (behind_sound (codes ">") p.1 after f))
    by_end sound p front None f e =
        option_and_then_some _ (behind (codes ",") p.1) q e (λ others g h.
        option_and_then_some _ (parts_by read most p.0 others) q h (λ s i j.
        let same : (s.0 + 1, s.1, s.2, s.3) ≡ q = same_Some _ q j in
        rw (← same) (more_front words p.0 s.2 text p.1 others s.3 s.0 s.1 front (behind_sound (codes ",") p.1 others g) (sound p.0 others s i))))

-- the own word of a type whose parts were read

-- a type of a name and parts
record IsHolder (name : List ℕ) (words : List Node) (ts : Trees) (after : List Node) : Type 0 where
  tree : Tree
  is : IsTree tree
  put : after ≡ words ++ words_of tree
  spelled : text_of tree ≡ name ++ bracketed (all_texts ts)

-- the place kept for the own word
pub kept_place : (words inner : List Node) (n : Node) → slice_set ((words ++ node.Nothing ∷ []) ++ inner) (length words) n ≡ words ++ n ∷ inner
kept_place words inner n = ap (λ ws. slice_set ws (length words) n) (append_assoc words (node.Nothing ∷ []) inner) ∙ set-append_seam words node.Nothing inner n

record IsHeld (name : List ℕ) (ts : Trees) (n : Node) : Type 0 where
  counted : HasCount n
  parts : arity n ≡ count ts
  spelled : text_with n (all_texts ts) ≡ name ++ bracketed (all_texts ts)

all_taken : (name front : List ℕ) (ts : Trees) (k : ℕ) → k ≡ count ts → name ≡ front → front ++ bracketed (take k (all_texts ts)) ≡ name ++ bracketed (all_texts ts)
all_taken name front ts k e f = rw (f, take_all k (all_texts ts) (omega (arith, e, length-all_texts ts))) refl

holding_sound : (name : List ℕ) (ts : Trees) (n : Node) → 0 < count ts → holding name (count ts) ≡ Some n → IsHeld name ts n
unfolding holding
holding_sound name ts n some e = by_option (bytes_eq name (codes "option")) refl e
  where
    by_variant : (b : Bool) → bytes_eq name (codes "variant") ≡ b → cond b (Some (node.Variant (count ts))) None ≡ Some n → IsHeld name ts n
    by_variant true f e =
        let same : node.Variant (count ts) ≡ n = same_Some _ n e in
        rw (← same) (record { counted = some; parts = refl; spelled = all_taken name (codes "variant") ts (count ts) refl ((bytes_eq-Decides name (codes "variant")).0 f) })
    by_variant false f e = absurd (none-some n e)

    by_record : (b : Bool) → bytes_eq name (codes "record") ≡ b → cond b (Some (node.Tuple (count ts))) (cond (bytes_eq name (codes "variant")) (Some (node.Variant (count ts))) None) ≡ Some n → IsHeld name ts n
    by_record true f e =
        let same : node.Tuple (count ts) ≡ n = same_Some _ n e in
        rw (← same) (record { counted = some; parts = refl; spelled = all_taken name (codes "record") ts (count ts) refl ((bytes_eq-Decides name (codes "record")).0 f) })
    by_record false f e = by_variant (bytes_eq name (codes "variant")) refl e

    by_option : (b : Bool) → bytes_eq name (codes "option") ≡ b → cond b (cond (eqb (count ts) 1) (Some node.Option) None) (cond (bytes_eq name (codes "record")) (Some (node.Tuple (count ts))) (cond (bytes_eq name (codes "variant")) (Some (node.Variant (count ts))) None)) ≡ Some n → IsHeld name ts n
    by_option true f e =
        let c = cond_some (eqb (count ts) 1) node.Option n e in
        let one : 1 ≡ count ts = sym (eqb-true (count ts) 1 c.0) in
        rw (← c.1) (record { counted = tt; parts = one; spelled = all_taken name (codes "option") ts 1 one ((bytes_eq-Decides name (codes "option")).0 f) })
    by_option false f e = by_record (bytes_eq name (codes "record")) refl e

-- what holds of each way in which a result is written
pub result_cases : (P : List ℕ → Type 0) (ok error : List ℕ) → P (codes "result") → P (codes "result" ++ bracketed (ok ∷ [])) → P (codes "result" ++ bracketed (ok ∷ error ∷ [])) → P (result_text ok error)
result_cases P ok error none one two = by (bytes_eq error (codes "_")) (bytes_eq ok (codes "_"))
  where
    by : (b c : Bool) → P (cond b (cond c (codes "result") (codes "result" ++ bracketed (ok ∷ []))) (codes "result" ++ bracketed (ok ∷ error ∷ [])))
    by true true = none
    by true false = one
    by false c = two

-- only no value has this text
pub nothing_text : (t : Tree) → bytes_eq (text_of t) (codes "_") ≡ is_nothing (words_of t)
nothing_text (Branch node.Nothing ts) = refl
nothing_text (Branch (node.Plain s) ts) = by s
  where
    by : (s : Scalar) → bytes_eq (scalar_word s) (codes "_") ≡ false
    by Flag = refl
    by S8 = refl
    by U8 = refl
    by S16 = refl
    by U16 = refl
    by S32 = refl
    by U32 = refl
    by S64 = refl
    by U64 = refl
    by Char = refl
    by F32 = refl
    by F64 = refl
nothing_text (Branch (node.Flags n) ts) = refl
nothing_text (Branch (node.Enum n) ts) = refl
nothing_text (Branch node.Option ts) = refl
nothing_text (Branch node.Result ts) = result_cases (λ w. bytes_eq w (codes "_") ≡ false) (first_text (all_texts ts)) (first_text (drop 1 (all_texts ts))) refl refl refl
nothing_text (Branch (node.Tuple n) ts) = refl
nothing_text (Branch (node.Variant n) ts) = refl

-- a result is spelled in the shortest way

result_one : (a : Tree) → is_nothing (words_of a) ≡ false → result_text (text_of a) (codes "_") ≡ codes "result" ++ bracketed (text_of a ∷ [])
result_one a e = rw (nothing_text a, e) refl

result_two : (a b : Tree) → is_nothing (words_of b) ≡ false → result_text (text_of a) (text_of b) ≡ codes "result" ++ bracketed (text_of a ∷ text_of b ∷ [])
result_two a b e = rw (nothing_text b, e) refl

-- the words with an own word in the place that was kept for it
abbrev placed : List Node → Trees → Node → List Node
placed words ts n = slice_set ((words ++ node.Nothing ∷ []) ++ all_words ts) (length words) n

-- those of a result of one or two parts
abbrev result_by : List Node → Trees → Option (List Node)
result_by words ts = cond (eqb (count ts) 1) (pushed node.Nothing (placed words ts node.Result)) (Some (placed words ts node.Result))

result_sound : (name : List ℕ) (words : List Node) (ts : Trees) (after : List Node) → AreTrees ts → name ≡ codes "result" → 0 < count ts → count ts ≤ 2 → ends_empty false ts ≡ false → result_by words ts ≡ Some after → IsHolder name words ts after
result_sound name words no_trees after are is some few last e = absurd (omega arith)
result_sound name words (more a no_trees) after are is some few last e =
    let put = pushed_sound node.Nothing (placed words (more a no_trees) node.Result) after e in
    record {
      tree = Branch node.Result (more a (more empty no_trees));
      is = (tt, refl, (are.0, ((tt, refl, tt), tt)));
      put =
          put ∙ ap (λ ws. ws ++ node.Nothing ∷ []) (kept_place words (words_of a ++ []) node.Result ∙ ap (λ ws. words ++ node.Result ∷ ws) (append-nil (words_of a)))
          ∙ append_assoc words (node.Result ∷ words_of a) (node.Nothing ∷ []);
      spelled = result_one a last ∙ ap (λ w. w ++ bracketed (text_of a ∷ [])) (sym is);
    }
result_sound name words (more a (more b no_trees)) after are is some few last e =
    let put = same_Some (placed words (more a (more b no_trees)) node.Result) after e in
    record {
      tree = Branch node.Result (more a (more b no_trees));
      is = (tt, refl, are);
      put = sym put ∙ kept_place words (words_of a ++ (words_of b ++ [])) node.Result;
      spelled = result_two a b last ∙ ap (λ w. w ++ bracketed (text_of a ∷ text_of b ∷ [])) (sym is);
    }
result_sound name words (more a (more b (more c ts))) after are is some few last e = absurd (omega (arith, few))

either_false : (a b : Bool) → a || b ≡ false → (a ≡ false) × (b ≡ false)
either_false true b e = cc
either_false false b e = (refl, e)

-- a type of this name whose parts were read
abbrev pub closed_over : List ℕ → List Node → Trees → Option (List Node)
closed_over name words ts = closed name (length words) (count ts) (ends_empty false ts) ((words ++ node.Nothing ∷ []) ++ all_words ts)

-- the same, where the name may be that of a result
abbrev closed_by : Bool → List ℕ → List Node → Trees → Option (List Node)
closed_by b name words ts =
    cond b (cond (ends_empty false ts || ltb 2 (count ts)) None (result_by words ts))
    (option_map (λ n. placed words ts n) (holding name (count ts)))

closed_sound : (name : List ℕ) (words : List Node) (ts : Trees) (after : List Node) → AreTrees ts → 0 < count ts → closed_over name words ts ≡ Some after → IsHolder name words ts after
unfolding closed
closed_sound name words ts after are some e = by_result (bytes_eq name (codes "result")) refl e
  where
    by_result : (b : Bool) → bytes_eq name (codes "result") ≡ b → closed_by b name words ts ≡ Some after → IsHolder name words ts after
    by_result true f e =
        let s = skipped (ends_empty false ts || ltb 2 (count ts)) _ after e in
        let n = either_false (ends_empty false ts) (ltb 2 (count ts)) s.0 in
        result_sound name words ts after are ((bytes_eq-Decides name (codes "result")).0 f) some (ltb-false 2 (count ts) n.1) n.0 s.1
    by_result false f e =
        option_map_some _ (holding name (count ts)) after e (λ n g h.
        let held = holding_sound name ts n some g in
        record {
          tree = Branch n ts;
          is = (held.counted, held.parts, are);
          put = sym h ∙ kept_place words (all_words ts) n;
          spelled = held.spelled;
        })

closed_same : (name : List ℕ) (place n m : ℕ) (b c : Bool) (xs ys : List Node) → n ≡ m → b ≡ c → xs ≡ ys → closed name place n b xs ≡ closed name place m c ys
closed_same name place n m b c xs ys e f g = rw (e, f, g) refl

-- the text of a type in brackets, and what follows it
pub bracket_text : (name : List ℕ) (ts : List (List ℕ)) (rest : List ℕ) → (name ++ bracketed ts) ++ rest ≡ name ++ 60 ∷ (join_with_byte 44 ts ++ 62 ∷ rest)
bracket_text name ts rest = append_assoc name (bracketed ts) rest ∙ ap (λ t. name ++ 60 ∷ t) (append_assoc (join_with_byte 44 ts) (62 ∷ []) rest)

module _ (name inside rest : List ℕ) (words own between after : List Node) (number : ℕ) (empty_end : Bool) where
  bracket_sound : own ≡ words ++ node.Nothing ∷ [] → AreFront own inside number empty_end between rest → closed name (length words) number empty_end between ≡ Some after → IsFront words (name ++ 60 ∷ inside) after rest
  bracket_sound o a e =
      let put : between ≡ (words ++ node.Nothing ∷ []) ++ all_words a.trees = a.put ∙ ap (λ ws. ws ++ all_words a.trees) o in
      let same = closed_same name (length words) number (count a.trees) empty_end (ends_empty false a.trees) between ((words ++ node.Nothing ∷ []) ++ all_words a.trees) a.counted a.last put in
      let h = closed_sound name words a.trees after a.are a.some (sym same ∙ e) in
      record {
        tree = h.tree;
        is = h.is;
        put = h.put;
        stands = ap (λ t. name ++ 60 ∷ t) a.stand ∙ sym (ap (λ t. t ++ rest) h.spelled ∙ bracket_text name (all_texts a.trees) rest);
      }

-- what is read as the type at the front of a text is written there
pub front_sound : (depth : ℕ) → ReadsTypes (type_front depth)
unfolding type_front
front_sound zero words text p e = absurd (none-some p e)
front_sound (suc depth) words text p e = by_bracket (front_sound depth) (behind (codes "<") (name_cut text).1) refl e
  where
    by_bracket : ReadsTypes (type_front depth) → (o : Option (List ℕ)) → behind (codes "<") (name_cut text).1 ≡ o → front_by depth words (name_cut text) o ≡ Some p → IsFront words text p.0 p.1
    by_bracket sound None f e =
        option_map_some _ (leaf_front (name_cut text).0 words) p e (λ all g h.
        rw (← h) (subst (λ t. IsFront words t all (name_cut text).1) (name_cut_sound text) (leaf_sound (name_cut text).0 words all (name_cut text).1 g)))
    by_bracket sound (Some inside) f e =
        option_and_then_some _ (pushed node.Nothing words) p e (λ own g h.
        option_and_then_some _ (parts_by (type_front depth) depth own inside) p h (λ q i j.
        option_and_then_some _ (closed (name_cut text).0 (length words) q.0 q.1 q.2) p j (λ all k l.
        let same : (all, q.3) ≡ p = same_Some (all, q.3) p l in
        let a = parts_sound (type_front depth) sound depth own inside q i in
        let b = bracket_sound (name_cut text).0 inside q.3 words own q.2 all q.0 q.1 (pushed_sound node.Nothing words own g) a k in
        let whole = ap (λ r. (name_cut text).0 ++ r) (sym (behind_sound (codes "<") (name_cut text).1 inside f)) ∙ name_cut_sound text in
        rw (← same) (subst (λ t. IsFront words t all q.3) whole b))))
