-- Types that hold others: what is read is what is written, and the other way round.
use Rattle.std.proofs.Common.{◌≡◌, ℕ, ◌+◌, ◌≤◌, zero, suc, List, [], ◌∷◌, ◌++◌, length, take, drop, codes, true, false, eqb, ◌&&◌, Some, None, subst, refl, sym, ap, ◌∙◌, arith}
use Rattle.std.specs.Fmt.{decimal}
use Rattle.std.specs.Str.{bytes_eq}
use Rattle.std.specs.List.{join_with_byte}
use Rattle.std.proofs.lemmas.Bool.{eqb-true}
use Rattle.std.proofs.lemmas.List.{append-nil}
use Rattle.std.proofs.lemmas.Option.{option_and_then_some, same_Some}
use Rattle.strm_codes.specs.declared.nodes.Node.{Node}
use Rattle.strm_codes.specs.declared.nodes.Node.TheVariants as node
use Rattle.strm_codes.specs.Spellings.{arity, HasCount, AreSpelled, IsCompound, is_flat}
use Rattle.strm_codes.specs.CompoundTests.{spells_compound}
use Rattle.strm_codes.proofs.CompoundTestLemmas.{Decides-spells_compound}
use Rattle.strm_lines.specs.Words.{first_text, text_with, texts, bracketed, result_text}
use Rattle.strm_lines.specs.Reading.{behind, scalar_read, type_front, compound_read}
use Rattle.strm_lines.proofs.ChoiceLemmas.{chosen, both_true}
use Rattle.strm_lines.proofs.CutLemmas.{IsWithout, IsWithout-append, are_above, without_low}
use Rattle.strm_lines.proofs.NumberLemmas.{IsWithout-decimal}
use Rattle.strm_lines.proofs.ScalarLemmas.{IsWithout-scalar}
use Rattle.strm_lines.proofs.TreeLemmas.{Tree, Branch, Trees, no_trees, more, count, words_of, all_words, text_of, all_texts, IsTree, AreTrees, texts-words_of, grown}
use Rattle.strm_lines.proofs.FrontLemmas.{front_sound, result_cases}
use Rattle.strm_lines.proofs.WrittenLemmas.{can_read}

-- the text of the words of a tree
tree_text : (t : Tree) → IsTree t → first_text (texts (words_of t)) ≡ text_of t
tree_text t h = ap (λ ws. first_text (texts ws)) (sym (append-nil (words_of t))) ∙ ap first_text (texts-words_of t [] h)

-- a type that is spelled as these words is that of a tree
record IsGrown (ns : List Node) : Type 0 where
  tree : Tree
  is : IsTree tree
  words : words_of tree ≡ ns

only_tree : (ns : List Node) (ts : Trees) → all_words ts ≡ ns → AreTrees ts → count ts ≡ 1 → IsGrown ns
only_tree ns no_trees w a e = absurd (omega (arith, e))
only_tree ns (more t no_trees) w a e = record { tree = t; is = a.0; words = sym (append-nil (words_of t)) ∙ w }
only_tree ns (more t (more u ts)) w a e = absurd (omega (arith, e))

one_tree : (ns : List Node) → IsCompound ns → IsGrown ns
one_tree ns c = let g = grown ns c.each in only_tree ns g.trees g.words g.are (g.number ∙ c.one)

pub compound_sound : (word : List ℕ) (ns : List Node) → compound_read word ≡ Some ns → (first_text (texts ns) ≡ word) × IsCompound ns
unfolding compound_read
compound_sound word ns e =
    option_and_then_some _ (type_front 16 [] word) ns e (λ p f g.
    let a : (eqb (length p.1) 0 && spells_compound p.0 ≡ true) × (Some p.0 ≡ Some ns) = chosen _ (Some p.0) ns g in
    let b : (eqb (length p.1) 0 ≡ true) × (spells_compound p.0 ≡ true) = both_true (eqb (length p.1) 0) (spells_compound p.0) a.0 in
    let same : p.0 ≡ ns = same_Some p.0 ns a.1 in
    let t = front_sound 16 [] word p f in
    rw (← same) (ap (λ ws. first_text (texts ws)) t.put ∙ tree_text t.tree t.is ∙ sym (t.stands ∙ whole (text_of t.tree) p.1 (eqb-true (length p.1) 0 b.0)), (Decides-spells_compound p.0).0 b.1))
  where
    whole : (front rest : List ℕ) → length rest ≡ 0 → front ++ rest ≡ front
    whole front [] e = append-nil front
    whole front (x ∷ rest) e = absurd (omega (arith, e))

read_whole : (word : List ℕ) (ns : List Node) → type_front 16 [] word ≡ Some (ns, []) → IsCompound ns → compound_read word ≡ Some ns
unfolding compound_read
read_whole word ns e c = rw (e, (Decides-spells_compound ns).1 c) refl

pub compound_complete : (ns : List Node) → IsCompound ns → compound_read (first_text (texts ns)) ≡ Some ns
compound_complete ns c =
    let g = one_tree ns c in
    let few : length (words_of g.tree) ≤ 16 = omega (arith, ap length g.words, c.few) in
    let text : first_text (texts ns) ≡ text_of g.tree = ap (λ ws. first_text (texts ws)) (sym g.words) ∙ tree_text g.tree g.is in
    let read = can_read g.tree g.is 16 [] [] few few tt in
    let alone : type_front 16 [] (text_of g.tree) ≡ Some (ns, []) = ap (type_front 16 []) (sym (append-nil (text_of g.tree))) ∙ read ∙ ap (λ ws. Some (ws, [])) g.words in
    ap compound_read text ∙ read_whole (text_of g.tree) ns alone c

-- the text of such a type is none of a payload of another form
pub record IsOther (text : List ℕ) : Type 0 where
  pub word : bytes_eq text (codes "none") ≡ false
  pub unopened : behind (codes "(") text ≡ None
  pub unnamed : scalar_read text ≡ None

result_other : (ok error : List ℕ) → IsOther (result_text ok error)
unfolding behind scalar_read
result_other ok error =
    result_cases IsOther ok error
    (record { word = refl; unopened = refl; unnamed = refl })
    (record { word = refl; unopened = refl; unnamed = refl })
    (record { word = refl; unopened = refl; unnamed = refl })

tree_other : (t : Tree) → is_flat (words_of t) ≡ false → IsOther (text_of t)
unfolding behind scalar_read
tree_other (Branch node.Nothing ts) e = cc
tree_other (Branch (node.Plain s) ts) e = cc
tree_other (Branch (node.Flags n) ts) e = record { word = refl; unopened = refl; unnamed = refl }
tree_other (Branch (node.Enum n) ts) e = record { word = refl; unopened = refl; unnamed = refl }
tree_other (Branch node.Option ts) e = record { word = refl; unopened = refl; unnamed = refl }
tree_other (Branch node.Result ts) e = result_other (first_text (all_texts ts)) (first_text (drop 1 (all_texts ts)))
tree_other (Branch (node.Tuple n) ts) e = record { word = refl; unopened = refl; unnamed = refl }
tree_other (Branch (node.Variant n) ts) e = record { word = refl; unopened = refl; unnamed = refl }

pub compound_other : (ns : List Node) → IsCompound ns → IsOther (first_text (texts ns))
compound_other ns c =
    let g = one_tree ns c in
    let text : first_text (texts ns) ≡ text_of g.tree = ap (λ ws. first_text (texts ws)) (sym g.words) ∙ tree_text g.tree g.is in
    subst IsOther (sym text) (tree_other g.tree (ap is_flat g.words ∙ c.nested))

-- no byte of its text is a space

-- of none of these texts
abbrev AreSpaceless : List (List ℕ) → Type 0
AreSpaceless [] = Unit {0}
AreSpaceless (t ∷ ts) = IsWithout 32 t × AreSpaceless ts

take-spaceless : (k : ℕ) (ts : List (List ℕ)) → AreSpaceless ts → AreSpaceless (take k ts)
take-spaceless zero ts h = tt
take-spaceless (suc k) [] h = tt
take-spaceless (suc k) (t ∷ ts) h = (h.0, take-spaceless k ts h.1)

drop-spaceless : (k : ℕ) (ts : List (List ℕ)) → AreSpaceless ts → AreSpaceless (drop k ts)
drop-spaceless zero ts h = h
drop-spaceless (suc k) [] h = tt
drop-spaceless (suc k) (t ∷ ts) h = drop-spaceless k ts h.1

first_spaceless : (ts : List (List ℕ)) → AreSpaceless ts → IsWithout 32 (first_text ts)
first_spaceless [] h = tt
first_spaceless (t ∷ ts) h = h.0

join_spaceless : (ts : List (List ℕ)) → AreSpaceless ts → IsWithout 32 (join_with_byte 44 ts)
join_spaceless [] h = tt
join_spaceless (t ∷ []) h = h.0
join_spaceless (t ∷ u ∷ ts) h = IsWithout-append 32 t (44 ∷ join_with_byte 44 (u ∷ ts)) h.0 ((λ e. absurd (omega (arith, e))), join_spaceless (u ∷ ts) h.1)

bracketed_spaceless : (name : List ℕ) (ts : List (List ℕ)) → are_above 44 name ≡ true → AreSpaceless ts → IsWithout 32 (name ++ bracketed ts)
bracketed_spaceless name ts n h =
    IsWithout-append 32 name (bracketed ts) (without_low 32 44 name (omega arith) n)
    ((λ e. absurd (omega (arith, e))), IsWithout-append 32 (join_with_byte 44 ts) (62 ∷ []) (join_spaceless ts h) ((λ e. absurd (omega (arith, e))), tt))

numbered_spaceless : (name : List ℕ) (n : ℕ) → are_above 44 name ≡ true → n ≤ 128 → IsWithout 32 (name ++ decimal n)
numbered_spaceless name n h l = IsWithout-append 32 name (decimal n) (without_low 32 44 name (omega arith) h) (IsWithout-decimal n (omega (arith, l)))

text_spaceless : (n : Node) (ts : List (List ℕ)) → HasCount n → AreSpaceless ts → IsWithout 32 (text_with n ts)
text_spaceless node.Nothing ts c h = without_low 32 44 (codes "_") (omega arith) refl
text_spaceless (node.Plain s) ts c h = IsWithout-scalar 32 (omega arith) s
text_spaceless (node.Flags n) ts c h = numbered_spaceless (codes "flags") n refl (omega (arith, c.1))
text_spaceless (node.Enum n) ts c h = numbered_spaceless (codes "enum") n refl c.1
text_spaceless node.Option ts c h = bracketed_spaceless (codes "option") (take 1 ts) refl (take-spaceless 1 ts h)
text_spaceless node.Result ts c h =
    let ok = first_spaceless ts h in
    let error = first_spaceless (drop 1 ts) (drop-spaceless 1 ts h) in
    result_cases (IsWithout 32) (first_text ts) (first_text (drop 1 ts))
    (without_low 32 44 (codes "result") (omega arith) refl)
    (bracketed_spaceless (codes "result") (first_text ts ∷ []) refl (ok, tt))
    (bracketed_spaceless (codes "result") (first_text ts ∷ first_text (drop 1 ts) ∷ []) refl (ok, (error, tt)))
text_spaceless (node.Tuple n) ts c h = bracketed_spaceless (codes "record") (take n ts) refl (take-spaceless n ts h)
text_spaceless (node.Variant n) ts c h = bracketed_spaceless (codes "variant") (take n ts) refl (take-spaceless n ts h)

texts_spaceless : (ns : List Node) → AreSpelled ns → AreSpaceless (texts ns)
unfolding texts AreSpelled
texts_spaceless [] h = tt
texts_spaceless (n ∷ ns) h =
    let behind_it = texts_spaceless ns h.0 in
    (text_spaceless n (texts ns) h.1 behind_it, drop-spaceless (arity n) (texts ns) behind_it)

pub compound_spaceless : (ns : List Node) → IsCompound ns → IsWithout 32 (first_text (texts ns))
compound_spaceless ns c = first_spaceless (texts ns) (texts_spaceless ns c.each)
