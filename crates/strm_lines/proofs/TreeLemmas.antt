-- Types that hold others, as trees: their words and their texts.
use Rattle.std.proofs.Common.{◌≡◌, ℕ, zero, suc, ◌+◌, ◌-◌, ◌≤◌, List, [], ◌∷◌, ◌++◌, length, take, drop, Bool, append_assoc, refl, sym, ap, ◌∙◌, arith}
use Rattle.std.proofs.lemmas.List.{take_at, take_all, drop_at}
use Rattle.strm_codes.specs.declared.nodes.Node.{Node}
use Rattle.strm_codes.specs.declared.nodes.Node.TheVariants as node
use Rattle.strm_codes.specs.Spellings.{arity, spelled, HasCount, AreSpelled}
use Rattle.strm_codes.proofs.CompoundLemmas.{length-spelled}
use Rattle.strm_codes.proofs.SpellingLemmas.{none_spelled}
use Rattle.strm_lines.specs.Words.{text_with, texts}
use Rattle.strm_lines.specs.Reading.{is_nothing}

mutual
  -- a word, and the types that stand behind it
  pub data Tree : Type 0 where
    Branch : Node → Trees → Tree

  pub data Trees : Type 0 where
    no_trees : Trees
    more : Tree → Trees → Trees

-- how many there are
abbrev pub count : Trees → ℕ
count no_trees = 0
count (more t ts) = 1 + count ts

abbrev mutual
  -- the words of a type, each before those of its parts
  pub words_of : Tree → List Node
  words_of (Branch n ts) = n ∷ all_words ts

  pub all_words : Trees → List Node
  all_words no_trees = []
  all_words (more t ts) = words_of t ++ all_words ts

abbrev mutual
  -- the text of a type
  pub text_of : Tree → List ℕ
  text_of (Branch n ts) = text_with n (all_texts ts)

  pub all_texts : Trees → List (List ℕ)
  all_texts no_trees = []
  all_texts (more t ts) = text_of t ∷ all_texts ts

abbrev mutual
  -- each word has a count that there is, and so many parts
  pub IsTree : Tree → Type 0
  IsTree (Branch n ts) = HasCount n × (arity n ≡ count ts) × AreTrees ts

  pub AreTrees : Trees → Type 0
  AreTrees no_trees = Unit {0}
  AreTrees (more t ts) = IsTree t × AreTrees ts

-- whether the last of some types is no value; the answer for none is given
abbrev pub ends_empty : Bool → Trees → Bool
ends_empty b no_trees = b
ends_empty b (more t ts) = ends_empty (is_nothing (words_of t)) ts

pub length-all_texts : (ts : Trees) → length (all_texts ts) ≡ count ts
length-all_texts no_trees = refl
length-all_texts (more t ts) = omega (arith, length-all_texts ts)

-- the text of a word is that over its own parts

first_texts : (xs ys : List (List ℕ)) (n : ℕ) → n ≡ length xs → take n (xs ++ ys) ≡ take n xs
first_texts xs ys n e = take_at xs ys n (sym e) ∙ sym (take_all n xs (omega (arith, e)))

text_with-own : (n : Node) (xs ys : List (List ℕ)) → arity n ≡ length xs → text_with n (xs ++ ys) ≡ text_with n xs
text_with-own node.Nothing xs ys e = refl
text_with-own (node.Plain s) xs ys e = refl
text_with-own (node.Flags n) xs ys e = refl
text_with-own (node.Enum n) xs ys e = refl
text_with-own node.Option xs ys e = rw (first_texts xs ys 1 e) refl
text_with-own node.Result [] ys e = absurd (omega (arith, e))
text_with-own node.Result (a ∷ []) ys e = absurd (omega (arith, e))
text_with-own node.Result (a ∷ b ∷ xs) ys e = refl
text_with-own (node.Tuple n) xs ys e = rw (first_texts xs ys n e) refl
text_with-own (node.Variant n) xs ys e = rw (first_texts xs ys n e) refl

-- the words of trees spell their texts

branch_texts : (n : Node) (xs ys : List (List ℕ)) → arity n ≡ length xs → text_with n (xs ++ ys) ∷ drop (arity n) (xs ++ ys) ≡ text_with n xs ∷ ys
branch_texts n xs ys e = rw (text_with-own n xs ys e, drop_at xs ys (arity n) (sym e)) refl

mutual
  unfolding texts

  pub texts-words_of : (t : Tree) (ns : List Node) → IsTree t → texts (words_of t ++ ns) ≡ text_of t ∷ texts ns
  texts-words_of (Branch n ts) ns h =
      ap (λ xs. text_with n xs ∷ drop (arity n) xs) (texts-all_words ts ns h.2)
      ∙ branch_texts n (all_texts ts) (texts ns) (h.1 ∙ sym (length-all_texts ts))

  pub texts-all_words : (ts : Trees) (ns : List Node) → AreTrees ts → texts (all_words ts ++ ns) ≡ all_texts ts ++ texts ns
  texts-all_words no_trees ns h = refl
  texts-all_words (more t ts) ns h =
      ap texts (append_assoc (words_of t) (all_words ts) ns)
      ∙ texts-words_of t (all_words ts ++ ns) h.0
      ∙ ap (λ xs. text_of t ∷ xs) (texts-all_words ts ns h.1)

-- the first so many trees, and the others

first : ℕ → Trees → Trees
first zero ts = no_trees
first (suc k) no_trees = no_trees
first (suc k) (more t ts) = more t (first k ts)

others : ℕ → Trees → Trees
others zero ts = ts
others (suc k) no_trees = no_trees
others (suc k) (more t ts) = others k ts

record IsParted (k : ℕ) (ts : Trees) : Type 0 where
  words : all_words (first k ts) ++ all_words (others k ts) ≡ all_words ts
  near : AreTrees (first k ts)
  far : AreTrees (others k ts)
  few : count (first k ts) ≡ k
  left : count (others k ts) ≡ count ts - k

parted : (k : ℕ) (ts : Trees) → k ≤ count ts → AreTrees ts → IsParted k ts
unfolding first others
parted zero ts h a = record { words = refl; near = tt; far = a; few = refl; left = omega arith }
parted (suc k) no_trees h a = absurd (omega (arith, h))
parted (suc k) (more t ts) h a =
    let p = parted k ts (omega (arith, h)) a.1 in
    record {
      words = append_assoc (words_of t) (all_words (first k ts)) (all_words (others k ts)) ∙ ap (λ ws. words_of t ++ ws) p.words;
      near = (a.0, p.near);
      far = p.far;
      few = omega (arith, p.few);
      left = omega (arith, p.left);
    }

-- words that spell types are those of trees
pub record AreGrown (ns : List Node) : Type 0 where
  pub trees : Trees
  pub words : all_words trees ≡ ns
  pub are : AreTrees trees
  pub number : count trees ≡ length (spelled ns)

pub grown : (ns : List Node) → AreSpelled ns → AreGrown ns
unfolding AreSpelled
grown [] s = record { trees = no_trees; words = refl; are = tt; number = sym (none_spelled [] refl) }
grown (n ∷ ns) s =
    let g = grown ns s.0 in
    let p = parted (arity n) g.trees (omega (arith, g.number, s.2)) g.are in
    record {
      trees = more (Branch n (first (arity n) g.trees)) (others (arity n) g.trees);
      words = ap (λ ws. n ∷ ws) (p.words ∙ g.words);
      are = ((s.1, sym p.few, p.near), p.far);
      number = omega (arith, p.left, g.number, s.2, length-spelled n ns s.2);
    }
