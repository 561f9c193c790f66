-- The words of a type in an array, and the name at the front of a text.
use Rattle.std.proofs.Common.{◌≡◌, ℕ, zero, suc, ◌+◌, ◌-◌, ◌<◌, ◌≤◌, List, [], ◌∷◌, ◌++◌, length, take, drop, get_or, codes, slice_set, Bool, true, false, cond, eqb, ◌↔◌, IsSome, IfSome, Option, Some, None, append_assoc, length-take-le, refl, sym, ap, ◌∙◌, arith}
use Rattle.std.specs.Prelude.{option_and_then}
use Rattle.std.specs.Option.{option_map, option_map_or}
use Rattle.std.proofs.lemmas.Bool.{lt-ltb, le-ltb}
use Rattle.std.proofs.lemmas.List.{take_more, take_more_set, take_all, drop_more, drop_all, append-nil}
use Rattle.strm_codes.specs.CompoundTests.{spells_compound}
use Rattle.strm_codes.specs.Spellings.{IsCompound}
use Rattle.strm_codes.specs.declared.nodes.Node.{Node}
use Rattle.strm_codes.specs.declared.nodes.Node.TheVariants as node
use Rattle.strm_codes.proofs.CompoundTestLemmas.{Decides-spells_compound}
use Rattle.strm_lines.specs.Reading.{behind, is_nothing, pushed, name_cut, ends_name, leaf_front, closed, parts_by, type_front, compound_read}

pub no_room : (nodes words : List Node) (len : ℕ) (n : Node) → length nodes ≡ 16 → len ≡ 16 → take len nodes ≡ words → None ≡ pushed n words
unfolding pushed
no_room nodes words len n w h e =
    let l : length words ≡ 16 = ap length (sym e) ∙ length-take-le len nodes (omega (arith, w, h)) ∙ h in
    rw (le-ltb (length words) 16 (omega (arith, l))) refl

pub room : (nodes words : List Node) (len : ℕ) (n : Node) → length nodes ≡ 16 → len < 16 → take len nodes ≡ words → Some (take (len + 1) (slice_set nodes len n)) ≡ pushed n words
unfolding pushed
room nodes words len n w h e =
    let l : length words ≡ len = ap length (sym e) ∙ length-take-le len nodes (omega (arith, w, h)) in
    rw (lt-ltb (length words) 16 (omega (arith, l, h))) (ap Some (take_more_set nodes len n (omega (arith, w, h)) ∙ ap (λ ws. ws ++ n ∷ []) e))

-- a name, byte by byte

-- the name that goes on from a place
abbrev pub cut_from : ℕ → List ℕ → List ℕ × List ℕ
cut_from at text = (take at text ++ (name_cut (drop at text)).0, (name_cut (drop at text)).1)

pub cut_begins : (text : List ℕ) → cut_from 0 text ≡ name_cut text
cut_begins text = refl

pub cut_more : (text : List ℕ) (at : ℕ) → at < length text → ends_name (get_or text at 0) ≡ false → cut_from (at + 1) text ≡ cut_from at text
unfolding name_cut
cut_more text at h e =
    rw (drop_more text at 0 h, e, take_more text at 0 h, append_assoc (take at text) (get_or text at 0 ∷ []) (name_cut (drop (at + 1) text)).0) refl

pub cut_ends : (text : List ℕ) (at : ℕ) → at < length text → ends_name (get_or text at 0) ≡ true → (take at text, drop at text) ≡ cut_from at text
unfolding name_cut
cut_ends text at h e = rw (drop_more text at 0 h, e, append-nil (take at text)) refl

pub cut_nowhere : (text : List ℕ) (at : ℕ) → length text ≤ at → (take (length text) text, drop (length text) text) ≡ cut_from at text
unfolding name_cut
cut_nowhere text at h =
    rw (take_all (length text) text (omega arith), drop_all (length text) text (omega arith), take_all at text h, drop_all at text h, append-nil text) refl

-- a way to read a type, which puts its words behind others and tells what follows it
abbrev pub Reader : Type 0
Reader = List Node → List ℕ → Option (List Node × List ℕ)

-- what is read up to a closing bracket: how many types, whether the last is no value, the words, what follows
abbrev pub PartsRead : Type 0
PartsRead = ℕ × Bool × List Node × List ℕ

-- a type at the front of a text, by its name

pub front_none : (depth : ℕ) (words : List Node) (text : List ℕ) → depth ≡ 0 → None ≡ type_front depth words text
unfolding type_front
front_none depth words text e = rw e refl

pub front_leaf : (depth : ℕ) (words : List Node) (text name rest : List ℕ) (o : Option (List Node)) → 0 < depth → (name, rest) ≡ name_cut text → None ≡ behind (codes "<") rest → o ≡ leaf_front name words → option_map (λ all. (all, rest)) o ≡ type_front depth words text
unfolding type_front
front_leaf zero words text name rest o h e f g = absurd (omega (arith, h))
front_leaf (suc m) words text name rest o h e f g = rw (← e, ← f, g) refl

-- what is read behind an opening bracket, where the type has this name
abbrev pub bracket_by : ℕ → List Node → List ℕ → List ℕ → Option (List Node × List ℕ)
bracket_by depth words name inside =
    option_and_then {U = List Node × List ℕ} (λ own. option_and_then {U = List Node × List ℕ} (λ q. option_and_then {U = List Node × List ℕ} (λ all. Some (all, q.3)) (closed name (length words) q.0 q.1 q.2)) (parts_by (type_front depth) depth own inside)) (pushed node.Nothing words)

-- what is read of a type of this name, where this follows an opening bracket
abbrev pub front_by : ℕ → List Node → List ℕ × List ℕ → Option (List ℕ) → Option (List Node × List ℕ)
front_by depth words cut o =
    option_map_or {U = Option (List Node × List ℕ)} (λ inside. bracket_by depth words cut.0 inside) o
    (option_map (λ all. (all, cut.1)) (leaf_front cut.0 words))

pub front_bracket : (depth : ℕ) (words : List Node) (text name rest inside : List ℕ) → 0 < depth → (name, rest) ≡ name_cut text → Some inside ≡ behind (codes "<") rest → bracket_by (depth - 1) words name inside ≡ type_front depth words text
unfolding type_front
front_bracket zero words text name rest inside h e f = absurd (omega (arith, h))
front_bracket (suc m) words text name rest inside h e f =
    let n : suc m - 1 ≡ m = omega arith in
    rw (n, ← e, ← f) refl

-- types up to a closing bracket

pub parts_none : (read : Reader) (most : ℕ) (words : List Node) (text : List ℕ) → most ≡ 0 → None ≡ parts_by read most words text
unfolding parts_by
parts_none read most words text e = rw e refl

-- what is read behind a type of several, where this follows a closing bracket
abbrev pub part_by : Reader → ℕ → List Node → List Node × List ℕ → Option (List ℕ) → Option PartsRead
part_by read most words p o =
    option_map_or {U = Option PartsRead} (λ after. Some (1, is_nothing (drop (length words) p.0), p.0, after)) o
    (option_and_then {U = PartsRead} (λ others. option_and_then {U = PartsRead} (λ q. Some (q.0 + 1, q.1, q.2, q.3)) (parts_by read most p.0 others)) (behind (codes ",") p.1))

abbrev pub behind_part : Reader → ℕ → List Node → List Node × List ℕ → Option PartsRead
behind_part read most words p = part_by read most words p (behind (codes ">") p.1)

pub parts_more : (read : Reader) (most : ℕ) (words : List Node) (text : List ℕ) (o : Option (List Node × List ℕ)) → 0 < most → o ≡ read words text → option_and_then {U = PartsRead} (behind_part read (most - 1) words) o ≡ parts_by read most words text
unfolding parts_by
parts_more read zero words text o h e = absurd (omega (arith, h))
parts_more read (suc m) words text o h e =
    let n : suc m - 1 ≡ m = omega arith in
    rw (n, e) refl

-- how reading goes on behind an opening bracket

pub bracket_unpushed : (depth : ℕ) (words : List Node) (name inside : List ℕ) → None ≡ pushed node.Nothing words → None ≡ bracket_by depth words name inside
bracket_unpushed depth words name inside e = rw (← e) refl

pub bracket_unread : (depth : ℕ) (words own : List Node) (name inside : List ℕ) → Some own ≡ pushed node.Nothing words → None ≡ parts_by (type_front depth) depth own inside → None ≡ bracket_by depth words name inside
bracket_unread depth words own name inside e f = rw (← e, ← f) refl

module _ (depth : ℕ) (words own between : List Node) (name inside rest : List ℕ) (place number : ℕ) (empty_end : Bool)
    (e : Some own ≡ pushed node.Nothing words) (f : Some (number, empty_end, between, rest) ≡ parts_by (type_front depth) depth own inside) (p : place ≡ length words) where
  pub bracket_unclosed : None ≡ closed name place number empty_end between → None ≡ bracket_by depth words name inside
  bracket_unclosed g = rw (← e, ← f, ← p, ← g) refl

  pub bracket_closed : (all : List Node) → Some all ≡ closed name place number empty_end between → Some (all, rest) ≡ bracket_by depth words name inside
  bracket_closed all g = rw (← e, ← f, ← p, ← g) refl

-- and behind a type of several

module _ (read : Reader) (most : ℕ) (words between : List Node) (rest : List ℕ) where
  pub part_ends : (after : List ℕ) (place : ℕ) (b : Bool) → Some after ≡ behind (codes ">") rest → place ≡ length words → b ≡ is_nothing (drop place between) → Some (1, b, between, after) ≡ behind_part read most words (between, rest)
  part_ends after place b e p f = rw (← e, f, p) refl

  pub part_stops : None ≡ behind (codes ">") rest → None ≡ behind (codes ",") rest → None ≡ behind_part read most words (between, rest)
  part_stops e f = rw (← e, ← f) refl

  module _ (others : List ℕ) (e : None ≡ behind (codes ">") rest) (f : Some others ≡ behind (codes ",") rest) where
    pub part_fails : None ≡ parts_by read most between others → None ≡ behind_part read most words (between, rest)
    part_fails g = rw (← e, ← f, ← g) refl

    pub part_more : (q : PartsRead) → Some q ≡ parts_by read most between others → Some (q.0 + 1, q.1, q.2, q.3) ≡ behind_part read most words (between, rest)
    part_more q g = rw (← e, ← f, ← g) refl

-- a word that is one type

pub compound_unread : (word : List ℕ) → None ≡ type_front 16 [] word → None ≡ compound_read word
unfolding compound_read
compound_unread word e = rw (← e) refl

pub compound_longer : (word rest : List ℕ) (ns : List Node) → Some (ns, rest) ≡ type_front 16 [] word → eqb (length rest) 0 ≡ false → None ≡ compound_read word
unfolding compound_read
compound_longer word rest ns e f = rw (← e, f) refl

-- a compound of these words, if they are one
pub compound_made : (word rest : List ℕ) (ns : List Node) (o : Option (List Node)) → Some (ns, rest) ≡ type_front 16 [] word → eqb (length rest) 0 ≡ true → IsSome o ↔ IsCompound ns → IfSome o (λ c. c ≡ ns) → o ≡ compound_read word
unfolding compound_read
compound_made word rest ns None e f h is = rw (← e, f) (not_spelled (spells_compound ns) refl)
  where
    not_spelled : (b : Bool) → spells_compound ns ≡ b → None ≡ cond b (Some ns) None
    not_spelled true g = let x : false ≡ true = h.1 ((Decides-spells_compound ns).0 g) in cc
    not_spelled false g = refl
compound_made word rest ns (Some c) e f h is = rw (← e, f, (Decides-spells_compound ns).1 (h.0 refl)) (ap Some is)
