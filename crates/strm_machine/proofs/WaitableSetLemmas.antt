-- A guest's table and its sets agree after each change of either: each handle of a set names one that
-- is there, and members are ends.
use Rattle.std.proofs.Common.{◌≡◌, ◌≢◌, ℕ, zero, suc, ◌<◌, true, false, List, [], ◌∷◌, ◌++◌, length, get_or, set, Option, Some, None, Ok, refl, sym, ap, ◌∙◌, subst, inl, inr}
use Rattle.std.specs.Prelude.{is_ok, nat_eq}
use Rattle.std.specs.FinMap.{get-empty}
use Rattle.std.specs.Ordering.{nat_cmp}
use Rattle.std.proofs.Math.ListN.{get_or-map}
use Rattle.std.proofs.lemmas.Bool.{cases_eq, cases_lt, eqb-true}
use Rattle.std.proofs.lemmas.List.{get_or-set_same, get_or-set_other, set_past}
use Rattle.strm_machine.specs.Words.{Guest, Handles, Entry, Sets, no_guest, no_handles, no_sets, guest_in, sets_in, with_table, removed, HoldsSets, HoldSets}
use Rattle.strm_handles.specs.Handles.{handle_limit, entry_at, next_index, inserted, IsTable}
use Rattle.strm_handles.specs.Lookups.{end_rep_in, end_rep_of, waitable_set_rep_in}
use Rattle.strm_handles.specs.declared.entries.Entry.TheVariants as entries
use Rattle.strm_handles.proofs.HandleLemmas.{IsTable-no_handles, IsTable-inserted, IsTable-removed, entry_at-next_index, entry_at-inserted-same, entry_at-inserted-other, entry_at-removed-same, entry_at-removed-other}
use Rattle.strm_waitable_sets.specs.Sets.{is_set_there, is_member, least_free, with_new_set, handle_joined, handle_left, without_set}
use Rattle.strm_codes.specs.OptionalNumbers.{is_number}
use Rattle.strm_waitable_sets.proofs.SetLemmas.{is_member-left_same, is_member-left_other, is_member-joined_same, is_member-joined_other, is_set_there-free, is_set_there-new, is_set_there-new_other, is_set_there-without_same, is_set_there-without_other}
use Rattle.strm_machine.specs.Soundness.{handles_of, NamesSet}
use Rattle.strm_machine.proofs.TurnLemmas.{sets_of}
use Rattle.strm_machine.proofs.TableLemmas.{handles-same, handles-more, sets-more}

-- ## What an entry is

-- no entry is both a set and an end
set_no_end : (o : Option Entry) (number : ℕ) → waitable_set_rep_in o ≡ Ok number → is_ok (end_rep_in o) ≡ true → ⊥
set_no_end None number e f = cc
set_no_end (Some (entries.Stream end)) number e f = cc
set_no_end (Some (entries.Future end)) number e f = cc
set_no_end (Some (entries.ResourceOwn resource lends)) number e f = cc
set_no_end (Some (entries.ResourceBorrow resource scope)) number e f = cc
set_no_end (Some (entries.ErrorContext rep)) number e f = cc
set_no_end (Some (entries.Subtask rep is_host)) number e f = cc
set_no_end (Some (entries.WaitableSet rep)) number e f = cc

-- an entry of neither
pub record IsOther (e : Entry) : Type 0 where
  pub no_set : (number : ℕ) → waitable_set_rep_in (Some e) ≡ Ok number → ⊥
  pub no_end : is_ok (end_rep_in (Some e)) ≡ false

pub context_is_other : (number : ℕ) → IsOther (entries.ErrorContext number)
context_is_other number = record { no_set = λ n e. cc; no_end = refl }

-- both are entries
pub end_some : (o : Option Entry) → is_ok (end_rep_in o) ≡ true → (e : Entry) × (o ≡ Some e)
end_some None is = cc
end_some (Some e) is = (e, refl)

pub set_some : (o : Option Entry) (number : ℕ) → waitable_set_rep_in o ≡ Ok number → (e : Entry) × (o ≡ Some e)
set_some None number is = cc
set_some (Some e) number is = (e, refl)

-- ## One entry is another

module _ (old new : Handles) (n : ℕ) (same : (i : ℕ) → i ≢ n → entry_at new i ≡ entry_at old i) where
  set_was : (k number : ℕ) → k ≢ n → NamesSet new k number → NamesSet old k number
  set_was k number ne e = ap waitable_set_rep_in (sym (same k ne)) ∙ e

  set_stays : (k number : ℕ) → k ≢ n → NamesSet old k number → NamesSet new k number
  set_stays k number ne e = ap waitable_set_rep_in (same k ne) ∙ e

  end_stays : (k : ℕ) → k ≢ n → is_ok (end_rep_of old k) ≡ true → is_ok (end_rep_of new k) ≡ true
  end_stays k ne e = ap (λ o. is_ok (end_rep_in o)) (same k ne) ∙ e

-- ## Sets alone change

module _ (handles : Handles) (sets : Sets) (h : HoldsSets handles sets) where
  -- a member of the sets that a handle left is another, and was one
  stayed : (handle k number : ℕ) → is_member (handle_left sets handle) number k ≡ true → (k ≢ handle) × (is_member sets number k ≡ true)
  stayed handle k number m =
      let ne : k ≢ handle = λ e. let none = ap (is_member (handle_left sets handle) number) e ∙ is_member-left_same sets handle number in let wrong : true ≡ false = sym m ∙ none in cc in
      (ne, sym (is_member-left_other sets handle number k ne) ∙ m)

  pub HoldsSets-left : (handle : ℕ) → HoldsSets handles (handle_left sets handle)
  HoldsSets-left handle = record {
    table = h.table;
    there = h.there;
    single = h.single;
    named = h.named;
    members = λ k number m. h.members k number (stayed handle k number m).1;
    kept = λ k number m. h.kept k number (stayed handle k number m).1;
  }

  pub HoldsSets-joined : (handle number : ℕ) → is_ok (end_rep_of handles handle) ≡ true → is_set_there sets number ≡ true → HoldsSets handles (handle_joined sets handle number)
  HoldsSets-joined handle number is there = record {
    table = h.table;
    there = h.there;
    single = h.single;
    named = h.named;
    members = λ k home m. elim (cases_eq k handle) [
      | inl e ↦ ap (λ i. is_ok (end_rep_of handles i)) e ∙ is
      | inr ne ↦ h.members k home (sym (is_member-joined_other sets handle number home k ne) ∙ m)
    ];
    kept = λ k home m. elim (cases_eq k handle) [
      | inl e ↦ (let here : nat_eq number home ≡ true = sym (is_member-joined_same sets handle number home) ∙ ap (is_member (handle_joined sets handle number) home) (sym e) ∙ m in
          ap (is_set_there sets) (sym (eqb-true number home here)) ∙ there)
      | inr ne ↦ h.kept k home (sym (is_member-joined_other sets handle number home k ne) ∙ m)
    ];
  }

  -- ## A handle less

  -- a set that is named still was
  removed_was : (handle k number : ℕ) → NamesSet (removed handles handle) k number → NamesSet handles k number
  removed_was handle k number e =
      let new = removed handles handle in
      elim (cases_eq k handle) [
        | inl f ↦ absurd (let none = ap (λ i. waitable_set_rep_in (entry_at new i)) f ∙ ap waitable_set_rep_in (entry_at-removed-same handles handle) in cc)
        | inr ne ↦ set_was handles new handle (λ i apart. entry_at-removed-other handles handle i apart) k number ne e
      ]

  -- an end's, which leaves its set
  pub HoldsSets-freed : (handle : ℕ) → is_ok (end_rep_of handles handle) ≡ true → HoldsSets (removed handles handle) (handle_left sets handle)
  HoldsSets-freed handle is =
      let found = end_some (entry_at handles handle) is in
      let new = removed handles handle in
      let same : (i : ℕ) → i ≢ handle → entry_at new i ≡ entry_at handles i = λ i ne. entry_at-removed-other handles handle i ne in
      let was = removed_was handle in
      let still : (k number : ℕ) → NamesSet handles k number → NamesSet new k number = λ k number e. set_stays handles new handle same k number (λ f. set_no_end (entry_at handles handle) number (ap (λ i. waitable_set_rep_in (entry_at handles i)) (sym f) ∙ e) is) e in
      record {
        table = IsTable-removed handles handle found.0 found.1 h.table;
        there = λ k number e. h.there k number (was k number e);
        single = λ a b number e f. h.single a b number (was a number e) (was b number f);
        named = λ number t. let k = h.named number t in (k.0, still k.0 number k.1);
        members = λ k number m. let s = stayed handle k number m in end_stays handles new handle same k s.0 (h.members k number s.1);
        kept = λ k number m. h.kept k number (stayed handle k number m).1;
      }

  -- one of neither an end nor a set
  pub HoldsSets-removed : (handle : ℕ) (e : Entry) → entry_at handles handle ≡ Some e → IsOther e → HoldsSets (removed handles handle) sets
  HoldsSets-removed handle e is other =
      let new = removed handles handle in
      let same : (i : ℕ) → i ≢ handle → entry_at new i ≡ entry_at handles i = λ i ne. entry_at-removed-other handles handle i ne in
      let still : (k number : ℕ) → NamesSet handles k number → NamesSet new k number = λ k number f. set_stays handles new handle same k number (λ at. other.no_set number (ap waitable_set_rep_in (sym is) ∙ ap (λ i. waitable_set_rep_in (entry_at handles i)) (sym at) ∙ f)) f in
      record {
        table = IsTable-removed handles handle e is h.table;
        there = λ k number f. h.there k number (removed_was handle k number f);
        single = λ a b number f g. h.single a b number (removed_was handle a number f) (removed_was handle b number g);
        named = λ number t. let k = h.named number t in (k.0, still k.0 number k.1);
        members = λ k number m.
            let ok = h.members k number m in
            end_stays handles new handle same k (λ at. let wrong : true ≡ false = sym ok ∙ ap (λ i. is_ok (end_rep_in (entry_at handles i))) at ∙ ap (λ o. is_ok (end_rep_in o)) is ∙ other.no_end in cc) ok;
        kept = h.kept;
      }

  -- a set's, which goes, and had no member
  pub HoldsSets-without : (handle number : ℕ) → NamesSet handles handle number → ((k : ℕ) → is_member sets number k ≡ false) → HoldsSets (removed handles handle) (without_set sets number)
  HoldsSets-without handle number names none =
      let found = set_some (entry_at handles handle) number names in
      let new = removed handles handle in
      let same : (i : ℕ) → i ≢ handle → entry_at new i ≡ entry_at handles i = λ i ne. entry_at-removed-other handles handle i ne in
      let other : (k home : ℕ) → NamesSet new k home → k ≢ handle = λ k home e f. let gone = ap (λ i. waitable_set_rep_in (entry_at new i)) f ∙ ap waitable_set_rep_in (entry_at-removed-same handles handle) in cc in
      let was : (k home : ℕ) → NamesSet new k home → NamesSet handles k home = λ k home e. set_was handles new handle same k home (other k home e) e in
      let beside : (home : ℕ) → is_set_there (without_set sets number) home ≡ true → home ≢ number = λ home t f. let gone = ap (is_set_there (without_set sets number)) f ∙ is_set_there-without_same sets number in let wrong : true ≡ false = sym t ∙ gone in cc in
      record {
        table = IsTable-removed handles handle found.0 found.1 h.table;
        there = λ k home e.
            let ne : home ≢ number = λ f. other k home e (h.single k handle number (subst (NamesSet handles k) f (was k home e)) names) in
            is_set_there-without_other sets number home ne ∙ h.there k home (was k home e);
        single = λ a b home e f. h.single a b home (was a home e) (was b home f);
        named = λ home t.
            let ne = beside home t in
            let k = h.named home (sym (is_set_there-without_other sets number home ne) ∙ t) in
            (k.0, set_stays handles new handle same k.0 home (λ f. ne (let g : NamesSet handles handle home = subst (λ i. NamesSet handles i home) f k.1 in cc)) k.1);
        members = λ k home m.
            let is = h.members k home m in
            end_stays handles new handle same k (λ f. set_no_end (entry_at handles handle) number names (subst (λ i. is_ok (end_rep_of handles i) ≡ true) f is)) is;
        kept = λ k home m.
            let ne : home ≢ number = λ f. let wrong : true ≡ false = sym m ∙ ap (λ i. is_member sets i k) f ∙ none k in cc in
            is_set_there-without_other sets number home ne ∙ h.kept k home m;
      }

  -- ## A handle more

  module _ (e : Entry) (small : next_index handles < handle_limit) where
    abbrev n : ℕ
    n = next_index handles

    abbrev new : Handles
    new = inserted handles e

    same : (i : ℕ) → i ≢ n → entry_at new i ≡ entry_at handles i
    same i ne = entry_at-inserted-other handles e i ne

    table : IsTable new
    table = IsTable-inserted handles e h.table small

    -- the number stood for nothing, and stands for the entry now
    unset : (k number : ℕ) → NamesSet handles k number → k ≢ n
    unset k number f same = let none = ap (λ i. waitable_set_rep_in (entry_at handles i)) same ∙ ap waitable_set_rep_in (entry_at-next_index handles h.table) in cc

    unended : (k : ℕ) → is_ok (end_rep_of handles k) ≡ true → k ≢ n
    unended k f same = let none = ap (λ i. is_ok (end_rep_in (entry_at handles i))) same ∙ ap (λ o. is_ok (end_rep_in o)) (entry_at-next_index handles h.table) in cc

    here : (k number : ℕ) → NamesSet new k number → k ≡ n → waitable_set_rep_in (Some e) ≡ Ok number
    here k number f same = sym (ap (λ i. waitable_set_rep_in (entry_at new i)) same ∙ ap waitable_set_rep_in (entry_at-inserted-same handles e h.table)) ∙ f

    still : (k number : ℕ) → NamesSet handles k number → NamesSet new k number
    still k number f = set_stays handles new n same k number (unset k number f) f

    ends : (k number : ℕ) → is_member sets number k ≡ true → is_ok (end_rep_of new k) ≡ true
    ends k number m = let is = h.members k number m in end_stays handles new n same k (unended k is) is

    -- that of no set
    pub HoldsSets-given : ((number : ℕ) → waitable_set_rep_in (Some e) ≡ Ok number → ⊥) → HoldsSets new sets
    HoldsSets-given no_set =
        let was : (k number : ℕ) → NamesSet new k number → NamesSet handles k number = λ k number f. elim (cases_eq k n) [
          | inl at ↦ absurd (no_set number (here k number f at))
          | inr ne ↦ set_was handles new n same k number ne f
        ] in
        record {
          table = table;
          there = λ k number f. h.there k number (was k number f);
          single = λ a b number f g. h.single a b number (was a number f) (was b number g);
          named = λ number t. let k = h.named number t in (k.0, still k.0 number k.1);
          members = ends;
          kept = h.kept;
        }

    -- an end's
    pub HoldsSets-given_end : is_ok (end_rep_in (Some e)) ≡ true → HoldsSets new sets
    HoldsSets-given_end is = HoldsSets-given (λ number f. set_no_end (Some e) number f is)

    -- a set's, of the least number that none has
    pub HoldsSets-given_set : e ≡ entries.WaitableSet (least_free sets) → HoldsSets new (with_new_set sets)
    HoldsSets-given_set is =
        let free = least_free sets in
        let number_here : (k number : ℕ) → NamesSet new k number → k ≡ n → number ≡ free = λ k number f at. let r = here k number f at in let s = ap (λ x. waitable_set_rep_in (Some x)) is in cc in
        let was : (k number : ℕ) → NamesSet new k number → k ≢ n → NamesSet handles k number = λ k number f ne. set_was handles new n same k number ne f in
        let older : (k number : ℕ) → NamesSet new k number → k ≢ n → number ≢ free = λ k number f ne at. let t : is_set_there sets free ≡ true = ap (is_set_there sets) (sym at) ∙ h.there k number (was k number f ne) in let wrong : true ≡ false = sym t ∙ is_set_there-free sets in cc in
        let more : (number : ℕ) → is_set_there sets number ≡ true → is_set_there (with_new_set sets) number ≡ true = λ number t. elim (cases_eq number free) [
          | inl at ↦ ap (is_set_there (with_new_set sets)) at ∙ is_set_there-new sets
          | inr ne ↦ is_set_there-new_other sets number ne ∙ t
        ] in
        record {
          table = table;
          there = λ k number f. elim (cases_eq k n) [
            | inl at ↦ ap (is_set_there (with_new_set sets)) (number_here k number f at) ∙ is_set_there-new sets
            | inr ne ↦ more number (h.there k number (was k number f ne))
          ];
          single = λ a b number f g. elim (cases_eq a n) [
            | inl at ↦ elim (cases_eq b n) [
              | inl to ↦ at ∙ sym to
              | inr ne ↦ absurd (older b number g ne (number_here a number f at))
            ]
            | inr ne ↦ elim (cases_eq b n) [
              | inl to ↦ absurd (older a number f ne (number_here b number g to))
              | inr apart ↦ h.single a b number (was a number f ne) (was b number g apart)
            ]
          ];
          named = λ number t. elim (cases_eq number free) [
            | inl at ↦ (n, ap waitable_set_rep_in (entry_at-inserted-same handles e h.table) ∙ ap (λ x. waitable_set_rep_in (Some x)) is ∙ ap Ok (sym at))
            | inr ne ↦ (let k = h.named number (sym (is_set_there-new_other sets number ne) ∙ t) in (k.0, still k.0 number k.1))
          ];
          members = ends;
          kept = λ k number m. more number (h.kept k number m);
        }

-- ## All guests

abbrev Holds : Guest → Type 0
Holds guest = HoldsSets guest.handles guest.sets

-- one guest's table and sets are others
pub HoldSets-with : (guests : List Guest) (g : ℕ) (handles : Handles) (sets : Sets) → HoldsSets handles sets → HoldSets guests → HoldSets (with_table guests g handles sets)
HoldSets-with guests g handles sets new h k =
    let x : Guest = record (guest_in guests g) { handles = handles; sets = sets } in
    elim (cases_lt g (length guests)) [
      | inl l ↦ elim (cases_eq k g) [
        | inl e ↦ subst Holds (sym (ap (λ i. get_or (set guests g x) i no_guest) e ∙ get_or-set_same guests g x no_guest l)) new
        | inr ne ↦ subst Holds (sym (get_or-set_other guests g k x no_guest ne)) (h k)
      ]
      | inr l ↦ subst (λ gs. Holds (get_or gs k no_guest)) (sym (set_past guests g x l)) (h k)
    ]

-- tables and sets are those of others
pub HoldSets-same : (guests others : List Guest) → ((g : ℕ) → (guest_in others g).handles ≡ (guest_in guests g).handles) → ((g : ℕ) → sets_in others g ≡ sets_in guests g) → HoldSets guests → HoldSets others
HoldSets-same guests others e f h g = subst (λ t. HoldsSets t (sets_in others g)) (sym (e g)) (subst (HoldsSets (guest_in guests g).handles) (sym (f g)) (h g))

pub sets-same : (guests others : List Guest) (g : ℕ) → sets_of others ≡ sets_of guests → sets_in others g ≡ sets_in guests g
sets-same guests others g e =
    sym (get_or-map (λ h. h.sets) others g no_guest) ∙ ap (λ l. get_or l g no_sets) e ∙ get_or-map (λ h. h.sets) guests g no_guest

pub HoldSets-kept : (guests others : List Guest) → handles_of others ≡ handles_of guests → sets_of others ≡ sets_of guests → HoldSets guests → HoldSets others
HoldSets-kept guests others e f = HoldSets-same guests others (λ g. handles-same guests others g e) (λ g. sets-same guests others g f)

-- a guest more
pub HoldSets-more : (guests : List Guest) (guest : Guest) → guest.handles ≡ no_handles → guest.sets ≡ no_sets → HoldSets guests → HoldSets (guests ++ guest ∷ [])
HoldSets-more guests guest e f = HoldSets-same guests (guests ++ guest ∷ []) (λ g. handles-more guests guest g e) (λ g. sets-more guests guest g f)

no_set : (k number : ℕ) → NamesSet no_handles k number → ⊥
no_set zero number e = cc
no_set (suc k) number e = cc

no_member : (k number : ℕ) → is_member no_sets number k ≡ true → ⊥
no_member k number m = let none : is_member no_sets number k ≡ false = ap (λ o. is_number o number) (get-empty nat_cmp k) in let wrong : true ≡ false = sym m ∙ none in cc

-- no guest
pub HoldSets-none : HoldSets []
HoldSets-none g = record {
  table = IsTable-no_handles;
  there = λ k number e. absurd (no_set k number e);
  single = λ a b number e f. absurd (no_set a number e);
  named = λ number t. cc;
  members = λ k number m. absurd (no_member k number m);
  kept = λ k number m. absurd (no_member k number m);
}
