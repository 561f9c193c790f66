-- The guests and streams of a chain stay far below the limits of its store, so none of them is refused.
use Rattle.std.proofs.Common.{◌≡◌, ℕ, ◌+◌, ◌*◌, ◌<◌, ◌≤◌, Bool, true, false, List, [], ◌∷◌, ◌++◌, length, set, Some, None, refl, sym, ap, ◌∙◌, subst, inl, inr, arith}
use Rattle.std.specs.Prelude.{◌||◌, replicate, sum_by, count_by}
use Rattle.std.proofs.lemmas.Bool.{cases_eq}
use Rattle.std.proofs.lemmas.List.{length_push, length-set, length-replicate, get_or-set_same, get_or-set_other}
use Rattle.std.proofs.lemmas.List.Sums.{sum_by-set, sum_by_push, count_by-le-length}
use Rattle.strm_handles.specs.Handles.{Handles, no_handles, handle_limit, next_of, inserted, inserted_in, occupied_in, occupied, open_lends, live_of, lends_of, lends_in}
use Rattle.strm_handles.specs.declared.entries.Entry.{Entry}
use Rattle.strm_waitable_sets.specs.Sets.{no_sets}
use Rattle.strm_machine.specs.State.{State, Guest, no_guest, guest_in, with_handles, is_live, places_in_use, bytes_in_use, own_size}
use Rattle.strm_machine.specs.Making.{read_entry, write_entry, with_read_end, with_ends, with_stream}
use Rattle.strm_machine.specs.Refusals.{refusal}
use Rattle.strm_machine.specs.Reactions.{Reaction, performs}
use Rattle.strm_machine.specs.declared.acts.Act.TheVariants.{Make}
use Rattle.strm_machine.specs.declared.acts.Making.TheVariants.{Guest as AGuest, Between}
use Rattle.strm_machine.specs.declared.replies.Pair.{Pair}
use Rattle.strm_machine.specs.declared.replies.Reply.TheVariants as replies
use Rattle.strm_machine.specs.declared.steps.Step.TheVariants as steps
use Rattle.strm_machine.proofs.TableLemmas.{at_push}
use Rattle.strm_machine.proofs.ReactionLemmas.{reaction-performs}
use Rattle.strm_transmit.specs.Meets.{is_done}
use Rattle.strm_chain.specs.Playing.{bytes_type, IsDone}
use Rattle.strm_chain.specs.Making.{TakesLittle, IsShortTable}
use Rattle.strm_chain.proofs.NamingLemmas.{IsPerformed}
use Rattle.strm_chain.proofs.DoneLemmas.{not_le-false, not_lt-false, skip}

-- ## A handle more

more_live : (h : Handles) (e : Entry) → h.freed ≡ [] → lends_of e ≡ 0 → live_of (inserted h e) ≡ live_of h + 1
more_live h e none unlent =
    ap (λ ns. live_of (inserted_in h.entries ns e)) none
    ∙ omega (arith, one_more, lends_same, unlent)
  where
    one_more : occupied (inserted_in h.entries [] e) ≡ occupied h + 1
    one_more = sum_by_push occupied_in h.entries (Some e)

    lends_same : open_lends (inserted_in h.entries [] e) ≡ open_lends h + lends_of e
    lends_same = sum_by_push lends_in h.entries (Some e)

more_short : (h : Handles) (e : Entry) (n : ℕ) → IsShortTable n h → IsShortTable (n + 1) (inserted h e)
more_short h e n s =
    subst (λ ns. IsShortTable (n + 1) (inserted_in h.entries ns e)) (sym s.freed)
    (record { freed = refl; entries = omega (arith, s.entries, length_push h.entries (Some e)) })

longer_short : (h : Handles) (n : ℕ) → IsShortTable n h → IsShortTable (n + 1) h
longer_short h n s = record { freed = s.freed; entries = omega (arith, s.entries) }

-- what the guests take, with so many handles at most
record Little (count n : ℕ) (guests : List Guest) : Type 0 where
  bytes : sum_by own_size guests ≡ 8192 * count
  handles : sum_by (λ (g : Guest). live_of g.handles) guests ≤ n
  tables : (g : ℕ) → IsShortTable n (guest_in guests g).handles
  sets : sum_by (λ (g : Guest). count_by (λ there. there) g.sets.there) guests ≡ 0

little_more : (count n g : ℕ) (guests : List Guest) (e : Entry) → g < length guests → lends_of e ≡ 0 → Little count n guests → Little count (n + 1) (with_handles guests g (inserted (guest_in guests g).handles e))
little_more count n g guests e l unlent x =
    let old = guest_in guests g in
    let h = old.handles in
    let y : Guest = record old { handles = inserted h e } in
    record {
      bytes = omega (arith, x.bytes, sum_by-set own_size guests g y no_guest l);
      handles = omega (arith, x.handles, more_live h e (x.tables g).freed unlent, sum_by-set (λ (k : Guest). live_of k.handles) guests g y no_guest l);
      tables = λ k. elim (cases_eq k g) [
        | inl same ↦ subst (λ i. IsShortTable (n + 1) (guest_in (set guests g y) i).handles) (sym same)
            (subst (λ (z : Guest). IsShortTable (n + 1) z.handles) (sym (get_or-set_same guests g y no_guest l)) (more_short h e n (x.tables g)))
        | inr ne ↦ subst (λ (z : Guest). IsShortTable (n + 1) z.handles) (sym (get_or-set_other guests g k y no_guest ne)) (longer_short (guest_in guests k).handles n (x.tables k))
      ];
      sets = omega (arith, x.sets, sum_by-set (λ (k : Guest). count_by (λ there. there) k.sets.there) guests g y no_guest l);
    }

little_in : (guests streams : ℕ) (state : State) → TakesLittle guests streams state → Little guests (2 * streams) state.guests
little_in guests streams state x = record { bytes = x.bytes; handles = x.handles; tables = x.tables; sets = x.sets }

-- ## A guest more

pub little_guest : (guests streams : ℕ) (state next : State) → next ≡ record state { guests = state.guests ++ (record { memory = replicate 8192 0; base = None; handles = no_handles; sets = no_sets }) ∷ [] } → TakesLittle guests streams state → TakesLittle (guests + 1) streams next
little_guest guests streams state next e x =
    let y : Guest = record { memory = replicate 8192 0; base = None; handles = no_handles; sets = no_sets } in
    let many : length y.memory ≡ 8192 = length-replicate {A = ℕ} 8192 0 in
    subst (TakesLittle (guests + 1) streams) (sym e) (record {
      limits = x.limits;
      bytes = omega (arith, x.bytes, many, sum_by_push own_size state.guests y);
      handles = omega (arith, x.handles, sum_by_push (λ (k : Guest). live_of k.handles) state.guests y);
      tables = λ g. at_push state.guests y no_guest g (λ (z : Guest). IsShortTable (2 * streams) z.handles) (λ _. record { freed = refl; entries = omega arith }) (λ _. x.tables g);
      sets = omega (arith, x.sets, sum_by_push (λ (k : Guest). count_by (λ there. there) k.sets.there) state.guests y);
      contexts = x.contexts;
    })

guest_free : (guests streams : ℕ) (state : State) → length state.guests ≡ guests → guests ≤ 9 → TakesLittle guests streams state → refusal state (Make (AGuest 8192)) ≡ None
unfolding refusal
guest_free guests streams state many few x =
    skip _ _ _ (not_lt-false 268435456 (bytes_in_use state + 8192) (omega (arith, x.bytes, few)))
    (skip _ _ _ (not_le-false 1048576 (length state.guests) (omega (arith, many, few))) refl)

guest_performs : (state : State) → is_done (performs state (Make (AGuest 8192))).reply ≡ true
unfolding performs
guest_performs state = refl

pub guest_done : (guests streams : ℕ) (state : State) → state.trapped ≡ false → length state.guests ≡ guests → guests ≤ 9 → TakesLittle guests streams state → IsDone state (steps.Guest 8192)
guest_done guests streams state untrapped many few x =
    ap (λ (r : Reaction). is_done r.reply) (reaction-performs state (Make (AGuest 8192)) untrapped (guest_free guests streams state many few x))
    ∙ guest_performs state

-- ## A stream more

module _ (guests s : ℕ) (state : State) (many : length state.guests ≡ guests) (made : length state.streams ≡ s) (few : s ≤ 8) (there : s + 1 < guests)
    (x : TakesLittle guests s state) where
  abbrev held : List Guest
  held = with_read_end state.guests (s + 1) bytes_type (length state.streams)

  little_held : Little guests (2 * s + 1) held
  little_held =
      little_more guests (2 * s) (s + 1) state.guests (read_entry bytes_type (length state.streams)) (omega (arith, there, many)) refl (little_in guests s state x)

  held_many : length held ≡ guests
  held_many = length-set state.guests (s + 1) _ ∙ many

  little_ends : Little guests (2 * s + 2) (with_ends state.guests s (s + 1) bytes_type (length state.streams))
  little_ends =
      subst (λ n. Little guests n (with_ends state.guests s (s + 1) bytes_type (length state.streams))) (omega arith)
      (little_more guests (2 * s + 1) s held (write_entry bytes_type (length state.streams)) (omega (arith, there, held_many)) refl little_held)

  pub little_pair : (next : State) (pair : Pair) → IsPerformed state (Make (Between s (s + 1) bytes_type)) (replies.Pair pair) next → TakesLittle guests (s + 1) next
  unfolding performs with_stream
  little_pair next pair p =
      let is : with_stream state s (s + 1) bytes_type ≡ next = ap (λ (r : Reaction). r.state) p.does in
      let y = little_ends in
      let more : 2 * s + 2 ≡ 2 * (s + 1) = omega arith in
      subst (TakesLittle guests (s + 1)) is (record {
        limits = x.limits;
        bytes = y.bytes;
        handles = omega (arith, y.handles);
        tables = λ g. subst (λ n. IsShortTable n (guest_in (with_ends state.guests s (s + 1) bytes_type (length state.streams)) g).handles) more (y.tables g);
        sets = y.sets;
        contexts = x.contexts;
      })

  -- the number that a table gives next
  next_few : (h : Handles) (n : ℕ) → IsShortTable n h → n ≤ 20 → next_of h.freed (length h.entries) < handle_limit
  next_few h n y l = subst (λ ns. next_of ns (length h.entries) < handle_limit) (sym y.freed) (omega (arith, y.entries, l))

  either_false : (a b : Bool) → a ≡ false → b ≡ false → a || b ≡ false
  either_false a b e f = rw (e, f) refl

  few_live : places_in_use state ≤ 3 * s
  few_live = omega (arith, x.sets, x.contexts, count_by-le-length is_live state.streams, made)

  pair_free : refusal state (Make (Between s (s + 1) bytes_type)) ≡ None
  unfolding refusal
  pair_free =
      skip _ _ _ (either_false _ _ (not_le-false (length state.guests) s (omega (arith, there, many))) (not_le-false (length state.guests) (s + 1) (omega (arith, there, many))))
      (skip _ _ _ (either_false _ _ (not_le-false handle_limit _ (next_few (guest_in state.guests (s + 1)).handles (2 * s) (x.tables (s + 1)) (omega (arith, few))))
      (not_le-false handle_limit _ (next_few (guest_in held s).handles (2 * s + 1) (little_held.tables s) (omega (arith, few)))))
      (skip _ _ _ (not_lt-false state.limits.handles _ (omega (arith, ap (λ l. l.handles) x.limits, x.handles, few)))
      (skip _ _ _ (either_false _ _ (not_lt-false state.limits.places _ (omega (arith, ap (λ l. l.places) x.limits, few_live, few))) (not_le-false 4294967295 (length state.streams) (omega (arith, made, few)))) refl)))

  pair_performs : is_done (performs state (Make (Between s (s + 1) bytes_type))).reply ≡ true
  unfolding performs
  pair_performs = refl

  pub pair_done : state.trapped ≡ false → IsDone state (steps.Between s (s + 1) bytes_type)
  pair_done untrapped =
      ap (λ (r : Reaction). is_done r.reply) (reaction-performs state (Make (Between s (s + 1) bytes_type)) untrapped pair_free)
      ∙ pair_performs
