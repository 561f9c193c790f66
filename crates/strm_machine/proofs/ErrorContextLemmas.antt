-- Error contexts count the handles to them after each change of a table: what stands for anything else
-- leads to none, and a handle more or less to one is counted.
use Rattle.std.proofs.Common.{◌≡◌, ℕ, ◌+◌, ◌-◌, ◌<◌, ◌≤◌, Bool, true, false, cond, List, [], ◌∷◌, ◌++◌, length, set, Option, Some, None, Ok, refl, sym, ap, ◌∙◌, subst, arith}
use Rattle.std.specs.Prelude.{is_ok, is_some, nat_eq, nat_lt, option_map, sum, sum_by}
use Rattle.std.specs.Cmp.{nat_eq_equiv}
use Rattle.std.proofs.lemmas.Str.{is_utf8-from_IsUtf8, IsUtf8-nil}
use Rattle.std.proofs.Math.Seq.{map-set_same}
use Rattle.std.proofs.lemmas.Bool.{ltb-false}
use Rattle.std.proofs.lemmas.List.Sums.{sum_by-cons, sum_by-set, sum-map, sum_by_push, sum_by-le-sum_by, get_or-le-sum_by}
use Rattle.strm_handles.specs.Handles.{entry_at, inserted, occupied_in, live_of, IsTable}
use Rattle.strm_handles.specs.Lookups.{end_rep_in, waitable_set_rep_in, error_context_rep_in}
use Rattle.strm_handles.specs.declared.entries.Entry.TheVariants as entries
use Rattle.strm_handles.proofs.HandleLemmas.{given, inserted_sum, sum_by-entries_with}
use Rattle.strm_resources.proofs.SlotLemmas.{by_eq}
use Rattle.strm_error_contexts.specs.Contexts.{Context, Contexts, no_contexts, context_at, is_context_there, handles_of_context as context_handles, context_count_at, next_number, new_context, inserted as with_message, context_with_handles as with_count, context_counted, raised, context_lowered, context_dropped, removed as without, AreContextsKept}
use Rattle.strm_error_contexts.proofs.KeptLemmas.{kept-none, next_is_free, context_at-inserted, kept-inserted, context_at-counted, kept-counted, context_at-removed, kept-dropped}
use Rattle.strm_machine.specs.Words.{Guest, Handles, Entry, Sets, State, no_guest, no_handles, guest_in, with_table, removed}
use Rattle.strm_machine.specs.State.{handles_in_use}
use Rattle.strm_machine.specs.ErrorContexts.{leads_to, handles_to, all_handles_to, bytes_of_message}
use Rattle.strm_machine.specs.Soundness.{handles_of, IsMessage, HoldsContexts}

abbrev one_if : Bool → ℕ
one_if b = cond b 1 0

abbrev counts_of : ℕ → Option Entry → ℕ
counts_of number o = one_if (leads_to number o)

-- ## One table

module _ (number : ℕ) (h : Handles) where
  pub handles_to-inserted : (e : Entry) → IsTable h → handles_to number (inserted h e) ≡ handles_to number h + counts_of number (Some e)
  handles_to-inserted e sound = inserted_sum (counts_of number) refl h.entries h.freed e sound

  pub handles_to-removed : (n : ℕ) (e : Entry) → entry_at h n ≡ Some e → handles_to number (removed h n) + counts_of number (Some e) ≡ handles_to number h
  handles_to-removed n e is =
      let g = given h.entries n e is in
      let was : counts_of number (entry_at h n) ≡ counts_of number (Some e) = ap (counts_of number) is in
      omega (arith, sum_by-entries_with (counts_of number) h.entries n None g.0 g.1, was)

-- what stands for an end or a set leads to no error context
pub end_leads_nowhere : (number : ℕ) (o : Option Entry) → is_ok (end_rep_in o) ≡ true → counts_of number o ≡ 0
end_leads_nowhere number None e = cc
end_leads_nowhere number (Some (entries.Stream end)) e = refl
end_leads_nowhere number (Some (entries.Future end)) e = refl
end_leads_nowhere number (Some (entries.ResourceOwn resource lends)) e = cc
end_leads_nowhere number (Some (entries.ResourceBorrow resource scope)) e = cc
end_leads_nowhere number (Some (entries.ErrorContext rep)) e = cc
end_leads_nowhere number (Some (entries.Subtask rep is_host)) e = cc
end_leads_nowhere number (Some (entries.WaitableSet rep)) e = cc

pub set_leads_nowhere : (number : ℕ) (o : Option Entry) (rep : ℕ) → waitable_set_rep_in o ≡ Ok rep → counts_of number o ≡ 0
set_leads_nowhere number None rep e = cc
set_leads_nowhere number (Some (entries.Stream end)) rep e = cc
set_leads_nowhere number (Some (entries.Future end)) rep e = cc
set_leads_nowhere number (Some (entries.ResourceOwn resource lends)) rep e = cc
set_leads_nowhere number (Some (entries.ResourceBorrow resource scope)) rep e = cc
set_leads_nowhere number (Some (entries.ErrorContext rep')) rep e = cc
set_leads_nowhere number (Some (entries.Subtask rep' is_host)) rep e = cc
set_leads_nowhere number (Some (entries.WaitableSet rep')) rep e = refl

-- a handle of an error context stands for it
pub context_entry : (o : Option Entry) (rep : ℕ) → error_context_rep_in o ≡ Ok rep → o ≡ Some (entries.ErrorContext rep)
context_entry None rep e = cc
context_entry (Some (entries.Stream end)) rep e = cc
context_entry (Some (entries.Future end)) rep e = cc
context_entry (Some (entries.ResourceOwn resource lends)) rep e = cc
context_entry (Some (entries.ResourceBorrow resource scope)) rep e = cc
context_entry (Some (entries.ErrorContext rep')) rep e = cc
context_entry (Some (entries.Subtask rep' is_host)) rep e = cc
context_entry (Some (entries.WaitableSet rep')) rep e = cc

-- no more handles lead to one error context than are live
led_occupied : (number : ℕ) (o : Option Entry) → counts_of number o ≤ occupied_in o
led_occupied number None = omega arith
led_occupied number (Some (entries.Stream end)) = omega arith
led_occupied number (Some (entries.Future end)) = omega arith
led_occupied number (Some (entries.ResourceOwn resource lends)) = omega arith
led_occupied number (Some (entries.ResourceBorrow resource scope)) = omega arith
led_occupied number (Some (entries.ErrorContext rep)) = one (nat_eq number rep)
  where
    one : (b : Bool) → one_if b ≤ 1
    one true = omega arith
    one false = omega arith
led_occupied number (Some (entries.Subtask rep is_host)) = omega arith
led_occupied number (Some (entries.WaitableSet rep)) = omega arith

pub handles_to-live : (number : ℕ) (h : Handles) → handles_to number h ≤ live_of h
handles_to-live number h = omega (arith, sum_by-le-sum_by (counts_of number) occupied_in h.entries (led_occupied number))

-- ## All tables together

-- they are told by the tables alone
pub all_handles-same : (number : ℕ) (guests others : List Guest) → handles_of others ≡ handles_of guests → all_handles_to number others ≡ all_handles_to number guests
all_handles-same number guests others e =
    sym (by_tables others) ∙ ap (sum_by (handles_to number)) e ∙ by_tables guests
  where
    by_tables : (gs : List Guest) → sum_by (handles_to number) (handles_of gs) ≡ all_handles_to number gs
    by_tables [] = refl
    by_tables (g ∷ gs) =
        let f = λ (k : Guest). handles_to number k.handles in
        sum_by-cons (handles_to number) g.handles (handles_of gs) ∙ ap (λ n. handles_to number g.handles + n) (by_tables gs) ∙ sym (sum_by-cons f g gs)

pub all_handles-with : (number : ℕ) (guests : List Guest) (g : ℕ) (handles : Handles) (sets : Sets) → g < length guests → all_handles_to number (with_table guests g handles sets) + handles_to number (guest_in guests g).handles ≡ all_handles_to number guests + handles_to number handles
all_handles-with number guests g handles sets l =
    sum_by-set (λ (k : Guest). handles_to number k.handles) guests g (record (guest_in guests g) { handles = handles; sets = sets }) no_guest l

-- ## Error contexts after a change of them

counted_there : (o : Option Context) → 0 < context_handles o → is_some o ≡ true
counted_there None l = absurd (omega (arith, l))
counted_there (Some c) l = refl

none_counted : (o : Option Context) → is_some o ≡ false → context_handles o ≡ 0
none_counted None e = refl
none_counted (Some c) e = cc

count_of-with : (n : ℕ) (o : Option Context) → is_some o ≡ true → context_handles (option_map (with_count n) o) ≡ n
count_of-with n None e = cc
count_of-with n (Some c) e = refl

module _ (contexts : Contexts) (kept : AreContextsKept contexts) where
  pub count-inserted : (message : List ℕ) (number : ℕ) → context_count_at (with_message contexts message) number ≡ context_count_at contexts number + one_if (nat_eq number (next_number contexts))
  count-inserted message number =
      ap context_handles (context_at-inserted contexts kept message number)
      ∙ by_eq number (next_number contexts) (λ t. context_handles (cond t (Some (new_context message)) (context_at contexts number)) ≡ context_count_at contexts number + one_if t)
      (λ same. let none : context_count_at contexts number ≡ 0 = none_counted (context_at contexts number) (ap (is_context_there contexts) same ∙ next_is_free contexts kept) in omega (arith, none))
      (λ apart. omega arith)

module _ (contexts : Contexts) (number : ℕ) (there : is_context_there contexts number ≡ true) where
  count-counted : (n other : ℕ) → context_count_at (context_counted contexts number n) other ≡ cond (nat_eq other number) n (context_count_at contexts other)
  count-counted n other =
      ap context_handles (context_at-counted contexts number there n other)
      ∙ by_eq other number (λ t. context_handles (cond t (option_map (with_count n) (context_at contexts number)) (context_at contexts other)) ≡ cond t n (context_count_at contexts other))
      (λ same. count_of-with n (context_at contexts number) there)
      (λ apart. refl)

  pub count-raised : (other : ℕ) → context_count_at (raised contexts number) other ≡ context_count_at contexts other + one_if (nat_eq other number)
  count-raised other =
      count-counted (context_count_at contexts number + 1) other
      ∙ by_eq other number (λ t. cond t (context_count_at contexts number + 1) (context_count_at contexts other) ≡ context_count_at contexts other + one_if t)
      (λ same. ap (λ k. context_count_at contexts k + 1) (sym same))
      (λ apart. omega arith)

  pub count-dropped : AreContextsKept contexts → (other : ℕ) → context_count_at (context_dropped contexts number) other + one_if (nat_eq other number) ≡ context_count_at contexts other
  count-dropped kept other = by (nat_lt 1 (context_count_at contexts number)) refl
    where
      some : 0 < context_count_at contexts number
      some = kept.handled number there

      by : (t : Bool) → nat_lt 1 (context_count_at contexts number) ≡ t → context_count_at (cond t (context_lowered contexts number) (without contexts number)) other + one_if (nat_eq other number) ≡ context_count_at contexts other
      by true several =
          ap (λ k. k + one_if (nat_eq other number)) (count-counted (context_count_at contexts number - 1) other)
          ∙ by_eq other number (λ t. cond t (context_count_at contexts number - 1) (context_count_at contexts other) + one_if t ≡ context_count_at contexts other)
          (λ same. let here : context_count_at contexts other ≡ context_count_at contexts number = ap (context_count_at contexts) same in omega (arith, here, some))
          (λ apart. omega arith)
      by false last =
          ap (λ o. context_handles o + one_if (nat_eq other number)) (context_at-removed contexts number there other)
          ∙ by_eq other number (λ t. context_handles (cond t None (context_at contexts other)) + one_if t ≡ context_count_at contexts other)
          (λ same. let here : context_count_at contexts other ≡ context_count_at contexts number = ap (context_count_at contexts) same in let one = ltb-false 1 (context_count_at contexts number) last in omega (arith, here, some, one))
          (λ apart. omega arith)

-- ## Messages after a change

abbrev KeepsMessage : Option Context → Type 0
KeepsMessage o = IsMessage (bytes_of_message (option_map (λ (c : Context). c.message) o))

abbrev AreMessages : Contexts → Type 0
AreMessages contexts = (number : ℕ) → KeepsMessage (context_at contexts number)

no_message : KeepsMessage None
no_message = record { text = is_utf8-from_IsUtf8 [] IsUtf8-nil; short = omega arith }

message-with : (n : ℕ) (o : Option Context) → KeepsMessage o → KeepsMessage (option_map (with_count n) o)
message-with n None h = h
message-with n (Some c) h = h

messages-inserted : (contexts : Contexts) → AreContextsKept contexts → (message : List ℕ) → IsMessage message → AreMessages contexts → AreMessages (with_message contexts message)
messages-inserted contexts kept message new h number =
    subst KeepsMessage (sym (context_at-inserted contexts kept message number))
    (by_eq number (next_number contexts) (λ t. KeepsMessage (cond t (Some (new_context message)) (context_at contexts number))) (λ same. new) (λ apart. h number))

module _ (contexts : Contexts) (number : ℕ) (there : is_context_there contexts number ≡ true) (h : AreMessages contexts) where
  messages-counted : (n : ℕ) → AreMessages (context_counted contexts number n)
  messages-counted n other =
      subst KeepsMessage (sym (context_at-counted contexts number there n other))
      (by_eq other number (λ t. KeepsMessage (cond t (option_map (with_count n) (context_at contexts number)) (context_at contexts other))) (λ same. message-with n (context_at contexts number) (h number)) (λ apart. h other))

  messages-dropped : AreMessages (context_dropped contexts number)
  messages-dropped = by (nat_lt 1 (context_count_at contexts number))
    where
      by : (t : Bool) → AreMessages (cond t (context_lowered contexts number) (without contexts number))
      by true other = messages-counted (context_count_at contexts number - 1) other
      by false other =
          subst KeepsMessage (sym (context_at-removed contexts number there other))
          (by_eq other number (λ t. KeepsMessage (cond t None (context_at contexts other))) (λ same. no_message) (λ apart. h other))

-- ## Guests and their error contexts

-- where each count stays
pub HoldsContexts-same : (guests others : List Guest) (contexts : Contexts) → ((number : ℕ) → all_handles_to number others ≡ all_handles_to number guests) → HoldsContexts guests contexts → HoldsContexts others contexts
HoldsContexts-same guests others contexts e h = record {
  kept = h.kept;
  counted = λ number. h.counted number ∙ sym (e number);
  messages = h.messages;
}

pub HoldsContexts-none : HoldsContexts [] no_contexts
HoldsContexts-none = record {
  kept = kept-none;
  counted = λ number. refl;
  messages = λ number. no_message;
}

-- a guest more without handles
pub HoldsContexts-more : (guests : List Guest) (guest : Guest) (contexts : Contexts) → guest.handles ≡ no_handles → HoldsContexts guests contexts → HoldsContexts (guests ++ guest ∷ []) contexts
HoldsContexts-more guests guest contexts e =
    HoldsContexts-same guests (guests ++ guest ∷ []) contexts
    (λ number. let none : handles_to number guest.handles ≡ 0 = ap (handles_to number) e in omega (arith, none, sum_by_push (λ (g : Guest). handles_to number g.handles) guests guest))

module _ (guests : List Guest) (contexts : Contexts) (g : ℕ) (sets : Sets) (h : HoldsContexts guests contexts) where
  abbrev table : Handles
  table = (guest_in guests g).handles

  -- a table that leads to each as often
  pub HoldsContexts-table : (handles : Handles) → ((number : ℕ) → handles_to number handles ≡ handles_to number table) → HoldsContexts (with_table guests g handles sets) contexts
  HoldsContexts-table handles e =
      HoldsContexts-same guests (with_table guests g handles sets) contexts
      (λ number.
      let f = λ (k : Guest). handles_to number k.handles in
      let x : Guest = record (guest_in guests g) { handles = handles; sets = sets } in
      sym (sum-map f (set guests g x)) ∙ ap sum (map-set_same f guests g x no_guest (e number)) ∙ sum-map f guests) h

  -- one handle more or less, which leads to none
  pub HoldsContexts-given : (e : Entry) → IsTable table → ((number : ℕ) → counts_of number (Some e) ≡ 0) → HoldsContexts (with_table guests g (inserted table e) sets) contexts
  HoldsContexts-given e sound none =
      HoldsContexts-table (inserted table e) (λ number. omega (arith, handles_to-inserted number table e sound, none number))

  pub HoldsContexts-freed : (n : ℕ) (e : Entry) → entry_at table n ≡ Some e → ((number : ℕ) → counts_of number (Some e) ≡ 0) → HoldsContexts (with_table guests g (removed table n) sets) contexts
  HoldsContexts-freed n e is none =
      HoldsContexts-table (removed table n) (λ number. omega (arith, handles_to-removed number table n e is, none number))

  module _ (there : g < length guests) where
    -- an error context more
    pub HoldsContexts-new : (message : List ℕ) → IsTable table → IsMessage message → HoldsContexts (with_table guests g (inserted table (entries.ErrorContext (next_number contexts))) sets) (with_message contexts message)
    HoldsContexts-new message sound is =
        let e = entries.ErrorContext (next_number contexts) in
        record {
          kept = kept-inserted contexts h.kept message;
          counted = λ number.
              omega (arith, count-inserted contexts h.kept message number, h.counted number, all_handles-with number guests g (inserted table e) sets there, handles_to-inserted number table e sound);
          messages = messages-inserted contexts h.kept message is h.messages;
        }

    -- a handle more to one
    pub HoldsContexts-shared : (number : ℕ) → is_context_there contexts number ≡ true → IsTable table → HoldsContexts (with_table guests g (inserted table (entries.ErrorContext number)) sets) (raised contexts number)
    HoldsContexts-shared number is sound =
        let e = entries.ErrorContext number in
        record {
          kept = kept-counted contexts number is h.kept (context_count_at contexts number + 1) (omega arith);
          counted = λ other.
              omega (arith, count-raised contexts number is other, h.counted other, all_handles-with other guests g (inserted table e) sets there, handles_to-inserted other table e sound);
          messages = messages-counted contexts number is h.messages (context_count_at contexts number + 1);
        }

    -- and one less
    pub HoldsContexts-dropped : (n number : ℕ) → is_context_there contexts number ≡ true → entry_at table n ≡ Some (entries.ErrorContext number) → HoldsContexts (with_table guests g (removed table n) sets) (context_dropped contexts number)
    HoldsContexts-dropped n number is here = record {
      kept = kept-dropped contexts number is h.kept;
      counted = λ other.
          omega (arith, count-dropped contexts number is h.kept other, h.counted other, all_handles-with other guests g (removed table n) sets there, handles_to-removed other table n (entries.ErrorContext number) here);
      messages = messages-dropped contexts number is h.messages;
    }

    -- what a handle leads to is there
    pub named_is_there : (n number : ℕ) → entry_at table n ≡ Some (entries.ErrorContext number) → is_context_there contexts number ≡ true
    named_is_there n number here =
        let itself : one_if (nat_eq number number) ≡ 1 = ap one_if (nat_eq_equiv.refl number) in
        let least = handles_to-removed number table n (entries.ErrorContext number) here in
        let most = get_or-le-sum_by (λ (k : Guest). handles_to number k.handles) guests g no_guest there in
        counted_there (context_at contexts number) (omega (arith, h.counted number, itself, least, most))

-- no error context has more handles than are live
pub count-live : (state : State) (number : ℕ) → HoldsContexts state.guests state.contexts → context_count_at state.contexts number ≤ handles_in_use state
count-live state number h =
    omega (arith, h.counted number, sum_by-le-sum_by (λ (g : Guest). handles_to number g.handles) (λ (g : Guest). live_of g.handles) state.guests (λ g. handles_to-live number g.handles))
