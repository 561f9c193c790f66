-- Each change of one moment keeps the account of its end.
use Rattle.std.proofs.Common.{◌≡◌, ◌≢◌, ℕ, ◌+◌, ◌*◌, true, List, [], ◌∷◌, ◌++◌, Option, None, Some, refl, sym, subst, ap, ◌∙◌, arith}
use Rattle.std.proofs.lemmas.List.{append-nil}
use Rattle.std.specs.Prelude.{All, is_some}
use Rattle.strm_machine.specs.Words.{Guest, item_type, item_size, ReturnCode, TransmitKind, Payload, State, Moment, Call, report_in, accepted_in, count_reported, k_of, items_in_memory, received}
use Rattle.strm_machine.specs.declared.streams.Side.{Side}
use Rattle.strm_machine.specs.declared.streams.Side.TheVariants.{Writing}
use Rattle.strm_machine.specs.declared.streams.Operation.{Operation}
use Rattle.strm_machine.specs.Moments.{moved_of}
use Rattle.strm_laws.specs.Conservation.{calls, all_reported, handed, all_handed}
use Rattle.strm_laws.specs.Laws.{total_of_calls, waiting, moved_at, IsWithinAsked, AreReported, CarriesLastCall}
use Rattle.strm_laws.proofs.Calls.{all_reported-push}
use Rattle.strm_laws.proofs.Handed.{decoded-none, total_of_calls-append, total_of_calls-reported, handed-none, handed-place, all_handed-reported, all_handed-append, all_handed-old, all_handed-one}
use Rattle.strm_machine.proofs.Changes.{Scene, scene, Rests, GoesOn, Settles, Opens, Serves, Change, ByRest, ByGoing, BySettling, ByOpening, ByServing}
use Rattle.strm_laws.proofs.Kept.{kind_at, payload_at, Received, Kept, reached_more, within_reported, within_front, none_reported, some_carries, from_none, from_some, calls-same, calls-unreported, calls-taken, calls-settled, kept_from}

moved_none : (o : Option Operation) → o ≡ None → moved_of o ≡ 0
moved_none o e = ap moved_of e

moved_some : (o : Option Operation) (p : Operation) → o ≡ Some p → moved_of o ≡ p.moved
moved_some o p e = ap moved_of e

items_in_memory-none : (payload : Payload) (guests : List Guest) (g address : ℕ) → items_in_memory payload guests g address 0 ≡ []
items_in_memory-none payload guests g address = decoded-none (item_type payload) _

AreReported-push : (ws : List Call) (v : Call) → AreReported ws → is_some v.report ≡ true → AreReported (ws ++ v ∷ [])
AreReported-push [] v h e = (e, tt)
AreReported-push (w ∷ ws) v h e = (h.0, AreReported-push ws v h.1 e)

place_sum : (a b w size n x y : ℕ) → a ≡ b + size * n → b ≡ w + size * x → y ≡ x + n → a ≡ w + size * y
place_sum a b w size n x y e f g = rw (e, f, g) (omega arith)

-- the place of an operation that went on
place_more : (a b w n x y : ℕ) (before after : Payload) → a ≡ b + item_size (item_type before) * n → b ≡ w + item_size (item_type before) * x → y ≡ x + n → after ≡ before → a ≡ w + item_size (item_type after) * y
place_more a b w n x y before after e f g h = place_sum a b w (item_size (item_type before)) n x y e f g ∙ ap (λ p. w + item_size (item_type p) * y) (sym h)

-- the place of an operation that a moment began
place_opened : (a w n y : ℕ) (before after : Payload) → a ≡ w + item_size (item_type before) * n → y ≡ n → after ≡ before → a ≡ w + item_size (item_type after) * y
place_opened a w n y before after e g h = e ∙ ap (λ k. w + item_size (item_type before) * k) (sym g) ∙ ap (λ p. w + item_size (item_type p) * y) (sym h)

place_first : (a size : ℕ) → a ≡ a + size * 0
place_first a size = omega arith

-- what is known of an end where no call is without a report
record IsIdle (kind : TransmitKind) (s : ℕ) (side : Side) (all : List Moment) (had : Received) (taken : ℕ) (state : State) : Type 0 where
  reported : AreReported (calls s side all)
  items : side ≡ Writing → had ≡ all_handed kind s all 0 0 (calls s side all)
  count : received s state ≡ total_of_calls kind 0 (calls s side all) + taken
  within : All (IsWithinAsked kind 0) (calls s side all)
  told : all_reported kind s side all + 0 + taken ≡ received s state

is_idle : (kind : TransmitKind) (s : ℕ) (side : Side) (all : List Moment) (had : Received) (taken : ℕ) (state : State) → Kept kind s side all had taken state → waiting s side state ≡ None → IsIdle kind s side all had taken state
is_idle kind s side all had taken state k e =
    let none : moved_at s side state ≡ 0 = moved_none (waiting s side state) e in
    record {
      reported = none_reported (payload_at s state) (waiting s side state) (calls s side all) e k.stands;
      items = λ w. k.items w ∙ ap (λ n. all_handed kind s all n 0 (calls s side all)) none;
      count = k.count ∙ ap (λ n. total_of_calls kind n (calls s side all) + taken) none;
      within = subst (λ n. All (IsWithinAsked kind n) (calls s side all)) none k.within;
      told = ap (λ n. all_reported kind s side all + n + taken) (sym none) ∙ k.told;
    }

-- and where the last call waits, whatever is counted of it from now on
record IsBusy (kind : TransmitKind) (s : ℕ) (side : Side) (all : List Moment) (had : Received) (taken : ℕ) (state : State) (o : Operation) (earlier : List Call) (w : Call) (moved : ℕ) : Type 0 where
  items : side ≡ Writing → had ≡ all_handed kind s all moved 0 earlier ++ handed s all (total_of_calls kind moved earlier) w 0 o.moved
  count : received s state ≡ total_of_calls kind moved earlier + o.moved + taken
  within : All (IsWithinAsked kind moved) earlier
  told : all_reported kind s side all + o.moved + taken ≡ received s state

module _ (kind : TransmitKind) (s : ℕ) (side : Side) (all : List Moment) (had : Received) (taken : ℕ) (state : State) (o : Operation) (earlier : List Call) (w : Call) (moved : ℕ) where
  is_busy : Kept kind s side all had taken state → waiting s side state ≡ Some o → calls s side all ≡ earlier ++ w ∷ [] → AreReported earlier → w.report ≡ None → IsBusy kind s side all had taken state o earlier w moved
  is_busy k e split h u =
      let some : moved_at s side state ≡ o.moved = moved_some (waiting s side state) o e in
      let a : received s state ≡ total_of_calls kind o.moved (earlier ++ w ∷ []) + taken = k.count ∙ (rw (some, split) refl) in
      let b : k_of kind o.moved w.report ≡ o.moved = rw u refl in
      let z : 0 + total_of_calls kind moved earlier ≡ total_of_calls kind moved earlier = omega arith in
      let now : all_handed kind s all (moved_at s side state) 0 (calls s side all) ≡ all_handed kind s all o.moved 0 (earlier ++ w ∷ []) = rw (some, split) refl in
      let within : All (IsWithinAsked kind o.moved) (earlier ++ w ∷ []) = rw (some, split) at k.within in
      record {
        items = λ i. k.items i ∙ now ∙ (rw (all_handed-append kind s all o.moved 0 earlier (w ∷ []), total_of_calls-reported kind o.moved moved earlier h, all_handed-reported kind s all o.moved moved 0 earlier h, z, all_handed-one kind s all o.moved (total_of_calls kind moved earlier) w, b) refl);
        count = a ∙ (rw (total_of_calls-append kind o.moved earlier (w ∷ []), total_of_calls-reported kind o.moved moved earlier h, b) (omega arith));
        within = within_reported kind o.moved moved earlier h (within_front kind o.moved earlier (w ∷ []) within);
        told = ap (λ n. all_reported kind s side all + n + taken) (sym some) ∙ k.told;
      }

-- what the law sees of a moment in which these items were received
abbrev pub scene_with : ℕ → Side → Moment → Received → Scene
scene_with s side m items = record (scene s side m) { got = items }

module _ (s : ℕ) (side : Side) (all : List Moment) (m : Moment) (had : Received) (taken : ℕ) (items : Received) (k : Kept (kind_at s m.before) s side all had taken m.before) where
  abbrev kind : TransmitKind
  kind = kind_at s m.before

  abbrev size : ℕ
  size = item_size (item_type (payload_at s m.before))

  carries : (o : Operation) → waiting s side m.before ≡ Some o → CarriesLastCall (payload_at s m.before) o (calls s side all)
  carries o e = some_carries (payload_at s m.before) (waiting s side m.before) o (calls s side all) e k.stands

  -- the account is kept after the moment, so many items having been taken
  abbrev pub KeptThen : ℕ → Type 0
  KeptThen now = Kept (kind_at s m.before) s side (all ++ m ∷ []) (had ++ items) now m.after

  rests : Rests side (scene_with s side m items) → KeptThen taken
  rests c =
      let i = is_idle kind s side all had taken m.before k c.was in
      let same : calls s side (all ++ m ∷ []) ≡ calls s side all = calls-same s side all m i.reported c.takes in
      let now : moved_at s side m.after ≡ 0 = moved_none (waiting s side m.after) c.is in
      record {
        stands = rw same (from_none (payload_at s m.after) (waiting s side m.after) (calls s side all) c.is i.reported);
        items = λ e. rw (c.nothing, append-nil had, same, now, i.items e) (sym (all_handed-old kind s all m 0 0 (received s m.before) (calls s side all) k.reached (omega (arith, i.count))));
        alone = k.alone;
        count = rw (same, now, c.same) i.count;
        within = rw (same, now) i.within;
        told = rw (all_reported-push kind s side all m, now, c.same) (omega (arith, i.told, c.counts));
        reached = reached_more s all m (received s m.before) (received s m.after) k.reached refl (omega (arith, c.same));
      }

  goes_on : (o p : Operation) (n : ℕ) → GoesOn side (scene_with s side m items) o p n → KeptThen taken
  goes_on o p n c =
      let b = carries o c.was in
      let w = b.last in
      let i = is_busy kind s side all had taken m.before o b.earlier w p.moved k c.was b.split b.reported b.unreported in
      let same : calls s side (all ++ m ∷ []) ≡ b.earlier ++ w ∷ [] = calls-unreported s side all m c.unreported c.takes ∙ b.split in
      let place = place_more p.address o.address w.address n o.moved p.moved (payload_at s m.before) (payload_at s m.after) c.address b.address c.moved c.payload in
      let carried : CarriesLastCall (payload_at s m.after) p (b.earlier ++ w ∷ []) = record { earlier = b.earlier; last = w; split = refl; reported = b.reported; unreported = b.unreported; guest = c.guest ∙ b.guest; address = place; asked = omega (arith, c.moved, c.left, b.asked) } in
      let quiet : k_of kind 0 (report_in s side m) ≡ 0 = ap (k_of kind 0) c.unreported in
      kept_from kind s side all m had taken items b.earlier w p.moved (received s m.before) o.moved n
      (record {
        stands = from_some (payload_at s m.after) (waiting s side m.after) p (b.earlier ++ w ∷ []) c.is carried;
        calls_are = same;
        now = moved_some (waiting s side m.after) p c.is;
        reached = k.reached;
        alone = k.alone;
        counted = i.count;
        more = c.more;
        counts = rw b.unreported c.moved;
        within = i.within;
        fits = omega (arith, c.left, b.asked);
        told = i.told;
        reports = omega (arith, quiet, c.moved);
        before = i.items;
        here = λ e. c.brings e ∙ ap (λ g. items_in_memory (payload_at s m.before) m.before.guests g o.address n) b.guest ∙ ap (λ a. items_in_memory (payload_at s m.before) m.before.guests w.guest a n) b.address;
      })

  settles : (o : Operation) (code : ReturnCode) → Settles side (scene_with s side m items) o code → KeptThen taken
  settles o code c =
      let b = carries o c.was in
      let w = b.last in
      let v : Call = record { guest = w.guest; address = w.address; asked = w.asked; report = Some code } in
      let i = is_busy kind s side all had taken m.before o b.earlier w 0 k c.was b.split b.reported b.unreported in
      let same : received s m.after ≡ received s m.before + 0 = omega (arith, c.same) in
      let counts : count_reported kind code ≡ o.moved + 0 = omega (arith, c.counts) in
      let told : k_of kind 0 (report_in s side m) ≡ count_reported kind code = ap (k_of kind 0) c.report in
      let nothing : items_in_memory (payload_at s m.before) m.before.guests w.guest (w.address + size * o.moved) 0 ≡ [] = items_in_memory-none (payload_at s m.before) m.before.guests w.guest _ in
      kept_from kind s side all m had taken items b.earlier v 0 (received s m.before) o.moved 0
      (record {
        stands = from_none (payload_at s m.after) (waiting s side m.after) (b.earlier ++ v ∷ []) c.is (AreReported-push b.earlier v b.reported refl);
        calls_are = calls-settled s side all m b.earlier w code b.split b.reported b.unreported c.takes c.report;
        now = moved_none (waiting s side m.after) c.is;
        reached = k.reached;
        alone = k.alone;
        counted = i.count;
        more = same;
        counts = counts;
        within = i.within;
        fits = omega (arith, b.asked);
        told = i.told;
        reports = omega (arith, told, counts);
        before = λ e. i.items e ∙ ap (λ l. all_handed kind s all 0 0 b.earlier ++ l) (handed-place s all (total_of_calls kind 0 b.earlier) w v 0 o.moved refl refl);
        here = λ e. c.nothing ∙ sym nothing;
      })

  -- what an idle end has, and of one call more nothing
  opened : (v : Call) (moved : ℕ) → IsIdle kind s side all had taken m.before → side ≡ Writing → had ≡ all_handed kind s all moved 0 (calls s side all) ++ handed s all (total_of_calls kind moved (calls s side all)) v 0 0
  opened v moved i e =
      i.items e ∙ all_handed-reported kind s all 0 moved 0 (calls s side all) i.reported
      ∙ sym (ap (λ l. all_handed kind s all moved 0 (calls s side all) ++ l) (handed-none s all (total_of_calls kind moved (calls s side all)) v 0) ∙ append-nil _)

  opens : (g address asked : ℕ) (p : Operation) (n : ℕ) → Opens side (scene_with s side m items) g address asked p n → KeptThen taken
  opens g address asked p n c =
      let i = is_idle kind s side all had taken m.before k c.was in
      let v : Call = record { guest = g; address = address; asked = asked; report = None } in
      let place = place_opened p.address address n p.moved (payload_at s m.before) (payload_at s m.after) c.place c.moved c.payload in
      let carried : CarriesLastCall (payload_at s m.after) p (calls s side all ++ v ∷ []) = record { earlier = calls s side all; last = v; split = refl; reported = i.reported; unreported = refl; guest = c.guest; address = place; asked = omega (arith, c.moved, c.left) } in
      let count : received s m.before ≡ total_of_calls kind p.moved (calls s side all) + 0 + taken = omega (arith, i.count, total_of_calls-reported kind 0 p.moved (calls s side all) i.reported) in
      let quiet : k_of kind 0 (report_in s side m) ≡ 0 = ap (k_of kind 0) c.unreported in
      kept_from kind s side all m had taken items (calls s side all) v p.moved (received s m.before) 0 n
      (record {
        stands = from_some (payload_at s m.after) (waiting s side m.after) p (calls s side all ++ v ∷ []) c.is carried;
        calls_are = calls-taken s side all m g address asked None i.reported c.takes c.unreported;
        now = moved_some (waiting s side m.after) p c.is;
        reached = k.reached;
        alone = k.alone;
        counted = count;
        more = c.more;
        counts = omega (arith, c.moved);
        within = within_reported kind 0 p.moved (calls s side all) i.reported i.within;
        fits = omega (arith, c.left);
        told = i.told;
        reports = omega (arith, quiet, c.moved);
        before = opened v p.moved i;
        here = λ e. c.brings e ∙ ap (λ a. items_in_memory (payload_at s m.before) m.before.guests g a n) (place_first address size);
      })

  serves : (g address asked : ℕ) (code : ReturnCode) → Serves side (scene_with s side m items) g address asked code → KeptThen taken
  serves g address asked code c =
      let i = is_idle kind s side all had taken m.before k c.was in
      let v : Call = record { guest = g; address = address; asked = asked; report = Some code } in
      let count : received s m.before ≡ total_of_calls kind 0 (calls s side all) + 0 + taken = omega (arith, i.count) in
      let k_is : count_reported kind code ≡ 0 + count_reported kind code = omega arith in
      let told : k_of kind 0 (report_in s side m) ≡ count_reported kind code = ap (k_of kind 0) c.report in
      kept_from kind s side all m had taken items (calls s side all) v 0 (received s m.before) 0 (count_reported kind code)
      (record {
        stands = from_none (payload_at s m.after) (waiting s side m.after) (calls s side all ++ v ∷ []) c.is (AreReported-push (calls s side all) v i.reported refl);
        calls_are = calls-taken s side all m g address asked (Some code) i.reported c.takes c.report;
        now = moved_none (waiting s side m.after) c.is;
        reached = k.reached;
        alone = k.alone;
        counted = count;
        more = c.more;
        counts = k_is;
        within = i.within;
        fits = omega (arith, c.within);
        told = i.told;
        reports = omega (arith, told);
        before = opened v 0 i;
        here = λ e. c.brings e ∙ ap (λ a. items_in_memory (payload_at s m.before) m.before.guests g a (count_reported kind code)) (place_first address size);
      })

  -- whichever change it is
  pub keeps : Change side (scene_with s side m items) → KeptThen taken
  keeps (ByRest c) = rests c
  keeps (ByGoing o p n c) = goes_on o p n c
  keeps (BySettling o code c) = settles o code c
  keeps (ByOpening g address asked p n c) = opens g address asked p n c
  keeps (ByServing g address asked code c) = serves g address asked code c

  -- items are received without a call of this end, which has none
  pub keeps_taken : (n : ℕ) → side ≢ Writing → waiting s side m.before ≡ None → waiting s side m.after ≡ None → accepted_in s side m (report_in s side m) ≡ [] → k_of kind 0 (report_in s side m) ≡ 0 → received s m.after ≡ received s m.before + n
      → KeptThen (taken + n)
  keeps_taken n other was is takes quiet more =
      let i = is_idle kind s side all had taken m.before k was in
      let same : calls s side (all ++ m ∷ []) ≡ calls s side all = calls-same s side all m i.reported takes in
      let now : moved_at s side m.after ≡ 0 = moved_none (waiting s side m.after) is in
      record {
        stands = rw same (from_none (payload_at s m.after) (waiting s side m.after) (calls s side all) is i.reported);
        items = λ e. absurd (other e);
        alone = λ e. absurd (other e);
        count = rw (same, now, more) (omega (arith, i.count));
        within = rw (same, now) i.within;
        told = rw (all_reported-push kind s side all m, now, more) (omega (arith, i.told, quiet));
        reached = reached_more s all m (received s m.before) (received s m.after) k.reached refl (omega (arith, more));
      }
