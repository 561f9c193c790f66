-- The account of an end of a stream: what holds of the moments so far and of the state that they led to, and
-- how it grows by one moment.
use Rattle.std.proofs.Common.{◌≡◌, ℕ, ℤ, ◌+◌, ◌*◌, ◌≤◌, List, [], ◌∷◌, ◌++◌, Option, None, Some, refl, sym, arith, append_assoc, ⊎_elim}
use Rattle.std.proofs.lemmas.List.{append-nil}
use Rattle.std.proofs.lemmas.Bool.{lt-ltb, le-ltb, cases_lt}
use Rattle.std.proofs.lemmas.List.Elements.{All-nil, All-cons, All-head, All-tail, All-push}
use Rattle.std.specs.Prelude.{All, nat_lt, ◌||◌}
use Rattle.strm_machine.specs.Words.{item_type, item_size, ReturnCode, TransmitKind, Payload, State, stream_at, Moment, Call, k_of, items_in_memory, received, report_in, accepted_in}
use Rattle.strm_machine.specs.declared.streams.Side.{Side}
use Rattle.strm_machine.specs.declared.streams.Side.TheVariants.{Writing}
use Rattle.strm_machine.specs.declared.streams.Operation.{Operation}
use Rattle.strm_laws.specs.Conservation.{calls, all_reported, handed, all_handed}
use Rattle.strm_laws.specs.Laws.{total_of_calls, waiting, moved_at, IsWithinAsked, AreReported, CarriesLastCall, Stands}
use Rattle.strm_laws.proofs.Calls.{settled-append, settled-reported, settled-none, calls-push, all_reported-push}
use Rattle.strm_laws.proofs.Handed.{IsReached, reaches-push, k_of-reported, total_of_calls-append, handed-old, handed-new, handed-add, all_handed-append, all_handed-old, all_handed-one}

abbrev pub kind_at : ℕ → State → TransmitKind
kind_at s state = (stream_at state s).kind

abbrev pub payload_at : ℕ → State → Payload
payload_at s state = (stream_at state s).payload

-- items that were received, as they lay in a memory
abbrev pub Received : Type 0
Received = List (Option (List ℤ))

-- the account of an end of a stream, as of one of this kind: these items were received, and so many of them
-- without a call of this end
pub record Kept (kind : TransmitKind) (s : ℕ) (side : Side) (all : List Moment) (had : Received) (taken : ℕ) (state : State) : Type 0 where
  pub stands : Stands (payload_at s state) (waiting s side state) (calls s side all)
  pub items : side ≡ Writing → had ≡ all_handed kind s all (moved_at s side state) 0 (calls s side all)
  pub alone : side ≡ Writing → taken ≡ 0
  pub count : received s state ≡ total_of_calls kind (moved_at s side state) (calls s side all) + taken
  pub within : All (IsWithinAsked kind (moved_at s side state)) (calls s side all)
  pub told : all_reported kind s side all + moved_at s side state + taken ≡ received s state
  pub reached : IsReached s all (received s state)

or-ltb : (n a b : ℕ) → a ≤ b → (nat_lt n a || nat_lt n b) ≡ nat_lt n b
or-ltb n a b le = ⊎_elim (λ h. rw (lt-ltb n a h, lt-ltb n b (omega arith)) refl) (λ h. rw (le-ltb n a h) refl) (cases_lt n a)

pub reached_more : (s : ℕ) (all : List Moment) (m : Moment) (r t : ℕ) → IsReached s all r → received s m.after ≡ t → r ≤ t → IsReached s (all ++ m ∷ []) t
reached_more s all m r t h e le n = rw (reaches-push s all m n, h n, e) (or-ltb n r t le)

-- where all have their reports, what the operation moved doesn't count
pub within_reported : (kind : TransmitKind) (a b : ℕ) (cs : List Call) → AreReported cs → All (IsWithinAsked kind a) cs → All (IsWithinAsked kind b) cs
within_reported kind a b [] h w = All-nil (IsWithinAsked kind b)
within_reported kind a b (c ∷ cs) h w =
    let here : k_of kind a c.report ≡ k_of kind b c.report = k_of-reported kind a b c.report h.0 in
    let within : k_of kind a c.report ≤ c.asked = All-head (IsWithinAsked kind a) c cs w in
    All-cons (IsWithinAsked kind b) c cs (omega (arith, here, within)) (within_reported kind a b cs h.1 (All-tail (IsWithinAsked kind a) c cs w))

pub within_front : (kind : TransmitKind) (a : ℕ) (cs ds : List Call) → All (IsWithinAsked kind a) (cs ++ ds) → All (IsWithinAsked kind a) cs
within_front kind a [] ds w = All-nil (IsWithinAsked kind a)
within_front kind a (c ∷ cs) ds w = All-cons (IsWithinAsked kind a) c cs (All-head (IsWithinAsked kind a) c (cs ++ ds) w) (within_front kind a cs ds (All-tail (IsWithinAsked kind a) c (cs ++ ds) w))

pub none_reported : (payload : Payload) (o : Option Operation) (ws : List Call) → o ≡ None → Stands payload o ws → AreReported ws
none_reported payload None ws e h = h
none_reported payload (Some o) ws e h = cc

pub some_carries : (payload : Payload) (o : Option Operation) (p : Operation) (ws : List Call) → o ≡ Some p → Stands payload o ws → CarriesLastCall payload p ws
some_carries payload None p ws e h = cc
some_carries payload (Some o) p ws e h = let q : o ≡ p = cc in rw q at h

pub from_none : (payload : Payload) (o : Option Operation) (ws : List Call) → o ≡ None → AreReported ws → Stands payload o ws
from_none payload None ws e h = h
from_none payload (Some o) ws e h = cc

pub from_some : (payload : Payload) (o : Option Operation) (p : Operation) (ws : List Call) → o ≡ Some p → CarriesLastCall payload p ws → Stands payload o ws
from_some payload None p ws e h = cc
from_some payload (Some o) p ws e h = let q : p ≡ o = cc in rw q at h

-- a call of so many items, with this report
abbrev call_with : ℕ → ℕ → ℕ → Option ReturnCode → Call
call_with g address n q = record { guest = g; address = address; asked = n; report = q }

module _ (s : ℕ) (side : Side) (all : List Moment) (m : Moment) where
  -- no call is without a report, and none is taken
  pub calls-same : AreReported (calls s side all) → accepted_in s side m (report_in s side m) ≡ [] → calls s side (all ++ m ∷ []) ≡ calls s side all
  calls-same h t = rw (calls-push s side all m, t, settled-reported (report_in s side m) (calls s side all) h) (append-nil (calls s side all))

  -- no report, and no call is taken
  pub calls-unreported : report_in s side m ≡ None → accepted_in s side m (report_in s side m) ≡ [] → calls s side (all ++ m ∷ []) ≡ calls s side all
  calls-unreported e t = rw (calls-push s side all m, t, e, settled-none (calls s side all)) (append-nil (calls s side all))

  -- a call is taken, behind others that have their reports
  pub calls-taken : (g address n : ℕ) (q : Option ReturnCode) → AreReported (calls s side all) → accepted_in s side m (report_in s side m) ≡ call_with g address n (report_in s side m) ∷ [] → report_in s side m ≡ q → calls s side (all ++ m ∷ []) ≡ calls s side all ++ call_with g address n q ∷ []
  calls-taken g address n q h t e = rw (calls-push s side all m, t, settled-reported (report_in s side m) (calls s side all) h, e) refl

  -- the call without a report gets one
  module _ (earlier : List Call) (w : Call) (code : ReturnCode) (split : calls s side all ≡ earlier ++ w ∷ []) (h : AreReported earlier) (u : w.report ≡ None) where
    pub calls-settled : accepted_in s side m (report_in s side m) ≡ [] → report_in s side m ≡ Some code → calls s side (all ++ m ∷ []) ≡ earlier ++ call_with w.guest w.address w.asked (Some code) ∷ []
    calls-settled t e =
        rw (calls-push s side all m, t, e, split, settled-append (Some code) earlier (w ∷ []), settled-reported (Some code) earlier h, u) (append-nil _)

-- what these calls handed over, and one more of its first x items
abbrev pub handed_before : TransmitKind → ℕ → List Moment → ℕ → List Call → Call → ℕ → List (Option (List ℤ))
handed_before kind s all moved earlier w x = all_handed kind s all moved 0 earlier ++ handed s all (total_of_calls kind moved earlier) w 0 x

-- the next n items of a call, as they lie before a moment
abbrev pub items_next : ℕ → Moment → Call → ℕ → ℕ → List (Option (List ℤ))
items_next s m w x n = items_in_memory (payload_at s m.before) m.before.guests w.guest (w.address + item_size (item_type (payload_at s m.before)) * x) n

-- in a moment the last call moves n items after x others
pub record Moves (kind : TransmitKind) (s : ℕ) (side : Side) (all : List Moment) (m : Moment) (had : Received) (taken : ℕ) (now_got : Received) (earlier : List Call) (w : Call) (moved r x n : ℕ) : Type 0 where
  pub stands : Stands (payload_at s m.after) (waiting s side m.after) (earlier ++ w ∷ [])
  pub calls_are : calls s side (all ++ m ∷ []) ≡ earlier ++ w ∷ []
  pub now : moved_at s side m.after ≡ moved
  pub reached : IsReached s all r
  pub alone : side ≡ Writing → taken ≡ 0
  pub counted : r ≡ total_of_calls kind moved earlier + x + taken
  pub more : received s m.after ≡ r + n
  pub counts : k_of kind moved w.report ≡ x + n
  pub within : All (IsWithinAsked kind moved) earlier
  pub fits : x + n ≤ w.asked
  pub told : all_reported kind s side all + x + taken ≡ r
  pub reports : k_of kind 0 (report_in s side m) + moved ≡ x + n
  pub before : side ≡ Writing → had ≡ handed_before kind s all moved earlier w x
  pub here : side ≡ Writing → now_got ≡ items_next s m w x n

module _ (kind : TransmitKind) (s : ℕ) (side : Side) (all : List Moment) (m : Moment) (had : Received) (taken : ℕ) (now_got : Received) (earlier : List Call) (w : Call) (moved r x n : ℕ) (h : Moves kind s side all m had taken now_got earlier w moved r x n) where
  -- what the writes handed over, where in this moment the last of them hands over n after x others
  all_handed-more : taken ≡ 0 → all_handed kind s (all ++ m ∷ []) moved 0 (earlier ++ w ∷ []) ≡ handed_before kind s all moved earlier w x ++ items_next s m w x n
  all_handed-more none =
      let t = total_of_calls kind moved earlier in
      let payload = payload_at s m.before in
      let a : all_handed kind s (all ++ m ∷ []) moved 0 earlier ≡ all_handed kind s all moved 0 earlier = all_handed-old kind s all m moved 0 r earlier h.reached (omega (arith, h.counted)) in
      let b : handed s (all ++ m ∷ []) t w 0 x ≡ handed s all t w 0 x = handed-old s all m t w r 0 x h.reached (omega (arith, h.counted)) in
      let c : handed s (all ++ m ∷ []) t w (0 + x) n ≡ items_in_memory payload m.before.guests w.guest (w.address + item_size (item_type payload) * (0 + x)) n = handed-new s all m t w r payload h.reached refl (0 + x) n (omega (arith, h.counted, none)) (omega (arith, h.counted, h.more, none)) in
      let k = h.counts in
      let z : 0 + x ≡ x = omega arith in
      let y : 0 + t ≡ t = omega arith in
      rw (all_handed-append kind s (all ++ m ∷ []) moved 0 earlier (w ∷ []), y, all_handed-one kind s (all ++ m ∷ []) moved t w, k, handed-add s (all ++ m ∷ []) t w 0 x n (x + n) refl, a, b, c, z)
      (sym (append_assoc (all_handed kind s all moved 0 earlier) (handed s all t w 0 x) (items_in_memory payload m.before.guests w.guest (w.address + item_size (item_type payload) * x) n)))

  -- the account is kept
  pub kept_from : Kept kind s side (all ++ m ∷ []) (had ++ now_got) taken m.after
  kept_from =
      let calls_are = h.calls_are in
      let now = h.now in
      let more = h.more in
      record {
        stands = rw calls_are h.stands;
        items = λ e. rw (h.here e, h.before e, calls_are, now) (sym (all_handed-more (h.alone e)));
        alone = h.alone;
        count = rw (calls_are, now, total_of_calls-append kind moved earlier (w ∷ []), more, h.counts) (omega (arith, h.counted));
        within = rw (calls_are, now) (All-push (IsWithinAsked kind moved) earlier w h.within (omega (arith, h.counts, h.fits)));
        told = rw (all_reported-push kind s side all m, now, more) (omega (arith, h.told, h.reports));
        reached = reached_more s all m r (received s m.after) h.reached refl (omega (arith, more));
      }
