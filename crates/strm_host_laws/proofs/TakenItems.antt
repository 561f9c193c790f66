-- Each item that a host reader took in a run is one: a record tells truly which items it took.
use Rattle.std.proofs.Common.{◌≡◌, ℕ, false, List, [], ◌∷◌, length, map, drop, Option, Some, None, refl, sym, ap, subst, ◌∙◌, ◌⊎◌, inl, inr, arith}
use Rattle.std.specs.Prelude.{All, IsSome}
use Rattle.std.proofs.lemmas.List.Elements.{All-nil, All-cons, All-append}
use Rattle.strm_codes.specs.Layout.{item_type}
use Rattle.strm_codes.specs.ItemTypes.{ItemType}
use Rattle.strm_memory.specs.Items.{items}
use Rattle.strm_buffers.specs.Listing.{Item, listed}
use Rattle.strm_buffers.specs.Tells.{Tells}
use Rattle.strm_machine.specs.Moments.{decoded}
use Rattle.strm_machine.specs.State.{memory_in, is_host}
use Rattle.strm_machine.specs.declared.limits.Limits.{Limits}
use Rattle.strm_machine.specs.declared.steps.Step.{Step}
use Rattle.strm_machine.specs.declared.streams.Owner.{Owner}
use Rattle.strm_machine.specs.declared.streams.Owner.TheVariants.{Host}
use Rattle.strm_machine.specs.declared.streams.Side.TheVariants.{Writing, Reading}
use Rattle.strm_machine.proofs.ArrivalLemmas.{decoded-items}
use Rattle.strm_laws.specs.Laws.{AreSteps}
use Rattle.strm_host_machine.specs.Does.{start_world}
use Rattle.strm_host_machine.specs.World.{World, stream_in}
use Rattle.strm_host_laws.specs.HostMoments.{HostMoment, first_moments}
use Rattle.strm_host_laws.specs.HostLaws.{plain, taken_in_moment, taken_from_owner, taken_by, host_taken_in, all_taken}
use Rattle.strm_host_laws.proofs.Chains.{Chain, first-chain}
use Rattle.strm_host_laws.proofs.Effects.{Effect}
use Rattle.strm_host_laws.proofs.PartEffects.{follows_effect}
use Rattle.strm_host_laws.proofs.Forms.{IsRound, Form, part-formed}
use Rattle.strm_host_laws.proofs.GoingRules.{IfGoes}
use Rattle.strm_host_laws.proofs.HostAccounts.{taken_unread}
use Rattle.strm_host_laws.proofs.HostsAgree.{one_stream}
use Rattle.strm_host_laws.proofs.KeptItems.{unused_by}
use Rattle.strm_host_laws.proofs.Moments.{nothing_from, round_got}
use Rattle.strm_host_laws.proofs.PartsSeen.{IsTaken}
use Rattle.strm_host_laws.proofs.ReadTurnSeen.{taken_at}
use Rattle.strm_host_laws.proofs.Rooms.{HasRoom, WrittenOrRoom, written_or_room, written_or_room_next}
use Rattle.strm_host_laws.proofs.TurnsStand.{Holds}
use Rattle.strm_host_laws.proofs.Standing.{Holds-next, Holds-empty}
use Rattle.strm_host_laws.proofs.StepsLeft.{left_after, Costs, first_cost}
use Rattle.strm_host_laws.proofs.Took.{TakesOn, Rests, Takes, Passes, form_took}

-- ## Items that lie there

all_some : (xs : List Item) → All IsSome (map Some xs)
all_some [] = All-nil IsSome
all_some (x ∷ xs) = All-cons IsSome (Some x) (map Some xs) refl (all_some xs)

none_lie : (ss : ItemType) (bytes : List ℕ) → All IsSome (decoded ss bytes 0)
unfolding decoded
none_lie ss bytes = All-nil IsSome

-- where as many are lifted as were asked for, each of them is one
decoded_some : (ss : ItemType) (bytes : List ℕ) (n : ℕ) → length (listed (items ss bytes n)) ≡ n → All IsSome (decoded ss bytes n)
decoded_some ss bytes n l = by (items ss bytes n) refl l
  where
    by : (o : Option (List Item)) → items ss bytes n ≡ o → length (listed o) ≡ n → All IsSome (decoded ss bytes n)
    by (Some xs) e l = subst (All IsSome) (sym (decoded-items ss bytes n xs e)) (all_some xs)
    by None e l = subst (λ k. All IsSome (decoded ss bytes k)) l (none_lie ss bytes)

-- ## A moment

module _ (s : ℕ) (m : HostMoment) (h : Holds m.before.state) (form : Form m.before m.part m.reply m.after) where
  -- what host readers took in it are items
  abbrev pub AreTaken : Type 0
  AreTaken = All IsSome (host_taken_in s m)

  none_taken : host_taken_in s m ≡ [] → AreTaken
  none_taken e = subst (All IsSome) (sym e) (All-nil IsSome)

  -- host reader r has the read end
  module _ (r : ℕ) (owner : (stream_in m.before s).reader.owner ≡ Host r) where
    -- it has no other
    one : (t : ℕ) → (stream_in m.before t).reader.owner ≡ Host r → t ≡ s
    one t e = one_stream t s (sym ((h.hosts.serve Reading r t).serves e) ∙ (h.hosts.serve Reading r s).serves owner)

    from_guest : (writer : Owner) → is_host writer ≡ false → taken_from_owner s m r writer ≡ taken_in_moment s (plain m)
    from_guest (Host n) e = cc
    from_guest _ e = refl

    takes : TakesOn s r m → HasRoom m.before.state s m.part → AreTaken
    takes x room =
        let payload = (stream_in m.before s).payload in
        let memory = drop x.operation.address (memory_in m.before.state.guests x.operation.guest) in
        let is : host_taken_in s m ≡ decoded (item_type payload) memory x.count =
        ap (taken_by s m) owner ∙ from_guest (stream_in m.before s).writer.owner x.unhosted ∙ taken_at s (plain m) x.operation.guest x.operation.address x.count x.place (x.counts room) in
        subst (All IsSome) (sym is) (decoded_some (item_type payload) memory x.count x.good)

    passes : (n : ℕ) → IsRound m.before m.part m.after s n r → AreTaken
    passes n i = subst (All IsSome) (sym (round_got s n r m i.passed i.read i.wrote).taken) (all_some i.passed.items)

    read_taken : IsTaken Writing m.before.state s ⊎ HasRoom m.before.state s m.part → AreTaken
    read_taken room =
        elim (form_took m h form s r) [
          | Rests x ↦ none_taken (ap (taken_by s m) owner ∙ nothing_from s m r (x.counts owner) (unused_by r m x.told) (stream_in m.before s).writer.owner)
          | Takes t x ↦ by room (subst (λ k. TakesOn k r m) (one t x.owner) x)
          | Passes t n i ↦ passes n (subst (λ k. IsRound m.before m.part m.after k n r) (one t i.read) i)
        ]
      where
        by : IsTaken Writing m.before.state s ⊎ HasRoom m.before.state s m.part → TakesOn s r m → AreTaken
        by (inl taken) x = absurd (x.busy taken)
        by (inr has) x = takes x has

  pub moment_taken : IsTaken Writing m.before.state s ⊎ HasRoom m.before.state s m.part → AreTaken
  moment_taken room = by (stream_in m.before s).reader.owner refl
    where
      by : (o : Owner) → (stream_in m.before s).reader.owner ≡ o → AreTaken
      by (Host r) e = read_taken r e room
      by _ e = none_taken (taken_unread s m (stream_in m.before s).reader.owner (ap is_host e))

-- ## A run

items_from : (s : ℕ) (w : World) (all : List HostMoment) (n : ℕ) → Chain w all → Holds w.state → WrittenOrRoom w.state s n → Costs s all n → All IsSome (all_taken s all)
items_from s w [] n c holds room p = All-nil IsSome
items_from s w (m ∷ more) n c holds room p =
    let f = c.0 in
    let before : Holds m.before.state = subst (λ (x : World). Holds x.state) (sym f.begins) holds in
    let form = subst (λ o. IfGoes o (Form m.before m.part)) f.goes (part-formed m.before before m.part f.part) in
    let effect : Effect m.before.state m.part m.reply m.after.state = subst (λ (x : World). Effect x.state m.part m.reply m.after.state) (sym f.begins) (follows_effect w m holds.hosts f) in
    let has : WrittenOrRoom m.before.state s n = subst (λ (x : World). WrittenOrRoom x.state s n) (sym f.begins) room in
    All-append IsSome (host_taken_in s m) (all_taken s more)
    (moment_taken s m before form (written_or_room s n m.before.state m.after.state m.reply before has m.part p.0))
    (items_from s m.after more (left_after s m.part n) c.1 (Holds-next w m f holds) (written_or_room_next s n m.before.state m.after.state m.reply before has m.part p.0 effect) p.1)

-- each item that a host reader took on stream s in the first moments of a run is one
pub run_items : (tag : ℕ) (limits : Limits) (old new : Tells) (run : List Step) (count s : ℕ) → AreSteps run
    → All IsSome (all_taken s (first_moments count (start_world tag limits old new) run))
run_items tag limits old new run count s a =
    let first = start_world tag limits old new in
    items_from s first (first_moments count first run) (length run) (first-chain count first run) (Holds-empty tag limits) (inr (omega (arith, a.few))) (first_cost s count first run a.bytes)
