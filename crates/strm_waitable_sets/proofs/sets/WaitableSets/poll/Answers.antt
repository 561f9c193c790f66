use Rattle.std.proofs.Common.{◌≡◌, ◌<◌, ℕ, Bool, List, true, false, Some, None, Option, ap, sym, ◌∙◌}
use Rattle.std.specs.Prelude.{IfSome, IfNone}
use Rattle.strm_codes.specs.OptionalNumbers.{is_number}
use Rattle.strm_waitable_sets.specs.Homes.{home_at}
use Rattle.strm_waitable_sets.specs.Sets.{Sets, is_member, IsLeastReady, NoneReady}
use Rattle.strm_waitable_sets.specs.Slots.{Slot}
use Rattle.strm_waitable_sets.proofs.TieLemmas.{seen, is_member-seen}
use Rattle.strm_waitable_sets.proofs.sets.WaitableSets.poll.Goals as goal

module _ (says : ℕ → Bool → Type 0) (slots : List Slot) (homes kept : List (Option ℕ)) (sets : Sets) (number : ℕ) (view : seen slots kept ≡ sets) (same : homes ≡ kept) where
  -- a set's members are the handles whose home it is
  is : (handle : ℕ) → is_member sets number handle ≡ is_number (home_at homes handle) number
  is handle =
      ap (λ v. is_member v number handle) (sym view) ∙ is_member-seen slots kept number handle
      ∙ ap (λ hs. is_number (home_at hs handle) number) (sym same)

  -- a handle's home is the set
  abbrev In : ℕ → Type 0
  In handle = is_number (home_at homes handle) number ≡ true

  -- what is known of handles, said of the members of the set
  its_least : (found : Option ℕ) → IfSome found In → IfSome found (λ handle. says handle true) → IfSome found (λ handle. (other : ℕ) → other < handle → In other → says other false) → IfSome found (IsLeastReady says sets number)
  its_least None there ready least = tt
  its_least (Some handle) there ready least = record {
    member = is handle ∙ there;
    ready = ready;
    least = λ other below in_it. least other below (sym (is other) ∙ in_it);
  }

  its_none : (found : Option ℕ) → IfNone found ((other : ℕ) → In other → says other false) → IfNone found (NoneReady says sets number)
  its_none None none = λ handle in_it. none handle (sym (is handle) ∙ in_it)
  its_none (Some handle) none = tt

pub returns-clause-some : goal.returns-clause-some
returns-clause-some g c =
    let s = c.self.inside in
    its_least (goal.F-post g c.args.ready) s.sets.items c.as_slice.result.now s.homes.items c.args.self.now c.args.set c.self.view_is c.as_slice.ensures.value
    c.least_ready.result c.least_ready.ensures.member c.least_ready.ensures.ready c.least_ready.ensures.least

pub returns-clause-none : goal.returns-clause-none
returns-clause-none g c =
    let s = c.self.inside in
    its_none (goal.F-post g c.args.ready) s.sets.items c.as_slice.result.now s.homes.items c.args.self.now c.args.set c.self.view_is c.as_slice.ensures.value
    c.least_ready.result c.least_ready.ensures.none
