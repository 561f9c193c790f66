use Rattle.std.proofs.Common.{◌≡◌, ℕ, ◌<◌, ◌≤◌, true, false, List, [], ◌∷◌, ◌∙◌, refl, sym, ap, length, reverse, vec_len, arith}
use Rattle.std.proofs.lemmas.Bool.Decides.{nat_tests}
use Rattle.std.proofs.lemmas.List.{length-reverse}
use Rattle.std.specs.Prelude.{◌||◌, nat_eq, nat_le, nat_lt}
use Rattle.strm_resources.specs.Links.{is_full}
use Rattle.strm_resources.specs.Nodes.{next_node}
use Rattle.strm_resources.proofs.LinkLemmas.{next_small}
use Rattle.strm_resources.proofs.links.Links.is_full.Goals as goal

none_reversed : (stack : List ℕ) (len : ℕ) → len ≡ length stack → nat_eq len 0 ≡ true → length (reverse stack) ≡ 0
none_reversed stack len e none = grind (arith, nat_tests, length-reverse)

some_reversed : (stack : List ℕ) (len : ℕ) → len ≡ length stack → nat_eq len 0 ≡ false → 0 < length (reverse stack)
some_reversed stack len e some = grind (arith, nat_tests, length-reverse)

-- with none freed the length decides, by either test
full_long : (freed : List ℕ) (len capacity : ℕ) → length freed ≡ 0 → capacity ≤ len → nat_le capacity len ≡ is_full freed len capacity
full_long [] len capacity none long = grind (arith, nat_tests)
full_long (x ∷ freed) len capacity none long = absurd (omega (arith, none))

full_short : (freed : List ℕ) (len capacity : ℕ) → length freed ≡ 0 → len < capacity → nat_lt 4294967295 len ≡ is_full freed len capacity
full_short [] len capacity none short = grind (arith, nat_tests)
full_short (x ∷ freed) len capacity none short = absurd (omega (arith, none))

next_new : (freed : List ℕ) (len : ℕ) → length freed ≡ 0 → nat_lt 4294967295 len ≡ false → next_node freed len ≤ 4294967295
next_new [] len none few = grind (arith, nat_tests)
next_new (x ∷ freed) len none few = absurd (omega (arith, none))

-- with one freed the table is not full
full_freed : (freed : List ℕ) (len capacity : ℕ) → 0 < length freed → is_full freed len capacity ≡ false
full_freed [] len capacity some = absurd (omega (arith, some))
full_freed (x ∷ freed) len capacity some = refl

pub returns-then-len-capacity-clause-exact : goal.returns-then-len-capacity-clause-exact
returns-then-len-capacity-clause-exact c =
    let l = c.self.inside in
    let none = none_reversed l.freed.items (vec_len l.freed) (l.freed.ok.0) (sym c.is_empty.ensures ∙ c.if-is_empty.true) in
    let len : c.len.result ≡ length l.nodes.items = c.len.ensures ∙ l.nodes.ok.0 in
    rw (← c.self.view_is, ← len) (full_long (reverse l.freed.items) c.len.result c.args.capacity none c.if-len-capacity.true)

pub returns-else-len-capacity-clause-exact : goal.returns-else-len-capacity-clause-exact
returns-else-len-capacity-clause-exact c =
    let l = c.self.inside in
    let none = none_reversed l.freed.items (vec_len l.freed) (l.freed.ok.0) (sym c.is_empty.ensures ∙ c.if-is_empty.true) in
    let len : c.len-else-len-capacity.result ≡ length l.nodes.items = c.len-else-len-capacity.ensures ∙ l.nodes.ok.0 in
    rw (← c.self.view_is, ← len) (full_short (reverse l.freed.items) c.len-else-len-capacity.result c.args.capacity none (omega (arith, c.if-len-capacity.false, c.len.ensures, c.len-else-len-capacity.ensures)))

pub returns-else-len-capacity-clause-small : goal.returns-else-len-capacity-clause-small
returns-else-len-capacity-clause-small c =
    let l = c.self.inside in
    let none = none_reversed l.freed.items (vec_len l.freed) (l.freed.ok.0) (sym c.is_empty.ensures ∙ c.if-is_empty.true) in
    let len : c.len-else-len-capacity.result ≡ length l.nodes.items = c.len-else-len-capacity.ensures ∙ l.nodes.ok.0 in
    rw (← c.self.view_is, ← len) (next_new (reverse l.freed.items) c.len-else-len-capacity.result none)

pub returns-else-is_empty-clause-exact : goal.returns-else-is_empty-clause-exact
returns-else-is_empty-clause-exact c =
    let l = c.self.inside in
    let some = some_reversed l.freed.items (vec_len l.freed) (l.freed.ok.0) (sym c.is_empty.ensures ∙ c.if-is_empty.false) in
    rw (← c.self.view_is) (c.if-is_empty.false ∙ sym (full_freed (reverse l.freed.items) (length l.nodes.items) c.args.capacity some))

pub returns-else-is_empty-clause-small : goal.returns-else-is_empty-clause-small
returns-else-is_empty-clause-small c =
    λ none.
    let l = c.self.inside in
    let long : length l.freed.items ≡ vec_len l.freed = omega (arith, l.freed.ok) in
    let some = sym c.is_empty.ensures ∙ none in
    rw (← c.self.view_is) (next_small l.nodes.items l.freed.items c.self.invariant.kept c.self.invariant.small (ap (λ n. nat_eq n 0) long ∙ some))
