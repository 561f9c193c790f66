-- The count of a stream has room for the parts to come, where they are as many as were paid for.
use Rattle.std.proofs.Common.{◌≡◌, ◌≢◌, ℕ, ◌+◌, ◌-◌, ◌*◌, ◌^◌, ◌<◌, ◌≤◌, ◌==◌, cond, refl, sym, ap, subst, ◌∙◌, ◌⊎◌, inl, inr, arith}
use Rattle.std.proofs.lemmas.Bool.{cases_eq, eq-eqb, ne_eqb}
use Rattle.strm_machine.specs.Moments.{received}
use Rattle.strm_machine.specs.State.{State, stream_at}
use Rattle.strm_machine.specs.declared.streams.Owner.{Owner}
use Rattle.strm_machine.specs.declared.streams.Owner.TheVariants.{Host}
use Rattle.strm_machine.specs.declared.streams.Side.TheVariants.{Writing}
use Rattle.strm_host_laws.proofs.PartsSeen.{IsTaken, owner_taken, effect_taken}
use Rattle.strm_machine.specs.declared.replies.Reply.{Reply}
use Rattle.strm_host_laws.specs.HostMoments.{Part, Acts, Turns}
use Rattle.strm_host_laws.proofs.StepsLeft.{left_after, Pays}
use Rattle.strm_host_laws.proofs.Effects.{Effect}
use Rattle.strm_host_laws.proofs.TurnsStand.{Holds}
use Rattle.strm_host_laws.proofs.HostCounts.{NoPipe, effect_most, effect_still}

-- it has room for what a part may move on it
abbrev pub HasRoom : State → ℕ → Part → Type 0
HasRoom old s (Acts act) = received s old + 2 ^ 28 < 2 ^ 128
HasRoom old s (Turns t) = t ≡ s → received s old + 2 ^ 28 < 2 ^ 128

module _ (s n : ℕ) (old new : State) (reply : Reply) (h : Holds old) (room : received s old + 2 ^ 28 * n < 2 ^ 128) where
  pub has_room : (part : Part) → Pays s part n → HasRoom old s part
  has_room (Acts act) p = omega (arith, p.0, room)
  has_room (Turns j) p = λ e. let some = p e in omega (arith, some, room)

  room_after : (part : Part) → Pays s part n → received s new ≤ received s old + 2 ^ 28 → ((j : ℕ) → part ≡ Turns j → j ≢ s → received s new ≡ received s old) → received s new + 2 ^ 28 * left_after s part n < 2 ^ 128
  room_after (Acts act) p most still = omega (arith, p.0, room, most)
  room_after (Turns j) p most still =
      elim (cases_eq j s) [
        | inl e ↦
            let b : cond (j == s) (n - 1) n ≡ n - 1 = ap (λ b. cond b (n - 1) n) (eq-eqb j s e) in
            omega (arith, b, p e, room, most)
        | inr ne ↦
            let b : cond (j == s) (n - 1) n ≡ n = ap (λ b. cond b (n - 1) n) (ne_eqb j s ne) in
            omega (arith, b, room, still j refl ne)
      ]

  pub room_next : (part : Part) → Pays s part n → NoPipe old s → Effect old part reply new → received s new + 2 ^ 28 * left_after s part n < 2 ^ 128
  room_next part p off effect =
      room_after part p (effect_most old new reply h part s off effect)
      (λ j e ne. effect_still old new reply h j s ne (subst (λ q. Effect old q reply new) e effect))

-- a host writer has, or had, the write end of a stream, or its count has room for the parts to come
abbrev pub WrittenOrRoom : State → ℕ → ℕ → Type 0
WrittenOrRoom state s n = IsTaken Writing state s ⊎ (received s state + 2 ^ 28 * n < 2 ^ 128)

-- so for a part
pub written_or_room : (s n : ℕ) (old new : State) (reply : Reply) → Holds old → WrittenOrRoom old s n → (part : Part) → Pays s part n → IsTaken Writing old s ⊎ HasRoom old s part
written_or_room s n old new reply h (inl taken) part p = inl taken
written_or_room s n old new reply h (inr room) part p = inr (has_room s n old new reply h room part p)

pub written_or_room_next : (s n : ℕ) (old new : State) (reply : Reply) → Holds old → WrittenOrRoom old s n → (part : Part) → Pays s part n → Effect old part reply new → WrittenOrRoom new s (left_after s part n)
written_or_room_next s n old new reply h (inl taken) part p effect = inl (effect_taken Writing old new part reply s h effect taken)
written_or_room_next s n old new reply h (inr room) part p effect = by (stream_at old s).writer.owner refl
  where
    by : (owner : Owner) → (stream_at old s).writer.owner ≡ owner → WrittenOrRoom new s (left_after s part n)
    by (Host k) e = inl (effect_taken Writing old new part reply s h effect (owner_taken Writing old s k h e))
    by owner e = inr (room_next s n old new reply h room part p (λ k r f g. let wrong = sym e ∙ f in cc) effect)
