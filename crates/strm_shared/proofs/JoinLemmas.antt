-- A seat in which another ended.
use Rattle.std.proofs.Common.{◌≡◌, ℕ, ◌++◌, refl, sym, ap, subst}
use Rattle.atomic_table.specs.Seated.{TableId}
use Rattle.strm_shared.specs.declared.view.View.{View}
use Rattle.strm_shared.specs.Histories.{IsLegal}
use Rattle.strm_shared.specs.Plays.{own_ended, seats_joined, RecallsAll, IsSeatApart}
use Rattle.strm_shared.specs.Tokens.{Token, token, Rests}
use Rattle.strm_shared.specs.Causes.{Joined}
use Rattle.strm_shared.proofs.EndedLemmas.{longer_has}
use Rattle.strm_shared.proofs.FrontLemmas.{fronts_by}

module _ (z z' z'' : TableId) (n m : ℕ) (v w : View) (into : Rests n v) (from : Rests m w) where
  -- both seats are of one store, and the joined one recalls one history
  joined_at : w.limits ≡ v.limits → RecallsAll (seats_joined v w) → IsSeatApart (seats_joined v w) → Joined (token z n v) (token z' m w) (token z'' n (seats_joined v w))
  joined_at same recalls apart =
      let fronts = fronts_by v.seen w.seen recalls.front in (
        refl,
        fronts.0,
        fronts.1,
        record {
          legal = longer_has (IsLegal v.limits) v.seen w.seen into.legal (subst (λ l. IsLegal l w.seen) same from.legal);
          own = recalls.own n into.numbered;
          over = recalls.over;
          apart = apart n into.numbered;
        },
        refl,
        ap (λ o. v.ended ++ (w.ended ++ own_ended o w.mine)) from.numbered,
        refl,
        refl,
        refl,
        refl,
        refl,
        refl,
      )

  pub joins : (old other : Token) (u : View) → token z n v ≡ old → token z' m w ≡ other → w.limits ≡ v.limits → u ≡ seats_joined v w → RecallsAll (seats_joined v w) → IsSeatApart (seats_joined v w) → Joined old other (token z'' n u)
  joins old other u is is' same after recalls apart =
      subst (λ o. Joined o other (token z'' n u)) is
      (subst (λ o. Joined (token z n v) o (token z'' n u)) is'
      (subst (λ x. Joined (token z n v) (token z' m w) (token z'' n x)) (sym after) (joined_at same recalls apart)))
