-- What a seat has when the store is closed.
use Rattle.std.proofs.Common.{◌≡◌, ◌<◌, ◌≤◌, ℕ, ap, sym, subst, ◌∙◌, arith}
use Rattle.atomic_table.specs.Seated.{TableId}
use mathlib.Core.List.{IsPrefix}
use Rattle.strm_shared.specs.declared.store.Closed.{Closed}
use Rattle.strm_shared.specs.declared.view.View.{View}
use Rattle.strm_shared.specs.Accounts.{Account}
use Rattle.strm_shared.specs.Causes.{StoreEnds}
use Rattle.strm_shared.specs.Histories.{IsLegal, state_after, calls_by}
use Rattle.strm_shared.specs.Plays.{Enters}
use Rattle.strm_shared.specs.Tokens.{Token, token, last_number, Rests}

module _ (seat : Token) (table : TableId) (number : ℕ) (view : View) (desk : Account) (closed : Closed) where
  -- it found this store and this history in its last turn
  pub closes : (ticket : ℕ) → token table number view ≡ seat → Rests number view → Enters view desk →
      ticket < last_number → view.top_ticket ≤ ticket → IsLegal desk.limits desk.log →
      closed.store ≡ state_after desk.limits desk.log → closed.history.items ≡ desk.log → StoreEnds seat closed
  closes ticket is rests enters before top legal store_is log_is =
      subst (λ s. StoreEnds s closed) is (
        subst (λ l. IsLegal view.limits l) (sym log_is) (subst (λ m. IsLegal m desk.log) enters.of_limits legal),
        store_is ∙ ap (λ m. state_after m desk.log) enters.of_limits ∙ ap (state_after view.limits) (sym log_is),
        subst (IsPrefix view.seen) (sym log_is) enters.grew,
        ap (calls_by number) log_is ∙ (enters.made number rests.numbered).0,
        λ k one e. ap (calls_by one.0) log_is ∙ (enters.over k one e).0,
        omega (arith, before, top),
      )
