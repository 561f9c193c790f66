-- A countdown does what every producer owes.
use Rattle.std.proofs.Common.{◌≡◌, ℕ, zero, suc, ◌<◌, pos, [], ◌∷◌, length, refl, arith}
use Rattle.strm_buffers.specs.Buffers.{option_items}
use Rattle.strm_buffers.specs.Said.{IfAnswered}
use Rattle.strm_buffers.specs.Tells.{RisesOnFailed}
use Rattle.strm_host.specs.Producing.{polled}
use Rattle.strm_host_tests.specs.Countdowns.{given_at, turn_at, poll_at}

pub few_given : (n : ℕ) → length (option_items (given_at n)) < 4294967295
few_given zero = omega arith
few_given (suc n) = omega arith

pub never_failed : (n : ℕ) → IfAnswered (turn_at n) (λ answer. RisesOnFailed answer 0 0)
never_failed zero = omega arith
never_failed (suc n) = omega arith

pub as_planned : (n : ℕ) → IfAnswered (turn_at n) (λ answer. poll_at n ≡ polled (λ x. pos x ∷ []) [] (option_items (given_at n)) answer)
as_planned zero = refl
as_planned (suc n) = refl
