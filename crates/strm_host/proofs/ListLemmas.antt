-- A list that gives all its items, or fails, does what every producer of a stream owes.
use Rattle.std.proofs.Common.{◌≡◌, ◌<◌, ◌≤◌, List, [], length, arith}
use Rattle.std.proofs.lemmas.Grind.{common_steps}
use Rattle.strm_buffers.specs.Listing.{Item}
use Rattle.strm_buffers.specs.Said.{IfAnswered}
use Rattle.strm_buffers.specs.Tells.{RisesOnFailed}
use Rattle.strm_host.specs.Producing.{polled}
use Rattle.strm_host.specs.Lists.{list_faults, list_turn, list_gives, list_keeps, list_poll}

module _ {T : Type 0} (items : List T) where
  pub few_given : length (list_gives items) < 4294967295
  few_given = grind (arith, common_steps)

  pub failed_aloud : IfAnswered (list_turn items) (λ answer. RisesOnFailed answer (list_faults items) (list_faults (list_keeps items)))
  failed_aloud = grind (arith, common_steps)

  pub more_faults : list_faults items ≤ list_faults (list_keeps items)
  more_faults = grind (arith, common_steps)

  pub as_planned : (item : T → Item) → IfAnswered (list_turn items) (λ answer. list_poll item items ≡ polled item [] (list_gives items) answer)
  as_planned item = grind (arith, common_steps)
