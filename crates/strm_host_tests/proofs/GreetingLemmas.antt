-- A greeting does what every producer owes.
use Rattle.std.proofs.Common.{◌≡◌, ℕ, ◌+◌, ◌≤◌, inl, inr, List, [], ◌∷◌, ◌++◌, length, take, min, pos, refl, sym, ap, subst, arith, length-append}
use Rattle.std.proofs.lemmas.List.{take_at, drop_at, length-take, length-map}
use Rattle.strm_codes.specs.Layout.{item_type}
use Rattle.strm_codes.specs.declared.codes.StreamResult.{StreamResult}
use Rattle.strm_codes.specs.declared.codes.StreamResult.TheVariants as result
use Rattle.strm_buffers.specs.declared.answers.Turn.{Turn}
use Rattle.strm_buffers.specs.declared.answers.Turn.TheVariants.{Pending, Ready, Failed, NoMemory}
use Rattle.strm_memory.specs.Items.{byte_items}
use Rattle.strm_buffers.specs.Windows.{Lent, stored_in, with_direct}
use Rattle.strm_buffers.specs.Said.{IfAnswered}
use Rattle.strm_buffers.specs.Tells.{Fills, RisesOnFailed}
use Rattle.strm_buffers.proofs.EndLemmas.{Fills-same}
use Rattle.strm_host.specs.Producing.{with_written}
use Rattle.strm_host_tests.specs.Greetings.{Greets, NeverFails}

written_fills : (w : Lent) (capacity : ℕ) (bytes : List ℕ) → Fills w (with_written (with_direct w capacity) bytes)
written_fills w capacity bytes =
    let items = byte_items bytes in
    record {
      payload = refl;
      place = ap (stored_in (item_type w.payload) w.place (length w.marked)) (sym (drop_at w.marked items (length w.marked) refl));
      marked = take_at w.marked items (length w.marked) refl;
      prepared = refl;
      base = refl;
    }

pub greets_fills : (old new : Lent) → Greets old new → Fills old new
greets_fills old new (inl e) = subst (Fills old) (sym e) (Fills-same old)
greets_fills old new (inr e) = subst (Fills old) (sym e) (written_fills old 2 (take (min (length (with_direct old 2).unmarked) 2) (7 ∷ 8 ∷ [])))

pub few_greeted : (old new : Lent) → Greets old new → old.marked ≡ [] → length new.marked ≤ 2
few_greeted old new (inl e) m = omega (arith, ap (λ (w : Lent). length w.marked) e, ap length m)
few_greeted old new (inr e) m =
    let k : ℕ = min (length (with_direct old 2).unmarked) 2 in
    let two : List ℕ = 7 ∷ 8 ∷ [] in
    let size : length (take k two) ≡ min k (length two) = length-take k two in
    let items : length (byte_items (take k two)) ≡ length (take k two) = length-map (take k two) (λ b. pos b ∷ []) in
    let all : length (old.marked ++ byte_items (take k two)) ≡ length old.marked + length (byte_items (take k two)) = length-append old.marked (byte_items (take k two)) in
    let none : length old.marked ≡ 0 = ap length m in
    let least : min k (length two) ≤ 2 = omega arith in
    let is : length new.marked ≡ length (old.marked ++ byte_items (take k two)) = ap (λ (w : Lent). length w.marked) e in
    omega (arith, is, all, none, size, items, least)

pub never_failed : (turn : Turn StreamResult) → NeverFails turn → IfAnswered turn (λ answer. RisesOnFailed answer 0 0)
never_failed Pending n = omega arith
never_failed (Ready result.Completed) n = omega arith
never_failed (Ready result.Cancelled) n = omega arith
never_failed (Ready result.Dropped) n = omega arith
never_failed Failed n = absurd (n refl)
never_failed NoMemory n = tt
