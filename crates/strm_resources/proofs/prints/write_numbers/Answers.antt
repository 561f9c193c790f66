use Rattle.std.proofs.Common.{◌≡◌, List, ℕ, ◌∷◌, ◌++◌, Bool, cond, ap, ◌∙◌, sym, append_assoc, rules}
use Rattle.std.proofs.Output.{has_written_append}
use Rattle.std.specs.Prelude.{codes, decimal}
use Rattle.strm_resources.specs.Text.{items_text, more_text}
use Rattle.strm_resources.proofs.prints.write_numbers.Goals as goal

module _ (done all keys rest : List ℕ) (number : ℕ) (first : Bool) (text : List ℕ) where
  -- the text so far, the number's text, and the text of the rest
  joined : keys ≡ number ∷ rest → cond first (items_text (number ∷ rest)) (more_text (number ∷ rest)) ≡ text ++ more_text rest → done ++ cond first (items_text keys) (more_text keys) ≡ all → (done ++ text) ++ more_text rest ≡ all
  joined steps here so_far =
      append_assoc done text (more_text rest) ∙ ap (λ t. done ++ t) (sym here) ∙ ap (λ ns. done ++ cond first (items_text ns) (more_text ns)) (sym steps) ∙ so_far

pub loop-number-preserved-in_ok-write : goal.loop-number-preserved-in_ok-write
loop-number-preserved-in_ok-write g c = λ plain.
    let so_far = c.loop-number.invariant plain in
    let number = c.in-Some.number in (
      so_far.0 ++ decimal number,
      has_written_append _ _ _ _ _ _ so_far.1 (search rules),
      joined so_far.0 _ c.loop-number.keys c.next.new.self number c.loop-number.first (decimal number) c.in-Some.ensures.steps (ap (λ b. cond b (items_text (number ∷ c.next.new.self)) (more_text (number ∷ c.next.new.self))) c.if-first.true) so_far.2,
    )

pub loop-number-preserved : goal.loop-number-preserved
loop-number-preserved g c = λ plain.
    let so_far = c.loop-number.invariant plain in
    let number = c.in-Some.number in (
      so_far.0 ++ (codes ", " ++ decimal number),
      has_written_append _ _ _ _ _ _ so_far.1 (search rules),
      joined so_far.0 _ c.loop-number.keys c.next.new.self number c.loop-number.first (codes ", " ++ decimal number) c.in-Some.ensures.steps (ap (λ b. cond b (items_text (number ∷ c.next.new.self)) (more_text (number ∷ c.next.new.self))) c.if-first.false) so_far.2,
    )
