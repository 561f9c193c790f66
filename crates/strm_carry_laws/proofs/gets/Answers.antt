use Rattle.std.proofs.Common.{◌≡◌, ◌+◌, ◌-◌, ◌≤◌, true, length, min, take, drop, arith, length-drop, ◌∙◌}
use Rattle.std.proofs.lemmas.List.{length-take-le}
use Rattle.strm_carry_laws.specs.OneStream.{carried_type}
use Rattle.strm_carry_laws.specs.Serving.{rests, serving}
use Rattle.strm_machine.specs.declared.steps.Step.TheVariants as steps
use Rattle.strm_codes.specs.Layout.{byte_type}
use Rattle.strm_carry_laws.proofs.GotLemmas.{decoded-bytes, decoded-none, got_by}
use Rattle.strm_machine.specs.Reactions.{reaction, performs}
use Rattle.strm_machine.specs.Refusals.{refusal}
use Rattle.strm_machine.specs.Making.{with_stream}
use Rattle.strm_carry_laws.proofs.gets.Goals as goal

pub returns : goal.returns
unfolding reaction performs refusal with_stream
returns c = record {
  read = λ m0 m1 n a i j r met t h g u p q x y.
      let within : min r j ≤ length (drop a m0) = omega (arith, length-drop a m0) in
      let long : length (take (min r j) (drop a m0)) ≡ min r j = length-take-le (min r j) (drop a m0) within in
      let rise : n + min r j - n ≡ length (take (min r j) (drop a m0)) = omega (arith, long) in
      got_by (serving m0 m1 n a j i met) (steps.Read 1 carried_type 1 0 r) _ (c.serves.ensures m0 m1 n a i j r met t h g u p q x y)
      ∙ decoded-bytes (take (min r j) (drop a m0)) (drop (min r j) m1) (n + min r j - n) rise;
  poke = λ m0 m1 p n h o l. got_by (rests m0 m1 n) (steps.Poke 0 0 p) _ (c.pokes.ensures m0 m1 p n h o l) ∙ decoded-none byte_type _ (n - n) (omega arith);
  write = λ m0 m1 n k h p l. got_by (rests m0 m1 n) (steps.Write 0 carried_type 1 0 k) _ (c.opens.ensures m0 m1 n k h p l) ∙ decoded-none byte_type _ (n - n) (omega arith);
  dump = λ m0 m1 n a j i k met h o l. got_by (serving m0 m1 n a j i met) (steps.Dump 1 0 k) _ (c.dumps.ensures m0 m1 n a j i k met h o l) ∙ decoded-none byte_type _ (n - n) (omega arith);
  event = λ m0 m1 n a i. got_by (serving m0 m1 n a 0 i true) (steps.Event 0 1) _ (c.tells.ensures m0 m1 n a i) ∙ decoded-none byte_type _ (n - n) (omega arith);
}
