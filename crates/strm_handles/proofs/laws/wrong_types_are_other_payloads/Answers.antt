use Rattle.strm_handles.proofs.LookupLemmas.{end_typed-wrong}
use Rattle.strm_handles.proofs.laws.wrong_types_are_other_payloads.Goals as goal

pub returns : goal.returns
returns c = record {
  stream = λ h ty n end is. rw is (end_typed-wrong ty end);
  future = λ h ty n end is. rw is (end_typed-wrong ty end);
}
