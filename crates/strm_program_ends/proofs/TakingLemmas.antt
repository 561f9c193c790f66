-- How often a scripted reader failed.
use Rattle.std.proofs.Common.{◌≡◌, ◌+◌, List, [], ◌∷◌, ◌++◌, arith}
use Rattle.strm_buffers.specs.declared.answers.ReaderSaid.{ReaderSaid}
use Rattle.strm_buffers.specs.Tells.{RisesOnFailed}
use Rattle.strm_program_ends.specs.Scripts.{faults_of_answer}
use Rattle.strm_program_ends.specs.Takings.{reader_faults}
use Rattle.strm_program_ends.proofs.ScriptLemmas.{more_faults}

reader_faults-more : (saids : List ReaderSaid) (said : ReaderSaid) → reader_faults (saids ++ said ∷ []) ≡ reader_faults saids + faults_of_answer said.answer
reader_faults-more [] said = omega arith
reader_faults-more (x ∷ saids) said = omega (arith, reader_faults-more saids said)

-- one record more is a fault where it failed
pub reader_rises : (saids new : List ReaderSaid) (said : ReaderSaid) → new ≡ saids ++ said ∷ [] → RisesOnFailed said.answer (reader_faults saids) (reader_faults new)
reader_rises saids new said e = rw (e, reader_faults-more saids said) (more_faults said.answer (reader_faults saids))
