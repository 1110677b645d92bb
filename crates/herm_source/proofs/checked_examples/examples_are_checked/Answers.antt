use Rattle.std.proofs.Common.{[], ◌∷◌, refl}
use Rattle.herm_model.specs.Types.{fields, inport, outport}
use Rattle.herm_source.specs.examples.CallPrograms.{busy, ask_types, kept_parameter}
use Rattle.herm_source.specs.examples.Programs.{row_types, two_senders}
use Rattle.herm_source.specs.examples.ComponentPrograms.{apart_types, taken_apart}
use Rattle.herm_source.specs.examples.CheckedExamples.{nested_loops}
use Rattle.herm_source.proofs.sound.CheckedPrograms.{checked-by}
use Rattle.herm_source.proofs.checked_examples.examples_are_checked.Goals as goal

pub returns : goal.returns
returns c = record {
  senders = checked-by 7 (fields (1 ∷ 1 ∷ []) ∷ inport 8 [] ∷ outport 9 ∷ fields (1 ∷ 10 ∷ []) ∷ inport 11 [] ∷ outport 12 ∷ []) (two_senders 3).processes 1 refl (refl, (refl, tt));
  calls = checked-by 8 (ask_types (record { exception = busy; kept = 1 ∷ [] } ∷ [])) kept_parameter.processes 1 refl (refl, (refl, tt));
  loops = checked-by 7 row_types nested_loops.processes nested_loops.main refl (refl, tt);
  apart = checked-by 7 apart_types taken_apart.processes taken_apart.main refl (refl, tt);
}
