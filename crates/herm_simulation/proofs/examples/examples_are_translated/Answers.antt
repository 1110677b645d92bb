use Rattle.std.proofs.Common.{[], ◌∷◌, refl}
use Rattle.herm_model.specs.Paths.{init}
use Rattle.herm_model.specs.Types.{fields, inport, outport, cases}
use Rattle.herm_source.specs.examples.CallPrograms.{kept_parameter}
use Rattle.herm_source.specs.examples.CheckedExamples.{nested_loops}
use Rattle.herm_source.specs.examples.Programs.{empty_body, refused_insert, row_types, two_senders, waiting_select}
use Rattle.herm_checked.specs.examples.RunningPrograms.{raises_alone, ring_of_three}
use Rattle.herm_checked.proofs.ReadyPrograms.{ready-checked}
use Rattle.herm_checked.proofs.RunningPrograms.{ring-ready, senders-ready, kept-ready, raises-ready}
use Rattle.herm_translated.specs.examples.LeavingPrograms.{raised_out_of_loops, opened_again, arms_turned, sends_part}
use Rattle.herm_simulation.proofs.RightByRounds.{translated-by_test}
use Rattle.herm_simulation.proofs.examples.examples_are_translated.Goals as goal

pub returns : goal.returns
returns c = record {
  ring = translated-by_test 7 ring_of_three ring-ready refl;
  senders = translated-by_test 7 (two_senders 3) senders-ready refl;
  kept = translated-by_test 8 kept_parameter kept-ready refl;
  nested = translated-by_test 7 nested_loops (ready-checked 7 row_types nested_loops.processes 0 refl (refl, refl, tt)) refl;
  tried = translated-by_test 7 refused_insert (ready-checked 7 row_types refused_insert.processes 0 refl (refl, refl, tt)) refl;
  select = translated-by_test 7 waiting_select (ready-checked 7 (inport 1 [] ∷ []) waiting_select.processes 0 refl (refl, refl, tt)) refl;
  raises = translated-by_test 7 raises_alone raises-ready refl;
  left = translated-by_test 7 raised_out_of_loops (ready-checked 7 row_types raised_out_of_loops.processes 0 refl (refl, refl, tt)) refl;
  opened = translated-by_test 7 opened_again (ready-checked 7 [] opened_again.processes 0 refl (refl, refl, tt)) refl;
  empty = translated-by_test 7 empty_body (ready-checked 7 [] empty_body.processes 0 refl (refl, refl, tt)) refl;
  arms = translated-by_test 7 arms_turned (ready-checked 7 (cases (1 ∷ 2 ∷ []) ∷ []) arms_turned.processes 0 refl (refl, refl, tt)) refl;
  part = translated-by_test 7 sends_part (ready-checked 7 (fields (1 ∷ 1 ∷ []) ∷ inport 8 (init (0 ∷ 0 ∷ []) ∷ []) ∷ outport 9 ∷ []) sends_part.processes 0 refl (refl, refl, tt)) refl;
}
