use Rattle.std.proofs.Common.{refl, []}
use Rattle.herm_model.specs.examples.RefusedProcesses.{inserted_twice, missing_after_insert, used_after_insert, with_rows}
use Rattle.herm_model.proofs.ExampleRefusals.{computed}
use Rattle.herm_model.proofs.examples.inserts_take_rows.Goals as goal

pub returns : goal.returns
returns c = record {
  kept = computed with_rows inserted_twice [] refl;
  taken = computed with_rows used_after_insert missing_after_insert refl;
}
