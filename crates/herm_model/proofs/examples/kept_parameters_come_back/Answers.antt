use Rattle.std.proofs.Common.{refl, [], ◌∷◌}
use Rattle.herm_model.specs.examples.RefusedProcesses.{busy, calls, denies, discard_w, keeps_nothing, keeps_w, missing_after_call, missing_at_return, on_busy, with_ask}
use Rattle.herm_model.proofs.ExampleRefusals.{computed}
use Rattle.herm_model.proofs.examples.kept_parameters_come_back.Goals as goal

pub returns : goal.returns
returns c = record {
  kept = computed (with_ask keeps_w) (calls on_busy) [] refl;
  lost = computed (with_ask keeps_nothing) (calls on_busy) (missing_after_call busy) refl;
  given = computed (with_ask keeps_w) (denies []) [] refl;
  not_given = computed (with_ask keeps_w) (denies (discard_w ∷ [])) missing_at_return refl;
}
