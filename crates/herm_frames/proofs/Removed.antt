-- What moves away from a path.
use Rattle.std.proofs.Common.{◌≡◌, List, Option, Some, None, option_map, sym, ap, ◌∙◌}
use Rattle.std.specs.Prelude.{⊤}
use Rattle.herm_model.specs.Paths.{Path}
use Rattle.herm_model.specs.Values as model
use Rattle.herm_model.specs.Values.{cell_at}
use Rattle.herm_forms.specs.Forms.{moving}
use Rattle.herm_forms.specs.Frames.{Frame, Completion, stuck, if_there, cleared, drop}
use Rattle.herm_values.specs.View.{value_view}
use Rattle.herm_values.specs.declared.value.Value.{Value}

module _ (lost : List Path) (y : Path) (next : model.Value → Frame ⊤ → Completion ⊤) (s : Frame ⊤) (o : Option Value) (at : option_map value_view o ≡ cell_at y (drop lost s).variables) where
  pub moved-none : o ≡ None → moving lost y next s ≡ stuck
  moved-none is = ap (if_there (λ c. next c (cleared y (drop lost s)))) (sym at ∙ ap (option_map value_view) is)

  pub moved-some : (v : Value) → o ≡ Some v → moving lost y next s ≡ next (value_view v) (cleared y (drop lost s))
  moved-some v is = ap (if_there (λ c. next c (cleared y (drop lost s)))) (sym at ∙ ap (option_map value_view) is)
