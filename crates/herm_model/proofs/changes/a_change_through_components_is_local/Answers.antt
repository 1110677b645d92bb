use Rattle.std.proofs.Common.{◌∷◌}
use Rattle.herm_model.proofs.ChangesThrough.{cell_at-change_at, read-below_change, read-apart, cell-apart, tells-elsewhere, read-above_change}
use Rattle.herm_model.proofs.changes.a_change_through_components_is_local.Goals as goal

pub returns-clause-rest : goal.returns-clause-rest
returns-clause-rest c = λ j p f ps. record {
  cell = cell_at-change_at (j ∷ p) f ps;
  below = λ i r. read-below_change j p f ps i r;
  apart = λ q h. read-apart (j ∷ p) q f ps h;
  cells_apart = λ q h. cell-apart (j ∷ p) q f ps h;
  facts = λ g h. tells-elsewhere (j ∷ p) f ps g h;
}

pub returns-clause-above : goal.returns-clause-above
returns-clause-above c = λ i q j r f ps. read-above_change i q j r f ps
