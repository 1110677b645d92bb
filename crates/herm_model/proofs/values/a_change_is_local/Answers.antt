use Rattle.std.proofs.Common.{◌∷◌}
use Rattle.herm_model.proofs.Places.{cell_at-set_same, cell_at-set_below, cell_at-set_above, cell_at-set_apart, read_at-change_at}
use Rattle.herm_model.proofs.NamesWeigh.{weigh-change_at}
use Rattle.herm_model.proofs.values.a_change_is_local.Goals as goal

pub returns-clause-at : goal.returns-clause-at
returns-clause-at c = λ p o ps. record { same = cell_at-set_same p o ps; below = λ j r h. cell_at-set_below p j r o ps h; apart = λ q h. cell_at-set_apart p q o ps h }

pub returns-clause-above : goal.returns-clause-above
returns-clause-above c = λ i q j r o ps. cell_at-set_above i q j r o ps

pub returns-clause-through : goal.returns-clause-through
returns-clause-through c = λ j p f ps. record { read = read_at-change_at (j ∷ p) f ps; names = λ w a b e. weigh-change_at w f a b j p ps e }
