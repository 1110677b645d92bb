use Rattle.herm_model.proofs.WellMadeValues.{typed-well_made, well_made-rename}
use Rattle.herm_model.proofs.untyped_texts.typed_values_are_well_made.Goals as goal

pub returns-clause-values : goal.returns-clause-values
returns-clause-values c = λ d table t v h. typed-well_made table d t v h

pub returns-clause-cells : goal.returns-clause-cells
returns-clause-cells c = λ d table t v h. typed-well_made table d t v h

pub returns-clause-names : goal.returns-clause-names
returns-clause-names c = λ v. well_made-rename (λ n. tt) v
