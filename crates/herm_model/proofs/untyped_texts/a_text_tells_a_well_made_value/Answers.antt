use Rattle.herm_model.proofs.UntypedSpelling.{value-split, lists-split}
use Rattle.herm_model.proofs.untyped_texts.a_text_tells_a_well_made_value.Goals as goal

pub returns-clause-values : goal.returns-clause-values
returns-clause-values c = λ a b r s h g x y e. value-split a b r s h g x y e

pub returns-clause-lists : goal.returns-clause-lists
returns-clause-lists c = λ xs ys h g e. lists-split xs ys h g e
