use Rattle.herm_model.proofs.Spelling.{text-split}
use Rattle.herm_model.proofs.texts.a_text_tells_its_value.Goals as goal

pub returns : goal.returns
returns c = record { values = λ d table t a b r s h g x y e. text-split table a d t b r s h g x y e }
