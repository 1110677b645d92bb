use Rattle.herm_words.proofs.Variants.{components-named}
use Rattle.herm_words.proofs.laws.hops_name_components_of_variants.Goals as goal

pub returns : goal.returns
returns c = components-named
