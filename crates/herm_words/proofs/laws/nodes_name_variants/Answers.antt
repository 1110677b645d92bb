use Rattle.herm_words.proofs.NumbersWithin.{variants-named}
use Rattle.herm_words.proofs.laws.nodes_name_variants.Goals as goal

pub returns : goal.returns
returns c = variants-named
