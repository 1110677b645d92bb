use Rattle.herm_code_worlds.proofs.CountsForgotten.{counts-without-names}
use Rattle.herm_code_worlds.proofs.images.code_counts_without_names.Goals as goal

pub returns : goal.returns
returns c = record { counts = counts-without-names }
