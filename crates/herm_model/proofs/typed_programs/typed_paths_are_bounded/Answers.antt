use Rattle.herm_model.proofs.BoundedPaths.{paths-bounded}
use Rattle.herm_model.proofs.typed_programs.typed_paths_are_bounded.Goals as goal

pub returns : goal.returns
returns c = paths-bounded
