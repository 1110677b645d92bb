use Rattle.herm_model.proofs.Places.{names-copy_from, length-names_of}
use Rattle.std.proofs.Common.{◌∙◌}
use Rattle.herm_model.proofs.Renaming.{rename-copy_from, copy_from-constant}
use Rattle.herm_model.proofs.values.a_copy_has_fresh_names.Goals as goal

pub returns : goal.returns
returns c = record { copy = λ name s x. record { value = rename-copy_from name (λ n. tt) s x ∙ copy_from-constant tt s x; names = names-copy_from name s x; cells = length-names_of x } }
