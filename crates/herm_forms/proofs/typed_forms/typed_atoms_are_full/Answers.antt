use Rattle.herm_forms.proofs.typed.TypedAtoms.{typed-atoms}
use Rattle.herm_forms.proofs.typed_forms.typed_atoms_are_full.Goals as goal

pub returns : goal.returns
returns c = record { atoms = typed-atoms }
