use Rattle.std.proofs.Common.{◌≡◌, map, drop, slice_get}
use Rattle.herm_model.specs.Lists.{all_pass, list_of}
use Rattle.herm_model.specs.Expressions.{paths_among}
use Rattle.herm_model.specs.Calls.{arguments_by}
use Rattle.herm_naming.specs.Fits.{is_fit_atom, are_arguments, are_keys, field_types, is_in_mode}
use Rattle.herm_naming.specs.UnknownNames.{is_there, is_literal_there, literals_among}
use Rattle.herm_naming.specs.Copies.{may_copy_each}
use Rattle.herm_types.specs.View.{param_view}
use Rattle.herm_typed.specs.View.{typed_atom_view}
use Rattle.herm_judge.specs.View.{table_of, variables_of}
use Rattle.herm_judge.proofs.atoms.are_paths_there.Given as goal

-- What is so of those that are left is so of all.
abbrev pub invariant-atoms : goal.invariant-atoms
invariant-atoms l = all_pass (is_there (table_of l.frame) (variables_of l.frame)) (paths_among (map typed_atom_view (drop l.a-index l.list))) ≡ all_pass (is_there (table_of l.frame) (variables_of l.frame)) (paths_among (map typed_atom_view l.list))
