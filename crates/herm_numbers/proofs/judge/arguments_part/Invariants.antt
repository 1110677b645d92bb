use Rattle.std.proofs.Common.{◌≡◌, map, drop, length, ℕ}
use Rattle.std.specs.Str.{bytes_eq}
use Rattle.herm_model.specs.Lists.{all_pass, any_pass}
use Rattle.herm_model.specs.tests.TableTests.{are_different}
use Rattle.herm_syntax.specs.View.{name_view, path_form_view, atom_view}
use Rattle.herm_naming.specs.StatementFaults.{part_ways, same_path, set_arguments, all_part_ways}
use Rattle.herm_types.specs.View.{param_view}
use Rattle.herm_numbers.proofs.judge.arguments_part.Given as goal

-- What is so of those that are left is so of all.
abbrev pub invariant-arguments : goal.invariant-arguments
invariant-arguments l = all_part_ways (set_arguments (map param_view l.rest) (map atom_view l.left)) ≡ all_part_ways (set_arguments (map param_view l.params) (map atom_view l.arguments))

abbrev pub decreases-arguments : goal.decreases-arguments
decreases-arguments l = length l.left
