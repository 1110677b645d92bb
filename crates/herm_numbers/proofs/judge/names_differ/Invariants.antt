use Rattle.std.proofs.Common.{◌≡◌, map, drop, length, ℕ}
use Rattle.std.specs.Str.{bytes_eq}
use Rattle.herm_model.specs.Lists.{all_pass, any_pass}
use Rattle.herm_model.specs.tests.TableTests.{are_different}
use Rattle.herm_syntax.specs.View.{name_view, path_form_view, atom_view}
use Rattle.herm_naming.specs.StatementFaults.{part_ways, same_path, set_arguments, all_part_ways}
use Rattle.herm_types.specs.View.{param_view}
use Rattle.herm_numbers.proofs.judge.names_differ.Given as goal

-- What is so of those that are left is so of all.
abbrev pub invariant-arms : goal.invariant-arms
invariant-arms l = are_different bytes_eq (map (λ a. name_view a.0) l.rest) ≡ are_different bytes_eq (map (λ a. name_view a.0) l.arms)

abbrev pub decreases-arms : goal.decreases-arms
decreases-arms l = length l.rest
