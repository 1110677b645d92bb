use Rattle.std.proofs.Common.{◌≡◌, map, drop, length, ℕ}
use Rattle.std.specs.Str.{bytes_eq}
use Rattle.herm_model.specs.Lists.{all_pass, any_pass}
use Rattle.herm_model.specs.tests.TableTests.{are_different}
use Rattle.herm_syntax.specs.View.{name_view, path_form_view, atom_view}
use Rattle.herm_naming.specs.StatementFaults.{part_ways, same_path, set_arguments, all_part_ways}
use Rattle.herm_types.specs.View.{param_view}
use Rattle.herm_numbers.proofs.judge.same_path.Given as goal

-- What is so of those that are left is so of all.
abbrev pub invariant-names : goal.invariant-names
invariant-names l = same_path (map name_view (drop l.name-index l.p)) (map name_view l.rest) ≡ same_path (map name_view l.p) (map name_view l.q)
