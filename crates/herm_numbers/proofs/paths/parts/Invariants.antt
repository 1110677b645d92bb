use Rattle.std.proofs.Common.{◌≡◌, ◌++◌, map, drop}
use Rattle.herm_model.specs.Types.{type_below}
use Rattle.herm_syntax.specs.View.{name_view}
use Rattle.herm_naming.specs.Numbers.{part_numbers}
use Rattle.herm_numbers.specs.View.{kind}
use Rattle.herm_numbers.proofs.paths.parts.Given as goal

-- What was found, and then what is left from here, is the whole.
abbrev pub invariant-names : goal.invariant-names
invariant-names l = record {
  numbers : l.found.items ++ part_numbers l.scope.types.now (kind l.at) (map name_view (drop l.name-index l.names)) ≡ part_numbers l.scope.types.now (kind l.initial.at) (map name_view l.names);
  of : type_below l.scope.types.now.shapes (kind l.at) (part_numbers l.scope.types.now (kind l.at) (map name_view (drop l.name-index l.names))) ≡ type_below l.scope.types.now.shapes (kind l.initial.at) (part_numbers l.scope.types.now (kind l.initial.at) (map name_view l.names));
}
