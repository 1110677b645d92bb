use Rattle.std.proofs.Common.{◌≡◌, ◌++◌, map, drop}
use Rattle.herm_code.specs.View.{argument_view}
use Rattle.herm_code_machine.specs.CodeActions.{inouts}
use Rattle.herm_types.specs.View.{path_view}
use Rattle.herm_answers.proofs.paths.inout_paths.Given as goal

-- What was found, with those of what is left, is the whole.
abbrev pub invariant-loop-argument : goal.invariant-loop-argument
invariant-loop-argument l = map path_view l.found.items ++ inouts (map argument_view (drop l.argument-index l.arguments)) ≡ inouts (map argument_view l.arguments)
