use Rattle.std.proofs.Common.{◌≡◌, ◌++◌, ◌∷◌, map, drop, take}
use Rattle.herm_syntax.specs.View.{name_view, module_view}
use Rattle.herm_naming.specs.Numbers.{type_number}
use Rattle.herm_naming.specs.Meaning.{ProcessText, processes_in}
use Rattle.herm_numbers.proofs.known.declared_types.Given as goal

-- What is found so far, with what is left, is all.
abbrev pub invariant-vars : goal.invariant-vars
invariant-vars l = map (λ t. t.0) l.found.items ≡ type_number l.types (name_view l.port.of) ∷ map (λ d. type_number l.types (name_view d.of)) (take l.d-index l.vars)
