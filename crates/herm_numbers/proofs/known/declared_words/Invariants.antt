use Rattle.std.proofs.Common.{◌≡◌, ◌++◌, ◌∷◌, map, drop, take}
use Rattle.herm_syntax.specs.View.{name_view, module_view}
use Rattle.herm_naming.specs.Numbers.{type_number}
use Rattle.herm_naming.specs.Meaning.{ProcessText, processes_in}
use Rattle.herm_numbers.proofs.known.declared_words.Given as goal

-- What is found so far, with what is left, is all.
abbrev pub invariant-vars : goal.invariant-vars
invariant-vars l = l.found.items ≡ name_view l.port.name ∷ map (λ d. name_view d.name) (take l.d-index l.vars)
