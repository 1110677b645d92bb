use Rattle.std.proofs.Common.{◌≡◌, ◌++◌, ◌∷◌, map, drop, take}
use Rattle.herm_syntax.specs.View.{name_view, module_view}
use Rattle.herm_naming.specs.Numbers.{type_number}
use Rattle.herm_naming.specs.Meaning.{ProcessText, processes_in}
use Rattle.herm_numbers.proofs.known.port_types.Given as goal

-- What is found so far, with what is left, is all.
abbrev pub invariant-modules : goal.invariant-modules
invariant-modules l = map (λ t. t.0) l.found.items ++ map (λ (q : ProcessText). type_number l.types q.port.1) (processes_in (map module_view (drop l.module-index l.modules))) ≡ map (λ (q : ProcessText). type_number l.types q.port.1) (processes_in (map module_view l.modules))
