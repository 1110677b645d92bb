-- What the processes of a program keep of the text beside their meaning: names, and the number and the place of each statement.
use Rattle.std.specs.Prelude.{List, [], ◌∷◌, map}
use Rattle.herm_base.specs.declared.numbers.StmtNo.{StmtNo}
use Rattle.herm_base.specs.declared.word.Name.{Name}
use Rattle.herm_base.specs.declared.word.Span.{Span}
use Rattle.herm_syntax.specs.declared.definitions.Field.{Field}
use Rattle.herm_syntax.specs.declared.modules.Module.{Module}
use Rattle.herm_syntax.specs.declared.modules.Module.TheVariants.{Definitions, Process}
use Rattle.herm_syntax.specs.declared.statements.Stmt.{Stmt}
use Rattle.herm_typed.specs.declared.statements.TypedProcess.{TypedProcess}
use Rattle.herm_typed.specs.Within.{all_statements}
use Rattle.herm_numbers.specs.Within.{all_written}

-- what each process of modules has, in order
abbrev pub of_processes : {X : Type 0} → (Name → Field → List Field → List Stmt → X) → List Module → List X
of_processes f [] = []
of_processes f (Definitions name items ∷ modules) = of_processes f modules
of_processes f (Process name port vars body ∷ modules) = f name port vars.items body.items ∷ of_processes f modules

-- the name of a process, and those of its variables, the port first
abbrev pub names_of : TypedProcess → Name × List Name
names_of p = (p.name, map (λ v. v.name) p.vars.items)

abbrev pub names_written : Name → Field → List Field → List Stmt → Name × List Name
names_written name port vars body = (name, port.name ∷ map (λ d. d.name) vars)

-- the number and the place of each statement, in the order of the text, compound ones before their parts
abbrev pub numbers_of : TypedProcess → List (StmtNo × Span)
numbers_of p = map (λ t. (t.no, t.span)) (all_statements p.body.items)

abbrev pub numbers_written : Name → Field → List Field → List Stmt → List (StmtNo × Span)
numbers_written name port vars body = map (λ x. (x.no, x.span)) (all_written body)
