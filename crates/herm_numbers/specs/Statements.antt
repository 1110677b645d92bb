-- Statements by number, list by list: what the typed trees mean, what the written ones mean, and the codes within them.
use Rattle.std.specs.Prelude.{ℕ, Bool, List, [], ◌∷◌, ◌++◌, map, flat_map, Option, Some, None, Vec}
use Rattle.std.specs.Global.{Global}
use Rattle.herm_base.specs.declared.numbers.ExcNo.{ExcNo}
use Rattle.herm_base.specs.declared.word.Name.{Name}
use Rattle.herm_base.specs.declared.word.Span.{Span}
use Rattle.herm_model.specs.Paths as paths
use Rattle.herm_model.specs.Statements as model
use Rattle.herm_syntax.specs.declared.expressions.PathForm.{PathForm}
use Rattle.herm_syntax.specs.declared.statements.Stmt.{Stmt}
use Rattle.herm_syntax.specs.View.{name_view, path_form_view, stmt_form_view, stmts_view}
use Rattle.herm_typed.specs.declared.expressions.TypedPath.{TypedPath}
use Rattle.herm_typed.specs.declared.statements.TypedStmt.{TypedStmt}
use Rattle.herm_typed.specs.View.{typed_path_view, typed_form_view}
use Rattle.herm_naming.specs.Numbers.{Scope, path_number}
use Rattle.herm_naming.specs.Meaning.{statement_number}
use Rattle.herm_naming.specs.StatementFaults.{Code, statement_code, within, in_body}
use Rattle.herm_syntax.specs.Trees.{Letters, Path, Statement, Statements, Otherwise, NoElse, Else}
use Rattle.herm_numbers.specs.Faults.{spans_within, body_spans}

-- arms and the block behind `else` as the grammar's
abbrev pub arm_view : Name × Vec Stmt Global → Letters × Statements
arm_view a = (name_view a.0, stmts_view a.1.items)

abbrev pub port_arm_view : PathForm × PathForm × Vec Stmt Global → Path × (Path × Statements)
port_arm_view a = (path_form_view a.0, (path_form_view a.1, stmts_view a.2.items))

abbrev pub else_view : Option (Vec Stmt Global) → Otherwise
else_view None = NoElse
else_view (Some body) = Else (stmts_view body.items)

-- the statements of a list, typed and written
abbrev pub meant : List TypedStmt → List model.Statement
meant ts = map (λ t. typed_form_view t.form) ts

abbrev pub written : Scope → List Stmt → List model.Statement
written s xs = map (λ x. statement_number s (stmt_form_view x.form)) xs

-- the arms of a `case` and the handlers of a `try`, where a number stands for each name
abbrev pub arms_meant : List (ℕ × Vec TypedStmt Global) → List (ℕ × List model.Statement)
arms_meant arms = map (λ a. (a.0, meant a.1.items)) arms

abbrev pub handlers_meant : List (ExcNo × Vec TypedStmt Global) → List (ℕ × List model.Statement)
handlers_meant arms = map (λ a. (a.0.0, meant a.1.items)) arms

abbrev pub arms_written : Scope → (Letters → ℕ) → List (Name × Vec Stmt Global) → List (ℕ × List model.Statement)
arms_written s number arms = map (λ a. (number (name_view a.0), written s a.1.items)) arms

-- the arms of a `select`
abbrev pub port_arms_meant : List (TypedPath × TypedPath × Vec TypedStmt Global) → List ((paths.Path × paths.Path) × List model.Statement)
port_arms_meant arms = map (λ a. ((typed_path_view a.0, typed_path_view a.1), meant a.2.items)) arms

abbrev pub port_arms_written : Scope → List (PathForm × PathForm × Vec Stmt Global) → List ((paths.Path × paths.Path) × List model.Statement)
port_arms_written s arms = map (λ a. ((path_number s (path_form_view a.0), path_number s (path_form_view a.1)), written s a.2.items)) arms

-- the block behind `else`
abbrev pub else_meant : Option (Vec TypedStmt Global) → List model.Statement
else_meant None = []
else_meant (Some body) = meant body.items

abbrev pub else_written : Scope → Option (Vec Stmt Global) → List model.Statement
else_written s None = []
else_written s (Some body) = written s body.items

-- the codes of statements, each with whether it stands in a loop
abbrev pub codes_of : Scope → List (Bool × Statement) → List (Option Code)
codes_of s xs = map (λ (x : Bool × Statement). statement_code s x.0 x.1) xs

-- the codes of the statements of a list, and within it
abbrev pub body_codes : Scope → Bool → List Stmt → List (Option Code)
body_codes s l [] = []
body_codes s l (x ∷ xs) = (statement_code s l (stmt_form_view x.form) ∷ codes_of s (within l (stmt_form_view x.form))) ++ body_codes s l xs

abbrev pub else_codes : Scope → Bool → Option (Vec Stmt Global) → List (Option Code)
else_codes s l None = []
else_codes s l (Some body) = body_codes s l body.items

abbrev pub else_spans : Option (Vec Stmt Global) → List Span
else_spans None = []
else_spans (Some body) = body_spans body.items

-- the codes and the places within the arms of a statement
abbrev pub arms_codes : {X : Type 0} → Scope → Bool → List (X × Vec Stmt Global) → List (Option Code)
arms_codes s l [] = []
arms_codes s l (a ∷ arms) = body_codes s l a.1.items ++ arms_codes s l arms

abbrev pub all_spans : {X : Type 0} → List (X × Vec Stmt Global) → List Span
all_spans [] = []
all_spans (a ∷ arms) = body_spans a.1.items ++ all_spans arms

abbrev pub port_arms_codes : Scope → Bool → List (PathForm × PathForm × Vec Stmt Global) → List (Option Code)
port_arms_codes s l [] = []
port_arms_codes s l (a ∷ arms) = body_codes s l a.2.items ++ port_arms_codes s l arms

abbrev pub all_port_spans : List (PathForm × PathForm × Vec Stmt Global) → List Span
all_port_spans [] = []
all_port_spans (a ∷ arms) = body_spans a.2.items ++ all_port_spans arms
