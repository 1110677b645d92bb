-- A statement by number, with what the code keeps beside its meaning.
use Rattle.std.specs.Prelude.{ℕ, List, ◌∷◌, map}
use Rattle.herm_base.specs.declared.numbers.StmtNo.{StmtNo}
use Rattle.herm_base.specs.declared.word.Span.{Span}
use Rattle.herm_model.specs.Statements as model
use Rattle.herm_syntax.specs.View.{stmt_form_view}
use Rattle.herm_syntax.specs.declared.statements.Stmt.{Stmt}
use Rattle.herm_naming.specs.Numbers.{Scope}
use Rattle.herm_naming.specs.Meaning.{statement_number}
use Rattle.herm_typed.specs.View.{typed_form_view}
use Rattle.herm_typed.specs.declared.statements.TypedStmt.{TypedStmt}
use Rattle.herm_typed.specs.Within.{statements_within}
use Rattle.herm_numbers.specs.Within.{written_within}
use Rattle.herm_typed.specs.Beside.{types_beside}
use Rattle.herm_numbers.specs.Beside.{types_seen}

-- its number, its place, what it means, and the types of its paths
abbrev pub Entry : Type 0
Entry = StmtNo × (Span × (model.Statement × List ℕ))

abbrev pub typed_entry : TypedStmt → Entry
typed_entry t = (t.no, (t.span, (typed_form_view t.form, types_beside t.form)))

abbrev pub written_entry : Scope → Stmt → Entry
written_entry s x = (x.no, (x.span, (statement_number s (stmt_form_view x.form), types_seen s (statement_number s (stmt_form_view x.form)))))

-- those of a statement and of the statements within it
abbrev pub typed_entries : TypedStmt → List Entry
typed_entries t = typed_entry t ∷ map typed_entry (statements_within t.form)

abbrev pub written_entries : Scope → Stmt → List Entry
written_entries s x = written_entry s x ∷ map (written_entry s) (written_within x.form)
