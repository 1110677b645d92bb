-- A statement with blocks, from the lists that the code has.
use Rattle.std.proofs.Common.{◌≡◌, List, ◌++◌, Bool, Option, sym, ap, ◌∙◌}
use Rattle.herm_base.specs.declared.word.Span.{Span}
use Rattle.herm_model.specs.Statements as model
use Rattle.herm_syntax.specs.Trees.{Statement}
use Rattle.herm_syntax.specs.View.{stmt_form_view}
use Rattle.herm_syntax.specs.declared.statements.StmtForm.{StmtForm}
use Rattle.herm_naming.specs.Numbers.{Scope}
use Rattle.herm_naming.specs.Meaning.{statement_number}
use Rattle.herm_naming.specs.StatementFaults.{Code, within}
use Rattle.herm_numbers.specs.Faults.{spans_within}
use Rattle.herm_numbers.specs.Statements.{codes_of}

pub number_by : (s : Scope) (form made : StmtForm) (tree : Statement) (x : model.Statement) → form ≡ made → stmt_form_view made ≡ tree → x ≡ statement_number s tree → x ≡ statement_number s (stmt_form_view form)
number_by s form made tree x e f h = h ∙ sym (ap (λ y. statement_number s (stmt_form_view y)) e ∙ ap (statement_number s) f)

pub codes_by : (s : Scope) (l : Bool) (form made : StmtForm) (codes new old : List (Option Code)) → form ≡ made → codes_of s (within l (stmt_form_view made)) ≡ codes → new ≡ old ++ codes → new ≡ old ++ codes_of s (within l (stmt_form_view form))
codes_by s l form made codes new old e f h = h ∙ ap (λ xs. old ++ xs) (sym (ap (λ y. codes_of s (within l (stmt_form_view y))) e ∙ f))

pub spans_by : (form made : StmtForm) (spans new old : List Span) → form ≡ made → spans_within made ≡ spans → new ≡ old ++ spans → new ≡ old ++ spans_within form
spans_by form made spans new old e f h = h ∙ ap (λ xs. old ++ xs) (sym (ap spans_within e ∙ f))
