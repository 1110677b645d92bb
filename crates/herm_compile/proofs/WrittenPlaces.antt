-- The places of the statements of a body as they are written are those at which its refusals stand.
use Rattle.std.proofs.Common.{◌≡◌, List, [], ◌∷◌, ◌++◌, map, refl, ap, ap₂, ◌∙◌}
use Rattle.std.proofs.lemmas.List.{map-append}
use Rattle.herm_base.specs.declared.word.Span.{Span}
use Rattle.herm_syntax.specs.declared.statements.Stmt.{Stmt}
use Rattle.herm_syntax.specs.declared.statements.StmtForm.{StmtForm}
use Rattle.herm_syntax.specs.declared.statements.StmtForm.TheBlock as forms
use Rattle.herm_numbers.specs.Faults.{spans_within, spans_in, arms_spans, port_arms_spans, otherwise_spans, body_spans}
use Rattle.herm_numbers.specs.Within.{written_within, written_in, written_in_arms, written_in_port_arms, written_otherwise, all_written}

abbrev span_of : Stmt → Span
span_of x = x.span

appended : (xs ys : List Stmt) (ss ts : List Span) → map span_of xs ≡ ss → map span_of ys ≡ ts → map span_of (xs ++ ys) ≡ ss ++ ts
appended xs ys ss ts e d = map-append span_of xs ys ∙ ap₂ (λ l m. l ++ m) e d

mutual
  within_placed : (form : StmtForm) → map span_of (written_within form) ≡ spans_within form
  within_placed (forms.Assign x e) = refl
  within_placed (forms.Move y x) = refl
  within_placed (forms.New x) = refl
  within_placed (forms.Discard x) = refl
  within_placed (forms.Unite v y) = refl
  within_placed (forms.Dissolve v y) = refl
  within_placed (forms.Reveal v) = refl
  within_placed (forms.Case' v shape arms) = arms_placed arms
  within_placed (forms.Wrap y p) = refl
  within_placed (forms.Unwrap p name y) = refl
  within_placed (forms.Insert r t) = refl
  within_placed (forms.Remove r t keys) = refl
  within_placed (forms.Get r t keys) = refl
  within_placed (forms.For' r t shape body) = rows_placed body
  within_placed (forms.Connect o i) = refl
  within_placed (forms.Send x o) = refl
  within_placed (forms.Receive x i) = refl
  within_placed (forms.Select' shape arms) = port_arms_placed arms
  within_placed (forms.Call o arguments) = refl
  within_placed (forms.Return m) = refl
  within_placed (forms.ReturnBy m name) = refl
  within_placed (forms.Create o name) = refl
  within_placed (forms.If' e shape body other) = appended (written_in body) (written_otherwise other) _ _ (rows_placed body) (otherwise_placed other)
  within_placed (forms.While' e shape body) = rows_placed body
  within_placed (forms.Raise name) = refl
  within_placed forms.Leave = refl
  within_placed (forms.Try' shape body shape_of_handlers handled) = appended (written_in body) (written_in_arms handled) _ _ (rows_placed body) (arms_placed handled)

  rows_placed : {m : _} (rows : forms.Row_of-Stmt m) → map span_of (written_in rows) ≡ spans_in rows
  rows_placed forms.end_of-Stmt = refl
  rows_placed (forms.more_of-Stmt number span form rest) = ap (span ∷◌) (appended (written_within form) (written_in rest) _ _ (within_placed form) (rows_placed rest))

  arms_placed : {m : _} (arms : forms.Row_of-StmtForm-Case-1-3 m) → map span_of (written_in_arms arms) ≡ arms_spans arms
  arms_placed forms.end_of-StmtForm-Case-1-3 = refl
  arms_placed (forms.more_of-StmtForm-Case-1-3 name shape body rest) = appended (written_in body) (written_in_arms rest) _ _ (rows_placed body) (arms_placed rest)

  port_arms_placed : {m : _} (arms : forms.Row_of-StmtForm-Select-0-4 m) → map span_of (written_in_port_arms arms) ≡ port_arms_spans arms
  port_arms_placed forms.end_of-StmtForm-Select-0-4 = refl
  port_arms_placed (forms.more_of-StmtForm-Select-0-4 port target shape body rest) = appended (written_in body) (written_in_port_arms rest) _ _ (rows_placed body) (port_arms_placed rest)

  otherwise_placed : (other : forms.Held-StmtForm-If-2) → map span_of (written_otherwise other) ≡ otherwise_spans other
  otherwise_placed forms.None' = refl
  otherwise_placed (forms.Some' shape body) = rows_placed body

pub body_placed : (list : List Stmt) → map span_of (all_written list) ≡ body_spans list
body_placed [] = refl
body_placed (x ∷ rest) = ap (x.span ∷◌) (appended (written_within x.form) (all_written rest) _ _ (within_placed x.form) (body_placed rest))
