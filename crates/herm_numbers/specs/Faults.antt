-- Codes, and places in the text.
use Rattle.std.specs.Prelude.{ℕ, List, [], ◌∷◌, ◌++◌, map, Option, option_map}
use Rattle.herm_base.specs.declared.word.Span.{Span}
use Rattle.herm_naming.specs.StatementFaults as naming
use Rattle.herm_syntax.specs.declared.statements.Stmt.{Stmt}
use Rattle.herm_syntax.specs.declared.statements.StmtForm.{StmtForm}
use Rattle.herm_syntax.specs.declared.statements.StmtForm.TheBlock as forms
use Rattle.herm_numbers.specs.declared.fault.NameCode.{NameCode}
use Rattle.herm_numbers.specs.declared.fault.NameCode.TheVariants as codes
use Rattle.herm_numbers.specs.declared.fault.NameFault.{NameFault}
use Rattle.herm_numbers.specs.declared.fault.Judged.{Judged}

abbrev pub name_code_view : NameCode → naming.Code
name_code_view codes.Unknown = naming.unknown
name_code_view codes.Twice = naming.twice
name_code_view codes.WrongType = naming.wrong_type
name_code_view codes.NotCopyable = naming.not_copyable
name_code_view codes.Unreachable = naming.unreachable
name_code_view codes.NoMain = naming.no_main
name_code_view codes.TooMany = naming.too_many

abbrev pub found_code_view : Option NameCode → Option naming.Code
found_code_view c = option_map name_code_view c

-- what is found at statements, in order, and where they stand
abbrev pub codes_found : List Judged → List (Option naming.Code)
codes_found js = map (λ j. found_code_view j.code) js

abbrev pub spans_found : List Judged → List Span
spans_found js = map (λ j. j.span) js

-- A place: a module and where in it.
abbrev pub Place : Type 0
Place = ℕ × Span

abbrev pub name_fault_view : NameFault → naming.Code × Place
name_fault_view f = (name_code_view f.code, (f.module, f.span))

-- where the statements within a statement stand, and those of a body, compound ones before their parts
abbrev mutual
  pub spans_within : StmtForm → List Span
  spans_within (forms.Assign x e) = []
  spans_within (forms.Move y x) = []
  spans_within (forms.New x) = []
  spans_within (forms.Discard x) = []
  spans_within (forms.Unite v y) = []
  spans_within (forms.Dissolve v y) = []
  spans_within (forms.Reveal v) = []
  spans_within (forms.Case' v shape arms) = arms_spans arms
  spans_within (forms.Wrap y p) = []
  spans_within (forms.Unwrap p name y) = []
  spans_within (forms.Insert r t) = []
  spans_within (forms.Remove r t keys) = []
  spans_within (forms.Get r t keys) = []
  spans_within (forms.For' r t shape body) = spans_in body
  spans_within (forms.Connect o i) = []
  spans_within (forms.Send x o) = []
  spans_within (forms.Receive x i) = []
  spans_within (forms.Select' shape arms) = port_arms_spans arms
  spans_within (forms.Call o arguments) = []
  spans_within (forms.Return m) = []
  spans_within (forms.ReturnBy m name) = []
  spans_within (forms.Create o name) = []
  spans_within (forms.If' e shape body other) = spans_in body ++ otherwise_spans other
  spans_within (forms.While' e shape body) = spans_in body
  spans_within (forms.Raise name) = []
  spans_within forms.Leave = []
  spans_within (forms.Try' shape body shape_of_handlers handled) = spans_in body ++ arms_spans handled

  pub spans_in : {m : _} → forms.Row_of-Stmt m → List Span
  spans_in forms.end_of-Stmt = []
  spans_in (forms.more_of-Stmt number span form rest) = span ∷ spans_within form ++ spans_in rest

  pub arms_spans : {m : _} → forms.Row_of-StmtForm-Case-1-3 m → List Span
  arms_spans forms.end_of-StmtForm-Case-1-3 = []
  arms_spans (forms.more_of-StmtForm-Case-1-3 name shape body rest) = spans_in body ++ arms_spans rest

  pub port_arms_spans : {m : _} → forms.Row_of-StmtForm-Select-0-4 m → List Span
  port_arms_spans forms.end_of-StmtForm-Select-0-4 = []
  port_arms_spans (forms.more_of-StmtForm-Select-0-4 port target shape body rest) = spans_in body ++ port_arms_spans rest

  pub otherwise_spans : forms.Held-StmtForm-If-2 → List Span
  otherwise_spans forms.None' = []
  otherwise_spans (forms.Some' shape body) = spans_in body

abbrev pub body_spans : List Stmt → List Span
body_spans [] = []
body_spans (s ∷ rest) = s.span ∷ spans_within s.form ++ body_spans rest
