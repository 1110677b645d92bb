-- The numbers of the statements of a process, in the order of the text, a compound statement's before those of its parts.
use Rattle.std.specs.Prelude.{ℕ, List, [], ◌∷◌, ◌++◌}
use Rattle.herm_syntax.specs.declared.modules.Module.{Module as ModuleForm}
use Rattle.herm_syntax.specs.declared.modules.Module.TheVariants as modules
use Rattle.herm_syntax.specs.declared.statements.Stmt.{Stmt}
use Rattle.herm_syntax.specs.declared.statements.StmtForm.{StmtForm}
use Rattle.herm_syntax.specs.declared.statements.StmtForm.TheBlock as forms

-- The numbers of the statements within a statement, and of statements.
abbrev mutual
  pub numbers_within : StmtForm → List ℕ
  numbers_within (forms.Assign x e) = []
  numbers_within (forms.Move y x) = []
  numbers_within (forms.New x) = []
  numbers_within (forms.Discard x) = []
  numbers_within (forms.Unite v y) = []
  numbers_within (forms.Dissolve v y) = []
  numbers_within (forms.Reveal v) = []
  numbers_within (forms.Case' v shape arms) = arms_numbers arms
  numbers_within (forms.Wrap y p) = []
  numbers_within (forms.Unwrap p name y) = []
  numbers_within (forms.Insert r t) = []
  numbers_within (forms.Remove r t keys) = []
  numbers_within (forms.Get r t keys) = []
  numbers_within (forms.For' r t shape body) = numbers body
  numbers_within (forms.Connect o i) = []
  numbers_within (forms.Send x o) = []
  numbers_within (forms.Receive x i) = []
  numbers_within (forms.Select' shape arms) = port_arms_numbers arms
  numbers_within (forms.Call o arguments) = []
  numbers_within (forms.Return m) = []
  numbers_within (forms.ReturnBy m name) = []
  numbers_within (forms.Create o name) = []
  numbers_within (forms.If' e shape body other) = numbers body ++ otherwise_numbers other
  numbers_within (forms.While' e shape body) = numbers body
  numbers_within (forms.Raise name) = []
  numbers_within forms.Leave = []
  numbers_within (forms.Try' shape body shape_of_handlers handled) = numbers body ++ arms_numbers handled

  pub numbers : {m : _} → forms.Row_of-Stmt m → List ℕ
  numbers forms.end_of-Stmt = []
  numbers (forms.more_of-Stmt number span form rest) = number.0 ∷ numbers_within form ++ numbers rest

  pub arms_numbers : {m : _} → forms.Row_of-StmtForm-Case-1-3 m → List ℕ
  arms_numbers forms.end_of-StmtForm-Case-1-3 = []
  arms_numbers (forms.more_of-StmtForm-Case-1-3 name shape body rest) = numbers body ++ arms_numbers rest

  pub port_arms_numbers : {m : _} → forms.Row_of-StmtForm-Select-0-4 m → List ℕ
  port_arms_numbers forms.end_of-StmtForm-Select-0-4 = []
  port_arms_numbers (forms.more_of-StmtForm-Select-0-4 port target shape body rest) = numbers body ++ port_arms_numbers rest

  pub otherwise_numbers : forms.Held-StmtForm-If-2 → List ℕ
  otherwise_numbers forms.None' = []
  otherwise_numbers (forms.Some' shape body) = numbers body

abbrev pub body_numbers : List Stmt → List ℕ
body_numbers [] = []
body_numbers (s ∷ rest) = s.no.0 ∷ numbers_within s.form ++ body_numbers rest

abbrev pub module_numbers : ModuleForm → List ℕ
module_numbers (modules.Definitions name list) = []
module_numbers (modules.Process name port vars body) = body_numbers body.items
