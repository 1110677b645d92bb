-- Forms that keep the rules on types, among the variables of a process.
use Rattle.std.specs.Prelude.{ℕ, List}
use Rattle.herm_model.specs.Lists.{IsIn}
use Rattle.herm_model.specs.Statements.{Form, Process}
use Rattle.herm_model.specs.WellFormedTables.{IsType, IsWellFormedTable}
use Rattle.herm_model.specs.TypedStatements.{IsTypedForm}
use Rattle.herm_forms.specs.Modules.{Module}

-- A form that is typed among the variables of a code, in a well-formed table, where there are so many exceptions and these
-- processes. Language reference, "Typed statements".
pub record IsTypedIn (exceptions : ℕ) (processes : List Process) (c : Module) (form : Form) : Type 0 where
  pub table : IsWellFormedTable exceptions c.types
  pub variables : (t : ℕ) → IsIn t c.variables → IsType c.types t
  pub typed : IsTypedForm c.types c.variables exceptions processes form
