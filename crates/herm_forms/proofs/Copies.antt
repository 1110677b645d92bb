-- What a form copies: of what kinds its cells are.
use Rattle.std.proofs.Common.{◌≡◌, Some}
use Rattle.std.specs.Prelude.{⊤}
use Rattle.herm_model.specs.Statements.{Form, Assign, Get, For, Call}
use Rattle.herm_model.specs.Calls.{call_parameters}
use Rattle.herm_model.specs.Values.{Kind, Cell, cell, Parts, no_parts, gap, part, parts_of, read_at, Value}
use Rattle.herm_journal.specs.Kinds.{HasKinds, HaveKinds}
use Rattle.herm_journal.proofs.MoreKinds.{more-kinds, more-kinds_in}
use Rattle.herm_forms.specs.Evaluate.{gives, evaluate}
use Rattle.herm_forms.specs.Modules.{Module}
use Rattle.herm_forms.specs.Acts.{inputs_of}

-- Each cell that the form copies is of these kinds: of the value that it assigns, of the table whose rows it finds or visits, of
-- the arguments of a call.
abbrev pub CopiesKinds : {N : Type 0} → (Kind → Type 0) → Module → Form → Parts N → Type 0
CopiesKinds of c (Assign x e) ps = (v : Value) → evaluate ps e ≡ gives v → HasKinds of v
CopiesKinds {N} of c (Get r t keys) ps = (table : Cell N) → read_at t ps ≡ Some table → HaveKinds of (parts_of table)
CopiesKinds {N} of c (For r t) ps = (table : Cell N) → read_at t ps ≡ Some table → HaveKinds of (parts_of table)
CopiesKinds of c (Call o arguments) ps = (inputs : Parts ⊤) → inputs_of (call_parameters c.types c.variables o) arguments ps ≡ Some inputs → HaveKinds of inputs
CopiesKinds of c form ps = ⊤

-- where all kinds are allowed
module _ (of : Kind → Type 0) (all : (k : Kind) → of k) where
  mutual
    pub every-kind : {N : Type 0} (c : Cell N) → HasKinds of c
    every-kind (cell n k ps) = (all k, every-kind_in ps)

    pub every-kind_in : {N : Type 0} (ps : Parts N) → HaveKinds of ps
    every-kind_in no_parts = tt
    every-kind_in (gap ps) = every-kind_in ps
    every-kind_in (part c ps) = (every-kind c, every-kind_in ps)

  pub all-copies : {N : Type 0} (c : Module) (form : Form) (ps : Parts N) → CopiesKinds of c form ps
  all-copies c (Assign x e) ps = λ v is. every-kind v
  all-copies c (Get r t keys) ps = λ table is. every-kind_in (parts_of table)
  all-copies c (For r t) ps = λ table is. every-kind_in (parts_of table)
  all-copies c (Call o arguments) ps = λ inputs is. every-kind_in inputs
  all-copies c form ps = tt

-- cells of certain kinds are of more kinds
pub more-copies : {N : Type 0} (f g : Kind → Type 0) (more : (k : Kind) → f k → g k) (c : Module) (form : Form) (ps : Parts N) → CopiesKinds f c form ps → CopiesKinds g c form ps
more-copies f g more c (Assign x e) ps h = λ v is. more-kinds f g more v (h v is)
more-copies f g more c (Get r t keys) ps h = λ table is. more-kinds_in f g more (parts_of table) (h table is)
more-copies f g more c (For r t) ps h = λ table is. more-kinds_in f g more (parts_of table) (h table is)
more-copies f g more c (Call o arguments) ps h = λ inputs is. more-kinds_in f g more inputs (h inputs is)
more-copies f g more c form ps h = tt
