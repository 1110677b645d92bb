-- What the kinds weigh of the inports and callmessages that an answer makes, and of those that it ends.
use Rattle.std.proofs.Common.{◌≡◌, ℕ, Option, Some, None, refl}
use Rattle.herm_model.proofs.Loads.{weightless}
use Rattle.herm_model.specs.Paths.{Path}
use Rattle.herm_model.specs.Statements.{Form, New, Call, Return, ReturnBy, Create}
use Rattle.herm_model.specs.Values.{Name, Kind, an_inport, kind_of, Cell, cell_at}
use Rattle.herm_journal.specs.Actions.{make_port, make_process, put, take, close, answer, hear}
use Rattle.herm_journal.specs.Messages.{CellAction}
use Rattle.herm_forms.specs.Frames.{Frame, Taken}
use Rattle.herm_forms.specs.Callmessages.{Composed}
use Rattle.herm_forms.specs.Modules.{Module}
use Rattle.herm_forms.specs.Acts.{composed, given_back, given_at, given_by}

module _ {N : Type 0} (extra : Kind → ℕ) where
  -- of an inport that an action makes
  abbrev pub port_load : CellAction N → ℕ
  port_load (make_port (Some n)) = extra (an_inport n)
  port_load (make_process code (Some made)) = extra (an_inport made.1)
  port_load action = 0

  -- of a cell that may be there
  abbrev pub kind_load : Option (Cell N) → ℕ
  kind_load None = 0
  kind_load (Some c) = extra (kind_of c)

  -- of a callmessage that comes back
  abbrev pub back_load : CellAction N → ℕ
  back_load (put None m) = extra (kind_of m)
  back_load action = 0

  -- of a call's callmessage
  abbrev pub call_load : Option (Composed N) → ℕ
  call_load None = 0
  call_load (Some x) = extra (kind_of x.message)

  -- of the callmessage that a return ends
  abbrev pub source_load : Path → Option (Taken N) → ℕ
  source_load source None = 0
  source_load source (Some t) = kind_load (cell_at source t.frame.variables)

  -- by the form: what its answer makes besides copies
  abbrev pub begun : (Name → N) → Module → Form → Frame N → CellAction N → ℕ
  begun name c (New x) b action = port_load action
  begun name c (Create o process) b action = port_load action
  begun name c (Call o arguments) b action = call_load (composed name c o arguments b)
  begun name c form b action = 0

  -- and what it ends at once although it waits elsewhere
  abbrev pub over : Module → Form → Frame N → CellAction N → ℕ
  over c (Call o arguments) b action = back_load action
  over c (Return x) b action = source_load x (given_back c (given_at c x) b)
  over c (ReturnBy x ex) b action = source_load x (given_back c (given_by c x ex) b)
  over c form b action = 0

-- where kinds weigh nothing
module _ {N : Type 0} (w : N → ℕ) where
  pub none-ported : (action : CellAction N) → port_load weightless action ≡ 0
  none-ported (make_port (Some n)) = refl
  none-ported (make_port None) = refl
  none-ported (make_process code (Some made)) = refl
  none-ported (make_process code None) = refl
  none-ported (put number m) = refl
  none-ported (take number m) = refl
  none-ported (close count left) = refl
  none-ported (answer call r) = refl
  none-ported (hear call r) = refl

  pub none-back : (action : CellAction N) → back_load weightless action ≡ 0
  none-back (put None m) = refl
  none-back (put (Some n) m) = refl
  none-back (make_port made) = refl
  none-back (make_process code made) = refl
  none-back (take number m) = refl
  none-back (close count left) = refl
  none-back (answer call r) = refl
  none-back (hear call r) = refl

  pub none-called : (o : Option (Composed N)) → call_load weightless o ≡ 0
  none-called None = refl
  none-called (Some x) = refl

  none-there : (o : Option (Cell N)) → kind_load weightless o ≡ 0
  none-there None = refl
  none-there (Some c) = refl

  pub none-given : (source : Path) (o : Option (Taken N)) → source_load weightless source o ≡ 0
  none-given source None = refl
  none-given source (Some t) = none-there (cell_at source t.frame.variables)

  pub none-begun : (name : Name → N) (c : Module) (form : Form) (b : Frame N) (action : CellAction N) → begun weightless name c form b action ≡ 0
  none-begun name c (New x) b action = none-ported action
  none-begun name c (Create o process) b action = none-ported action
  none-begun name c (Call o arguments) b action = none-called (composed name c o arguments b)
  none-begun name c form b action = refl

  pub none-over : (c : Module) (form : Form) (b : Frame N) (action : CellAction N) → over weightless c form b action ≡ 0
  none-over c (Call o arguments) b action = none-back action
  none-over c (Return x) b action = none-given x (given_back c (given_at c x) b)
  none-over c (ReturnBy x ex) b action = none-given x (given_back c (given_by c x ex) b)
  none-over c form b action = refl
