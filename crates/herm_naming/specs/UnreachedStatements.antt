-- Statements that no control path leads to. Language reference, "Control paths".
use Rattle.std.specs.Prelude.{ℕ, suc, Bool, true, false, List, length, Some, slice_get, ◌≡◌}
use Rattle.herm_model.specs.Types.{TypeTable}
use Rattle.herm_model.specs.Statements.{Process, numbers_of_block}
use Rattle.herm_model.specs.Nodes.{Node, process_nodes}
use Rattle.herm_model.specs.Targets.{node}
use Rattle.herm_model.specs.ControlPaths.{flow_of, IsReached}

-- No control path leads to the statement with this number, which is not a `try`. Language reference, "Control paths".
pub record IsUnreached (table : TypeTable) (p : Process) (number : ℕ) : Type 0 where
  pub place : ℕ
  pub stands : (n : Node) × (slice_get (process_nodes p) place ≡ Some n) × (n.number ≡ number)
  pub lacks : IsReached (flow_of table p) (node place) → ⊥

-- One mark for each statement of a process, in the order of their numbers: no control path leads to the marked ones, which
-- are no `try`, and to each other one but a `try` some does.
pub record MarksUnreached (table : TypeTable) (p : Process) (marks : List Bool) : Type 0 where
  pub each : length marks ≡ numbers_of_block p.body
  pub marked : (i : ℕ) → slice_get marks i ≡ Some true → IsUnreached table p (suc i)
  pub others : (i place : ℕ) (n : Node) → slice_get marks i ≡ Some false → slice_get (process_nodes p) place ≡ Some n → n.number ≡ suc i → IsReached (flow_of table p) (node place)
