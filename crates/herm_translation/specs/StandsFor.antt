-- When a process of code stands for a process of the source.
use Rattle.std.specs.Prelude.{ℕ, List, [], Option, Some, None, ◌≡◌, ⊤, length, map}
use Rattle.herm_model.specs.Targets.{Target, node, end, end_by}
use Rattle.herm_model.specs.Values.{Name}
use Rattle.herm_system.specs.Systems.{System}
use Rattle.herm_source.specs.Modules.{Modules}
use Rattle.herm_source.specs.States.{State}
use Rattle.herm_source.specs.Instance.{source}
use Rattle.herm_runs.specs.Joining.{AreJoined}
use Rattle.herm_instructions.specs.Instructions.{Instruction, Step, Call}
use Rattle.herm_instructions.specs.Images.{instruction_at}
use Rattle.herm_code_machine.specs.ReadyCode.{ReadyCode, ReadyImage}
use Rattle.herm_code_machine.specs.CodeStates.{Position, at_index, at_end, at_end_by, CodeState}
use Rattle.herm_code_machine.specs.CodeInstance.{code_at, code_machine}

-- For each module by number, and each index of its code at which a process may stand: the node that the index belongs to. The
-- two steps of a `for` and the index of a call that is open belong to the statement's node. Code reference, "Standing for a process".
abbrev pub NodesOfIndices : Type 0
NodesOfIndices = (module_number index : ℕ) → Option ℕ

-- The position belongs to the point: an index to its node, an end to the end of its kind. Code reference, "Standing for a process".
abbrev pub BelongsTo : (ℕ → Option ℕ) → Position → Target → Type 0
BelongsTo nodes (at_index i) (node n) = nodes i ≡ Some n
BelongsTo nodes at_end end = ⊤
BelongsTo nodes (at_end_by d) (end_by e) = d ≡ e
BelongsTo nodes _ _ = ⊥

-- Where a process of code is an index: at a step where it has no call open, and at the call that it has open.
abbrev pub IsWhereItStands : Option ℕ → Option Instruction → Type 0
IsWhereItStands None (Some Step) = ⊤
IsWhereItStands (Some call) (Some (Call o arguments keeps)) = ⊤
IsWhereItStands call i = ⊥

abbrev pub MayStandAt : ReadyCode → (call : Option ℕ) → Position → Type 0
MayStandAt c call (at_index i) = IsWhereItStands call (instruction_at c.code i)
MayStandAt c call at_end = ⊤
MayStandAt c call (at_end_by e) = ⊤

-- A process of code stands for one of the source where it runs the module of the same number, its position belongs to the point and is a
-- step, the call that is open, or an end, the stack is empty, and the frames are equal: variables, work list, open call, counts and
-- finalised names, and the rows that loops have yet to visit, whose slots have the numbers of their statements.
-- Code reference, "Standing for a process".
pub record StandsFor (image : ReadyImage) (nodes : NodesOfIndices) (x : State Name) (y : CodeState Name) : Type 0 where
  pub module_number : y.module_number ≡ x.module_number
  pub position : BelongsTo (nodes x.module_number) y.position x.point
  pub stands : (c : ReadyCode) → code_at image y ≡ Some c → MayStandAt c y.frame.call y.position
  pub stack : y.stack ≡ []
  pub frame : y.frame ≡ x.frame

-- The image has as many codes as the program has modules, over the same types and with the same main.
pub record AreCodesFor (modules : Modules) (image : ReadyImage) : Type 0 where
  pub types : image.types ≡ modules.types
  pub main : image.main ≡ modules.main
  pub codes : length image.codes ≡ length modules.codes
