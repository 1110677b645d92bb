-- Instructions: what compiled code consists of.
use Rattle.std.specs.Prelude.{ℕ, List}
use Rattle.herm_model.specs.Paths.{Path}
use Rattle.herm_model.specs.Types.{Raised}
use Rattle.herm_model.specs.Expressions.{Operator}

-- An operator on the top of the stack: the minus of an integer, `not` of a boolean, the text of an integer, and the length of
-- a string. Code reference, "Instructions".
pub data UnaryOperator : Type 0 where
  negative complement as_text text_length : UnaryOperator

-- An argument of a call: the value of an `in` parameter, which is on the stack, or the path of an `inout` or `out` one.
-- Code reference, "Instructions".
pub data Argument : Type 0 where
  of_in : Argument
  of_inout : Path → Argument
  of_out : Path → Argument

-- An arm of a select: the port that a message is taken from, the target that it is placed at, and the index that its code
-- begins at. Code reference, "Instructions".
pub record Choice : Type 0 where
  pub port : Path
  pub target : Path
  pub index : ℕ

-- One instruction. Paths name places in variables; constants, types, components, exceptions and modules are numbers; a
-- target of a jump is an index into the module's code; a slot names the rows that a loop has yet to visit. What an
-- instruction pushes or takes stands on the stack. Code reference, "Instructions".
pub data Instruction : Type 0 where
  -- begins a step of the source
  Step : Instruction
  -- push a constant, a copy of what is at a path, the number of rows of a table
  Const : (constant : ℕ) → Instruction
  Load : Path → Instruction
  Size : Path → Instruction
  -- replace the top; replace the top two, of which the right operand is the top
  Apply : UnaryOperator → Instruction
  Combine : Operator → Instruction
  -- the top is placed at the path
  Store : Path → Instruction
  -- go to the index, always or where the top is false
  Jump : (index : ℕ) → Instruction
  JumpFalse : (index : ℕ) → Instruction
  Move : (source target : Path) → Instruction
  New : (target : Path) → (type : ℕ) → Instruction
  Discard : (source : Path) → Instruction
  Unite : (target : Path) → (component : ℕ) → (source : Path) → Instruction
  Dissolve : (source : Path) → (component : ℕ) → (target : Path) → Instruction
  Reveal : (path : Path) → (component : ℕ) → Instruction
  -- go to an index by the component, one for each in order
  CaseOf : (path : Path) → (indices : List ℕ) → Instruction
  Wrap : (source : Path) → (type : ℕ) → (target : Path) → Instruction
  Unwrap : (source : Path) → (type : ℕ) → (target : Path) → Instruction
  Insert : (source table : Path) → Instruction
  -- so many keys are on the stack, the last one on top
  Remove : (target table : Path) → (keys : ℕ) → Instruction
  Get : (target table : Path) → (keys : ℕ) → Instruction
  -- the rows of a table are copied into a slot; the next row of a slot moves to the target, or go to the index where none is
  -- left; what is left in a slot is finalised
  LoopStart : (table : Path) → (slot : ℕ) → Instruction
  LoopNext : (target : Path) → (slot : ℕ) → (index : ℕ) → Instruction
  LoopDrop : (slot : ℕ) → Instruction
  Connect : (target port : Path) → Instruction
  -- what is at the paths of `trim` is finalised, and then the rest is sent
  Send : (source port : Path) → (trim : List Path) → Instruction
  Receive : (target port : Path) → Instruction
  Select : List Choice → Instruction
  -- an argument for each parameter, the values of `in` ones on the stack, the last one on top; and for each declared exception
  -- the places of the parameters that it keeps
  Call : (port : Path) → List Argument → (keeps : List Raised) → Instruction
  Return : (source : Path) → Instruction
  -- the parameters at these places are given back
  ReturnBy : (source : Path) → (exception : ℕ) → (kept : List ℕ) → Instruction
  Create : (target : Path) → (process : ℕ) → Instruction
  Raise : (exception : ℕ) → Instruction
  -- what is at the path is finalised
  Drop : Path → Instruction
  -- everything is finalised, and the process ends, by an exception or not
  End : Instruction
  EndBy : (exception : ℕ) → Instruction
