-- A machine: what a process does, seen from outside, as functions on the state of one process.
use Rattle.std.specs.Prelude.{ℕ, List, Bool, true, false, cond, Option}
use Rattle.herm_model.specs.Types.{TypeTable}
use Rattle.herm_model.specs.Values.{Name, Cell, cell, no_parts, an_inport}
use Rattle.herm_journal.specs.Messages.{CellWant, CellAction}

-- a value that a process holds, with the type of its place; a work list has no types
pub record Held (N : Type 0) : Type 0 where
  pub place_type : Option ℕ
  pub value : Cell N

-- the call whose answer a process waits for: its number, and the type of its callmessage
pub record OpenCall : Type 0 where
  pub number : ℕ
  pub call_type : Option ℕ

-- how a process stands; of the two limits the one that it has reached
pub data Standing : Type 0 where
  ended : Standing
  out_of_steps : Standing
  out_of_actions : Standing
  waiting : Standing
  local : Standing
  acting : Standing

abbrev pub greatest_actions : ℕ
greatest_actions = 16384

abbrev pub is_local : Standing → Bool
is_local local = true
is_local _ = false

abbrev pub is_acting : Standing → Bool
is_acting acting = true
is_acting _ = false

-- an action is next: its limit is looked at
abbrev pub to_act : (actions : Bool) → Standing
to_act within = cond within acting out_of_actions

-- What can be asked of the state P of a process, whose cells have names N. A machine is closed over its modules: which one
-- a process runs is a part of its state. Language reference, "Processes".
pub record Machine (N P : Type 0) : Type 0 where
  -- the types of the program, and the number of main
  pub types : TypeTable
  pub main : ℕ
  -- a process of this module begins with its number and its port; none where there is no such module
  pub begin : (code number : ℕ) → Cell N → Option P
  -- the module that a process runs, and the process's number
  pub module_number : P → ℕ
  pub number : P → ℕ
  -- how many cells it has made, and how many steps and actions
  pub serial : P → ℕ
  pub steps : P → ℕ
  pub actions : P → ℕ
  -- the exception by which it ended, if one did
  pub exception : P → Option ℕ
  -- the values that it holds, and the names that it has finalised, in order
  pub held : P → List (Held N)
  pub finalised : P → List N
  -- the type of the port of this number, at which it looks for a message
  pub port_type : P → (port : ℕ) → Option ℕ
  pub open_call : P → Option OpenCall
  -- the same behind an entry of its diary that is put aside
  pub put_aside : P → P
  -- how it stands under this limit of steps, without a look at the places: acting where an action is next
  pub ready : (limit : ℕ) → P → Standing
  -- what its next action wants of a place; what its local step leaves; and what the answer to the action leaves, which
  -- was done at the place of this number
  pub wanted : P → Option (CellWant N)
  pub local_step : P → Option P
  pub answered : P → (at : ℕ) → CellAction N → Option P

-- The inport of a process that is being made. Its maker is the process that makes it, from the state that this has before
-- the answer. Language reference, "Values".
abbrev pub inport_of : {P : Type 0} → Machine Name P → (port : ℕ) → P → Cell Name
inport_of machine n x = cell (machine.number x, machine.serial x) (an_inport n) no_parts
