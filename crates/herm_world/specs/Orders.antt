-- An order of a process that can be done now, and the process that an action has made.
use Rattle.std.specs.Prelude.{ℕ, List, true, Option, Some, None, ◌≡◌, ⊤}
use Rattle.herm_journal.specs.Actions.{new_port, new_process, to_put, to_take, to_close, to_answer, to_hear}
use Rattle.herm_journal.specs.Messages.{CellWant}
use Rattle.herm_system.specs.Machines.{acting}
use Rattle.herm_instructions.specs.Images.{Image}
use Rattle.herm_code_machine.specs.CodeStates.{CodeState}
use Rattle.herm_waking.specs.Unnamed.{bare_can}
use Rattle.herm_machine.specs.Machines.{nameless}
use Rattle.herm_machine.specs.declared.order.Got.{Got}
use Rattle.herm_machine.specs.declared.order.Got.TheVariants as gots
use Rattle.herm_machine.specs.declared.order.Order.{Order}
use Rattle.herm_process.specs.Entries.{IsOrderOf}
use Rattle.herm_process.specs.Processes.{ProcessState, IsProcess}
use Rattle.herm_world.specs.Places.{Places, seen_of}
use Rattle.herm_world.specs.declared.doing.Made.{Made}

-- the module, the number and the port of a process that was made
abbrev pub made_view : Made → ℕ × ℕ × ℕ
made_view m = (m.module, m.number.number, m.port.number)

abbrev pub born : (code : ℕ) → Got → Option (ℕ × ℕ × ℕ)
born code (gots.Process (Some m)) = Some (code, m.0.number, m.1.number)
born code got = None

abbrev pub made_in : CellWant ⊤ → Got → Option (ℕ × ℕ × ℕ)
made_in (new_process code) got = born code got
made_in new_port got = None
made_in (to_put n m) got = None
made_in (to_take ports) got = None
made_in (to_close n) got = None
made_in (to_answer caller call r) got = None
made_in to_hear got = None

-- what comes next in the process, at a state for which it stands, is an action that can be done now by the process of this number
pub record CanBeDone (p : ProcessState) (s : Places) (who : ℕ) : Type 0 where
  pub image : Image
  pub main : ℕ
  pub state : CodeState ⊤
  pub stands : IsProcess image main p state
  pub next : (nameless image main).ready p.limit state ≡ acting
  pub want : CellWant ⊤
  pub wanted : (nameless image main).wanted state ≡ Some want
  pub beside : List (CodeState ⊤)
  pub can : bare_can (seen_of beside s) who want ≡ true

-- and the order is for it
abbrev pub CanBeServed : ProcessState → Places → (who : ℕ) → Order → Type 0
CanBeServed p s who order = (can : CanBeDone p s who) × IsOrderOf order can.want

-- it is a message that is wanted
abbrev pub CanTake : ProcessState → Places → (who : ℕ) → Type 0
CanTake p s who = (can : CanBeDone p s who) × (ports : List ℕ) × (can.want ≡ to_take ports)

abbrev pub IsTaking : ProcessState → Type 0
IsTaking p = (image : Image) × (main : ℕ) × (x : CodeState ⊤) × (ports : List ℕ) × IsProcess image main p x × ((nameless image main).ready p.limit x ≡ acting) × ((nameless image main).wanted x ≡ Some (to_take ports))
