-- Orders are for what is wanted.
use Rattle.std.proofs.Common.{◌≡◌, ℕ, [], ◌∷◌, Option, Some, None, option_and_then, ap}
use Rattle.std.specs.Prelude.{⊤}
use Rattle.herm_base.specs.declared.numbers.PortNo.{PortNo}
use Rattle.herm_journal.specs.Actions.{new_port, new_process, to_put, to_take, to_close, to_answer, to_hear}
use Rattle.herm_journal.specs.Messages.{CellWant}
use Rattle.herm_instructions.specs.Images.{Image}
use Rattle.herm_code_machine.specs.CodeStates.{CodeState}
use Rattle.herm_exchanges.specs.Told.{Told, a_port, a_process, a_take, a_close, a_hearing, told, want_view}
use Rattle.herm_exchanges.specs.declared.wants.PortList.{PortList}
use Rattle.herm_exchanges.specs.declared.wants.Want.{Want}
use Rattle.herm_machine.specs.Machines.{MachineState, IsAt, IsInside, nameless}
use Rattle.herm_machine.specs.declared.order.Order.{Order}
use Rattle.herm_machine.specs.declared.order.Order.TheVariants as orders
use Rattle.herm_process.specs.Entries.{IsFor, IsOrderOf}
use Rattle.herm_process.specs.Processes.{Orders}
use Rattle.herm_process.specs.declared.ordered.Ordered.{Ordered}
use Rattle.herm_process.specs.declared.ordered.Ordered.TheVariants as ordered
use Rattle.herm_process.proofs.Standings.{at-alive, told-want}

abbrev Serves : Order → Ordered → CellWant ⊤ → Type 0
Serves given o w = IsOrderOf given w × IsFor o w

abbrev number-in : Option Told → ℕ
number-in (Some (a_process n)) = n
number-in (Some (a_close n)) = n
number-in _ = 0

port-serves : (w : CellWant ⊤) → told w ≡ Some a_port → Serves orders.MakePort ordered.MakePort w
port-serves new_port e = (tt, tt)
port-serves (new_process code) e = cc
port-serves (to_put n m) e = cc
port-serves (to_take []) e = cc
port-serves (to_take (n ∷ ns)) e = cc
port-serves (to_close n) e = cc
port-serves (to_answer caller call r) e = cc
port-serves to_hear e = cc

process-serves : (code : ℕ) (w : CellWant ⊤) → told w ≡ Some (a_process code) → Serves (orders.MakeProcess code) (ordered.MakeProcess code) w
process-serves code new_port e = cc
process-serves code (new_process wanted) e = (ap number-in e, ap number-in e)
process-serves code (to_put n m) e = cc
process-serves code (to_take []) e = cc
process-serves code (to_take (n ∷ ns)) e = cc
process-serves code (to_close n) e = cc
process-serves code (to_answer caller call r) e = cc
process-serves code to_hear e = cc

take-serves : (ports : PortList) (w : CellWant ⊤) → told w ≡ Some (a_take ports.first.number ports.count) → Serves (orders.Take ports) ordered.Take w
take-serves ports new_port e = cc
take-serves ports (new_process code) e = cc
take-serves ports (to_put n m) e = cc
take-serves ports (to_take ns) e = (e, tt)
take-serves ports (to_close n) e = cc
take-serves ports (to_answer caller call r) e = cc
take-serves ports to_hear e = cc

close-serves : (p : PortNo) (w : CellWant ⊤) → told w ≡ Some (a_close p.number) → Serves (orders.Close p) (ordered.Close p) w
close-serves p new_port e = cc
close-serves p (new_process code) e = cc
close-serves p (to_put n m) e = cc
close-serves p (to_take []) e = cc
close-serves p (to_take (n ∷ ns)) e = cc
close-serves p (to_close n) e = (ap number-in e, ap number-in e)
close-serves p (to_answer caller call r) e = cc
close-serves p to_hear e = cc

hear-serves : (w : CellWant ⊤) → told w ≡ Some a_hearing → Serves orders.Hear ordered.Hear w
hear-serves new_port e = cc
hear-serves (new_process code) e = cc
hear-serves (to_put n m) e = cc
hear-serves (to_take []) e = cc
hear-serves (to_take (n ∷ ns)) e = cc
hear-serves (to_close n) e = cc
hear-serves (to_answer caller call r) e = cc
hear-serves to_hear e = (tt, tt)

-- an order with which nothing goes
module _ (m : MachineState) (inside : IsInside m) (image : Image) (main : ℕ) (s : CodeState ⊤) (at : IsAt image main m s) where
  abbrev Tells : Told → Type 0
  Tells t = Some t ≡ option_and_then told ((nameless image main).wanted s)

  none : m.order ≡ None
  none = inside (at-alive image main m s at)

  pub port-ordered : Tells a_port → Orders image main m orders.MakePort ordered.MakePort s
  port-ordered e = let w = told-want ((nameless image main).wanted s) a_port e in let h = port-serves w.0 w.2 in record { want = w.0; wanted = w.1; order = h.0; remembered = h.1; sums = tt; at = at; out = none }

  pub process-ordered : (code : ℕ) → Tells (a_process code) → Orders image main m (orders.MakeProcess code) (ordered.MakeProcess code) s
  process-ordered code e =
      let w = told-want ((nameless image main).wanted s) (a_process code) e in let h = process-serves code w.0 w.2 in record { want = w.0; wanted = w.1; order = h.0; remembered = h.1; sums = tt; at = at; out = none }

  pub take-ordered : (ports : PortList) → Tells (a_take ports.first.number ports.count) → Orders image main m (orders.Take ports) ordered.Take s
  take-ordered ports e =
      let w = told-want ((nameless image main).wanted s) (a_take ports.first.number ports.count) e in
      let h = take-serves ports w.0 w.2 in
      record { want = w.0; wanted = w.1; order = h.0; remembered = h.1; sums = tt; at = at; out = none }

  pub close-ordered : (p : PortNo) → Tells (a_close p.number) → Orders image main m (orders.Close p) (ordered.Close p) s
  close-ordered p e =
      let w = told-want ((nameless image main).wanted s) (a_close p.number) e in let h = close-serves p w.0 w.2 in record { want = w.0; wanted = w.1; order = h.0; remembered = h.1; sums = tt; at = at; out = none }

  pub hear-ordered : Tells a_hearing → Orders image main m orders.Hear ordered.Hear s
  hear-ordered e = let w = told-want ((nameless image main).wanted s) a_hearing e in let h = hear-serves w.0 w.2 in record { want = w.0; wanted = w.1; order = h.0; remembered = h.1; sums = tt; at = at; out = none }

abbrev pub telling : Want → Option Told
telling w = Some (want_view w)
