-- The ledger: every cell made is held, queued or finalised, once.
use Rattle.std.specs.Prelude.{ℕ, ◌+◌, ◌≤◌, Some, ◌≡◌}
use Rattle.herm_model.specs.Lists.{total}
use Rattle.herm_model.specs.Values.{Name, Cell}
use Rattle.herm_journal.specs.Actions.{new_process, to_put, to_answer, make_process}
use Rattle.herm_journal.specs.Ports.{Port, left_in}
use Rattle.herm_journal.specs.PlaceStates.{Replies}
use Rattle.herm_journal.specs.Messages.{CellReply, CellWant, CellAction}
use Rattle.herm_journal.specs.Weights.{only, weigh, weigh_all, weigh_reply, weigh_serials}
use Rattle.herm_system.specs.Machines.{Held, Machine, inport_of}
use Rattle.herm_system.specs.Systems.{System, opening_name, console_port}

-- what a process holds, and what it has finalised
abbrev pub held_by : {N P : Type 0} → (N → ℕ) → Machine N P → P → ℕ
held_by w machine x = total (λ (h : Held _). weigh w h.value) (machine.held x)

abbrev pub finalised_by : {N P : Type 0} → (N → ℕ) → Machine N P → P → ℕ
finalised_by w machine x = total w (machine.finalised x)

-- What a process has made: the names with its number and the serials below its next one.
-- Language reference, "The ledger".
abbrev pub made_by : {P : Type 0} → (Name → ℕ) → Machine Name P → P → ℕ
made_by w machine x = weigh_serials w (λ s. (machine.number x, s)) 0 (machine.serial x)

-- what goes out to a place with an action, as the process wanted it; a process that is made takes its inport
abbrev pub goes_out : {P : Type 0} → (Name → ℕ) → Machine Name P → P → CellWant Name → CellAction Name → ℕ
goes_out w machine x (to_put port m) action = weigh w m
goes_out w machine x (to_answer caller call r) action = weigh_reply w r
goes_out w machine x (new_process code) (make_process code' (Some made)) = weigh w (inport_of machine made.1 x)
goes_out w machine x want action = 0

-- what is queued at a port, and in a reply cell
abbrev pub queued_at : (Name → ℕ) → Port (Cell Name) → ℕ
queued_at w p = weigh_all w (left_in p)

abbrev pub queued_for : (Name → ℕ) → Replies (CellReply Name) → ℕ
queued_for w rs = total (λ r. weigh_reply w r.1) rs

-- what is queued: at ports and in reply cells
abbrev pub queued_in : {P : Type 0} → (Name → ℕ) → System P → ℕ
queued_in w s = total (queued_at w) s.ports + total (queued_for w) s.replies

module _ {P : Type 0} (w : Name → ℕ) (machine : Machine Name P) where
  -- what was made: the five opening cells, and what each process has made
  abbrev pub made_in : System P → ℕ
  made_in s = weigh_serials w opening_name 0 5 + total (made_by w machine) s.processes

  -- what is held: by the console the inport of port 0, and what each process holds
  abbrev pub held_in : System P → ℕ
  held_in s = weigh w console_port + total (held_by w machine) s.processes

  abbrev pub finalised_in : System P → ℕ
  finalised_in s = total (finalised_by w machine) s.processes

-- By every weight of names what was made is what is held, queued and finalised. With a weight of 1 for one name, it is
-- at one place if it was made once, and at none if it was not made; with a weight of 1 for all it counts cells.
-- Language reference, "The ledger".
abbrev pub HasLedger : {P : Type 0} → Machine Name P → System P → Type 0
HasLedger machine s = (w : Name → ℕ) → made_in w machine s ≡ held_in w machine s + queued_in w s + finalised_in w machine s

-- No name was made twice. Language reference, "The ledger".
abbrev pub IsMadeOnce : {P : Type 0} → Machine Name P → System P → Type 0
IsMadeOnce machine s = (n : Name) → made_in (only n) machine s ≤ 1
