-- The numbers of the summary from what each process, each port and each reply cell counts. Language reference, "The summary".
use Rattle.std.specs.Prelude.{ℕ, ◌+◌, List, [], ◌∷◌, length}
use Rattle.herm_model.specs.Lists.{total}
use Rattle.herm_model.specs.Values.{Name, Cell}
use Rattle.herm_journal.specs.Messages.{CellReply}
use Rattle.herm_journal.specs.PlaceStates.{Replies}
use Rattle.herm_journal.specs.Ports.{Port}
use Rattle.herm_system.specs.Machines.{Machine}
use Rattle.herm_system.specs.Ledger.{held_by, queued_at, queued_for}
use Rattle.herm_system.specs.ProcessFates.{fates, has_ended, is_waiting, is_stopped}
use Rattle.herm_system.specs.Summary.{Counts, how_many, cut, one}
use Rattle.herm_system.specs.Systems.{System}

-- the cells of a process that it made, that it holds, and that it has finalised
abbrev pub made_of_process : {P : Type 0} → Machine Name P → P → ℕ
made_of_process machine x = cut (machine.serial x)

abbrev pub held_of_process : {P : Type 0} → Machine Name P → P → ℕ
held_of_process machine x = cut (held_by one machine x)

abbrev pub finalised_of_process : {P : Type 0} → Machine Name P → P → ℕ
finalised_of_process machine x = cut (length (machine.finalised x))

-- counts added up one after another, each sum cut
abbrev pub added : {X : Type 0} → (X → ℕ) → List X → ℕ
added f [] = 0
added f (x ∷ xs) = cut (f x + added f xs)

-- The numbers of a state as a world adds them up: five cells were made at the start, and the console holds one.
abbrev pub added_counts : {P : Type 0} → Machine Name P → System P → Counts
added_counts machine s = record {
  processes = length s.processes;
  ended = how_many has_ended (fates machine s);
  waiting = how_many is_waiting (fates machine s);
  stopped = how_many is_stopped (fates machine s);
  ports = length s.ports;
  unclosed = how_many (λ (p : Port (Cell Name)). p.is_open) s.ports;
  steps = total machine.steps s.processes;
  actions = total machine.actions s.processes;
  made = cut (5 + added (made_of_process machine) s.processes);
  held = cut (1 + added (held_of_process machine) s.processes);
  queued = cut (added (λ (p : Port (Cell Name)). cut (queued_at one p)) s.ports + added (λ (rs : Replies (CellReply Name)). cut (queued_for one rs)) s.replies);
  finalised = added (finalised_of_process machine) s.processes;
}
