-- What became of each process. Language reference, "Processes".
use Rattle.std.specs.Prelude.{ℕ, List, [], map, Bool, true, false, Option, Some, None}
use Rattle.herm_model.specs.Lists.{numbered}
use Rattle.herm_model.specs.Values.{Name}
use Rattle.herm_journal.specs.Actions.{to_take}
use Rattle.herm_journal.specs.Messages.{CellWant}
use Rattle.herm_system.specs.Machines.{Machine, Standing, ended, out_of_steps, out_of_actions, waiting, local, acting, greatest_actions}
use Rattle.herm_system.specs.Systems.{System, standing, can}

-- What became of a process: it ended, normally or by an exception; it waits on ports, in the order in which it looks
-- at them, or for a reply, where there are none; a limit stopped it; or it can step. Language reference, "Processes".
pub data Fate : Type 0 where
  ended_normally : Fate
  ended_by : (exception : ℕ) → Fate
  waits : (ports : List ℕ) → Fate
  spent_steps : (limit : ℕ) → Fate
  spent_actions : (limit : ℕ) → Fate
  goes_on : Fate

abbrev pub ports_looked_at : Option (CellWant Name) → List ℕ
ports_looked_at (Some (to_take ports)) = ports
ports_looked_at _ = []

abbrev pub end_as : (exception : Option ℕ) → Fate
end_as None = ended_normally
end_as (Some e) = ended_by e

abbrev pub fate_as : Standing → (limit : ℕ) → (exception : Option ℕ) → Option (CellWant Name) → Fate
fate_as ended limit exception want = end_as exception
fate_as out_of_steps limit exception want = spent_steps limit
fate_as out_of_actions limit exception want = spent_actions greatest_actions
fate_as waiting limit exception want = waits (ports_looked_at want)
fate_as local limit exception want = goes_on
fate_as acting limit exception want = goes_on

abbrev pub fate_of : {P : Type 0} → Machine Name P → System P → ℕ × P → Fate
fate_of machine s (p, x) =
    fate_as (standing machine s.book.limits.steps (can s p) x) s.book.limits.steps (machine.exception x) (machine.wanted x)

-- of all processes from process 1 on
abbrev pub fates : {P : Type 0} → Machine Name P → System P → List Fate
fates machine s = map (fate_of machine s) (numbered 1 s.processes)

abbrev pub has_ended : Fate → Bool
has_ended ended_normally = true
has_ended (ended_by e) = true
has_ended _ = false

abbrev pub is_waiting : Fate → Bool
is_waiting (waits ports) = true
is_waiting _ = false

abbrev pub is_stopped : Fate → Bool
is_stopped (spent_steps limit) = true
is_stopped (spent_actions limit) = true
is_stopped _ = false
