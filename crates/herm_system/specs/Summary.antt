-- The numbers of a run, and the lines that tell them. Language reference, "The summary".
use Rattle.std.specs.Prelude.{ℕ, ◌^◌, min, List, ◌++◌, Bool, length, filter, codes}
use Rattle.herm_model.specs.Lists.{total}
use Rattle.herm_model.specs.Values.{Name, Cell}
use Rattle.herm_journal.specs.Ports.{Port}
use Rattle.herm_journal.specs.Entries.{Text}
use Rattle.herm_journal.specs.EntryTexts.{and_number}
use Rattle.herm_system.specs.Machines.{Machine, ended, waiting}
use Rattle.herm_system.specs.Systems.{System}
use Rattle.herm_system.specs.Ledger.{made_in, held_in, queued_in, finalised_in}
use Rattle.herm_system.specs.ProcessFates.{fates, has_ended, is_waiting, is_stopped}
use Rattle.herm_system.specs.TextLines.{line}

-- the numbers of the summary, in its order
pub record Counts : Type 0 where
  pub processes : ℕ
  pub ended : ℕ
  pub waiting : ℕ
  pub stopped : ℕ
  pub ports : ℕ
  pub unclosed : ℕ
  pub steps : ℕ
  pub actions : ℕ
  pub made : ℕ
  pub held : ℕ
  pub queued : ℕ
  pub finalised : ℕ

abbrev pub how_many : {X : Type 0} → (X → Bool) → List X → ℕ
how_many test xs = length (filter test xs)

-- a count above 2^63 is given as 2^63
abbrev pub cut : ℕ → ℕ
cut n = min n (2 ^ 63)

-- each cell weighs 1
abbrev pub one : Name → ℕ
one n = 1

-- The numbers of a final state. Language reference, "The summary".
abbrev pub counts : {P : Type 0} → Machine Name P → System P → Counts
counts machine s = record {
  processes = length s.processes;
  ended = how_many has_ended (fates machine s);
  waiting = how_many is_waiting (fates machine s);
  stopped = how_many is_stopped (fates machine s);
  ports = length s.ports;
  unclosed = how_many (λ (p : Port (Cell Name)). p.is_open) s.ports;
  steps = total machine.steps s.processes;
  actions = total machine.actions s.processes;
  made = cut (made_in one machine s);
  held = cut (held_in one machine s);
  queued = cut (queued_in one s);
  finalised = cut (finalised_in one machine s);
}

-- The four lines of the summary. Language reference, "The summary".
abbrev pub summary : Counts → Text
summary c =
    line (codes "summary: processes" ++ and_number c.processes ++ codes " ended" ++ and_number c.ended ++ codes " waiting" ++ and_number c.waiting ++ codes " stopped" ++ and_number c.stopped)
    ++ line (codes "summary: ports" ++ and_number c.ports ++ codes " open" ++ and_number c.unclosed)
    ++ line (codes "summary: steps" ++ and_number c.steps ++ codes " actions" ++ and_number c.actions)
    ++ line (codes "summary: cells made" ++ and_number c.made ++ codes " held" ++ and_number c.held ++ codes " queued" ++ and_number c.queued ++ codes " finalised" ++ and_number c.finalised)
