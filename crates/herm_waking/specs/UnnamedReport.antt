-- What a world reports of a system without names: what became of each process, the queues, and the numbers of the summary.
use Rattle.std.specs.Prelude.{ℕ, ◌+◌, List, map, Option, length, ◌≡◌, ⊤}
use Rattle.herm_model.specs.Lists.{numbered, total}
use Rattle.herm_model.specs.Values.{Name, Cell}
use Rattle.herm_model.specs.ValueTexts.{text_of}
use Rattle.herm_journal.specs.Entries.{Text}
use Rattle.herm_journal.specs.Messages.{CellReply}
use Rattle.herm_journal.specs.PlaceStates.{Replies}
use Rattle.herm_journal.specs.Ports.{Port, left_in}
use Rattle.herm_system.specs.Machines.{Machine, Standing, ended, out_of_steps, out_of_actions, waiting, local, acting, greatest_actions}
use Rattle.herm_system.specs.Ledger.{held_by}
use Rattle.herm_journal.specs.Weights.{weigh_all, weigh_reply}
use Rattle.herm_system.specs.ProcessFates.{Fate, waits, spent_steps, spent_actions, goes_on, end_as, has_ended, is_waiting, is_stopped}
use Rattle.herm_system.specs.Summary.{Counts, how_many, cut, one}
use Rattle.herm_system.specs.Systems.{standing}
use Rattle.herm_waking.specs.AddedCounts.{added}
use Rattle.herm_waking.specs.Unnamed.{Unnamed, bare_can, ports_of_want}

-- What became of a process that stands so. Language reference, "Processes".
abbrev pub bare_fate_as : Standing → (limit : ℕ) → (exception : Option ℕ) → (ports : List ℕ) → Fate
bare_fate_as ended limit exception ports = end_as exception
bare_fate_as out_of_steps limit exception ports = spent_steps limit
bare_fate_as out_of_actions limit exception ports = spent_actions greatest_actions
bare_fate_as waiting limit exception ports = waits ports
bare_fate_as local limit exception ports = goes_on
bare_fate_as acting limit exception ports = goes_on

abbrev pub bare_fate_of : {Q : Type 0} → Machine ⊤ Q → Unnamed Q → ℕ × Q → Fate
bare_fate_of machine v (p, x) = bare_fate_as (standing machine v.book.limits.steps (bare_can v p) x) v.book.limits.steps (machine.exception x) (ports_of_want (machine.wanted x))

abbrev pub bare_fates : {Q : Type 0} → Machine ⊤ Q → Unnamed Q → List Fate
bare_fates machine v = map (bare_fate_of machine v) (numbered 1 v.processes)

-- The texts of the messages that are queued at each port, by number. Language reference, "Reports".
abbrev pub bare_queues : {Q : Type 0} → Unnamed Q → List (ℕ × List Text)
bare_queues v = numbered 0 (map (λ (p : Port (Cell ⊤)). map text_of (left_in p)) v.ports)

-- each cell counts as one
abbrev pub each_one : ⊤ → ℕ
each_one n = 1

-- The numbers of the summary, added up. Language reference, "The summary".
abbrev pub bare_counts : {Q : Type 0} → Machine ⊤ Q → Unnamed Q → Counts
bare_counts machine v = record {
  processes = length v.processes;
  ended = how_many has_ended (bare_fates machine v);
  waiting = how_many is_waiting (bare_fates machine v);
  stopped = how_many is_stopped (bare_fates machine v);
  ports = length v.ports;
  unclosed = how_many (λ (p : Port (Cell ⊤)). p.is_open) v.ports;
  steps = total machine.steps v.processes;
  actions = total machine.actions v.processes;
  made = cut (5 + added (λ x. cut (machine.serial x)) v.processes);
  held = cut (1 + added (λ x. cut (held_by each_one machine x)) v.processes);
  queued = cut (added (λ (p : Port (Cell ⊤)). cut (weigh_all each_one (left_in p))) v.ports + added (λ (rs : Replies (CellReply ⊤)). cut (total (λ (r : ℕ × CellReply ⊤). weigh_reply each_one r.1) rs)) v.replies);
  finalised = added (λ x. cut (length (machine.finalised x))) v.processes;
}

-- A process counts the same without the names of its cells, and ends the same.
pub record CountsWithoutNames {P Q : Type 0} (machine : Machine Name P) (nameless : Machine ⊤ Q) (without : P → Q) : Type 0 where
  pub exceptions : (x : P) → nameless.exception (without x) ≡ machine.exception x
  pub steps : (x : P) → nameless.steps (without x) ≡ machine.steps x
  pub actions : (x : P) → nameless.actions (without x) ≡ machine.actions x
  pub serials : (x : P) → nameless.serial (without x) ≡ machine.serial x
  pub held : (x : P) → held_by each_one nameless (without x) ≡ held_by one machine x
  pub finalised : (x : P) → length (nameless.finalised (without x)) ≡ length (machine.finalised x)
