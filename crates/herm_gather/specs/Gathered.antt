-- The numbers of a run, from what its parts count. Language reference, "The summary".
use Rattle.std.specs.Prelude.{ℕ, ◌+◌, List, length}
use Rattle.herm_model.specs.Lists.{total}
use Rattle.herm_system.specs.ProcessFates.{Fate, has_ended, is_waiting, is_stopped}
use Rattle.herm_system.specs.Summary as summary
use Rattle.herm_system.specs.Summary.{cut, how_many}
use Rattle.herm_waking.specs.AddedCounts.{added}
use Rattle.herm_gather.specs.declared.counting.PortCounts.{PortCounts}
use Rattle.herm_gather.specs.declared.counting.ProcCounts.{ProcCounts}

-- five cells were made at the start, and the console holds one
abbrev pub gathered : List Fate → List ProcCounts → List PortCounts → (replies : List ℕ) → summary.Counts
gathered ends processes ports replies = record {
  processes = length processes;
  ended = how_many has_ended ends;
  waiting = how_many is_waiting ends;
  stopped = how_many is_stopped ends;
  ports = length ports;
  unclosed = how_many (λ (p : PortCounts). p.is_open) ports;
  steps = total (λ (p : ProcCounts). p.steps) processes;
  actions = total (λ (p : ProcCounts). p.actions) processes;
  made = cut (5 + added (λ (p : ProcCounts). p.made) processes);
  held = cut (1 + added (λ (p : ProcCounts). p.held) processes);
  queued = cut (added (λ (p : PortCounts). p.cells) ports + added (λ (n : ℕ). n) replies);
  finalised = added (λ (p : ProcCounts). p.finalised) processes;
}
