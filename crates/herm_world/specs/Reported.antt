-- What is reported of the processes and the places of a world.
use Rattle.std.specs.Prelude.{◌≡◌, ℕ, List, Bool, false, map, flat_map, length, ⊤}
use Rattle.herm_model.specs.Lists.{total}
use Rattle.herm_journal.specs.Entries.{Text, Entry}
use Rattle.herm_journal.specs.Journals.{IsRising, part_of_process}
use Rattle.herm_journal.specs.Messages.{CellWant}
use Rattle.herm_journal.specs.Weights.{weigh_all, weigh_reply}
use Rattle.herm_system.specs.Ledger.{held_by}
use Rattle.herm_system.specs.Machines.{Machine}
use Rattle.herm_system.specs.ProcessFates.{Fate, spent_steps, spent_actions}
use Rattle.herm_system.specs.Summary.{cut}
use Rattle.herm_system.specs.Systems.{standing}
use Rattle.herm_instructions.specs.Images.{Image}
use Rattle.herm_code_machine.specs.CodeStates.{CodeState}
use Rattle.herm_waking.specs.Unnamed.{ports_of_want}
use Rattle.herm_waking.specs.UnnamedReport.{bare_fate_as}
use Rattle.herm_values.specs.View.{value_view}
use Rattle.herm_values.specs.declared.value.Value.{Value}
use Rattle.herm_letters.specs.View.{reply_view}
use Rattle.herm_letters.specs.declared.reply.Reply.{Reply}
use Rattle.herm_queue.specs.CellStates.{value_text}
use Rattle.herm_queue.specs.PortStates.{PortState}
use Rattle.herm_queue.specs.ReplyStates.{ReplyState}
use Rattle.herm_machine.specs.Machines.{nameless}
use Rattle.herm_process.specs.Processes.{ProcessState, IsProcess}
use Rattle.herm_process.specs.declared.next.Spent.{Spent}
use Rattle.herm_process.specs.declared.next.Spent.TheVariants as spent
use Rattle.herm_report.specs.View.{proc_end_view, proc_ends_view, numbered_queues, counts_view}
use Rattle.herm_report.specs.declared.report.Counts.{Counts}
use Rattle.herm_report.specs.declared.report.ProcEnd.{ProcEnd}
use Rattle.herm_report.specs.declared.report.Report.{Report}
use Rattle.herm_gather.specs.Gathered.{gathered}
use Rattle.herm_gather.specs.declared.counting.PortCounts.{PortCounts}
use Rattle.herm_gather.specs.declared.counting.ProcCounts.{ProcCounts}
use Rattle.herm_world.specs.Looks.{can_so}
use Rattle.herm_world.specs.Worlds.{AreAlike}

-- there is a state for which the process stands, and it cannot step there
abbrev pub IsAtRest : ProcessState → Type 0
IsAtRest p = (image : Image) × (main : ℕ) × (x : CodeState ⊤) × (can : CellWant ⊤ → Bool) × IsProcess image main p x × (can_so (standing (nameless image main) p.limit can x) ≡ false)

-- What became of a process, at each state for which it stands and at which it cannot step. Language reference, "Processes".
abbrev pub IsEndOf : ProcessState → ProcEnd → Type 0
IsEndOf p e = (image : Image) (main : ℕ) (x : CodeState ⊤) (can : CellWant ⊤ → Bool) → IsProcess image main p x → can_so (standing (nameless image main) p.limit can x) ≡ false
    → proc_end_view e ≡ bare_fate_as (standing (nameless image main) p.limit can x) p.limit ((nameless image main).exception x) (ports_of_want ((nameless image main).wanted x))

-- the limit that a process has reached
abbrev pub reached_view : Spent → Fate
reached_view (spent.Steps n) = spent_steps n
reached_view (spent.Actions n) = spent_actions n

-- what a process counts at a state
pub record CountsAs {P : Type 0} (machine : Machine ⊤ P) (x : P) (t : ProcCounts) : Type 0 where
  pub steps : t.steps ≡ machine.steps x
  pub actions : t.actions ≡ machine.actions x
  pub made : t.made ≡ cut (machine.serial x)
  pub held : t.held ≡ cut (held_by (λ n. 1) machine x)
  pub finalised : t.finalised ≡ cut (length (machine.finalised x))

-- at each state for which it stands
abbrev pub AreCountsOf : ProcessState → ProcCounts → Type 0
AreCountsOf p t = (image : Image) (main : ℕ) (x : CodeState ⊤) → IsProcess image main p x → CountsAs (nameless image main) x t

-- the texts that are queued at a port, with its number, and what it counts
abbrev pub left_queue : PortState → ℕ × List Text
left_queue p = (p.number, map (λ (m : ℕ × Value). value_text m.1) p.held.queue)

abbrev pub port_counts : PortState → PortCounts
port_counts p = record { is_open = p.held.is_open; cells = cut (weigh_all (λ n. 1) (map (λ (m : ℕ × Value). value_view m.1) p.held.queue)) }

-- how many cells wait in a reply cell
abbrev pub reply_cells : ReplyState → ℕ
reply_cells r = cut (total (λ (r : ℕ × Reply). weigh_reply (λ n. 1) (reply_view r.1)) r.waiting)

-- The numbers are those of these processes, ports and reply cells. Language reference, "The summary".
pub record HasCounts (ps : List ProcessState) (ends : List Fate) (ports : List PortCounts) (replies : List ℕ) (c : Counts) : Type 0 where
  pub processes : List ProcCounts
  pub each : AreAlike AreCountsOf ps processes
  pub gathers : counts_view c ≡ gathered ends processes ports replies

-- the entries of all diaries
abbrev pub all_entries : List ProcessState → List Entry
all_entries ps = flat_map (λ (p : ProcessState). p.diary) ps

-- The report tells of these processes, ports and reply cells. Language reference, "Reports".
pub record IsReported (ps : List ProcessState) (ports : List PortState) (replies : List ReplyState) (r : Report) : Type 0 where
  pub ends : AreAlike IsEndOf ps r.ends.items
  pub queued : numbered_queues r.queued.items ≡ map left_queue ports
  pub counts : HasCounts ps (proc_ends_view r.ends.items) (map port_counts ports) (map reply_cells replies) r.counts
  pub journal_rises : IsRising r.journal
  pub journal_parts : (p : ℕ) → part_of_process p r.journal ≡ part_of_process p (all_entries ps)
