-- How a run ends: what became of each process, the status, the numbers of the summary, and the text that is written.
use Rattle.std.specs.Prelude.{ℕ, List, [], ◌∷◌, ◌++◌, flat_map, cond, Option, Some, codes}
use Rattle.herm_model.specs.Lists.{any_pass, list_of, numbered}
use Rattle.herm_model.specs.Values.{Name}
use Rattle.herm_journal.specs.Ports.{first_of}
use Rattle.herm_journal.specs.Entries.{Text}
use Rattle.herm_journal.specs.EntryTexts.{and_number, name_in}
use Rattle.herm_system.specs.Machines.{Machine, ended}
use Rattle.herm_system.specs.Systems.{System}
use Rattle.herm_system.specs.ProcessFates.{Fate, ended_normally, ended_by, waits, spent_steps, spent_actions, fates, is_stopped}
use Rattle.herm_system.specs.TextLines.{line, first_line}

-- The status of a final state, by what became of process 1 first: 0 where it ended normally, 6 where an exception
-- ended it; else 8 where a limit stopped some process, and 7 where none did. Language reference, "Statuses".
abbrev pub status_by : Option Fate → List Fate → ℕ
status_by (Some ended_normally) all = 0
status_by (Some (ended_by e)) all = 6
status_by first all = cond (any_pass is_stopped all) 8 7

abbrev pub status_of : {P : Type 0} → Machine Name P → System P → ℕ
status_of machine s = status_by (first_of (fates machine s)) (fates machine s)

-- the line on a stopped process, with its number
abbrev pub spent_line : ℕ × Fate → List Text
spent_line (p, spent_steps limit) = (codes "hermes: process" ++ and_number p ++ codes " spent" ++ and_number limit ++ codes " steps") ∷ []
spent_line (p, spent_actions limit) = (codes "hermes: process" ++ and_number p ++ codes " spent" ++ and_number limit ++ codes " actions") ∷ []
spent_line (p, f) = []

-- the line on a waiting process 1
abbrev pub waiting_line : List ℕ → Text
waiting_line [] = codes "hermes: process 1 waits for a reply"
waiting_line (n ∷ ports) = codes "hermes: process 1 waits on port" ++ flat_map and_number (n ∷ ports)

abbrev pub line_of_wait : Fate → List Text
line_of_wait (waits ports) = waiting_line ports ∷ []
line_of_wait f = []

-- The line on the status, with the names of exceptions by number: none where process 1 ended normally; else by which
-- exception it ended, the stopped process of least number, or what process 1 waits for.
-- Language reference, "Statuses".
abbrev pub status_line_by : List Text → Option Fate → List Fate → Text
status_line_by names (Some ended_normally) all = []
status_line_by names (Some (ended_by e)) all = line (codes "hermes: main ended by " ++ name_in names e)
status_line_by names first all = first_line (flat_map spent_line (numbered 1 all) ++ list_of line_of_wait first)

abbrev pub status_line : {P : Type 0} → List Text → Machine Name P → System P → Text
status_line names machine s = status_line_by names (first_of (fates machine s)) (fates machine s)
