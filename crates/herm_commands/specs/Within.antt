-- The bounds of what the words may ask for (Language reference, "The command line").
use Rattle.std.specs.Prelude.{◌≡◌, ◌≤◌, ℕ, List, length, Some, true, false}
use Rattle.clap.specs.Words.{Text}
use Rattle.herm_commands.specs.Words.{Asked, Options, Subject, asked, check, files, has_twin, is_arg, make, ring, run}

-- there is a file, there are at most 64, and none is named twice
pub record AreFilesWithin (names : List Text) : Type 0 where
  pub some : 1 ≤ length names
  pub few : length names ≤ 64
  pub distinct : has_twin names ≡ false

pub record AreNodesWithin (nodes : ℕ) : Type 0 where
  pub some : 1 ≤ nodes
  pub few : nodes ≤ 1000

pub record AreOptionsWithin (options : Options) : Type 0 where
  pub some_worker : 1 ≤ options.workers
  pub few_workers : options.workers ≤ 1
  pub some_step : 1 ≤ options.steps
  pub few_steps : options.steps ≤ 1000000
  pub some_process : 1 ≤ options.processes
  pub few_processes : options.processes ≤ 1024
  pub some_port : 1 ≤ options.ports
  pub few_ports : options.ports ≤ 16384
  pub arg : is_arg options.arg ≡ true

abbrev pub IsSubjectWithin : Subject → Type 0
IsSubjectWithin (files names) = AreFilesWithin names
IsSubjectWithin (ring nodes) = AreNodesWithin nodes

abbrev pub IsWithin : Asked → Type 0
IsWithin (check names) = AreFilesWithin names
IsWithin (run options subject) = AreOptionsWithin options × IsSubjectWithin subject
IsWithin (make nodes) = AreNodesWithin nodes

-- whatever words ask for is within its bounds
pub record AreWithin : Type 0 where
  pub asked_for : (words : List Text) (wanted : Asked) → asked words ≡ Some wanted → IsWithin wanted
