-- The claim: what a call of the program says of files whose bytes were read. It has two halves, of files that are accepted, and run or checked, and of refusals.
use Rattle.std.specs.Prelude.{◌≡◌, ◌≢◌, ℕ, List, [], length, map, Option, Some, None}
use Rattle.herm_edge.specs.Shelf.{File}
use Rattle.herm_model.specs.Lists.{IsIn}
use Rattle.herm_model.specs.Statements.{Process}
use Rattle.herm_model.specs.MissingFacts.{IsAccepted}
use Rattle.herm_model.specs.Values.{Name}
use Rattle.herm_journal.specs.Entries.{Text}
use Rattle.herm_journal.specs.Journals.{ordered}
use Rattle.herm_system.specs.ProcessFates.{fates}
use Rattle.herm_system.specs.Reports.{Report}
use Rattle.herm_system.specs.Rounds.{rounds}
use Rattle.herm_system.specs.RunTexts.{queues, text_of_run}
use Rattle.herm_system.specs.Statuses.{status_of}
use Rattle.herm_system.specs.Summary.{counts}
use Rattle.herm_system.specs.Systems.{Run, start}
use Rattle.herm_meaning.specs.Names.{NamedTable}
use Rattle.herm_source.specs.Modules.{Program, Modules}
use Rattle.herm_source.specs.Checked.{IsChecked}
use Rattle.herm_source.specs.AcceptedRuns.{Describes}
use Rattle.herm_source.specs.Instance.{source}
use Rattle.herm_source.specs.States.{State}
use Rattle.herm_compile.specs.ThirdPhase.{HaveProgram}
use Rattle.herm_compile.specs.Refused.{AreRefused}
use Rattle.herm_refusals.specs.declared.fault.Fault.{Fault}
use Rattle.herm_claim.specs.Purposes.{Purpose, check, run, Options}
use Rattle.herm_refusals.specs.RefusalLines.{refusals_text}
use Rattle.herm_sizes.specs.AcceptedLines.{accepted_text}

abbrev pub names_of : List File → List (List ℕ)
names_of files = map (λ (f : File). f.name) files

abbrev pub bytes_of : List File → List (List ℕ)
bytes_of files = map (λ (f : File). f.bytes) files

-- The files mean a typed program, and each of its processes is accepted: each statement finds each fact that it needs held on every control
-- path to it. The record of this name in herm_source is of modules. Language reference, "Refusals".
pub record AreAccepted (files : List (List ℕ)) : Type 0 where
  pub types : NamedTable
  pub processes : List Process
  pub main : ℕ
  pub program : HaveProgram files types processes main
  pub each : (p : Process) → IsIn p processes → IsAccepted types.shapes p

-- The report is that of the run by rounds: in each round every process that can step makes its next event, in the order of their numbers, until none can. The modules, the
-- limits and the argument determine this run. Language reference, "Rounds".
pub record IsByRounds (modules : Modules) (options : Options) (names : List Text) (report : Report) : Type 0 where
  pub most : ℕ
  pub last : Run (State Name)
  pub rounds_to : rounds most (source modules) (start (source modules) options.limits options.argument) ≡ Some last
  pub journal : ordered last.journal ≡ report.journal
  pub ends : fates (source modules) last.system ≡ report.ends
  pub queued : queues last.system ≡ report.queued
  pub counts : counts (source modules) last.system ≡ report.counts
  pub status : status_of (source modules) last.system ≡ report.status
  pub text : text_of_run names options.asked (source modules) last ≡ report.text

-- *Runs.* The files mean a program, whose processes are accepted with their exact labels as modules; and what is told is the report of a run of these modules in the
-- source machine, from the opening state, with these limits and this argument (`Describes`), the one by rounds (`IsByRounds`). Its status and its text, which tells what is asked for, are the call's.
pub record Runs (options : Options) (files : List (List ℕ)) (status : ℕ) (text : Text) (told : Option Report) : Type 0 where
  pub types : NamedTable
  pub program : Program
  pub means : HaveProgram files types program.processes program.main
  pub over : program.types ≡ types.shapes
  pub modules : Modules
  pub accepted : IsChecked (length types.exceptions) program modules
  pub report : Report
  pub is_told : told ≡ Some report
  pub describes : Describes modules options.limits options.argument types.exceptions options.asked report
  pub by_rounds : IsByRounds modules options types.exceptions report
  pub status_is : status ≡ report.status
  pub text_is : text ≡ report.text

-- *Checks.* The files are accepted and are not run: the text says how many processes and statements they have, with status 0, and no report is there.
-- Language reference, "Statuses and texts".
pub record Checks (files : List (List ℕ)) (status : ℕ) (text : Text) (told : Option Report) : Type 0 where
  pub accepted : AreAccepted files
  pub text_is : text ≡ accepted_text accepted.processes
  pub status_is : status ≡ 0
  pub unreported : told ≡ None

-- accepted files are checked or run, whichever is asked for
abbrev pub Accepts : Purpose → (files : List (List ℕ)) → (status : ℕ) → Text → Option Report → Type 0
Accepts check files status text told = Checks files status text told
Accepts (run options) files status text told = Runs options files status text told

-- *Refusals.* The faults are those of the first phase that has one: of the bytes and trees of files, of definitions, of names and types, or the facts that
-- statements lack, each with a shortest control path on which the fact is not held (`AreRefused`). There are none exactly where the files are accepted. Where there are
-- some, the text is a line for each, in their order, with status 1, and no report.
pub record Refusals (files : List File) (faults : List Fault) (status : ℕ) (text : Text) (told : Option Report) : Type 0 where
  pub first : faults ≢ [] → AreRefused (bytes_of files) faults
  pub none : faults ≡ [] → AreAccepted (bytes_of files)
  pub only : AreAccepted (bytes_of files) → faults ≡ []
  pub lines : faults ≢ [] → text ≡ refusals_text (names_of files) faults
  pub status_is : faults ≢ [] → status ≡ 1
  pub unreported : faults ≢ [] → told ≡ None

-- The claim of a call over these files, of which this is asked for: what its status, its text and its report say of them.
pub record Claim (purpose : Purpose) (files : List File) (status : ℕ) (text : Text) (told : Option Report) : Type 0 where
  pub faults : List Fault
  pub accepts : faults ≡ [] → Accepts purpose (bytes_of files) status text told
  pub refusals : Refusals files faults status text told
