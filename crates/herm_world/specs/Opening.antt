-- How a world opens: its places, before and behind the first look at process 1.
use Rattle.std.specs.Prelude.{◌≡◌, ◌∷◌, [], ℕ, List, None, Some, ⊤}
use Rattle.herm_model.specs.Values.{Cell, a_scalar, a_text, a_record, an_inport, an_outport, cell, no_parts, part}
use Rattle.herm_journal.specs.Entries.{Text}
use Rattle.herm_journal.specs.NextNumbers.{Limits, first_book}
use Rattle.herm_journal.specs.Ports.{empty_port, port_with}
use Rattle.herm_instructions.specs.Images.{Image}
use Rattle.herm_code_machine.specs.CodeStates.{CodeState}
use Rattle.herm_code_worlds.specs.CodeWorlds.{nameless}
use Rattle.herm_process.specs.Processes.{ProcessState, IsProcess}
use Rattle.herm_world.specs.Births.{birth_view}
use Rattle.herm_world.specs.Doing.{AreRecorded}
use Rattle.herm_world.specs.Places.{Places, seen_of, waiters_of}

-- The first message: a record of the argument and the outport of the console. Language reference, "Opening state".
abbrev pub first_message : Text → Cell ⊤
first_message argument = cell tt a_record (part (cell tt (a_scalar (a_text argument)) no_parts) (part (cell tt (an_outport 0) no_parts) no_parts))

-- Port 0 is empty, at port 1 is the first message, the reply cell of process 1 is empty; nobody is noted, and nothing is recorded.
pub record AreOpening (limits : Limits) (argument : Text) (s : Places) : Type 0 where
  pub seen : (qs : List (CodeState ⊤)) → seen_of qs s ≡ record { processes = qs; ports = empty_port ∷ port_with (first_message argument) ∷ []; replies = [] ∷ []; book = first_book limits }
  pub waiters : waiters_of s ≡ None ∷ None ∷ []
  pub recorded : AreRecorded [] s

-- The process of main stands for the state in which it begins, at port 1; nobody made it, and nothing is told of it yet.
pub record IsFirst (image : Image) (main limit : ℕ) (p : ProcessState) : Type 0 where
  pub state : CodeState ⊤
  pub begins : (nameless image main).begin main 1 (cell tt (an_inport 1) no_parts) ≡ Some state
  pub stands : IsProcess image main p state
  pub number : p.number ≡ 1
  pub its_limit : p.limit ≡ limit
  pub born : birth_view p.birth ≡ (0, 0)
  pub diary : p.diary ≡ []
  pub clock : p.clock ≡ 0
  pub free : p.ordered ≡ None
