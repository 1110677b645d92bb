-- What is asked for of files: that they are checked, or that they are run. Language reference, "The command line".
use Rattle.herm_journal.specs.Entries.{Text}
use Rattle.herm_journal.specs.NextNumbers.{Limits}
use Rattle.herm_system.specs.RunTexts.{Asked}

-- How files are run: under which limits, with which argument for the main process, and what is told besides.
pub record Options : Type 0 where
  pub limits : Limits
  pub argument : Text
  pub asked : Asked

pub data Purpose : Type 0 where
  check : Purpose
  run : Options → Purpose
