-- What the code's faults stand for.
use Rattle.std.specs.Prelude.{ℕ, Option, List}
use Rattle.herm_model.specs.MissingFacts.{Refusal}
use Rattle.herm_words.specs.ToldWords.{reason_words, reason_refusal}
use Rattle.herm_refusals.specs.declared.fault.Fault.{Fault}

-- A fault without where it lies in memory.
pub record Seen : Type 0 where
  pub file : ℕ
  pub line : ℕ
  pub column : ℕ
  pub code : ℕ
  pub words : List ℕ
  pub missing : Option Refusal

abbrev pub fault_view : Fault → Seen
fault_view f = record { file = f.file; line = f.line; column = f.column; code = f.code; words = reason_words f.reason; missing = reason_refusal f.reason }
