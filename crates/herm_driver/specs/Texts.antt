-- The texts that the program writes. (Language reference, "Statuses and texts")
use Rattle.std.specs.Prelude.{ℕ, List, ◌++◌, codes}
use Rattle.herm_refusals.specs.RefusalLines.{refusals_text}
use Rattle.herm_driver.specs.declared.outcome.Text.{Text}
use Rattle.herm_driver.specs.declared.outcome.Text.TheVariants.{Whole, Lines}

abbrev pub usage_text : List ℕ
usage_text = codes "usage: hermes check FILE.. | hermes run OPTIONS FILE.. | hermes make N\n"

-- a line of the program about a file
abbrev pub file_text : List ℕ → List ℕ → List ℕ
file_text name what = codes "hermes: " ++ name ++ what

abbrev pub read_fault_text : List ℕ → List ℕ
read_fault_text name = file_text name (codes ": read fault\n")

abbrev pub not_found_text : List ℕ → List ℕ
not_found_text name = file_text name (codes ": not found\n")

-- the bytes of a text
abbrev pub text_view : Text → List ℕ
text_view (Whole bytes) = bytes.items
text_view (Lines names faults room) = refusals_text names.items faults.items
