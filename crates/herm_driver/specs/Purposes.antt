-- What is asked for of files, and files, in the words of the language.
use Rattle.std.specs.Prelude.{ℕ, List, map, IsTrue, ⊤}
use Rattle.std.specs.declared.vec.Vec.{Vec}
use Rattle.std.specs.declared.alloc.Global.{Global}
use Rattle.herm_edge.specs.Shelf.{File}
use Rattle.herm_model.specs.Typed.{is_text}
use Rattle.herm_commands.specs.Words.{options_seen}
use Rattle.herm_claim.specs.Purposes as claim
use Rattle.herm_driver.specs.Words.{options_of}
use Rattle.herm_driver.specs.declared.purpose.Purpose.{Purpose}
use Rattle.herm_driver.specs.declared.purpose.Purpose.TheVariants.{Check, Run}

abbrev pub purpose_view : Purpose → claim.Purpose
purpose_view Check = claim.check
purpose_view (Run options) = claim.run (options_of (options_seen options))

-- the argument for a main process, where there is one, is a text
abbrev pub HasText : claim.Purpose → Type 0
HasText claim.check = ⊤
HasText (claim.run options) = IsTrue (is_text options.argument)

-- files that were read, by their names
abbrev pub files_view : List (List ℕ × Vec ℕ Global) → List File
files_view files = map (λ (f : List ℕ × Vec ℕ Global). record { name = f.0; bytes = f.1.items }) files
