-- Reading a file that was opened, or was not. (Language reference, "The outside".)
use Rattle.std.specs.Prelude.{◌≢◌, ℕ, Result, Ok, Err}
use Rattle.std.specs.IoError.{error_kind}
use Rattle.std.specs.declared.io.Error.{Error}
use Rattle.std.specs.declared.io.ErrorKind.TheVariants.{NotFound}
use Rattle.herm_edge.specs.Faults.{Rose}

-- a reader, and how many of its reads failed
pub record ReaderState (F : Type 0) : Type 0 where
  pub reader : F
  pub faults : ℕ

-- Why a file that was to be opened, and then read, could not be: a read failed, or opening it did, and not because no file has
-- the name.
abbrev pub FailsToLoad : {F : Type 0} → Result (ReaderState F) Error → Result (ReaderState F) Error → Type 0
FailsToLoad (Ok before) (Ok after) = Rose before.faults after.faults
FailsToLoad (Ok before) (Err e) = ⊥
FailsToLoad (Err e) after = error_kind e ≢ NotFound
