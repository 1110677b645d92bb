-- What a shelf answers. (Language reference, "The outside".)
use Rattle.std.specs.Prelude.{ℕ, List, [], ◌∷◌, Option, Some, None, if◌then◌else◌}
use Rattle.std.specs.Str.{bytes_eq}
use Rattle.herm_edge.specs.Faults.{next_count}
use Rattle.herm_edge.specs.declared.shelf.Loaded.{Loaded}
use Rattle.herm_edge.specs.declared.shelf.Loaded.TheVariants.{Here, Missing, Failed, Memory}

-- a file that a shelf tells
pub record File : Type 0 where
  pub name : List ℕ
  pub bytes : List ℕ

-- What a load answered: the first bytes of the file, that no file has the name, that the file could not be read, or that
-- memory was wanting.
pub data FileAnswer : Type 0 where
  given : List ℕ → FileAnswer
  not_there : FileAnswer
  not_read : FileAnswer
  no_memory : FileAnswer

-- a load of a file: the name that was asked for, how many bytes at most, and what was answered
pub record Load : Type 0 where
  pub name : List ℕ
  pub limit : ℕ
  pub answer : FileAnswer

-- the bytes of the file with this name, if there is one; of several the first counts
abbrev pub file_at : List File → List ℕ → Option (List ℕ)
file_at [] name = None
file_at (file ∷ files) name = if bytes_eq file.name name then Some file.bytes else file_at files name

-- a fact about the bytes that were loaded
abbrev pub IfHere : Loaded → (List ℕ → Type 0) → Type 0
IfHere (Here bytes) P = P bytes.items
IfHere Missing P = Unit {0}
IfHere Failed P = Unit {0}
IfHere Memory P = Unit {0}

-- a fact where no file has the name
abbrev pub OnMissing : Loaded → Type 0 → Type 0
OnMissing (Here bytes) P = Unit {0}
OnMissing Missing P = P
OnMissing Failed P = Unit {0}
OnMissing Memory P = Unit {0}

-- a fact where the load failed
abbrev pub OnFailed : Loaded → Type 0 → Type 0
OnFailed (Here bytes) P = Unit {0}
OnFailed Missing P = Unit {0}
OnFailed Failed P = P
OnFailed Memory P = Unit {0}

-- a fact where the load did not fail
abbrev pub UnlessFailed : Loaded → Type 0 → Type 0
UnlessFailed (Here bytes) P = P
UnlessFailed Missing P = P
UnlessFailed Failed P = Unit {0}
UnlessFailed Memory P = P

-- a count of faults after a load with this answer: one higher where the file could not be read
abbrev pub faults_after : FileAnswer → ℕ → ℕ
faults_after (given bytes) faults = faults
faults_after not_there faults = faults
faults_after not_read faults = next_count faults
faults_after no_memory faults = faults
