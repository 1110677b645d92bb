-- What is said of one file, and what it adds to what was read.
use Rattle.std.specs.Prelude.{◌≡◌, ◌⊎◌, ℕ, List, [], ◌∷◌, ◌++◌, map, length, replicate, Result, Ok, Err}
use Rattle.std.specs.declared.vec.Vec.{Vec}
use Rattle.std.specs.declared.alloc.Global.{Global}
use Rattle.herm_syntax.specs.declared.modules.Module.{Module}
use Rattle.herm_compile.specs.View.{fault_view}
use Rattle.herm_compile.specs.FirstPhase.{HasModules, HasFileFault, file_fault}
use Rattle.herm_compile.specs.declared.phase.FileFault.{FileFault}
use Rattle.herm_compile.specs.declared.phase.ReadFiles.{ReadFiles}

-- The file has the modules, or the fault.
abbrev pub IsReadFile : List ℕ → Result (Vec Module Global) FileFault → Type 0
IsReadFile bytes (Ok modules) = HasModules bytes modules.items
IsReadFile bytes (Err fault) = HasFileFault bytes fault

-- the modules of the file are added
pub record AreModulesAdded (number : ℕ) (bytes : List ℕ) (before after : ReadFiles) : Type 0 where
  pub own : List Module
  pub read : HasModules bytes own
  pub modules : after.modules.items ≡ before.modules.items ++ own
  pub owners : after.owners.items ≡ before.owners.items ++ replicate (length own) number
  pub faults : after.faults.items ≡ before.faults.items

-- the fault of the file is added
pub record IsFaultAdded (number : ℕ) (bytes : List ℕ) (before after : ReadFiles) : Type 0 where
  pub fault : FileFault
  pub has : HasFileFault bytes fault
  pub faults : map fault_view after.faults.items ≡ map fault_view before.faults.items ++ file_fault number bytes fault ∷ []

abbrev pub IsAdded : ℕ → List ℕ → ReadFiles → ReadFiles → Type 0
IsAdded number bytes before after = AreModulesAdded number bytes before after ⊎ IsFaultAdded number bytes before after
