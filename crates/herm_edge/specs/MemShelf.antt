-- A shelf in memory. (Language reference, "The outside".)
use Rattle.std.specs.Prelude.{◌≡◌, ℕ, List, Vec, String, take, option_map, Some, None, IsSome, string_bytes, if◌then◌else◌}
use Rattle.std.specs.Global.{Global}
use Rattle.herm_edge.specs.Faults.{next_count, is_next_failing}
use Rattle.herm_edge.specs.Shelf.{File, file_at}
use Rattle.herm_edge.specs.declared.shelf.Loaded.{Loaded}
use Rattle.herm_edge.specs.declared.shelf.Loaded.TheVariants.{Here, Missing, Failed, Memory}

-- a shelf in memory: its files, the numbers of the calls that fail, and how many calls and faults there were
pub record ShelfState : Type 0 where
  pub files : List File
  pub failing : List ℕ
  pub calls : ℕ
  pub faults : ℕ

-- a pair of a name and bytes is a file
abbrev pub file_of : String Global × Vec ℕ Global → File
file_of pair = record { name = string_bytes pair.0; bytes = pair.1.items }

-- a load counts the call, and the fault where it fails; the files stay
abbrev pub after_load : ShelfState → ShelfState
after_load s = record s { calls = next_count s.calls; faults = if is_next_failing s.failing s.calls then next_count s.faults else s.faults }

-- what files answer of a name, up to a limit: memory may be wanting for the copy
abbrev pub AnswersFiles : List File → List ℕ → ℕ → Loaded → Type 0
AnswersFiles files name limit (Here bytes) = option_map (take limit) (file_at files name) ≡ Some bytes.items
AnswersFiles files name limit Missing = file_at files name ≡ None
AnswersFiles files name limit Failed = ⊥
AnswersFiles files name limit Memory = IsSome (file_at files name)
