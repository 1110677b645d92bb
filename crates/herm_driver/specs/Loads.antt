-- The loads of a call: which files it asks a shelf for, and what the shelf answers. `loads` is what the shelf says of a load.
-- (Language reference, "The outside", "Statuses and texts")
use Rattle.std.specs.Prelude.{◌≡◌, ℕ, ◌≤◌, List, [], ◌∷◌, Option, Some, None, length, take, option_map}
use Rattle.herm_edge.specs.Faults.{Rose}
use Rattle.herm_edge.specs.Shelf.{File, Load, FileAnswer, given, not_there, not_read, no_memory, file_at}

-- how much of a file is read: one byte more than a file may have
unfoldable pub load_limit : ℕ
load_limit = 1048577

-- a load of the program
abbrev pub load_of : List ℕ → FileAnswer → Load
load_of name answer = record { name = name; limit = load_limit; answer = answer }

-- The files with these names were loaded with these answers: in order, each once, and none behind the first whose bytes were not given.
abbrev pub AreLoaded : {S : Type 0} → (S → Load → S → Type 0) → List (List ℕ) → List FileAnswer → S → S → Type 0
AreLoaded loads [] [] before after = after ≡ before
AreLoaded loads [] (answer ∷ answers) before after = ⊥
AreLoaded loads (name ∷ names) [] before after = ⊥
AreLoaded {S} loads (name ∷ names) (given bytes ∷ answers) before after =
    (between : S) × loads before (load_of name (given bytes)) between × (length bytes ≤ load_limit)
    × AreLoaded loads names answers between after
AreLoaded loads (name ∷ names) (not_there ∷ answers) before after = loads before (load_of name not_there) after × (answers ≡ [])
AreLoaded loads (name ∷ names) (not_read ∷ answers) before after = loads before (load_of name not_read) after × (answers ≡ [])
AreLoaded loads (name ∷ names) (no_memory ∷ answers) before after = loads before (load_of name no_memory) after × (answers ≡ [])

-- a count of faults rose where a file could not be read, and else is as before
abbrev pub CountsFaults : List FileAnswer → ℕ → ℕ → Type 0
CountsFaults [] before after = after ≡ before
CountsFaults (given bytes ∷ answers) before after = CountsFaults answers before after
CountsFaults (not_there ∷ answers) before after = after ≡ before
CountsFaults (not_read ∷ answers) before after = Rose before after
CountsFaults (no_memory ∷ answers) before after = after ≡ before

-- an answer is what told files say of a name: the first bytes of its file, or that there is none
abbrev pub IsTold : Option (List ℕ) → FileAnswer → Type 0
IsTold file (given bytes) = option_map (take load_limit) file ≡ Some bytes
IsTold file not_there = file ≡ None
IsTold file not_read = Unit {0}
IsTold file no_memory = Unit {0}

abbrev pub AreTold : List File → List (List ℕ) → List FileAnswer → Type 0
AreTold files [] answers = Unit {0}
AreTold files (name ∷ names) [] = Unit {0}
AreTold files (name ∷ names) (answer ∷ answers) = IsTold (file_at files name) answer × AreTold files names answers

-- Memory was wanting: the first of the named files were loaded, some of them or all, and the rest was not asked for.
pub record FirstAreLoaded {S : Type 0} (loads : S → Load → S → Type 0) (names : List (List ℕ)) (before after : S) : Type 0 where
  pub count : ℕ
  pub answers : List FileAnswer
  pub loaded : AreLoaded loads (take count names) answers before after
