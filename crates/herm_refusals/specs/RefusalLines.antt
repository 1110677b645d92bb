-- The lines of a refusal. Language reference, "Refusals".
use Rattle.std.specs.Prelude.{ℕ, cond, nat_eq, List, [], ◌∷◌, ◌++◌, codes, decimal, get_or}
use Rattle.herm_words.specs.ToldWords.{reason_words}
use Rattle.herm_refusals.specs.declared.fault.Fault.{Fault}

-- where a fault stands: the name of its file, the line and the column; a fault of no file is the program's
abbrev pub place_text : (names : List (List ℕ)) → Fault → List ℕ
place_text names fault = cond (nat_eq fault.line 0) (codes "hermes") (get_or names fault.file [] ++ (58 ∷ (decimal fault.line ++ (58 ∷ decimal fault.column))))

-- a fault's line: the place, the code and the words, ended by a newline
abbrev pub refusal_text : (names : List (List ℕ)) → Fault → List ℕ
refusal_text names fault = place_text names fault ++ (codes ": F" ++ (decimal fault.code ++ (32 ∷ (reason_words fault.reason ++ (10 ∷ [])))))

-- a line for each, in order
abbrev pub refusals_text : (names : List (List ℕ)) → List Fault → List ℕ
refusals_text names [] = []
refusals_text names (fault ∷ faults) = refusal_text names fault ++ refusals_text names faults
