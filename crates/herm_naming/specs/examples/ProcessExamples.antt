-- Processes and the codes at their places.
use Rattle.std.specs.Prelude.{ℕ, List, [], ◌∷◌, map, codes, Option, Some, None, ◌≡◌, replicate}
use Rattle.herm_syntax.specs.Trees.{Letters, Field, Statement, Assign, Leave, While, Raise, New, If, Else, Try, Arm, NoArm}
use Rattle.herm_naming.specs.Meaning.{ProcessText, process_meaning}
use Rattle.herm_naming.specs.StatementFaults.{Code, unknown, twice, wrong_type, no_main, too_many, name_code, process_codes}
use Rattle.herm_naming.specs.RefusalsOfNames.{main_refusals}
use Rattle.herm_naming.specs.examples.ExampleScope.{known, one, atom, at, number, string, in_order}

abbrev pub process : Letters → Letters → List Field → List Statement → ProcessText
process name port variables body = record { name = name; port = (codes "start", port); variables = variables; body = in_order body }

-- process main(start: main_start) { var x: integer, y: nope; x := "a"; z := 1; leave; }
abbrev pub first_process : ProcessText
first_process = process (codes "main") (codes "main_start") ((codes "x", codes "integer") ∷ (codes "y", codes "nope") ∷ [])
    (Assign (one (codes "x")) (atom (string (codes "a"))) ∷ Assign (one (codes "z")) (atom (number 1)) ∷ Leave ∷ [])

abbrev pub FirstProcess : Type 0
FirstProcess = process_codes known (first_process ∷ []) [] first_process
    ≡ (None ∷ None ∷ None ∷ Some unknown ∷ Some wrong_type ∷ Some unknown ∷ Some unknown ∷ [])

-- process p(start: rec) { var start: integer, out: integer, i: nope, i: nope, j: integer, j: string; }, after another p
abbrev pub declaring : ProcessText
declaring = process (codes "p") (codes "rec")
    ((codes "start", codes "integer") ∷ (codes "out", codes "integer") ∷ (codes "i", codes "nope") ∷ (codes "i", codes "nope") ∷ (codes "j", codes "integer") ∷ (codes "j", codes "string") ∷ []) []

abbrev pub Declarations : Type 0
Declarations = process_codes known (declaring ∷ declaring ∷ []) (codes "p" ∷ []) declaring
    ≡ (Some twice ∷ Some wrong_type ∷ Some twice ∷ Some wrong_type ∷ Some unknown ∷ Some unknown ∷ None ∷ Some twice ∷ [])

-- process p(start: li) { var i: integer, b: boolean; while b { leave; if i { leave; } else { z := 1; } }
--   try { leave; } on e { raise f; } new i; }
abbrev pub nested : ProcessText
nested = process (codes "p") (codes "li") ((codes "i", codes "integer") ∷ (codes "b", codes "boolean") ∷ [])
    (While (at (one (codes "b"))) (in_order (Leave ∷ If (at (one (codes "i"))) (in_order (Leave ∷ [])) (Else (in_order (Assign (one (codes "z")) (atom (number 1)) ∷ []))) ∷ []))
    ∷ Try (in_order (Leave ∷ [])) (Arm (codes "e") (in_order (Raise (codes "f") ∷ [])) NoArm)
    ∷ New (one (codes "i")) ∷ [])

abbrev pub Nested : Type 0
Nested = process_codes known (nested ∷ []) [] nested
    ≡ (None ∷ None ∷ None ∷ None ∷ None ∷ None ∷ Some wrong_type ∷ None ∷ Some unknown ∷ None ∷ Some unknown ∷ Some unknown ∷ Some wrong_type ∷ [])

-- no process; a process main of another port; a second main of the right port
abbrev pub mains : List ProcessText → List (Code × ℕ)
mains all = main_refusals known all 0

abbrev pub Main : Type 0
Main = (mains [] ≡ ((no_main, 0) ∷ []))
    × (mains (process (codes "main") (codes "li") [] [] ∷ []) ≡ ((no_main, 0) ∷ []))
    × (mains (process (codes "main") (codes "li") [] [] ∷ process (codes "main") (codes "main_start") [] [] ∷ []) ≡ [])

-- so many statements, and so many variables of one path beside the port
abbrev pub long : ℕ → ProcessText
long n = process (codes "p") (codes "li") [] (replicate n Leave)

abbrev pub wide : ℕ → ProcessText
wide n = process (codes "p") (codes "li") (replicate n (codes "i", codes "integer")) []

abbrev pub code_at_name : ProcessText → Option Code
code_at_name p = name_code known [] p.name (process_meaning known (p ∷ []) p)

abbrev pub Limits : Type 0
Limits = (map code_at_name (long 1024 ∷ long 1025 ∷ wide 4095 ∷ wide 4096 ∷ [])) ≡ (None ∷ Some too_many ∷ None ∷ Some too_many ∷ [])
