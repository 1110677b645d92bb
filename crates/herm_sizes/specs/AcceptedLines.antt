-- The line on files that are accepted and not run. Language reference, "Statuses and texts".
use Rattle.std.specs.Prelude.{ℕ, ◌+◌, List, [], ◌∷◌, ◌++◌, length, codes, decimal}
use Rattle.herm_model.specs.Statements.{Process, numbers_of_block}

-- how many statements the processes have, those inside statements too
abbrev pub statements_in : List Process → ℕ
statements_in [] = 0
statements_in (p ∷ ps) = numbers_of_block p.body + statements_in ps

abbrev pub accepted_text : List Process → List ℕ
accepted_text processes =
    codes "accepted: processes " ++ decimal (length processes) ++ codes " statements " ++ decimal (statements_in processes) ++ 10 ∷ []
