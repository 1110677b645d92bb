-- What a value holds beyond the facts at which it travels: what a send drops. Language reference, "Excess".
use Rattle.std.specs.Prelude.{ℕ, ◌+◌, List, [], ◌∷◌, ◌++◌, map, Option}
use Rattle.herm_model.specs.Lists.{any_pass, list_of}
use Rattle.herm_model.specs.Paths.{Path, Fact, init, same_fact}
use Rattle.herm_model.specs.Types.{TypeTable, type_at}
use Rattle.herm_model.specs.Facts.{full_facts, declared_facts}
use Rattle.herm_model.specs.Calls.{inport_at}
use Rattle.herm_model.specs.Values.{no_parts, part, has_value, cell_at}
use Rattle.herm_model.specs.Finalising.{excess}
use Rattle.herm_forms.specs.Frames.{Frame}
use Rattle.herm_forms.specs.Modules.{Module}

-- a path of variable 0, said of the value at a path
abbrev pub below : Path → Path → Path
below x [] = x
below x (v ∷ q) = x ++ q

-- What the value at a path, of this type, holds beyond these facts, which are said of it as variable 0: the topmost
-- such paths, in the order of parts. Language reference, "Excess".
abbrev pub excess_at : {N : Type 0} → TypeTable → Option ℕ → List Fact → Path → Frame N → List Path
excess_at types t facts x b =
    list_of
    (λ c. list_of
    (λ u. map (below x) (excess types (u ∷ []) (has_value (part c no_parts)) (λ p. any_pass (same_fact (init p)) facts)))
    t)
    (cell_at x b.variables)

-- beyond a full value
abbrev pub excess_over_full : {N : Type 0} → Module → Path → Frame N → List Path
excess_over_full code x b =
    excess_at code.types (type_at code.types code.variables x) (list_of (λ t. full_facts code.types t (0 ∷ [])) (type_at code.types code.variables x)) x b

-- beyond the facts at which messages travel to where the outport at a path leads
abbrev pub excess_over_declared : {N : Type 0} → Module → (port source : Path) → Frame N → List Path
excess_over_declared code o x b =
    excess_at code.types (type_at code.types code.variables x) (list_of (λ t. declared_facts code.types t (0 ∷ [])) (inport_at code.types code.variables o)) x b
