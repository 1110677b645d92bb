-- The code at a name, and the faults of a list of names.
use Rattle.std.specs.Prelude.{ℕ, List, [], ◌∷◌, ◌++◌, map, Option, Some, None, cond, ◌≡◌}
use Rattle.herm_base.specs.declared.word.Name.{Name}
use Rattle.herm_syntax.specs.declared.definitions.DefItem.{DefItem}
use Rattle.herm_meaning.specs.Names.{NamedTable}
use Rattle.herm_meaning.specs.Marks.{Mark, Role, Place, places_in, places_by}
use Rattle.herm_meaning.specs.DefinitionFaults.{unknown, twice, cycle, deep, bad_key, bad_state, Fault, Holds, IsRight, IsFirst, AreFaults}
use Rattle.herm_graph.specs.Tells.{Tells}
use Rattle.herm_defs.specs.declared.fault.DefCode.{DefCode}
use Rattle.herm_defs.specs.declared.fault.DefCode.TheVariants.{Unknown, Twice, Cycle, Deep, BadKey, BadState}
use Rattle.herm_defs.specs.declared.fault.DefFault.{DefFault}
use Rattle.herm_defs.specs.declared.judge.CodeTests.{CodeTests}
use Rattle.herm_defs.specs.View.{def_code_view, def_fault_view}

-- a name in its role
abbrev pub marked : Name → Role → Mark
marked name role = record { name = name; role = role }

module _ (table : NamedTable) where
  -- Each test says whether its code holds at a name.
  pub record Judge (m : Mark) (tests : CodeTests) : Type 0 where
    pub is_unknown : Tells tests.unknown (Holds table unknown (0, m))
    pub is_twice : Tells tests.twice (Holds table twice (0, m))
    pub is_cycle : Tells tests.cycle (Holds table cycle (0, m))
    pub is_deep : Tells tests.deep (Holds table deep (0, m))
    pub is_bad_key : Tells tests.bad_key (Holds table bad_key (0, m))
    pub is_bad_state : Tells tests.bad_state (Holds table bad_state (0, m))

  -- it is the first code that holds at a name, or none holds
  abbrev pub IsCodeAt : Mark → Option DefCode → Type 0
  IsCodeAt m None = IsRight table (0, m)
  IsCodeAt m (Some c) = IsFirst table (def_code_view c) (0, m)

-- the first code of which the test holds
abbrev pub first_code : CodeTests → Option DefCode
first_code t =
    cond t.unknown (Some Unknown) (cond t.twice (Some Twice) (cond t.cycle (Some Cycle) (cond t.deep (Some Deep) (cond t.bad_key (Some BadKey) (cond t.bad_state (Some BadState) None)))))

-- a fault of a module at a name, where there is a code
abbrev pub faults_by : ℕ → Name → Option DefCode → List Fault
faults_by module' name None = []
faults_by module' name (Some c) = record { code = def_code_view c; module' = module'; span = name.span } ∷ []

-- the faults of these names of a module were appended
abbrev pub Judges : NamedTable → ℕ → List Mark → List DefFault → List DefFault → Type 0
Judges table module' marks old new = (more : List Fault) × (map def_fault_view new ≡ map def_fault_view old ++ more) × AreFaults table (places_in module' marks) more

-- The faults of an item were appended, where the next type and the next exception have these numbers, and behind it those.
abbrev pub JudgesItem : NamedTable → ℕ → DefItem → ℕ → ℕ → ℕ × ℕ → List DefFault → List DefFault → Type 0
JudgesItem table module' item t e next old new =
    (more : List Fault) × (map def_fault_view new ≡ map def_fault_view old ++ more)
    × ((behind : ℕ → ℕ → List Place) (rest : List Fault) → AreFaults table (behind next.0 next.1) rest → AreFaults table (places_by module' item.name item.form t e behind) (more ++ rest))
