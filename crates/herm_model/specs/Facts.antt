-- Facts of paths and of types: what comes before a fact, full values, declared facts, sets of facts.
use Rattle.std.specs.Prelude.{ℕ, List, [], ◌∷◌, ◌++◌, map, Bool, false, not, ◌||◌, Option, Some, None, slice_get, flat_map, filter, cond, length, is_some, ◌<◌, IsTrue, IsFalse}
use Rattle.herm_model.specs.Lists.{map_or, list_of, IsIn}
use Rattle.herm_model.specs.Paths.{Path, Fact, init, case, same_fact, parent}
use Rattle.herm_model.specs.Types.{TypeTable, Shape, cases, inport, type_at, passes_component, part_of, is_variant, part_paths, full_parts}

-- The facts by which there is a value at the end of these steps from the path at, whose type is t: init of each path
-- down to the first variant on the way, and then the component at each variant on the way.
abbrev pub facts_from : TypeTable → Path → Option ℕ → Bool → List ℕ → List Fact
facts_from table at t within [] = cond within [] (init at ∷ [])
facts_from table at t within (i ∷ p) =
    cond within [] (init at ∷ [])
    ++ (cond (is_variant table t) (case at i ∷ []) []
    ++ facts_from table (at ++ i ∷ []) (part_of table t i) (within || is_variant table t) p)

-- The facts by which there is a value at a path, each after those that it needs: init of the path and of each path
-- before it, or, of a path that passes through components, init down to the first variant and then each component.
-- Language reference, "Facts".
abbrev pub facts_to : TypeTable → List ℕ → Path → List Fact
facts_to table variables [] = []
facts_to table variables (v ∷ p) = facts_from table (v ∷ []) (slice_get variables v) false p

-- The facts before a fact, which every closed set has with it, in the same order. `init` of a path needs a value at
-- its parent, `case` of a path a value at the path itself. Language reference, "Facts".
abbrev pub prefixes : TypeTable → List ℕ → Fact → List Fact
prefixes table variables (init p) = facts_to table variables (parent p)
prefixes table variables (case p c) = facts_to table variables p

-- the facts before it, and the fact
abbrev pub with_prefixes : TypeTable → List ℕ → Fact → List Fact
with_prefixes table variables f = prefixes table variables f ++ f ∷ []

-- A set of facts is closed where it has the facts before each of its facts. Language reference, "Facts".
abbrev pub IsClosed : TypeTable → List ℕ → (Fact → Type 0) → Type 0
IsClosed table variables S = (f g : Fact) → S f → IsIn g (prefixes table variables f) → S g

-- the facts without those that stand before, in order
abbrev pub without_repeats : List Fact → List Fact
without_repeats [] = []
without_repeats (f ∷ fs) = f ∷ filter (λ g. not (same_fact f g)) (without_repeats fs)

-- The facts of a full value of a type at a path, parents first: init of the path, and those of each field of a
-- record and of each in and inout parameter of a callmessage. Language reference, "Facts".
abbrev pub full_facts : TypeTable → ℕ → Path → List Fact
full_facts table t p = map (λ q. init (p ++ q)) (part_paths full_parts table t)

-- a fact of variable 0, said of the value at a path
abbrev pub said_at : Path → Fact → Fact
said_at p (init []) = init []
said_at p (init (v ∷ q)) = init (p ++ q)
said_at p (case [] c) = case [] c
said_at p (case (v ∷ q) c) = case (p ++ q) c

-- The facts at which messages of an inport type travel, for a message at variable 0: init of the message and the
-- listed facts, each after those before it; or those of a full message, where none is listed.
-- Language reference, "Declared facts".
abbrev pub message_facts : TypeTable → ℕ → List Fact → List Fact
message_facts table message [] = full_facts table message (0 ∷ [])
message_facts table message (f ∷ fs) = without_repeats (init (0 ∷ []) ∷ flat_map (with_prefixes table (message ∷ [])) (f ∷ fs))

-- the message's type and the listed facts of an inport type
abbrev pub message_of : Shape → Option (ℕ × List Fact)
message_of (inport message declared) = Some (message, declared)
message_of s = None

-- the facts at which messages of this inport type travel, for a message at a path
abbrev pub declared_facts : TypeTable → ℕ → Path → List Fact
declared_facts table port p = map_or [] (λ s. list_of (λ m. map (said_at p) (message_facts table m.0 m.1)) (message_of s)) (slice_get table port)

-- how many components a variant has
abbrev pub component_count : Shape → ℕ
component_count (cases ts) = length ts
component_count s = 0

-- The facts that there are of variables of these types: init of a path that passes through no component, and case of
-- a variant's path and a component of it. Language reference, "Facts".
abbrev pub IsFactOf : TypeTable → List ℕ → Fact → Type 0
IsFactOf table variables (init p) = IsTrue (is_some (type_at table variables p)) × IsFalse (passes_component table variables p)
IsFactOf table variables (case p c) = c < map_or 0 (λ t. map_or 0 component_count (slice_get table t)) (type_at table variables p)
