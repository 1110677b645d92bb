-- What is proved of types and facts.
use Rattle.std.specs.Prelude.{◌≡◌, ℕ, ◌+◌, List, Bool, false, ◌&&◌, Some, ◌⊎◌, ◌↔◌, IsTrue, [], ◌∷◌}
use Rattle.herm_model.specs.Lists.{IsIn}
use Rattle.herm_model.specs.Paths.{Path, Fact}
use Rattle.herm_model.specs.Types.{Shape, TypeTable, is_within_depth, greatest_depth, IsPartPath, part_paths_within, type_at, passes_component}
use Rattle.herm_model.specs.Copyable.{IsCopyable, is_copyable_within}
use Rattle.herm_model.specs.Statements.{Differ}
use Rattle.herm_model.specs.Facts.{facts_to, with_prefixes, IsClosed, full_facts, message_facts}

-- The list of steps has exactly the steps that lead from a type through chosen parts, whatever bound on the type's
-- depth it is computed with.
abbrev pub ListsWhatLeads : (Shape → List (ℕ × ℕ)) → Type 0
ListsWhatLeads parts = (n : ℕ) (table : TypeTable) (t : ℕ) → IsTrue (is_within_depth n table t) → (p : List ℕ) → IsIn p (part_paths_within parts n table t) ↔ IsPartPath parts table t p

-- the list is the same, in the same order, with any two such bounds
abbrev pub IsSameWithin : (Shape → List (ℕ × ℕ)) → Type 0
IsSameWithin parts = (m n : ℕ) (table : TypeTable) (t : ℕ) → IsTrue (is_within_depth m table t) → IsTrue (is_within_depth n table t) → part_paths_within parts m table t ≡ part_paths_within parts n table t

-- no steps are listed twice
abbrev pub ListsNoneTwice : (Shape → List (ℕ × ℕ)) → Type 0
ListsNoneTwice parts = (n : ℕ) (table : TypeTable) (t : ℕ) → Differ (part_paths_within parts n table t)

-- a greater bound is a bound
abbrev pub GreaterDepthHolds : Type 0
GreaterDepthHolds = (n k : ℕ) (table : TypeTable) (t : ℕ) → IsTrue (is_within_depth n table t) → IsTrue (is_within_depth (n + k) table t)

-- the test of copyable types holds exactly of the smallest set, whatever bound on depth it is computed with
abbrev pub TestsCopyable : Type 0
TestsCopyable = (n : ℕ) (table : TypeTable) (t : ℕ) → IsTrue (is_within_depth n table t) → IsTrue (is_copyable_within n table t) ↔ IsCopyable table t

-- a fact with those before it is a closed set
abbrev pub PrefixesAreClosed : Type 0
PrefixesAreClosed = (table : TypeTable) (variables : List ℕ) (f : Fact) → IsClosed table variables (λ g. IsIn g (with_prefixes table variables f))

-- the facts to a path are a closed set
abbrev pub FactsToAreClosed : Type 0
FactsToAreClosed = (table : TypeTable) (variables : List ℕ) (p : Path) → IsClosed table variables (λ g. IsIn g (facts_to table variables p))

-- the facts of a full value, with those to its path, are a closed set
abbrev pub FullFactsAreClosed : Type 0
FullFactsAreClosed = (table : TypeTable) (variables : List ℕ) (p : Path) (t : ℕ) → type_at table variables p ≡ Some t → passes_component table variables p ≡ false → IsTrue (is_within_depth greatest_depth table t) → IsClosed table variables (λ g. IsIn g (facts_to table variables p) ⊎ IsIn g (full_facts table t p))

-- the facts at which messages travel, for a message at variable 0, are a closed set
abbrev pub MessageFactsAreClosed : Type 0
MessageFactsAreClosed = (table : TypeTable) (message : ℕ) (declared : List Fact) → IsTrue (is_within_depth greatest_depth table message) → IsClosed table (message ∷ []) (λ f. IsIn f (message_facts table message declared))

-- what is in two closed sets, their meet, is a closed set
abbrev pub MeetsAreClosed : Type 0
MeetsAreClosed = (table : TypeTable) (variables : List ℕ) (S T : Fact → Bool) → IsClosed table variables (λ f. IsTrue (S f)) → IsClosed table variables (λ f. IsTrue (T f)) → IsClosed table variables (λ f. IsTrue (S f && T f))

-- a test of two things holds exactly where they are equal
abbrev pub TestsEquality : {X : Type 0} → (X → X → Bool) → Type 0
TestsEquality {X} test = (a b : X) → IsTrue (test a b) ↔ (a ≡ b)
