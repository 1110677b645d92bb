-- What is proved of the arguments of typed calls: their types, and that they are apart.
use Rattle.std.specs.Prelude.{ℕ, List, [], ◌∷◌, map, filter, flat_map, Bool, true, slice_get, IsTrue, ⊤, ◌≡◌}
use Rattle.herm_model.specs.Lists.{list_of}
use Rattle.herm_model.specs.Paths.{Path}
use Rattle.herm_model.specs.Types.{Mode, Parameter, TypeTable, is_within_depth, greatest_depth}
use Rattle.herm_model.specs.Expressions.{Atom}
use Rattle.herm_model.specs.Statements.{Call, Process}
use Rattle.herm_model.specs.Calls.{call_parameters, call_raises, kept_for, is_returned, arguments_by}
use Rattle.herm_model.specs.FactsOfStatements.{kept_by_call}
use Rattle.herm_model.specs.WellFormedTables.{IsWellFormedTable}
use Rattle.herm_model.specs.TypedStatements.{AreApart, IsTarget, IsTypedForm}

-- The paths are targets of these types, each within the limit of depth.
abbrev pub AreTargetsOf : TypeTable → List ℕ → List Path → List ℕ → Type 0
AreTargetsOf table variables [] [] = ⊤
AreTargetsOf table variables [] (t ∷ ts) = ⊥
AreTargetsOf table variables (x ∷ xs) [] = ⊥
AreTargetsOf table variables (x ∷ xs) (t ∷ ts) = IsTarget table variables x t × IsTrue (is_within_depth greatest_depth table t) × AreTargetsOf table variables xs ts

-- the types of the parameters whose modes pass the test, and of those that an exception keeps
abbrev pub types_by : (Mode → Bool) → List Parameter → List ℕ
types_by test parameters = map (λ (p : Parameter). p.content) (filter (λ (p : Parameter). test p.mode) parameters)

abbrev pub types_at : List Parameter → List ℕ → List ℕ
types_at parameters places = flat_map (λ i. list_of (λ (p : Parameter). p.content ∷ []) (slice_get parameters i)) places

-- The arguments of modes that come back, or of one of these modes alone, are targets of the types of their parameters, in
-- order, and apart from each other; so are those that an exception keeps.
pub record ArgumentsFit (table : TypeTable) (variables : List ℕ) (o : Path) (arguments : List Atom) : Type 0 where
  pub types : (test : Mode → Bool) → ((m : Mode) → test m ≡ true → is_returned m ≡ true)
      → AreTargetsOf table variables (arguments_by test (call_parameters table variables o) arguments) (types_by test (call_parameters table variables o))
  pub apart : (test : Mode → Bool) → ((m : Mode) → test m ≡ true → is_returned m ≡ true) → AreApart (arguments_by test (call_parameters table variables o) arguments)
  pub kept_types : (e : ℕ) → AreTargetsOf table variables (kept_by_call table variables o arguments e) (types_at (call_parameters table variables o) (kept_for (call_raises table variables o) e))
  pub kept_apart : (e : ℕ) → AreApart (kept_by_call table variables o arguments e)

abbrev pub TypedArgumentsFit : Type 0
TypedArgumentsFit = (exceptions : ℕ) (table : TypeTable) (variables : List ℕ) (processes : List Process) (o : Path) (arguments : List Atom) → IsWellFormedTable exceptions table
    → IsTypedForm table variables exceptions processes (Call o arguments) → ArgumentsFit table variables o arguments
