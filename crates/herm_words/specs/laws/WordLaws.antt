-- What is claimed of the words of refusals.
use Rattle.std.specs.Prelude.{◌≡◌, ℕ, ◌+◌, List, Some, slice_get}
use Rattle.herm_model.specs.Paths.{Path, Fact}
use Rattle.herm_model.specs.Types.{type_at}
use Rattle.herm_model.specs.Statements.{Case}
use Rattle.herm_meaning.specs.Names.{NamedTable}
use Rattle.herm_typed.specs.declared.statements.TypedStmt.{TypedStmt}
use Rattle.herm_typed.specs.declared.statements.TypedProcess.{TypedProcess}
use Rattle.herm_typed.specs.View.{typed_form_view, form_of_statement}
use Rattle.herm_typed.specs.Within.{all_statements}
use Rattle.herm_typed.specs.Beside.{KnowsTypes}
use Rattle.herm_check.specs.Trails.{trail}
use Rattle.herm_check.specs.declared.search.Visit.{Visit}
use Rattle.herm_words.specs.declared.lost.LostFact.{LostFact}
use Rattle.herm_words.specs.declared.paths.Paths.{Paths}
use Rattle.herm_words.specs.Sites.{sites_in, variant_of}
use Rattle.herm_words.specs.MissingFactWords.{variable_types, head_text, refusal_words}
use Rattle.herm_words.specs.ToldWords.{hops_text, trail_text, told_words}

-- In a process whose types beside its paths are those of the values there: the outcomes of a `case` are named by the type of the variant
-- at its path. Statements are counted from 1 on. Language reference, "Refusals of typestate".
abbrev pub ComponentsAreOfVariants : Type 0
ComponentsAreOfVariants = (types : NamedTable) (p : TypedProcess) → KnowsTypes types.shapes p → (i : ℕ) (s : TypedStmt) (v : Path) (components : List ℕ)
    → slice_get (all_statements p.body.items) i ≡ Some s → form_of_statement (typed_form_view s.form) ≡ Some (Case v components)
    → variant_of (sites_in p) (i + 1) ≡ type_at types.shapes (variable_types p) v

-- What is told of a fact that a process lacks, with what is told of a search by the sites of the process, are at each place the words of a refusal of any statement: for the fact, with
-- the hops that lead to the place.
abbrev pub RefusalsAreTold : Type 0
RefusalsAreTold = (types : NamedTable) (p : TypedProcess) (fact : Fact) (visits : List Visit) (lost : LostFact) (paths : Paths)
    → lost.head.items ≡ head_text types p fact → ((place : ℕ) → trail_text paths place ≡ hops_text types (sites_in p) visits place)
    → (number place : ℕ) → told_words lost paths place ≡ refusal_words types p (record { number = number; fact = fact; path = trail visits place })
