-- The words of a refusal of typestate. Language reference, "Refusals of typestate".
use Rattle.std.specs.Prelude.{ℕ, ◌+◌, List, [], ◌∷◌, ◌++◌, map, codes, decimal, Option, Some, None, slice_get}
use Rattle.std.specs.List.{flat_map}
use Rattle.herm_model.specs.Lists.{list_of}
use Rattle.herm_model.specs.Paths.{Path, Fact, init, case}
use Rattle.herm_model.specs.Types.{part_of, type_at}
use Rattle.herm_model.specs.Outcomes.{Outcome, ok, is_true, is_false, turn, done, component, arm, raised}
use Rattle.herm_model.specs.ControlPaths.{Hop}
use Rattle.herm_model.specs.MissingFacts.{Refusal}
use Rattle.herm_syntax.specs.Trees.{Letters}
use Rattle.herm_meaning.specs.Names.{NamedTable}
use Rattle.herm_typed.specs.declared.statements.TypedProcess.{TypedProcess}
use Rattle.herm_words.specs.declared.sites.Site.{Site}
use Rattle.herm_words.specs.Sites.{sites_in, variant_of}

-- The name at a place. What is not there has the empty text.
abbrev pub name_at : List Letters → ℕ → Letters
name_at names i = list_of (λ n. n) (slice_get names i)

-- the name of the part at a place of a type
abbrev pub part_name : NamedTable → Option ℕ → ℕ → Letters
part_name types None i = []
part_name types (Some t) i = list_of (λ names. name_at names i) (slice_get types.parts t)

-- the names of variables, and their types
abbrev pub variable_names : TypedProcess → List Letters
variable_names p = map (λ v. v.name.text) p.vars.items

abbrev pub variable_types : TypedProcess → List ℕ
variable_types p = map (λ v. v.of.0) p.vars.items

-- The steps of a path from a type on: the name of each part behind a dot.
abbrev pub steps_text : NamedTable → Option ℕ → List ℕ → List ℕ
steps_text types t [] = []
steps_text types t (i ∷ q) = codes "." ++ (part_name types t i ++ steps_text types (part_of types.shapes t i) q)

-- A path: the variable's name and those of the parts.
abbrev pub path_text : NamedTable → TypedProcess → Path → List ℕ
path_text types p [] = []
path_text types p (v ∷ q) = name_at (variable_names p) v ++ steps_text types (slice_get (variable_types p) v) q

-- `init(PATH)` or `case(PATH,COMPONENT)`
abbrev pub fact_text : NamedTable → TypedProcess → Fact → List ℕ
fact_text types p (init q) = codes "init(" ++ (path_text types p q ++ codes ")")
fact_text types p (case q c) = codes "case(" ++ (path_text types p q ++ (codes "," ++ (part_name types (type_at types.shapes (variable_types p) q) c ++ codes ")")))

-- An outcome, of a `case` by the type of its variant. Arms are counted from 1 on.
abbrev pub outcome_text : NamedTable → Option ℕ → Outcome → List ℕ
outcome_text types variant ok = codes "ok"
outcome_text types variant is_true = codes "true"
outcome_text types variant is_false = codes "false"
outcome_text types variant turn = codes "turn"
outcome_text types variant done = codes "done"
outcome_text types variant (component c) = part_name types variant c
outcome_text types variant (arm i) = decimal (i + 1)
outcome_text types variant (raised e) = name_at types.exceptions e

-- a hop: the statement's number and its outcome
abbrev pub hop_text : NamedTable → List Site → Hop → List ℕ
hop_text types sites hop = codes " " ++ (decimal hop.number ++ (codes ":" ++ outcome_text types (variant_of sites hop.number) hop.outcome))

-- `needs FACT by start`
abbrev pub head_text : NamedTable → TypedProcess → Fact → List ℕ
head_text types p f = codes "needs " ++ (fact_text types p f ++ codes " by start")

-- `needs FACT by start` and the hops of the path
abbrev pub refusal_words : NamedTable → TypedProcess → Refusal → List ℕ
refusal_words types p r = head_text types p r.fact ++ flat_map (hop_text types (sites_in p)) r.path
