-- Tests of declared facts.
use Rattle.std.specs.Prelude.{ℕ, List, [], ◌∷◌, map, Bool, true, false, ◌||◌, ◌&&◌, not, nat_lt, length, Option, Some, slice_get}
use Rattle.std.specs.Str.{bytes_eq}
use Rattle.std.specs.List.{list_any}
use Rattle.herm_model.specs.Types.{Shape, cases}
use Rattle.herm_syntax.specs.Trees.{Letters, DeclaredFact, InitFact, FullFact, CaseFact}
use Rattle.herm_meaning.specs.Names.{NamedTable}
use Rattle.herm_meaning.specs.Walks as model
use Rattle.herm_meaning.specs.Walks.{place_of, parts_of, walk}
use Rattle.herm_defs.specs.declared.facts.Walked.{Walked}
use Rattle.herm_defs.specs.declared.facts.Walked.TheVariants.{Ended, Left, MetUnknown}
use Rattle.herm_defs.specs.Plain.{passes}

-- where a path leads, without the places on the way
abbrev pub walked_as : model.Walked → Walked
walked_as (model.ended ps t) = Ended t
walked_as model.left_fields = Left
walked_as model.met_unknown = MetUnknown

abbrev pub has_left : Walked → Bool
has_left (Ended t) = false
has_left Left = true
has_left MetUnknown = false

-- the shape has no component at a place
abbrev pub no_component : Shape → ℕ → Bool
no_component (cases ts) i = not (nat_lt i (length ts))
no_component s i = true

-- a case at the end of a path is no component there, or is another than the first case of the path
abbrev pub case_test : NamedTable → Letters → Bool → Walked → Bool
case_test table c other (Ended t) =
    passes (λ s. no_component s (place_of (parts_of table t) c)) table.shapes t || (passes (λ s. true) table.shapes t && other)
case_test table c other Left = true
case_test table c other MetUnknown = false

-- ---- bytes by which paths of names are told apart

abbrev pub marked_bytes : Letters → List ℕ → List ℕ
marked_bytes [] rest = 0 ∷ rest
marked_bytes (b ∷ bs) rest = 1 ∷ b ∷ marked_bytes bs rest

abbrev pub path_key : List Letters → List ℕ
path_key [] = []
path_key (name ∷ names) = marked_bytes name (path_key names)

-- those of a case's path, and some that are no path's
abbrev pub fact_key : DeclaredFact → List ℕ
fact_key (InitFact p) = 2 ∷ []
fact_key (FullFact p) = 2 ∷ []
fact_key (CaseFact p c) = path_key p

-- those of a declared fact, by which it is told from all others
abbrev pub written_key : DeclaredFact → List ℕ
written_key (InitFact p) = 0 ∷ path_key p
written_key (FullFact p) = 1 ∷ path_key p
written_key (CaseFact p c) = 2 ∷ path_key (c ∷ p)

-- ---- facts beside others

-- another fact is a case with another component
abbrev pub differs : Letters → Option DeclaredFact → Bool
differs c (Some (CaseFact p d)) = not (bytes_eq c d)
differs c o = false

abbrev pub bad_fact : NamedTable → ℕ → List DeclaredFact → DeclaredFact → Bool
bad_fact table message facts (InitFact p) = has_left (walked_as (walk table message p))
bad_fact table message facts (FullFact p) = has_left (walked_as (walk table message p))
bad_fact table message facts (CaseFact p c) =
    case_test table c (differs c (slice_get facts (place_of (map fact_key facts) (path_key p)))) (walked_as (walk table message p))

abbrev pub has_bad_fact : NamedTable → ℕ → List DeclaredFact → Bool
has_bad_fact table message facts = list_any (bad_fact table message facts) facts
