-- What processes lack: the facts that statements need and that are not held on some path. Language reference, "Refusals of typestate".
use Rattle.std.specs.Prelude.{◌≡◌, ◌≢◌, ℕ, suc, List, [], ◌++◌, ◌∷◌, map, ⊤}
use Rattle.herm_model.specs.Lists.{map_or}
use Rattle.herm_model.specs.ControlPaths.{flow_of}
use Rattle.herm_model.specs.MissingFacts.{Refusal}
use Rattle.herm_meaning.specs.Names.{NamedTable}
use Rattle.herm_typed.specs.declared.statements.TypedProcess.{TypedProcess}
use Rattle.herm_typed.specs.View.{typed_process_view}
use Rattle.herm_check.specs.Shortest.{AreShortest}
use Rattle.herm_words.specs.declared.sites.Site.{Site}
use Rattle.herm_words.specs.Sites.{sites_in, site_at}
use Rattle.herm_words.specs.MissingFactWords.{head_text, refusal_words}
use Rattle.herm_words.specs.ToldWords.{refusal_view, missing_words, hops_text, trail_text}
use Rattle.herm_words.specs.declared.lost.LostFact.{LostFact}
use Rattle.herm_words.specs.declared.paths.Paths.{Paths}
use Rattle.herm_types.specs.declared.fact.Fact.{Fact}
use Rattle.herm_types.specs.View.{fact_view}
use Rattle.herm_check.specs.declared.search.Search.{Search}
use Rattle.herm_accept.specs.declared.accepting.Lack.{Lack}
use Rattle.herm_accept.specs.declared.accepting.AcceptFault.{AcceptFault}
use Rattle.herm_accept.specs.declared.accepting.AcceptFault.TheVariants.{Missing, Memory}

-- a fact that a statement of the process with a number lacks: where the statement begins, what is said of it, and the refusal
pub record Lacking : Type 0 where
  pub process : ℕ
  pub start : ℕ
  pub words : List ℕ
  pub refusal : Refusal

-- the place in bytes where the statement with a number begins
abbrev pub start_in : List Site → ℕ → ℕ
start_in sites number = map_or 0 (λ (s : Site). s.span.start) (site_at sites number)

abbrev pub lack_view : Lack → Lacking
lack_view l = record { process = l.process; start = l.start; words = missing_words l.missing; refusal = refusal_view l.missing }

abbrev pub lacking : NamedTable → ℕ → TypedProcess → Refusal → Lacking
lacking types number p r = record { process = number; start = start_in (sites_in p) r.number; words = refusal_words types p r; refusal = r }

-- What is told of a fact that is missing somewhere: the fact, and the words of its refusals before the hops.
pub record IsLost (types : NamedTable) (p : TypedProcess) (f : Fact) (lost : LostFact) : Type 0 where
  pub fact : fact_view lost.fact ≡ fact_view f
  pub head : lost.head.items ≡ head_text types p (fact_view f)

-- What is told of a search: its visits, and at each place the texts of the hops that lead to it.
pub record IsTold (types : NamedTable) (sites : List Site) (s : Search) (paths : Paths) : Type 0 where
  pub visits : paths.visits.items ≡ s.visits.items
  pub text : (place : ℕ) → trail_text paths place ≡ hops_text types sites s.visits.items place

-- so it is of each, in order
abbrev pub EachOf : {X Y : Type 0} → (X → Y → Type 0) → List X → List Y → Type 0
EachOf R [] [] = ⊤
EachOf R [] (y ∷ ys) = ⊥
EachOf R (x ∷ xs) [] = ⊥
EachOf R (x ∷ xs) (y ∷ ys) = R x y × EachOf R xs ys

-- The processes, which are numbered from this one on, lack these facts, by process, by statement and then in the order of
-- needs, each with a control path that none is shorter than.
abbrev pub AreLacking : NamedTable → ℕ → List TypedProcess → List Lacking → Type 0
AreLacking types number [] all = all ≡ []
AreLacking types number (p ∷ ps) all =
    (refusals : List Refusal) × AreShortest (flow_of types.shapes (typed_process_view p)) refusals
    × (others : List Lacking) × (all ≡ map (lacking types number p) refusals ++ others) × AreLacking types (suc number) ps others

-- the processes are refused for what they lack, which is something; want of memory says nothing
abbrev pub IsFaultOf : NamedTable → List TypedProcess → AcceptFault → Type 0
IsFaultOf types ps (Missing lacks) = (map lack_view lacks.items ≢ []) × AreLacking types 0 ps (map lack_view lacks.items)
IsFaultOf types ps Memory = ⊤
