-- What becomes of labels where an edge is followed.
use Rattle.std.specs.Prelude.{◌≡◌, ℕ, ◌<◌, ◌≤◌, List, length, Bool, true, false, cond, ◌&&◌, Some, slice_get, slice_set}
use Rattle.herm_model.specs.Lists.{IsIn}
use Rattle.herm_model.specs.Paths.{Fact}
use Rattle.herm_model.specs.Targets.{node}
use Rattle.herm_model.specs.ControlPaths.{Edge, held_after_edge}
use Rattle.herm_facts.specs.declared.fact_numbers.FactNumbers.{FactNumbers}
use Rattle.herm_facts.specs.FactNumbers.{number_of}
use Rattle.herm_check.specs.declared.label.Label.{Label}
use Rattle.herm_check.specs.Numberings.{in_set, AreOfFacts}
use Rattle.herm_check.specs.Weights.{label_weight}

-- The label at a place becomes another. The point is reached; its facts are those behind the edge, of which the old ones are
-- kept alone where it was reached before; and where it is not to be left again, nothing has changed.
pub record IsJoined (ns : FactNumbers) (before : List Label) (t : ℕ) (l new : Label) (after : Fact → Bool) : Type 0 where
  pub old : slice_get before t ≡ Some l
  pub within : t < length before
  pub reached : new.reached ≡ true
  pub facts : (f : Fact) → in_set ns new.held f ≡ cond l.reached (in_set ns l.held f && after f) (after f)
  pub still : new.pending ≡ false → (l.reached ≡ true) × (l.pending ≡ false) × ((f : Fact) → in_set ns new.held f ≡ in_set ns l.held f)
  pub known : AreOfFacts ns new.held
  pub less : (all : List Fact) → ((f : Fact) (n : ℕ) → number_of ns f ≡ Some n → IsIn f all) → label_weight ns all new ≤ label_weight ns all l

-- An edge was followed from a point at which these facts are held: to an end, or to a point whose label was joined.
pub data IsFollowed (ns : FactNumbers) (e : Edge) (before : Fact → Bool) : List Label → List Label → Type 0 where
  ends : (ls : List Label) → ((k : ℕ) → e.target ≡ node k → ⊥) → IsFollowed ns e before ls ls
  joins : (ls : List Label) (t : ℕ) (l new : Label) (after : Fact → Bool) → e.target ≡ node t → ((f : Fact) → after f ≡ held_after_edge e f (before f)) → IsJoined ns ls t l new after → IsFollowed ns e before ls (slice_set ls t new)
