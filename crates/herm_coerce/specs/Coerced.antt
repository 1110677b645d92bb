-- What the edges of a flow finalise, as labels of its points have it. Language reference, "Finalising".
use Rattle.std.specs.Prelude.{ℕ, suc, List, [], ◌∷◌, Bool, ⊤}
use Rattle.herm_model.specs.Paths.{Path, Fact}
use Rattle.herm_model.specs.ControlPaths.{Edge, Point, Flow, held_after_edge, held_at_start}
use Rattle.herm_model.specs.Labels.{Labels, label_at}
use Rattle.herm_model.specs.laws.ExcessLaws.{IsExcess}

-- the paths that are finalised where a process begins, and by point and edge behind each outcome
pub record Coerced : Type 0 where
  pub entry : List Path
  pub at : List (List (List Path))

-- what is held behind an edge, where these facts are held before it
abbrev pub behind_edge : (Fact → Bool) → Edge → Fact → Bool
behind_edge before e f = held_after_edge e f (before f)

-- An edge finalises the excess of what is held behind it beyond the label of its target. At an end no fact is in the label.
abbrev pub IsDropped : Labels → (Fact → Bool) → Edge → List Path → Type 0
IsDropped labels before e paths = IsExcess (behind_edge before e) (label_at labels e.target) paths

-- So it is of each edge of a point, in order.
abbrev pub AreDropped : Labels → (Fact → Bool) → List Edge → List (List Path) → Type 0
AreDropped labels before [] [] = ⊤
AreDropped labels before [] (paths ∷ more) = ⊥
AreDropped labels before (e ∷ es) [] = ⊥
AreDropped labels before (e ∷ es) (paths ∷ more) = IsDropped labels before e paths × AreDropped labels before es more

-- So it is of each point from a place on, in order, with what its label says before its edges.
abbrev pub ArePointsDropped : Labels → ℕ → List Point → List (List (List Path)) → Type 0
ArePointsDropped labels i [] [] = ⊤
ArePointsDropped labels i [] (edges ∷ more) = ⊥
ArePointsDropped labels i (p ∷ ps) [] = ⊥
ArePointsDropped labels i (p ∷ ps) (edges ∷ more) = AreDropped labels (labels i) p.edges edges × ArePointsDropped labels (suc i) ps more

-- A process begins with a value at its port alone. Beyond the label of the point at which it begins this is finalised.
abbrev pub IsEntryDropped : Flow → Labels → List Path → Type 0
IsEntryDropped flow labels paths = IsExcess held_at_start (label_at labels flow.entry) paths

-- the coercions of a flow with these labels
pub record AreCoercions (flow : Flow) (labels : Labels) (c : Coerced) : Type 0 where
  pub entry : IsEntryDropped flow labels c.entry
  pub edges : ArePointsDropped labels 0 flow.points c.at
