-- Labels: which facts are held at each point; inductive ones, and exact ones. Language reference, "Held".
use Rattle.std.specs.Prelude.{◌≡◌, ◌↔◌, ℕ, Bool, true, false, Some, slice_get}
use Rattle.herm_model.specs.Lists.{IsIn}
use Rattle.herm_model.specs.Paths.{Fact}
use Rattle.herm_model.specs.Targets.{Target, node, end, end_by}
use Rattle.herm_model.specs.ControlPaths.{Edge, Point, Flow, held_after_edge, held_at_start, IsReached, Holds}

-- at each place, a test for facts
abbrev pub Labels : Type 0
Labels = ℕ → Fact → Bool

-- the label at a target: no fact at an end
abbrev pub label_at : Labels → Target → Fact → Bool
label_at labels (node i) f = labels i f
label_at labels end f = false
label_at labels (end_by e) f = false

-- Labels are inductive where the entry's label has facts of the start alone, and along each edge each fact of the label
-- that it leads to is held behind the edge, given that the facts of the label before are.
pub record AreInductive (flow : Flow) (labels : Labels) : Type 0 where
  pub begins : (f : Fact) → label_at labels flow.entry f ≡ true → held_at_start f ≡ true
  pub goes_on : (i : ℕ) (p : Point) (e : Edge) (f : Fact) → slice_get flow.points i ≡ Some p → IsIn e p.edges → label_at labels e.target f ≡ true → held_after_edge e f (labels i f) ≡ true

-- The labels of the points that a path reaches have exactly the facts that hold there.
-- Language reference, "Held".
abbrev pub AreExact : Flow → Labels → Type 0
AreExact flow labels = (i : ℕ) (f : Fact) → IsReached flow (node i) → (labels i f ≡ true) ↔ Holds flow f i
