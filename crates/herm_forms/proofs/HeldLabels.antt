-- Exact labels flow along edges, and are closed.
use Rattle.std.proofs.Common.{◌≡◌, ℕ, List, [], ◌∷◌, ◌++◌, Bool, true, false, Some, refl, sym, ◌∙◌, subst}
use Rattle.std.specs.Prelude.{slice_get}
use mathlib.Core.Bool.{false≢true}
use Rattle.herm_model.specs.Lists.{IsIn}
use Rattle.herm_model.specs.Paths.{Fact, init}
use Rattle.herm_model.specs.Types.{TypeTable}
use Rattle.herm_model.specs.Facts.{IsClosed}
use Rattle.herm_model.specs.Statements.{Process}
use Rattle.herm_model.specs.Targets.{Target, node, end, end_by}
use Rattle.herm_model.specs.ControlPaths.{Edge, Point, Flow, Hop, flow_of, held_after_edge, held_at_start, IsControlPath, IsReached}
use Rattle.herm_model.specs.Labels.{Labels, label_at, AreExact}
use Rattle.herm_model.specs.laws.FlowLaws.{EdgesDiffer, IsLedTo, goes_on}
use Rattle.herm_model.proofs.FactTests.{got-IsIn}
use Rattle.herm_model.proofs.Walks.{walk-common}
use Rattle.herm_model.proofs.HeldClosed.{holds-closed}
use Rattle.herm_model.proofs.Reached.{hop_by, hop-taken, walk-more, reached-IsLedTo, reached-led}

-- the label at a target that an edge of a reached point leads to holds behind the edge
module _ (flow : Flow) (labels : Labels) (exact : AreExact flow labels) (differ : EdgesDiffer flow) where
  -- a path to a point, and on along an edge
  leads-on : (i : ℕ) (p : Point) (e : Edge) (j : ℕ) (f : Fact) → slice_get flow.points i ≡ Some p → IsIn e p.edges → e.target ≡ node j → (hops : List Hop) (held : Bool) → IsControlPath flow f hops (node i) held
      → IsControlPath flow f (hops ++ hop_by p e ∷ []) (node j) (held_after_edge e f held)
  leads-on i p e j f at member to hops held leads =
      let taken = hop-taken flow differ i p e at (got-IsIn flow.points i p at) member in
      subst (λ t. IsControlPath flow f (hops ++ hop_by p e ∷ []) t (held_after_edge e f held)) to (walk-more flow f hops (hop_by p e) flow.entry (node i) (held_at_start f) held e leads taken)

  pub exact-flows : (i : ℕ) (p : Point) (e : Edge) (f : Fact) → slice_get flow.points i ≡ Some p → IsIn e p.edges → IsReached flow (node i) → (t : Target) → e.target ≡ t → label_at labels t f ≡ true → held_after_edge e f (labels i f) ≡ true
  exact-flows i p e f at member reached end to label = absurd (false≢true label)
  exact-flows i p e f at member reached (end_by x) to label = absurd (false≢true label)
  exact-flows i p e f at member reached (node j) to label = by (labels i f) refl (held_after_edge e f false) refl
    where
      there : IsReached flow (node j)
      there = (reached-led flow differ (node j)).1 (subst (IsLedTo flow) to (goes_on i p e (reached-IsLedTo flow (node i) reached) at member))

      behind : (hops : List Hop) (held : Bool) → IsControlPath flow f hops (node i) held → held_after_edge e f held ≡ true
      behind hops held leads = (exact j f there).0 label (hops ++ hop_by p e ∷ []) (held_after_edge e f held) (leads-on i p e j f at member to hops held leads)

      some_path : (hops : List Hop) × (held : Bool) × IsControlPath flow f hops (node i) held
      some_path = let w = walk-common flow (init (0 ∷ [])) f reached.0 flow.entry (node i) (held_at_start (init (0 ∷ []))) reached.1 (held_at_start f) reached.2 in (reached.0, w.0, w.1)

      only_true : held_after_edge e f false ≡ false → (hops : List Hop) (held : Bool) → IsControlPath flow f hops (node i) held → held ≡ true
      only_true lost hops true leads = refl
      only_true lost hops false leads = absurd (false≢true (sym lost ∙ behind hops false leads))

      by : (b : Bool) → labels i f ≡ b → (c : Bool) → held_after_edge e f false ≡ c → held_after_edge e f b ≡ true
      by true is c lost = subst (λ h. held_after_edge e f h ≡ true) ((exact i f reached).0 is some_path.0 some_path.1 some_path.2) (behind some_path.0 some_path.1 some_path.2)
      by false is true lost = lost
      by false is false lost = absurd (false≢true (sym is ∙ (exact i f reached).1 (only_true lost)))

-- what holds at a statement is closed, so an exact label is
pub exact-closed : (types : TypeTable) (process : Process) (labels : Labels) → AreExact (flow_of types process) labels → (i : ℕ) → IsReached (flow_of types process) (node i) → IsClosed types process.variables (λ f. labels i f ≡ true)
exact-closed types process labels exact i reached f g label before = (exact i g reached).1 (holds-closed types process i f g ((exact i f reached).0 label) before)
