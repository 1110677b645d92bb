-- The edges of accepted processes keep their values sound.
use Rattle.std.proofs.Common.{◌≡◌, true, refl}
use mathlib.Core.Bool.{false≢true}
use Rattle.herm_model.specs.Types.{TypeTable}
use Rattle.herm_model.specs.Facts.{IsClosed}
use Rattle.herm_model.specs.Statements.{Process}
use Rattle.herm_model.specs.Targets.{Target, node, end, end_by}
use Rattle.herm_model.specs.ControlPaths.{flow_of, held_after_edge, IsReached}
use Rattle.herm_model.specs.Labels.{Labels, label_at, AreExact}
use Rattle.herm_model.specs.laws.FlowLaws.{goes_on}
use Rattle.herm_model.proofs.DifferentOutcomes.{process-EdgesDiffer}
use Rattle.herm_model.proofs.Reached.{reached-IsLedTo, reached-led}
use Rattle.herm_forms.specs.Modules.{module_of}
use Rattle.herm_forms.specs.laws.EdgeLaws.{EdgesArrive}
use Rattle.herm_forms.proofs.Arrived.{edges-exact}
use Rattle.herm_forms.proofs.HeldLabels.{exact-flows, exact-closed}

-- the label of a target that is reached is closed
pub closed-at : (types : TypeTable) (p : Process) (labels : Labels) → AreExact (flow_of types p) labels → (t : Target) → IsReached (flow_of types p) t → IsClosed types p.variables (λ f. label_at labels t f ≡ true)
closed-at types p labels exact (node i) reached f g h k = exact-closed types p labels exact i reached f g h k
closed-at types p labels exact end reached f g h k = absurd (false≢true h)
closed-at types p labels exact (end_by e) reached f g h k = absurd (false≢true h)

pub edges-arrive : EdgesArrive
edges-arrive types p labels formed exact deep i point e reached at member b sound =
    let differ = process-EdgesDiffer types p formed in
    let there = (reached-led (flow_of types p) differ e.target).1 (goes_on i point e (reached-IsLedTo (flow_of types p) (node i) reached) at member) in
    edges-exact (module_of types p labels) e.target b (λ f. held_after_edge e f (labels i f)) deep sound
    (λ f label. exact-flows (flow_of types p) labels exact differ i point e f at member reached e.target refl label)
    (closed-at types p labels exact e.target there)
