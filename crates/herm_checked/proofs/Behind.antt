-- What the primitives keep of a body is so behind each local step and each answer of the source machine.
use Rattle.std.proofs.Common.{◌≡◌, Option, Some, option_and_then, subst}
use Rattle.herm_model.specs.Nodes.{Node}
use Rattle.herm_model.specs.Targets.{Target}
use Rattle.herm_model.specs.Values.{Name}
use Rattle.herm_model.proofs.Options.{none-not_some, some-injective, map-some}
use Rattle.herm_forms.specs.Acts.{leads_to}
use Rattle.herm_forms.specs.EdgeFinalising.{arrive}
use Rattle.herm_forms.specs.Frames.{Frame, Completion, goes, stays, stuck}
use Rattle.herm_forms.specs.Modules.{Module}
use Rattle.herm_forms.proofs.KeptBodies.{IsKept, FewerLoops, All, went, stayed, never, is-arrive}
use Rattle.herm_source.specs.States.{State, own_name, state_after}

module _ (Is : Frame Name → Type 0) (kept : IsKept Is) (fewer : FewerLoops Is) (c : Module) where
  pub behind : (s t : State Name) (at : Option Node) (r : Completion Name) → All Is Is r → state_after c s at r ≡ Some t → Is t.frame
  behind s t at (goes o b) (went o' b' e) is =
      let m = map-some (λ (p : Target). record { module_number = s.module_number; point = p; frame = arrive c p b }) (option_and_then (λ n. leads_to c n o) at) t is in
      subst (λ (t : State Name). Is t.frame) m.2 (is-arrive own_name Is Is kept fewer c m.0 b e)
  behind s t at (stays b) (stayed b' e) is = subst (λ (t : State Name). Is t.frame) (some-injective is) e
  behind s t at stuck never is = none-not_some is
