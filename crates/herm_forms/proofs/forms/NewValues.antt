-- New cells have the types of their shapes.
use Rattle.std.proofs.Common.{◌≡◌, ℕ, false, Option, Some, None, sym, ap, ◌∙◌, subst}
use Rattle.std.specs.Prelude.{slice_get, IsTrue}
use Rattle.herm_model.specs.Types.{TypeTable, Shape}
use Rattle.herm_model.specs.Values.{Kind, cell, Parts}
use Rattle.herm_model.specs.Typed.{partly, unfit, layout, is_bounded, Fits, HasType}
use Rattle.herm_forms.specs.Frames.{Name}

-- a cell of a shape that is there
pub typed-by : (types : TypeTable) (t : ℕ) (s : Shape) (n : Name) (k : Kind) (ps : Parts Name) → slice_get types t ≡ Some s → Fits types (layout partly s k) ps → IsTrue (is_bounded s ps) → HasType types t (cell n k ps)
typed-by types t s n k ps e fits bounded = (
  subst (λ (o : Option Shape). Fits types (elim o [ None ↦ unfit | Some s ↦ layout partly s k ]) ps) (sym e) fits,
  ap (λ (o : Option Shape). elim o [ None ↦ false | Some s ↦ is_bounded s ps ]) e ∙ bounded,
)
