use Rattle.std.proofs.Common.{map, length}
use Rattle.std.specs.Prelude.{⊤}
use Rattle.herm_forms.specs.Frames.{Frame, finalise_all}
use Rattle.herm_values.specs.View.{value_view}
use Rattle.herm_letters.specs.declared.parcel.Parcel.{Parcel}
use Rattle.herm_frames.specs.Standing.{Stands}
use Rattle.herm_exchanges.proofs.Worked.{FinalisesOn}
use Rattle.herm_exchanges.proofs.working.finalise_parcels.Given as goal

abbrev pub invariant-parcels : goal.invariant-parcels
invariant-parcels l = (s : Frame ⊤) → Stands l.fn.frame s → FinalisesOn l.frame (map (λ (p : Parcel). value_view p.value) l.left.parcels) (finalise_all (map (λ (p : Parcel). value_view p.value) l.initial.left.parcels) s)

abbrev pub decreases-parcels : goal.decreases-parcels
decreases-parcels l = length l.left.parcels
