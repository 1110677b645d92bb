-- What stands at several paths is finalised, one after another.
use Rattle.std.proofs.Common.{◌≡◌, List, [], ◌∷◌, refl, subst}
use Rattle.std.specs.Prelude.{⊤}
use Rattle.herm_model.specs.Paths.{Path}
use Rattle.herm_forms.specs.Frames.{Frame, drop, drop_at}
use Rattle.herm_frames.specs.HeldFrames.{HeldFrame}
use Rattle.herm_frames.specs.Standing.{Stands}

-- a frame from which the rest leads to this end
pub record DropsOn (f : HeldFrame) (rest : List Path) (end : Frame ⊤) : Type 0 where
  pub frame : Frame ⊤
  pub stands : Stands f frame
  pub leads : drop rest frame ≡ end

pub drops_all : (f : HeldFrame) (paths : List Path) (s : Frame ⊤) → Stands f s → DropsOn f paths (drop paths s)
drops_all f paths s h = record { frame = s; stands = h; leads = refl }

pub drops_one : (f new : HeldFrame) (p : Path) (rest : List Path) (end : Frame ⊤) → ((s : Frame ⊤) → Stands f s → Stands new (drop_at p s)) → DropsOn f (p ∷ rest) end → DropsOn new rest end
drops_one f new p rest end dropped d = record { frame = drop_at p d.frame; stands = dropped d.frame d.stands; leads = d.leads }

pub drops_none : (f : HeldFrame) (end : Frame ⊤) → DropsOn f [] end → Stands f end
drops_none f end d = subst (Stands f) d.leads d.stands
