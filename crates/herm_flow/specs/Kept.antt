-- Which points a walk adds: with all edges, or with those alone that lead on and cover the others.
use Rattle.std.specs.Prelude.{◌≡◌, ℕ, List, ◌++◌, map, Bool}
use Rattle.herm_model.specs.Handlers.{Catch, caught}
use Rattle.herm_model.specs.ControlPaths.{Point}
use Rattle.herm_flow.specs.declared.kept.Kept.{Kept}
use Rattle.herm_flow.specs.declared.kept.Kept.TheVariants.{All, Onward}
use Rattle.herm_flow.specs.declared.kept.Points.{Points}
use Rattle.herm_flow.specs.View.{point_view}
use Rattle.herm_flow.specs.Onward.{is_node, AreOnward}
use Rattle.herm_flow.specs.OnwardView.{onward_point_view}

-- the points that were added
abbrev pub points_view : Kept → Points → List Point
points_view All points = map point_view points.whole.items
points_view Onward points = map onward_point_view points.onward.items

-- points as they are kept
abbrev pub AreKept : Kept → List Point → List Point → Type 0
AreKept All ps qs = qs ≡ ps
AreKept Onward ps qs = AreOnward ps qs

-- points with these behind them, as they are kept
abbrev pub Adds : Kept → (old new more : List Point) → Type 0
Adds kept old new more = (qs : List Point) × (new ≡ old ++ qs) × AreKept kept more qs

-- an exception leads on, by the handlers within reach
abbrev pub goes_on : List Catch → ℕ → Bool
goes_on catches e = is_node (caught catches e)
