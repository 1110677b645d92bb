-- The control paths to which the visits of a search stand.
use Rattle.std.specs.Prelude.{ℕ, zero, suc, List, [], ◌∷◌, ◌++◌, cond, nat_lt, slice_get, option_and_then}
use Rattle.herm_model.specs.Lists.{list_of}
use Rattle.herm_model.specs.ControlPaths.{Hop}
use Rattle.herm_check.specs.View.{hop_view}
use Rattle.herm_check.specs.declared.search.Link.{Link}
use Rattle.herm_check.specs.declared.search.Visit.{Visit}

-- The hops that lead to the visit at a place, by at most so many links. A link that does not lead back leads from nowhere.
abbrev pub trail_by : ℕ → List Visit → ℕ → List Hop
trail_by zero vs k = []
trail_by (suc n) vs k = list_of (λ (l : Link). cond (nat_lt l.from k) (trail_by n vs l.from) [] ++ hop_view l.hop ∷ []) (option_and_then (λ (v : Visit). v.last) (slice_get vs k))

-- the hops that lead to the visit at a place
abbrev pub trail : List Visit → ℕ → List Hop
trail vs k = trail_by (suc k) vs k
