-- What is claimed of the ledger for edges: they keep its equation.
use Rattle.std.specs.Prelude.{ℕ, ◌+◌, ◌≡◌}
use Rattle.herm_model.specs.Targets.{Target}
use Rattle.herm_forms.specs.Frames.{Name, Frame}
use Rattle.herm_forms.specs.EdgeFinalising.{arrive}
use Rattle.herm_forms.specs.Modules.{Module}
use Rattle.herm_forms.specs.Weights.{weight_accounted, weight_made}

-- Every edge keeps what a process holds and has finalised, and makes nothing. Language reference, "The ledger".
abbrev pub EdgesKeep : Type 0
EdgesKeep = (w : Name → ℕ) (name : Name → Name) (c : Module) (t : Target) (b : Frame Name)
    → weight_made w name (arrive c t b) + weight_accounted w b ≡ weight_made w name b + weight_accounted w (arrive c t b)
