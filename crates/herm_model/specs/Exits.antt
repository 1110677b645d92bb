-- Exits: the outcomes of a node, each with where control goes behind it. Language reference, "Control".
use Rattle.std.specs.Prelude.{ℕ, List, [], ◌∷◌, ◌++◌, map}
use Rattle.herm_model.specs.Types.{TypeTable}
use Rattle.herm_model.specs.Outcomes.{Outcome, raised, normal_outcomes, exceptions}
use Rattle.herm_model.specs.Targets.{Target}
use Rattle.herm_model.specs.Handlers.{caught}
use Rattle.herm_model.specs.Nodes.{Node}

-- an outcome, with where it leads
pub record Exit : Type 0 where
  pub outcome : Outcome
  pub target : Target

-- the outcomes, each with where it leads
abbrev pub paired : List Outcome → List Target → List Exit
paired [] targets = []
paired (o ∷ outcomes) [] = []
paired (o ∷ outcomes) (t ∷ targets) = record { outcome = o; target = t } ∷ paired outcomes targets

-- The exits of a node, in the order of its form's outcomes. Language reference, "Outcomes".
abbrev pub exits : TypeTable → List ℕ → Node → List Exit
exits types variables n =
    paired (normal_outcomes n.form) n.leads
    ++ map (λ e. record { outcome = raised e; target = caught n.catches e }) (exceptions types variables n.form)
