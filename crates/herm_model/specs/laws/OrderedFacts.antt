-- What is proved of the facts before a fact, and of the order of those that a statement needs and makes.
use Rattle.std.specs.Prelude.{◌≡◌, ℕ, List, ◌∷◌, ◌++◌}
use Rattle.herm_model.specs.Lists.{IsIn}
use Rattle.herm_model.specs.Paths.{Path, Fact}
use Rattle.herm_model.specs.Types.{TypeTable}
use Rattle.herm_model.specs.Facts.{facts_to, prefixes, IsFactOf}
use Rattle.herm_model.specs.Statements.{Form}
use Rattle.herm_model.specs.Outcomes.{Outcome}
use Rattle.herm_model.specs.FactsOfStatements.{needs, makes}

-- each fact of the list stands behind the facts before it
abbrev pub StandBehindPrefixes : TypeTable → List ℕ → List Fact → Type 0
StandBehindPrefixes types variables fs = (before after : List Fact) (f g : Fact) → fs ≡ before ++ f ∷ after → IsIn g (prefixes types variables f) → IsIn g before

-- so it is with the facts to a path, and with what a form needs and makes
abbrev pub FactsToAreOrdered : Type 0
FactsToAreOrdered = (types : TypeTable) (variables : List ℕ) (p : Path) → StandBehindPrefixes types variables (facts_to types variables p)

abbrev pub NeedsAreOrdered : Type 0
NeedsAreOrdered = (types : TypeTable) (variables : List ℕ) (form : Form) → StandBehindPrefixes types variables (needs types variables form)

abbrev pub MakesAreOrdered : Type 0
MakesAreOrdered = (types : TypeTable) (variables : List ℕ) (form : Form) (o : Outcome) → StandBehindPrefixes types variables (makes types variables form o)

-- before a fact that there is, there are the facts before it
abbrev pub PrefixesAreFacts : Type 0
PrefixesAreFacts = (types : TypeTable) (variables : List ℕ) (f g : Fact) → IsFactOf types variables f → IsIn g (prefixes types variables f) → IsFactOf types variables g
