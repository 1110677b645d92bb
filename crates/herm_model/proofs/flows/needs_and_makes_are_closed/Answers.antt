use Rattle.herm_model.proofs.ClosedFacts.{once-Differ, closed-IsClosed}
use Rattle.herm_model.proofs.flows.needs_and_makes_are_closed.Goals as goal

pub returns : goal.returns
returns c = record {
  differ = λ types variables form. once-Differ _;
  needs = λ types variables form. closed-IsClosed types variables _;
  makes = λ types variables form o. closed-IsClosed types variables _;
}
