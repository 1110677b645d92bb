use Rattle.herm_claim.proofs.ClaimsExact.{faults-refused, accepted-otherwise, five-statuses}
use Rattle.herm_claim.proofs.claims_are_exact.Goals as goal

pub returns : goal.returns
returns c = record { refused = faults-refused; accepted = accepted-otherwise; statuses = five-statuses }
