use Rattle.herm_syntax.proofs.Places.{fault_begins, fault_is_first, fault_has_no_file}
use Rattle.herm_syntax.proofs.MendedFits.{fault_begins_source}
use Rattle.herm_syntax.proofs.laws.faults_have_their_place.Goals as goal

pub returns : goal.returns
returns c = record { begins = fault_begins; source = fault_begins_source; first = fault_is_first; none = fault_has_no_file }
