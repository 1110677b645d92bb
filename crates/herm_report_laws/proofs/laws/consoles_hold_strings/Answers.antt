use Rattle.herm_report_laws.proofs.Strings.{console_strings}
use Rattle.herm_report_laws.proofs.laws.consoles_hold_strings.Goals as goal

pub returns : goal.returns
returns c = record { strings = console_strings }
