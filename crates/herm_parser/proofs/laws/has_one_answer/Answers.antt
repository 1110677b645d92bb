use Rattle.herm_parser.proofs.OneAnswer.{one_parse, parsed_has_no_fault, one_fault}
use Rattle.herm_parser.proofs.laws.has_one_answer.Goals as goal

pub returns : goal.returns
returns c = record { parse = one_parse; parsed = parsed_has_no_fault; fault = one_fault }
