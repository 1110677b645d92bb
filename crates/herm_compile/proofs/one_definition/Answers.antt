use Rattle.herm_compile.proofs.OneAnswerLaws.{one_table, one_list, types_or_faults, one_program}
use Rattle.herm_compile.proofs.OneNamingLaws.{one_list_of_names, program_or_faults}
use Rattle.herm_compile.proofs.OneAcceptanceLaws.{facts_are_one_list, accepted_or_faults}
use Rattle.herm_compile.proofs.one_definition.Goals as goal

pub returns : goal.returns
returns c = record {
  types = λ files table other a b. one_table files table other a b;
  faults = λ files faults others a b. one_list files faults others a b;
  program = λ files table other processes others main number a b. one_program files table other processes others main number a b;
  names = λ files faults others a b. one_list_of_names files faults others a b;
  program_or_faults = λ files table processes main faults a b. program_or_faults files table processes main faults a b;
  facts = λ files faults others a b. facts_are_one_list files faults others a b;
  accepted_or_faults = λ files table processes main faults a b d. accepted_or_faults files table processes main faults a b d;
  either = λ files table faults a b. types_or_faults files table faults a b;
}
