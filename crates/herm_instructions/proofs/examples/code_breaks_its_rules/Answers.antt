use Rattle.std.proofs.Common.{refl}
use Rattle.herm_instructions.specs.examples.CodeExamples.{good_code, odd_modules, odd_instructions, odd_operands, odd_ways, odd_constants}
use Rattle.herm_instructions.specs.examples.MoreCodeExamples.{odd_places}
use Rattle.herm_instructions.proofs.JudgedCode.{judge-code, judge-constants}
use Rattle.herm_instructions.proofs.examples.code_breaks_its_rules.Goals as goal

pub returns : goal.returns
returns c = record {
  good = judge-code good_code refl;
  modules = judge-code odd_modules refl;
  instructions = judge-code odd_instructions refl;
  operands = judge-code odd_operands refl;
  ways = judge-code odd_ways refl;
  places = judge-code odd_places refl;
  constants = judge-constants odd_constants refl;
}
