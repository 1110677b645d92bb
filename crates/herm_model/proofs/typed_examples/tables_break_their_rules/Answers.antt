use Rattle.std.proofs.Common.{refl}
use Rattle.herm_model.specs.examples.TableRuleExamples.{table_examples}
use Rattle.herm_model.proofs.JudgedExamples.{judge-tables}
use Rattle.herm_model.proofs.typed_examples.tables_break_their_rules.Goals as goal

pub returns : goal.returns
returns c = judge-tables table_examples refl
