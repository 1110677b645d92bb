use Rattle.std.proofs.Common.{refl}
use Rattle.herm_model.specs.examples.UntypedStatementExamples.{untyped_statements}
use Rattle.herm_model.proofs.JudgedExamples.{judge-untyped}
use Rattle.herm_model.proofs.typed_examples.statements_break_their_rules.Goals as goal

pub returns : goal.returns
returns c = judge-untyped untyped_statements refl
