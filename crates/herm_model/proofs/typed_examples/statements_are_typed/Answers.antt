use Rattle.std.proofs.Common.{refl}
use Rattle.herm_model.specs.examples.TypedStatementExamples.{typed_statements}
use Rattle.herm_model.proofs.JudgedExamples.{judge-typed}
use Rattle.herm_model.proofs.typed_examples.statements_are_typed.Goals as goal

pub returns : goal.returns
returns c = judge-typed typed_statements refl
