use Rattle.std.proofs.Common.{refl}
use Rattle.herm_model.specs.examples.BodyExamples.{body_examples}
use Rattle.herm_model.proofs.JudgedExamples.{judge-bodies}
use Rattle.herm_model.proofs.typed_examples.bodies_break_their_rules.Goals as goal

pub returns : goal.returns
returns c = judge-bodies body_examples refl
