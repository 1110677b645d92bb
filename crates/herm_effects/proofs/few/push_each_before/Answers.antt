use Rattle.std.proofs.Common.{◌++◌, ap, ◌∙◌}
use Rattle.herm_model.specs.Facts.{without_repeats}
use Rattle.herm_effects.proofs.few.push_each_before.Goals as goal

pub returns : goal.returns
returns c = λ fs e. c.in_ok-push_each_once.ensures fs e ∙ ap (λ gs. without_repeats (fs ++ gs)) c.in_ok-before.ensures
