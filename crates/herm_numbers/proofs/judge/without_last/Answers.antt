use Rattle.std.proofs.Common.{map, ap, ◌∙◌}
use Rattle.herm_syntax.specs.View.{name_view}
use Rattle.herm_naming.specs.Numbers.{without_last}
use Rattle.herm_numbers.proofs.Repeated.{last_before}
use Rattle.herm_numbers.proofs.judge.without_last.Goals as goal

pub returns-in-Some : goal.returns-in-Some
returns-in-Some c = record {
  before = last_before c.as_slice-names.result.now c.in-Some.before.now c.in-Some.field-0-0.now c.in-Some.ensures.cases ∙ ap (λ names. without_last (map name_view names)) c.as_slice-names.ensures.value;
}
