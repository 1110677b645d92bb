use Rattle.std.proofs.Common.{map, ap, sym, ◌∙◌}
use Rattle.herm_syntax.specs.View.{name_view}
use Rattle.herm_naming.specs.Numbers.{without_last, last_name, path_number, part_number, type_seen}
use Rattle.herm_numbers.specs.View.{scope_view}
use Rattle.herm_numbers.proofs.Repeated.{last_before, last_here}
use Rattle.herm_numbers.proofs.forms.component.Goals as goal

pub returns-in_ok-v-in-Some-clause-path : goal.returns-in_ok-v-in-Some-clause-path
returns-in_ok-v-in-Some-clause-path c =
    c.in_ok-v-in-Some.ensures.path
    ∙ ap (path_number (scope_view c.args.scope.now)) (last_before c.as_slice-names.result.now c.in-Some.before.now c.in-Some.last.now c.in-Some.ensures.cases ∙ ap (λ names. without_last (map name_view names)) c.as_slice-names.ensures.value)

pub returns-in_ok-v-in-Some-clause-number : goal.returns-in_ok-v-in-Some-clause-number
returns-in_ok-v-in-Some-clause-number c =
    c.component_of-number-in-Some.ensures.number
    ∙ (ap (λ p. part_number c.args.scope.now.types.now (type_seen (scope_view c.args.scope.now) p) c.bytes.result.now) (returns-in_ok-v-in-Some-clause-path c)
    ∙ ap (part_number c.args.scope.now.types.now (type_seen (scope_view c.args.scope.now) (path_number (scope_view c.args.scope.now) (without_last (map name_view c.args.c.now.parts.items)))))
    (c.bytes.ensures.bytes ∙ (last_here c.as_slice-names.result.now c.in-Some.before.now c.in-Some.last.now c.in-Some.ensures.cases ∙ ap (λ names. last_name (map name_view names)) c.as_slice-names.ensures.value)))
