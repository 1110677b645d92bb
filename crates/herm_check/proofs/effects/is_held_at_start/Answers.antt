use Rattle.std.proofs.Common.{◌≡◌, ◌&&◌, [], length, nat_eq, sym, ◌∙◌, ap, subst}
use Rattle.herm_model.specs.Lists.{same_numbers}
use Rattle.herm_model.specs.ControlPaths.{held_at_start}
use Rattle.herm_types.specs.View.{fact_view}
use Rattle.herm_check.proofs.Begun.{none-same}
use Rattle.herm_check.proofs.effects.is_held_at_start.Goals as goal

pub returns-then-path-eq0 : goal.returns-then-path-eq0
returns-then-path-eq0 c =
    let items = c.in-Init.path.parts.items in
    subst (λ x. c.is_empty.result ≡ held_at_start (fact_view x)) (sym c.in-Init.is)
    (c.is_empty.ensures ∙ (ap (λ xs. nat_eq (length xs) 0) c.as_slice.ensures.value ∙ (none-same items ∙ ap (λ n. nat_eq n 0 && same_numbers items []) (sym c.if-path-eq0.true))))
