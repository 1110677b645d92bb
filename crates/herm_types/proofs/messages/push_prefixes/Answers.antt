use Rattle.std.proofs.Common.{◌∙◌, ap, ◌++◌, map, length, ℕ}
use Rattle.herm_types.specs.View.{fact_view}
use Rattle.herm_types.specs.Table.{shapes_view}
use Rattle.herm_types.proofs.Repeats.{prefixes-init}
use Rattle.herm_types.proofs.messages.push_prefixes.Goals as goal

pub returns-in_ok-push_facts_to-in-Init : goal.returns-in_ok-push_facts_to-in-Init
returns-in_ok-push_facts_to-in-Init c =
    rw c.in-Init.is
    (c.in_ok-push_facts_to-in-Init.ensures
    ∙ ap (map fact_view c.args.out.now.items ++◌) (rw (c.variable_type-of.ensures, c.as_slice-parts.ensures.value) (prefixes-init (shapes_view c.args.shapes.now) c.args.message.0 c.in-Init.path.var.0 c.in-Init.path.parts.items (λ e. c.if-count-eq0.false (ap length c.as_slice-parts.ensures.value ∙ e)))))
