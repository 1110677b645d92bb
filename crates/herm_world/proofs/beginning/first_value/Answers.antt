use Rattle.std.proofs.Common.{◌++◌, ◌∷◌, [], Some, refl, ap, ◌∙◌}
use Rattle.herm_values.specs.declared.value.Value.{Text}
use Rattle.herm_world.proofs.FirstMessage.{first-viewed, first-whole}
use Rattle.herm_world.proofs.beginning.first_value.Goals as goal

pub returns-clause-value : goal.returns-clause-value
returns-clause-value c =
    first-viewed c.push-2.new.self c.push.new.self.items c.in_ok-argument.argument c.args.arg.now _
    (c.in_ok-push.ensures.items ∙ ap (λ xs. xs ++ Some (Text c.in_ok-argument.argument) ∷ []) c.new-fields.ensures.items) c.in_ok-push-2.ensures.items c.in_ok-argument.ensures.bytes refl

pub returns-clause-whole : goal.returns-clause-whole
returns-clause-whole c =
    first-whole c.push-2.new.self c.push.new.self.items c.in_ok-argument.argument c.args.arg.now _
    (c.in_ok-push.ensures.items ∙ ap (λ xs. xs ++ Some (Text c.in_ok-argument.argument) ∷ []) c.new-fields.ensures.items) c.in_ok-push-2.ensures.items
