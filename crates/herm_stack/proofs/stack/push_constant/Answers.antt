use Rattle.std.proofs.lemmas.Int.{to_z-of_z}
use Rattle.std.specs.Int.{w64}
use Rattle.std.proofs.Common.{rules, ap, [], ◌∷◌, ◌++◌, ◌∙◌}
use Rattle.herm_values.specs.declared.value.Value as values
use Rattle.herm_stack.proofs.Stacked.{boolean_constant, integer_constant, tag_constant, text_pushed}
use Rattle.herm_stack.proofs.stack.push_constant.Goals as goal

pub returns-in-Bool-clause-pushed : goal.returns-in-Bool-clause-pushed
returns-in-Bool-clause-pushed c =
    boolean_constant c.args.values.now.items c.push_reserved.new.self.items c.args.constant.now c.in-Bool.b c.in-Bool.is (c.push_reserved.ensures.items ∙ ap (λ vs. vs ++ values.Bool c.in-Bool.b ∷ []) c.in_ok-make_room.ensures.items)

pub returns-in-Int-clause-pushed : goal.returns-in-Int-clause-pushed
returns-in-Int-clause-pushed c =
    integer_constant c.args.values.now.items c.make_room.new.values.items c.push_reserved-in-Int.new.self.items c.args.constant.now _ c.in-Int.n c.in-Int.is (to_z-of_z w64 c.in-Int.n (search rules)) c.in_ok-make_room.ensures.items c.push_reserved-in-Int.ensures.items

pub returns-in_ok-push_text-in-Text-clause-pushed : goal.returns-in_ok-push_text-in-Text-clause-pushed
returns-in_ok-push_text-in-Text-clause-pushed c =
    text_pushed c.args.values.now.items c.make_room.new.values.items c.push_text.new.values.items c.args.constant.now c.in-Text.text c.in-Text.is c.in_ok-make_room.ensures.items c.in_ok-push_text-in-Text.ensures.pushed

pub returns-in-Tag-clause-pushed : goal.returns-in-Tag-clause-pushed
returns-in-Tag-clause-pushed c =
    tag_constant c.args.values.now.items c.push_reserved-in-Tag.new.self.items c.args.constant.now c.in-Tag.field-0 c.in-Tag.place c.in-Tag.is (c.push_reserved-in-Tag.ensures.items ∙ ap (λ vs. vs ++ values.Tag c.in-Tag.place ∷ []) c.in_ok-make_room.ensures.items)
