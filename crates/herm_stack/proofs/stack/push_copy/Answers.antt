use Rattle.std.proofs.lemmas.Int.{to_z-of_z}
use Rattle.std.specs.Int.{w64}
use Rattle.std.proofs.Common.{rules, ap, [], ◌∷◌, ◌++◌, ◌∙◌}
use Rattle.herm_stack.proofs.Stacked.{copied_end, integer_copied}
use Rattle.herm_values.specs.declared.value.Value as values
use Rattle.herm_stack.proofs.stack.push_copy.Goals as goal

pub returns-in-Bool-clause-pushed : goal.returns-in-Bool-clause-pushed
returns-in-Bool-clause-pushed c = copied_end c.args.values.now.items c.push_reserved.new.self.items c.args.v.now (values.Bool c.in-Bool.b) c.in-Bool.is (c.push_reserved.ensures.items ∙ ap (λ vs. vs ++ values.Bool c.in-Bool.b ∷ []) c.in_ok-make_room.ensures.items)

pub returns-in-Int-clause-pushed : goal.returns-in-Int-clause-pushed
returns-in-Int-clause-pushed c =
    integer_copied c.args.values.now.items c.make_room.new.values.items c.push_reserved-in-Int.new.self.items c.args.v.now _ c.in-Int.n c.in-Int.is (to_z-of_z w64 c.in-Int.n (search rules)) c.in_ok-make_room.ensures.items c.push_reserved-in-Int.ensures.items

pub returns-in-Tag-clause-pushed : goal.returns-in-Tag-clause-pushed
returns-in-Tag-clause-pushed c = copied_end c.args.values.now.items c.push_reserved-in-Tag.new.self.items c.args.v.now (values.Tag c.in-Tag.place) c.in-Tag.is (c.push_reserved-in-Tag.ensures.items ∙ ap (λ vs. vs ++ values.Tag c.in-Tag.place ∷ []) c.in_ok-make_room.ensures.items)

pub returns-in-Inport-clause-pushed : goal.returns-in-Inport-clause-pushed
returns-in-Inport-clause-pushed c = copied_end c.args.values.now.items c.push_reserved-in-Inport.new.self.items c.args.v.now (values.Inport c.in-Inport.port) c.in-Inport.is (c.push_reserved-in-Inport.ensures.items ∙ ap (λ vs. vs ++ values.Inport c.in-Inport.port ∷ []) c.in_ok-make_room.ensures.items)

pub returns-in-Outport-clause-pushed : goal.returns-in-Outport-clause-pushed
returns-in-Outport-clause-pushed c = copied_end c.args.values.now.items c.push_reserved-in-Outport.new.self.items c.args.v.now (values.Outport c.in-Outport.port) c.in-Outport.is (c.push_reserved-in-Outport.ensures.items ∙ ap (λ vs. vs ++ values.Outport c.in-Outport.port ∷ []) c.in_ok-make_room.ensures.items)
