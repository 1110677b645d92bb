use Rattle.std.proofs.Common.{◌≡◌, Some, None, inl, length, refl, sym, ap, subst, ◌∙◌}
use Rattle.herm_code.specs.View.{image_view}
use Rattle.herm_meaning.specs.Names.{NamedTable}
use Rattle.herm_model.specs.WellFormedTables.{IsWellFormedTable}
use Rattle.herm_code_machine.specs.laws.GoodImageLaws.{IsGoodOver}
use Rattle.herm_model.specs.Values.{an_inport}
use Rattle.herm_pieces.specs.View.{ready_view}
use Rattle.herm_steps.specs.Stepped.{begun}
use Rattle.herm_values.specs.View.{leaf}
use Rattle.herm_machine.proofs.Standing.{code-there, not-begun, process-begun}
use Rattle.herm_machine.proofs.Wanted.{none_of, some_of}
use Rattle.herm_machine.proofs.machine.Machine.begin.Goals as goal

pub unreachable-requires : goal.unreachable-requires
unreachable-requires c = code-there c.args.image.now 0 c.args.module_number c.requires.there (c.in_default.ensures.code 0)

pub unreachable-requires-in_default-2 : goal.unreachable-requires-in_default-2
unreachable-requires-in_default-2 c =
    let good : IsGoodOver (length c.args.image.now.types.exceptions) (image_view c.args.image.now) =
    record { good = c.keeps.ensures.good; table = subst (λ (t : NamedTable). IsWellFormedTable (length t.exceptions) t.shapes) c.types.ensures.types c.keeps-2.ensures.well_named.well_formed } in
    not-begun (image_view c.args.image.now) 0 (length c.args.image.now.types.exceptions) good (ready_view c.in-Some.code) c.args.module_number c.args.number.number c.args.first.number (sym (c.in-Some.ensures.code 0))
    (none_of c.in_ok-running.field-0 c.in_default-2.is c.in_ok-running.ensures.stuck c.args.module_number)

pub invariant_of-result : goal.invariant_of-result
invariant_of-result c =
    let good : IsGoodOver (length c.args.image.now.types.exceptions) (image_view c.args.image.now) =
    record { good = c.keeps.ensures.good; table = subst (λ (t : NamedTable). IsWellFormedTable (length t.exceptions) t.shapes) c.types.ensures.types c.keeps-2.ensures.well_named.well_formed } in
    let b = process-begun (image_view c.args.image.now) 0 (length c.args.image.now.types.exceptions) good (ready_view c.in-Some.code) c.args.module_number c.args.number.number c.args.first.number c.in-Some-2.running (begun (ready_view c.in-Some.code) c.args.module_number c.args.number.number (leaf (an_inport c.args.first.number))) (sym (c.in-Some.ensures.code 0))
    (some_of _ c.in_ok-running.field-0 c.in-Some-2.running c.in-Some-2.is c.in_ok-running.ensures.begins c.args.module_number) in
    ((λ alive. (image_view c.args.image.now, 0, b.behind, inl (record { alive = refl; inside = refl; sound = b.sound; stands = b.stands }))), (λ alive order. record { end = c.coming-coming.ensures.end; step = c.coming-coming.ensures.step; want = c.coming-coming.ensures.want; nothing = c.coming-coming.ensures.nothing }))

pub returns : goal.returns
returns c = record {
  begins = λ main.
      let good : IsGoodOver (length c.args.image.now.types.exceptions) (image_view c.args.image.now) =
      record { good = c.keeps.ensures.good; table = subst (λ (t : NamedTable). IsWellFormedTable (length t.exceptions) t.shapes) c.types.ensures.types c.keeps-2.ensures.well_named.well_formed } in
      let b = process-begun (image_view c.args.image.now) main (length c.args.image.now.types.exceptions) good (ready_view c.in-Some.code) c.args.module_number c.args.number.number c.args.first.number c.in-Some-2.running (begun (ready_view c.in-Some.code) c.args.module_number c.args.number.number (leaf (an_inport c.args.first.number))) (sym (c.in-Some.ensures.code main))
      (some_of _ c.in_ok-running.field-0 c.in-Some-2.running c.in-Some-2.is c.in_ok-running.ensures.begins c.args.module_number) in
      (b.behind, b.is, record { alive = refl; inside = refl; sound = b.sound; stands = b.stands });
}
