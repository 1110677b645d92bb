use Rattle.std.proofs.Common.{◌≡◌, map, cond, is_some, None, sym, ap, subst, ◌∙◌}
use Rattle.herm_types.specs.View.{raise_decl_view}
use Rattle.herm_typed.specs.View.{typed_atom_view}
use Rattle.herm_flow.specs.Listed.{is_marked}
use Rattle.herm_flow.specs.NumberTables.{at_number, kept_if_raised}
use Rattle.herm_flow.specs.Touched.{numbers_at, AreWanted, AreMadeBy}
use Rattle.herm_flow.proofs.calls.tables_of.Goals as goal

pub returns : goal.returns
returns c =
    let raises = map raise_decl_view c.args.raises.now in
    let touches = c.in_ok-touches.touches in
    record {
      tables = record {
        leads = λ e. c.in_ok-points.ensures.points e;
        declared_are = λ e. c.in_ok-declared.ensures.declared e ∙ ap (λ points. cond (is_some (at_number points e)) (kept_if_raised raises e) None) c.as_slice.ensures.value;
        wanted = is_marked c.in_ok-wanted.wanted.items;
        wanted_are = subst (λ points. AreWanted raises points (is_marked c.in_ok-wanted.wanted.items)) c.as_slice-2.ensures.value c.in_ok-wanted.ensures.wanted;
        made = λ types variables. subst (λ marks. AreMadeBy types variables (map typed_atom_view c.args.arguments.now) (is_marked marks) touches.single (numbers_at touches.numbers.items)) c.as_slice-3.ensures.value (c.in_ok-touches.ensures.numbers types variables);
      };
    }
