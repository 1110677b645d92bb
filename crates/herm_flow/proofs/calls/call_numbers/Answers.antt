use Rattle.std.proofs.Common.{map, sym, ap, ◌∙◌, length}
use Rattle.std.proofs.lemmas.Bool.{eqb-true}
use Rattle.std.proofs.lemmas.List.{nil_from_length}
use Rattle.herm_types.specs.View.{raise_decl_view}
use Rattle.herm_typed.specs.View.{typed_atom_view}
use Rattle.herm_flow.specs.Touched.{numbers_at}
use Rattle.herm_flow.specs.View.{catch_view}
use Rattle.herm_flow.proofs.OnwardNumbers.{none_called, numbers_called}
use Rattle.herm_flow.proofs.calls.call_numbers.Goals as goal

pub returns-then-is_empty : goal.returns-then-is_empty
returns-then-is_empty c =
    let none = nil_from_length c.args.catches.now (eqb-true (length c.args.catches.now) 0 (sym c.is_empty.ensures ∙ c.if-is_empty.true)) in
    record { numbers = λ types variables. none_called types variables (map typed_atom_view c.args.arguments.now) (map catch_view c.args.catches.now) (map raise_decl_view c.args.raises.now) _ (ap (map catch_view) none) (ap (map (λ n. n.0)) c.new.ensures.items) }

pub returns : goal.returns
returns c =
    let t = c.in_ok-tables.tables in
    record { numbers = λ types variables. numbers_called types variables (map typed_atom_view c.args.arguments.now) (map catch_view c.args.catches.now) (map raise_decl_view c.args.raises.now) t.points.items t.declared.items t.touches.single (numbers_at t.touches.numbers.items) _ c.in_ok-tables.ensures.tables c.in_ok-found.ensures.rise c.in_ok-found.ensures.there c.in_ok-found.ensures.covered }
