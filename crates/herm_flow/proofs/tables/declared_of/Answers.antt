use Rattle.std.proofs.Common.{length, map, cond, is_some, nat_eq, Some, ap, sym, ◌∙◌, ◌-◌, arith}
use Rattle.herm_types.specs.declared.shape.RaiseDecl.{RaiseDecl}
use Rattle.herm_types.specs.View.{raise_decl_view}
use Rattle.herm_flow.specs.NumberTables.{at_number, kept_at}
use Rattle.herm_flow.proofs.NumberTables.{declared-first, declared-more}
use Rattle.herm_flow.proofs.tables.declared_of.Goals as goal

pub declared-init : goal.declared-init
declared-init c = record {
  within = omega arith;
  kept = λ e. ap (kept_at (map raise_decl_view c.args.raises.now)) (c.in_ok-put_declared.ensures.entries e
      ∙ ap (λ table. cond (is_some (at_number c.args.points.now 6)) (cond (nat_eq 6 e) (Some (length c.args.raises.now)) (at_number table e)) (at_number table e)) c.new-declared.ensures.items)
      ∙ declared-first c.args.raises.now c.args.points.now e;
}

pub declared-preserved : goal.declared-preserved
declared-preserved c =
    let test = c.declared-test.true in
    let within = c.declared.invariant.within in
    record {
      within = omega (arith, within);
      kept = λ e. ap (kept_at (map raise_decl_view c.args.raises.now)) (c.in_ok-put_declared-2.ensures.entries e
          ∙ ap (λ (x : RaiseDecl). cond (is_some (at_number c.args.points.now x.exc.0)) (cond (nat_eq x.exc.0 e) (Some (c.declared.left - 1)) (at_number c.declared.declared.items e)) (at_number c.declared.declared.items e)) (sym c.index-raises-left.is))
          ∙ declared-more c.args.raises.now c.index-raises-left.result (c.declared.left - 1) c.declared.left c.args.points.now c.declared.declared.items (omega (arith, test)) (omega (arith, test, within)) c.index-raises-left.is c.declared.invariant.kept e;
    }
