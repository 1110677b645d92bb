use Rattle.std.proofs.Common.{◌≡◌, map, subst, ap, IfOk}
use Rattle.herm_types.specs.View.{fact_view}
use Rattle.herm_code.specs.View.{instr_view}
use Rattle.herm_fronts.specs.Blocks.{exits_view}
use Rattle.herm_fronts.specs.Forms.{behind_operands}
use Rattle.herm_fronts.specs.Frames.{table_of, variables_of}
use Rattle.herm_fronts.proofs.SelectSeen.{select_seen}
use Rattle.herm_fronts.proofs.behind.behind_operands.Goals as goal

pub returns-in-Select : goal.returns-in-Select
returns-in-Select c =
    subst (λ code. IfOk c.select.result (λ v. map instr_view v.items ≡ code))
    (ap (behind_operands (table_of c.args.frame.now) (variables_of c.args.frame.now) (map fact_view c.args.site.now.facts.now) c.args.site.now.number c.args.site.now.here (exits_view c.args.site.now.exits))
    (select_seen c.args.form.now c.in-Select.arms c.as_slice-in-Select.result.now c.in-Select.is c.as_slice-in-Select.ensures.value))
    c.select.ensures
