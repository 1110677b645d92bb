use Rattle.std.proofs.Common.{◌∙◌, sym, refl, true, false}
use Rattle.herm_facts.specs.NumberSets.{has_number}
use Rattle.herm_check.proofs.Counts.{weight-first, weight-met, first, none}
use Rattle.herm_check.proofs.InSets.{in-fewer, in-by}
use Rattle.herm_check.proofs.label.join.Goals as goal

pub returns-then-not-label-clause-less : goal.returns-then-not-label-clause-less
returns-then-not-label-clause-less c ns all known only = weight-first ns all c.args.label.now (record { reached = true; pending = true; held = c.args.after }) c.if-not-label.true refl

pub returns-clause-less : goal.returns-clause-less
returns-clause-less c ns all known only =
    let old = c.args.label.now.held in
    let new = c.intersect.new.self in
    let w = c.if-is_below.ensures.beyond refl in
    let g = known w.0 w.1 in
    weight-met ns all c.args.label.now (record { reached = c.args.label.now.reached; pending = true; held = new }) g.0 c.if-not-label.false c.if-not-label.false
    (in-fewer ns new old (λ n h. first (has_number old n) (has_number c.args.after n) (sym (c.intersect.ensures n) ∙ h))) (only g.0 w.0 g.1) (in-by ns old g.0 w.0 true g.1 w.1)
    (in-by ns new g.0 w.0 false g.1 (c.intersect.ensures w.0 ∙ none (has_number old w.0) (has_number c.args.after w.0) w.2))
