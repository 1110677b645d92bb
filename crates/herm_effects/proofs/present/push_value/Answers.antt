use Rattle.std.proofs.Common.{map, sym, ap, ◌++◌, ◌∙◌, arith}
use Rattle.std.proofs.lemmas.List.{append-nil}
use Rattle.herm_types.specs.View.{path_view, fact_view}
use Rattle.herm_effects.proofs.Unknown.{none_full}
use Rattle.herm_effects.proofs.present.push_value.Goals as goal

pub returns-then-t-len : goal.returns-then-t-len
returns-then-t-len c =
    rw c.in-Some.is
    (sym (ap (map fact_view c.args.out.now.items ++◌) (none_full c.args.types.now.shapes c.in-Some.t.0 (path_view c.args.p.now) (omega (arith, c.if-t-len.true, c.len.ensures))) ∙ append-nil (map fact_view c.args.out.now.items)))
