use Rattle.std.proofs.Common.{◌≡◌, ◌∙◌, ◌++◌, [], ◌∷◌, Some, sym, ap, subst, option_map, List, ℕ}
use Rattle.herm_meaning.specs.Walks.{walk}
use Rattle.herm_syntax.specs.View.{name_view}
use Rattle.herm_defs.specs.Steps.{end_of, step_from, part_seen}
use Rattle.herm_defs.proofs.Stepping.{behind, walk-stops, walk-goes}
use Rattle.herm_defs.proofs.fields.walk.Goals as goal

pub returns-in-None : goal.returns-in-None
returns-in-None c =
    walk-stops c.args.table.now c.loop-name.t.0 c.args.path.now c.loop-name.name-index c.name-item.result c.loop-name.places.items _ c.loop-name-test.true c.name-item.is
    (ap (step_from c.args.table.now c.loop-name.t.0) (sym c.bytes.ensures.bytes) ∙ sym c.in-None.ensures) c.loop-name.invariant

pub loop-name-preserved : goal.loop-name-preserved
loop-name-preserved c =
    rw (c.in_ok-push-in-Some.ensures.items)
    (walk-goes c.args.table.now c.loop-name.t.0 c.args.path.now c.loop-name.name-index c.name-item.result c.loop-name.places.items c.in-Some.field.0 c.in-Some.field.1.0 _ c.loop-name-test.true c.name-item.is
    (ap (step_from c.args.table.now c.loop-name.t.0) (sym c.bytes.ensures.bytes) ∙ (sym c.step_from.ensures ∙ ap (option_map part_seen) c.in-Some.is)) c.loop-name.invariant)
