use Rattle.std.proofs.Common.{◌∙◌, sym, ap, not, ◌&&◌, cond, false, map, take}
use Rattle.herm_model.specs.Lists.{any_pass}
use Rattle.herm_model.specs.Paths.{Path, path_of, is_at_or_below}
use Rattle.herm_types.specs.View.{path_view}
use Rattle.herm_typestate.specs.Facts.{has_fact}
use Rattle.herm_check.proofs.Carried.{any-more, killed-more}
use Rattle.herm_check.proofs.behind_edge.kill_all.Goals as goal

pub loop-path-preserved : goal.loop-path-preserved
loop-path-preserved c f =
    let kills = λ (p : Path). is_at_or_below p (path_of f) in
    let so_far = any_pass kills (map path_view (take c.loop-path.path-index c.args.kills.now)) in
    c.kill.ensures f
    ∙ (ap (λ b. not (is_at_or_below (path_view c.path-item.result) (path_of f)) && b) (c.loop-path.invariant f)
    ∙ (killed-more so_far (is_at_or_below (path_view c.path-item.result) (path_of f)) (has_fact c.args.state.now f)
    ∙ ap (λ b. cond b false (has_fact c.args.state.now f)) (sym (any-more kills path_view c.args.kills.now c.loop-path.path-index c.path-item.result c.loop-path-test.true c.path-item.is))))
