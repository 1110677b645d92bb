use Rattle.std.proofs.Common.{◌++◌, ◌∷◌, [], map, sym, ap, ◌∙◌}
use Rattle.std.proofs.lemmas.List.{map-append}
use Rattle.herm_types.specs.View.{path_view}
use Rattle.herm_fronts.proofs.Trimmed.{left_whole}
use Rattle.herm_fronts.proofs.trims.+trimming.Goals as goal

pub push_left-returns-then-is_whole : goal.push_left-returns-then-is_whole
push_left-returns-then-is_whole t c =
    ap (map path_view) c.in_ok-push.ensures.items
    ∙ (map-append path_view c.args.out.now.items (c.in_ok-path.path ∷ [])
    ∙ ap (λ xs. map path_view c.args.out.now.items ++ xs)
    (ap (λ q. q ∷ []) c.in_ok-path.ensures ∙ sym (left_whole _ c.args.depth _ _ _ c.if-depth-eq0.false (sym c.in_ok-is_whole.ensures ∙ c.if-is_whole.true))))
