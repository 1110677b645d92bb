use Rattle.std.proofs.Common.{◌++◌, [], ◌∷◌, map, ap, ◌∙◌}
use Rattle.herm_syntax.specs.View.{name_view}
use Rattle.herm_defs.specs.PlainFacts.{path_key, marked_bytes}
use Rattle.herm_defs.proofs.FactLaws.{mark-end}
use Rattle.herm_defs.proofs.facts.case_key.Goals as goal

pub returns : goal.returns
returns c =
    c.from_vec.ensures.bytes
    ∙ (c.in_ok-push_path.ensures
    ∙ (ap (λ bytes. bytes ++ path_key (map name_view c.args.path.now)) (c.in_ok-push_name.ensures ∙ ap (λ bytes. bytes ++ marked_bytes c.args.component.now.text []) (c.in_ok-push.ensures.items ∙ ap (λ bytes. bytes ++ 2 ∷ []) c.new-bytes.ensures.items))
    ∙ ap (2 ∷◌) (mark-end c.args.component.now.text (path_key (map name_view c.args.path.now)))))
