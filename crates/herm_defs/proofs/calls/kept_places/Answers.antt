use Rattle.std.proofs.Common.{◌∙◌, map, sym, ap, List, ℕ}
use Rattle.std.specs.List.{list_any}
use Rattle.std.specs.Str.{bytes_eq}
use Rattle.herm_syntax.specs.Trees.{Param}
use Rattle.herm_syntax.specs.View.{name_view, param_form_view}
use Rattle.herm_defs.proofs.Keeping.{kept-none, kept-more, empty-is}
use Rattle.herm_defs.proofs.calls.kept_places.Goals as goal

pub returns-then-is_empty : goal.returns-then-is_empty
returns-then-is_empty c = rw (c.new-kept.ensures.items, empty-is name_view c.args.keeps.now c.if-is_empty.ensures) (sym (kept-none 0 (map (λ (p : Param). p.1.0) (map param_form_view c.args.params.now))))

pub loop-place-preserved : goal.loop-place-preserved
loop-place-preserved c =
    let test = c.is_among-test.ensures ∙ ap (λ (w : List ℕ). list_any (bytes_eq w) (map name_view c.args.keeps.now)) (c.bytes.ensures.bytes ∙ ap (λ p. p.field.name.text) c.index-params-place.is) in
    rw (c.in_ok-push_if.ensures, test)
    (kept-more param_form_view (λ (p : Param). p.1.0) c.args.params.now (map name_view c.args.keeps.now) c.loop-place.place c.index-params-place.result c.loop-place.kept.items _ c.loop-place-test.true c.loop-place.invariant)
