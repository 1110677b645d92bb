use Rattle.std.proofs.Common.{◌≡◌, map, true, sym, ap, subst, ◌∙◌, true≢false}
use Rattle.herm_model.specs.Lists.{any_pass, IsIn}
use Rattle.herm_model.specs.Paths.{Path, Fact, same_fact}
use Rattle.herm_model.specs.Labels.{label_at}
use Rattle.herm_model.specs.laws.ExcessLaws.{IsExcess}
use Rattle.herm_types.specs.View.{path_view, fact_view}
use Rattle.herm_typestate.specs.Facts.{has_fact}
use Rattle.herm_flow.specs.View.{target_view, edge_view}
use Rattle.herm_check.specs.View.{labels_view}
use Rattle.herm_coerce.specs.Coerced.{behind_edge}
use Rattle.herm_coerce.proofs.Kept.{kept, filter-all, left-behind}
use Rattle.herm_coerce.proofs.coercions.left_behind.Goals as goal

pub returns-then-are_held : goal.returns-then-are_held
returns-then-are_held c =
    let e = edge_view c.args.edge.now in
    let before = has_fact c.args.state.now in
    let low = label_at (labels_view c.args.labels.now) (target_view c.args.edge.now.to) in
    let xs = map path_view c.in_ok-before.before.items in
    let held : (x : Path) → IsIn x xs → kept e x ≡ true = λ x m. c.are_held.ensures c.if-are_held.true x (subst (λ ys. IsIn x (map path_view ys)) (sym c.as_slice.ensures.value) m) in
    let made : (f : Fact) → any_pass (same_fact f) e.makes ≡ true → before f ≡ true = λ f h. c.are_made_in.ensures c.if-are_made_in.true f (ap (λ ys. any_pass (same_fact f) (map fact_view ys)) c.makes.ensures.makes ∙ h) in
    subst (IsExcess (behind_edge before e) low) (filter-all (kept e) xs held)
    (left-behind e low before xs c.in_ok-before.ensures (λ f m l. made f m) (λ z m k. absurd (true≢false (sym (held z m) ∙ k))))

pub returns-then-are_made_at : goal.returns-then-are_made_at
returns-then-are_made_at c =
    let e = edge_view c.args.edge.now in
    let before = has_fact c.args.state.now in
    let low = label_at (labels_view c.args.labels.now) (target_view c.args.edge.now.to) in
    let xs = map path_view c.in_ok-before.before.items in
    let made : (f : Fact) → any_pass (same_fact f) e.makes ≡ true → low f ≡ true = c.are_made_at.ensures c.if-are_made_at.true in
    subst (IsExcess (behind_edge before e) low) (sym c.in_ok-paths.ensures)
    (left-behind e low before xs c.in_ok-before.ensures (λ f m l. absurd (true≢false (sym (made f m) ∙ l))) (λ z m k f h. made f h))
