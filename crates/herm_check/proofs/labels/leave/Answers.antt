use Rattle.std.proofs.Common.{◌≡◌, true, false, length, refl, sym, ap, ◌∙◌, arith}
use Rattle.std.proofs.lemmas.Option.{slice_get_read}
use Rattle.herm_model.specs.Lists.{map_or}
use Rattle.herm_check.specs.declared.label.Label.{Label}
use Rattle.herm_flow.specs.OnwardView.{onward_flow_view}
use Rattle.herm_check.specs.Labelled.{all_facts}
use Rattle.herm_check.proofs.Joined.{set-lighter}
use Rattle.herm_check.proofs.Counts.{weight-left}
use Rattle.herm_check.proofs.Starting.{starts}
use Rattle.herm_check.proofs.labels.leave.Goals as goal

pub follow_all-requires-clause-left : goal.follow_all-requires-clause-left
follow_all-requires-clause-left c =
    let ls = c.args.labels.now.items in
    let label = c.index_mut-label.result.now in
    starts c.args.numbering.now.facts (onward_flow_view c.args.flow.now) ls c.args.i label (record { reached = label.reached; pending = false; held = label.held }) (slice_get_read ls (length ls) c.args.i label refl c.requires.within c.index_mut-label.ensures.value)
    c.requires.within refl refl c.requires.reached c.requires.labels

pub returns-clause-less : goal.returns-clause-less
returns-clause-less c =
    let ls = c.args.labels.now.items in
    let all = all_facts c.args.flow.now in
    let label = c.index_mut-label.result.now in
    let old = slice_get_read ls (length ls) c.args.i label refl c.requires.within c.index_mut-label.ensures.value in
    let reached : label.reached ≡ true = sym (ap (map_or false (λ (l : Label). l.reached)) old) ∙ c.requires.reached in
    let pending : label.pending ≡ true = sym (ap (map_or false (λ (l : Label). l.pending)) old) ∙ c.requires.pending in
    let lighter = set-lighter c.args.numbering.now.facts all ls c.args.i label (record { reached = label.reached; pending = false; held = label.held }) old
    (weight-left c.args.numbering.now.facts all label (record { reached = label.reached; pending = false; held = label.held }) reached pending reached refl (λ f. refl)) in
    omega (arith, lighter, c.in_ok-follow_all.ensures.less)
