use Rattle.std.proofs.Common.{◌≡◌, ◌↔◌, ℕ, ◌<◌, List, length, map, Bool, true, false, refl, sym, ◌∙◌, subst}
use Rattle.herm_model.specs.Paths.{Fact}
use Rattle.herm_model.specs.Targets.{node}
use Rattle.herm_model.specs.ControlPaths.{Flow, Holds, IsReached}
use Rattle.herm_model.proofs.Lists.{length-map}
use Rattle.herm_facts.specs.declared.fact_numbers.FactNumbers.{FactNumbers}
use Rattle.herm_check.specs.declared.label.Label.{Label}
use Rattle.herm_flow.specs.OnwardView.{onward_flow_view, onward_point_view}
use Rattle.herm_check.specs.Labelled.{is_reached, holds_at, AreTrue}
use Rattle.herm_check.proofs.Exact.{exactly, first-there}
use Rattle.herm_check.proofs.labels.labels_of.Goals as goal

-- a point that is not reached has no facts
bare : (ns : FactNumbers) (flow : Flow) (ls : List Label) → AreTrue ns flow ls → (i : ℕ) (f : Fact) → (IsReached flow (node i) → ⊥) → holds_at ns ls i f ≡ false
bare ns flow ls h i f none = by (is_reached ls i) refl
  where
    by : (b : Bool) → is_reached ls i ≡ b → holds_at ns ls i f ≡ false
    by true e = absurd (none (h.reached i e))
    by false e = h.bare i f e

pub returns-clause-unreached : goal.returns-clause-unreached
returns-clause-unreached c i f none =
    let ls = c.as_slice.result.now in
    c.in_ok-at.ensures.facts i f ∙ bare c.in_ok-numbering.numbering.facts (onward_flow_view c.args.flow.now) ls (subst (AreTrue c.in_ok-numbering.numbering.facts (onward_flow_view c.args.flow.now)) (sym c.as_slice.ensures.value) c.in_ok-settled.ensures.labels.are_true) i f none

pub returns-clause-exact : goal.returns-clause-exact
returns-clause-exact c i f r =
    let ns = c.in_ok-numbering.numbering.facts in
    let points = c.args.flow.now.points.items in
    let same = subst (λ ls. holds_at ns ls i f ≡ holds_at ns c.in_ok-settled.settled.items i f) (sym c.as_slice.ensures.value) refl in
    subst (λ b. (b ≡ true) ↔ Holds (onward_flow_view c.args.flow.now) f i) (sym (c.in_ok-at.ensures.facts i f ∙ same))
    (exactly ns (onward_flow_view c.args.flow.now) c.in_ok-settled.settled.items c.in_ok-settled.ensures c.requires.there (λ j e. subst (λ n. j < n) (sym (length-map onward_point_view points)) (first-there (length points) j e)) i f r)
