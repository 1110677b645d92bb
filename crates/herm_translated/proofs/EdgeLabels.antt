-- Which labels are listed for the edges of a block.
use Rattle.std.proofs.Common.{◌≡◌, ℕ, zero, suc, ◌+◌, ◌<◌, List, [], ◌∷◌, ◌++◌, map, Bool, true, false, cond, Some, None, slice_get, refl, sym, ap, subst, ◌∙◌, arith}
use Rattle.herm_model.specs.Lists.{IsIn, total}
use Rattle.herm_model.specs.Types.{TypeTable}
use Rattle.herm_model.specs.Statements.{Differ}
use Rattle.herm_model.specs.Outcomes.{Outcome}
use Rattle.herm_model.proofs.Options.{some-injective, none-not_some}
use Rattle.herm_model.proofs.Lists.{in-map}
use Rattle.herm_model.proofs.FactTests.{got-IsIn}
use Rattle.herm_instructions.specs.Labels.{Label, ListedLabel, listed_at}
use Rattle.herm_translated.specs.Departures.{Departure, edge_length}
use Rattle.herm_translated.specs.CodeBlocks.{CodeBlock}
use Rattle.herm_translated.specs.Layout.{edge_at}
use Rattle.herm_translated.specs.BlockLabels.{label_with, listed_with, is_named, facts_after, edge_slots, edge_labels}
use Rattle.herm_translated.proofs.Addresses.{edge-behind, outcome_of, first-here, further}
use Rattle.herm_translated.proofs.ListedLabels.{listed-here, listed-on, none-below, edge-labels_rise}

module _ (types : TypeTable) (variables : List ℕ) (b : CodeBlock) where
  abbrev labels_on : ℕ → List Departure → List ListedLabel
  labels_on at ds = edge_labels types variables at b ds

  -- the label that stands before an edge, where it is listed
  abbrev pub label_before : Outcome → Label
  label_before o = label_with (facts_after types variables b.form o b.facts) (edge_slots types variables b)

  -- behind the first index of the first edge
  past-first : (at : ℕ) (d : Departure) (ds : List Departure) (n : ℕ) → at < n → listed_at (labels_on at (d ∷ ds)) n ≡ listed_at (labels_on (at + edge_length d) ds) n
  past-first at d ds n h = by (is_named d.outcome)
    where
      by : (named : Bool) → listed_at (cond named (listed_with at (facts_after types variables b.form d.outcome b.facts) (edge_slots types variables b) ∷ []) [] ++ labels_on (at + edge_length d) ds) n ≡ listed_at (labels_on (at + edge_length d) ds) n
      by true = listed-on (listed_with at (facts_after types variables b.form d.outcome b.facts) (edge_slots types variables b)) (labels_on (at + edge_length d) ds) n (λ e. absurd (omega (arith, e, h)))
      by false = refl

  first-edge : (at : ℕ) (d : Departure) (ds : List Departure) (n : ℕ) → at ≡ n → listed_at (labels_on at (d ∷ ds)) n ≡ cond (is_named d.outcome) (Some (label_before d.outcome)) None
  first-edge at d ds n e = by (is_named d.outcome)
    where
      by : (named : Bool) → listed_at (cond named (listed_with at (facts_after types variables b.form d.outcome b.facts) (edge_slots types variables b) ∷ []) [] ++ labels_on (at + edge_length d) ds) n ≡ cond named (Some (label_before d.outcome)) None
      by true = listed-here (listed_with at (facts_after types variables b.form d.outcome b.facts) (edge_slots types variables b)) (labels_on (at + edge_length d) ds) n e
      by false = none-below (at + edge_length d) (at + edge_length d + total edge_length ds) (labels_on (at + edge_length d) ds) (edge-labels_rise types variables (at + edge_length d) b ds) n (omega (arith, e))

  -- an edge is labelled at its first index, where that is named
  pub listed-edge : (at : ℕ) (ds : List Departure) (j : ℕ) (d : Departure) (n : ℕ) → slice_get ds j ≡ Some d → Differ (map outcome_of ds) → n ≡ edge_at at ds d.outcome → listed_at (labels_on at ds) n ≡ cond (is_named d.outcome) (Some (label_before d.outcome)) None
  listed-edge at [] j d n e differ m = none-not_some e
  listed-edge at (c ∷ ds) zero d n e differ m =
      subst (λ (x : Departure). n ≡ edge_at at (c ∷ ds) x.outcome → listed_at (labels_on at (c ∷ ds)) n ≡ cond (is_named x.outcome) (Some (label_before x.outcome)) None) (some-injective e)
      (λ q. first-edge at c ds n (sym (q ∙ first-here at c ds))) m
  listed-edge at (c ∷ ds) (suc j) d n e differ m =
      let on = further at c ds d.outcome (λ x. differ.0 (subst (λ o. IsIn o (map outcome_of ds)) (sym x) (in-map outcome_of d ds (got-IsIn ds j d e)))) in
      let behind = edge-behind (at + edge_length c) ds d.outcome in
      past-first at c ds n (omega (arith, m, on, behind)) ∙ listed-edge (at + edge_length c) ds j d n e differ.1 (m ∙ on)

  -- and nowhere else
  pub listed-along : (at : ℕ) (ds : List Departure) (j : ℕ) (d : Departure) (n k : ℕ) → slice_get ds j ≡ Some d → Differ (map outcome_of ds) → 0 < k → k < edge_length d → n ≡ edge_at at ds d.outcome + k → listed_at (labels_on at ds) n ≡ None
  listed-along at [] j d n k e differ low high m = none-not_some e
  listed-along at (c ∷ ds) zero d n k e differ low high m =
      let same : c ≡ d = some-injective e in
      let at-c : edge_at at (c ∷ ds) d.outcome ≡ at = subst (λ (x : Departure). edge_at at (c ∷ ds) x.outcome ≡ at) same (first-here at c ds) in
      let long : edge_length c ≡ edge_length d = ap edge_length same in
      past-first at c ds n (omega (arith, m, at-c, low)) ∙ none-below (at + edge_length c) (at + edge_length c + total edge_length ds) (labels_on (at + edge_length c) ds) (edge-labels_rise types variables (at + edge_length c) b ds) n (omega (arith, m, at-c, high, long))
  listed-along at (c ∷ ds) (suc j) d n k e differ low high m =
      let on = further at c ds d.outcome (λ x. differ.0 (subst (λ o. IsIn o (map outcome_of ds)) (sym x) (in-map outcome_of d ds (got-IsIn ds j d e)))) in
      let behind = edge-behind (at + edge_length c) ds d.outcome in
      past-first at c ds n (omega (arith, m, on, behind, low)) ∙ listed-along (at + edge_length c) ds j d n k e differ.1 low high (omega (arith, m, on))
