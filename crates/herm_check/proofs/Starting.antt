-- A point that begins to be left.
use Rattle.std.proofs.Common.{◌≡◌, ◌≢◌, ◌⊎◌, inl, inr, ℕ, ◌<◌, List, [], length, Bool, true, false, Some, slice_get, slice_set, sym, ◌∙◌, ap, subst, length-set}
use Rattle.herm_model.specs.Lists.{map_or}
use Rattle.herm_model.specs.Paths.{Fact}
use Rattle.herm_model.specs.Targets.{Target}
use Rattle.herm_model.specs.ControlPaths.{Flow, held_after_edge, held_at_start}
use Rattle.herm_facts.specs.declared.fact_numbers.FactNumbers.{FactNumbers}
use Rattle.herm_check.specs.declared.label.Label.{Label}
use Rattle.herm_check.specs.Numberings.{in_set, AreOfFacts}
use Rattle.herm_check.specs.Labelled.{is_reached, holds_at, Goes, AreLabels, IsLeft}
use Rattle.herm_check.proofs.Joined.{same_or_not, set-here, set-elsewhere, set-each}

module _ (ns : FactNumbers) (flow : Flow) (ls : List Label) (i : ℕ) (l new : Label) (old : slice_get ls i ≡ Some l) (within : i < length ls) (reached : new.reached ≡ l.reached) (same : new.held ≡ l.held) where
  facts : (f : Fact) → in_set ns new.held f ≡ in_set ns l.held f
  facts f = ap (λ set. in_set ns set f) same

  same-reached : (j : ℕ) → is_reached (slice_set ls i new) j ≡ is_reached ls j
  same-reached j = by (same_or_not i j)
    where
      by : (i ≡ j) ⊎ (i ≢ j) → is_reached (slice_set ls i new) j ≡ is_reached ls j
      by (inl e) = subst (λ k. is_reached (slice_set ls i new) k ≡ is_reached ls k) e (ap (map_or false (λ k. k.reached)) (set-here ls i new within) ∙ (reached ∙ sym (ap (map_or false (λ k. k.reached)) old)))
      by (inr d) = ap (map_or false (λ k. k.reached)) (set-elsewhere ls i j new d)

  same-holds : (j : ℕ) (f : Fact) → holds_at ns (slice_set ls i new) j f ≡ holds_at ns ls j f
  same-holds j f = by (same_or_not i j)
    where
      by : (i ≡ j) ⊎ (i ≢ j) → holds_at ns (slice_set ls i new) j f ≡ holds_at ns ls j f
      by (inl e) = subst (λ k. holds_at ns (slice_set ls i new) k f ≡ holds_at ns ls k f) e (ap (map_or false (λ k. in_set ns k.held f)) (set-here ls i new within) ∙ (facts f ∙ sym (ap (map_or false (λ k. in_set ns k.held f)) old)))
      by (inr d) = ap (map_or false (λ k. in_set ns k.held f)) (set-elsewhere ls i j new d)

  same-goes : (x : Target) (test : Fact → Bool) → Goes ns ls x test → Goes ns (slice_set ls i new) x test
  same-goes x test g j to inside = let both = g j to (subst (λ n. j < n) (length-set ls i new) inside) in (same-reached j ∙ both.0, λ f h. both.1 f (sym (same-holds j f) ∙ h))

  pub starts : is_reached ls i ≡ true → AreLabels ns flow ls → IsLeft ns flow i [] (slice_set ls i new)
  starts here h = record {
    are_true = record {
      many = length-set ls i new ∙ h.are_true.many;
      reached = λ j k. h.are_true.reached j (sym (same-reached j) ∙ k);
      bare = λ j f k. same-holds j f ∙ h.are_true.bare j f (sym (same-reached j) ∙ k);
      lacking = λ j f k m. h.are_true.lacking j f (sym (same-reached j) ∙ k) (sym (same-holds j f) ∙ m);
      known = set-each (λ (k : Label). AreOfFacts ns k.held) ls i new (subst (AreOfFacts ns) (sym same) (h.are_true.known i l old)) h.are_true.known;
      begins = same-goes flow.entry held_at_start h.are_true.begins;
    };
    settled = λ j d p at k n e m to there inside.
        let both = same-goes e.target (λ f. held_after_edge e f (holds_at ns ls j f)) (h.settled j p at (sym (same-reached j) ∙ k) (sym (ap (map_or false (λ k. k.pending)) (set-elsewhere ls i j new d)) ∙ n) e m) to there inside in
        (both.0, λ f g. ap (held_after_edge e f) (same-holds j f) ∙ both.1 f g);
    reached = same-reached i ∙ here;
    carried = λ e m. absurd m;
  }
