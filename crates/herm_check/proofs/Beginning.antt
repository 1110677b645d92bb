-- The labels as a process begins.
use Rattle.std.proofs.Common.{◌≡◌, ◌≢◌, ◌⊎◌, inl, inr, ℕ, zero, suc, ◌<◌, List, [], ◌∷◌, length, true, false, Option, Some, None, slice_get, slice_set, refl, sym, ◌∙◌, ap, subst, arith, true≢false, length-set}
use Rattle.herm_model.specs.Lists.{map_or}
use Rattle.herm_model.specs.Paths.{Fact, init}
use Rattle.herm_model.specs.Targets.{node}
use Rattle.herm_model.specs.ControlPaths.{Flow, held_at_start, IsReached, Lacks}
use Rattle.herm_model.specs.laws.FlowLaws.{first_of}
use Rattle.herm_facts.specs.declared.fact_numbers.FactNumbers.{FactNumbers}
use Rattle.herm_facts.specs.NumberSets.{has_number}
use Rattle.herm_check.specs.declared.label.Label.{Label}
use Rattle.herm_check.specs.Numberings.{in_set, AreOfFacts}
use Rattle.herm_check.specs.Labelled.{is_reached, is_pending, holds_at, AreLabels}
use Rattle.herm_check.proofs.InSets.{none-in}
use Rattle.herm_check.proofs.Joined.{same_or_not, set-here, set-elsewhere, set-each}

-- labels without numbers have no facts
bare-holds : (ns : FactNumbers) (ls : List Label) → ((i : ℕ) (l : Label) (n : ℕ) → slice_get ls i ≡ Some l → has_number l.held n ≡ false) → (i : ℕ) (f : Fact) → holds_at ns ls i f ≡ false
bare-holds ns ls none i f = by (slice_get ls i) refl
  where
    by : (o : Option Label) → slice_get ls i ≡ o → map_or false (λ l. in_set ns l.held f) o ≡ false
    by None e = refl
    by (Some l) e = none-in ns l.held (λ n. none i l n e) f

module _ (ns : FactNumbers) (flow : Flow) (ls : List Label) (new : Label) (entry : flow.entry ≡ first_of (length flow.points)) (many : length ls ≡ length flow.points) (some : 0 < length ls)
    (unreached : (i : ℕ) → is_reached ls i ≡ false) (none : (i : ℕ) (l : Label) (n : ℕ) → slice_get ls i ≡ Some l → has_number l.held n ≡ false) (reached : new.reached ≡ true) (pending : new.pending ≡ true)
    (facts : (f : Fact) → in_set ns new.held f ≡ held_at_start f) (known : AreOfFacts ns new.held) where
  empty : (i : ℕ) (f : Fact) → holds_at ns ls i f ≡ false
  empty = bare-holds ns ls none

  entry-is : flow.entry ≡ node 0
  entry-is = by (length flow.points) entry (omega arith)
    where
      by : (n : ℕ) → flow.entry ≡ first_of n → 0 < n → flow.entry ≡ node 0
      by zero e h = absurd (omega arith)
      by (suc n) e h = e

  here : slice_get (slice_set ls 0 new) 0 ≡ Some new
  here = set-here ls 0 new some

  only-first : (i : ℕ) → is_reached (slice_set ls 0 new) i ≡ true → 0 ≡ i
  only-first i h = by (same_or_not 0 i)
    where
      by : (0 ≡ i) ⊎ (0 ≢ i) → 0 ≡ i
      by (inl e) = e
      by (inr d) = absurd (true≢false (sym h ∙ (ap (map_or false (λ l. l.reached)) (set-elsewhere ls 0 i new d) ∙ unreached i)))

  first-holds : (f : Fact) → holds_at ns (slice_set ls 0 new) 0 f ≡ held_at_start f
  first-holds f = ap (map_or false (λ l. in_set ns l.held f)) here ∙ facts f

  holding-first : (i : ℕ) (f : Fact) → holds_at ns (slice_set ls 0 new) i f ≡ true → held_at_start f ≡ true
  holding-first i f h = by (same_or_not 0 i)
    where
      by : (0 ≡ i) ⊎ (0 ≢ i) → held_at_start f ≡ true
      by (inl e) = sym (first-holds f) ∙ subst (λ n. holds_at ns (slice_set ls 0 new) n f ≡ true) (sym e) h
      by (inr d) = absurd (true≢false (sym h ∙ (ap (map_or false (λ l. in_set ns l.held f)) (set-elsewhere ls 0 i new d) ∙ empty i f)))

  pub begun : AreLabels ns flow (slice_set ls 0 new)
  begun = record {
    are_true = record {
      many = length-set ls 0 new ∙ many;
      reached = λ i h. subst (λ n. IsReached flow (node n)) (only-first i h) (subst (IsReached flow) entry-is ([], held_at_start (init (0 ∷ [])), refl));
      bare = λ i f h. bare i f h (same_or_not 0 i);
      lacking = λ i f h k. subst (Lacks flow f) (only-first i h) (start-lacks f (sym (first-holds f) ∙ subst (λ n. holds_at ns (slice_set ls 0 new) n f ≡ false) (sym (only-first i h)) k));
      known = set-each (λ (l : Label). AreOfFacts ns l.held) ls 0 new known (λ i l at n h. absurd (true≢false (sym h ∙ none i l n at)));
      begins = λ i to within. (subst (λ n. is_reached (slice_set ls 0 new) n ≡ true) (node-same 0 i (sym entry-is ∙ to)) (ap (map_or false (λ l. l.reached)) here ∙ reached), λ f h. holding-first i f h);
    };
    settled = λ i p at h n e m. absurd (true≢false (sym (ap (map_or false (λ l. l.pending)) here ∙ pending) ∙ subst (λ k. is_pending (slice_set ls 0 new) k ≡ false) (sym (only-first i h)) n));
  }
    where
      bare : (i : ℕ) (f : Fact) → is_reached (slice_set ls 0 new) i ≡ false → (0 ≡ i) ⊎ (0 ≢ i) → holds_at ns (slice_set ls 0 new) i f ≡ false
      bare i f h (inl e) = absurd (true≢false (sym (ap (map_or false (λ l. l.reached)) here ∙ reached) ∙ subst (λ n. is_reached (slice_set ls 0 new) n ≡ false) (sym e) h))
      bare i f h (inr d) = ap (map_or false (λ l. in_set ns l.held f)) (set-elsewhere ls 0 i new d) ∙ empty i f

      node-same : (m n : ℕ) → node m ≡ node n → m ≡ n
      node-same m n e = cc

      start-lacks : (f : Fact) → held_at_start f ≡ false → Lacks flow f 0
      start-lacks f h = ([], ap (λ t. Some (record { here = t; held = held_at_start f })) entry-is ∙ ap (λ b. Some (record { here = node 0; held = b })) h)

-- without points there is nothing to begin with
pub none-begun : (ns : FactNumbers) (flow : Flow) (ls : List Label) → length ls ≡ length flow.points → length ls ≡ 0 → ((i : ℕ) → is_reached ls i ≡ false) → ((i : ℕ) (l : Label) (n : ℕ) → slice_get ls i ≡ Some l → has_number l.held n ≡ false) → AreLabels ns flow ls
none-begun ns flow ls many count unreached none = record {
  are_true = record {
    many = many;
    reached = λ i h. absurd (true≢false (sym h ∙ unreached i));
    bare = λ i f h. bare-holds ns ls none i f;
    lacking = λ i f h k. absurd (true≢false (sym h ∙ unreached i));
    known = λ i l at n h. absurd (true≢false (sym h ∙ none i l n at));
    begins = λ i to within. absurd (omega (arith, within, count));
  };
  settled = λ i p at r n e m. absurd (true≢false (sym r ∙ unreached i));
}
