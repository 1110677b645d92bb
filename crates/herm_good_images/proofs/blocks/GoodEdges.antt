-- The code of an edge keeps the rules of good code: it drops what is there, and arrives where a label is listed.
use Rattle.std.proofs.Common.{◌≡◌, ◌↔◌, ℕ, ◌<◌, List, [], ◌∷◌, ◌++◌, map, filter, Bool, true, false, cond, not, ◌&&◌, ◌||◌, nat_eq, nat_lt, IsTrue, is_some, Option, Some, slice_get, ◌⊎◌, inl, inr, refl, sym, ap, subst, ◌∙◌, true≢false, arith}
use Rattle.herm_model.specs.Lists.{IsIn, any_pass}
use Rattle.herm_model.specs.Paths.{Path, Fact, init, path_of, is_at_or_below}
use Rattle.herm_model.specs.Types.{TypeTable, type_at, part_of, is_variant, enters_component}
use Rattle.herm_model.specs.Facts.{facts_to, prefixes, with_prefixes, IsFactOf}
use Rattle.herm_model.specs.Expressions.{Literal}
use Rattle.herm_model.specs.Statements.{Process, Differ}
use Rattle.herm_model.specs.Outcomes.{Outcome, ok}
use Rattle.herm_model.specs.FactsOfStatements.{closed}
use Rattle.herm_model.specs.TypedExpressions.{enters_out}
use Rattle.herm_model.specs.TypedStatements.{IsSource}
use Rattle.herm_model.specs.laws.ExcessLaws.{comes_before, AreInOrder, IsExcess}
use Rattle.herm_model.proofs.Options.{some-injective}
use Rattle.herm_model.proofs.Lists.{in-append_cases, in-flat_map_from}
use Rattle.herm_model.proofs.TypedPaths.{or-falses, some-of, begins-typed}
use Rattle.herm_model.proofs.Prefixes.{to-closed}
use Rattle.herm_model.proofs.ClosedFacts.{once-IsIn}
use Rattle.herm_model.proofs.Beginnings.{above-longer, below-trans}
use Rattle.herm_model.proofs.Deciding.{below-decides}
use Rattle.std.proofs.lemmas.Bool.{eqb-true}
use Rattle.herm_instructions.specs.Instructions.{Instruction, Jump, LoopDrop, Drop, End, EndBy}
use Rattle.herm_instructions.specs.Labels.{Slot, Label}
use Rattle.herm_instructions.specs.Effects.{label_behind, without_slot}
use Rattle.herm_instructions.specs.Places.{Way}
use Rattle.herm_translated.specs.BlockLabels.{label_with}
use Rattle.herm_translated.specs.laws.LabelsAlong.{without_slots}
use Rattle.herm_translated.proofs.Handing.{filter-all}
use Rattle.herm_good_images.proofs.fronts.GoodInstructions.{AreGood, good-one, IsGoodAt}
use Rattle.herm_good_images.proofs.facts.DroppedFacts.{AreNotAbove, left-one, closed-above, plain-from, dropped-here, dropped-apart}

comes-not_before_itself : (p : Path) → comes_before p p ≡ false
comes-not_before_itself [] = refl
comes-not_before_itself (i ∷ p) = by (nat_lt i i) refl (nat_eq i i) (comes-not_before_itself p)
  where
    by : (a : Bool) → nat_lt i i ≡ a → (b : Bool) → comes_before p p ≡ false → (a || (b && comes_before p p)) ≡ false
    by true e b again = let low = (below-decides i i).0 e in absurd (omega (arith, low))
    by false e true again = again
    by false e false again = refl

ordered-Differ : (xs : List Path) → AreInOrder xs → Differ xs
ordered-Differ [] h = tt
ordered-Differ (x ∷ xs) h = ((λ m. absurd (true≢false (sym (h.0 x m) ∙ comes-not_before_itself x))), ordered-Differ xs h.1)

module _ (table : TypeTable) (variables : List ℕ) where
  no-out : (t : Option ℕ) (p : List ℕ) → enters_component table t p ≡ false → enters_out table false t p ≡ false
  no-out t [] h = refl
  no-out t (i ∷ p) h =
      let e = or-falses (is_variant table t) (enters_component table (part_of table t i) p) h in
      ap (λ b. enters_out table b (part_of table t i) p) e.0 ∙ no-out (part_of table t i) p e.1

  -- a path of a fact may leave
  fact-source : (p : Path) → IsFactOf table variables (init p) → (t : ℕ) × IsSource table variables p t
  fact-source [] h = absurd (true≢false (sym h.0))
  fact-source (v ∷ p) h = let t = some-of (type_at table variables (v ∷ p)) h.0 in (t.0, ((t.1, no-out (slice_get variables v) p h.1), h.1))

  -- the facts to a path of a closed set are in the set
  facts-to_there : (S : Fact → Type 0) → ((f g : Fact) → S f → IsIn g (prefixes table variables f) → S g) → (p : Path) → IsFactOf table variables (init p) → S (init p) → (f : Fact) → IsIn f (facts_to table variables p) → S f
  facts-to_there S shut [] known h f m = absurd m
  facts-to_there S shut (v ∷ p) known h f m =
      let r = plain-from table variables (v ∷ []) p (slice_get variables v) known.1 f m in
      subst S (sym r.2)
      (closed-above table variables S shut (v ∷ r.0) (init (v ∷ p))
      (begins-typed table variables v r.0 r.1 (subst (λ q. IsTrue (is_some (type_at table variables (v ∷ q)))) r.3 known.0), r.4) (r.1, ap (v ∷◌) r.3) h)

  -- a fact to a path is above it, or at it
  fact-beginning : (p : Path) → IsFactOf table variables (init p) → (f : Fact) → IsIn f (facts_to table variables p) → is_at_or_below (path_of f) p ≡ true
  fact-beginning [] known f m = absurd m
  fact-beginning (v ∷ p) known f m =
      let r = plain-from table variables (v ∷ []) p (slice_get variables v) known.1 f m in
      subst (λ (g : Fact). is_at_or_below (path_of g) (v ∷ p) ≡ true) (sym r.2) (subst (λ q. is_at_or_below (v ∷ r.0) q ≡ true) (sym (ap (v ∷◌) r.3)) (above-longer (v ∷ r.0) r.1))

  needed-to : (p : Path) (f : Fact) → IsIn f (closed table variables (facts_to table variables p)) → IsIn f (facts_to table variables p)
  needed-to p f m =
      let r = in-flat_map_from (with_prefixes table variables) f (facts_to table variables p) (once-IsIn f _ m) in
      by r.0 r.1 (in-append_cases f (prefixes table variables r.0) (r.0 ∷ []) r.2)
    where
      by : (g : Fact) → IsIn g (facts_to table variables p) → IsIn f (prefixes table variables g) ⊎ IsIn f (g ∷ []) → IsIn f (facts_to table variables p)
      by g k (inl a) = to-closed table variables p g f k a
      by g k (inr (inl e)) = subst (λ x. IsIn x (facts_to table variables p)) (sym e) k
      by g k (inr (inr a)) = absurd a

module _ (table : TypeTable) (variables : List ℕ) (constants : List Literal) (count : ℕ) (processes : List Process) (exit_at : Outcome → ℕ) (Lands : Way → Label → Type 0) where
  abbrev pub Good : Instruction → Label → Type 0
  Good i l = IsGoodAt table variables constants count processes exit_at Lands i l

  abbrev pub AreGoodOn : List Instruction → Option Label → Type 0
  AreGoodOn code a = AreGood table variables constants Good code a

  no-way : (i : Instruction) (l : Label) → (w : Way) → IsIn w [] → Lands w (label_behind table variables constants i w.outcome l)
  no-way i l w m = absurd m

  module _ (here low : Fact → Bool) (xs : List Path) (excess : IsExcess here low xs) (there : (p : Path) → here (init p) ≡ true → IsFactOf table variables (init p)) where
    -- what is dropped next is there
    abbrev IsThere : Path → List Fact → Type 0
    IsThere p fs = IsIn p xs × ((f : Fact) → IsIn f (facts_to table variables p) → IsIn f fs)

    known-path : (p : Path) → IsIn p xs → IsFactOf table variables (init p)
    known-path p m = there p (dropped-here here low xs excess p m).0

    drop-good : (p : Path) (fs : List Fact) (slots : List Slot) → IsThere p fs → Good (Drop p) (label_with fs slots)
    drop-good p fs slots h = record {
      typed = fact-source table variables p (known-path p h.0);
      stack = ([], refl);
      facts = λ f m. h.1 f (needed-to table variables p f m);
      slots = tt;
      trims = tt;
      leads = no-way (Drop p) (label_with fs slots);
    }

    -- dropping one path leaves what the others need
    still-there : (p q : Path) (fs : List Fact) → (q ≡ p → ⊥) → IsIn p xs → IsThere q fs → IsThere q (filter (λ f. not (any_pass (λ r. is_at_or_below r (path_of f)) (p ∷ []))) fs)
    still-there p q fs other in-p h = (h.0, λ f m. (left-one p fs f).1 (h.1 f m, by f m (is_at_or_below p (path_of f)) refl))
      where
        by : (f : Fact) → IsIn f (facts_to table variables q) → (b : Bool) → is_at_or_below p (path_of f) ≡ b → b ≡ false
        by f m false e = refl
        by f m true e = absurd (other (dropped-apart here low xs excess q p h.0 in-p (below-trans p (path_of f) q e (fact-beginning table variables q (known-path q h.0) f m))))

    drops-good : (ps : List Path) (fs : List Fact) (slots : List Slot) (rest : List Instruction) → Differ ps → ((p : Path) → IsIn p ps → IsThere p fs)
        → ((gs : List Fact) → ((f : Fact) → IsIn f gs ↔ (IsIn f fs × AreNotAbove ps f)) → AreGoodOn rest (Some (label_with gs slots))) → AreGoodOn (map Drop ps ++ rest) (Some (label_with fs slots))
    drops-good [] fs slots rest differ h k = k fs (λ f. ((λ m. (m, λ q i. absurd i)), λ m. m.0))
    drops-good (p ∷ ps) fs slots rest differ h k = (
      λ l e. subst (Good (Drop p)) (some-injective e) (drop-good p fs slots (h p (inl refl))),
      drops-good ps (filter (λ f. not (any_pass (λ r. is_at_or_below r (path_of f)) (p ∷ []))) fs) slots rest differ.1
          (λ q m. still-there p q fs (λ e. differ.0 (subst (λ x. IsIn x ps) e m)) (h p (inl refl)).0 (h q (inr m)))
          (λ gs iff. k gs (λ f. (
            λ m. (let r = (iff f).0 m in let s = (left-one p fs f).0 r.0 in (s.0, first-above p ps f s.1 r.1)),
            λ m. (iff f).1 ((left-one p fs f).1 (m.0, m.1 p (inl refl)), λ q i. m.1 q (inr i)),
          ))),
    )
      where
        first-above : (p : Path) (ps : List Path) (f : Fact) → is_at_or_below p (path_of f) ≡ false → AreNotAbove ps f → AreNotAbove (p ∷ ps) f
        first-above p ps f a b q (inl e) = ap (λ x. is_at_or_below x (path_of f)) e ∙ a
        first-above p ps f a b q (inr i) = b q i

    -- all that is dropped is there at first
    pub all-dropped : (hs : List Fact) (slots : List Slot) (rest : List Instruction) → ((f : Fact) → IsIn f hs ↔ (here f ≡ true)) → ((f g : Fact) → here f ≡ true → IsIn g (prefixes table variables f) → here g ≡ true)
        → ((gs : List Fact) → ((f : Fact) → IsIn f gs ↔ (IsIn f hs × AreNotAbove xs f)) → AreGoodOn rest (Some (label_with gs slots))) → AreGoodOn (map Drop xs ++ rest) (Some (label_with hs slots))
    all-dropped hs slots rest listed shut k =
        drops-good xs hs slots rest (ordered-Differ xs excess.order)
        (λ p m. (m, λ f i. (listed f).1 (facts-to_there table variables (λ f. here f ≡ true) shut p (known-path p m) (dropped-here here low xs excess p m).0 f i))) k

  slot-left : (s t : ℕ) (slots : List Slot) → (t ≡ s → ⊥) → IsIn t (map (λ (x : Slot). x.number) slots) → IsIn t (map (λ (x : Slot). x.number) (without_slot s slots))
  slot-left s t [] other m = absurd m
  slot-left s t (x ∷ slots) other m = by (nat_eq x.number s) refl m (slot-left s t slots other)
    where
      by : (b : Bool) → nat_eq x.number s ≡ b → IsIn t (map (λ (x : Slot). x.number) (x ∷ slots)) → (IsIn t (map (λ (x : Slot). x.number) slots) → IsIn t (map (λ (x : Slot). x.number) (without_slot s slots)))
          → IsIn t (map (λ (x : Slot). x.number) (cond (not b) (x ∷ without_slot s slots) (without_slot s slots)))
      by true e (inl q) again = absurd (other (q ∙ eqb-true x.number s e))
      by true e (inr m) again = again m
      by false e (inl q) again = inl q
      by false e (inr m) again = inr (again m)

  -- the slots that are dropped are there
  pub loops-dropped : (ss : List ℕ) (fs : List Fact) (slots : List Slot) (rest : List Instruction) → Differ ss → ((s : ℕ) → IsIn s ss → IsIn s (map (λ (x : Slot). x.number) slots))
      → AreGoodOn rest (Some (label_with fs (without_slots ss slots))) → AreGoodOn (map LoopDrop ss ++ rest) (Some (label_with fs slots))
  loops-dropped [] fs slots rest differ h k = k
  loops-dropped (s ∷ ss) fs slots rest differ h k = (
    λ l e. subst (Good (LoopDrop s)) (some-injective e) good,
    subst (λ gs. AreGoodOn (map LoopDrop ss ++ rest) (Some (label_with gs (without_slot s slots)))) (sym (filter-all fs))
        (loops-dropped ss fs (without_slot s slots) rest differ.1 (λ t m. slot-left s t slots (λ e. differ.0 (subst (λ x. IsIn x ss) e m)) (h t (inr m))) k),
  )
    where
      good : Good (LoopDrop s) (label_with fs slots)
      good = record { typed = tt; stack = ([], refl); facts = λ f m. absurd m; slots = h s (inl refl); trims = tt; leads = no-way (LoopDrop s) (label_with fs slots) }

  -- the last instruction of an edge
  pub jump-good : (n : ℕ) (fs : List Fact) (slots : List Slot) → Lands (record { outcome = ok; index = n }) (label_with fs slots) → AreGoodOn (Jump n ∷ []) (Some (label_with fs slots))
  jump-good n fs slots h =
      good-one table variables constants Good (Jump n) (label_with fs slots)
      (record { typed = tt; stack = ([], refl); facts = λ f m. absurd m; slots = tt; trims = tt; leads = ways })
    where
      ways : (w : Way) → IsIn w (record { outcome = ok; index = n } ∷ []) → Lands w (label_behind table variables constants (Jump n) w.outcome (label_with fs slots))
      ways w (inl e) =
          subst (λ (w : Way). Lands w (label_behind table variables constants (Jump n) w.outcome (label_with fs slots))) (sym e)
          (subst (λ gs. Lands (record { outcome = ok; index = n }) (label_with gs slots)) (sym (filter-all fs)) h)
      ways w (inr m) = absurd m

  pub end-good : (fs : List Fact) (slots : List Slot) → AreGoodOn (End ∷ []) (Some (label_with fs slots))
  end-good fs slots =
      good-one table variables constants Good End (label_with fs slots) (record { typed = tt; stack = ([], refl); facts = λ f m. absurd m; slots = tt; trims = tt; leads = no-way End (label_with fs slots) })

  pub end_by-good : (e : ℕ) (fs : List Fact) (slots : List Slot) → e < count → AreGoodOn (EndBy e ∷ []) (Some (label_with fs slots))
  end_by-good e fs slots low =
      good-one table variables constants Good (EndBy e) (label_with fs slots) (record { typed = low; stack = ([], refl); facts = λ f m. absurd m; slots = tt; trims = tt; leads = no-way (EndBy e) (label_with fs slots) })
