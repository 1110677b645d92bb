-- A source that tells closed facts has exactly these once what it holds beyond them is dropped; so it is full where they are
-- its full facts.
use Rattle.std.proofs.Common.{◌≡◌, inl, inr, ℕ, zero, suc, List, [], ◌∷◌, ◌++◌, map, Bool, true, not, Option, Some, None, refl, sym, ap, ap₂, ◌∙◌, subst}
use Rattle.std.proofs.lemmas.List.{append-nil}
use Rattle.std.specs.Prelude.{IsTrue}
use mathlib.Core.Bool.{true≢false, false≢true}
use borrow.Author.Tests.{not-true}
use Rattle.herm_model.specs.Lists.{IsIn, any_pass, list_of}
use Rattle.herm_model.specs.Paths.{Path, Fact, init, path_of, same_fact, is_at_or_below}
use Rattle.herm_model.specs.Types.{TypeTable, type_at, full_parts, IsPartPath, part_paths, is_within_depth, greatest_depth}
use Rattle.herm_model.specs.Facts.{full_facts, IsClosed}
use Rattle.herm_model.specs.Targets.{node, end}
use Rattle.herm_model.specs.Values.{Cell, Parts, no_parts, part, cell_at, has_value, readable_of, read_at, set_at, change_inside, clear_at}
use Rattle.herm_model.specs.FactsOfValues.{HasExactly, satisfies}
use Rattle.herm_model.specs.Typed.{HasType, IsFull}
use Rattle.herm_model.specs.Finalising.{excess, clear_all}
use Rattle.herm_model.proofs.Lists.{and-both, in-map, in-map_from, cons-tail}
use Rattle.herm_model.proofs.FactTests.{listed-IsIn, IsIn-listed}
use Rattle.herm_model.proofs.Declared.{message-closed}
use Rattle.herm_model.proofs.Steps.{full-named, steps-lead, steps-listed}
use Rattle.herm_model.proofs.FullFacts.{exact-full}
use Rattle.herm_model.proofs.Places.{cell_at-set_above}
use Rattle.herm_forms.specs.Frames.{Name, Frame, cleared, drop}
use Rattle.herm_forms.specs.Excess.{below, excess_at, excess_over_full}
use Rattle.herm_forms.specs.Modules.{Module}
use Rattle.herm_forms.specs.laws.EdgeLaws.{AreDeep, AreSound, without}
use Rattle.herm_forms.proofs.forms.MovedContents.{typed-at}
use Rattle.herm_forms.proofs.Arrived.{drop-variables, arrive-variables, excess-left, edges-exact}
use Rattle.herm_forms.proofs.forms.Messages.{Dropped, dropped-sound, in-list_of, below-is}
use Rattle.herm_forms.proofs.forms.Moves.{value-below, nothing_after}
use Rattle.herm_forms.proofs.forms.SetTargets.{full-root}
use Rattle.herm_forms.proofs.forms.ToldFacts.{there-read, read-on}
use Rattle.herm_forms.proofs.SetValues.{clearing-sound}
use Rattle.herm_forms.proofs.forms.PlainForms.{same_facts}

-- what a value holds beyond its facts is below it
pub beyond-below : (types : TypeTable) (t : Option ℕ) (facts : List Fact) (x : Path) (b : Frame Name) (p : Path) → IsIn p (excess_at types t facts x b) → is_at_or_below x p ≡ true
beyond-below types t facts x b p h =
    let kept = λ (p : Path). any_pass (same_fact (init p)) facts in
    let d = in-list_of (λ (d : Cell Name). list_of (λ u. map (below x) (excess types (u ∷ []) (has_value (part d no_parts)) kept)) t) (cell_at x b.variables) p h in
    let u = in-list_of (λ (u : ℕ). map (below x) (excess types (u ∷ []) (has_value (part d.0 no_parts)) kept)) t p d.1 in
    let q = in-map_from (below x) p (excess types (u.0 ∷ []) (has_value (part d.0 no_parts)) kept) u.1 in
    subst (λ p. is_at_or_below x p ≡ true) (sym q.2) (below-is x q.0)

-- what is cleared below a path is cleared in the value there
abbrev IsInside : Path → Type 0
IsInside p = (j : ℕ) × (r : List ℕ) × (p ≡ 0 ∷ j ∷ r)

record Cleared (i : ℕ) (q : List ℕ) (lost : List Path) (d : Cell Name) (ps : Parts Name) : Type 0 where
  rest : Cell Name
  alone : clear_all lost (part d no_parts) ≡ part rest no_parts
  there : cell_at (i ∷ q) (clear_all (map (below (i ∷ q)) lost) ps) ≡ Some rest

cleared-inside : (i : ℕ) (q : List ℕ) (lost : List Path) → ((p : Path) → IsIn p lost → IsInside p) → (d : Cell Name) (ps : Parts Name) → cell_at (i ∷ q) ps ≡ Some d → Cleared i q lost d ps
cleared-inside i q [] within d ps at = record { rest = d; alone = refl; there = at }
cleared-inside i q (p ∷ lost) within d ps at =
    let x = within p (inl refl) in
    let d' = change_inside (set_at (x.0 ∷ x.1) None) d in
    let first : clear_at p (part d no_parts) ≡ part d' no_parts = ap (λ p. clear_at p (part d no_parts)) x.2 in
    let at' : cell_at (i ∷ q) (clear_at (below (i ∷ q) p) ps) ≡ Some d' =
    ap (λ p. cell_at (i ∷ q) (clear_at (below (i ∷ q) p) ps)) x.2 ∙ cell_at-set_above i q x.0 x.1 None ps ∙ ap (λ o. elim o [ None ↦ None | Some d ↦ Some (change_inside (set_at (x.0 ∷ x.1) None) d) ]) at in
    let r = cleared-inside i q lost (λ p h. within p (inr h)) d' (clear_at (below (i ∷ q) p) ps) at' in
    record { rest = r.rest; alone = ap (clear_all lost) first ∙ r.alone; there = r.there }

-- A value of a type in a variable of its own, which tells these closed facts, its own among them.
module _ (types : TypeTable) (t : ℕ) (deep : IsTrue (is_within_depth greatest_depth types t)) (facts : List Fact) (shut : IsClosed types (t ∷ []) (λ f. IsIn f facts)) (root : IsIn (init (0 ∷ [])) facts)
    (d : Cell Name) (typed : HasType types t d) (told : (f : Fact) → IsIn f facts → IsTrue (satisfies (part d no_parts) f)) where
  abbrev kept_alone : Path → Bool
  kept_alone p = any_pass (same_fact (init p)) facts

  abbrev code_alone : Module
  code_alone = record { types = types; variables = t ∷ []; entry = end; nodes = []; loops = []; label = λ n f. any_pass (same_fact f) facts }

  abbrev lost_alone : List Path
  lost_alone = excess types (t ∷ []) (has_value (part d no_parts)) kept_alone

  deep-alone : AreDeep code_alone
  deep-alone s (inl e) = subst (λ s. IsTrue (is_within_depth greatest_depth types s)) (sym e) deep
  deep-alone s (inr h) = absurd h

  lost-inside : (p : Path) → IsIn p lost_alone → IsInside p
  lost-inside p h = by p (and-both (has_value (part d no_parts) p) (not (kept_alone p)) (excess-left types (t ∷ []) deep-alone (has_value (part d no_parts)) kept_alone p h))
    where
      by : (p : Path) → IsTrue (has_value (part d no_parts) p) × IsTrue (not (kept_alone p)) → IsInside p
      by [] h = absurd (false≢true h.0)
      by (zero ∷ []) h = absurd (true≢false (sym (IsIn-listed (init (0 ∷ [])) facts root) ∙ not-true (kept_alone (0 ∷ [])) h.1))
      by (zero ∷ j ∷ r) h = (j, r, refl)
      by (suc i ∷ r) h = absurd (true≢false (sym h.0 ∙ nothing_after i r d))

  -- what is left has exactly these facts
  left-alone : Frame Name → AreSound code_alone (λ f. any_pass (same_fact f) facts) (clear_all lost_alone (part d no_parts))
  left-alone b =
      let alone : Frame Name = record b { variables = part d no_parts } in
      subst (AreSound code_alone (λ f. any_pass (same_fact f) facts)) (arrive-variables code_alone (node 0) alone)
      (edges-exact code_alone (node 0) alone (satisfies (part d no_parts)) deep-alone
      (record { types = (typed, tt); facts = record { values = λ p. ((λ h. h), (λ h. h)); components = λ p k h. h } })
      (λ f h. told f (listed-IsIn f facts h))
      (λ f g h k. IsIn-listed g facts (shut f g (listed-IsIn f facts h) k)))

  rest-exact : Frame Name → (rest : Cell Name) → clear_all lost_alone (part d no_parts) ≡ part rest no_parts → HasType types t rest × HasExactly (part rest no_parts) (λ f. IsTrue (any_pass (same_fact f) facts))
  rest-exact b rest is = let sound = subst (AreSound code_alone (λ f. any_pass (same_fact f) facts)) is (left-alone b) in (sound.types.0, sound.facts)

module _ (c : Module) (i : ℕ) (q : List ℕ) (has : Fact → Bool) (b : Frame Name) (sound : AreSound c has b.variables) where
  -- behind a source that is taken the values are sound without its facts, whatever was dropped of it
  pub source-taken : (lost : List Path) → ((p : Path) → IsIn p lost → is_at_or_below (i ∷ q) p ≡ true) → AreSound c (without (i ∷ q) has) (cleared (i ∷ q) (drop lost b)).variables
  source-taken lost below' =
      let d = subst (Dropped c i q has) (sym (drop-variables lost b)) (dropped-sound c i q lost below' has b.variables sound) in
      same_facts c (without (i ∷ q) d.left) (without (i ∷ q) has) (cleared (i ∷ q) (drop lost b)).variables d.same (clearing-sound c d.left i q (drop lost b).variables d.sound)

  -- of nothing there is no excess
  pub no-source : (t : Option ℕ) (facts : List Fact) → cell_at (i ∷ q) b.variables ≡ None → excess_at c.types t facts (i ∷ q) b ≡ []
  no-source t facts at =
      ap (λ (k : Option (Cell Name)). list_of (λ d. list_of (λ u. map (below (i ∷ q)) (excess c.types (u ∷ []) (has_value (part d no_parts)) (λ p. any_pass (same_fact (init p)) facts))) t) k) at

  -- what a value tells is told at its path, and the other way
  pub told-alone : (d : Cell Name) → cell_at (i ∷ q) b.variables ≡ Some d → (r : List ℕ) → has_value b.variables ((i ∷ q) ++ r) ≡ has_value (part d no_parts) (0 ∷ r)
  told-alone d at r = value-below i q r b.variables d at

  pub read-alone : (d : Cell Name) → cell_at (i ∷ q) b.variables ≡ Some d → (r : List ℕ) → read_at ((i ∷ q) ++ r) b.variables ≡ read_at (0 ∷ r) (part d no_parts)
  read-alone d at [] = ap (λ p. read_at (i ∷ p) b.variables) (append-nil q) ∙ there-read Name q i b.variables d at
  read-alone d at (j ∷ r) = read-on Name q i j r b.variables ∙ ap (λ o. read_at (j ∷ r) (readable_of o)) (there-read Name q i b.variables d at)

  module _ (t : ℕ) (type : type_at c.types c.variables (i ∷ q) ≡ Some t) where
    typed-source : (d : Cell Name) → cell_at (i ∷ q) b.variables ≡ Some d → HasType c.types t d
    typed-source = typed-at c has b.variables sound i q t type

    -- what is left of a source that tells closed facts is there, and has exactly these
    pub record Source (facts : List Fact) : Type 0 where
      pub rest : Cell Name
      pub there : cell_at (i ∷ q) (drop (excess_at c.types (type_at c.types c.variables (i ∷ q)) facts (i ∷ q) b) b).variables ≡ Some rest
      pub typed : HasType c.types t rest
      pub exact : HasExactly (part rest no_parts) (λ f. IsTrue (any_pass (same_fact f) facts))

    module _ (deep : IsTrue (is_within_depth greatest_depth c.types t)) (facts : List Fact) (shut : IsClosed c.types (t ∷ []) (λ f. IsIn f facts)) (root : IsIn (init (0 ∷ [])) facts)
        (d : Cell Name) (at : cell_at (i ∷ q) b.variables ≡ Some d) (told : (f : Fact) → IsIn f facts → IsTrue (satisfies (part d no_parts) f)) where
      beyond-is : excess_at c.types (type_at c.types c.variables (i ∷ q)) facts (i ∷ q) b ≡ map (below (i ∷ q)) (lost_alone c.types t deep facts shut root d (typed-source d at) told)
      beyond-is =
          ap₂ (λ (o : Option ℕ) (k : Option (Cell Name)). list_of (λ d. list_of (λ u. map (below (i ∷ q)) (excess c.types (u ∷ []) (has_value (part d no_parts)) (λ p. any_pass (same_fact (init p)) facts))) o) k) type at

      -- what is dropped is below the path itself
      pub beyond-inside : (p : Path) → IsIn p (excess_at c.types (type_at c.types c.variables (i ∷ q)) facts (i ∷ q) b) → (j : ℕ) × (s : Path) × (p ≡ (i ∷ q) ++ j ∷ s)
      beyond-inside p h =
          let x = in-map_from (below (i ∷ q)) p (lost_alone c.types t deep facts shut root d (typed-source d at) told) (subst (IsIn p) beyond-is h) in
          let in' = lost-inside c.types t deep facts shut root d (typed-source d at) told x.0 x.1 in
          (in'.0, in'.1, x.2 ∙ ap (below (i ∷ q)) in'.2)

      pub source-exact : Source facts
      source-exact =
          let lost = lost_alone c.types t deep facts shut root d (typed-source d at) told in
          let x = cleared-inside i q lost (lost-inside c.types t deep facts shut root d (typed-source d at) told) d b.variables at in
          let r = rest-exact c.types t deep facts shut root d (typed-source d at) told b x.rest x.alone in
          record {
            rest = x.rest;
            there = ap (cell_at (i ∷ q)) (drop-variables (excess_at c.types (type_at c.types c.variables (i ∷ q)) facts (i ∷ q) b) b ∙ ap (λ lost. clear_all lost b.variables) beyond-is) ∙ x.there;
            typed = r.0;
            exact = r.1;
          }

-- a value of a type that has exactly its full facts is full
pub exactly-full : (types : TypeTable) (t : ℕ) (d : Cell Name) → IsTrue (is_within_depth greatest_depth types t) → HasType types t d → HasExactly (part d no_parts) (λ f. IsTrue (any_pass (same_fact f) (full_facts types t (0 ∷ [])))) → IsFull types t d
exactly-full types t d deep typed exact =
    exact-full types d greatest_depth t deep typed
    (λ j s. (
      (λ h. leads j s (in-map_from (λ q. init ((0 ∷ []) ++ q)) (init (0 ∷ j ∷ s)) (part_paths full_parts types t) (listed-IsIn (init (0 ∷ j ∷ s)) (full_facts types t (0 ∷ [])) ((exact.values (0 ∷ j ∷ s)).0 h)))),
      (λ l. (exact.values (0 ∷ j ∷ s)).1 (IsIn-listed (init (0 ∷ j ∷ s)) (full_facts types t (0 ∷ [])) (in-map (λ q. init ((0 ∷ []) ++ q)) (j ∷ s) (part_paths full_parts types t) (steps-listed full_parts types full-named greatest_depth t deep (j ∷ s) l)))),
    ))
  where
    leads : (j : ℕ) (s : List ℕ) → (r : List ℕ) × IsIn r (part_paths full_parts types t) × (init (0 ∷ j ∷ s) ≡ init (0 ∷ r)) → IsPartPath full_parts types t (j ∷ s)
    leads j s x = subst (IsPartPath full_parts types t) (sym (cons-tail (ap path_of x.2))) (steps-lead full_parts types greatest_depth t x.0 x.1)

module _ (c : Module) (i : ℕ) (q : List ℕ) (has : Fact → Bool) (b : Frame Name) (sound : AreSound c has b.variables) (t : ℕ) (type : type_at c.types c.variables (i ∷ q) ≡ Some t) where
  pub below-source : (p : Path) → IsIn p (excess_over_full c (i ∷ q) b) → is_at_or_below (i ∷ q) p ≡ true
  below-source = beyond-below c.types (type_at c.types c.variables (i ∷ q)) (list_of (λ t. full_facts c.types t (0 ∷ [])) (type_at c.types c.variables (i ∷ q))) (i ∷ q) b

  module _ (deep : IsTrue (is_within_depth greatest_depth c.types t)) (facts : (f : Fact) → IsIn f (full_facts c.types t (i ∷ q)) → IsTrue (has f)) (d : Cell Name) (at : cell_at (i ∷ q) b.variables ≡ Some d) where
    full-told : (f : Fact) → IsIn f (full_facts c.types t (0 ∷ [])) → IsTrue (satisfies (part d no_parts) f)
    full-told f h =
        let r = in-map_from (λ q. init ((0 ∷ []) ++ q)) f (part_paths full_parts c.types t) h in
        subst (λ f. IsTrue (satisfies (part d no_parts) f)) (sym r.2)
        (sym (told-alone c i q has b sound d at r.0) ∙ (sound.facts.values ((i ∷ q) ++ r.0)).1 (facts (init ((i ∷ q) ++ r.0)) (in-map (λ r. init ((i ∷ q) ++ r)) r.0 (part_paths full_parts c.types t) r.1)))

    root-full : IsIn (init (0 ∷ [])) (full_facts c.types t (0 ∷ []))
    root-full = in-map (λ q. init ((0 ∷ []) ++ q)) [] (part_paths full_parts c.types t) (full-root c.types t deep)

    -- what is left of a source that has its full facts is there, and full
    pub source-full : (rest : Cell Name) × (cell_at (i ∷ q) (drop (excess_over_full c (i ∷ q) b) b).variables ≡ Some rest) × IsFull c.types t rest
    source-full =
        let s = source-exact c i q has b sound t type deep (full_facts c.types t (0 ∷ [])) (message-closed c.types t [] deep) root-full d at full-told in
        (s.rest, ap (λ (o : Option ℕ). cell_at (i ∷ q) (drop (excess_at c.types (type_at c.types c.variables (i ∷ q)) (list_of (λ t. full_facts c.types t (0 ∷ [])) o) (i ∷ q) b) b).variables) type ∙ s.there, exactly-full c.types t s.rest deep s.typed s.exact)

    pub inside-source : (p : Path) → IsIn p (excess_over_full c (i ∷ q) b) → (j : ℕ) × (s : Path) × (p ≡ (i ∷ q) ++ j ∷ s)
    inside-source p h =
        beyond-inside c i q has b sound t type deep (full_facts c.types t (0 ∷ [])) (message-closed c.types t [] deep) root-full d at full-told p
        (subst (IsIn p) (ap (λ (o : Option ℕ). excess_at c.types (type_at c.types c.variables (i ∷ q)) (list_of (λ t. full_facts c.types t (0 ∷ [])) o) (i ∷ q) b) type) h)
