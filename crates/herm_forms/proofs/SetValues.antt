-- What a value that is set, or taken away, does to sound values.
use Rattle.std.proofs.Common.{◌≡◌, ℕ, zero, suc, List, [], ◌∷◌, ◌++◌, map, Bool, true, false, cond, not, ◌&&◌, ◌||◌, Option, Some, None, refl, sym, ap, ap₂, ◌∙◌, subst}
use Rattle.std.proofs.lemmas.Bool.{or_right}
use Rattle.std.proofs.lemmas.List.{append-nil}
use Rattle.std.specs.Prelude.{slice_get, IsTrue, is_some, ◌↔◌}
use mathlib.Core.Bool.{true≢false, false≢true}
use Rattle.herm_model.specs.Lists.{IsIn, any_pass}
use Rattle.herm_model.specs.Paths.{Path, Fact, init, case, path_of, same_fact, is_at_or_below}
use Rattle.herm_model.specs.Types.{TypeTable, Shape, part_type, part_of, type_below, type_at, full_parts, part_paths, greatest_depth}
use Rattle.herm_model.specs.Values.{Kind, Cell, cell, Parts, no_parts, gap, part, opens, has_value, has_place, set_part, set_at, change_part, change_inside, put_at, read_at}
use Rattle.herm_model.specs.FactsOfValues.{is_component}
use Rattle.herm_model.specs.Typed.{partly, a_value, exactly, Fits, HasType}
use Rattle.herm_model.proofs.Lists.{and-both, in-map, in-map_from, cons-tail}
use Rattle.herm_model.proofs.Beginnings.{begins-with, above-longer}
use Rattle.herm_model.proofs.FactTests.{listed-IsIn, IsIn-listed}
use Rattle.herm_model.proofs.Places.{cell_at-set_same, cell_at-set_below}
use Rattle.herm_model.proofs.Steps.{full-named, steps-lead, steps-listed}
use Rattle.herm_model.proofs.FullFacts.{full-leads, leads-full}
use Rattle.herm_model.proofs.Typing.{full-typed}
use Rattle.herm_model.proofs.Options.{none-not_some}
use Rattle.herm_forms.specs.Frames.{Name}
use Rattle.herm_forms.specs.Modules.{Module}
use Rattle.herm_forms.specs.laws.EdgeLaws.{AreSound, without, ClearingIsSound, SettingIsSound}
use Rattle.herm_forms.proofs.TypedReading.{opening}
use Rattle.herm_forms.proofs.Dropped.{cleared-has, set-has, set-reads}
use Rattle.herm_forms.proofs.Arrived.{typed-clear}

-- types
module _ (N : Type 0) (table : TypeTable) where
  typed-set_part : (ts : List ℕ) (i : ℕ) (t : ℕ) (d : Cell N) (ps : Parts N) → Fits table (exactly (map (a_value partly) ts)) ps → slice_get ts i ≡ Some t → HasType table t d → Fits table (exactly (map (a_value partly) ts)) (set_part i (Some d) ps)
  typed-set_part [] i t d no_parts h e k = tt
  typed-set_part [] i t d (gap ps) h e k = absurd h
  typed-set_part [] i t d (part c ps) h e k = absurd h
  typed-set_part (u ∷ ts) i t d no_parts h e k = absurd h
  typed-set_part (u ∷ ts) zero t d (gap ps) h e k = let same : t ≡ u = cc e in (subst (λ u. HasType table u d) same k, h.1)
  typed-set_part (u ∷ ts) zero t d (part c ps) h e k = let same : t ≡ u = cc e in (subst (λ u. HasType table u d) same k, h.1)
  typed-set_part (u ∷ ts) (suc i) t d (gap ps) h e k = (tt, typed-set_part ts i t d ps h.1 e k)
  typed-set_part (u ∷ ts) (suc i) t d (part c ps) h e k = (h.0, typed-set_part ts i t d ps h.1 e k)

  typed-change_at : (g : Cell N → Cell N) (u : ℕ) → ((d : Cell N) → HasType table u d → HasType table u (g d)) → (ts : List ℕ) (i : ℕ) (ps : Parts N) → slice_get ts i ≡ Some u
      → Fits table (exactly (map (a_value partly) ts)) ps → Fits table (exactly (map (a_value partly) ts)) (change_part i g ps)
  typed-change_at g u keep [] i no_parts e h = tt
  typed-change_at g u keep [] i (gap ps) e h = absurd h
  typed-change_at g u keep [] i (part d ps) e h = absurd h
  typed-change_at g u keep (t ∷ ts) i no_parts e h = absurd h
  typed-change_at g u keep (t ∷ ts) zero (gap ps) e h = h
  typed-change_at g u keep (t ∷ ts) zero (part d ps) e h = let same : u ≡ t = cc e in (subst (λ t. HasType table t (g d)) same (keep d (subst (λ t. HasType table t d) (sym same) h.0)), h.1)
  typed-change_at g u keep (t ∷ ts) (suc i) (gap ps) e h = (tt, typed-change_at g u keep ts i ps e h.1)
  typed-change_at g u keep (t ∷ ts) (suc i) (part d ps) e h = (h.0, typed-change_at g u keep ts i ps e h.1)

  no_type_below : (r : List ℕ) (t : ℕ) → type_below table None r ≡ Some t → ⊥
  no_type_below [] t e = none-not_some e
  no_type_below (j ∷ r) t e = no_type_below r t e

  -- inside a cell that paths open
  typed-set_inside : (f : Parts N → Parts N) (u j t : ℕ) (r : List ℕ) → type_below table (Some u) (j ∷ r) ≡ Some t
      → ((ts : List ℕ) (qs : Parts N) → type_below table (slice_get ts j) r ≡ Some t → Fits table (exactly (map (a_value partly) ts)) qs → Fits table (exactly (map (a_value partly) ts)) (f qs))
      → (n : N) (k : Kind) (qs : Parts N) → HasType table u (cell n k qs) → (b : Bool) → opens k ≡ b → HasType table u (cell n k (cond b (f qs) qs))
  typed-set_inside f u j t r e keep n k qs h false b = h
  typed-set_inside f u j t r e keep n k qs h true b =
      let o = opening N table u n k qs b h in
      let next : part_of table (Some u) j ≡ slice_get o.types j = ap (λ (s : Option Shape). elim s [ None ↦ None | Some s ↦ part_type s j ]) o.found ∙ o.parts j in
      (subst (λ l. Fits table l (f qs)) (sym o.contents) (keep o.types qs (sym (ap (λ x. type_below table x r) next) ∙ e) (subst (λ l. Fits table l qs) o.contents h.0)), o.bounded (f qs))

  typed-set_on : (f : Parts N → Parts N) (u j t : ℕ) (r : List ℕ) → type_below table (Some u) (j ∷ r) ≡ Some t
      → ((ts : List ℕ) (qs : Parts N) → type_below table (slice_get ts j) r ≡ Some t → Fits table (exactly (map (a_value partly) ts)) qs → Fits table (exactly (map (a_value partly) ts)) (f qs))
      → (d : Cell N) → HasType table u d → HasType table u (change_inside f d)
  typed-set_on f u j t r e keep (cell n k qs) h = typed-set_inside f u j t r e keep n k qs h (opens k) refl

  typed-set_by : (o : Option ℕ) (ts : List ℕ) (i j t : ℕ) (r : List ℕ) (f : Parts N → Parts N) (ps : Parts N) → slice_get ts i ≡ o → type_below table o (j ∷ r) ≡ Some t
      → ((ts : List ℕ) (qs : Parts N) → type_below table (slice_get ts j) r ≡ Some t → Fits table (exactly (map (a_value partly) ts)) qs → Fits table (exactly (map (a_value partly) ts)) (f qs))
      → Fits table (exactly (map (a_value partly) ts)) ps → Fits table (exactly (map (a_value partly) ts)) (change_part i (change_inside f) ps)
  typed-set_by None ts i j t r f ps at e keep h = absurd (no_type_below (j ∷ r) t e)
  typed-set_by (Some u) ts i j t r f ps at e keep h = typed-change_at (change_inside f) u (typed-set_on f u j t r e keep) ts i ps at h

  pub typed-set : (q : List ℕ) (i : ℕ) (ts : List ℕ) (t : ℕ) (d : Cell N) (ps : Parts N) → type_below table (slice_get ts i) q ≡ Some t → HasType table t d
      → Fits table (exactly (map (a_value partly) ts)) ps → Fits table (exactly (map (a_value partly) ts)) (set_at (i ∷ q) (Some d) ps)
  typed-set [] i ts t d ps e k h = typed-set_part ts i t d ps h e k
  typed-set (j ∷ r) i ts t d ps e k h = typed-set_by (slice_get ts i) ts i j t r (set_at (j ∷ r) (Some d)) ps refl e (λ types qs e' h'. typed-set r j types t d qs e' k h') h

pub not-both : (a b : Bool) → not a && b ≡ true → (a ≡ false) × (b ≡ true)
not-both true b e = absurd (false≢true e)
not-both false b e = (refl, e)

pub clearing-sound : ClearingIsSound
clearing-sound c has i q ps sound = record {
  types = typed-clear Name c.types (i ∷ q) c.variables ps sound.types;
  facts = record {
    values = λ p. (
      (λ h.
          let both = and-both (has_value ps p) (not (is_at_or_below (i ∷ q) p)) (sym (cleared-has Name q i p ps) ∙ h) in
          ap₂ ◌&&◌ both.1 ((sound.facts.values p).0 both.0)),
      (λ h.
          let both = and-both (not (is_at_or_below (i ∷ q) p)) (has (init p)) h in
          cleared-has Name q i p ps ∙ ap₂ ◌&&◌ ((sound.facts.values p).1 both.1) both.0),
    );
    components = λ p k h.
        (let both = not-both (is_at_or_below (i ∷ q) p) (has (case p k)) h in
        set-reads Name q i p k None ps both.0 ∙ sound.facts.components p k both.1);
  };
}

abbrev is_init : Fact → Bool
is_init (init p) = true
is_init (case p c) = false

-- a fact of a value below a path
append-same : (p r s : Path) → p ++ r ≡ p ++ s → r ≡ s
append-same [] r s e = e
append-same (i ∷ p) r s e = append-same p r s (cons-tail e)

init-path : (p q : Path) → init p ≡ init q → p ≡ q
init-path p q e = ap path_of e

-- facts of values at these steps below a path
abbrev pub facts_below : List (List ℕ) → Path → List Fact
facts_below steps' p = map (λ r. init (p ++ r)) steps'

module _ (steps' : List (List ℕ)) (p : Path) where
  full-below : (f : Fact) → any_pass (same_fact f) (facts_below steps' p) ≡ true → (r : Path) × (f ≡ init (p ++ r)) × IsIn r steps'
  full-below f h =
      let x = in-map_from (λ q. init (p ++ q)) f steps' (listed-IsIn f (facts_below steps' p) h) in (x.0, x.2, x.1)

  in-full : (r : Path) → IsIn r steps' → any_pass (same_fact (init (p ++ r))) (facts_below steps' p) ≡ true
  in-full r h = IsIn-listed (init (p ++ r)) (facts_below steps' p) (in-map (λ q. init (p ++ q)) r steps' h)

  not-full_case : (q : Path) (k : ℕ) → any_pass (same_fact (case q k)) (facts_below steps' p) ≡ true → ⊥
  not-full_case q k h = let x = full-below (case q k) h in false≢true (ap is_init x.1)

-- what is at a path that is set
module _ (i : ℕ) (q : Path) (value : Cell Name) (ps : Parts Name) (place : IsTrue (has_place ps (i ∷ q))) where
  pub set-below : (r : Path) → has_value (put_at (i ∷ q) value ps) ((i ∷ q) ++ r) ≡ has_value (part value no_parts) (0 ∷ r)
  set-below [] = ap (λ p. has_value (put_at (i ∷ q) value ps) (i ∷ p)) (append-nil q) ∙ ap is_some (cell_at-set_same (i ∷ q) (Some value) ps place)
  set-below (j ∷ r) = ap is_some (cell_at-set_below (i ∷ q) j r (Some value) ps place)

-- the facts with those of values at these steps below a path, in place of those at the path and below it
abbrev pub with_steps : List (List ℕ) → Path → (Fact → Bool) → Fact → Bool
with_steps steps' p has f = any_pass (same_fact f) (facts_below steps' p) || without p has f

-- a value of the path's type that has values at these steps
pub setting-any : (c : Module) (has : Fact → Bool) (i : ℕ) (q : List ℕ) (t : ℕ) (value : Cell Name) (ps : Parts Name) (steps' : List (List ℕ)) → AreSound c has ps → IsTrue (has_place ps (i ∷ q))
    → type_at c.types c.variables (i ∷ q) ≡ Some t → HasType c.types t value → ((r : List ℕ) → IsIn r steps' ↔ IsTrue (has_value (part value no_parts) (0 ∷ r)))
    → AreSound c (with_steps steps' (i ∷ q) has) (put_at (i ∷ q) value ps)
setting-any c has i q t value ps steps' sound place type typed exact = record {
  types = typed-set Name c.types q i c.variables t value ps type typed sound.types;
  facts = record { values = values; components = components };
}
  where
    -- what is elsewhere is not of the full facts
    kept : (p : Path) → is_at_or_below (i ∷ q) p ≡ false → (b : Bool) → any_pass (same_fact (init p)) (facts_below steps' (i ∷ q)) ≡ b → b || without (i ∷ q) has (init p) ≡ true → has (init p) ≡ true
    kept p apart true e h =
        let x = full-below steps' (i ∷ q) (init p) e in
        absurd (true≢false (sym (ap (is_at_or_below (i ∷ q)) (ap path_of x.1) ∙ above-longer (i ∷ q) x.0) ∙ apart))
    kept p apart false e h = (not-both (is_at_or_below (i ∷ q) p) (has (init p)) h).1

    -- what is below is of the full facts
    made : (r : Path) → (b : Bool) → any_pass (same_fact (init ((i ∷ q) ++ r))) (facts_below steps' (i ∷ q)) ≡ b → b || without (i ∷ q) has (init ((i ∷ q) ++ r)) ≡ true → IsIn r steps'
    made r true e h =
        let x = full-below steps' (i ∷ q) (init ((i ∷ q) ++ r)) e in
        let same : r ≡ x.0 = append-same (i ∷ q) r x.0 (ap path_of x.1) in
        subst (λ r. IsIn r steps') (sym same) x.2
    made r false e h = absurd (true≢false (sym (above-longer (i ∷ q) r) ∙ (not-both (is_at_or_below (i ∷ q) ((i ∷ q) ++ r)) (has (init ((i ∷ q) ++ r))) h).0))

    elsewhere : (p : Path) → is_at_or_below (i ∷ q) p ≡ false → IsTrue (has_value (put_at (i ∷ q) value ps) p) ↔ IsTrue (with_steps steps' (i ∷ q) has (init p))
    elsewhere p apart = (
      (λ h.
          let before = sym (set-has Name q i p (Some value) ps apart) ∙ h in
          or_right (any_pass (same_fact (init p)) (facts_below steps' (i ∷ q))) _ (ap₂ (λ a b. not a && b) apart ((sound.facts.values p).0 before))),
      (λ h. set-has Name q i p (Some value) ps apart ∙ (sound.facts.values p).1 (kept p apart (any_pass (same_fact (init p)) (facts_below steps' (i ∷ q))) refl h)),
    )

    below : (r : Path) → IsTrue (has_value (put_at (i ∷ q) value ps) ((i ∷ q) ++ r)) ↔ IsTrue (with_steps steps' (i ∷ q) has (init ((i ∷ q) ++ r)))
    below r = (
      (λ h. ap (λ b. b || without (i ∷ q) has (init ((i ∷ q) ++ r))) (in-full steps' (i ∷ q) r ((exact r).1 (sym (set-below i q value ps place r) ∙ h)))),
      (λ h. set-below i q value ps place r ∙ (exact r).0 (made r (any_pass (same_fact (init ((i ∷ q) ++ r))) (facts_below steps' (i ∷ q))) refl h)),
    )

    at_path : (p : Path) (b : Bool) → is_at_or_below (i ∷ q) p ≡ b → IsTrue (has_value (put_at (i ∷ q) value ps) p) ↔ IsTrue (with_steps steps' (i ∷ q) has (init p))
    at_path p false e = elsewhere p e
    at_path p true e =
        let r = begins-with (i ∷ q) p e in
        subst (λ p. IsTrue (has_value (put_at (i ∷ q) value ps) p) ↔ IsTrue (with_steps steps' (i ∷ q) has (init p))) (sym r.1) (below r.0)

    values : (p : Path) → IsTrue (has_value (put_at (i ∷ q) value ps) p) ↔ IsTrue (with_steps steps' (i ∷ q) has (init p))
    values p = at_path p (is_at_or_below (i ∷ q) p) refl

    components : (p : Path) (k : ℕ) → IsTrue (with_steps steps' (i ∷ q) has (case p k)) → IsTrue (is_component (read_at p (put_at (i ∷ q) value ps)) k)
    components p k h = by (any_pass (same_fact (case p k)) (facts_below steps' (i ∷ q))) refl h
      where
        by : (b : Bool) → any_pass (same_fact (case p k)) (facts_below steps' (i ∷ q)) ≡ b → IsTrue (b || without (i ∷ q) has (case p k)) → IsTrue (is_component (read_at p (put_at (i ∷ q) value ps)) k)
        by true e h = absurd (not-full_case steps' (i ∷ q) p k e)
        by false e h =
            let both = not-both (is_at_or_below (i ∷ q) p) (has (case p k)) h in
            set-reads Name q i p k (Some value) ps both.0 ∙ sound.facts.components p k both.1

pub setting-sound : SettingIsSound
setting-sound c has i q t value ps sound place type deep full =
    setting-any c has i q t value ps (part_paths full_parts c.types t) sound place type (full-typed c.types t value full)
    (λ r. (
      (λ h. leads-full c.types r t value full (steps-lead full_parts c.types greatest_depth t r h)),
      (λ h. steps-listed full_parts c.types full-named greatest_depth t deep r (full-leads c.types r t value full h)),
    ))
