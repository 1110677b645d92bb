-- Behind an edge the values have exactly the facts of its target.
use Rattle.std.proofs.Common.{◌≡◌, ◌⊎◌, inl, inr, ℕ, zero, suc, List, [], ◌∷◌, ◌++◌, map, length, Bool, true, false, cond, not, ◌&&◌, Option, Some, None, refl, sym, ap, ap₂, ◌∙◌, subst, arith, append_assoc}
use Rattle.std.proofs.lemmas.Bool.{or_parts}
use Rattle.std.proofs.lemmas.List.{append-nil}
use Rattle.std.specs.Prelude.{is_some, slice_get, IsTrue, filter}
use mathlib.Core.Bool.{true≢false, false≢true}
use borrow.Author.Tests.{not-true}
use Rattle.herm_model.specs.Lists.{IsIn, all_pass, numbered}
use Rattle.herm_model.specs.Paths.{Path, Fact, init, case, parent, is_at_or_below}
use Rattle.herm_model.specs.Types.{TypeTable, part_of, is_variant, is_within_depth, greatest_depth, enters_component, passes_component, held_parts, part_paths, variable_paths}
use Rattle.herm_model.specs.Facts.{facts_from, facts_to, prefixes, IsClosed}
use Rattle.herm_model.specs.Targets.{Target}
use Rattle.herm_model.specs.Labels.{label_at}
use Rattle.herm_model.specs.Values.{Cell, cell, Parts, no_parts, gap, part, opens, cell_at, has_value, set_part, set_at, change_part, change_inside, clear_at}
use Rattle.herm_model.specs.FactsOfValues.{HasExactly}
use Rattle.herm_model.specs.Typed.{partly, a_value, exactly, Fits, HasType, HaveTypes}
use Rattle.herm_model.specs.Finalising.{is_left, excess_at, excess, clear_all}
use Rattle.herm_model.proofs.Lists.{and-both, in-append_right, in-map, in-map_from, in-flat_map, in-flat_map_from, in-every, every-in}
use Rattle.herm_model.proofs.Excess.{excess-top, top-excess}
use Rattle.herm_model.proofs.Steps.{steps-lead}
use Rattle.herm_model.proofs.Beginnings.{begins-with}
use Rattle.herm_model.proofs.Prefixes.{to-longer}
use Rattle.herm_forms.specs.Frames.{Name, Loop, Frame, finalise_old, finalise_parts, cleared, drop_at, drop}
use Rattle.herm_forms.specs.EdgeFinalising.{keeps, arrive}
use Rattle.herm_forms.specs.LeavingLoops.{keeps_loop, finalise_loops}
use Rattle.herm_forms.specs.Modules.{Module}
use Rattle.herm_forms.specs.laws.EdgeLaws.{AreDeep, EdgesAreExact}
use Rattle.herm_forms.proofs.TypedReading.{opening, typed-read, read-listed}
use Rattle.herm_forms.proofs.Dropped.{is_path_at, at_or_above, all_cleared-has, all_cleared-reads, proper_prefixes, topmost, top_of, from_topmost}

from-direct : (table : TypeTable) (at : Path) (t : Option ℕ) (p : List ℕ) → enters_component table t p ≡ false → IsIn (init (at ++ p)) (facts_from table at t false p)
from-direct table at t [] h = inl (ap init (append-nil at))
from-direct table at t (i ∷ p) h =
    let none = or_parts (is_variant table t) (enters_component table (part_of table t i) p) h in
    let rest = from-direct table (at ++ i ∷ []) (part_of table t i) p none.1 in
    let same : (at ++ i ∷ []) ++ p ≡ at ++ i ∷ p = append_assoc at (i ∷ []) p in
    let within : IsIn (init (at ++ i ∷ p)) (facts_from table (at ++ i ∷ []) (part_of table t i) (is_variant table t) p) =
    subst (λ w. IsIn (init (at ++ i ∷ p)) (facts_from table (at ++ i ∷ []) (part_of table t i) w p)) (sym none.0) (subst (λ q. IsIn (init q) (facts_from table (at ++ i ∷ []) (part_of table t i) false p)) same rest) in
    inr (in-append_right (init (at ++ i ∷ p)) (cond (is_variant table t) (case at i ∷ []) []) (facts_from table (at ++ i ∷ []) (part_of table t i) (is_variant table t) p) within)

pub to-direct : (table : TypeTable) (variables : List ℕ) (v : ℕ) (p : List ℕ) → passes_component table variables (v ∷ p) ≡ false → IsIn (init (v ∷ p)) (facts_to table variables (v ∷ p))
to-direct table variables v p h = from-direct table (v ∷ []) (slice_get variables v) p h

pub parent-begins : (q p : Path) → IsIn q (proper_prefixes p) → (r : Path) × (parent p ≡ q ++ r)
parent-begins q [] h = absurd h
parent-begins q (i ∷ []) h = absurd h
parent-begins q (i ∷ j ∷ p) (inl e) = (parent (j ∷ p), ap (λ q. q ++ parent (j ∷ p)) (sym e))
parent-begins q (i ∷ j ∷ p) (inr h) =
    let x = in-map_from (i ∷◌) q (proper_prefixes (j ∷ p)) h in
    let r = parent-begins x.0 (j ∷ p) x.1 in (r.0, ap (i ∷◌) r.1 ∙ ap (λ q. q ++ r.0) (sym x.2))

-- the variables behind an edge
module _ {N : Type 0} where
  pub old-variables : (o : Option (Cell N)) (b : Frame N) → (finalise_old o b).variables ≡ b.variables
  old-variables None b = refl
  old-variables (Some c) b = refl

  pub drop-variables : (paths : List Path) (b : Frame N) → (drop paths b).variables ≡ clear_all paths b.variables
  drop-variables [] b = refl
  drop-variables (p ∷ paths) b = drop-variables paths (drop_at p b) ∙ ap (clear_all paths) (old-variables (cell_at p b.variables) (cleared p b))

  cond-variables : (t : Bool) (ps : Parts N) (b : Frame N) → (cond t b (finalise_parts ps b)).variables ≡ b.variables
  cond-variables true ps b = refl
  cond-variables false ps b = refl

  loops-variables : (stay : ℕ → Bool) (loops : List (Loop N)) (b : Frame N) → (finalise_loops stay loops b).variables ≡ b.variables
  loops-variables stay [] b = refl
  loops-variables stay (l ∷ loops) b = loops-variables stay loops (cond (stay l.statement) b (finalise_parts l.rows b)) ∙ cond-variables (stay l.statement) l.rows b

  pub arrive-variables : (c : Module) (t : Target) (b : Frame N) → (arrive c t b).variables ≡ clear_all (excess c.types c.variables (has_value b.variables) (keeps c t)) b.variables
  arrive-variables c t b =
      let lost = excess c.types c.variables (has_value b.variables) (keeps c t) in
      loops-variables (keeps_loop c t) (drop lost b).loops (record (drop lost b) { loops = filter (λ (l : Loop N). keeps_loop c t l.statement) (drop lost b).loops })
      ∙ drop-variables lost b

-- a variable that is numbered is listed
numbered-listed : (xs : List ℕ) (k i t : ℕ) → IsIn (i, t) (numbered k xs) → IsIn t xs
numbered-listed [] k i t h = h
numbered-listed (x ∷ xs) k i t (inl e) = inl (ap (λ (v : ℕ × ℕ). v.1) e)
numbered-listed (x ∷ xs) k i t (inr h) = inr (numbered-listed xs (suc k) i t h)

-- a beginning that is not the path itself is a proper prefix
begins-properly : (v : ℕ) (r : List ℕ) (i : ℕ) (more : List ℕ) → IsIn (v ∷ r) (proper_prefixes (v ∷ (r ++ i ∷ more)))
begins-properly v [] i more = inl refl
begins-properly v (k ∷ r) i more = inr (in-map (v ∷◌) (k ∷ r) (proper_prefixes (k ∷ (r ++ i ∷ more))) (begins-properly k r i more))

-- the excess has paths that are left, and each that is topmost among the listed ones
module _ (types : TypeTable) (variables : List ℕ) (deep : (t : ℕ) → IsIn t variables → IsTrue (is_within_depth greatest_depth types t)) (here kept : Path → Bool) where
  pub excess-left : (q : Path) → IsIn q (excess types variables here kept) → is_left here kept q ≡ true
  excess-left q h =
      let v = in-flat_map_from (λ (v : ℕ × ℕ). excess_at types here kept (v.0 ∷ []) v.1) q (numbered 0 variables) h in
      (excess-top (is_left here kept) types greatest_depth (v.0.0 ∷ []) v.0.1 q (deep v.0.1 (numbered-listed variables 0 v.0.0 v.0.1 v.1)) v.2).is_left

  topmost-excess : (q : Path) → IsIn q (topmost here kept (variable_paths held_parts types variables)) → ((q : Path) → here q ≡ true → IsIn q (variable_paths held_parts types variables)) → IsIn q (excess types variables here kept)
  topmost-excess q h listed =
      let l = from_topmost here kept (variable_paths held_parts types variables) listed q h in
      let v = in-flat_map_from (λ (v : ℕ × ℕ). map (v.0 ∷◌) (part_paths held_parts types v.1)) q (numbered 0 variables) l.2 in
      let r = in-map_from (v.0.0 ∷◌) q (part_paths held_parts types v.0.1) v.2 in
      in-flat_map (λ (v : ℕ × ℕ). excess_at types here kept (v.0 ∷ []) v.1) v.0 q (numbered 0 variables) v.1
      (top-excess (is_left here kept) types greatest_depth (v.0.0 ∷ []) v.0.1 r.0 q (deep v.0.1 (numbered-listed variables 0 v.0.0 v.0.1 v.1)) r.2
      (steps-lead held_parts types greatest_depth v.0.1 r.0 r.1) l.0 (first v.0.0 r.0 (subst (λ p. all_pass (λ q. not (is_left here kept q)) (proper_prefixes p) ≡ true) r.2 l.1)))
    where
      first : (v : ℕ) (p : List ℕ) → all_pass (λ q. not (is_left here kept q)) (proper_prefixes (v ∷ p)) ≡ true → (r : List ℕ) (i : ℕ) (more : List ℕ) → p ≡ r ++ i ∷ more → is_left here kept (v ∷ r) ≡ false
      first v p none r i more e =
          not-true (is_left here kept (v ∷ r)) (every-in (λ q. not (is_left here kept q)) (v ∷ r) (proper_prefixes (v ∷ p)) none (subst (λ p. IsIn (v ∷ r) (proper_prefixes (v ∷ p))) (sym e) (begins-properly v r i more)))

-- a test and its value
some-there : {X : Type 0} (o : Option X) → is_some o ≡ true → (x : X) × (o ≡ Some x)
some-there None h = absurd (false≢true h)
some-there (Some x) h = (x, refl)

module _ {N : Type 0} (c : Module) (t : Target) (ps : Parts N) (has : Fact → Bool) (deep : AreDeep c) (typed : HaveTypes c.types c.variables ps) (exact : HasExactly ps (λ f. IsTrue (has f)))
    (less : (f : Fact) → IsTrue (label_at c.label t f) → IsTrue (has f)) (closed : IsClosed c.types c.variables (λ f. IsTrue (label_at c.label t f))) where
  abbrev here : Path → Bool
  here p = has_value ps p

  abbrev paths : List Path
  paths = variable_paths held_parts c.types c.variables

  abbrev lost : List Path
  lost = excess c.types c.variables here (keeps c t)

  -- a path with a value passes through no component, and is listed
  direct : (i : ℕ) (q : Path) → here (i ∷ q) ≡ true → (passes_component c.types c.variables (i ∷ q) ≡ false) × IsIn (i ∷ q) paths
  direct i q h =
      let x = some-there (cell_at (i ∷ q) ps) h in
      let r = typed-read N c.types c.variables i q ps x.0 typed x.1 in
      (ap (λ t. enters_component c.types t q) r.there ∙ r.direct, read-listed N c.types c.variables deep i q ps x.0 typed x.1)

  listed : (q : Path) → here q ≡ true → IsIn q paths
  listed [] h = absurd (false≢true h)
  listed (i ∷ q) h = (direct i q h).1

  -- what is lost was there, and is not kept
  lost-is : (q : Path) → IsIn q lost → (here q ≡ true) × (keeps c t q ≡ false)
  lost-is q h =
      let l = excess-left c.types c.variables deep here (keeps c t) q h in
      let both = and-both (here q) (not (keeps c t q)) l in (both.0, not-true (keeps c t q) both.1)

  path-if : (q : Path) → here q ≡ true → is_path_at q ≡ true
  path-if [] h = absurd (false≢true h)
  path-if (i ∷ q) h = refl

  lost-paths : IsTrue (all_pass is_path_at lost)
  lost-paths = in-every is_path_at lost (λ q h. path-if q (lost-is q h).0)

  -- with a fact at a path, the value at each path above it is kept
  kept-above : (f : Fact) (q s r : Path) → here q ≡ true → s ≡ q ++ r → ((g : Fact) → IsIn g (facts_to c.types c.variables s) → IsIn g (prefixes c.types c.variables f)) → IsTrue (label_at c.label t f) → keeps c t q ≡ true
  kept-above f [] s r h e on label = absurd (false≢true h)
  kept-above f (i ∷ q) s r h e on label =
      let first = to-direct c.types c.variables i q (direct i q h).0 in
      let longer = to-longer c.types c.variables (i ∷ q) r (init (i ∷ q)) first in
      closed f (init (i ∷ q)) label (on (init (i ∷ q)) (subst (λ s. IsIn (init (i ∷ q)) (facts_to c.types c.variables s)) (sym e) longer))

  -- nothing that is lost is at or above a value that is kept
  apart_value : (p q : Path) → IsTrue (label_at c.label t (init p)) → IsIn q lost → (b : Bool) → is_at_or_below q p ≡ b → IsTrue (not b)
  apart_value p q label h false e = refl
  apart_value p q label h true e = above p q label (lost-is q h) e
    where
      above : (p q : Path) → IsTrue (label_at c.label t (init p)) → (here q ≡ true) × (keeps c t q ≡ false) → is_at_or_below q p ≡ true → IsTrue false
      above p [] label l e = absurd (false≢true l.0)
      above [] (i ∷ q) label l e = absurd (false≢true e)
      above (j ∷ p) (i ∷ q) label l e = by (at_or_above q p i j e)
        where
          by : (i ∷ q ≡ j ∷ p) ⊎ IsIn (i ∷ q) (proper_prefixes (j ∷ p)) → IsTrue false
          by (inl s) = absurd (true≢false (sym label ∙ ap (λ p. label_at c.label t (init p)) (sym s) ∙ l.1))
          by (inr prefix) =
              let r = parent-begins (i ∷ q) (j ∷ p) prefix in
              absurd (true≢false (sym (kept-above (init (j ∷ p)) (i ∷ q) (parent (j ∷ p)) r.0 l.0 r.1 (λ g h. h) label) ∙ l.1))

  apart_case : (p : Path) (k : ℕ) (q : Path) → IsTrue (label_at c.label t (case p k)) → IsIn q lost → (b : Bool) → is_at_or_below q p ≡ b → IsTrue (not b)
  apart_case p k q label h false e = refl
  apart_case p k q label h true e =
      let l = lost-is q h in
      let r = begins-with q p e in
      absurd (true≢false (sym (kept-above (case p k) q p r.0 l.0 r.1 (λ g h. h) label) ∙ l.1))

  -- a value that stays is kept
  stays-kept : (p : Path) → here p ≡ true → all_pass (λ q. not (is_at_or_below q p)) lost ≡ true → (b : Bool) → keeps c t p ≡ b → b ≡ true
  stays-kept p h none true e = refl
  stays-kept p h none false e =
      let left : is_left here (keeps c t) p ≡ true = ap₂ (λ a b. a && not b) h e in
      let top = top_of here (keeps c t) paths listed (length p) p (omega arith) left in
      absurd (false≢true (sym (ap not top.2) ∙ every-in (λ q. not (is_at_or_below q p)) top.0 lost none (topmost-excess c.types c.variables deep here (keeps c t) top.0 top.1 listed)))

  pub arrived-exact : HasExactly (clear_all lost ps) (λ f. IsTrue (label_at c.label t f))
  arrived-exact = record {
    values = λ p. (
      (λ h.
          let both = and-both (here p) (all_pass (λ q. not (is_at_or_below q p)) lost) (sym (all_cleared-has N lost p ps lost-paths) ∙ h) in
          stays-kept p both.0 both.1 (keeps c t p) refl),
      (λ label.
          let there = (exact.values p).1 (less (init p) label) in
          all_cleared-has N lost p ps lost-paths ∙ ap₂ ◌&&◌ there (in-every (λ q. not (is_at_or_below q p)) lost (λ q h. apart_value p q label h (is_at_or_below q p) refl))),
    );
    components = λ p k label.
        all_cleared-reads N lost p k ps lost-paths (in-every (λ q. not (is_at_or_below q p)) lost (λ q h. apart_case p k q label h (is_at_or_below q p) refl)) ∙ exact.components p k (less (case p k) label);
  }

-- clearing keeps types
module _ (N : Type 0) (table : TypeTable) where
  typed-clear_part : (ts : List ℕ) (i : ℕ) (ps : Parts N) → Fits table (exactly (map (a_value partly) ts)) ps → Fits table (exactly (map (a_value partly) ts)) (set_part i None ps)
  typed-clear_part [] i no_parts h = tt
  typed-clear_part [] i (gap ps) h = absurd h
  typed-clear_part [] i (part d ps) h = absurd h
  typed-clear_part (t ∷ ts) i no_parts h = absurd h
  typed-clear_part (t ∷ ts) zero (gap ps) h = h
  typed-clear_part (t ∷ ts) zero (part d ps) h = (tt, h.1)
  typed-clear_part (t ∷ ts) (suc i) (gap ps) h = (tt, typed-clear_part ts i ps h.1)
  typed-clear_part (t ∷ ts) (suc i) (part d ps) h = (h.0, typed-clear_part ts i ps h.1)

  typed-change_part : (g : Cell N → Cell N) → ((t : ℕ) (d : Cell N) → HasType table t d → HasType table t (g d)) → (ts : List ℕ) (i : ℕ) (ps : Parts N)
      → Fits table (exactly (map (a_value partly) ts)) ps → Fits table (exactly (map (a_value partly) ts)) (change_part i g ps)
  typed-change_part g keep [] i no_parts h = tt
  typed-change_part g keep [] i (gap ps) h = absurd h
  typed-change_part g keep [] i (part d ps) h = absurd h
  typed-change_part g keep (t ∷ ts) i no_parts h = absurd h
  typed-change_part g keep (t ∷ ts) zero (gap ps) h = h
  typed-change_part g keep (t ∷ ts) zero (part d ps) h = (keep t d h.0, h.1)
  typed-change_part g keep (t ∷ ts) (suc i) (gap ps) h = (tt, typed-change_part g keep ts i ps h.1)
  typed-change_part g keep (t ∷ ts) (suc i) (part d ps) h = (h.0, typed-change_part g keep ts i ps h.1)

  typed-inside_if : (f : Parts N → Parts N) → ((ts : List ℕ) (qs : Parts N) → Fits table (exactly (map (a_value partly) ts)) qs → Fits table (exactly (map (a_value partly) ts)) (f qs))
      → (t : ℕ) (n : N) (k : Rattle.herm_model.specs.Values.Kind) (qs : Parts N) → HasType table t (cell n k qs) → (b : Bool) → opens k ≡ b → HasType table t (cell n k (cond b (f qs) qs))
  typed-inside_if f keep t n k qs h false e = h
  typed-inside_if f keep t n k qs h true e =
      let o = opening N table t n k qs e h in
      (subst (λ l. Fits table l (f qs)) (sym o.contents) (keep o.types qs (subst (λ l. Fits table l qs) o.contents h.0)), o.bounded (f qs))

  typed-inside : (f : Parts N → Parts N) → ((ts : List ℕ) (qs : Parts N) → Fits table (exactly (map (a_value partly) ts)) qs → Fits table (exactly (map (a_value partly) ts)) (f qs))
      → (t : ℕ) (d : Cell N) → HasType table t d → HasType table t (change_inside f d)
  typed-inside f keep t (cell n k qs) h = typed-inside_if f keep t n k qs h (opens k) refl

  pub typed-clear : (q : Path) (ts : List ℕ) (ps : Parts N) → Fits table (exactly (map (a_value partly) ts)) ps → Fits table (exactly (map (a_value partly) ts)) (set_at q None ps)
  typed-clear [] ts ps h = h
  typed-clear (i ∷ []) ts ps h = typed-clear_part ts i ps h
  typed-clear (i ∷ j ∷ q) ts ps h = typed-change_part (change_inside (set_at (j ∷ q) None)) (typed-inside (set_at (j ∷ q) None) (typed-clear (j ∷ q))) ts i ps h

  pub typed-clear_all : (lost : List Path) (ts : List ℕ) (ps : Parts N) → Fits table (exactly (map (a_value partly) ts)) ps → Fits table (exactly (map (a_value partly) ts)) (clear_all lost ps)
  typed-clear_all [] ts ps h = h
  typed-clear_all (q ∷ lost) ts ps h = typed-clear_all lost ts (clear_at q ps) (typed-clear q ts ps h)

pub edges-exact : EdgesAreExact
edges-exact c t b has deep sound less closed =
    let lost = excess c.types c.variables (has_value b.variables) (keeps c t) in
    let there = sym (arrive-variables c t b) in
    record {
      types = subst (HaveTypes c.types c.variables) there (typed-clear_all Name c.types lost c.variables b.variables sound.types);
      facts = subst (λ ps. HasExactly ps (λ f. IsTrue (label_at c.label t f))) there (arrived-exact c t b.variables has deep sound.types sound.facts less closed);
    }
