-- Declared facts without a fault are of record fields, and declare one case of a path.
use Rattle.std.proofs.Common.{◌≡◌, ◌<◌, ◌⊎◌, inl, inr, ℕ, zero, suc, List, [], ◌∷◌, ◌++◌, map, flat_map, length, slice_get, Option, Some, None, option_and_then, refl, sym, ◌∙◌, ap, subst, arith}
use Rattle.std.specs.Str.{bytes_eq}
use Rattle.std.proofs.lemmas.Slice.Eq.{bytes_eq-Decides}
use Rattle.herm_model.specs.Lists.{IsIn, map_or}
use Rattle.herm_model.specs.Paths.{Fact, init, case}
use Rattle.herm_model.specs.Types as types
use Rattle.herm_model.specs.Types.{TypeTable, named_types, full_parts, part_paths, greatest_depth}
use Rattle.herm_model.specs.Facts.{full_facts, without_repeats, component_count}
use Rattle.herm_model.specs.TypedExpressions.{HasShape}
use Rattle.herm_model.specs.WellFormedTables.{IsType, field_type, field_below, IsFieldPath, IsOfField, IsOfFullField}
use Rattle.herm_model.proofs.ClosedFacts.{once-IsIn, IsIn-once}
use Rattle.herm_model.proofs.Lists.{cons-not_nil, cons-head, cons-tail, in-map_from, in-flat_map, in-flat_map_from}
use Rattle.herm_model.proofs.Options.{some-injective, none-not_some}
use Rattle.herm_syntax.specs.Trees.{Letters, DeclaredFact, InitFact, FullFact, CaseFact}
use Rattle.herm_meaning.specs.Names.{NamedTable, part_count}
use Rattle.herm_meaning.specs.Walks.{place_of, parts_of, Walked, ended, left_fields, met_unknown, further, walk, walk_fields, at_end}
use Rattle.herm_meaning.specs.Meaning.{fact_meant}
use Rattle.herm_meaning.specs.DefinitionFaults.{IsBadFact, HasTwoCases}
use Rattle.herm_meaning.proofs.NamePlaces.{one-place}
use Rattle.herm_meaning.proofs.NameRules.{below}
use Rattle.herm_meaning.proofs.Forgotten.{bare, of-bare, cases-bare, below-bare, bare-full, steps-bare}
use Rattle.herm_meaning.proofs.TypeRules.{not-false, shape-of, part-names, IsSound}

abbrev places-or : Walked → List ℕ
places-or (ended ps t) = ps
places-or w = []

abbrev type-or : Walked → ℕ
type-or (ended ps t) = t
type-or w = 0

ended-places : {ps qs : List ℕ} {t u : ℕ} → ended ps t ≡ ended qs u → ps ≡ qs
ended-places e = ap places-or e

ended-type : {ps qs : List ℕ} {t u : ℕ} → ended ps t ≡ ended qs u → t ≡ u
ended-type e = ap type-or e

-- what comes behind a step ends where the rest does
further-ended : (i : ℕ) (w : Walked) (ps : List ℕ) (t : ℕ) → further i w ≡ ended ps t → (qs : List ℕ) × (w ≡ ended qs t) × (ps ≡ i ∷ qs)
further-ended i (ended qs u) ps t e = (qs, ap (ended qs) (ended-type e), sym (ended-places e))
further-ended i left_fields ps t e = let k : ⊥ = cc e in absurd k
further-ended i met_unknown ps t e = let k : ⊥ = cc e in absurd k

got-in : {X : Type 0} (xs : List X) (i : ℕ) (x : X) → slice_get xs i ≡ Some x → IsIn x xs
got-in [] i x e = none-not_some e
got-in (y ∷ xs) zero x e = inl (sym (some-injective e))
got-in (y ∷ xs) (suc i) x e = inr (got-in xs i x e)

got-within : {X : Type 0} (xs : List X) (i : ℕ) (x : X) → slice_get xs i ≡ Some x → i < length xs
got-within [] i x e = none-not_some e
got-within (y ∷ xs) zero x e = omega arith
got-within (y ∷ xs) (suc i) x e = omega (arith, got-within xs i x e)

-- a field's type is named, and its place is one of a part
field-named : (s : types.Shape) (i u : ℕ) → field_type s i ≡ Some u → IsIn u (named_types s) × i < part_count s
field-named (types.fields ts) i u e = (got-in ts i u e, got-within ts i u e)
field-named s i u e = none-not_some e

counted-cases : (s : types.Shape) (c : ℕ) → c < component_count s → (ts : List ℕ) × (s ≡ types.cases ts) × c < length ts
counted-cases (types.cases ts) c l = (ts, refl, l)
counted-cases s c l = absurd (omega (arith, l))

module _ (o : NamedTable) (full : TypeTable) (sound : IsSound o full) where
  -- ---- paths

  -- a step to a field: the shape there, the field's type, and the rest of the path
  abbrev Step : ℕ → Letters → List Letters → Walked → Type 0
  Step t name p w = (s : types.Shape) × (u : ℕ) × HasShape o.shapes t s × (field_type s (place_of (parts_of o t) name) ≡ Some u) × (further (place_of (parts_of o t) name) (walk o u p) ≡ w)

  steps-to : (t : ℕ) (name : Letters) (p : List Letters) (w : Walked) → IsType o.shapes t → walk o t (name ∷ p) ≡ w → (w ≡ left_fields → ⊥) → Step t name p w
  steps-to t name p w known e stays =
      let there = shape-of o.shapes t known in
      by there.0 there.1 (field_type there.0 (place_of (parts_of o t) name)) refl (sym (ap (map_or met_unknown (λ s. map_or left_fields (λ u. further (place_of (parts_of o t) name) (walk o u p)) (field_type s (place_of (parts_of o t) name)))) there.1) ∙ e)
    where
      by : (s : types.Shape) → HasShape o.shapes t s → (f : Option ℕ) → field_type s (place_of (parts_of o t) name) ≡ f → map_or left_fields (λ u. further (place_of (parts_of o t) name) (walk o u p)) (field_type s (place_of (parts_of o t) name)) ≡ w → Step t name p w
      by s h None f e' = absurd (stays (sym (sym (ap (map_or left_fields (λ u. further (place_of (parts_of o t) name) (walk o u p))) f) ∙ e')))
      by s h (Some u) f e' = (s, u, h, f, sym (ap (map_or left_fields (λ u'. further (place_of (parts_of o t) name) (walk o u' p))) f) ∙ e')

  next-known : (t u : ℕ) (s : types.Shape) (i : ℕ) → HasShape o.shapes t s → field_type s i ≡ Some u → IsType o.shapes u
  next-known t u s i h e = sound.known t s h u (field-named s i u e).0

  walk-ends : (t : ℕ) (p : List Letters) (ps : List ℕ) (u : ℕ) → IsType o.shapes t → walk o t p ≡ ended ps u → (field_below o.shapes (Some t) ps ≡ Some u) × IsType o.shapes u
  walk-ends t [] ps u known e =
      let places : [] ≡ ps = ended-places e in
      let end : t ≡ u = ended-type e in
      (ap (field_below o.shapes (Some t)) (sym places) ∙ ap Some end, subst (IsType o.shapes) end known)
  walk-ends t (name ∷ p) ps u known e =
      let step = steps-to t name p (ended ps u) known e (λ k. cc k) in
      let rest = further-ended _ (walk o step.1 p) ps u step.4 in
      let again = walk-ends step.1 p rest.0 u (next-known t step.1 step.0 _ step.2 step.3) rest.1 in
      (ap (field_below o.shapes (Some t)) rest.2 ∙ (ap (λ s. field_below o.shapes (option_and_then (λ s'. field_type s' (place_of (parts_of o t) name)) s) rest.0) step.2 ∙ (ap (λ f. field_below o.shapes f rest.0) step.3 ∙ again.0)), again.1)

  -- a path of names that lead to fields is one
  one-walk : (t : ℕ) (p q : List Letters) (ps : List ℕ) (u v : ℕ) → IsType o.shapes t → walk o t p ≡ ended ps u → walk o t q ≡ ended ps v → p ≡ q
  one-walk t [] [] ps u v known e f = refl
  one-walk t [] (name ∷ q) ps u v known e f =
      let step = steps-to t name q (ended ps v) known f (λ k. cc k) in
      let rest = further-ended _ (walk o step.1 q) ps v step.4 in
      cons-not_nil _ _ (sym rest.2 ∙ sym (ended-places e))
  one-walk t (name ∷ p) [] ps u v known e f =
      let step = steps-to t name p (ended ps u) known e (λ k. cc k) in
      let rest = further-ended _ (walk o step.1 p) ps u step.4 in
      cons-not_nil _ _ (sym rest.2 ∙ sym (ended-places f))
  one-walk t (name ∷ p) (other ∷ q) ps u v known e f =
      let step = steps-to t name p (ended ps u) known e (λ k. cc k) in
      let rest = further-ended _ (walk o step.1 p) ps u step.4 in
      let step' = steps-to t other q (ended ps v) known f (λ k. cc k) in
      let rest' = further-ended _ (walk o step'.1 q) ps v step'.4 in
      let place = cons-head (sym rest.2 ∙ rest'.2) in
      let within = (field-named step.0 _ step.1 step.3).1 in
      let same = one-place (parts_of o t) name other place (omega (arith, within, part-names o t step.0 sound.part_each step.2)) in
      let next : step.1 ≡ step'.1 = some-injective (sym step.3 ∙ (ap (λ s. field_type s (place_of (parts_of o t) name)) (some-injective (sym step.2 ∙ step'.2)) ∙ (ap (field_type step'.0) place ∙ step'.3))) in
      let tail : rest'.0 ≡ rest.0 = cons-tail (sym rest'.2 ∙ rest.2) in
      let again = one-walk step.1 p q rest.0 u v (next-known t step.1 step.0 _ step.2 step.3) rest.1 (subst (λ w. walk o w q ≡ ended rest.0 v) (sym next) (rest'.1 ∙ ap (λ qs. ended qs v) tail)) in
      ap (λ x. x ∷ p) same ∙ ap (other ∷◌) again

  -- ---- facts of a message

  module _ (message : ℕ) (known : IsType o.shapes message) where
    -- a path that ends is one of fields
    field-path : (p : List Letters) (ps : List ℕ) (t : ℕ) → walk_fields o message p ≡ ended ps t → IsFieldPath full message (0 ∷ ps) t
    field-path [] ps t e = let k : ⊥ = cc e in absurd k
    field-path (name ∷ p) ps t e =
        let step = steps-to message name p (ended ps t) known e (λ k. cc k) in
        let rest = further-ended _ (walk o step.1 p) ps t step.4 in
        let leads = (walk-ends message (name ∷ p) ps t known e).0 in
        let leads_full : field_below full (Some message) ps ≡ Some t = sym (below-bare full (Some message) ps) ∙ (ap (λ ss. field_below ss (Some message) ps) (sym sound.same) ∙ leads) in
        subst (λ qs. IsFieldPath full message (0 ∷ qs) t) (sym rest.2) (refl, subst (λ qs. field_below full (Some message) qs ≡ Some t) rest.2 leads_full)

    -- a path of fields that ends does so as a path
    fields-end : (p : List Letters) (ps : List ℕ) (t : ℕ) → walk_fields o message p ≡ ended ps t → walk o message p ≡ ended ps t
    fields-end [] ps t e = let k : ⊥ = cc e in absurd k
    fields-end (name ∷ p) ps t e = e

    full-same : (t : ℕ) (p : List ℕ) → full_facts o.shapes t p ≡ full_facts full t p
    full-same t p = ap (map (λ q. init (p ++ q))) (ap (λ ss. part_paths full_parts ss t) sound.same ∙ steps-bare full full_parts bare-full greatest_depth t)

    module _ (facts : List DeclaredFact) (right : (f : DeclaredFact) → IsIn f facts → IsBadFact o message f → ⊥) where
      abbrev listed : List Fact
      listed = flat_map (fact_meant o message) facts

      abbrev declared : List Fact
      declared = without_repeats listed

      listed-from : (f : Fact) → IsIn f declared → (d : DeclaredFact) × IsIn d facts × IsIn f (fact_meant o message d)
      listed-from f h = in-flat_map_from (fact_meant o message) f facts (once-IsIn f listed h)

      of-one : (d : DeclaredFact) → IsIn d facts → (f : Fact) → IsIn f (fact_meant o message d) → IsOfField full message f ⊎ IsOfFullField full message declared f
      of-one (InitFact p) i f h = by (walk_fields o message p) refl h
        where
          by : (w : Walked) → walk_fields o message p ≡ w → IsIn f (at_end w (λ places t. init (0 ∷ places) ∷ [])) → IsOfField full message f ⊎ IsOfFullField full message declared f
          by (ended ps t) e (inl same) = inl (subst (IsOfField full message) (sym same) (t, field-path p ps t e))
          by (ended ps t) e (inr k) = absurd k
          by left_fields e k = absurd k
          by met_unknown e k = absurd k
      of-one (FullFact p) i f h = by (walk_fields o message p) refl h
        where
          by : (w : Walked) → walk_fields o message p ≡ w → IsIn f (at_end w (λ places t. full_facts o.shapes t (0 ∷ places))) → IsOfField full message f ⊎ IsOfFullField full message declared f
          by (ended ps t) e k =
              let same = full-same t (0 ∷ ps) in
              let meant : fact_meant o message (FullFact p) ≡ full_facts full t (0 ∷ ps) = ap (λ w. at_end w (λ places t. full_facts o.shapes t (0 ∷ places))) e ∙ same in
              inr ((0 ∷ ps), t, field-path p ps t e, subst (IsIn f) same k, λ g j. IsIn-once g listed (in-flat_map (fact_meant o message) (FullFact p) g facts i (subst (IsIn g) (sym meant) j)))
          by left_fields e k = absurd k
          by met_unknown e k = absurd k
      of-one (CaseFact p c) i f h = by (walk_fields o message p) refl h
        where
          at : (ps : List ℕ) (t : ℕ) → walk_fields o message p ≡ ended ps t → f ≡ case (0 ∷ ps) (place_of (parts_of o t) c) → IsOfField full message f ⊎ IsOfFullField full message declared f
          at ps t e same =
              let whole = fields-end p ps t e in
              let there = shape-of o.shapes t (walk-ends message p ps t known whole).1 in
              let within = below (place_of (parts_of o t) c) (component_count there.0) (λ past. right (CaseFact p c) i (inr (ps, t, there.0, whole, there.1, past))) in
              let variant = counted-cases there.0 _ within in
              let shape = of-bare full t there.0 (sym (ap (λ ss. slice_get ss t) sound.same) ∙ there.1) in
              let is_cases : bare shape.0 ≡ types.cases variant.0 = shape.2 ∙ variant.1 in
              inl (subst (IsOfField full message) (sym same) (t, variant.0, field-path p ps t e, shape.1 ∙ ap Some (cases-bare shape.0 variant.0 is_cases), variant.2))

          by : (w : Walked) → walk_fields o message p ≡ w → IsIn f (at_end w (λ places t. case (0 ∷ places) (place_of (parts_of o t) c) ∷ [])) → IsOfField full message f ⊎ IsOfFullField full message declared f
          by (ended ps t) e (inl same) = at ps t e same
          by (ended ps t) e (inr k) = absurd k
          by left_fields e k = absurd k
          by met_unknown e k = absurd k

      pub of-fields : (f : Fact) → IsIn f declared → IsOfField full message f ⊎ IsOfFullField full message declared f
      of-fields f h = let from = listed-from f h in of-one from.0 from.1 f from.2

      -- where a case comes from
      abbrev FromCase : List ℕ → ℕ → DeclaredFact → Type 0
      FromCase p c d = (q : List Letters) × (w : Letters) × (ps : List ℕ) × (t : ℕ) × (d ≡ CaseFact q w) × (walk o message q ≡ ended ps t) × (p ≡ 0 ∷ ps) × (c ≡ place_of (parts_of o t) w)

      case-from : (d : DeclaredFact) → IsIn d facts → (p : List ℕ) (c : ℕ) → IsIn (case p c) (fact_meant o message d) → FromCase p c d
      case-from (InitFact q) i p c h = by (walk_fields o message q) h
        where
          by : (w : Walked) → IsIn (case p c) (at_end w (λ places t. init (0 ∷ places) ∷ [])) → FromCase p c (InitFact q)
          by (ended ps t) (inl e) = let k : ⊥ = cc e in absurd k
          by (ended ps t) (inr k) = absurd k
          by left_fields k = absurd k
          by met_unknown k = absurd k
      case-from (FullFact q) i p c h = by (walk_fields o message q) h
        where
          by : (w : Walked) → IsIn (case p c) (at_end w (λ places t. full_facts o.shapes t (0 ∷ places))) → FromCase p c (FullFact q)
          by (ended ps t) k = let from = in-map_from (λ r. init ((0 ∷ ps) ++ r)) (case p c) (part_paths full_parts o.shapes t) k in let never : ⊥ = cc from.2 in absurd never
          by left_fields k = absurd k
          by met_unknown k = absurd k
      case-from (CaseFact q w) i p c h = by (walk_fields o message q) refl h
        where
          by : (r : Walked) → walk_fields o message q ≡ r → IsIn (case p c) (at_end r (λ places t. case (0 ∷ places) (place_of (parts_of o t) w) ∷ [])) → FromCase p c (CaseFact q w)
          by (ended ps t) e (inl same) = (q, w, ps, t, refl, fields-end q ps t e, (let path : p ≡ 0 ∷ ps = cc same in path), (let component : c ≡ place_of (parts_of o t) w = cc same in component))
          by (ended ps t) e (inr k) = absurd k
          by left_fields e k = absurd k
          by met_unknown e k = absurd k

      pub one-case : (HasTwoCases o message facts → ⊥) → (p : List ℕ) (c d : ℕ) → IsIn (case p c) declared → IsIn (case p d) declared → c ≡ d
      one-case apart p c d h k =
          let from = listed-from (case p c) h in
          let one = case-from from.0 from.1 p c from.2 in
          let from' = listed-from (case p d) k in
          let two = case-from from'.0 from'.1 p d from'.2 in
          let places : two.2 ≡ one.2 = cons-tail (sym two.6 ∙ one.6) in
          let two_ended : walk o message two.0 ≡ ended one.2 two.3 = two.5 ∙ ap (λ ps. ended ps two.3) places in
          let path : one.0 ≡ two.0 = one-walk message one.0 two.0 one.2 one.3 two.3 known one.5 two_ended in
          let end : one.3 ≡ two.3 = ended-type (sym one.5 ∙ (ap (walk o message) path ∙ two_ended)) in
          let first : IsIn (CaseFact one.0 one.1) facts = subst (λ f. IsIn f facts) one.4 from.1 in
          let second : IsIn (CaseFact one.0 two.1) facts = subst (λ f. IsIn f facts) (two.4 ∙ ap (λ q. CaseFact q two.1) (sym path)) from'.1 in
          let component = not-false (bytes_eq one.1 two.1) (λ differ. apart (one.0, one.1, two.1, first, second, (λ e. let true_too = (bytes_eq-Decides one.1 two.1).1 e in let k' : ⊥ = cc (true_too, differ) in k'), one.2, one.3, one.5, (walk-ends message one.0 one.2 one.3 known one.5).1)) in
          one.7 ∙ (ap (λ w. place_of (parts_of o one.3) w) ((bytes_eq-Decides one.1 two.1).0 component) ∙ (ap (λ t. place_of (parts_of o t) two.1) end ∙ sym two.7))
