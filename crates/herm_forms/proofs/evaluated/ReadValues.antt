-- Where the facts are told by which there is a value at a path, there is one, also behind components.
use Rattle.std.proofs.Common.{◌≡◌, inl, inr, ℕ, zero, suc, ◌+◌, arith, List, [], ◌∷◌, ◌++◌, append_assoc, Bool, true, false, cond, ◌||◌, ◌&&◌, Option, Some, None, option_map, is_some, refl, sym, ap, ◌∙◌, subst, true≢false, zero-add}
use Rattle.std.proofs.lemmas.List.{append-nil}
use Rattle.std.proofs.lemmas.Bool.{eqb-true}
use Rattle.std.specs.Prelude.{slice_get, IsTrue}
use Rattle.herm_model.specs.Lists.{IsIn, map_or, list_of}
use Rattle.herm_model.specs.Paths.{Path, Fact, init, case}
use Rattle.herm_model.specs.Types.{Mode, by_in, by_inout, by_out, Parameter, TypeTable, Shape, fields, cases, callmessage, part_type, part_of, type_below, type_at, is_cases, is_variant, filled, if_filled, full_parts, is_within_depth, greatest_depth}
use Rattle.herm_model.specs.Facts.{facts_from, facts_to}
use Rattle.herm_model.specs.TypedExpressions.{is_out_mode, is_out_parameter, is_out_part, enters_out, passes_out}
use Rattle.herm_model.specs.Values.{a_scalar, a_record, a_variant, a_table, a_polymorph, a_callmessage, an_inport, an_outport, Cell, cell, Parts, no_parts, part, part_at, inside, readable_of, behind_gaps, cell_at, read_at, has_value}
use Rattle.herm_model.specs.FactsOfValues.{is_component, satisfies}
use Rattle.herm_model.specs.Typed.{Degree, IsOf, whole, partly, HasType, HaveTypes, IsFull}
use Rattle.herm_model.proofs.Lists.{in-append_right, not_true}
use Rattle.herm_model.proofs.FactTests.{at-numbered, got-IsIn}
use Rattle.herm_model.proofs.Steps.{within-known}
use Rattle.herm_model.proofs.Options.{none-not_some, some-injective}
use Rattle.herm_model.proofs.FullFacts.{leads-full}
use Rattle.herm_model.proofs.Typing.{full-typed}
use Rattle.herm_forms.proofs.TypedReading.{typed-part}
use Rattle.herm_forms.proofs.forms.ReadTypes.{behind-there, variant-component, readable-part}
use Rattle.herm_forms.proofs.forms.ToldFacts.{there-read, read-on}
use Rattle.herm_forms.proofs.evaluated.CopiedValues.{part-deep}
use Rattle.herm_model.proofs.TypesBelow.{type_below-none}
use Rattle.herm_model.proofs.TypedPaths.{or-falses}

-- a parameter of another mode is filled
first-filled : (m : Mode) (k u : ℕ) (xs : List (ℕ × ℕ)) → is_out_mode m ≡ false → IsIn (k, u) (if_filled m (k, u) xs)
first-filled by_in k u xs h = inl refl
first-filled by_inout k u xs h = inl refl
first-filled by_out k u xs h = absurd (true≢false h)

later-filled : (m : Mode) (y : ℕ × ℕ) (x : ℕ × ℕ) (xs : List (ℕ × ℕ)) → IsIn x xs → IsIn x (if_filled m y xs)
later-filled by_in y x xs h = inr h
later-filled by_inout y x xs h = inr h
later-filled by_out y x xs h = h

filled-at : (k j u : ℕ) (ps : List Parameter) → option_map (λ (p : Parameter). p.content) (slice_get ps j) ≡ Some u → map_or false (λ (p : Parameter). is_out_mode p.mode) (slice_get ps j) ≡ false → IsIn (k + j, u) (filled k ps)
filled-at k j u [] e h = none-not_some e
filled-at k zero u (p ∷ ps) e h =
    let z : k ≡ k + 0 = omega arith in
    subst (λ m. IsIn (m, u) (filled k (p ∷ ps))) z (subst (λ u. IsIn (k, u) (if_filled p.mode (k, p.content) (filled (suc k) ps))) (some-injective e) (first-filled p.mode k p.content (filled (suc k) ps) h))
filled-at k (suc j) u (p ∷ ps) e h =
    let z : suc k + j ≡ k + suc j = omega arith in
    subst (λ m. IsIn (m, u) (filled k (p ∷ ps))) z (later-filled p.mode (k, p.content) (suc k + j, u) (filled (suc k) ps) (filled-at (suc k) j u ps e h))

module _ (table : TypeTable) where
  -- the step to a part that is no component and no `out` parameter is one that full asks for
  part-asked : (s : Shape) (j u : ℕ) → part_type s j ≡ Some u → is_cases s ≡ false → is_out_parameter s j ≡ false → IsIn (j, u) (full_parts s)
  part-asked (fields ts) j u e v h = at-numbered ts j u e
  part-asked (callmessage ps raises) j u e v h = subst (λ m. IsIn (m, u) (filled 0 ps)) (zero-add j) (filled-at 0 j u ps e h)
  part-asked (cases ts) j u e v h = absurd (true≢false v)
  part-asked s j u e v h = none-not_some e

  asked : (t j u : ℕ) → part_of table (Some t) j ≡ Some u → is_variant table (Some t) ≡ false → is_out_part table (Some t) j ≡ false → IsIn (j, u) (list_of full_parts (slice_get table t))
  asked t j u e v h = by (slice_get table t) e v h
    where
      by : (o : Option Shape) → map_or None (λ s. part_type s j) o ≡ Some u → map_or false (λ s. is_cases s) o ≡ false → map_or false (λ s. is_out_parameter s j) o ≡ false → IsIn (j, u) (list_of full_parts o)
      by None e v h = none-not_some e
      by (Some s) e v h = part-asked s j u e v h

  module _ {N : Type 0} where
    -- such a part of a full value is there
    part-there : (t j u : ℕ) (c : Cell N) → IsFull table t c → IsTrue (is_within_depth greatest_depth table u) → part_of table (Some t) j ≡ Some u → is_variant table (Some t) ≡ false → is_out_part table (Some t) j ≡ false
        → (d : Cell N) × (part_at j (readable_of (Some c)) ≡ Some d)
    part-there t j u c full' deep e v h = by (part_at j (inside (Some c))) refl (leads-full table (j ∷ []) t c full' (u, asked t j u e v h, within-known table greatest_depth u deep))
      where
        by : (o : Option (Cell N)) → part_at j (inside (Some c)) ≡ o → IsTrue (is_some o) → (d : Cell N) × (part_at j (readable_of (Some c)) ≡ Some d)
        by None at h = not_true h
        by (Some d) at h = (d, there-read N (j ∷ []) 0 (part c no_parts) d at)

    -- a component that is told is there
    component-there : (g : Degree) (t j : ℕ) (c : Cell N) → IsOf g table t c → is_component (Some c) j ≡ true → (d : Cell N) × (part_at j (readable_of (Some c)) ≡ Some d)
    component-there g t j (cell n (a_variant m) qs) typed is =
        let x = variant-component N table g t m n qs typed in
        let same : m ≡ j = eqb-true m j is in
        (x.content, ap (λ qs. part_at j (behind_gaps m qs)) x.alone ∙ ap (λ m. part_at j (behind_gaps m (part x.content no_parts))) same ∙ behind-there j x.content)
    component-there g t j (cell n (a_scalar x) qs) typed is = absurd (true≢false (sym is))
    component-there g t j (cell n a_record qs) typed is = absurd (true≢false (sym is))
    component-there g t j (cell n a_table qs) typed is = absurd (true≢false (sym is))
    component-there g t j (cell n (a_polymorph x) qs) typed is = absurd (true≢false (sym is))
    component-there g t j (cell n (a_callmessage x y) qs) typed is = absurd (true≢false (sym is))
    component-there g t j (cell n (an_inport x) qs) typed is = absurd (true≢false (sym is))
    component-there g t j (cell n (an_outport x) qs) typed is = absurd (true≢false (sym is))

    -- the part at a step of the way, full where that is behind a component
    record Step (t j v : ℕ) (c : Cell N) (behind : Bool) : Type 0 where
      pub part' : Cell N
      pub there : part_at j (readable_of (Some c)) ≡ Some part'
      pub typed : HasType table v part'
      pub full' : behind ≡ true → IsFull table v part'

    whole-step : (t j v : ℕ) (c d : Cell N) (behind : Bool) → part_of table (Some t) j ≡ Some v → part_at j (readable_of (Some c)) ≡ Some d → (type : ℕ) → part_of table (Some t) j ≡ Some type → IsFull table type d → Step t j v c behind
    whole-step t j v c d behind e there type at h =
        let whole' : IsFull table v d = subst (λ v. IsFull table v d) (some-injective (sym at ∙ e)) h in
        record { part' = d; there = there; typed = full-typed table v d whole'; full' = λ b. whole' }

  first-fact : (p : List ℕ) (at : Path) (t : Option ℕ) (w : Bool) → w ≡ false → IsIn (init at) (facts_from table at t w p)
  first-fact [] at t true e = absurd (true≢false e)
  first-fact [] at t false e = inl refl
  first-fact (k ∷ p) at t true e = absurd (true≢false e)
  first-fact (k ∷ p) at t false e = inl refl

  module _ (N : Type 0) (ps : Parts N) where
    abbrev Tells : List Fact → Type 0
    Tells fs = (f : Fact) → IsIn f fs → IsTrue (satisfies ps f)

    cell-there : (i : ℕ) (q : List ℕ) → IsTrue (has_value ps (i ∷ q)) → (d : Cell N) × (read_at (i ∷ q) ps ≡ Some d)
    cell-there i q h = by (cell_at (i ∷ q) ps) refl h
      where
        by : (o : Option (Cell N)) → cell_at (i ∷ q) ps ≡ o → IsTrue (is_some o) → (d : Cell N) × (read_at (i ∷ q) ps ≡ Some d)
        by None at h = not_true h
        by (Some d) at h = (d, there-read N q i ps d at)

    -- at a path where this is read, with the type and the facts of a step on
    module _ (i : ℕ) (q : List ℕ) (t j v : ℕ) (c : Cell N) (at : read_at (i ∷ q) ps ≡ Some c) (typed : HasType table t c) (next : part_of table (Some t) j ≡ Some v) (deep : IsTrue (is_within_depth greatest_depth table v)) where
      direct-step : (d : Cell N) → read_at ((i ∷ q) ++ j ∷ []) ps ≡ Some d → Step t j v c false
      direct-step d h =
          let there : part_at j (readable_of (Some c)) ≡ Some d = ap (λ o. part_at j (readable_of o)) (sym at) ∙ sym (read-on N q i j [] ps) ∙ h in
          let x = readable-part N table partly t j c d typed there in
          record { part' = d; there = there; typed = subst (λ v. HasType table v d) (some-injective (sym x.there ∙ next)) x.typed; full' = λ b. absurd (true≢false (sym b)) }

      step-on : (w b : Bool) → is_variant table (Some t) ≡ b → (w ≡ true → IsFull table t c) → w && is_out_part table (Some t) j ≡ false → (b ≡ true → IsTrue (satisfies ps (case (i ∷ q) j))) → (w || b ≡ false → IsTrue (satisfies ps (init ((i ∷ q) ++ j ∷ [])))) → Step t j v c (w || b)
      step-on w true is full' out known here =
          let d = component-there partly t j c typed (ap (λ o. is_component o j) (sym at) ∙ known refl) in
          let x = readable-part N table partly t j c d.0 typed d.1 in
          whole-step t j v c d.0 (w || true) next d.1 x.type x.there (x.component is).1
      step-on true false is full' out known here =
          let d = part-there t j v c (full' refl) deep next is out in
          let x = readable-part N table whole t j c d.0 (full' refl) d.1 in
          whole-step t j v c d.0 true next d.1 x.type x.there x.typed
      step-on false false is full' out known here = let d = cell-there i (q ++ j ∷ []) (here refl) in direct-step d.0 d.1

    read-way : (p : List ℕ) (i : ℕ) (q : List ℕ) (t u : ℕ) (w : Bool) (c : Cell N) → read_at (i ∷ q) ps ≡ Some c → HasType table t c → (w ≡ true → IsFull table t c) → IsTrue (is_within_depth greatest_depth table t) → type_below table (Some t) p ≡ Some u → enters_out table w (Some t) p ≡ false
        → Tells (facts_from table (i ∷ q) (Some t) w p) → (e : Cell N) × (read_at ((i ∷ q) ++ p) ps ≡ Some e)
    read-way [] i q t u w c at typed full' deep type out told = (c, ap (λ q. read_at (i ∷ q) ps) (append-nil q) ∙ at)
    read-way (j ∷ p) i q t u w c at typed full' deep type out told = by (part_of table (Some t) j) refl type (read-way p)
      where
        b : Bool
        b = is_variant table (Some t)

        later : List Fact
        later = facts_from table ((i ∷ q) ++ j ∷ []) (part_of table (Some t) j) (w || b) p

        case-in : (b : Bool) (more : List Fact) → b ≡ true → IsIn (case (i ∷ q) j) (cond b (case (i ∷ q) j ∷ []) [] ++ more)
        case-in true more e = inl refl
        case-in false more e = absurd (true≢false (sym e))

        told-case : b ≡ true → IsTrue (satisfies ps (case (i ∷ q) j))
        told-case e = told (case (i ∷ q) j) (in-append_right (case (i ∷ q) j) (cond w [] (init (i ∷ q) ∷ [])) (cond b (case (i ∷ q) j ∷ []) [] ++ later) (case-in b later e))

        told-later : Tells later
        told-later f h = told f (in-append_right f (cond w [] (init (i ∷ q) ∷ [])) (cond b (case (i ∷ q) j ∷ []) [] ++ later) (in-append_right f (cond b (case (i ∷ q) j ∷ []) []) later h))

        outs : (w && is_out_part table (Some t) j ≡ false) × (enters_out table (w || b) (part_of table (Some t) j) p ≡ false)
        outs = or-falses (w && is_out_part table (Some t) j) (enters_out table (w || b) (part_of table (Some t) j) p) out

        by : (o : Option ℕ) → part_of table (Some t) j ≡ o → type_below table o p ≡ Some u
            → ((i : ℕ) (q : List ℕ) (t u : ℕ) (w : Bool) (c : Cell N) → read_at (i ∷ q) ps ≡ Some c → HasType table t c → (w ≡ true → IsFull table t c) → IsTrue (is_within_depth greatest_depth table t) → type_below table (Some t) p ≡ Some u → enters_out table w (Some t) p ≡ false
            → Tells (facts_from table (i ∷ q) (Some t) w p) → (e : Cell N) × (read_at ((i ∷ q) ++ p) ps ≡ Some e)) → (e : Cell N) × (read_at ((i ∷ q) ++ j ∷ p) ps ≡ Some e)
        by None next type again = none-not_some (sym (type_below-none table p) ∙ type)
        by (Some v) next type again =
            let deep' = part-deep table greatest_depth t j v deep next in
            let s = step-on i q t j v c at typed next deep' w b refl full' outs.0 told-case (λ e. told-later (init ((i ∷ q) ++ j ∷ [])) (first-fact p ((i ∷ q) ++ j ∷ []) (part_of table (Some t) j) (w || b) e)) in
            let at' : read_at ((i ∷ q) ++ j ∷ []) ps ≡ Some s.part' = read-on N q i j [] ps ∙ ap (λ o. part_at j (readable_of o)) at ∙ s.there in
            let r = again i (q ++ j ∷ []) v u (w || b) s.part' at' s.typed s.full' deep' type (ap (λ o. enters_out table (w || b) o p) (sym next) ∙ outs.1) (subst (λ o. Tells (facts_from table ((i ∷ q) ++ j ∷ []) o (w || b) p)) next told-later) in
            (r.0, ap (λ p. read_at p ps) (sym (append_assoc (i ∷ q) (j ∷ []) p)) ∙ r.1)

    -- so at any path from a variable
    pub read-there : (variables : List ℕ) → ((t : ℕ) → IsIn t variables → IsTrue (is_within_depth greatest_depth table t)) → HaveTypes table variables ps → (i : ℕ) (q : List ℕ) (u : ℕ) → type_at table variables (i ∷ q) ≡ Some u → passes_out table variables (i ∷ q) ≡ false
        → Tells (facts_to table variables (i ∷ q)) → (e : Cell N) × (read_at (i ∷ q) ps ≡ Some e)
    read-there variables deep typed i q u type out told = by (slice_get variables i) refl type
      where
        by : (o : Option ℕ) → slice_get variables i ≡ o → type_below table o q ≡ Some u → (e : Cell N) × (read_at (i ∷ q) ps ≡ Some e)
        by None at type = none-not_some (sym (type_below-none table q) ∙ type)
        by (Some t) at type =
            let d = cell-there i [] (told (init (i ∷ [])) (first-fact q (i ∷ []) (slice_get variables i) false refl)) in
            let x = typed-part N table variables ps i d.0 typed d.1 in
            let typed' : HasType table t d.0 = subst (λ t. HasType table t d.0) (some-injective (sym x.there ∙ at)) x.typed in
            read-way q i [] t u false d.0 d.1 typed' (λ b. absurd (true≢false (sym b))) (deep t (got-IsIn variables i t at)) type (ap (λ o. enters_out table false o q) (sym at) ∙ out) (subst (λ o. Tells (facts_from table (i ∷ []) o false q)) at told)
