-- Names declared before, and faults at places one by one.
use Rattle.std.proofs.Common.{◌≡◌, ◌↔◌, ℕ, zero, suc, ◌+◌, ◌<◌, ◌≤◌, List, [], ◌∷◌, ◌++◌, map, length, take, drop, get_or, drop-cons, Bool, true, false, ◌||◌, ◌&&◌, not, is_some, cond, ltb, Option, Some, None, refl, sym, ap, ◌∙◌, arith, append_assoc, true≢false}
use Rattle.std.specs.Str.{bytes_eq}
use Rattle.std.proofs.lemmas.Bool.{ltb_from_iff}
use Rattle.std.proofs.lemmas.List.{length-map}
use Rattle.herm_base.specs.declared.word.Span.{Span}
use Rattle.herm_meaning.specs.Names.{NamedTable}
use Rattle.herm_syntax.specs.declared.definitions.Field.{Field}
use Rattle.herm_syntax.specs.View.{name_view, field_view}
use Rattle.herm_model.specs.Lists.{any_pass}
use Rattle.herm_syntax.specs.Trees.{Letters}
use Rattle.herm_alphabet.specs.KeywordLetters.{keyword_of}
use Rattle.herm_naming.specs.Numbers.{place_of, type_number}
use Rattle.herm_naming.specs.Fits.{may_be}
use Rattle.herm_naming.specs.UnknownNames.{is_type}
use Rattle.herm_naming.specs.StatementFaults.{Code, is_among, first_code, is_inport_shape, declaration_code, variable_codes}
use Rattle.herm_naming.specs.RefusalsOfNames.{at_places}

among-iff : (name : Letters) (ns : List Letters) (i : ℕ) → i ≤ length ns → (is_among name (take i ns) ≡ true) ↔ (place_of name ns < i)
among-iff name [] zero w = ((λ e. absurd (true≢false (sym e))), (λ h. absurd (omega (arith, h))))
among-iff name [] (suc i) w = absurd (omega (arith, w))
among-iff name (n ∷ ns) zero w = ((λ e. absurd (true≢false (sym e))), (λ h. absurd (omega (arith, h))))
among-iff name (n ∷ ns) (suc i) w = by (bytes_eq name n) (among-iff name ns i (omega (arith, w)))
  where
    by : (b : Bool) → (is_among name (take i ns) ≡ true) ↔ (place_of name ns < i) → ((b || is_among name (take i ns)) ≡ true) ↔ (cond b 0 (suc (place_of name ns)) < suc i)
    by true h = ((λ e. omega arith), (λ k. refl))
    by false h = ((λ e. let l = h.0 e in omega (arith, l)), (λ k. h.1 (omega (arith, k))))

pub among_first : (name : Letters) (ns : List Letters) (i : ℕ) → i ≤ length ns → ltb (place_of name ns) i ≡ is_among name (take i ns)
among_first name ns i w = sym (ltb_from_iff (among-iff name ns i w))

module _ {P : Type 0} where
  places_cons : (p : P) (c : Option Code) (ps : List P) (cs : List (Option Code)) → at_places (p ∷ ps) (c ∷ cs) ≡ at_places (p ∷ []) (c ∷ []) ++ at_places ps cs
  places_cons p None ps cs = refl
  places_cons p (Some c) ps cs = refl

  pub place_next : (base after : List (Code × P)) (p : P) (c : Option Code) (ps : List P) (cs : List (Option Code)) → after ≡ base ++ at_places (p ∷ []) (c ∷ []) → after ++ at_places ps cs ≡ base ++ at_places (p ∷ ps) (c ∷ cs)
  place_next base after p c ps cs e = ap (λ xs. xs ++ at_places ps cs) e ∙ (append_assoc base (at_places (p ∷ []) (c ∷ [])) (at_places ps cs) ∙ ap (λ xs. base ++ xs) (sym (places_cons p c ps cs)))

  pub places_append : (ps qs : List P) (cs ds : List (Option Code)) → length ps ≡ length cs → at_places (ps ++ qs) (cs ++ ds) ≡ at_places ps cs ++ at_places qs ds
  places_append [] qs [] ds e = refl
  places_append [] qs (c ∷ cs) ds e = absurd (omega (arith, e))
  places_append (p ∷ ps) qs [] ds e = absurd (omega (arith, e))
  places_append (p ∷ ps) qs (None ∷ cs) ds e = places_append ps qs cs ds (omega (arith, e))
  places_append (p ∷ ps) qs (Some c ∷ cs) ds e = ap (λ xs. (c, p) ∷ xs) (places_append ps qs cs ds (omega (arith, e)))

take-next : (xs : List Letters) (i : ℕ) (d : Letters) → i < length xs → take (suc i) xs ≡ take i xs ++ (get_or xs i d ∷ [])
take-next [] i d h = absurd (omega (arith, h))
take-next (x ∷ xs) zero d h = refl
take-next (x ∷ xs) (suc i) d h = ap (x ∷◌) (take-next xs i d (omega (arith, h)))

name-at : (vars : List Field) (i : ℕ) (d : Field) → i < length vars → get_or (map (λ (v : Field). name_view v.name) vars) i (name_view d.name) ≡ name_view (get_or vars i d).name
name-at [] i d h = absurd (omega (arith, h))
name-at (v ∷ vars) zero d h = refl
name-at (v ∷ vars) (suc i) d h = name-at vars i d (omega (arith, h))

-- one variable more
module _ (known : NamedTable) (m : ℕ) where
  abbrev at_name : Field → ℕ × Span
  at_name v = (m, v.name.span)

  left : List Letters → List Field → List (Code × (ℕ × Span))
  left before vars = at_places (map at_name vars) (variable_codes known before (map field_view vars))

  pub variables_next : (port : Letters) (vars : List Field) (names : List Letters) (i : ℕ) (d : Field) (c : Option Code) (base after : List (Code × (ℕ × Span))) → i < length vars → d ≡ get_or vars i d → names ≡ port ∷ map (λ v. name_view v.name) vars
      → c ≡ declaration_code known false (take (i + 1) names) (field_view d) → after ≡ base ++ at_places ((m, d.name.span) ∷ []) (c ∷ [])
      → after ++ at_places (map (λ v. (m, v.name.span)) (drop (i + 1) vars)) (variable_codes known (take ((i + 1) + 1) names) (map field_view (drop (i + 1) vars)))
      ≡ base ++ at_places (map (λ v. (m, v.name.span)) (drop i vars)) (variable_codes known (take (i + 1) names) (map field_view (drop i vars)))
  unfolding left
  variables_next port vars names i d c base after h e f g k =
      let named : take (suc i) (map (λ (v : Field). name_view v.name) vars) ≡ take i (map (λ (v : Field). name_view v.name) vars) ++ (name_view d.name ∷ []) =
      take-next (map (λ (v : Field). name_view v.name) vars) i (name_view d.name) (let l = length-map vars (λ (v : Field). name_view v.name) in omega (arith, h, l)) ∙ ap (λ n. take i (map (λ (v : Field). name_view v.name) vars) ++ (n ∷ [])) (name-at vars i d h ∙ ap (λ v. name_view v.name) (sym e)) in
      let before : take ((i + 1) + 1) names ≡ take (i + 1) names ++ (name_view d.name ∷ []) =
      ap (take ((i + 1) + 1)) f ∙ (ap (λ k. take k (port ∷ map (λ (v : Field). name_view v.name) vars)) (let x : (i + 1) + 1 ≡ suc (suc i) = omega arith in x) ∙ (ap (port ∷◌) named ∙ sym (ap (λ xs. xs ++ (name_view d.name ∷ [])) (ap (take (i + 1)) f ∙ ap (λ k. take k (port ∷ map (λ (v : Field). name_view v.name) vars)) (let x : i + 1 ≡ suc i = omega arith in x))))) in
      let next : drop i vars ≡ d ∷ drop (i + 1) vars = drop-cons vars i d h ∙ (ap (λ v. v ∷ drop (suc i) vars) (sym e) ∙ ap (λ k. d ∷ drop k vars) (let x : suc i ≡ i + 1 = omega arith in x)) in
      ap (λ xs. after ++ left xs (drop (i + 1) vars)) before
      ∙ (place_next base after (m, d.name.span) c (map at_name (drop (i + 1) vars)) (variable_codes known (take (i + 1) names ++ (name_view d.name ∷ [])) (map field_view (drop (i + 1) vars))) k
      ∙ (ap (λ c. base ++ at_places ((m, d.name.span) ∷ map at_name (drop (i + 1) vars)) (c ∷ variable_codes known (take (i + 1) names ++ (name_view d.name ∷ [])) (map field_view (drop (i + 1) vars)))) g
      ∙ ap (λ vs. base ++ left (take (i + 1) names) vs) (sym next)))

-- the code at a variable, where it was declared before or not
abbrev pub declared_by : NamedTable → Letters × Letters → Bool → Option Code
declared_by known d b = first_code (not (is_type known.shapes (type_number known d.1))) b (is_some (keyword_of d.0) || (false && not (may_be known.shapes is_inport_shape (Some (type_number known d.1))))) false
