-- The refusals of a process, from what is found at its places.
use Rattle.std.proofs.Common.{◌≡◌, ℕ, suc, ◌+◌, ◌<◌, drop, get_or, drop-cons, List, [], ◌∷◌, ◌++◌, map, length, Bool, true, false, not, cond, Option, Some, None, is_some, length-append, IsTrue, refl, sym, ap, ap₂, subst, ◌∙◌, arith, append_assoc, true≢false}
use Rattle.std.proofs.lemmas.List.{length-map}
use Rattle.herm_model.specs.Lists.{all_pass}
use Rattle.herm_model.specs.Types.{TypeTable}
use Rattle.herm_model.specs.Statements.{Process}
use Rattle.herm_model.proofs.Lists.{not_true, cons-not_nil}
use Rattle.herm_syntax.specs.Trees.{Letters, Field}
use Rattle.herm_meaning.specs.Names.{NamedTable}
use Rattle.herm_naming.specs.StatementFaults.{Code, unreachable, variable_codes}
use Rattle.herm_naming.specs.RefusalsOfNames.{Places, at_places, all_places, are_none, RefusesBy}
use Rattle.herm_naming.specs.UnreachedStatements.{MarksUnreached}
use Rattle.herm_base.specs.declared.word.Name.{Name}
use Rattle.herm_syntax.specs.declared.definitions.Field.{Field as Field'}
use Rattle.herm_syntax.specs.View.{name_view, field_view}
use Rattle.herm_numbers.specs.Faults.{Place, name_fault_view, found_code_view, codes_found, spans_found}
use Rattle.herm_numbers.specs.declared.fault.Judged.{Judged}
use Rattle.herm_numbers.specs.declared.known.Known.{Known}
use Rattle.herm_numbers.specs.declared.fault.NameFault.{NameFault}
use Rattle.herm_numbers.proofs.Declared.{place_next, places_append}
use Rattle.herm_resolve.specs.Judged.{AddsRefusals, found_codes, found_places}

pub variable_count : (known : NamedTable) (before : List Letters) (ds : List Field) → length (variable_codes known before ds) ≡ length ds
variable_count known before [] = refl
variable_count known before (d ∷ ds) = let e = variable_count known (before ++ (d.0 ∷ [])) ds in omega (arith, e)

abbrev Refusals : Type 0
Refusals = List (Code × Place)

-- what is added in three steps
pub three_parts : (old first second new : Refusals) (n p : Place) (c d : Option Code) (vs ss : List Place) (us cs : List (Option Code)) → length vs ≡ length us
    → first ≡ old ++ at_places (n ∷ p ∷ []) (c ∷ d ∷ []) → second ≡ first ++ at_places vs us → new ≡ second ++ at_places ss cs
    → new ≡ old ++ at_places (n ∷ (p ∷ vs) ++ ss) (c ∷ d ∷ (us ++ cs))
three_parts old first second new n p c d vs ss us cs l e f h =
    h ∙ (ap (λ xs. xs ++ at_places ss cs) (f ∙ ap (λ xs. xs ++ at_places vs us) e)
    ∙ (append_assoc (old ++ at_places (n ∷ p ∷ []) (c ∷ d ∷ [])) (at_places vs us) (at_places ss cs)
    ∙ (append_assoc old (at_places (n ∷ p ∷ []) (c ∷ d ∷ [])) (at_places vs us ++ at_places ss cs)
    ∙ (ap (λ xs. old ++ (at_places (n ∷ p ∷ []) (c ∷ d ∷ []) ++ xs)) (sym (places_append vs ss us cs l))
    ∙ ap (λ xs. old ++ xs) (sym (places_append (n ∷ p ∷ []) (vs ++ ss) (c ∷ d ∷ []) (us ++ cs) refl))))))

-- no refusal is no code, and the other way round
none-at : (places : List Place) (codes : List (Option Code)) → length places ≡ length codes → at_places places codes ≡ [] → IsTrue (are_none codes)
none-at [] [] l e = refl
none-at [] (c ∷ codes) l e = absurd (omega arith)
none-at (p ∷ places) [] l e = absurd (omega arith)
none-at (p ∷ places) (None ∷ codes) l e = none-at places codes (omega arith) e
none-at (p ∷ places) (Some c ∷ codes) l e = cons-not_nil _ _ e

at-none : (places : List Place) (codes : List (Option Code)) → IsTrue (are_none codes) → at_places places codes ≡ []
at-none [] codes e = refl
at-none (p ∷ places) [] e = refl
at-none (p ∷ places) (None ∷ codes) e = at-none places codes e
at-none (p ∷ places) (Some c ∷ codes) e = not_true e

append-nil : {X : Type 0} (xs : List X) → xs ++ [] ≡ xs
append-nil [] = refl
append-nil (x ∷ xs) = ap (x ∷◌) (append-nil xs)

pub empty : {X : Type 0} (xs : List X) → length xs ≡ 0 → xs ≡ []
empty [] e = refl
empty (x ∷ xs) e = absurd (omega (arith, e))

pub found_length : (k : Known) (of : List ℕ) (m number : ℕ) (name : Name) (port : Field') (vars : List Field') (found : List Judged) → length (all_places (found_places m name port vars found)) ≡ length (found_codes k of number name port vars found)
found_length k of m number name port vars found =
    let codes = variable_codes k.types.now (name_view port.name ∷ []) (map field_view vars) in
    let at : List Place = map (λ d. (m, d.name.span)) vars in
    let ss : List Place = map (λ s. (m, s)) (spans_found found) in
    let a = length-map {B = Place} vars (λ d. (m, d.name.span)) in
    let b = length-map vars field_view in
    let c = variable_count k.types.now (name_view port.name ∷ []) (map field_view vars) in
    let d = length-map {B = Place} (spans_found found) (λ s. (m, s)) in
    let e = length-map found (λ j. j.span) in
    let f = length-map found (λ j. found_code_view j.code) in
    let g = length-append at ss in
    let h = length-append codes (codes_found found) in
    omega (arith, a, b, c, d, e, f, g, h)

-- one mark more
pub marked_next : (m : ℕ) (found : List Judged) (marks : List Bool) (i : ℕ) (d : Judged) (base after : Refusals) → i < length found → length marks ≡ length found
    → after ≡ base ++ at_places ((m, (get_or found i d).span) ∷ []) (cond (get_or marks i false) (Some unreachable) None ∷ [])
    → after ++ at_places (map (λ s. (m, s)) (spans_found (drop (i + 1) found))) (map (λ m. cond m (Some unreachable) None) (drop (i + 1) marks))
    ≡ base ++ at_places (map (λ s. (m, s)) (spans_found (drop i found))) (map (λ m. cond m (Some unreachable) None) (drop i marks))
marked_next m found marks i d base after h l g =
    let one : suc i ≡ i + 1 = omega arith in
    let js : drop i found ≡ get_or found i d ∷ drop (i + 1) found = drop-cons found i d h ∙ ap (λ n. get_or found i d ∷ drop n found) one in
    let bs : drop i marks ≡ get_or marks i false ∷ drop (i + 1) marks = drop-cons marks i false (omega (arith, h, l)) ∙ ap (λ n. get_or marks i false ∷ drop n marks) one in
    place_next base after (m, (get_or found i d).span) (cond (get_or marks i false) (Some unreachable) None) (map (λ s. (m, s)) (spans_found (drop (i + 1) found))) (map (λ m. cond m (Some unreachable) None) (drop (i + 1) marks)) g
    ∙ ap₂ (λ (xs : List Judged) (ms : List Bool). base ++ at_places (map (λ s. (m, s)) (spans_found xs)) (map (λ m. cond m (Some unreachable) None) ms)) (sym js) (sym bs)

module _ (table : TypeTable) (p : Process) (codes : List (Option Code)) (places : Places Place) (l : length (all_places places) ≡ length codes) where
  nothing : (old mid : List NameFault) → length mid ≡ length old → map name_fault_view mid ≡ map name_fault_view old ++ at_places (all_places places) codes → at_places (all_places places) codes ≡ []
  nothing old mid n e =
      let a = length-map mid name_fault_view in
      let b = length-map old name_fault_view in
      let c = length-append (map name_fault_view old) (at_places (all_places places) codes) in
      let d = ap length e in
      empty _ (omega (arith, a, b, c, d, n))

  -- as many faults as before are no code
  pub none_where : (old mid : List NameFault) → length mid ≡ length old → map name_fault_view mid ≡ map name_fault_view old ++ at_places (all_places places) codes → IsTrue (are_none codes)
  none_where old mid n e = none-at (all_places places) codes l (nothing old mid n e)

  -- no code, and the marks of control
  pub unreached_added : (old mid new : List NameFault) (marks : List Bool) → length mid ≡ length old
      → map name_fault_view mid ≡ map name_fault_view old ++ at_places (all_places places) codes → MarksUnreached table p marks
      → map name_fault_view new ≡ map name_fault_view mid ++ at_places places.statements (map (λ m. cond m (Some unreachable) None) marks)
      → AddsRefusals (map name_fault_view old) (map name_fault_view new) table p codes places
  unreached_added old mid new marks n e m h =
      record {
        own = at_places places.statements (map (λ m. cond m (Some unreachable) None) marks);
        refused = subst (λ b. RefusesBy b table p codes places (at_places places.statements (map (λ m. cond m (Some unreachable) None) marks))) (sym (none_where old mid n e)) (marks, m, refl);
        behind = h ∙ ap (λ xs. xs ++ at_places places.statements (map (λ m. cond m (Some unreachable) None) marks)) (e ∙ (ap (λ xs. map name_fault_view old ++ xs) (nothing old mid n e) ∙ append-nil (map name_fault_view old)));
      }

  -- the codes at the places, where there are some
  pub faults_added : (old new : List NameFault) → (length new ≡ length old → ⊥)
      → map name_fault_view new ≡ map name_fault_view old ++ at_places (all_places places) codes
      → AddsRefusals (map name_fault_view old) (map name_fault_view new) table p codes places
  faults_added old new n e = record { own = at_places (all_places places) codes; refused = by (are_none codes) refl; behind = e }
    where
      by : (b : Bool) → are_none codes ≡ b → RefusesBy b table p codes places (at_places (all_places places) codes)
      by false f = refl
      by true f =
          let a = length-map new name_fault_view in
          let b = length-map old name_fault_view in
          let d = ap length (e ∙ (ap (λ xs. map name_fault_view old ++ xs) (at-none (all_places places) codes f) ∙ append-nil (map name_fault_view old))) in
          absurd (n (omega (arith, a, b, d)))

pub adds_same : (old new : Refusals) (t u : TypeTable) (p q : Process) (cs ds : List (Option Code)) (xs ys : Places Place) → t ≡ u → p ≡ q → cs ≡ ds → xs ≡ ys
    → AddsRefusals old new t p cs xs → AddsRefusals old new u q ds ys
adds_same old new t u p q cs ds xs ys a e f g h =
    subst (λ t. AddsRefusals old new t q ds ys) a (subst (λ q. AddsRefusals old new t q ds ys) e (subst (λ ds. AddsRefusals old new t p ds ys) f (subst (λ ys. AddsRefusals old new t p cs ys) g h)))

-- what adds no refusal has no code
pub adds_none : (before after : Refusals) (t : TypeTable) (p : Process) (codes : List (Option Code)) (places : Places Place) → length (all_places places) ≡ length codes → AddsRefusals before after t p codes places → after ≡ [] → IsTrue (are_none codes)
adds_none before after t p codes places l a e = by (are_none codes) refl a.refused
  where
    none : a.own ≡ []
    none = let n = length-append before a.own in let b = ap length (sym e ∙ a.behind) in empty a.own (omega (arith, n, b))

    by : (b : Bool) → are_none codes ≡ b → RefusesBy b t p codes places a.own → IsTrue (are_none codes)
    by true h r = h
    by false h r = none-at (all_places places) codes l (sym r ∙ none)
