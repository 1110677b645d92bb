-- The type of the variant of a `case` is that of the value at its path.
use Rattle.std.proofs.Common.{◌≡◌, ℕ, suc, ◌+◌, List, Some, None, option_map, option_and_then, slice_get, refl, sym, ◌∙◌, ap, add-one, Bool, true, false, cond, nat_eq, arith}
use borrow.Author.Tests.{eqb-true}
use Rattle.herm_model.specs.Paths.{Path}
use Rattle.herm_model.specs.Types.{TypeTable, type_at}
use Rattle.herm_model.specs.Statements.{Case}
use Rattle.herm_model.proofs.Lists.{cons-head, slice_get-map}
use Rattle.herm_model.proofs.FactTests.{got-IsIn}
use Rattle.herm_typed.specs.declared.statements.TypedForm.{TypedForm}
use Rattle.herm_typed.specs.declared.statements.TypedForm.TheBlock as forms
use Rattle.herm_typed.specs.View.{typed_form_view, typed_path_view, form_of_statement}
use Rattle.herm_typed.specs.Within.{all_statements}
use Rattle.herm_typed.specs.Beside.{HasTypes}
use Rattle.herm_words.specs.declared.sites.Site.{Site}
use Rattle.herm_words.specs.Sites.{cases_of, site_of, sites_in, site_at}
use Rattle.herm_words.specs.MissingFactWords.{variable_types}
use Rattle.herm_words.specs.laws.WordLaws.{ComponentsAreOfVariants}

case-type : (table : TypeTable) (variables : List ℕ) (form : TypedForm) (v : Path) (cs : List ℕ) → HasTypes table variables form → form_of_statement (typed_form_view form) ≡ Some (Case v cs) → option_map (λ t. t.0) (cases_of form) ≡ type_at table variables v
case-type table variables (forms.Case' w shape arms) v cs h is =
    let same : typed_path_view w ≡ v = cc in
    sym (cons-head h) ∙ ap (type_at table variables) same
case-type table variables form v cs h is = absurd (let k : ⊥ = cc in k)

-- the site at a place is found by the number behind it
site-found : (sites : List Site) (i : ℕ) → site_at sites (i + 1) ≡ slice_get sites i
site-found sites i = ap (site_at sites) (add-one i) ∙ by (nat_eq (suc i) 0) refl
  where
    by : (b : Bool) → nat_eq (suc i) 0 ≡ b → cond b None (slice_get sites i) ≡ slice_get sites i
    by true e = let k = eqb-true (suc i) 0 e in absurd (omega (arith, k))
    by false e = refl

pub components-named : ComponentsAreOfVariants
components-named types p known i s v cs at is =
    let all = all_statements p.body.items in
    let found : site_at (sites_in p) (i + 1) ≡ Some (site_of s) = site-found (sites_in p) i ∙ (slice_get-map site_of all i ∙ ap (option_map site_of) at) in
    ap (λ o. option_map (λ t. t.0) (option_and_then (λ (x : Site). x.cases) o)) found
    ∙ case-type types.shapes (variable_types p) s.form v cs (known s (got-IsIn all i s at)) is
