-- What is looked up of the statements of a process, by their numbers.
use Rattle.std.specs.Prelude.{ℕ, pred, nat_eq, cond, List, map, Option, Some, None, slice_get, option_map, option_and_then}
use Rattle.herm_base.specs.declared.numbers.TypeNo.{TypeNo}
use Rattle.herm_typed.specs.declared.statements.TypedStmt.{TypedStmt}
use Rattle.herm_typed.specs.declared.statements.TypedForm.{TypedForm}
use Rattle.herm_typed.specs.declared.statements.TypedForm.TheBlock as forms
use Rattle.herm_typed.specs.declared.statements.TypedProcess.{TypedProcess}
use Rattle.herm_typed.specs.Within.{all_statements}
use Rattle.herm_words.specs.declared.sites.Site.{Site}

-- the type of the variant of a `case`
abbrev pub cases_of : TypedForm → Option TypeNo
cases_of (forms.Case' v shape arms) = Some v.of
cases_of form = None

abbrev pub site_of : TypedStmt → Site
site_of s = record { span = s.span; cases = cases_of s.form }

-- the sites of all statements, by number
abbrev pub sites_in : TypedProcess → List Site
sites_in p = map site_of (all_statements p.body.items)

-- The statement with a number is at the place before it; none has the number 0.
abbrev pub site_at : List Site → ℕ → Option Site
site_at sites n = cond (nat_eq n 0) None (slice_get sites (pred n))

-- the type of the variant at the path of the `case` with a number
abbrev pub variant_of : List Site → ℕ → Option ℕ
variant_of sites n = option_map (λ t. t.0) (option_and_then (λ s. s.cases) (site_at sites n))
