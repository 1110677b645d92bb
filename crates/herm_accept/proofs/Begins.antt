-- Where the statements of a process begin, as its missing facts have it.
use Rattle.std.specs.Option.{option_map}
use Rattle.std.proofs.Common.{◌≡◌, ℕ, pred, Bool, true, false, nat_eq, cond, List, map, slice_get, Option, Some, None, refl, sym, ap, ◌∙◌}
use Rattle.herm_model.specs.Lists.{map_or}
use Rattle.herm_model.proofs.Lists.{slice_get-map}
use Rattle.herm_typed.specs.declared.statements.TypedStmt.{TypedStmt}
use Rattle.herm_typed.specs.declared.statements.TypedProcess.{TypedProcess}
use Rattle.herm_typed.specs.Within.{all_statements}
use Rattle.herm_words.specs.declared.sites.Site.{Site}
use Rattle.herm_words.specs.Sites.{site_of, sites_in}
use Rattle.herm_accept.specs.Lacking.{start_in}

abbrev pub begin_of : TypedStmt → ℕ
begin_of t = t.span.start

-- where the statements of a process begin, by their numbers
abbrev pub begins : TypedProcess → List ℕ
begins p = map begin_of (all_statements p.body.items)

abbrev pub begin_at : List ℕ → ℕ → ℕ
begin_at list n = map_or 0 (λ s. s) (cond (nat_eq n 0) None (slice_get list (pred n)))

start_or : (o : Option TypedStmt) → map_or 0 (λ (s : Site). s.span.start) (option_map site_of o) ≡ map_or 0 (λ s. s) (option_map begin_of o)
start_or None = refl
start_or (Some t) = refl

start_placed : (list : List TypedStmt) (m : ℕ) → map_or 0 (λ (s : Site). s.span.start) (slice_get (map site_of list) m) ≡ map_or 0 (λ s. s) (slice_get (map begin_of list) m)
start_placed list m =
    ap (map_or 0 (λ (s : Site). s.span.start)) (slice_get-map site_of list m) ∙ (start_or (slice_get list m) ∙ sym (ap (map_or 0 (λ s. s)) (slice_get-map begin_of list m)))

begins_by : (none : Bool) (list : List TypedStmt) (m : ℕ) → map_or 0 (λ (s : Site). s.span.start) (cond none None (slice_get (map site_of list) m)) ≡ map_or 0 (λ s. s) (cond none None (slice_get (map begin_of list) m))
begins_by true list m = refl
begins_by false list m = start_placed list m

-- the place at which the statement with a number begins
pub start_begins : (p : TypedProcess) (n : ℕ) → start_in (sites_in p) n ≡ begin_at (begins p) n
start_begins p n = begins_by (nat_eq n 0) (all_statements p.body.items) (pred n)
