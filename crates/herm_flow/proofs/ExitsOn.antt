-- The exits that lead on, outcome by outcome.
use Rattle.std.proofs.Common.{◌≡◌, ℕ, suc, ◌+◌, List, ◌∷◌, ◌++◌, map, filter, drop, sym, ap, ap₂, ◌∙◌, append_assoc, arith}
use Rattle.std.proofs.lemmas.List.Elements.{filter-append}
use Rattle.herm_model.specs.Targets.{Target}
use Rattle.herm_model.specs.Handlers.{Catch}
use Rattle.herm_model.specs.Exits.{Exit}
use Rattle.herm_typed.specs.declared.outcome_list.Outcome.{Outcome}
use Rattle.herm_typed.specs.View.{outcome_view}
use Rattle.herm_flow.specs.Edges.{raised_in, exit_of, left_of, exits_from}
use Rattle.herm_flow.specs.Listed.{exits_on}

-- the exit of the next outcome, and the rest
pub next_exits : (catches : List Catch) (o : Outcome) (os : List Outcome) (i : ℕ) (old new whole : List Exit) (ts us : List Target) → drop i os ≡ o ∷ drop (suc i) os
    → new ≡ old ++ filter exits_on (exit_of (outcome_view o) (raised_in (outcome_view o)) ts catches)
    → us ≡ left_of (raised_in (outcome_view o)) ts
    → old ++ filter exits_on (exits_from (map outcome_view (drop i os)) ts catches) ≡ whole
    → new ++ filter exits_on (exits_from (map outcome_view (drop (i + 1) os)) us catches) ≡ whole
next_exits catches o os i old new whole ts us at pushed left before =
    let step : i + 1 ≡ suc i = omega arith in
    let own = exit_of (outcome_view o) (raised_in (outcome_view o)) ts catches in
    let rest = exits_from (map outcome_view (drop (suc i) os)) (left_of (raised_in (outcome_view o)) ts) catches in
    ap (λ n. new ++ filter exits_on (exits_from (map outcome_view (drop n os)) us catches)) step
    ∙ (ap₂ (λ xs vs. xs ++ filter exits_on (exits_from (map outcome_view (drop (suc i) os)) vs catches)) pushed left
    ∙ (append_assoc old (filter exits_on own) (filter exits_on rest)
    ∙ (ap (old ++◌) (sym (filter-append exits_on own rest))
    ∙ (sym (ap (λ xs. old ++ filter exits_on (exits_from (map outcome_view xs) ts catches)) at) ∙ before))))
