-- Edges of a statement: those that are picked and cover others, and those of its outcomes one after the other.
use Rattle.std.proofs.Common.{◌≡◌, ℕ, suc, ◌+◌, List, ◌∷◌, ◌++◌, map, drop, true, inl, inr, ◌⊎◌, refl, sym, ap, ap₂, subst, ◌∙◌, append_assoc, arith}
use Rattle.herm_model.specs.Lists.{IsIn}
use Rattle.herm_model.specs.Types.{TypeTable}
use Rattle.herm_model.specs.Targets.{Target}
use Rattle.herm_model.specs.Handlers.{Catch}
use Rattle.herm_model.specs.Exits.{Exit}
use Rattle.herm_model.specs.ControlPaths.{Edge}
use Rattle.herm_model.proofs.Lists.{in-append_cases, in-map_from}
use Rattle.herm_types.proofs.Extended.{map-append}
use Rattle.herm_typed.specs.declared.statements.TypedForm.{TypedForm}
use Rattle.herm_typed.specs.declared.outcome_list.Outcome.{Outcome}
use Rattle.herm_typed.specs.View.{outcome_view}
use Rattle.herm_flow.specs.Edges.{an_exit, raised_in, exit_of, left_of, exits_from, edge_at, AreEdgesOf}
use Rattle.herm_flow.specs.Onward.{is_node, leads_on, IsSameEdge, ArePicked, none, picked, passed, IsCovered}

-- ---- edges that are the same

pub same-self : (e : Edge) → IsSameEdge e e
same-self e = record { outcome = refl; target = refl; held = λ f held. refl }

same-through : (c d e : Edge) → IsSameEdge c d → IsSameEdge d e → IsSameEdge c e
same-through c d e p q = record { outcome = p.outcome ∙ q.outcome; target = p.target ∙ q.target; held = λ f held. p.held f held ∙ q.held f held }

-- ---- some of the edges

pub picked-append : (xs bs cs ds : List Edge) → ArePicked xs bs → ArePicked cs ds → ArePicked (xs ++ cs) (bs ++ ds)
picked-append _ _ cs ds none q = q
picked-append _ _ cs ds (picked d e xs bs same p) q = picked d e (xs ++ cs) (bs ++ ds) same (picked-append xs bs cs ds p q)
picked-append _ _ cs ds (passed e xs bs p) q = passed e (xs ++ cs) (bs ++ ds) (picked-append xs bs cs ds p q)

-- some of some are some
pub picked-through : (xs bs cs : List Edge) → ArePicked xs bs → ArePicked bs cs → ArePicked xs cs
picked-through xs _ _ p none = p
picked-through _ _ _ (picked c _ xs _ own p) (picked d e bs cs same q) = picked c e xs cs (same-through c d e own same) (picked-through xs bs cs p q)
picked-through xs _ _ (passed _ _ _ p) (picked d e bs cs same q) = passed e xs cs (picked-through xs bs cs p q)
picked-through xs _ _ p (passed e bs cs q) = passed e xs cs (picked-through xs bs cs p q)

-- ---- what is covered

-- what edges cover that are covered in their turn
pub covered-through : (xs bs : List Edge) (e : Edge) → leads_on e ≡ true → IsCovered xs e → ((d : Edge) → IsIn d xs → leads_on d ≡ true → IsCovered bs d) → IsCovered bs e
covered-through xs bs e on c turn = record {
  leads =
      let by = turn c.leads.0 c.leads.1 (onto c.leads.0 c.leads.2) in
      (by.leads.0, by.leads.1, by.leads.2 ∙ c.leads.2);
  lost = λ f held h.
      let d = c.lost f held h in
      let by = (turn d.0 d.1 (onto d.0 d.2)).lost f held d.3 in
      (by.0, by.1, by.2 ∙ d.2, by.3);
}
  where
    onto : (d : Edge) → d.target ≡ e.target → leads_on d ≡ true
    onto d same = ap is_node same ∙ on

-- ---- the edges of outcomes

module _ (table : TypeTable) (variables : List ℕ) (form : TypedForm) where
  abbrev edge : Exit → Edge
  edge = edge_at table variables form

  edges-of : (xs : List Exit) (old new : List Edge) → AreEdgesOf table variables form old → new ≡ old ++ map edge xs → AreEdgesOf table variables form new
  edges-of xs old new of is e m = by (in-append_cases e old (map edge xs) (subst (IsIn e) is m))
    where
      by : IsIn e old ⊎ IsIn e (map edge xs) → e ≡ edge (an_exit e.outcome e.target)
      by (inl h) = of e h
      by (inr h) = let x = in-map_from edge e xs h in subst (λ (y : Edge). y ≡ edge (an_exit y.outcome y.target)) (sym x.2) refl

  -- the edge of the next outcome, and the rest
  pub next_edges : (catches : List Catch) (o : Outcome) (os : List Outcome) (i : ℕ) (old new all : List Edge) (ts us : List Target) → drop i os ≡ o ∷ drop (suc i) os
      → new ≡ old ++ map edge (exit_of (outcome_view o) (raised_in (outcome_view o)) ts catches)
      → us ≡ left_of (raised_in (outcome_view o)) ts
      → AreEdgesOf table variables form old
      → old ++ map edge (exits_from (map outcome_view (drop i os)) ts catches) ≡ all
      → AreEdgesOf table variables form new × (new ++ map edge (exits_from (map outcome_view (drop (i + 1) os)) us catches) ≡ all)
  next_edges catches o os i old new all ts us at pushed left of before =
      let step : i + 1 ≡ suc i = omega arith in
      let own = exit_of (outcome_view o) (raised_in (outcome_view o)) ts catches in
      let rest = exits_from (map outcome_view (drop (suc i) os)) (left_of (raised_in (outcome_view o)) ts) catches in (
        edges-of own old new of pushed,
        ap (λ n. new ++ map edge (exits_from (map outcome_view (drop n os)) us catches)) step
            ∙ (ap₂ (λ es vs. es ++ map edge (exits_from (map outcome_view (drop (suc i) os)) vs catches)) pushed left
            ∙ (append_assoc old (map edge own) (map edge rest)
            ∙ (ap (old ++◌) (sym (map-append edge own rest))
            ∙ (sym (ap (λ xs. old ++ map edge (exits_from (map outcome_view xs) ts catches)) at) ∙ before)))),
      )
