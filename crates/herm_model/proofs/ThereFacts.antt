-- The facts of typed statements, of messages and of control paths are facts that there are; calls and what they declare.
use Rattle.std.proofs.Common.{◌≡◌, ℕ, List, [], ◌∷◌, map, Bool, true, false, cond, ◌⊎◌, inl, inr, nat_eq, Option, Some, None, is_some, option_and_then, refl, sym, ap, subst, ◌∙◌, true≢false}
use Rattle.std.proofs.lemmas.Bool.{eqb-true}
use Rattle.herm_model.specs.Lists.{IsIn, any_pass, map_or, list_of}
use Rattle.herm_model.specs.Paths.{Path, Fact, init, case, path_of, same_fact, is_at_or_below}
use Rattle.herm_model.specs.Types.{Raised, inport, callmessage, TypeTable}
use Rattle.herm_model.specs.Facts.{said_at, message_facts, message_of, IsFactOf}
use Rattle.herm_model.specs.Statements.{Process, Differ}
use Rattle.herm_model.specs.Outcomes.{disconnected, outcomes}
use Rattle.herm_model.specs.Nodes.{Node, process_nodes}
use Rattle.herm_model.specs.Exits.{Exit, exits}
use Rattle.herm_model.specs.Targets.{Target}
use Rattle.herm_model.specs.Calls.{call_raises, kept_for}
use Rattle.herm_model.specs.ControlPaths.{Edge, edge, Point, point, flow_of, Hop, held_after_edge, held_at_start, walk, edge_from, IsControlPath}
use Rattle.herm_model.specs.WellFormedTables.{IsFieldPath, IsOfField, IsOfFullField, field_type, field_below, IsWellFormedTable}
use Rattle.herm_model.specs.TypedPrograms.{IsTypedProcess}
use Rattle.herm_model.specs.laws.TypedFactLaws.{FullFactsAreThere, DeclaredFactsAreThere, ListedFactsAreThere, TypedFormsHaveTheirFacts, HeldFactsAreThere, TypedCallsDeclare, CallmessagesTravelFull}
use Rattle.herm_model.proofs.Lists.{in-map, in-map_from}
use Rattle.herm_model.proofs.Options.{none-not_some}
use Rattle.herm_model.proofs.Equality.{same_fact-is}
use Rattle.herm_model.proofs.FactTests.{listed-IsIn, got-IsIn}
use Rattle.herm_model.proofs.Walks.{IsEdgeOf, edge_from-IsEdgeOf, same_held}
use Rattle.herm_model.proofs.Reached.{standing_at}
use Rattle.herm_model.proofs.NodeExits.{exits-outcomes}
use Rattle.herm_model.proofs.TypedFacts.{full-facts, all-closed, said-fact, declared-facts, message-facts}
use Rattle.herm_model.proofs.TypedCalls.{raises-are}
use Rattle.herm_model.proofs.TypedRows.{row-there, call-kept}

pub full-there : FullFactsAreThere
full-there table variables p t e n f i = full-facts table variables p t e n f i

pub listed-there : ListedFactsAreThere
listed-there exceptions table port message declared well h f i = declared-facts table message declared (well.facts_of_fields port (inport message declared) h) f i

pub declared-there : DeclaredFactsAreThere
declared-there exceptions table variables port message declared p well h e n f i =
    let r = in-map_from (said_at p) f (message_facts table message declared) (subst (λ o. IsIn f (map_or [] (λ s. list_of (λ m. map (said_at p) (message_facts table m.0 m.1)) (message_of s)) o)) h i) in
    subst (IsFactOf table variables) (sym r.2) (said-fact table variables p message r.0 e n (message-facts table message declared (well.facts_of_fields port (inport message declared) h) r.0 r.1))

pub form-facts : TypedFormsHaveTheirFacts
form-facts exceptions table variables processes form well typed =
    let there = row-there exceptions table well variables processes form typed in
    record {
      needs = λ f i. all-closed table variables _ there.needed f i;
      makes = λ o f out i. all-closed table variables _ (there.made o out) f i;
      kills = λ o p i. let k = there.gone o p i in ((ap is_some ((k.1).0).0), (k.1).1);
    }

-- what is held behind an edge was held before it, or is made
behind-there : (e : Edge) (f : Fact) (before : Bool) → held_after_edge e f before ≡ true → IsIn f e.makes ⊎ (before ≡ true)
behind-there e f before h = by (any_pass (same_fact f) e.makes) refl (any_pass (λ p. is_at_or_below p (path_of f)) e.kills) h
  where
    by : (made : Bool) → any_pass (same_fact f) e.makes ≡ made → (gone : Bool) → cond made true (cond gone false before) ≡ true → IsIn f e.makes ⊎ (before ≡ true)
    by true m gone h = inl (listed-IsIn f e.makes m)
    by false m true h = absurd (true≢false (sym h))
    by false m false h = inr h

module _ (exceptions : ℕ) (table : TypeTable) (processes : List Process) (p : Process) (well : IsWellFormedTable exceptions table) (typed : IsTypedProcess exceptions table processes p) where
  -- what an edge makes
  edge-there : (here : Target) (e : Edge) → IsEdgeOf (flow_of table p) here e → (f : Fact) → IsIn f e.makes → IsFactOf table p.variables f
  edge-there here e of f made = by (in-map_from (point table p.variables) of.point (process_nodes p) (got-IsIn _ of.at of.point of.point-is))
    where
      by_exit : (n : Node) → IsIn n (process_nodes p) → (x : Exit) × IsIn x (exits table p.variables n) × (e ≡ edge table p.variables n.form x) → IsFactOf table p.variables f
      by_exit n i found =
          let out : IsIn (found.0).outcome (outcomes table p.variables n.form) = subst (λ os. IsIn (found.0).outcome os) (exits-outcomes table p n typed.blocks i) (in-map (λ (x : Exit). x.outcome) found.0 (exits table p.variables n) found.1) in
          (form-facts exceptions table p.variables processes n.form well (typed.typed n i)).makes (found.0).outcome f out (subst (λ (d : Edge). IsIn f d.makes) found.2 made)

      by : (n : Node) × IsIn n (process_nodes p) × (of.point ≡ point table p.variables n) → IsFactOf table p.variables f
      by found = by_exit found.0 found.1 (in-map_from (edge table p.variables (found.0).form) e (exits table p.variables found.0) (subst (λ (r : Point). IsIn e r.edges) found.2 of.edge))

  walk-there : (f : Fact) (hops : List Hop) (here there : Target) (before after : Bool) → (before ≡ true → IsFactOf table p.variables f) → walk (flow_of table p) f hops here before ≡ standing_at there after → after ≡ true → IsFactOf table p.variables f
  walk-there f [] here there before after known leads h = known (same_held _ _ leads ∙ h)
  walk-there f (hop ∷ hops) here there before after known leads h = go (edge_from (flow_of table p) here hop) refl (λ here before. walk-there f hops here there before after) leads
    where
      go : (o : Option Edge) → edge_from (flow_of table p) here hop ≡ o
          → ((here : Target) (before : Bool) → (before ≡ true → IsFactOf table p.variables f) → walk (flow_of table p) f hops here before ≡ standing_at there after → after ≡ true → IsFactOf table p.variables f)
          → option_and_then (λ (e : Edge). walk (flow_of table p) f hops e.target (held_after_edge e f before)) o ≡ standing_at there after → IsFactOf table p.variables f
      go None is later leads = absurd (let k : ⊥ = cc in k)
      go (Some e) is later leads = later e.target (held_after_edge e f before) (λ b. behind (behind-there e f before b)) leads h
        where
          behind : IsIn f e.makes ⊎ (before ≡ true) → IsFactOf table p.variables f
          behind (inl made) = edge-there here e (edge_from-IsEdgeOf (flow_of table p) here hop e is) f made
          behind (inr b) = known b

  start-there : (f : Fact) → held_at_start f ≡ true → IsFactOf table p.variables f
  start-there f h = subst (IsFactOf table p.variables) (sym (same_fact-is f (init (0 ∷ [])) h)) (ap is_some (typed.port).3, refl)

  held-there : (hops : List Hop) (there : Target) (f : Fact) → IsControlPath (flow_of table p) f hops there true → IsFactOf table p.variables f
  held-there hops there f leads = walk-there f hops (flow_of table p).entry there (held_at_start f) true (start-there f) leads refl

pub held-facts : HeldFactsAreThere
held-facts exceptions table processes p well typed hops there f leads = held-there exceptions table processes p well typed hops there f leads

-- what an exception keeps that keeps nothing wherever it is declared
none-kept : (rs : List Raised) (e : ℕ) → ((r : Raised) → IsIn r rs → r.exception ≡ e → r.kept ≡ []) → kept_for rs e ≡ []
none-kept [] e h = refl
none-kept (r ∷ rs) e h = by (nat_eq r.exception e) refl (none-kept rs e (λ q i. h q (inr i)))
  where
    by : (b : Bool) → nat_eq r.exception e ≡ b → kept_for rs e ≡ [] → cond b r.kept (kept_for rs e) ≡ []
    by true k again = h r (inl refl) (eqb-true r.exception e k)
    by false k again = again

pub calls-declare : TypedCallsDeclare
calls-declare exceptions table variables processes o arguments well h =
    let same : call_raises table variables o ≡ h.2 = raises-are table variables o h.0 h.3 h.1 h.2 h.4 in
    record {
      differ = subst (λ rs. Differ (map (λ (r : Raised). r.exception) rs)) (sym same) (well.exceptions_differ h.0 (callmessage h.1 h.2) h.4);
      known = λ r i. well.exceptions_known h.0 (callmessage h.1 h.2) h.4 r (subst (λ rs. IsIn r rs) same i);
      kept = λ e p i. call-kept exceptions table well variables processes o arguments e h p i;
      disconnected_keeps = subst (λ rs. kept_for rs disconnected ≡ []) (sym same) (none-kept h.2 disconnected (λ r i e. well.kept_disconnected h.0 (callmessage h.1 h.2) h.4 r i e));
    }

-- a message without fields has no listed facts
pub travel-full : CallmessagesTravelFull
travel-full exceptions table port message declared parameters raises well h shape = by declared (well.facts_of_fields port (inport message declared) h)
  where
    no-path : (p : Path) (t : ℕ) → IsFieldPath table message p t → ⊥
    no-path [] t k = k
    no-path (v ∷ []) t k = k
    no-path (v ∷ i ∷ q) t k = none-below q (subst (λ o. field_below table (option_and_then (λ s. field_type s i) o) q ≡ Some t) shape k.1)
      where
        none-below : (q : List ℕ) → field_below table None q ≡ Some t → ⊥
        none-below [] e = none-not_some e
        none-below (i ∷ q) e = none-below q e

    no-fact : (f : Fact) (fs : List Fact) → IsOfField table message f ⊎ IsOfFullField table message fs f → ⊥
    no-fact (init p) fs (inl k) = no-path p k.0 k.1
    no-fact (case p c) fs (inl k) = no-path p k.0 k.2
    no-fact f fs (inr k) = no-path k.0 k.1 k.2

    by : (fs : List Fact) → ((f : Fact) → IsIn f fs → IsOfField table message f ⊎ IsOfFullField table message fs f) → fs ≡ []
    by [] k = refl
    by (f ∷ fs) k = absurd (no-fact f (f ∷ fs) (k f (inl refl)))
