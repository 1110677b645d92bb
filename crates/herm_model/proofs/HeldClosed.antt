-- What is held on a control path is closed, and so is what holds at a statement.
use Rattle.std.proofs.Common.{◌≡◌, ℕ, List, [], ◌∷◌, ◌++◌, Bool, true, false, cond, ◌||◌, Option, Some, None, slice_get, option_and_then, refl, sym, ap, ◌∙◌, subst, true≢false}
use Rattle.herm_model.specs.Lists.{IsIn, any_pass}
use Rattle.herm_model.specs.Paths.{Path, Fact, init, path_of, same_fact, is_at_or_below}
use Rattle.herm_model.specs.Types.{TypeTable}
use Rattle.herm_model.specs.Facts.{prefixes, facts_to, IsClosed}
use Rattle.herm_model.specs.Statements.{Process}
use Rattle.herm_model.specs.Nodes.{Node, process_nodes}
use Rattle.herm_model.specs.Exits.{Exit, exits}
use Rattle.herm_model.specs.Targets.{Target, node}
use Rattle.herm_model.specs.ControlPaths.{Edge, edge, Point, point, flow_of, Hop, held_after_edge, held_at_start, walk, edge_from, IsControlPath, Holds}
use Rattle.herm_model.proofs.Lists.{in-map_from, or-left, or-right}
use Rattle.herm_model.proofs.Beginnings.{Begins, longer-below}
use Rattle.herm_model.proofs.Prefixes.{speaks, before-path}
use Rattle.herm_model.proofs.Equality.{same_fact-is}
use Rattle.herm_model.proofs.FactTests.{listed-IsIn, IsIn-listed, got-IsIn}
use Rattle.herm_model.proofs.ClosedFacts.{closed-IsClosed}
use Rattle.herm_model.proofs.Walks.{IsEdgeOf, edge_from-IsEdgeOf, same_held, walk-common}
use Rattle.herm_model.proofs.Reached.{standing_at}

-- a fact before another speaks of a beginning of its path
prefix-Begins : (types : TypeTable) (variables : List ℕ) (f g : Fact) → IsIn g (prefixes types variables f) → Begins (path_of g) (path_of f)
prefix-Begins types variables f g h = by (path_of f) (before-path types variables f g h)
  where
    by : (p : Path) → IsIn g (facts_to types variables p) → Begins (path_of g) p
    by [] k = absurd k
    by (v ∷ p) k =
        let s = speaks types (v ∷ []) (slice_get variables v) false p g k in
        (s.1.0, ap (v ∷◌) s.1.1 ∙ sym (ap (λ (q : Path). q ++ s.1.0) s.2))

-- what kills a fact kills those of longer paths
longer-gone : (ps : List Path) (q r : Path) → any_pass (λ p. is_at_or_below p q) ps ≡ true → any_pass (λ p. is_at_or_below p (q ++ r)) ps ≡ true
longer-gone [] q r h = h
longer-gone (p ∷ ps) q r h = go (is_at_or_below p q) refl (longer-gone ps q r) h
  where
    go : (b : Bool) → is_at_or_below p q ≡ b → (any_pass (λ p. is_at_or_below p q) ps ≡ true → any_pass (λ p. is_at_or_below p (q ++ r)) ps ≡ true) → (b || any_pass (λ p. is_at_or_below p q) ps) ≡ true → (is_at_or_below p (q ++ r) || any_pass (λ p. is_at_or_below p (q ++ r)) ps) ≡ true
    go true e later h = or-left (is_at_or_below p (q ++ r)) _ (longer-below p q r e)
    go false e later h = or-right (is_at_or_below p (q ++ r)) _ (later h)

-- an edge that makes closed facts keeps that one fact is held where another is
behind-closed : (e : Edge) (f g : Fact) (bf bg : Bool) → (IsIn f e.makes → IsIn g e.makes) → Begins (path_of g) (path_of f) → (bf ≡ true → bg ≡ true) → held_after_edge e f bf ≡ true → held_after_edge e g bg ≡ true
behind-closed e f g bf bg made begin before held =
    go (any_pass (same_fact f) e.makes) refl (any_pass (λ p. is_at_or_below p (path_of f)) e.kills) refl held
  where
    gone : Path → Bool
    gone q = any_pass (λ p. is_at_or_below p q) e.kills

    made-g : any_pass (same_fact g) e.makes ≡ true → held_after_edge e g bg ≡ true
    made-g m = ap (λ b. cond b true (cond (any_pass (λ p. is_at_or_below p (path_of g)) e.kills) false bg)) m

    kept : any_pass (λ p. is_at_or_below p (path_of f)) e.kills ≡ false → bg ≡ true → (b c : Bool) → any_pass (λ p. is_at_or_below p (path_of g)) e.kills ≡ c → cond b true (cond c false bg) ≡ true
    kept none is true c k = refl
    kept none is false true k =
        let longer : any_pass (λ p. is_at_or_below p (path_of f)) e.kills ≡ true = subst (λ (q : Path). any_pass (λ p. is_at_or_below p q) e.kills ≡ true) (sym begin.1) (longer-gone e.kills (path_of g) begin.0 k) in
        absurd (true≢false (sym longer ∙ none))
    kept none is false false k = is

    go : (b : Bool) → any_pass (same_fact f) e.makes ≡ b → (c : Bool) → any_pass (λ p. is_at_or_below p (path_of f)) e.kills ≡ c → cond b true (cond c false bf) ≡ true → held_after_edge e g bg ≡ true
    go true m c k h = made-g (IsIn-listed g e.makes (made (listed-IsIn f e.makes m)))
    go false m true k h = absurd (true≢false (sym h))
    go false m false k h = kept k (before h) (any_pass (same_fact g) e.makes) (any_pass (λ p. is_at_or_below p (path_of g)) e.kills) refl

-- each edge of a process makes closed facts
edge-makes : (types : TypeTable) (p : Process) (here : Target) (e : Edge) → IsEdgeOf (flow_of types p) here e → IsClosed types p.variables (λ f. IsIn f e.makes)
edge-makes types p here e of = by (in-map_from (point types p.variables) of.point (process_nodes p) (got-IsIn _ of.at of.point of.point-is))
  where
    by_exit : (n : Node) → (x : Exit) × IsIn x (exits types p.variables n) × (e ≡ edge types p.variables n.form x) → IsClosed types p.variables (λ f. IsIn f e.makes)
    by_exit n found = subst (λ (d : Edge). IsClosed types p.variables (λ f. IsIn f d.makes)) (sym found.2) (closed-IsClosed types p.variables _)

    by : (n : Node) × IsIn n (process_nodes p) × (of.point ≡ point types p.variables n) → IsClosed types p.variables (λ f. IsIn f e.makes)
    by found = by_exit found.0 (in-map_from (edge types p.variables (found.0).form) e (exits types p.variables found.0) (subst (λ (r : Point). IsIn e r.edges) found.2 of.edge))

-- along a walk, a fact before another stays held where that one is
walk-closed : (types : TypeTable) (p : Process) (f g : Fact) → IsIn g (prefixes types p.variables f) → (hops : List Hop) (here there : Target) (bf bg vf vg : Bool) → (bf ≡ true → bg ≡ true) → walk (flow_of types p) f hops here bf ≡ standing_at there vf → walk (flow_of types p) g hops here bg ≡ standing_at there vg → vf ≡ true → vg ≡ true
walk-closed types p f g prefix [] here there bf bg vf vg before leads also h = sym (same_held _ _ also) ∙ before (same_held _ _ leads ∙ h)
walk-closed types p f g prefix (hop ∷ hops) here there bf bg vf vg before leads also h =
    go (edge_from (flow_of types p) here hop) refl (λ here bf bg. walk-closed types p f g prefix hops here there bf bg vf vg) leads also
  where
    go : (o : Option Edge) → edge_from (flow_of types p) here hop ≡ o
        → ((here : Target) (bf bg : Bool) → (bf ≡ true → bg ≡ true) → walk (flow_of types p) f hops here bf ≡ standing_at there vf → walk (flow_of types p) g hops here bg ≡ standing_at there vg → vf ≡ true → vg ≡ true)
        → option_and_then (λ (e : Edge). walk (flow_of types p) f hops e.target (held_after_edge e f bf)) o ≡ standing_at there vf
        → option_and_then (λ (e : Edge). walk (flow_of types p) g hops e.target (held_after_edge e g bg)) o ≡ standing_at there vg → vg ≡ true
    go None is later leads also = absurd (let k : ⊥ = cc in k)
    go (Some e) is later leads also =
        later e.target (held_after_edge e f bf) (held_after_edge e g bg)
        (behind-closed e f g bf bg (λ made. edge-makes types p here e (edge_from-IsEdgeOf (flow_of types p) here hop e is) f g made prefix) (prefix-Begins types p.variables f g prefix) before)
        leads also h

-- at the start only `init` of the port is held, and no fact is before it
start-closed : (types : TypeTable) (variables : List ℕ) (f g : Fact) → IsIn g (prefixes types variables f) → held_at_start f ≡ true → held_at_start g ≡ true
start-closed types variables f g prefix h = absurd (subst (λ (x : Fact). IsIn g (prefixes types variables x)) (same_fact-is f (init (0 ∷ [])) h) prefix)

pub held-closed : (types : TypeTable) (p : Process) (hops : List Hop) (there : Target) (f g : Fact) → IsIn g (prefixes types p.variables f) → IsControlPath (flow_of types p) f hops there true → IsControlPath (flow_of types p) g hops there true
held-closed types p hops there f g prefix leads =
    let also = walk-common (flow_of types p) f g hops (flow_of types p).entry there (held_at_start f) true (held_at_start g) leads in
    let held : also.0 ≡ true = walk-closed types p f g prefix hops (flow_of types p).entry there (held_at_start f) (held_at_start g) true also.0 (start-closed types p.variables f g prefix) leads also.1 refl in
    subst (λ b. IsControlPath (flow_of types p) g hops there b) held also.1

pub holds-closed : (types : TypeTable) (p : Process) (i : ℕ) → IsClosed types p.variables (λ f. Holds (flow_of types p) f i)
holds-closed types p i f g holds prefix hops held leads =
    let other = walk-common (flow_of types p) g f hops (flow_of types p).entry (node i) (held_at_start g) held (held_at_start f) leads in
    walk-closed types p f g prefix hops (flow_of types p).entry (node i) (held_at_start f) (held_at_start g) other.0 held (start-closed types p.variables f g prefix) other.1 leads (holds hops other.0 other.1)
