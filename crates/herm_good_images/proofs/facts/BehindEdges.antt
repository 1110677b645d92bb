-- What is held behind an edge of a typed process with exact labels.
use Rattle.std.proofs.Common.{◌≡◌, ◌↔◌, ℕ, List, [], ◌∷◌, ◌++◌, Bool, true, false, cond, Some, option_map, slice_get, ◌⊎◌, inl, inr, refl, sym, ap, subst, ◌∙◌, true≢false}
use Rattle.herm_model.specs.Lists.{IsIn, any_pass, numbered}
use Rattle.herm_model.specs.Paths.{Fact, init, path_of, same_fact, is_at_or_below}
use Rattle.herm_model.specs.Types.{TypeTable}
use Rattle.herm_model.specs.Facts.{prefixes, IsFactOf}
use Rattle.herm_model.specs.Statements.{Process}
use Rattle.herm_model.specs.Nodes.{Node, process_nodes, entry_of}
use Rattle.herm_model.specs.Exits.{Exit, exits}
use Rattle.herm_model.specs.Targets.{node}
use Rattle.herm_model.specs.FactsOfStatements.{needs}
use Rattle.herm_model.specs.Labels.{Labels, AreExact}
use Rattle.herm_model.specs.MissingFacts.{demands_at, IsAccepted}
use Rattle.herm_model.specs.ControlPaths.{Edge, edge, point, Flow, flow_of, Hop, held_after_edge, held_at_start, IsControlPath, IsReached, Holds, Lacks}
use Rattle.herm_model.specs.WellFormedTables.{IsWellFormedTable}
use Rattle.herm_model.specs.TypedPrograms.{IsTypedProcess}
use Rattle.herm_model.proofs.Lists.{in-map, in-flat_map, slice_get-map}
use Rattle.herm_model.proofs.FactTests.{got-IsIn, at-numbered}
use Rattle.herm_model.proofs.Equality.{same_fact-is, same_fact_self}
use Rattle.herm_model.proofs.Walks.{walk-common, same_held}
use Rattle.herm_model.proofs.Reached.{hop_by, hop-taken, walk-more, standing_at}
use Rattle.herm_model.proofs.HeldClosed.{held-closed, holds-closed}
use Rattle.herm_model.proofs.HeldDecided.{holds-or_lacks}
use Rattle.herm_model.proofs.DeterminedRefusals.{accepted-held}
use Rattle.herm_model.proofs.DifferentOutcomes.{process-EdgesDiffer}
use Rattle.herm_model.proofs.ThereFacts.{held-facts}
use Rattle.herm_translated.proofs.Joined.{got-within}
pub use Rattle.herm_translated.proofs.SettledFacts.{listed-behind}

module _ (count : ℕ) (table : TypeTable) (processes : List Process) (p : Process) (labels : Labels) (typed : IsTypedProcess count table processes p) (formed : IsWellFormedTable count table) (exact : AreExact (flow_of table p) labels) where
  abbrev flow : Flow
  flow = flow_of table p

  abbrev ns : List Node
  ns = process_nodes p

  reached : (i : ℕ) (n : Node) → slice_get ns i ≡ Some n → IsReached (flow_of table p) (node i)
  reached i n e = typed.reached i (got-within ns i n e)

  -- the label of a node has what holds there
  pub label-holds : (i : ℕ) (n : Node) (f : Fact) → slice_get ns i ≡ Some n → (labels i f ≡ true) ↔ Holds (flow_of table p) f i
  label-holds i n f e = exact i f (reached i n e)

  pub label-closed : (i : ℕ) (n : Node) → slice_get ns i ≡ Some n → (f g : Fact) → labels i f ≡ true → IsIn g (prefixes table p.variables f) → labels i g ≡ true
  label-closed i n e f g h m = (label-holds i n g e).1 (holds-closed table p i f g ((label-holds i n f e).0 h) m)

  -- in an accepted process what a form needs is in its label
  pub label-needed : IsAccepted table p → (i : ℕ) (n : Node) (f : Fact) → slice_get ns i ≡ Some n → IsIn f (needs table p.variables n.form) → labels i f ≡ true
  label-needed accepted i n f e m =
      (label-holds i n f e).1 ((accepted-held table p).0 accepted (record { at = i; number = n.number; fact = f })
      (in-flat_map demands_at (i, point table p.variables n) _ (numbered 0 (flow_of table p).points) (at-numbered (flow_of table p).points i (point table p.variables n) (slice_get-map (point table p.variables) ns i ∙ ap (option_map (point table p.variables)) e))
      (in-map (λ f. record { at = i; number = n.number; fact = f }) f (needs table p.variables n.form) m)))

  -- the label of a node has facts of the variables
  pub label-there : (i : ℕ) (n : Node) (f : Fact) → slice_get ns i ≡ Some n → labels i f ≡ true → IsFactOf table p.variables f
  label-there i n f e h =
      let r = reached i n e in
      let w = walk-common (flow_of table p) (init (0 ∷ [])) f r.0 (entry_of p) (node i) (held_at_start (init (0 ∷ []))) r.1 (held_at_start f) r.2 in
      let held : w.0 ≡ true = (label-holds i n f e).0 h r.0 w.0 w.1 in
      held-facts count table processes p formed typed r.0 (node i) f (subst (λ b. IsControlPath (flow_of table p) f r.0 (node i) b) held w.1)

  module _ (i : ℕ) (n : Node) (x : Exit) (at-i : slice_get ns i ≡ Some n) (in-x : IsIn x (exits table p.variables n)) where
    abbrev e : Edge
    e = edge table p.variables n.form x

    abbrev pub behind : Fact → Bool
    behind f = held_after_edge e f (labels i f)

    at-point : slice_get (flow_of table p).points i ≡ Some (point table p.variables n)
    at-point = slice_get-map (point table p.variables) ns i ∙ ap (option_map (point table p.variables)) at-i

    in-edges : IsIn e (point table p.variables n).edges
    in-edges = in-map (edge table p.variables n.form) x (exits table p.variables n) in-x

    -- a control path to the node goes on along the edge
    along : (f : Fact) (hops : List Hop) (held : Bool) → IsControlPath (flow_of table p) f hops (node i) held → IsControlPath (flow_of table p) f (hops ++ hop_by (point table p.variables n) e ∷ []) x.target (held_after_edge e f held)
    along f hops held h =
        walk-more (flow_of table p) f hops (hop_by (point table p.variables n) e) (entry_of p) (node i) (held_at_start f) held e h
        (hop-taken (flow_of table p) (process-EdgesDiffer table p typed.blocks) i (point table p.variables n) e at-point (got-IsIn (flow_of table p).points i (point table p.variables n) at-point) in-edges)

    -- held on each control path that goes along the edge
    abbrev HeldBehind : Fact → Type 0
    HeldBehind f = (hops : List Hop) (held : Bool) → IsControlPath (flow_of table p) f hops (node i) held → held_after_edge e f held ≡ true

    more-held : (f : Fact) (a b : Bool) → (a ≡ true → b ≡ true) → held_after_edge e f a ≡ true → held_after_edge e f b ≡ true
    more-held f a b h = by (any_pass (same_fact f) e.makes) (any_pass (λ p. is_at_or_below p (path_of f)) e.kills)
      where
        by : (m g : Bool) → cond m true (cond g false a) ≡ true → cond m true (cond g false b) ≡ true
        by true g k = refl
        by false true k = k
        by false false k = h k

    pub behind-held : (f : Fact) → behind f ≡ true → HeldBehind f
    behind-held f h hops held path = more-held f (labels i f) held (λ l. (label-holds i n f at-i).0 l hops held path) h

    held-behind : (f : Fact) → HeldBehind f → behind f ≡ true
    held-behind f h = by (holds-or_lacks (flow_of table p) f i)
      where
        by : Holds (flow_of table p) f i ⊎ Lacks (flow_of table p) f i → behind f ≡ true
        by (inl holds) =
            let r = reached i n at-i in
            let w = walk-common (flow_of table p) (init (0 ∷ [])) f r.0 (entry_of p) (node i) (held_at_start (init (0 ∷ []))) r.1 (held_at_start f) r.2 in
            more-held f w.0 (labels i f) (λ q. (label-holds i n f at-i).1 holds) (h r.0 w.0 w.1)
        by (inr lacks) = more-held f false (labels i f) (λ q. absurd (true≢false (sym q))) (h lacks.0 false lacks.1)

    pub behind-closed : (f g : Fact) → behind f ≡ true → IsIn g (prefixes table p.variables f) → behind g ≡ true
    behind-closed f g h m = held-behind g each
      where
        each : HeldBehind g
        each hops held path =
            let w = walk-common (flow_of table p) g f hops (entry_of p) (node i) (held_at_start g) held (held_at_start f) path in
            let f-held : held_after_edge e f w.0 ≡ true = behind-held f h hops w.0 w.1 in
            let f-path : IsControlPath (flow_of table p) f (hops ++ hop_by (point table p.variables n) e ∷ []) x.target true = subst (λ b. IsControlPath (flow_of table p) f (hops ++ hop_by (point table p.variables n) e ∷ []) x.target b) f-held (along f hops w.0 w.1) in
            sym (same_held _ _ (sym (held-closed table p (hops ++ hop_by (point table p.variables n) e ∷ []) x.target f g m f-path) ∙ along g hops held path))

    pub behind-there : (f : Fact) → behind f ≡ true → IsFactOf table p.variables f
    behind-there f h =
        let r = reached i n at-i in
        let w = walk-common (flow_of table p) (init (0 ∷ [])) f r.0 (entry_of p) (node i) (held_at_start (init (0 ∷ []))) r.1 (held_at_start f) r.2 in
        let held : held_after_edge e f w.0 ≡ true = behind-held f h r.0 w.0 w.1 in
        held-facts count table processes p formed typed (r.0 ++ hop_by (point table p.variables n) e ∷ []) x.target f (subst (λ b. IsControlPath (flow_of table p) f (r.0 ++ hop_by (point table p.variables n) e ∷ []) x.target b) held (along f r.0 w.0 w.1))

    -- the label of the target has nothing that is not held behind the edge
    pub low-behind : (k : ℕ) (y : Node) → x.target ≡ node k → slice_get ns k ≡ Some y → (f : Fact) → labels k f ≡ true → behind f ≡ true
    low-behind k y leads at-k f h = held-behind f each
      where
        each : HeldBehind f
        each hops held path =
            (label-holds k y f at-k).0 h (hops ++ hop_by (point table p.variables n) e ∷ []) (held_after_edge e f held) (subst (λ t. IsControlPath (flow_of table p) f (hops ++ hop_by (point table p.variables n) e ∷ []) t (held_after_edge e f held)) leads (along f hops held path))

  -- where the process begins there is a value at its port alone
  pub start-there : (f : Fact) → held_at_start f ≡ true → IsFactOf table p.variables f
  start-there f h = held-facts count table processes p formed typed [] (entry_of p) f (ap (λ b. standing_at (entry_of p) b) h)

  pub start-closed : (f g : Fact) → held_at_start f ≡ true → IsIn g (prefixes table p.variables f) → held_at_start g ≡ true
  start-closed f g h m = absurd (subst (λ (x : Fact). IsIn g (prefixes table p.variables x)) (same_fact-is f (init (0 ∷ [])) h) m)

  pub low-start : (k : ℕ) (y : Node) → entry_of p ≡ node k → slice_get ns k ≡ Some y → (f : Fact) → labels k f ≡ true → held_at_start f ≡ true
  low-start k y leads at-k f h = (label-holds k y f at-k).0 h [] (held_at_start f) (ap (λ t. standing_at t (held_at_start f)) leads)

  pub start-listed : (f : Fact) → IsIn f (init (0 ∷ []) ∷ []) ↔ (held_at_start f ≡ true)
  start-listed f = (λ m. into m, λ h. inl (same_fact-is f (init (0 ∷ [])) h))
    where
      into : IsIn f (init (0 ∷ []) ∷ []) → held_at_start f ≡ true
      into (inl e) = subst (λ (g : Fact). held_at_start g ≡ true) (sym e) (same_fact_self (init (0 ∷ [])))
      into (inr m) = absurd m
