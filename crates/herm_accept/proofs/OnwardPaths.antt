-- An onward flow of a flow leads to the same statements by as many hops, with no more held, so the same facts hold, the same are missing, and the shortest paths to them are as long.
use Rattle.std.specs.Option.{option_and_then}
use Rattle.std.proofs.Common.{◌≡◌, ℕ, zero, suc, ◌≤◌, ◌*◌, List, [], ◌∷◌, ◌++◌, map, flat_map, find, length, slice_get, Bool, true, false, cond, nat_eq, IsTrue, Option, Some, None, refl, sym, ap, ◌∙◌, subst, ap₂, inl, inr, arith}
use Rattle.std.proofs.lemmas.Bool.{eq-eqb}
use Rattle.herm_model.specs.Lists.{IsIn, numbered, any_pass}
use Rattle.herm_model.proofs.Lists.{found-in}
use Rattle.herm_model.specs.Paths.{Fact, init, same_fact, path_of, is_at_or_below}
use Rattle.herm_model.specs.Statements.{Differ}
use Rattle.herm_model.specs.Outcomes.{same_outcome}
use Rattle.herm_model.specs.Targets.{Target, node, end, end_by}
use Rattle.herm_model.specs.ControlPaths.{Edge, Point, Flow, Hop, Standing, edge_at, held_after_edge, held_at_start, walk, IsControlPath, IsReached, Holds}
use Rattle.herm_model.specs.Labels.{Labels, AreExact}
use Rattle.herm_model.specs.MissingFacts.{Demand, demands_at, demands, Refusal, AreRefusals, none as no_refusals, missing, holds}
use Rattle.herm_model.specs.laws.FlowLaws.{EdgesDiffer, IsThere}
use Rattle.herm_flow.specs.Onward.{is_node, leads_on, IsSameEdge, IsOnwardPoint, AreOnward, none as no_points, more, IsOnwardFlow}
use Rattle.herm_check.specs.Shortest.{AreShortest, AreNoLonger}
use Rattle.herm_accept.proofs.Picked.{outcome_self, outcomes_of, found-by_outcome, same-within, picked-differ}

-- ---- points

got-in : {X : Type 0} (xs : List X) (i : ℕ) (x : X) → slice_get xs i ≡ Some x → IsIn x xs
got-in [] i x h = cc
got-in (y ∷ xs) zero x h = inl cc
got-in (y ∷ xs) (suc i) x h = inr (got-in xs i x h)

pub onward-many : (ps qs : List Point) → AreOnward ps qs → length qs ≡ length ps
onward-many _ _ no_points = refl
onward-many _ _ (more p q ps qs is are) = ap suc (onward-many ps qs are)

-- the point of which this one is the onward point
record IsOf (q : Point) (ps : List Point) : Type 0 where
  pub point : Point
  pub member : IsIn point ps
  pub onward : IsOnwardPoint point q

point-of : (ps qs : List Point) → AreOnward ps qs → (q : Point) → IsIn q qs → IsOf q ps
point-of _ _ no_points q h = absurd h
point-of _ _ (more p r ps qs is are) q (inl same) = record { point = p; member = inl refl; onward = subst (λ (q : Point). IsOnwardPoint p q) (sym same) is }
point-of _ _ (more p r ps qs is are) q (inr member) = let k = point-of ps qs are q member in record { point = k.point; member = inr k.member; onward = k.onward }

-- no outcome comes twice at a point of an onward flow
pub differ-onward : (flow onward : Flow) → IsOnwardFlow flow onward → EdgesDiffer flow → EdgesDiffer onward
differ-onward flow onward is differ q h =
    let k = point-of flow.points onward.points is.points q h in
    picked-differ q.edges k.point.edges k.onward.edges.picked (differ k.point k.member)

-- each edge of an onward flow leads to a point that is there
pub there-onward : (flow onward : Flow) → IsOnwardFlow flow onward → ((p : Point) (e : Edge) → IsIn p flow.points → IsIn e p.edges → IsThere (length flow.points) e.target)
    → (q : Point) (e : Edge) → IsIn q onward.points → IsIn e q.edges → IsThere (length onward.points) e.target
there-onward flow onward is there q e h member =
    let k = point-of flow.points onward.points is.points q h in
    let other = same-within q.edges k.point.edges k.onward.edges.picked e member in
    subst (λ n. IsThere n e.target) (sym (onward-many flow.points onward.points is.points)) (subst (IsThere (length flow.points)) (sym other.same.target) (there k.point other.edge k.member other.member))

-- ---- hops

-- a hop takes this edge at a point
record Takes (hop : Hop) (o : Option Point) (e : Edge) : Type 0 where
  pub point : Point
  pub here : o ≡ Some point
  pub numbered : IsTrue (nat_eq point.number hop.number)
  pub member : IsIn e point.edges
  pub named : IsTrue (same_outcome e.outcome hop.outcome)

takes-edge : (hop : Hop) (o : Option Point) (e : Edge) → edge_at hop o ≡ Some e → Takes hop o e
takes-edge hop None e h = cc
takes-edge hop (Some p) e h = go (nat_eq p.number hop.number) refl h
  where
    go : (b : Bool) → nat_eq p.number hop.number ≡ b → cond b (find (λ (e : Edge). same_outcome e.outcome hop.outcome) p.edges) None ≡ Some e → Takes hop (Some p) e
    go true numbered found =
        let k = found-in (λ (e : Edge). same_outcome e.outcome hop.outcome) e p.edges found in
        record { point = p; here = refl; numbered = numbered; member = k.0; named = k.1 }
    go false numbered found = cc

edge-taken : (hop : Hop) (o : Option Point) (e : Edge) → ((p : Point) → o ≡ Some p → Differ (outcomes_of p.edges)) → Takes hop o e → edge_at hop o ≡ Some e
edge-taken hop o e differ takes =
    ap (edge_at hop) takes.here
    ∙ ap (λ b. cond b (find (λ (e : Edge). same_outcome e.outcome hop.outcome) takes.point.edges) None) takes.numbered
    ∙ found-by_outcome hop.outcome e takes.point.edges (differ takes.point takes.here) takes.member takes.named

same-point : (p q : Point) → Some p ≡ Some q → p ≡ q
same-point p q h = cc

-- a hop takes an edge at a point that is the same as this one
record TakesSame (hop : Hop) (o : Option Point) (d : Edge) : Type 0 where
  pub edge : Edge
  pub takes : Takes hop o edge
  pub same : IsSameEdge d edge

-- where an onward flow takes an edge at a place, the flow takes one that is the same
takes-all : (hop : Hop) (ps qs : List Point) → AreOnward ps qs → (j : ℕ) (e : Edge) → Takes hop (slice_get qs j) e → TakesSame hop (slice_get ps j) e
takes-all hop _ _ no_points j e takes = let k : ⊥ = cc takes.here in absurd k
takes-all hop _ _ (more p q ps qs is are) zero e takes =
    let at : takes.point ≡ q = sym (same-point q takes.point takes.here) in
    let other = same-within q.edges p.edges is.edges.picked e (subst (λ (q : Point). IsIn e q.edges) at takes.member) in
    record {
      edge = other.edge;
      takes = record {
        point = p;
        here = refl;
        numbered = subst (λ n. IsTrue (nat_eq n hop.number)) (ap (λ (q : Point). q.number) at ∙ is.number) takes.numbered;
        member = other.member;
        named = subst (λ o. IsTrue (same_outcome o hop.outcome)) other.same.outcome takes.named;
      };
      same = other.same;
    }
takes-all hop _ _ (more p q ps qs is are) (suc j) e takes = takes-all hop ps qs are j e takes

-- ---- what is held behind a hop

-- the first is not held where the second is not
abbrev NoMore : Bool → Bool → Type 0
NoMore less held = less ≡ true → held ≡ true

not_held : (less : Bool) → NoMore less false → less ≡ false
not_held false h = refl
not_held true h = let k : ⊥ = cc (h refl) in absurd k

-- behind an edge no more is held where no more was held before it
after-no_more : (e : Edge) (f : Fact) (less held : Bool) → NoMore less held → NoMore (held_after_edge e f less) (held_after_edge e f held)
after-no_more e f less held h = go (any_pass (same_fact f) e.makes) (any_pass (λ p. is_at_or_below p (path_of f)) e.kills)
  where
    go : (made lost : Bool) → NoMore (cond made true (cond lost false less)) (cond made true (cond lost false held))
    go true lost r = refl
    go false true r = cc
    go false false r = h r

-- an edge that leads to this place, with no more held behind it, is taken at a point
record TakesCovering (o : Option Point) (t : Target) (f : Fact) (less held : Bool) : Type 0 where
  pub hop : Hop
  pub edge : Edge
  pub takes : Takes hop o edge
  pub target : edge.target ≡ t
  pub no_more : NoMore (held_after_edge edge f less) held

-- an edge of a point is taken there
takes-it : (q : Point) (e : Edge) → IsIn e q.edges → Takes (record { number = q.number; outcome = e.outcome }) (Some q) e
takes-it q e member = record { point = q; here = refl; numbered = eq-eqb q.number q.number refl; member = member; named = outcome_self e.outcome }

-- where the flow takes an edge to a statement at a point, the onward point has one that covers it: an edge behind which the fact is not held, where it would not be held behind the edge, else any that leads where the edge leads
covers : (p q : Point) → IsOnwardPoint p q → (e : Edge) → IsIn e p.edges → IsTrue (leads_on e) → (f : Fact) (less held : Bool) → NoMore less held
    → TakesCovering (Some q) e.target f less (held_after_edge e f held)
covers p q is e member leads f less held h = go (held_after_edge e f less) refl (after-no_more e f less held h)
  where
    go : (b : Bool) → held_after_edge e f less ≡ b → NoMore b (held_after_edge e f held) → TakesCovering (Some q) e.target f less (held_after_edge e f held)
    go true r after =
        let k = (is.edges.covered e member leads).leads in
        record { hop = record { number = q.number; outcome = k.0.outcome }; edge = k.0; takes = takes-it q k.0 k.1; target = k.2; no_more = λ _. after refl }
    go false r after =
        let k = (is.edges.covered e member leads).lost f less r in
        record { hop = record { number = q.number; outcome = k.0.outcome }; edge = k.0; takes = takes-it q k.0 k.1; target = k.2; no_more = λ s. let c : ⊥ = cc (s, k.3) in absurd c }

-- and where the flow takes an edge to a statement at a place, an onward flow takes one that covers it
takes-onward : (ps qs : List Point) → AreOnward ps qs → (hop : Hop) (j : ℕ) (e : Edge) → IsTrue (leads_on e) → Takes hop (slice_get ps j) e → (f : Fact) (less held : Bool) → NoMore less held
    → TakesCovering (slice_get qs j) e.target f less (held_after_edge e f held)
takes-onward _ _ no_points hop j e leads takes f less held h = let k : ⊥ = cc takes.here in absurd k
takes-onward _ _ (more p q ps qs is are) hop zero e leads takes f less held h =
    covers p q is e (subst (λ (p : Point). IsIn e p.edges) (sym (same-point p takes.point takes.here)) takes.member) leads f less held h
takes-onward _ _ (more p q ps qs is are) hop (suc j) e leads takes f less held h = takes-onward ps qs are hop j e leads takes f less held h

-- ---- walks

-- The first hop of a walk takes an edge, and the others go on behind it.
record Begins (flow : Flow) (f : Fact) (hop : Hop) (hops : List Hop) (j : ℕ) (held : Bool) (s : Standing) : Type 0 where
  pub edge : Edge
  pub takes : Takes hop (slice_get flow.points j) edge
  pub behind : walk flow f hops edge.target (held_after_edge edge f held) ≡ Some s

walk-begins : (flow : Flow) (f : Fact) (hop : Hop) (hops : List Hop) (j : ℕ) (held : Bool) (s : Standing) → walk flow f (hop ∷ hops) (node j) held ≡ Some s → Begins flow f hop hops j held s
walk-begins flow f hop hops j held s h = go (edge_at hop (slice_get flow.points j)) refl h
  where
    go : (o : Option Edge) → edge_at hop (slice_get flow.points j) ≡ o → option_and_then (λ (e : Edge). walk flow f hops e.target (held_after_edge e f held)) o ≡ Some s → Begins flow f hop hops j held s
    go None found r = cc
    go (Some e) found r = record { edge = e; takes = takes-edge hop (slice_get flow.points j) e found; behind = r }

begun-walk : (flow : Flow) → EdgesDiffer flow → (f : Fact) (hop : Hop) (hops : List Hop) (j : ℕ) (held : Bool) (s : Standing) → Begins flow f hop hops j held s → walk flow f (hop ∷ hops) (node j) held ≡ Some s
begun-walk flow differ f hop hops j held s begins =
    ap (option_and_then (λ (e : Edge). walk flow f hops e.target (held_after_edge e f held)))
    (edge-taken hop (slice_get flow.points j) begins.edge (λ p is. differ p (got-in flow.points j p is)) begins.takes)
    ∙ begins.behind

abbrev here_of : Option Standing → Target
here_of None = end
here_of (Some s) = s.here

abbrev held_of : Option Standing → Bool
held_of None = false
held_of (Some s) = s.held

-- nothing leads on from an end
walked-node : (flow : Flow) (f : Fact) (hops : List Hop) (t : Target) (held last : Bool) (i : ℕ) → walk flow f hops t held ≡ Some (record { here = node i; held = last }) → is_node t ≡ true
walked-node flow f hops (node j) held last i h = refl
walked-node flow f [] end held last i h = ap (λ o. is_node (here_of o)) h
walked-node flow f (hop ∷ hops) end held last i h = cc
walked-node flow f [] (end_by e) held last i h = ap (λ o. is_node (here_of o)) h
walked-node flow f (hop ∷ hops) (end_by e) held last i h = cc

-- as many hops that walk from a target to a point where no more is held
record Walks (flow : Flow) (f : Fact) (many : ℕ) (t : Target) (less : Bool) (i : ℕ) (last : Bool) : Type 0 where
  pub hops : List Hop
  pub many_is : length hops ≡ many
  pub held : Bool
  pub walked : walk flow f hops t less ≡ Some (record { here = node i; held = held })
  pub no_more : NoMore held last

-- ---- what is held, and what is missing

demands-from : (i : ℕ) (ps qs : List Point) → AreOnward ps qs → flat_map demands_at (numbered i qs) ≡ flat_map demands_at (numbered i ps)
demands-from i _ _ no_points = refl
demands-from i _ _ (more p q ps qs is are) = ap₂ ◌++◌ (ap₂ (λ n needs. map (λ f. record { at = i; number = n; fact = f }) needs) is.number is.needs) (demands-from (suc i) ps qs are)

no_longer-as : (rs os ps : List Refusal) → AreNoLonger rs os → AreNoLonger os ps → AreNoLonger rs ps
no_longer-as [] [] [] h k = tt
no_longer-as [] [] (p ∷ ps) h k = absurd k
no_longer-as [] (o ∷ os) ps h k = absurd h
no_longer-as (r ∷ rs) [] ps h k = absurd h
no_longer-as (r ∷ rs) (o ∷ os) [] h k = absurd k
no_longer-as (r ∷ rs) (o ∷ os) (p ∷ ps) h k = (omega (arith, h.0, k.0), no_longer-as rs os ps h.1 k.1)

-- refusals of a flow with no longer paths than these
record HasRefusals (flow : Flow) (ds : List Demand) (rs : List Refusal) : Type 0 where
  pub others : List Refusal
  pub are : AreRefusals flow ds others
  pub no_longer : AreNoLonger others rs

module _ (flow onward : Flow) (is : IsOnwardFlow flow onward) (differ : EdgesDiffer flow) where
  -- a walk of an onward flow is one of the flow
  walks-all : (f : Fact) (hops : List Hop) (t : Target) (held : Bool) (s : Standing) → walk onward f hops t held ≡ Some s → walk flow f hops t held ≡ Some s
  walks-all f [] t held s h = h
  walks-all f (hop ∷ hops) (node j) held s h =
      let k = walk-begins onward f hop hops j held s h in
      let other = takes-all hop flow.points onward.points is.points j k.edge k.takes in
      begun-walk flow differ f hop hops j held s (record {
        edge = other.edge;
        takes = other.takes;
        behind = ap₂ (λ t held. walk flow f hops t held) (sym other.same.target) (sym (other.same.held f held)) ∙ walks-all f hops k.edge.target (held_after_edge k.edge f held) s k.behind;
      })
  walks-all f (hop ∷ hops) end held s h = cc
  walks-all f (hop ∷ hops) (end_by e) held s h = cc

  -- and where the flow walks to a statement, an onward flow does by as many hops, with no more held there, where no more was held before
  walks-onward : (f : Fact) (hops : List Hop) (t : Target) (less held last : Bool) (i : ℕ) → NoMore less held → walk flow f hops t held ≡ Some (record { here = node i; held = last })
      → Walks onward f (length hops) t less i last
  walks-onward f [] t less held last i no_more h = record {
    hops = [];
    many_is = refl;
    held = less;
    walked = ap (λ t. Some (record { here = t; held = less })) (ap here_of h);
    no_more = λ r. sym (ap held_of h) ∙ no_more r;
  }
  walks-onward f (hop ∷ hops) (node j) less held last i no_more h =
      let k = walk-begins flow f hop hops j held (record { here = node i; held = last }) h in
      let leads = walked-node flow f hops k.edge.target (held_after_edge k.edge f held) last i k.behind in
      let other = takes-onward flow.points onward.points is.points hop j k.edge leads k.takes f less held no_more in
      let again = walks-onward f hops k.edge.target (held_after_edge other.edge f less) (held_after_edge k.edge f held) last i other.no_more k.behind in
      record {
        hops = other.hop ∷ again.hops;
        many_is = ap suc again.many_is;
        held = again.held;
        walked = begun-walk onward (differ-onward flow onward is differ) f other.hop again.hops j less (record { here = node i; held = again.held }) (record {
          edge = other.edge;
          takes = other.takes;
          behind = rw other.target again.walked;
        });
        no_more = again.no_more;
      }
  walks-onward f (hop ∷ hops) end less held last i no_more h = cc
  walks-onward f (hop ∷ hops) (end_by e) less held last i no_more h = cc

  path-onward : (f : Fact) (hops : List Hop) (i : ℕ) (held : Bool) → IsControlPath flow f hops (node i) held → Walks onward f (length hops) onward.entry (held_at_start f) i held
  path-onward f hops i held h = walks-onward f hops onward.entry (held_at_start f) (held_at_start f) held i (λ r. r) (rw is.entry h)

  path-all : (f : Fact) (hops : List Hop) (i : ℕ) (held : Bool) → IsControlPath onward f hops (node i) held → IsControlPath flow f hops (node i) held
  path-all f hops i held h = rw (sym is.entry) (walks-all f hops onward.entry (held_at_start f) (record { here = node i; held = held }) h)

  -- an onward flow reaches each point that the flow reaches
  pub reached-onward : (i : ℕ) → IsReached flow (node i) → IsReached onward (node i)
  reached-onward i (hops, held, path) = let k = path-onward (init (0 ∷ [])) hops i held path in (k.hops, k.held, k.walked)

  holds-onward : (f : Fact) (i : ℕ) → Holds flow f i → Holds onward f i
  holds-onward f i h hops held path = h hops held (path-all f hops i held path)

  holds-all : (f : Fact) (i : ℕ) → Holds onward f i → Holds flow f i
  holds-all f i h hops held path = let k = path-onward f hops i held path in k.no_more (h k.hops k.held k.walked)

  -- exact labels of an onward flow are exact labels of the flow
  pub exact-onward : (labels : Labels) → AreExact onward labels → AreExact flow labels
  exact-onward labels exact i f reached =
      let k = exact i f (reached-onward i reached) in
      ((λ held. holds-all f i (k.0 held)), (λ holds. k.1 (holds-onward f i holds)))

  same-demands : demands onward ≡ demands flow
  same-demands = demands-from 0 flow.points onward.points is.points

  refusals-onward : (ds : List Demand) (rs : List Refusal) → AreRefusals flow ds rs → HasRefusals onward ds rs
  refusals-onward _ _ no_refusals = record { others = []; are = no_refusals; no_longer = tt }
  refusals-onward _ _ (missing d ds hops rs lacks rest) =
      let k = path-onward d.fact hops d.at false lacks in
      let again = refusals-onward ds rs rest in
      record {
        others = record { number = d.number; fact = d.fact; path = k.hops } ∷ again.others;
        are = missing d ds k.hops again.others (k.walked ∙ ap (λ b. Some (record { here = node d.at; held = b })) (not_held k.held k.no_more)) again.are;
        no_longer = (omega (arith, k.many_is), again.no_longer);
      }
  refusals-onward _ _ (holds d ds rs held rest) =
      let again = refusals-onward ds rs rest in
      record { others = again.others; are = holds d ds again.others (holds-onward d.fact d.at held) again.are; no_longer = again.no_longer }

  refusals-all : (ds : List Demand) (rs : List Refusal) → AreRefusals onward ds rs → AreRefusals flow ds rs
  refusals-all _ _ no_refusals = no_refusals
  refusals-all _ _ (missing d ds hops rs lacks rest) = missing d ds hops rs (path-all d.fact hops d.at false lacks) (refusals-all ds rs rest)
  refusals-all _ _ (holds d ds rs held rest) = holds d ds rs (holds-all d.fact d.at held) (refusals-all ds rs rest)

  least-all : (rs : List Refusal) → AreShortest onward rs → (others : List Refusal) → AreRefusals flow (demands flow) others → AreNoLonger rs others
  least-all rs are others refused =
      let k = refusals-onward (demands flow) others refused in
      no_longer-as rs k.others others (are.least k.others (subst (λ ds. AreRefusals onward ds k.others) (sym same-demands) k.are)) k.no_longer

  -- refusals of an onward flow with shortest paths are refusals of the flow with shortest paths
  pub shortest-onward : (rs : List Refusal) → AreShortest onward rs → AreShortest flow rs
  shortest-onward rs are = record {
    refusals = refusals-all (demands flow) rs (subst (λ ds. AreRefusals onward ds rs) same-demands are.refusals);
    least = least-all rs are;
    few = λ r member. subst (λ n. length r.path ≤ 2 * n) (onward-many flow.points onward.points is.points) (are.few r member);
  }

  -- what is needed holds at each point where it holds in an onward flow
  pub faultless-onward : ((d : Demand) → IsIn d (demands onward) → Holds onward d.fact d.at) → (d : Demand) → IsIn d (demands flow) → Holds flow d.fact d.at
  faultless-onward faultless d member = holds-all d.fact d.at (faultless d (subst (λ ds. IsIn d ds) (sym same-demands) member))
