-- Each checked program has lists of its labels' facts, and of what its edges drop.
use Rattle.std.proofs.Common.{◌≡◌, ◌↔◌, ℕ, zero, suc, ◌+◌, length, List, [], ◌∷◌, map, filter, flat_map, Bool, true, false, cond, IsTrue, Some, option_map, option_and_then, slice_get, inl, inr, refl, sym, ap, ap₂, subst, ◌∙◌, true≢false, arith}
use Rattle.herm_model.specs.Lists.{IsIn, any_pass, numbered}
use Rattle.herm_model.specs.Paths.{Path, Fact, init, path_of, same_fact, is_at_or_below}
use Rattle.herm_model.specs.Types.{TypeTable, is_within_depth, greatest_depth}
use Rattle.herm_model.specs.Statements.{Process}
use Rattle.herm_model.specs.Nodes.{Node, process_nodes, entry_of}
use Rattle.herm_model.specs.Exits.{Exit, exits}
use Rattle.herm_model.specs.Targets.{Target, node}
use Rattle.herm_model.specs.Labels.{Labels, label_at, AreExact}
use Rattle.herm_model.specs.Finalising.{excess}
use Rattle.herm_model.specs.ControlPaths.{Edge, Point, Flow, edge, flow_of, Hop, held_after_edge, held_at_start, walk, edge_from, IsControlPath}
use Rattle.herm_model.specs.TypedPrograms.{IsTypedProcess, IsTypedProgram}
use Rattle.herm_model.specs.WellFormedTables.{IsWellFormedTable}
use Rattle.herm_model.proofs.Options.{some-injective, none-not_some, chain-some, map-some}
use Rattle.herm_model.proofs.Lists.{length-map, slice_get-map, in-filter, in-filter_from, in-flat_map, each-first}
use Rattle.herm_model.proofs.FactTests.{listed-IsIn, got-IsIn}
use Rattle.herm_model.proofs.Equality.{same_fact-is}
use Rattle.herm_model.proofs.Walks.{edge_from-IsEdgeOf, same_held, walk-common}
use Rattle.herm_model.proofs.ExcessOrder.{facts-excess}
use Rattle.herm_forms.specs.Modules.{Module, module_of}
use Rattle.herm_source.specs.Modules.{Program}
use Rattle.herm_source.specs.AcceptedRuns.{IsCodeOf, AreCodesOf}
use Rattle.herm_translated.specs.CodeBlocks.{CheckedModule}
use Rattle.herm_translated.proofs.Joined.{got-within}
use Rattle.herm_good_images.specs.CheckedModules.{ListsFacts, DropsExcess}
use Rattle.herm_good_images.specs.laws.CheckedModulesExist.{CheckedProgramsHaveModules}
use Rattle.herm_good_images.proofs.facts.BehindEdges.{label-holds, behind-there, start-there}

-- the facts that a flow can hold
abbrev possible : Flow → List Fact
possible flow = init (0 ∷ []) ∷ flat_map (λ (p : Point). flat_map (λ (e : Edge). e.makes) p.edges) flow.points

after-among : (all : List Fact) (e : Edge) (f : Fact) (held : Bool) → ((g : Fact) → IsIn g e.makes → IsIn g all) → (held ≡ true → IsIn f all) → held_after_edge e f held ≡ true → IsIn f all
after-among all e f held makes before h = by (any_pass (same_fact f) e.makes) refl (any_pass (λ p. is_at_or_below p (path_of f)) e.kills) h
  where
    by : (m : Bool) → any_pass (same_fact f) e.makes ≡ m → (g : Bool) → cond m true (cond g false held) ≡ true → IsIn f all
    by true q g k = makes f (listed-IsIn f e.makes q)
    by false q true k = absurd (true≢false (sym k))
    by false q false k = before k

walk-among : (flow : Flow) (f : Fact) (hops : List Hop) (here there : Target) (held : Bool) → (held ≡ true → IsIn f (possible flow)) → walk flow f hops here held ≡ Some (record { here = there; held = true }) → IsIn f (possible flow)
walk-among flow f [] here there held before h = before (same_held _ _ h)
walk-among flow f (hop ∷ hops) here there held before h =
    let e = chain-some (λ (e : Edge). walk flow f hops e.target (held_after_edge e f held)) (edge_from flow here hop) _ h in
    let of = edge_from-IsEdgeOf flow here hop e.0 e.1 in
    walk-among flow f hops e.0.target there (held_after_edge e.0 f held)
    (after-among (possible flow) e.0 f held (λ g m. inr (in-flat_map (λ (p : Point). flat_map (λ (e : Edge). e.makes) p.edges) of.point g flow.points (got-IsIn flow.points of.at of.point of.point-is) (in-flat_map (λ (e : Edge). e.makes) e.0 g of.point.edges of.edge m))) before) e.2

numbered-get : {X : Type 0} (xs : List X) (k i : ℕ) (x : X) → slice_get xs i ≡ Some x → slice_get (numbered k xs) i ≡ Some (k + i, x)
numbered-get [] k i x e = none-not_some e
numbered-get (y ∷ xs) k zero x e = ap₂ (λ n z. Some (n, z)) (omega arith) (some-injective e)
numbered-get (y ∷ xs) k (suc i) x e = numbered-get xs (suc k) i x e ∙ ap (λ n. Some (n, x)) (omega arith)

numbered-place : {X : Type 0} (xs : List X) (k i : ℕ) (at : ℕ × X) → slice_get (numbered k xs) i ≡ Some at → (at.0 ≡ k + i) × (slice_get xs i ≡ Some at.1)
numbered-place [] k i at e = none-not_some e
numbered-place (x ∷ xs) k zero at e = let s = some-injective e in (sym (ap (λ (y : ℕ × _). y.0) s) ∙ omega arith, ap (λ (y : ℕ × _). Some y.1) s)
numbered-place (x ∷ xs) k (suc i) at e = let r = numbered-place xs (suc k) i at e in (let q = r.0 in omega (arith, q), r.1)

numbered-many : {X : Type 0} (xs : List X) (k : ℕ) → length (numbered k xs) ≡ length xs
numbered-many [] k = refl
numbered-many (x ∷ xs) k = ap suc (numbered-many xs (suc k))

module _ (count : ℕ) (table : TypeTable) (processes : List Process) (p : Process) (labels : Labels) (typed : IsTypedProcess count table processes p) (formed : IsWellFormedTable count table) (exact : AreExact (flow_of table p) labels) where
  abbrev ns : List Node
  ns = process_nodes p

  abbrev facts_at : ℕ × Node → List Fact
  facts_at at = filter (λ f. labels at.0 f) (possible (flow_of table p))

  abbrev held_along : ℕ → Node → Exit → Fact → Bool
  held_along i n x f = held_after_edge (edge table p.variables n.form x) f (labels i f)

  abbrev drops_along : ℕ → Node → Exit → List Path
  drops_along i n x = excess table p.variables (λ q. held_along i n x (init q)) (λ q. label_at labels x.target (init q))

  abbrev drops_at : ℕ × Node → List (List Path)
  drops_at at = map (drops_along at.0 at.1) (exits table p.variables at.1)

  -- the module of a process with exact labels
  abbrev pub made : CheckedModule
  made = record {
    code = module_of table p labels;
    facts = map facts_at (numbered 0 ns);
    entry_drops = excess table p.variables (λ q. held_at_start (init q)) (λ q. label_at labels (entry_of p) (init q));
    drops = map drops_at (numbered 0 ns);
  }

  label-possible : (i : ℕ) (n : Node) (f : Fact) → slice_get ns i ≡ Some n → labels i f ≡ true → IsIn f (possible (flow_of table p))
  label-possible i n f e h =
      let r = typed.reached i (got-within ns i n e) in
      let w = walk-common (flow_of table p) (init (0 ∷ [])) f r.0 (entry_of p) (node i) (held_at_start (init (0 ∷ []))) r.1 (held_at_start f) r.2 in
      let held : w.0 ≡ true = (label-holds count table processes p labels typed formed exact i n f e).0 h r.0 w.0 w.1 in
      walk-among (flow_of table p) f r.0 (entry_of p) (node i) (held_at_start f) (λ q. inl (same_fact-is f (init (0 ∷ [])) q)) (subst (λ b. IsControlPath (flow_of table p) f r.0 (node i) b) held w.1)

  pub made-lists : ListsFacts made
  made-lists = record {
    many = length-map facts_at (numbered 0 ns) ∙ numbered-many ns 0;
    listed = λ i fs f e.
        (let at = map-some facts_at (slice_get (numbered 0 ns) i) fs (sym (slice_get-map facts_at (numbered 0 ns) i) ∙ e) in
        let place = numbered-place ns 0 i at.0 at.1 in
        let here : at.0.0 ≡ i = (let q = place.0 in omega (arith, q)) in
        subst (λ xs. IsIn f xs ↔ (labels i f ≡ true)) at.2 (
          (λ m. sym (ap (λ k. labels k f) here) ∙ (in-filter_from (λ f. labels at.0.0 f) f (possible (flow_of table p)) m).1),
          λ h. in-filter (λ f. labels at.0.0 f) f (possible (flow_of table p)) (label-possible i at.0.1 f place.1 h) (ap (λ k. labels k f) here ∙ h),
        ));
  }

  deep : (t : ℕ) → IsIn t p.variables → IsTrue (is_within_depth greatest_depth table t)
  deep t m = formed.shallow t (typed.variables_known t m)

  pub made-drops : DropsExcess made
  made-drops = record {
    begins = (facts-excess table p.variables held_at_start (label_at labels (entry_of p)) deep (λ q h. start-there count table processes p labels typed formed exact (init q) h) made.entry_drops).1 refl;
    edges = λ i j n x at-i at-j. (
      drops_along i n x,
      ap (option_and_then (λ edges. slice_get edges j)) (slice_get-map drops_at (numbered 0 ns) i ∙ ap (option_map drops_at) (numbered-get ns 0 i n at-i ∙ ap (λ k. Some (k, n)) (omega arith)))
          ∙ slice_get-map (drops_along i n) (exits table p.variables n) j ∙ ap (option_map (drops_along i n)) at-j,
      (facts-excess table p.variables (held_along i n x) (label_at labels x.target) deep (λ q h. behind-there count table processes p labels typed formed exact i n x at-i (got-IsIn (exits table p.variables n) j x at-j) (init q) h) (drops_along i n x)).1 refl,
    );
  }

module _ (count : ℕ) (program : Program) (typed : IsTypedProgram count program.types program.processes program.main) where
  -- what each of these modules has
  abbrev AreMade : List CheckedModule → Type 0
  AreMade ms = (m : CheckedModule) → IsIn m ms → ListsFacts m × DropsExcess m

  all-made : (ps : List Process) → ((p : Process) → IsIn p ps → IsIn p program.processes) → (codes : List Module) → AreCodesOf program ps codes → (ms : List CheckedModule) × (map (λ (m : CheckedModule). m.code) ms ≡ codes) × AreMade ms
  all-made [] among [] h = ([], refl, λ m i. absurd i)
  all-made [] among (c ∷ cs) h = absurd h
  all-made (p ∷ ps) among [] h = absurd h
  all-made (p ∷ ps) among (c ∷ cs) h = by h.0 (all-made ps (λ q i. among q (inr i)) cs h.1)
    where
      by : IsCodeOf program p c → (ms : List CheckedModule) × (map (λ (m : CheckedModule). m.code) ms ≡ cs) × AreMade ms → (ms : List CheckedModule) × (map (λ (m : CheckedModule). m.code) ms ≡ c ∷ cs) × AreMade ms
      by (labels, e, exact, accepted) (ms, same, have) =
          let here = typed.modules p (among p (inl refl)) in (
            made count program.types program.processes p labels here typed.types exact ∷ ms,
            ap₂ ◌∷◌ (sym e) same,
            each-first (λ m. ListsFacts m × DropsExcess m) _ ms (made-lists count program.types program.processes p labels here typed.types exact, made-drops count program.types program.processes p labels here typed.types exact) have,
          )

pub modules-exist : CheckedProgramsHaveModules
modules-exist count program made checked =
    let r = all-made count program checked.typed program.processes (λ p i. i) made.codes checked.accepted.codes in (
      r.0,
      r.1,
      record {
        checked = record { typed = checked.typed; accepted = record { types = refl; codes = subst (AreCodesOf program program.processes) (sym r.1) checked.accepted.codes; main = refl } };
        lists = λ m i. (r.2 m i).0;
        drops = λ m i. (r.2 m i).1;
      },
    )
