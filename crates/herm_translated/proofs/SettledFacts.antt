-- The facts of a block that no edge leads to, and which the form before hands on, are those of its node's label.
use Rattle.std.proofs.Common.{◌≡◌, ◌↔◌, ℕ, zero, suc, ◌+◌, length, List, [], ◌∷◌, ◌++◌, filter, Bool, true, false, cond, not, ◌||◌, nat_eq, Some, option_map, slice_get, ◌⊎◌, inl, inr, refl, sym, ap, ap₂, subst, ◌∙◌, arith, true≢false}
use Rattle.std.proofs.lemmas.Bool.{eq-eqb, eqb-true}
use Rattle.herm_model.specs.Lists.{IsIn, any_pass}
use Rattle.herm_model.specs.Paths.{Path, Fact, path_of, same_fact, is_at_or_below}
use Rattle.herm_model.specs.Types.{TypeTable}
use Rattle.herm_model.specs.Statements.{Form, Process}
use Rattle.herm_model.specs.Outcomes.{ok}
use Rattle.herm_model.specs.Labels.{Labels, label_at, AreInductive, AreExact}
use Rattle.herm_model.specs.Targets.{Target, node, end, end_by}
use Rattle.herm_model.specs.Nodes.{Node, process_nodes, entry_of}
use Rattle.herm_model.specs.Exits.{Exit, exits}
use Rattle.herm_model.specs.FactsOfStatements.{makes, kills}
use Rattle.herm_model.specs.ControlPaths.{Edge, Point, Flow, edge, point, flow_of, held_after_edge, held_at_start, IsReached}
use Rattle.herm_model.specs.TypedPrograms.{IsTypedProcess}
use Rattle.herm_model.specs.laws.FlowLaws.{IsLedTo, begins, goes_on, IsThere}
use Rattle.herm_model.proofs.Options.{some-injective, none-not_some, map-some}
use Rattle.herm_model.proofs.Lists.{length-map, slice_get-map, in-append_left, in-append_right, in-append_cases, in-map, in-map_from, in-filter, in-filter_from, cons-head, and-both}
use Rattle.herm_model.proofs.FactTests.{listed-IsIn, IsIn-listed, got-IsIn}
use Rattle.herm_model.proofs.Walks.{flows-Holds}
use Rattle.herm_model.proofs.Reached.{standing_at, reached-IsLedTo}
use Rattle.herm_model.proofs.DifferentOutcomes.{process-EdgesDiffer}
use Rattle.herm_forms.specs.Modules.{Module, module_of}
use Rattle.herm_forms.proofs.HeldLabels.{exact-flows}
use Rattle.herm_instructions.specs.Labels.{Slot}
use Rattle.herm_instructions.specs.Images.{Image}
use Rattle.herm_translated.specs.Departures.{Arrival, to_block, to_second_step, Departure}
use Rattle.herm_translated.specs.CodeBlocks.{CheckedModule, CodeBlock, is_for, slots_within, first_list, further_lists, number_at, slots_around, arrival_at, departure, departures_of, edges_of, goes_onward, block_of, blocks_from, blocks_of, entry_edge}
use Rattle.herm_translated.specs.BlockLabels.{facts_after, comes_first}
use Rattle.herm_translated.specs.Settled.{settled_from}
use Rattle.herm_translated.specs.laws.CheckedBlocks.{checked, facts_in, SettledFactsAreListed}
use Rattle.herm_translated.proofs.Joined.{got-within}
use Rattle.herm_translated.proofs.StructureKept.{led-entry, led-edge}
use Rattle.herm_translated.proofs.PlainEdges.{one-plain}
use Rattle.herm_translated.proofs.LinkedProcess.{departure-arrives, departure-outcome, node-block, second-loop}

-- what is held behind an edge, by a test for what is held before it, is listed behind it by a list of the latter
pub listed-behind : (types : TypeTable) (variables : List ℕ) (n : Node) (x : Exit) (facts : List Fact) (before : Fact → Bool) → ((f : Fact) → IsIn f facts ↔ (before f ≡ true)) → (f : Fact)
    → IsIn f (facts_after types variables n.form x.outcome facts) ↔ (held_after_edge (edge types variables n.form x) f (before f) ≡ true)
listed-behind types variables n x facts before listed f = (λ m. into (in-append_cases f made _ m), λ h. from (any_pass (same_fact f) made) refl (gone f) refl h)
  where
    made : List Fact
    made = makes types variables n.form x.outcome

    gone : Fact → Bool
    gone g = any_pass (λ p. is_at_or_below p (path_of g)) (kills types variables n.form x.outcome)

    un-not : (b : Bool) → not b ≡ true → b ≡ false
    un-not true e = absurd (true≢false (sym e))
    un-not false e = refl

    whatever : (a : Bool) → cond a true true ≡ true
    whatever true = refl
    whatever false = refl

    into : IsIn f made ⊎ IsIn f (filter (λ g. not (gone g)) facts) → cond (any_pass (same_fact f) made) true (cond (gone f) false (before f)) ≡ true
    into (inl a) = ap (λ b. cond b true (cond (gone f) false (before f))) (IsIn-listed f made a)
    into (inr b) =
        let r = in-filter_from (λ g. not (gone g)) f facts b in
        ap (λ g. cond (any_pass (same_fact f) made) true (cond g false (before f))) (un-not (gone f) r.1) ∙ ap (cond (any_pass (same_fact f) made) true) ((listed f).0 r.0) ∙ whatever (any_pass (same_fact f) made)

    from : (a : Bool) → any_pass (same_fact f) made ≡ a → (g : Bool) → gone f ≡ g → cond a true (cond g false (before f)) ≡ true → IsIn f (made ++ filter (λ g. not (gone g)) facts)
    from true e g q h = in-append_left f made _ (listed-IsIn f made e)
    from false e true q h = absurd (true≢false (sym h))
    from false e false q h = in-append_right f made _ (in-filter (λ g. not (gone g)) f facts ((listed f).1 h) (ap not q))

-- behind an edge no less is held where no less was held before
more-held : (e : Edge) (f : Fact) (a b : Bool) → (a ≡ true → b ≡ true) → held_after_edge e f a ≡ true → held_after_edge e f b ≡ true
more-held e f a b h = by (any_pass (same_fact f) e.makes) (any_pass (λ p. is_at_or_below p (path_of f)) e.kills)
  where
    by : (m g : Bool) → cond m true (cond g false a) ≡ true → cond m true (cond g false b) ≡ true
    by true g k = refl
    by false true k = k
    by false false k = h k

facts-further : (facts : List (List Fact)) (k : ℕ) → facts_in (further_lists facts) k ≡ facts_in facts (suc k)
facts-further [] k = refl
facts-further (fs ∷ facts) k = refl

facts-first : (facts : List (List Fact)) → first_list facts ≡ facts_in facts 0
facts-first [] = refl
facts-first (fs ∷ facts) = refl

module _ (types : TypeTable) (variables : List ℕ) (led : ℕ → Bool) where
  abbrev from_on : ℕ → List Fact → List Node → List (List Fact) → List (List Fact)
  from_on = settled_from types variables led

  pub settled-many : (i : ℕ) (handed : List Fact) (ns : List Node) (facts : List (List Fact)) → length (from_on i handed ns facts) ≡ length ns
  settled-many i handed [] facts = refl
  settled-many i handed (n ∷ ns) facts = ap suc (settled-many (suc i) _ ns (further_lists facts))

  settled-first : (i : ℕ) (handed : List Fact) (ns : List Node) (facts : List (List Fact)) (y : Node) → slice_get ns 0 ≡ Some y → facts_in (from_on i handed ns facts) 0 ≡ cond (led i || is_for y.form) (facts_in facts 0) handed
  settled-first i handed [] facts y e = none-not_some e
  settled-first i handed (n ∷ ns) facts y e =
      ap (λ fs. cond (led i || is_for n.form) fs handed) (facts-first facts) ∙ ap (λ (n : Node). cond (led i || is_for n.form) (facts_in facts 0) handed) (some-injective e)

  -- the facts of a node behind another
  pub settled-next : (i : ℕ) (handed : List Fact) (ns : List Node) (facts : List (List Fact)) (k : ℕ) (n y : Node) → slice_get ns k ≡ Some n → slice_get ns (suc k) ≡ Some y
      → facts_in (from_on i handed ns facts) (suc k) ≡ cond (led (i + suc k) || is_for y.form) (facts_in facts (suc k)) (facts_after types variables n.form ok (facts_in (from_on i handed ns facts) k))
  settled-next i handed [] facts k n y e g = none-not_some e
  settled-next i handed (m ∷ ns) facts zero n y e g =
      settled-first (suc i) _ ns (further_lists facts) y g
      ∙ ap₂ (λ j fs. cond (led j || is_for y.form) fs (facts_after types variables m.form ok (cond (led i || is_for m.form) (first_list facts) handed))) (omega arith) (facts-further facts 0)
      ∙ ap (λ (n : Node). cond (led (i + 1) || is_for y.form) (facts_in facts 1) (facts_after types variables n.form ok (cond (led i || is_for m.form) (first_list facts) handed))) (some-injective e)
  settled-next i handed (m ∷ ns) facts (suc k) n y e g =
      settled-next (suc i) _ ns (further_lists facts) k n y e g
      ∙ ap₂ (λ j fs. cond (led j || is_for y.form) fs (facts_after types variables n.form ok (facts_in (from_on i handed (m ∷ ns) facts) (suc k)))) (omega arith) (facts-further facts (suc k))

-- an arrival at a block
abbrev block_in : Arrival → ℕ
block_in (to_block n) = n
block_in a = 0

module _ (count : ℕ) (table : TypeTable) (processes : List Process) (p : Process) (labels : Labels) (facts : List (List Fact)) (entry_drops : List Path) (drops : List (List (List Path))) (typed : IsTypedProcess count table processes p) where
  abbrev c : Module
  c = module_of table p labels

  abbrev ns : List Node
  ns = process_nodes p

  abbrev flow : Flow
  flow = flow_of table p

  abbrev m : CheckedModule
  m = checked table p labels facts entry_drops drops

  abbrev image : Image
  image = record { modules = []; constants = []; types = table }

  abbrev led : ℕ → Bool
  led k = comes_first (entry_edge m) (blocks_of m) k

  abbrev slots_of : ℕ → Node → List Slot
  slots_of i n = slots_within table p.variables n.number n.form (slots_around c i)

  place-block : (k : ℕ) (ns : List Node) (facts : List (List Fact)) (drops : List (List (List Path))) (i : ℕ) (n : Node) → slice_get ns i ≡ Some n → (fs : List Fact) × (ds : List (List Path)) × (slice_get (blocks_from c k ns facts drops) i ≡ Some (block_of c (k + i) n fs ds))
  place-block k [] facts drops i n e = none-not_some e
  place-block k (y ∷ ns) facts drops zero n e = (first_list facts, first_list drops, ap₂ (λ j (n : Node). Some (block_of c j n (first_list facts) (first_list drops))) (omega arith) (some-injective e))
  place-block k (y ∷ ns) facts drops (suc i) n e =
      let r = place-block (suc k) ns (further_lists facts) (further_lists drops) i n e in
      (r.0, r.1, r.2 ∙ ap (λ j. Some (block_of c j n r.0 r.1)) (omega arith))

  exit-in : (slots : List Slot) (xs : List Exit) (drops : List (List Path)) (x : Exit) → IsIn x xs → (d : Departure) × IsIn d (departures_of c slots xs drops) × (d.arrival ≡ arrival_at c slots x.target)
  exit-in slots [] drops x h = absurd h
  exit-in slots (z ∷ xs) drops x (inl e) = (departure c slots z.outcome z.target (first_list drops), inl refl, departure-arrives c slots z.outcome z.target (first_list drops) ∙ ap (λ (x : Exit). arrival_at c slots x.target) (sym e))
  exit-in slots (z ∷ xs) drops x (inr h) = let r = exit-in slots xs (further_lists drops) x h in (r.0, inr r.1, r.2)

  -- where there is one departure, there is one exit
  single : (slots : List Slot) (xs : List Exit) (drops : List (List Path)) (e : Departure) → departures_of c slots xs drops ≡ e ∷ [] → (x : Exit) → IsIn x xs → (xs ≡ x ∷ []) × (x.outcome ≡ e.outcome)
  single slots [] drops e q x h = absurd h
  single slots (z ∷ []) drops e q x (inl h) = (
    ap (λ (z : Exit). z ∷ []) (sym h),
    ap (λ (x : Exit). x.outcome) h ∙ sym (departure-outcome c slots z.outcome z.target (first_list drops)) ∙ ap (λ (d : Departure). d.outcome) (cons-head q),
  )
  single slots (z ∷ []) drops e q x (inr h) = absurd h
  single slots (z ∷ w ∷ xs) drops e q x h = let k : ⊥ = cc in absurd k

  module _ (k : ℕ) (y : Node) (at-k : slice_get ns k ≡ Some y) (unled : led k ≡ false) (plain : is_for y.form ≡ false) where
    there : IsThere (length flow.points) (node k)
    there = let low = got-within ns k y at-k in let many = length-map (point table p.variables) ns in omega (arith, low, many)

    not-entry : entry_of p ≡ node k → ⊥
    not-entry e = true≢false (sym (led-entry count image p.variables (entry_edge m) (blocks_of m) k (ap (λ t. (departure c [] ok t entry_drops).arrival) e)) ∙ unled)

    -- the node before it alone leads there, by its only exit
    abbrev IsBefore : ℕ → Node → Exit → Type 0
    IsBefore i n x = (k ≡ suc i) × (exits table p.variables n ≡ x ∷ []) × (x.outcome ≡ ok)

    arrives-first : (i : ℕ) (n : Node) → IsIn n ns → arrival_at c (slots_of i n) (node k) ≡ to_block k
    arrives-first i n in-n = by (any_pass (λ (s : Slot). nat_eq s.number (number_at c k)) (slots_of i n)) refl
      where
        by : (t : Bool) → any_pass (λ (s : Slot). nat_eq s.number (number_at c k)) (slots_of i n) ≡ t → cond t (to_second_step k) (to_block k) ≡ to_block k
        by false e = refl
        by true e =
            let loop = second-loop count table processes p labels facts entry_drops drops typed n i k in-n there e in
            let here = node-block c 0 ns facts drops k y at-k in
            let form : y.form ≡ Form.For loop.1 loop.2 = sym here.2 ∙ ap (λ (b : CodeBlock). b.form) (some-injective (sym here.1 ∙ loop.3)) ∙ loop.4 in
            absurd (true≢false (sym (ap is_for form) ∙ plain))

    only-from : (i : ℕ) (n : Node) (x : Exit) → slice_get ns i ≡ Some n → IsIn x (exits table p.variables n) → x.target ≡ node k → IsBefore i n x
    only-from i n x at in-x leads = by (goes_onward c i all) refl
      where
        b : (fs : List Fact) × (ds : List (List Path)) × (slice_get (blocks_of m) i ≡ Some (block_of c i n fs ds))
        b = let r = place-block 0 ns facts drops i n at in (r.0, r.1, r.2 ∙ ap (λ j. Some (block_of c j n r.0 r.1)) (omega arith))

        all : List Departure
        all = edges_of c i n b.1

        d : (d : Departure) × IsIn d all × (d.arrival ≡ arrival_at c (slots_of i n) x.target)
        d = exit-in (slots_of i n) (exits table p.variables n) b.1 x in-x

        to-k : d.0.arrival ≡ to_block k
        to-k = d.2 ∙ ap (arrival_at c (slots_of i n)) leads ∙ arrives-first i n (got-IsIn ns i n at)

        by : (t : Bool) → goes_onward c i all ≡ t → IsBefore i n x
        by false e =
            absurd (true≢false (sym (led-edge count image p.variables (entry_edge m) (blocks_of m) (block_of c i n b.0 b.1) d.0 k (got-IsIn (blocks_of m) i (block_of c i n b.0 b.1) b.2) (subst (λ t. IsIn d.0 (cond t [] all)) (sym e) d.1) to-k) ∙ unled))
        by true e =
            let one = one-plain (suc i) all (and-both _ _ e).0 in
            let s = single (slots_of i n) (exits table p.variables n) b.1 one.edge one.only x in-x in
            (ap block_in (sym to-k ∙ ap (λ (d : Departure). d.arrival) (same one.edge (subst (IsIn d.0) one.only d.1)) ∙ one.arrival), s.0, s.1 ∙ one.outcome)
          where
            same : (e : Departure) → IsIn d.0 (e ∷ []) → d.0 ≡ e
            same e (inl q) = q
            same e (inr q) = absurd q

    -- so control comes there from it
    pub before : (i : ℕ) × (n : Node) × (x : Exit) × (slice_get ns i ≡ Some n) × IsIn x (exits table p.variables n) × (x.target ≡ node k)
    before = last (node k) (reached-IsLedTo flow (node k) (typed.reached k (got-within ns k y at-k))) refl
      where
        last : (t : Target) → IsLedTo flow t → t ≡ node k → (i : ℕ) × (n : Node) × (x : Exit) × (slice_get ns i ≡ Some n) × IsIn x (exits table p.variables n) × (x.target ≡ node k)
        last _ begins e = absurd (not-entry e)
        last _ (goes_on i q e l at member) leads =
            let n = map-some (point table p.variables) (slice_get ns i) q (sym (slice_get-map (point table p.variables) ns i) ∙ at) in
            let x = in-map_from (edge table p.variables n.0.form) e (exits table p.variables n.0) (subst (λ (q : Point). IsIn e q.edges) (sym n.2) member) in
            (i, n.0, x.0, n.1, x.1, sym (ap (λ (e : Edge). e.target) x.2) ∙ leads)

    module _ (exact : AreExact flow labels) where
      abbrev pub i : ℕ
      i = before.0

      abbrev pub n : Node
      n = before.1

      abbrev pub x : Exit
      x = before.2

      at-i : slice_get ns i ≡ Some n
      at-i = before.3

      is_before : IsBefore i n x
      is_before = only-from i n x at-i before.4 before.5

      abbrev pub the_edge : Edge
      the_edge = edge table p.variables n.form x

      at-point : (j : ℕ) (z : Node) → slice_get ns j ≡ Some z → slice_get flow.points j ≡ Some (point table p.variables z)
      at-point j z e = slice_get-map (point table p.variables) ns j ∙ ap (option_map (point table p.variables)) e

      flows : (j : ℕ) (q : Point) (e : Edge) (f : Fact) (t : Target) → slice_get flow.points j ≡ Some q → IsIn e q.edges → e.target ≡ t → label_at labels t f ≡ true → held_after_edge e f (labels j f) ≡ true
      flows j q e f t at member leads h =
          exact-flows flow labels exact (process-EdgesDiffer table p typed.blocks) j q e f at member (typed.reached j (let low = got-within flow.points j q at in let many = length-map (point table p.variables) ns in omega (arith, low, many))) t leads h

      low : (f : Fact) → labels k f ≡ true → held_after_edge the_edge f (labels i f) ≡ true
      low f h = flows i (point table p.variables n) the_edge f (node k) (at-point i n at-i) (in-map (edge table p.variables n.form) x (exits table p.variables n) before.4) before.5 h

      -- the labels with what the edge hands on
      abbrev raised : Labels
      raised j f = cond (nat_eq j k) (held_after_edge the_edge f (labels i f)) (labels j f)

      raised-else : (j : ℕ) (f : Fact) → (j ≡ k → ⊥) → raised j f ≡ labels j f
      raised-else j f other = by (nat_eq j k) refl
        where
          by : (t : Bool) → nat_eq j k ≡ t → cond t (held_after_edge the_edge f (labels i f)) (labels j f) ≡ labels j f
          by true e = absurd (other (eqb-true j k e))
          by false e = refl

      raised-more : (j : ℕ) (f : Fact) → labels j f ≡ true → raised j f ≡ true
      raised-more j f h = by (nat_eq j k) refl
        where
          by : (t : Bool) → nat_eq j k ≡ t → cond t (held_after_edge the_edge f (labels i f)) (labels j f) ≡ true
          by true e = low f (ap (λ j. labels j f) (sym (eqb-true j k e)) ∙ h)
          by false e = h

      raised-inductive : AreInductive flow raised
      raised-inductive = record { begins = λ f h. start (entry_of p) refl f h; goes_on = λ j q e f at member h. on j q e f at member e.target refl h }
        where
          start : (t : Target) → entry_of p ≡ t → (f : Fact) → label_at raised t f ≡ true → held_at_start f ≡ true
          start end e f h = absurd (true≢false (sym h))
          start (end_by z) e f h = absurd (true≢false (sym h))
          start (node j) e f h =
              let there : IsReached flow (node j) = subst (IsReached flow) e ([], _, refl) in
              (exact j f there).0 (sym (raised-else j f (λ q. not-entry (e ∙ ap node q))) ∙ h) [] (held_at_start f) (ap (λ t. standing_at t (held_at_start f)) e)

          on : (j : ℕ) (q : Point) (e : Edge) (f : Fact) → slice_get flow.points j ≡ Some q → IsIn e q.edges → (t : Target) → e.target ≡ t → label_at raised t f ≡ true → held_after_edge e f (raised j f) ≡ true
          on j q e f at member end leads h = absurd (true≢false (sym h))
          on j q e f at member (end_by z) leads h = absurd (true≢false (sym h))
          on j q e f at member (node t) leads h = by (nat_eq t k) refl h
            where
              by : (b : Bool) → nat_eq t k ≡ b → cond b (held_after_edge the_edge f (labels i f)) (labels t f) ≡ true → held_after_edge e f (raised j f) ≡ true
              by false differs h = more-held e f (labels j f) (raised j f) (raised-more j f) (flows j q e f (node t) at member leads h)
              by true same h =
                  let z = map-some (point table p.variables) (slice_get ns j) q (sym (slice_get-map (point table p.variables) ns j) ∙ at) in
                  let w = in-map_from (edge table p.variables z.0.form) e (exits table p.variables z.0) (subst (λ (q : Point). IsIn e q.edges) (sym z.2) member) in
                  let o = only-from j z.0 w.0 z.1 w.1 (sym (ap (λ (e : Edge). e.target) w.2) ∙ leads ∙ ap node (eqb-true t k same)) in
                  let ke = is_before.0 in
                  let ko = o.0 in
                  let place : j ≡ i = omega (arith, ke, ko) in
                  let node-is : z.0 ≡ n = some-injective (sym z.1 ∙ ap (slice_get ns) place ∙ at-i) in
                  let exit-is : w.0 ≡ x = cons-head (sym o.1 ∙ ap (λ (n : Node). exits table p.variables n) node-is ∙ is_before.1) in
                  let edge-is : e ≡ the_edge = w.2 ∙ ap₂ (λ (n : Node) (x : Exit). edge table p.variables n.form x) node-is exit-is in
                  let as_before : raised j f ≡ labels i f = raised-else j f (λ q. absurd (omega (arith, q, ko))) ∙ ap (λ j. labels j f) place in
                  ap₂ (λ (e : Edge) h. held_after_edge e f h) edge-is as_before ∙ h

      -- its label has what is held behind the edge, and nothing else
      pub label-handed : (f : Fact) → (held_after_edge the_edge f (labels i f) ≡ true) ↔ (labels k f ≡ true)
      label-handed f = (
        λ h. (exact k f (typed.reached k (got-within ns k y at-k))).1 (flows-Holds flow raised raised-inductive k f (ap (λ t. cond t (held_after_edge the_edge f (labels i f)) (labels k f)) (eq-eqb k k refl) ∙ h)),
        low f,
      )

  module _ (exact : AreExact flow labels) (listed : (i : ℕ) (n : Node) (f : Fact) → slice_get ns i ≡ Some n → IsIn f (facts_in facts i) ↔ (labels i f ≡ true)) where
    abbrev new_facts : List (List Fact)
    new_facts = settled_from table p.variables led 0 [] ns facts

    or-falses : (a b : Bool) → (a || b) ≡ false → (a ≡ false) × (b ≡ false)
    or-falses true b e = absurd (true≢false e)
    or-falses false b e = (refl, e)

    abbrev IsListed : ℕ → Fact → List Fact → Type 0
    IsListed k f fs = IsIn f fs ↔ (labels k f ≡ true)

    settled-listed : (k : ℕ) (y : Node) (f : Fact) → slice_get ns k ≡ Some y → IsListed k f (facts_in new_facts k)
    settled-listed zero y f at =
        subst (IsListed 0 f) (sym (settled-first table p.variables led 0 [] ns facts y at)) (by (led 0 || is_for y.form) refl)
      where
        by : (t : Bool) → (led 0 || is_for y.form) ≡ t → IsListed 0 f (cond t (facts_in facts 0) [])
        by true e = listed 0 y f at
        by false e =
            let u = or-falses (led 0) (is_for y.form) e in
            let r = before 0 y at u.0 u.1 in
            let o = (only-from 0 y at u.0 u.1 r.0 r.1 r.2 r.3 r.4 r.5).0 in
            absurd (omega (arith, o))
    settled-listed (suc k) y f at = by (led (suc k) || is_for y.form) refl (λ n g e. settled-listed k n g e)
      where
        by : (t : Bool) → (led (suc k) || is_for y.form) ≡ t → ((n : Node) (g : Fact) → slice_get ns k ≡ Some n → IsListed k g (facts_in new_facts k)) → IsListed (suc k) f (facts_in new_facts (suc k))
        by t e again = side t e
          where
            n : (n : Node) × (slice_get ns k ≡ Some n)
            n = got-before ns k y at
              where
                got-before : (xs : List Node) (k : ℕ) (y : Node) → slice_get xs (suc k) ≡ Some y → (n : Node) × (slice_get xs k ≡ Some n)
                got-before [] k y e = none-not_some e
                got-before (x ∷ xs) zero y e = (x, refl)
                got-before (x ∷ xs) (suc k) y e = got-before xs k y e

            is : facts_in new_facts (suc k) ≡ cond (led (suc k) || is_for y.form) (facts_in facts (suc k)) (facts_after table p.variables n.0.form ok (facts_in new_facts k))
            is =
                settled-next table p.variables led 0 [] ns facts k n.0 y n.1 at
                ∙ ap (λ j. cond (led j || is_for y.form) (facts_in facts (suc k)) (facts_after table p.variables n.0.form ok (facts_in new_facts k))) (omega arith)

            side : (t : Bool) → (led (suc k) || is_for y.form) ≡ t → IsListed (suc k) f (facts_in new_facts (suc k))
            side true e = subst (IsListed (suc k) f) (sym (is ∙ ap (λ t. cond t (facts_in facts (suc k)) (facts_after table p.variables n.0.form ok (facts_in new_facts k))) e)) (listed (suc k) y f at)
            side false e = subst (IsListed (suc k) f) (sym (is ∙ ap (λ t. cond t (facts_in facts (suc k)) (facts_after table p.variables n.0.form ok (facts_in new_facts k))) e)) handed
              where
                u : (led (suc k) ≡ false) × (is_for y.form ≡ false)
                u = or-falses (led (suc k)) (is_for y.form) e

                r : (i : ℕ) × (n : Node) × (x : Exit) × (slice_get ns i ≡ Some n) × IsIn x (exits table p.variables n) × (x.target ≡ node (suc k))
                r = before (suc k) y at u.0 u.1

                o : IsBefore (suc k) y at u.0 u.1 r.0 r.1 r.2
                o = only-from (suc k) y at u.0 u.1 r.0 r.1 r.2 r.3 r.4 r.5

                place : r.0 ≡ k
                place = let q = o.0 in omega (arith, q)

                same : n.0 ≡ r.1
                same = some-injective (sym n.1 ∙ ap (slice_get ns) (sym place) ∙ r.3)

                behind : IsIn f (facts_after table p.variables r.1.form r.2.outcome (facts_in new_facts k)) ↔ (held_after_edge (edge table p.variables r.1.form r.2) f (labels k f) ≡ true)
                behind = listed-behind table p.variables r.1 r.2 (facts_in new_facts k) (labels k) (λ g. again n.0 g n.1) f

                lists : facts_after table p.variables n.0.form ok (facts_in new_facts k) ≡ facts_after table p.variables r.1.form r.2.outcome (facts_in new_facts k)
                lists = ap₂ (λ (n : Node) o. facts_after table p.variables n.form o (facts_in new_facts k)) same (sym o.2)

                labelled : (held_after_edge (edge table p.variables r.1.form r.2) f (labels k f) ≡ true) ↔ (labels (suc k) f ≡ true)
                labelled = subst (λ j. (held_after_edge (edge table p.variables r.1.form r.2) f (labels j f) ≡ true) ↔ (labels (suc k) f ≡ true)) place (label-handed (suc k) y at u.0 u.1 exact f)

                handed : IsListed (suc k) f (facts_after table p.variables n.0.form ok (facts_in new_facts k))
                handed = subst (IsListed (suc k) f) (sym lists) (λ h. labelled.0 (behind.0 h), λ h. behind.1 (labelled.1 h))

pub settled-listed_all : SettledFactsAreListed
settled-listed_all count table processes p labels facts entry_drops drops typed exact listed k y f at = settled-listed count table processes p labels facts entry_drops drops typed exact listed k y f at
