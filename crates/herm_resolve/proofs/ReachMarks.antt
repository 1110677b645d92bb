-- The marks of one pass over a process are right.
use Rattle.std.proofs.Common.{◌≡◌, ℕ, zero, suc, ◌+◌, List, [], ◌∷◌, ◌++◌, map, length, Bool, true, false, Option, Some, None, slice_get, option_map, refl, sym, ap, ◌∙◌, subst, arith, inl, inr, true≢false}
use Rattle.herm_model.specs.Lists.{IsIn, map_or}
use Rattle.herm_model.specs.Types.{TypeTable}
use Rattle.herm_model.specs.Statements.{Process, IsWellFormedBlock}
use Rattle.herm_model.specs.Targets.{Target, node, end, end_by}
use Rattle.herm_model.specs.Nodes.{Surroundings, Node, process_nodes, entry_of}
use Rattle.herm_model.specs.Exits.{Exit, exits}
use Rattle.herm_model.specs.ControlPaths.{Edge, edge, Point, point, Flow, flow_of, IsReached}
use Rattle.herm_model.specs.laws.FlowLaws.{IsLedTo}
use Rattle.herm_model.specs.laws.FlowLaws as FlowLaws
use Rattle.herm_model.proofs.Lists.{slice_get-map, in-map, in-map_from}
use Rattle.herm_model.proofs.Reached.{reached-led, reached-IsLedTo}
use Rattle.herm_model.proofs.DifferentOutcomes.{process-EdgesDiffer}
use Rattle.herm_naming.specs.UnreachedStatements.{IsUnreached, MarksUnreached}
use Rattle.herm_resolve.specs.ControlInOnePass.{Control, control_of_block}
use Rattle.herm_resolve.proofs.ReachParts.{EachAt, stand-self, stand-more, mark-is, each-got, block-count}
use Rattle.herm_resolve.proofs.ReachLed.{led_block, LedWhere, IsNamed, Goes}
use Rattle.herm_resolve.proofs.ReachHeld.{held_block, HoldsOn}

some-map : {X Y : Type 0} (f : X → Y) (o : Option X) (y : Y) → option_map f o ≡ Some y → (x : X) × (o ≡ Some x) × (y ≡ f x)
some-map f None y h = absurd (let n : ⊥ = cc h in n)
some-map f (Some x) y h = (x, refl, sym (ap (map_or y (λ z. z)) h))

module _ (types : TypeTable) (p : Process) where
  abbrev pub marks_of : List Bool
  marks_of = (control_of_block types p.variables p.body true).marks

  -- each number's mark, behind one for the number zero
  abbrev all : List Bool
  all = false ∷ marks_of

  abbrev around : Surroundings
  around = record { behind = end; catches = []; exit = end }

  -- an edge of a point is an exit of its node
  edge-exit : (i : ℕ) (q : Point) (x : Edge) → slice_get (flow_of types p).points i ≡ Some q → IsIn x q.edges → (n : Node) × (e : Exit) × (slice_get (process_nodes p) i ≡ Some n) × IsIn e (exits types p.variables n) × (e.target ≡ x.target)
  edge-exit i q x at of =
      let n = some-map (point types p.variables) (slice_get (process_nodes p) i) q (sym (slice_get-map (point types p.variables) (process_nodes p) i) ∙ at) in
      let r = in-map_from (edge types p.variables (n.0).form) x (exits types p.variables n.0) (subst (λ (z : Point). IsIn x z.edges) n.2 of) in
      (n.0, r.0, n.1, r.1, sym (ap (λ (z : Edge). z.target) r.2))

  exit-led : (i : ℕ) (n : Node) → slice_get (process_nodes p) i ≡ Some n → IsLedTo (flow_of types p) (node i) → (e : Exit) → IsIn e (exits types p.variables n) → IsLedTo (flow_of types p) e.target
  exit-led i n at led e member =
      FlowLaws.IsLedTo.goes_on i (point types p.variables n) (edge types p.variables n.form e) led
      (slice_get-map (point types p.variables) (process_nodes p) i ∙ ap (option_map (point types p.variables)) at)
      (in-map (edge types p.variables n.form) e (exits types p.variables n) member)

  -- a place whose statement is not marked, or an end
  abbrev Held : Target → Type 0
  Held (node i) = (n : Node) × (slice_get (process_nodes p) i ≡ Some n) × (slice_get all n.number ≡ Some false)
  Held end = Unit {0}
  Held (end_by e) = Unit {0}

  held-each : EachAt (HoldsOn types p.variables (process_nodes p) all Held (λ i n at m. (n, at, m))) 0 (process_nodes p) × (true ≡ true → Held (entry_of p))
  held-each = held_block types p.variables (process_nodes p) all Held (λ i n at m. (n, at, m)) p.body 1 0 around true (stand-self (process_nodes p)) (stand-more marks_of false 0 marks_of (stand-self marks_of))
      (record { on = λ h. tt; out = λ h. tt; raised = λ e h. tt })

  led-held : (t : Target) → IsLedTo (flow_of types p) t → Held t
  led-held t FlowLaws.IsLedTo.begins = (held-each).1 refl
  led-held t (FlowLaws.IsLedTo.goes_on i q x led at of) = by (led-held (node i) led) (edge-exit i q x at of)
    where
      by : Held (node i) → (n : Node) × (e : Exit) × (slice_get (process_nodes p) i ≡ Some n) × IsIn e (exits types p.variables n) × (e.target ≡ x.target) → Held x.target
      by h r =
          let same : h.0 ≡ r.0 = ap (map_or h.0 (λ (z : Node). z)) (sym h.1 ∙ r.2) in
          subst Held r.4 (each-got (HoldsOn types p.variables (process_nodes p) all Held (λ i n at m. (n, at, m))) 0 i i (process_nodes p) r.0 (let k : i ≡ 0 + i = omega arith in k) (held-each).0 r.2 (subst (λ (z : Node). slice_get all z.number ≡ Some false) same h.2) r.1 r.3)

  module _ (formed : IsWellFormedBlock p.body) where
    led-each : Goes types p.variables (process_nodes p) all (IsLedTo (flow_of types p)) exit-led around (control_of_block types p.variables p.body true) 1 0 (process_nodes p)
    led-each = led_block types p.variables (process_nodes p) all (IsLedTo (flow_of types p)) exit-led p.body 1 0 around true formed (stand-self (process_nodes p)) (stand-more marks_of false 0 marks_of (stand-self marks_of)) (λ h. FlowLaws.IsLedTo.begins)

    pub marks_are_right : MarksUnreached types p marks_of
    marks_are_right = record {
      each = block-count types p.variables p.body true;
      marked = λ i m. named i m (each-got (IsNamed types p.variables (process_nodes p) all (IsLedTo (flow_of types p)) exit-led) 1 i (suc i) marks_of true (let k : suc i ≡ 1 + i = omega arith in k) ((led-each).2).named m refl);
      others = λ i place n m at same.
          (reached-led (flow_of types p) (process-EdgesDiffer types p formed) (node place)).1
          (each-got (LedWhere types p.variables (process_nodes p) all (IsLedTo (flow_of types p)) exit-led) 0 place place (process_nodes p) n (let k : place ≡ 0 + place = omega arith in k) ((led-each).2).each at (subst (λ k. slice_get all k ≡ Some false) (sym same) m));
    }
      where
        named : (i : ℕ) → slice_get marks_of i ≡ Some true → (place : ℕ) × (n : Node) × (slice_get (process_nodes p) place ≡ Some n) × (n.number ≡ suc i) → IsUnreached types p (suc i)
        named i m r = record {
          place = r.0;
          stands = (r.1, r.2, r.3);
          lacks = λ reached.
              let h = led-held (node r.0) (reached-IsLedTo (flow_of types p) (node r.0) reached) in
              let same : h.0 ≡ r.1 = ap (map_or h.0 (λ (z : Node). z)) (sym h.1 ∙ r.2) in
              let clear : slice_get all (suc i) ≡ Some false = subst (λ k. slice_get all k ≡ Some false) (ap (λ (z : Node). z.number) same ∙ r.3) h.2 in
              true≢false (mark-is (suc i) all true false m clear);
        }
