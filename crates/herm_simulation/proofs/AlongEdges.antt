-- The code of an edge does what the source does where control goes to the edge's target.
use Rattle.std.proofs.Common.{◌≡◌, ℕ, suc, ◌+◌, List, [], ◌∷◌, ◌++◌, map, length, Bool, true, false, cond, Option, Some, None, refl, sym, ap, subst, ◌∙◌, arith}
use Rattle.std.specs.Prelude.{filter, not, nat_eq}
use Rattle.herm_model.specs.Lists.{any_pass}
use Rattle.herm_model.specs.Statements.{Differ}
use Rattle.herm_model.specs.Outcomes.{Outcome, ok}
use Rattle.herm_model.specs.Paths.{Path}
use Rattle.herm_model.specs.Targets.{Target, node, end, end_by}
use Rattle.herm_model.specs.Values.{Name, Cell, cell_at, has_value}
use Rattle.herm_model.specs.Finalising.{excess}
use Rattle.herm_model.proofs.Lists.{length-map}
use Rattle.herm_forms.specs.EdgeFinalising.{keeps, arrive}
use Rattle.herm_forms.specs.Frames.{Frame, drop, drop_at, finalise_old, cleared}
use Rattle.herm_forms.specs.LeavingLoops.{keeps_loop, leave_loops}
use Rattle.herm_forms.specs.Modules.{Module}
use Rattle.herm_instructions.specs.Instructions.{Jump, LoopDrop, Drop, End, EndBy}
use Rattle.herm_instructions.specs.Labels.{Slot}
use Rattle.herm_code_machine.specs.ReadyCode.{ReadyCode, scope_of}
use Rattle.herm_code_machine.specs.CodeStates.{CodeState, at_end, at_end_by}
use Rattle.herm_code_machine.specs.Effects.{drop_loop}
use Rattle.herm_translated.specs.Departures.{to_block, to_second_step, Departure, edge_code, arrive_by, second_step}
use Rattle.herm_translated.specs.CodeBlocks.{number_at, arrival_at, departure, slots_left}
use Rattle.herm_simulation.specs.Leading.{StandFrom, state_at, LeadsTo, arrived_at}
use Rattle.herm_simulation.specs.laws.EdgeLaws.{AreListsOf, EdgesDoArrivals}
use Rattle.herm_simulation.proofs.Leading.{stand-first, stand-rest, stand-left, stand-right, leads-then, leads-from, instruction-leads, effect-leads}
use Rattle.herm_simulation.proofs.LoopsLeft.{drop_loops, statements, all-left}

-- numbers of slots that pass a test
numbers-passed : (test : ℕ → Bool) (slots : List Slot) → map (λ (s : Slot). s.number) (filter (λ (s : Slot). test s.number) slots) ≡ filter test (map (λ (s : Slot). s.number) slots)
numbers-passed test [] = refl
numbers-passed test (s ∷ slots) = by (test s.number) (numbers-passed test slots)
  where
    by : (b : Bool) → map (λ (s : Slot). s.number) (filter (λ (s : Slot). test s.number) slots) ≡ filter test (map (λ (s : Slot). s.number) slots)
        → map (λ (s : Slot). s.number) (cond b (s ∷ filter (λ (s : Slot). test s.number) slots) (filter (λ (s : Slot). test s.number) slots)) ≡ cond b (s.number ∷ filter test (map (λ (s : Slot). s.number) slots)) (filter test (map (λ (s : Slot). s.number) slots))
    by true rest = ap (s.number ∷◌) rest
    by false rest = rest

-- dropping leaves the lists of loops
old-loops : (o : Option (Cell Name)) (b : Frame Name) → (finalise_old o b).loops ≡ b.loops
old-loops None b = refl
old-loops (Some c) b = refl

pub drop-loops : (ps : List Path) (b : Frame Name) → (drop ps b).loops ≡ b.loops
drop-loops [] b = refl
drop-loops (p ∷ ps) b = drop-loops ps (drop_at p b) ∙ old-loops (cell_at p b.variables) (cleared p b)

module _ (name : Name → Name) (c : ReadyCode) where
  drops-lead : (k i : ℕ) (ps : List Path) (b : Frame Name) → StandFrom c i (map Drop ps) → LeadsTo name c (state_at k i [] b) (state_at k (i + length ps) [] (drop ps b))
  drops-lead k i [] b h = leads-from name c (state_at k i [] b) (state_at k (i + 0) [] b) (ap (λ n. state_at k n [] b) (omega arith))
  drops-lead k i (p ∷ ps) b h =
      leads-then name c (state_at k i [] b) (state_at k (suc i) [] (drop_at p b)) (state_at k (i + suc (length ps)) [] (drop ps (drop_at p b)))
      (effect-leads name c k i (suc i) (Drop p) [] [] b (drop_at p b) ok (stand-first c i (Drop p) (map Drop ps) h) refl (λ v. v) refl refl)
      (leads-then name c (state_at k (suc i) [] (drop_at p b)) (state_at k (suc i + length ps) [] (drop ps (drop_at p b))) (state_at k (i + suc (length ps)) [] (drop ps (drop_at p b)))
      (drops-lead k (suc i) ps (drop_at p b) (stand-rest c i (Drop p) (map Drop ps) h))
      (leads-from name c _ _ (ap (λ n. state_at k n [] (drop ps (drop_at p b))) (omega arith))))

  slots-lead : (k i : ℕ) (ss : List ℕ) (b : Frame Name) → StandFrom c i (map LoopDrop ss) → LeadsTo name c (state_at k i [] b) (state_at k (i + length ss) [] (drop_loops ss b))
  slots-lead k i [] b h = leads-from name c (state_at k i [] b) (state_at k (i + 0) [] b) (ap (λ n. state_at k n [] b) (omega arith))
  slots-lead k i (s ∷ ss) b h =
      leads-then name c (state_at k i [] b) (state_at k (suc i) [] (drop_loop s b)) (state_at k (i + suc (length ss)) [] (drop_loops ss (drop_loop s b)))
      (effect-leads name c k i (suc i) (LoopDrop s) [] [] b (drop_loop s b) ok (stand-first c i (LoopDrop s) (map LoopDrop ss) h) refl (λ v. v) refl refl)
      (leads-then name c (state_at k (suc i) [] (drop_loop s b)) (state_at k (suc i + length ss) [] (drop_loops ss (drop_loop s b))) (state_at k (i + suc (length ss)) [] (drop_loops ss (drop_loop s b)))
      (slots-lead k (suc i) ss (drop_loop s b) (stand-rest c i (LoopDrop s) (map LoopDrop ss) h))
      (leads-from name c _ _ (ap (λ n. state_at k n [] (drop_loops ss (drop_loop s b))) (omega arith))))

  -- a jump where an edge arrives
  jump-leads : (k i : ℕ) (start : ℕ → ℕ) (j : ℕ) (b : Frame Name) → StandFrom c i (Jump j ∷ []) → LeadsTo name c (state_at k i [] b) (state_at k j [] b)
  jump-leads k i start j b h = effect-leads name c k i j (Jump j) [] [] b b ok (stand-first c i (Jump j) [] h) refl (λ v. v) refl refl

  -- what an edge drops, up to its last instruction
  along-edge : (k i : ℕ) (start : ℕ → ℕ) (d : Departure) (b : Frame Name) → StandFrom c i (edge_code start d)
      → LeadsTo name c (state_at k i [] b) (state_at k (i + length d.drops + length d.slots) [] (drop_loops d.slots (drop d.drops b))) × StandFrom c (i + length d.drops + length d.slots) (arrive_by start d.arrival ∷ [])
  along-edge k i start d b h =
      let first = stand-left c i (map Drop d.drops) (map LoopDrop d.slots ++ (arrive_by start d.arrival ∷ [])) h in
      let rest = subst (λ n. StandFrom c (i + n) (map LoopDrop d.slots ++ (arrive_by start d.arrival ∷ []))) (length-map Drop d.drops) (stand-right c i (map Drop d.drops) (map LoopDrop d.slots ++ (arrive_by start d.arrival ∷ [])) h) in
      let at = i + length d.drops in (
        leads-then name c (state_at k i [] b) (state_at k at [] (drop d.drops b)) (state_at k (at + length d.slots) [] (drop_loops d.slots (drop d.drops b)))
            (drops-lead k i d.drops b first)
            (slots-lead k at d.slots (drop d.drops b) (stand-left c at (map LoopDrop d.slots) (arrive_by start d.arrival ∷ []) rest)),
        subst (λ n. StandFrom c (at + n) (arrive_by start d.arrival ∷ [])) (length-map LoopDrop d.slots) (stand-right c at (map LoopDrop d.slots) (arrive_by start d.arrival ∷ []) rest),
      )

module _ (name : Name → Name) (c : ReadyCode) (m : Module) (scope : c.scope ≡ scope_of m.types m.variables) (start : ℕ → ℕ) (slots : List Slot) (o : Outcome) where
  abbrev Leads : ℕ → ℕ → Target → Frame Name → Type 0
  Leads k i t b = LeadsTo name c (state_at k i [] b) (record { module_number = k; position = arrived_at start (arrival_at m slots t); stack = []; frame = arrive m t b })

  -- what an edge to a node drops is what the source drops
  pub arrive-drops : (n : ℕ) (drops : List Path) (b : Frame Name) → drops ≡ excess m.types m.variables (has_value b.variables) (keeps m (node n)) → AreListsOf slots b.loops → drop_loops (slots_left m slots (node n)) (drop drops b) ≡ arrive m (node n) b
  arrive-drops n drops b is lists =
      let numbers : slots_left m slots (node n) ≡ filter (λ s. not (keeps_loop m (node n) s)) (statements (drop drops b).loops) =
      numbers-passed (λ s. not (keeps_loop m (node n) s)) slots ∙ ap (filter (λ s. not (keeps_loop m (node n) s))) (sym lists.0 ∙ ap statements (sym (drop-loops drops b))) in
      let left : drop_loops (slots_left m slots (node n)) (drop drops b) ≡ leave_loops (keeps_loop m (node n)) (drop drops b) =
      ap (λ ss. drop_loops ss (drop drops b)) numbers ∙ all-left (keeps_loop m (node n)) (drop drops b) (subst (λ ls. Differ (statements ls)) (sym (drop-loops drops b)) lists.1) in
      left ∙ ap (λ ps. leave_loops (keeps_loop m (node n)) (drop ps b)) is

  -- an edge to a node
  to-node : (n : ℕ) (drops : List Path) (k i : ℕ) (b : Frame Name) → StandFrom c i (edge_code start (departure m slots o (node n) drops)) → drops ≡ excess m.types m.variables (has_value b.variables) (keeps m (node n)) → AreListsOf slots b.loops → Leads k i (node n) b
  to-node n drops k i b h is lists =
      let d = departure m slots o (node n) drops in
      let r = along-edge name c k i start d b h in
      let at = i + length drops + length d.slots in
      let same : drop_loops d.slots (drop drops b) ≡ arrive m (node n) b = arrive-drops n drops b is lists in
      let there : CodeState Name = record { module_number = k; position = arrived_at start (arrival_at m slots (node n)); stack = []; frame = drop_loops d.slots (drop drops b) } in
      leads-then name c (state_at k i [] b) there (record there { frame = arrive m (node n) b })
      (leads-then name c (state_at k i [] b) (state_at k at [] (drop_loops d.slots (drop drops b))) there r.0 (last at (drop_loops d.slots (drop drops b)) r.1))
      (leads-from name c there (record there { frame = arrive m (node n) b }) (ap (λ b. record there { frame = b }) same))
    where
      last : (at : ℕ) (b : Frame Name) → StandFrom c at (arrive_by start (arrival_at m slots (node n)) ∷ []) → LeadsTo name c (state_at k at [] b) (record { module_number = k; position = arrived_at start (arrival_at m slots (node n)); stack = []; frame = b })
      last at b h = by (any_pass (λ (s : Slot). nat_eq s.number (number_at m n)) slots) h
        where
          by : (t : Bool) → StandFrom c at (arrive_by start (cond t (to_second_step n) (to_block n)) ∷ []) → LeadsTo name c (state_at k at [] b) (record { module_number = k; position = arrived_at start (cond t (to_second_step n) (to_block n)); stack = []; frame = b })
          by true h = jump-leads name c k at start (start n + second_step) b h
          by false h = jump-leads name c k at start (start n) b h

  -- an edge to an end
  to-end : (drops : List Path) (k i : ℕ) (b : Frame Name) → StandFrom c i (edge_code start (departure m slots o end drops)) → Leads k i end b
  to-end drops k i b h =
      let s = state_at k i [] b in
      instruction-leads name c s (record { module_number = k; position = at_end; stack = []; frame = arrive m end b }) i End refl (stand-first c i End [] h) refl
      (ap (λ (scope : Module). Some (record { module_number = k; position = at_end; stack = []; frame = arrive scope end b })) scope)

  to-end_by : (x : ℕ) (drops : List Path) (k i : ℕ) (b : Frame Name) → StandFrom c i (edge_code start (departure m slots o (end_by x) drops)) → Leads k i (end_by x) b
  to-end_by x drops k i b h =
      let s = state_at k i [] b in
      instruction-leads name c s (record { module_number = k; position = at_end_by x; stack = []; frame = arrive m (end_by x) b }) i (EndBy x) refl (stand-first c i (EndBy x) [] h) refl
      (ap (λ (scope : Module). Some (record { module_number = k; position = at_end_by x; stack = []; frame = arrive scope (end_by x) b })) scope)

pub edges-do_arrivals : EdgesDoArrivals
edges-do_arrivals name c m scope start slots o (node n) drops k i b h is lists = to-node name c m scope start slots o n drops k i b h is lists
edges-do_arrivals name c m scope start slots o end drops k i b h is lists = to-end name c m scope start slots o drops k i b h
edges-do_arrivals name c m scope start slots o (end_by x) drops k i b h is lists = to-end_by name c m scope start slots o x drops k i b h
