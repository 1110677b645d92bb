-- A local step of the source is one of the code, and leads to where the code stands beside it again.
use Rattle.std.proofs.Common.{◌≡◌, ◌⊎◌, inl, inr, ℕ, zero, suc, ◌+◌, List, [], ◌∷◌, Bool, true, false, cond, Option, Some, None, slice_get, refl, sym, ap, ap₂, subst, ◌∙◌, arith, true≢false}
use Rattle.std.specs.Prelude.{⊤, drop}
use Rattle.herm_model.specs.Lists.{IsIn}
use Rattle.herm_model.specs.Paths.{Path}
use Rattle.herm_model.specs.Nodes.{Node}
use Rattle.herm_model.specs.Exits.{exits}
use Rattle.herm_model.specs.Outcomes.{Outcome, ok, done, outcomes}
use Rattle.herm_model.specs.Statements.{Form, For, Leave}
use Rattle.herm_model.specs.Targets.{Target}
use Rattle.herm_model.specs.Values.{Name, Cell}
use Rattle.herm_model.proofs.FactTests.{got-IsIn}
use Rattle.herm_model.proofs.Options.{none-not_some, map-some}
use Rattle.herm_forms.specs.Acts.{act, is_action, leads_to}
use Rattle.herm_forms.specs.EdgeFinalising.{arrive}
use Rattle.herm_forms.specs.Frames.{Frame, Completion, goes, stays, stuck, counted_step}
use Rattle.herm_forms.specs.laws.EdgeLaws.{AreSound, held_after}
use Rattle.herm_forms.specs.laws.TypedForms.{IsTypedIn}
use Rattle.herm_forms.proofs.KeptBodies.{IsKept, FewerLoops, All, went, stayed, never, all-act, is-arrive}
use Rattle.herm_source.specs.States.{State, own_name, node_at, item_or, call_or_statement, state_after, step_next, local_step}
use Rattle.herm_source.proofs.sound.OneModule.{StandsWell}
use Rattle.herm_instructions.specs.Actions.{is_action as instruction_acts}
use Rattle.herm_instructions.specs.Images.{instruction_at}
use Rattle.herm_instructions.specs.Instructions
use Rattle.herm_instructions.specs.Instructions.{Instruction, Step}
use Rattle.herm_code_machine.specs.CodeLocal.{IsLocallySoundCode}
use Rattle.herm_code_machine.specs.CodeStates.{at_index, CodeState, to_next_piece}
use Rattle.herm_code_machine.specs.CodeSteps
use Rattle.herm_code_machine.specs.CodeSteps.{CodeNext, a_local_piece, code_next, code_local_step}
use Rattle.herm_code_machine.specs.Pieces.{Piece, action_from}
use Rattle.herm_translated.specs.BlockLabels.{comes_again}
use Rattle.herm_translated.specs.CodeBlocks.{arrival_at, departure, slots_around, slots_within}
use Rattle.herm_translated.specs.Fronts.{front_length}
use Rattle.herm_translated.specs.Departures.{edge_code, second_step}
use Rattle.herm_simulation.specs.Checks.{list_at}
use Rattle.herm_simulation.specs.FrontsInPlace.{IsFrontAt}
use Rattle.herm_simulation.specs.Leading.{StandFrom, state_at, LeadsTo, arrived_at}
use Rattle.herm_simulation.specs.Standing.{IsWithin, IsAtPoint}
use Rattle.herm_simulation.specs.laws.EdgeLaws.{AreListsOf}
use Rattle.herm_simulation.proofs.Arrivals.{exit-of_outcome, outcome-among, arrival-stands, outcome-leads, step-at, second-at}
use Rattle.herm_simulation.proofs.Beside.{Beside, AtNode, at-node, lists-first, lists-second, next-at_step}
use Rattle.herm_simulation.proofs.DoneFronts.{fronts-do_forms, same-outcome}
use Rattle.herm_simulation.proofs.InPlace.{Coded, types, variables, constants, source_code, checked_code, blocks, code, ready, nodes, begins_at, block, slots_of, exit, block-here, front_here, front-stands, is_onward, goes-on, edge-stands}
use Rattle.herm_simulation.proofs.Leading.{leads-then, leads-one}
use Rattle.herm_simulation.proofs.LocalForms.{IsLeave, front-leads, front-local}
use Rattle.herm_simulation.proofs.PiecesBegin.{no-action, stand-dropped, edge-local}
use Rattle.herm_simulation.proofs.SourceSide.{HasLists, not-own, loop-slots, typed-here, first-listed, numbers_of, step-left}

-- what a form does depends on types and variables alone
pub act-scope : (k : Coded) (number : ℕ) (form : Form) (b : Frame Name) → act own_name (source_code k) number form b ≡ act own_name (ready k).scope number form b
act-scope k number Leave b = refl
act-scope k number form b = refl

leaves-or : (form : Form) → IsLeave form ⊎ (IsLeave form → ⊥)
leaves-or Leave = inl tt
leaves-or form = inr (λ h. h)

-- an edge opens no call
closed-kept : IsKept {N = Name} (λ b. b.call ≡ None)
closed-kept = record {
  letting = record { value = λ d b h. h; parts = λ ps b h. h; name = λ m b h. h };
  variables = λ ps b h. h;
  serial = λ s b h. h;
  calls = λ b h. h;
}

fewer-closed : FewerLoops {N = Name} (λ b. b.call ≡ None)
fewer-closed stay b h = h

-- no local step stays where it is
any-kept : IsKept {N = Name} (λ b. ⊤)
any-kept = record {
  letting = record { value = λ d b h. tt; parts = λ ps b h. tt; name = λ m b h. tt };
  variables = λ ps b h. tt;
  serial = λ s b h. tt;
  calls = λ b h. tt;
}

abbrev is_staying : Completion Name → Bool
is_staying (stays b) = true
is_staying r = false

none-stays : (r : Completion Name) (b : Frame Name) → All (λ b. ⊤) (λ b. ⊥) r → r ≡ stays b → ⊥
none-stays r b (went q d h) e = true≢false (sym (ap is_staying e))
none-stays r b (stayed d h) e = h
none-stays r b never e = true≢false (sym (ap is_staying e))

pub never-stays : (k : Coded) (number : ℕ) (form : Form) (b b' : Frame Name) → act own_name (source_code k) number form b ≡ stays b' → ⊥
never-stays k number form b b' e = none-stays (act own_name (source_code k) number form b) b' (all-act own_name (λ b. ⊤) (λ b. ⊥) any-kept (source_code k) number form b tt (λ _ ls b h. h)) e

module _ (k : Coded) where
  pub arrive-closed : (t : Target) (b : Frame Name) → b.call ≡ None → (arrive (source_code k) t b).call ≡ None
  arrive-closed t b h = is-arrive own_name (λ b. b.call ≡ None) (λ b. b.call ≡ None) closed-kept fewer-closed (source_code k) t b h

  -- where the code is behind an outcome that leads to a target
  abbrev pub arrived_state : (q place : ℕ) → Node → Target → Frame Name → CodeState Name
  arrived_state q i n t b = record { module_number = q; position = arrived_at (begins_at k) (arrival_at (source_code k) (slots_of k i n) t); stack = []; frame = arrive (source_code k) t b }

  module _ (i : ℕ) (n : Node) (at : slice_get (nodes k) i ≡ Some n) where
    -- behind an outcome the code stands beside the source again
    pub arrives-beside : (q : ℕ) (x x' : State Name) (o : Outcome) (t : Target) (b : Frame Name) → q ≡ x.module_number → leads_to (source_code k) n o ≡ Some t → b.call ≡ None → record { module_number = x.module_number; point = t; frame = arrive (source_code k) t b } ≡ x' → Beside k x' (arrived_state q i n t b)
    arrives-beside q x x' o t b same leads closed is =
        subst (λ (x' : State Name). Beside k x' (arrived_state q i n t b)) is
        (record {
          module_number = same;
          place = subst (λ call. IsAtPoint (constants k) (checked_code k) call (arrived_state q i n t b).position t) (sym (arrive-closed t b closed)) (arrival-stands k i n at o t leads).0;
          stack = refl;
          frame = refl;
          lists = λ c j called here. none-not_some (sym (arrive-closed t b closed) ∙ called);
        })

    -- what a run comes to that leads out of a block by an outcome
    pub leads-beside : (q : ℕ) (s y' : CodeState Name) (x x' : State Name) (o : Outcome) (t : Target) (b : Frame Name) → q ≡ x.module_number → leads_to (source_code k) n o ≡ Some t
        → AreSound (source_code k) (held_after (types k) (variables k) n.form o (k.labels i)) b.variables → b.call ≡ None → AreListsOf (slots_of k i n) b.loops
        → record { module_number = x.module_number; point = t; frame = arrive (source_code k) t b } ≡ x' → LeadsTo own_name (ready k) s (state_at q (exit k i n o) [] b) → to_next_piece own_name (ready k) s ≡ Some y' → Beside k x' y'
    leads-beside q s y' x x' o t b same leads sound closed lists is out runs =
        let there = arrived_state q i n t b in
        let led = leads-then own_name (ready k) s (state_at q (exit k i n o) [] b) there out (outcome-leads k i n at own_name q o t b leads sound lists) in
        subst (Beside k x') (sym (leads-one own_name (ready k) s there y' led (arrival-stands k i n at o t leads).1 runs)) (arrives-beside q x x' o t b same leads closed is)

  module _ (x x' : State Name) (y y' : CodeState Name) (stands : StandsWell k.exceptions (types k) k.processes k.process k.labels k.sound x) (beside : Beside k x y) (sound : IsLocallySoundCode (ready k) y) where
    module _ (n : Node) (idle : x.frame.call ≡ None) (here : AtNode k x y n) (o : Outcome) (b : Frame Name) (acts : act own_name (source_code k) n.number n.form (counted_step x.frame) ≡ goes o b) where
      abbrev i : ℕ
      i = here.place

      idle-code : y.frame.call ≡ None
      idle-code = ap (λ (b : Frame Name). b.call) beside.frame ∙ idle

      acts-code : act own_name (ready k).scope n.number n.form (counted_step x.frame) ≡ goes o b
      acts-code = sym (act-scope k n.number n.form (counted_step x.frame)) ∙ acts

      -- no action comes at once behind the first step
      quiet-first : (t : Target) → leads_to (source_code k) n o ≡ Some t → IsLeave n.form ⊎ (IsLeave n.form → ⊥) → action_from (types k) (drop (suc (begins_at k i)) (code k).code) (suc (begins_at k i)) ≡ None
      quiet-first t leads (inr other) =
          let row = front-local own_name (ready k) n.number n.form other (list_at k.facts i) (suc (begins_at k i)) (exit k i n) (counted_step x.frame) b o acts-code in
          no-action (types k) (front_here k i n here.there) (drop (suc (begins_at k i)) (code k).code) (suc (begins_at k i))
          (stand-dropped (ready k) (suc (begins_at k i)) (front_here k i n here.there) (front-stands k i n here.there).stands) row.local row.other row.in_row row.no_operand
      quiet-first t leads (inl leave) = by (is_onward k i n here.there) refl
        where
          behind : (form : Form) → n.form ≡ form → IsLeave form → act own_name (source_code k) n.number n.form (counted_step x.frame) ≡ goes o b → exit k i n o ≡ suc (begins_at k i)
          behind Leave same leave is =
              let only : ok ≡ o = same-outcome ok o (counted_step x.frame) b (ap (λ f. act own_name (source_code k) n.number f (counted_step x.frame)) (sym same) ∙ is) in
              let outs : outcomes (types k) (variables k) n.form ≡ ok ∷ [] = ap (outcomes (types k) (variables k)) same in
              let long : front_length (types k) (variables k) (constants k) n.form ≡ 0 = ap (front_length (types k) (variables k) (constants k)) same in
              ap (exit k i n) (sym only) ∙ (front-stands k i n here.there).behind ok [] outs ∙ ap (λ m. suc (begins_at k i) + m) long ∙ omega arith
          behind form same leave is = absurd leave

          e : (j : ℕ) × (slice_get (exits (types k) (variables k) n) j ≡ Some (record { outcome = o; target = t }))
          e = exit-of_outcome k n o t leads

          at-first : exit k i n o ≡ suc (begins_at k i)
          at-first = behind n.form refl leave acts

          by : (u : Bool) → is_onward k i n here.there ≡ u → action_from (types k) (drop (suc (begins_at k i)) (code k).code) (suc (begins_at k i)) ≡ None
          by false off =
              let d = departure (source_code k) (slots_of k i n) o t (list_at (list_at k.drops i) e.0) in
              let row = edge-local (types k) (begins_at k) d in
              let edge = edge-stands k i n here.there off e.0 (record { outcome = o; target = t }) e.1 in
              no-action (types k) (edge_code (begins_at k) d) (drop (suc (begins_at k i)) (code k).code) (suc (begins_at k i))
              (stand-dropped (ready k) (suc (begins_at k i)) (edge_code (begins_at k) d) (subst (λ j. StandFrom (ready k) j (edge_code (begins_at k) d)) at-first edge)) row.local row.other row.in_row row.no_operand
          by true on =
              let g = goes-on k i n here.there on e.0 (record { outcome = o; target = t }) e.1 in
              no-action (types k) (Step ∷ []) (drop (suc (begins_at k i)) (code k).code) (suc (begins_at k i))
              (stand-dropped (ready k) (suc (begins_at k i)) (Step ∷ [])
              (only-step (suc (begins_at k i)) (subst (λ j. instruction_at (code k) j ≡ Some Step) (sym (g.ends o) ∙ at-first) (step-at k (suc i) g.next.0 g.next.1))))
              only-local Step (inl refl) refl
            where
              only-step : (j : ℕ) → instruction_at (code k) j ≡ Some Step → StandFrom (ready k) j (Step ∷ [])
              only-step j e zero w is = let same : j + 0 ≡ j = omega arith in subst (λ a. instruction_at (code k) a ≡ Some w) (sym same) (e ∙ is)
              only-step j e (suc m) w is = none-not_some is

              only-local : (w : Instruction) → IsIn w (Step ∷ []) → instruction_acts (types k) w ≡ false
              only-local w (inl same) = ap (instruction_acts (types k)) same
              only-local w (inr m) = absurd m

      -- the piece at a step is local: its run leads to the edge of the outcome
      pub record Runs (t : Target) : Type 0 where
        pub step : ℕ
        pub position : y.position ≡ at_index step
        pub stands_there : instruction_at (code k) step ≡ Some Step
        pub quiet : action_from (types k) (drop (suc step) (code k).code) (suc step) ≡ None
        pub lists : HasLists k i n here.there x.frame.loops
        pub out : (q : ℕ) → LeadsTo own_name (ready k) (state_at q (suc step) [] (counted_step x.frame)) (state_at q (exit k i n o) [] b)

      among : (t : Target) → leads_to (source_code k) n o ≡ Some t → IsIn o (outcomes (types k) (variables k) n.form)
      among t leads = outcome-among k n (got-IsIn (nodes k) i n here.there) o t leads

      same-loops : y.frame.loops ≡ x.frame.loops
      same-loops = ap (λ (b : Frame Name). b.loops) beside.frame

      runs-first : (t : Target) → leads_to (source_code k) n o ≡ Some t → y.position ≡ at_index (begins_at k i) → Runs t
      runs-first t leads position =
          let lists = subst (AreListsOf (slots_around (source_code k) i)) same-loops (lists-first k i n here.there y sound idle-code position) in
          record {
            step = begins_at k i;
            position = position;
            stands_there = step-at k i (block k i n) (block-here k i n here.there);
            quiet = quiet-first t leads (leaves-or n.form);
            lists = inl lists;
            out = λ q.
                (let same : suc (begins_at k i) + 0 ≡ suc (begins_at k i) = omega arith in
                subst (λ j. LeadsTo own_name (ready k) (state_at q j [] (counted_step x.frame)) (state_at q (exit k i n o) [] b)) same
                (front-leads own_name (ready k) n.number n.form (list_at k.facts i) (suc (begins_at k i)) (exit k i n) (front-stands k i n here.there) q (counted_step x.frame) b o (λ _. not-own k i n here.there x.frame.loops lists) acts-code (among t leads)));
          }

      runs-second : (t : Target) → leads_to (source_code k) n o ≡ Some t → y.position ≡ at_index (begins_at k i + second_step) → comes_again (blocks k) i ≡ true → (r s : Path) → n.form ≡ For r s → Runs t
      runs-second t leads position again r s form =
          let lists = subst (AreListsOf (slots_of k i n)) same-loops (lists-second k i n here.there y sound idle-code position again r s form) in
          let typed = subst (λ f. IsTypedIn k.exceptions k.processes (source_code k) f) form (typed-here k i n here.there) in
          let front-at : IsFrontAt (ready k) (list_at k.facts i) n.number (For r s) (suc (begins_at k i)) (exit k i n) = subst (λ f. IsFrontAt (ready k) (list_at k.facts i) n.number f (suc (begins_at k i)) (exit k i n)) form (front-stands k i n here.there) in
          let there : suc (begins_at k i) + 3 ≡ suc (begins_at k i + second_step) = omega arith in
          let rs = first-listed n.number x.frame.loops (numbers_of (slots_around (source_code k) i)) (lists.0 ∙ ap (λ f. numbers_of (slots_within (types k) (variables k) n.number f (slots_around (source_code k) i))) form ∙ loop-slots k i n.number r s typed) in
          let test = Instructions.LoopNext r n.number (exit k i n done) in
          record {
            step = begins_at k i + second_step;
            position = position;
            stands_there = second-at k i (block k i n) r s (block-here k i n here.there) form;
            quiet = no-action (types k) (test ∷ []) (drop (suc (begins_at k i + second_step)) (code k).code) (suc (begins_at k i + second_step))
                (stand-dropped (ready k) (suc (begins_at k i + second_step)) (test ∷ []) (subst (λ j. StandFrom (ready k) j (test ∷ [])) there (only test (suc (begins_at k i) + 3) (front-at.stands 3 test refl))))
                (only-local test refl) test (inl refl) refl;
            lists = inr (lists, (r, s, form));
            out = λ q.
                subst (λ j. LeadsTo own_name (ready k) (state_at q j [] (counted_step x.frame)) (state_at q (exit k i n o) [] b)) there
                ((fronts-do_forms own_name (ready k) n.number).visit r s (list_at k.facts i) (suc (begins_at k i)) (exit k i n) front-at q (counted_step x.frame) b o rs
                (ap (λ f. act own_name (ready k).scope n.number f (counted_step x.frame)) (sym form) ∙ acts-code) (subst (λ f. IsIn o (outcomes (types k) (variables k) f)) form (among t leads)));
          }
        where
          only : (z : Instruction) (j : ℕ) → instruction_at (code k) j ≡ Some z → StandFrom (ready k) j (z ∷ [])
          only z j e zero w is = let same : j + 0 ≡ j = omega arith in subst (λ a. instruction_at (code k) a ≡ Some w) (sym same) (e ∙ is)
          only z j e (suc m) w is = none-not_some is

          only-local : (z : Instruction) → instruction_acts (types k) z ≡ false → (w : Instruction) → IsIn w (z ∷ []) → instruction_acts (types k) w ≡ false
          only-local z e w (inl same) = ap (instruction_acts (types k)) same ∙ e
          only-local z e w (inr m) = absurd m

      pub runs-by : (t : Target) → leads_to (source_code k) n o ≡ Some t → IsWithin (constants k) (checked_code k) (begins_at k i) (comes_again (blocks k) i) (block k i n) None here.index → Runs t
      runs-by t leads (inl e) = runs-first t leads (here.position ∙ ap at_index e)
      runs-by t leads (inr h) = runs-second t leads (here.position ∙ ap at_index h.0) h.1 h.2 h.3 h.4

      -- the local step of the code
      stepped : (t : Target) → x.frame.work ≡ [] → leads_to (source_code k) n o ≡ Some t → record { module_number = x.module_number; point = t; frame = arrive (source_code k) t b } ≡ x' → code_local_step own_name (ready k) y ≡ Some y' → Beside k x' y'
      stepped t no_work leads is steps =
          let r = runs-by t leads (subst (λ call. IsWithin (constants k) (checked_code k) (begins_at k i) (comes_again (blocks k) i) (block k i n) call here.index) idle-code here.within) in
          let left = step-left k i n here.there x stands here.point idle r.lists o b acts in
          let piece : Piece = record { has_step = true; first = suc r.step } in
          let next : code_next (ready k) y ≡ a_local_piece piece = next-at_step k y r.step None (ap (λ (b : Frame Name). b.work) beside.frame ∙ no_work) idle-code r.position r.stands_there r.quiet in
          let begun : CodeState Name = state_at y.module_number (suc r.step) [] (counted_step x.frame) in
          let same : record { module_number = y.module_number; position = at_index (suc r.step); stack = y.stack; frame = counted_step y.frame } ≡ begun =
          ap₂ (λ stack (b : Frame Name). state_at y.module_number (suc r.step) stack (counted_step b)) beside.stack beside.frame in
          let runs : to_next_piece own_name (ready k) begun ≡ Some y' = sym (ap (to_next_piece own_name (ready k)) same) ∙ sym (ap (CodeSteps.step_next own_name (ready k) y) next) ∙ steps in
          leads-beside i n here.there y.module_number begun y' x x' o t b beside.module_number leads left.values left.closed left.lists is (r.out y.module_number) runs

    -- a statement that is a local step
    statement-beside : (n : Node) → x.frame.work ≡ [] → x.frame.call ≡ None → AtNode k x y n → (r : Completion Name) → act own_name (source_code k) n.number n.form (counted_step x.frame) ≡ r → state_after (source_code k) x (Some n) r ≡ Some x' → code_local_step own_name (ready k) y ≡ Some y' → Beside k x' y'
    statement-beside n no_work idle here (goes o b) acts is steps =
        let m = map-some (λ t. record { module_number = x.module_number; point = t; frame = arrive (source_code k) t b }) (leads_to (source_code k) n o) x' is in
        stepped n idle here o b acts m.0 no_work m.1 m.2 steps
    statement-beside n no_work idle here (stays b) acts is steps = absurd (never-stays k n.number n.form (counted_step x.frame) b acts)
    statement-beside n no_work idle here stuck acts is steps = none-not_some is

    step-by : (work : List (Cell Name)) (call : Option ℕ) (o : Option Node) → x.frame.work ≡ work → x.frame.call ≡ call → node_at (source_code k) x.point ≡ o → step_next own_name (source_code k) x (item_or work (call_or_statement call o)) ≡ Some x'
        → code_local_step own_name (ready k) y ≡ Some y' → Beside k x' y'
    step-by (item ∷ work) call o no_work idle at is steps = none-not_some is
    step-by [] call None no_work idle at is steps = none-not_some is
    step-by [] (Some q) (Some n) no_work idle at is steps = none-not_some is
    step-by [] None (Some n) no_work idle at is steps = by (is_action (source_code k) n.form) is
      where
        by : (b : Bool) → cond b None (state_after (source_code k) x (Some n) (act own_name (source_code k) n.number n.form (counted_step x.frame))) ≡ Some x' → Beside k x' y'
        by true is = none-not_some is
        by false is = statement-beside n no_work idle (at-node k x y n beside at) (act own_name (source_code k) n.number n.form (counted_step x.frame)) refl is steps

    -- the local step of the source and that of the code stand beside each other again
    pub steps-beside : local_step own_name (source_code k) x ≡ Some x' → code_local_step own_name (ready k) y ≡ Some y' → Beside k x' y'
    steps-beside is steps = step-by x.frame.work x.frame.call (node_at (source_code k) x.point) refl refl refl is steps
