-- What comes next in the code, where something comes next in the source.
use Rattle.std.proofs.Common.{◌≡◌, ◌⊎◌, inl, inr, ℕ, suc, ◌+◌, List, [], ◌∷◌, ◌++◌, length, Bool, true, false, Option, Some, None, refl, sym, ap, ap₂, subst, ◌∙◌, arith, true≢false}
use Rattle.std.specs.Prelude.{drop}
use Rattle.herm_model.specs.Paths.{Path}
use Rattle.herm_model.specs.Expressions.{Atom}
use Rattle.herm_model.specs.Nodes.{Node}
use Rattle.herm_model.specs.Statements.{Form, Call, For}
use Rattle.herm_model.specs.Targets.{Target, node, end, end_by}
use Rattle.herm_model.specs.Values.{Name, Cell}
use Rattle.herm_model.proofs.Options.{none-not_some, map-some}
use Rattle.herm_forms.specs.Acts.{is_action, act, leads_to}
use Rattle.herm_forms.specs.EdgeFinalising.{arrive}
use Rattle.herm_forms.specs.Frames.{Frame, Completion, goes, stays, stuck, counted_step}
use Rattle.herm_forms.proofs.KeptBodies.{IsCall}
use Rattle.herm_source.specs.States as states
use Rattle.herm_source.specs.States.{State, Next, own_name, node_at, next_of, state_after}
use Rattle.herm_source.proofs.sound.OneModule.{StandsWell, step-there}
use Rattle.herm_instructions.specs.Images.{instruction_at}
use Rattle.herm_instructions.specs.Instructions.{Step}
use Rattle.herm_code_machine.specs.CodeLocal.{IsLocallySoundCode}
use Rattle.herm_code_machine.specs.CodeStates.{Position, at_index, at_end, at_end_by, CodeState}
use Rattle.herm_code_machine.specs.CodeSteps.{an_item, a_reply, an_action, a_local_piece, nothing, code_next, item_or, call_or_piece, by_met}
use Rattle.herm_code_machine.specs.Pieces.{action_from, stack_before_action, behind_operands}
use Rattle.herm_translated.specs.BlockLabels.{comes_again}
use Rattle.herm_translated.specs.Fronts.{front_length}
use Rattle.herm_translated.proofs.Joined.{length-joined}
use Rattle.herm_simulation.specs.Leading.{StandFrom}
use Rattle.herm_simulation.specs.Standing.{IsWithin, IsAtPoint}
use Rattle.herm_simulation.proofs.ActingCalls.{main, before, front-at, call-acts}
use Rattle.herm_simulation.proofs.ActingForms.{Acting, each-acts, operands-first}
use Rattle.herm_simulation.proofs.Arrivals.{step-at}
use Rattle.herm_simulation.proofs.Beside.{Beside, AtNode, at-node, next-at_step}
use Rattle.herm_simulation.proofs.InPlace.{Coded, types, variables, constants, source_code, checked_code, blocks, code, ready, begins_at, block, block-here, no-block, front-stands}
use Rattle.herm_simulation.proofs.Leading.{stand-first, stand-right}
use Rattle.herm_simulation.proofs.LocalSteps.{runs-by, never-stays}
use Rattle.herm_simulation.proofs.PiecesBegin.{IsFirst, acts-first, stand-dropped}
use Rattle.herm_simulation.proofs.SourceSide.{values-here, found-here}

pub calls-or : (form : Form) → ((o : Path) × (atoms : List Atom) × (form ≡ Call o atoms)) ⊎ (IsCall form → ⊥)
calls-or (Call o atoms) = inl (o, atoms, refl)
calls-or form = inr (λ h. h)

module _ (k : Coded) (x : State Name) (y : CodeState Name) where
  -- what comes next on both sides
  pub data Nexts : Type 0 where
    on_item : (item : Cell Name) (work : List (Cell Name)) → x.frame.work ≡ item ∷ work → next_of (source_code k) x ≡ states.an_item item work → code_next (ready k) y ≡ an_item item work → Nexts
    on_reply : (q : ℕ) (n : Node) (here : AtNode k x y n) (o : Path) (atoms : List Atom) (same : n.form ≡ Call o atoms) → x.frame.call ≡ Some q → next_of (source_code k) x ≡ states.a_reply q n
        → here.index ≡ suc (begins_at k here.place) + length (before k here.place n here.there o atoms same)
        → code_next (ready k) y ≡ a_reply q here.index (main k here.place n here.there o atoms same) → Nexts
    on_action : (n : Node) (here : AtNode k x y n) (acting : Acting k here.place n here.there x.frame) → x.frame.work ≡ [] → x.frame.call ≡ None → is_action (source_code k) n.form ≡ true → next_of (source_code k) x ≡ states.a_statement n
        → y.position ≡ at_index (begins_at k here.place)
        → code_next (ready k) y ≡ an_action (record { has_step = true; first = suc (begins_at k here.place) }) (record { index = suc (begins_at k here.place) + length acting.before; instruction = acting.main })
        → stack_before_action (ready k) (record { has_step = true; first = suc (begins_at k here.place) }) y.frame.variables y.stack ≡ Some acting.stack → Nexts
    on_local : (n : Node) (here : AtNode k x y n) (step : ℕ) → x.frame.call ≡ None → is_action (source_code k) n.form ≡ false → next_of (source_code k) x ≡ states.a_statement n
        → code_next (ready k) y ≡ a_local_piece (record { has_step = true; first = suc step }) → y.position ≡ at_index step → Nexts
    on_nothing : next_of (source_code k) x ≡ states.nothing → code_next (ready k) y ≡ nothing → Nexts

  module _ (stands : StandsWell k.exceptions (types k) k.processes k.process k.labels k.sound x) (beside : Beside k x y) (sound : IsLocallySoundCode (ready k) y) where
    same-work : (work : List (Cell Name)) → x.frame.work ≡ work → y.frame.work ≡ work
    same-work work e = ap (λ (b : Frame Name). b.work) beside.frame ∙ e

    pub same-call : (call : Option ℕ) → x.frame.call ≡ call → y.frame.call ≡ call
    same-call call e = ap (λ (b : Frame Name). b.call) beside.frame ∙ e

    source-next : (work : List (Cell Name)) (call : Option ℕ) (o : Option Node) → x.frame.work ≡ work → x.frame.call ≡ call → node_at (source_code k) x.point ≡ o → next_of (source_code k) x ≡ states.item_or work (states.call_or_statement call o)
    source-next work call o w c at = ap₂ (λ work call. states.item_or work (states.call_or_statement call (node_at (source_code k) x.point))) w c ∙ ap (λ o. states.item_or work (states.call_or_statement call o)) at

    code-next : (work : List (Cell Name)) (call : Option ℕ) (p : Position) → x.frame.work ≡ work → x.frame.call ≡ call → y.position ≡ p → code_next (ready k) y ≡ item_or work (call_or_piece (ready k) p call)
    code-next work call p w c at = ap₂ (λ work call. item_or work (call_or_piece (ready k) y.position call)) (same-work work w) (same-call call c) ∙ ap (λ p. item_or work (call_or_piece (ready k) p call)) at

    -- an open call
    pub record IsOpen (q : ℕ) (n : Node) : Type 0 where
      pub here : AtNode k x y n
      pub port : Path
      pub atoms : List Atom
      pub same : n.form ≡ Call port atoms
      pub place : here.index ≡ suc (begins_at k here.place) + length (before k here.place n here.there port atoms same)
      pub there : instruction_at (code k) here.index ≡ Some (main k here.place n here.there port atoms same)

    pub open-at : (q : ℕ) (n : Node) → x.frame.call ≡ Some q → node_at (source_code k) x.point ≡ Some n → IsOpen q n
    open-at q n c at =
        let here = at-node k x y n beside at in
        let i = here.place in
        let within = subst (λ call. IsWithin (constants k) (checked_code k) (begins_at k i) (comes_again (blocks k) i) (block k i n) call here.index) (same-call (Some q) c) here.within in
        let same = within.3 in
        let o = within.1 in
        let atoms = within.2 in
        let long : front_length (types k) (variables k) (constants k) n.form ≡ length (before k i n here.there o atoms same) + 1
        = ap (front_length (types k) (variables k) (constants k)) same ∙ length-joined (before k i n here.there o atoms same) (main k i n here.there o atoms same ∷ []) in
        let w0 = within.0 in
        let place : here.index ≡ suc (begins_at k i) + length (before k i n here.there o atoms same) = omega (arith, w0, long) in
        let there : instruction_at (code k) here.index ≡ Some (main k i n here.there o atoms same) =
        ap (instruction_at (code k)) place
        ∙ stand-first (ready k) (suc (begins_at k i) + length (before k i n here.there o atoms same)) (main k i n here.there o atoms same) []
        (stand-right (ready k) (suc (begins_at k i)) (before k i n here.there o atoms same) (main k i n here.there o atoms same ∷ []) (front-at k i n here.there o atoms same).stands) in
        record { here = here; port = o; atoms = atoms; same = same; place = place; there = there }

    replies : (q : ℕ) (n : Node) → x.frame.work ≡ [] → x.frame.call ≡ Some q → node_at (source_code k) x.point ≡ Some n → Nexts
    replies q n w c at =
        let h = open-at q n c at in
        on_reply q n h.here h.port h.atoms h.same c (source-next [] (Some q) (Some n) w c at) h.place
        (code-next [] (Some q) (at_index (h.here).index) w c (h.here).position ∙ ap (λ x. by_met q (elim x [ None ↦ None | Some instruction ↦ Some (record { index = (h.here).index; instruction = instruction }) ])) h.there)

    -- a statement
    pub idle-within : (n : Node) (here : AtNode k x y n) → x.frame.call ≡ None → IsWithin (constants k) (checked_code k) (begins_at k here.place) (comes_again (blocks k) here.place) (block k here.place n) None here.index
    idle-within n here c = subst (λ call. IsWithin (constants k) (checked_code k) (begins_at k here.place) (comes_again (blocks k) here.place) (block k here.place n) call here.index) (same-call None c) here.within

    pub acting-here : (n : Node) (here : AtNode k x y n) → x.frame.call ≡ None → is_action (source_code k) n.form ≡ true → ((o : Path) × (atoms : List Atom) × (n.form ≡ Call o atoms)) ⊎ (IsCall n.form → ⊥) → Acting k here.place n here.there x.frame
    acting-here n here c acts (inl call) =
        call-acts k here.place n here.there call.0 call.1 call.2 x.frame (values-here k here.place n here.there x stands here.point c) (found-here k here.place n here.there x stands here.point c)
    acting-here n here c acts (inr other) =
        each-acts k here.place n here.there x.frame (values-here k here.place n here.there x stands here.point c) (found-here k here.place n here.there x stands here.point c) n.form refl other acts

    no-loop : (r t : Path) → is_action (source_code k) (For r t) ≡ true → ⊥
    no-loop r t e = true≢false (sym e)

    pub action-at_first : (n : Node) (here : AtNode k x y n) → x.frame.call ≡ None → is_action (source_code k) n.form ≡ true → y.position ≡ at_index (begins_at k here.place)
    action-at_first n here c acts = by (idle-within n here c)
      where
        by : IsWithin (constants k) (checked_code k) (begins_at k here.place) (comes_again (blocks k) here.place) (block k here.place n) None here.index → y.position ≡ at_index (begins_at k here.place)
        by (inl e) = here.position ∙ ap at_index e
        by (inr h) = absurd (no-loop h.2 h.3 (ap (is_action (source_code k)) (sym h.4) ∙ acts))

    -- the action comes first behind operands
    row-first : (n : Node) (here : AtNode k x y n) (acting : Acting k here.place n here.there x.frame) → IsFirst (acting.before ++ (acting.main ∷ [])) (drop (suc (begins_at k here.place)) (code k).code)
    row-first n here acting =
        stand-dropped (ready k) (suc (begins_at k here.place)) (acting.before ++ (acting.main ∷ []))
        (subst (StandFrom (ready k) (suc (begins_at k here.place))) acting.is (front-stands k here.place n here.there).stands)

    pub action-met : (n : Node) (here : AtNode k x y n) (acting : Acting k here.place n here.there x.frame)
        → action_from (types k) (drop (suc (begins_at k here.place)) (code k).code) (suc (begins_at k here.place)) ≡ Some (record { index = suc (begins_at k here.place) + length acting.before; instruction = acting.main })
    action-met n here acting = acts-first (types k) acting.before acting.main (drop (suc (begins_at k here.place)) (code k).code) (suc (begins_at k here.place)) (row-first n here acting) acting.operands acting.other acting.action

    actions : (n : Node) → x.frame.work ≡ [] → x.frame.call ≡ None → node_at (source_code k) x.point ≡ Some n → is_action (source_code k) n.form ≡ true → Nexts
    actions n w c at acts =
        let here = at-node k x y n beside at in
        let i = here.place in
        let acting = acting-here n here c acts (calls-or n.form) in
        let position = action-at_first n here c acts in
        on_action n here acting w c acts (source-next [] None (Some n) w c at) position
        (next-at_step k y (begins_at k i) (Some (record { index = suc (begins_at k i) + length acting.before; instruction = acting.main })) (same-work [] w) (same-call None c) position (step-at k i (block k i n) (block-here k i n here.there)) (action-met n here acting))
        (ap₂ (λ (b : Frame Name) stack. behind_operands (ready k) b.variables (drop (suc (begins_at k i)) (code k).code) stack) beside.frame beside.stack
        ∙ operands-first (ready k) x.frame.variables acting.before acting.main (drop (suc (begins_at k i)) (code k).code) [] (row-first n here acting) acting.other
        ∙ acting.row)

    -- no action comes next at a local step
    pub local-piece : (n : Node) (here : AtNode k x y n) → x.frame.call ≡ None → node_at (source_code k) x.point ≡ Some n → is_action (source_code k) n.form ≡ false
        → (step : ℕ) × (y.position ≡ at_index step) × (instruction_at (code k) step ≡ Some Step) × (action_from (types k) (drop (suc step) (code k).code) (suc step) ≡ None)
    local-piece n here c at local =
        let s = step-there k.exceptions (types k) k.processes k.process k.labels k.sound x x stands n at c local in
        by (act own_name (source_code k) n.number n.form (counted_step x.frame)) refl s.0 s.1
      where
        by : (r : Completion Name) → act own_name (source_code k) n.number n.form (counted_step x.frame) ≡ r → (x' : State Name) → state_after (source_code k) x (Some n) r ≡ Some x'
            → (step : ℕ) × (y.position ≡ at_index step) × (instruction_at (code k) step ≡ Some Step) × (action_from (types k) (drop (suc step) (code k).code) (suc step) ≡ None)
        by (goes o b) acts x' is =
            let m = map-some (λ t. record { module_number = x.module_number; point = t; frame = arrive (source_code k) t b }) (leads_to (source_code k) n o) x' is in
            let r = runs-by k x x y y stands beside sound n c here o b acts m.0 m.1 (idle-within n here c) in
            (r.step, r.position, r.stands_there, r.quiet)
        by (stays b) acts x' is = absurd (never-stays k n.number n.form (counted_step x.frame) b acts)
        by stuck acts x' is = none-not_some is

    locals : (n : Node) → x.frame.work ≡ [] → x.frame.call ≡ None → node_at (source_code k) x.point ≡ Some n → is_action (source_code k) n.form ≡ false → Nexts
    locals n w c at local =
        let here = at-node k x y n beside at in
        let p = local-piece n here c at local in
        on_local n here p.0 c local (source-next [] None (Some n) w c at) (next-at_step k y p.0 None (same-work [] w) (same-call None c) p.1 p.2 p.3) p.1

    -- an end
    ends : (call : Option ℕ) → x.frame.work ≡ [] → x.frame.call ≡ call → node_at (source_code k) x.point ≡ None → Nexts
    ends call w c at = by y.position x.point refl refl beside.place at
      where
        nothing-source : (call : Option ℕ) → states.call_or_statement {N = Name} call None ≡ states.nothing
        nothing-source None = refl
        nothing-source (Some q) = refl

        ended-by : (p : Position) → y.position ≡ p → ((call : Option ℕ) → call_or_piece {N = Name} (ready k) p call ≡ nothing) → Nexts
        ended-by p e none = on_nothing (source-next [] call None w c at ∙ nothing-source call) (code-next [] call p w c e ∙ none call)

        none-end : (call : Option ℕ) → call_or_piece {N = Name} (ready k) at_end call ≡ nothing
        none-end None = refl
        none-end (Some q) = refl

        none-by : (d : ℕ) (call : Option ℕ) → call_or_piece {N = Name} (ready k) (at_end_by d) call ≡ nothing
        none-by d None = refl
        none-by d (Some q) = refl

        by : (p : Position) (t : Target) → y.position ≡ p → x.point ≡ t → IsAtPoint (constants k) (checked_code k) y.frame.call p t → node_at (source_code k) t ≡ None → Nexts
        by (at_index j) (node i) e f h none =
            none-not_some (sym (no-block k i none) ∙ h.1)
        by (at_index j) end e f h none = absurd h
        by (at_index j) (end_by x') e f h none = absurd h
        by at_end t e f h none = ended-by at_end e none-end
        by (at_end_by d) t e f h none = ended-by (at_end_by d) e (none-by d)

    pub nexts-by : (work : List (Cell Name)) (call : Option ℕ) (o : Option Node) → x.frame.work ≡ work → x.frame.call ≡ call → node_at (source_code k) x.point ≡ o → Nexts
    nexts-by (item ∷ work) call o w c at = on_item item work w (source-next (item ∷ work) call o w c at) (code-next (item ∷ work) call y.position w c refl)
    nexts-by [] call None w c at = ends call w c at
    nexts-by [] (Some q) (Some n) w c at = replies q n w c at
    nexts-by [] None (Some n) w c at = by (is_action (source_code k) n.form) refl
      where
        by : (b : Bool) → is_action (source_code k) n.form ≡ b → Nexts
        by true acts = actions n w c at acts
        by false local = locals n w c at local

    pub nexts : Nexts
    nexts = nexts-by x.frame.work x.frame.call (node_at (source_code k) x.point) refl refl refl
