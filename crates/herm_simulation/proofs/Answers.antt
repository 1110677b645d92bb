-- The answer to what is wanted is one in the code, after which the code stands beside the source again.
use Rattle.std.proofs.Common.{◌≡◌, inr, ℕ, suc, ◌+◌, List, [], ◌∷◌, length, Bool, true, false, cond, Option, Some, None, option_map, option_and_then, slice_get, refl, sym, ap, ap₂, subst, ◌∙◌, arith, true≢false}
use Rattle.std.specs.Prelude.{◌||◌, ⊤}
use Rattle.herm_model.specs.Lists.{IsIn, list_of, any_pass}
use Rattle.herm_model.specs.Paths.{Path, path_of, is_at_or_below}
use Rattle.herm_model.specs.Labels.{label_at}
use Rattle.herm_model.specs.Expressions.{Atom}
use Rattle.herm_model.specs.Nodes.{Node}
use Rattle.herm_model.specs.Outcomes.{Outcome, outcomes}
use Rattle.herm_model.specs.Statements.{Form, For, Call}
use Rattle.herm_model.specs.Targets.{Target, node}
use Rattle.herm_model.specs.Values.{Name, Cell}
use Rattle.herm_model.proofs.FactTests.{got-IsIn}
use Rattle.herm_model.proofs.Options.{none-not_some, some-injective, map-some}
use Rattle.herm_journal.specs.Actions.{put, take, hear}
use Rattle.herm_journal.specs.Messages.{CellWant, CellAction, CellReply, IsReplyTo}
use Rattle.herm_forms.specs.Acts.{is_action, wants, settle, settle_reply, leads_to}
use Rattle.herm_forms.specs.ClosesAndAnswers
use Rattle.herm_forms.specs.EdgeFinalising.{arrive}
use Rattle.herm_forms.specs.Frames.{Frame, Completion, goes, stays, stuck, counted_step, counted_action}
use Rattle.herm_forms.specs.Incoming.{ComesIn, looked_at}
use Rattle.herm_forms.specs.OpenCalls.{Calling, calling_form, call_type, lent_paths, IsReply}
use Rattle.herm_forms.specs.laws.EdgeLaws.{AreSound, held_after}
use Rattle.herm_forms.specs.laws.CallLaws.{without_lent}
use Rattle.herm_forms.proofs.KeptBodies.{All, went, stayed, never, all-work, all-settle, all-settle_reply}
use Rattle.herm_forms.proofs.forms.PlainForms.{same_facts}
use Rattle.herm_forms.proofs.typed.EachForm.{puts-same}
use Rattle.herm_source.specs.States as states
use Rattle.herm_source.specs.States.{State, own_name, node_at, next_of, state_after, wanted, answered}
use Rattle.herm_source.specs.Local.{calling}
use Rattle.herm_source.specs.SeenBySystem.{open_call}
use Rattle.herm_source.proofs.sound.OneForm.{AnswersWell, GoesWell, settles-well, replies-well}
use Rattle.herm_source.proofs.sound.OneModule.{StandsWell, has_of, values-of, lists-of}
use Rattle.herm_source.proofs.sound.Shapes.{HasLoops, loops-kept, OnlyWorks, only-lets}
use Rattle.herm_source.proofs.sound.SoundProcesses.{SuitsCode, put-wanted}
use Rattle.herm_system.specs.Machines.{OpenCall}
use Rattle.herm_system.specs.Suiting.{Answers}
use Rattle.herm_runs.proofs.ActionParts.{cond-both}
use Rattle.herm_instructions.specs.Actions.{is_step, is_action as instruction_acts}
use Rattle.herm_instructions.specs.Images.{instruction_at}
use Rattle.herm_instructions.specs.Instructions.{Instruction}
use Rattle.herm_code_machine.specs.CodeActions.{code_settles, code_hears}
use Rattle.herm_code_machine.specs.CodeLocal.{IsLocallySoundCode}
use Rattle.herm_code_machine.specs.CodeStates.{at_index, CodeState, leads, stack_after, state_behind, begins_piece, to_next_piece}
use Rattle.herm_code_machine.specs.CodeSteps
use Rattle.herm_code_machine.specs.CodeSteps.{CodeNext, code_next, code_answered, settled, settled_action, worked}
use Rattle.herm_code_machine.specs.Pieces.{Met, Piece}
use Rattle.herm_code_machine.specs.Stacks.{Effect}
use Rattle.herm_code_machine.specs.laws.PieceLaws.{IsAtPiece}
use Rattle.herm_translated.specs.CodeBlocks.{slots_around, slots_within}
use Rattle.herm_translated.specs.Fronts.{front_length}
use Rattle.herm_translated.proofs.Joined.{length-joined}
use Rattle.herm_translated.proofs.Lengths.{front-long}
use Rattle.herm_simulation.specs.Checks.{list_at}
use Rattle.herm_simulation.specs.Leading.{StandFrom, state_at}
use Rattle.herm_simulation.specs.Standing.{IsAtPoint}
use Rattle.herm_simulation.specs.laws.EdgeLaws.{AreListsOf}
use Rattle.herm_simulation.proofs.ActingCalls.{main, before, call-hears, call-out}
use Rattle.herm_simulation.proofs.ActingForms.{Acting}
use Rattle.herm_simulation.proofs.Arrivals.{outcome-among}
use Rattle.herm_simulation.proofs.Beside.{Beside, AtNode, lists-first}
use Rattle.herm_simulation.proofs.DoneFronts.{after-none}
use Rattle.herm_simulation.proofs.InPlace.{Coded, types, variables, constants, source_code, checked_code, code, ready, nodes, begins_at, block, block-here, front-stands, slots_of, exit}
use Rattle.herm_simulation.proofs.Leading.{stand-first, stand-right, nothing-leads, leads-one}
use Rattle.herm_simulation.proofs.LocalSteps.{leads-beside}
use Rattle.herm_simulation.proofs.Nexts.{Nexts, on_item, on_reply, on_action, on_local, on_nothing, nexts}
use Rattle.herm_simulation.proofs.SourceSide.{goes-is, typed-here, values-here, found-here, shaped-here}

-- a form that visits no table has the slots around it
own-none : (k : Coded) (i number : ℕ) (form : Form) → ((r t : Path) → form ≡ For r t → ⊥) → slots_within (types k) (variables k) number form (slots_around (source_code k) i) ≡ slots_around (source_code k) i
own-none k i number (For r t) other = absurd (other r t refl)
own-none k i number form other = refl

abbrev frame_there : Completion Name → Option (Frame Name)
frame_there (stays b) = Some b
frame_there r = None

stays-is : (Is Stay : Frame Name → Type 0) (r : Completion Name) (b : Frame Name) → All Is Stay r → r ≡ stays b → Stay b
stays-is Is Stay r b (went q d h) e = none-not_some (ap frame_there e)
stays-is Is Stay r b (stayed d h) e = subst Stay (some-injective (ap frame_there e)) h
stays-is Is Stay r b never e = none-not_some (ap frame_there e)

-- where a run begins at a piece, it comes to nothing else
rests : (k : Coded) (s t : CodeState Name) → IsAtPiece (ready k) s.position → to_next_piece own_name (ready k) s ≡ Some t → t ≡ s
rests k s t piece is = leads-one own_name (ready k) s s t (nothing-leads own_name (ready k) s) piece is

module _ (k : Coded) (x x' : State Name) (y y' : CodeState Name) (stands : StandsWell k.exceptions (types k) k.processes k.process k.labels k.sound x) (beside : Beside k x y) (sound : IsLocallySoundCode (ready k) y) (from : ℕ) (a : CellAction Name) where
  -- the front of the work list
  item-beside : (item : Cell Name) (work : List (Cell Name)) → x.frame.work ≡ item ∷ work → (r : Completion Name) → ClosesAndAnswers.work_done item a (counted_action (record (x.frame) { work = work })) ≡ r
      → state_after (source_code k) x None r ≡ Some x' → worked y r ≡ Some y' → Beside k x' y'
  item-beside item work w (goes o b) done is steps = none-not_some is
  item-beside item work w stuck done is steps = none-not_some is
  item-beside item work w (stays b) done is steps =
      let kept = stays-is (OnlyWorks (source_code k) x.frame.variables x.frame.loops x.frame.call) (OnlyWorks (source_code k) x.frame.variables x.frame.loops x.frame.call) (ClosesAndAnswers.work_done item a (counted_action (record (x.frame) { work = work }))) b
      (all-work (OnlyWorks (source_code k) x.frame.variables x.frame.loops x.frame.call) (only-lets (source_code k) x.frame.variables x.frame.loops x.frame.call) item a (counted_action (record (x.frame) { work = work }))
      ((λ z h. (stands.0).work z (subst (IsIn z) (sym w) (inr h))), refl, refl, refl)) done in
      let same : y.frame.call ≡ b.call = ap (λ (d : Frame Name). d.call) beside.frame ∙ sym kept.3 in
      subst (λ (x' : State Name). Beside k x' y') (some-injective is)
      (subst (λ (y' : CodeState Name). Beside k (record x { frame = b }) y') (some-injective steps)
      (record {
        module_number = beside.module_number;
        place = subst (λ call. IsAtPoint (constants k) (checked_code k) call y.position x.point) same beside.place;
        stack = beside.stack;
        frame = refl;
        lists = λ q i called here. subst (AreListsOf (slots_around (source_code k) i)) (sym kept.2) (beside.lists q i (sym kept.3 ∙ called) here);
      }))

  -- behind an instruction that leads out by an outcome
  settled-beside : (i : ℕ) (n : Node) (at : slice_get (nodes k) i ≡ Some n) (index : ℕ) (z : Instruction) (o : Outcome) (b : Frame Name) → (IsIn o (outcomes (types k) (variables k) n.form) → leads (ready k) index z o ≡ Some (exit k i n o))
      → AreSound (source_code k) (held_after (types k) (variables k) n.form o (k.labels i)) b.variables → b.call ≡ None → AreListsOf (slots_of k i n) b.loops
      → state_after (source_code k) x (Some n) (goes o b) ≡ Some x' → settled own_name (ready k) y index z [] (goes o b) ≡ Some y' → Beside k x' y'
  settled-beside i n at index z o b out values closed lists is steps =
      let m = map-some (λ t. record { module_number = x.module_number; point = t; frame = arrive (source_code k) t b }) (leads_to (source_code k) n o) x' is in
      let led = out (outcome-among k n (got-IsIn (nodes k) i n at) o m.0 m.1) in
      let there = state_at y.module_number (exit k i n o) [] b in
      let behind : state_behind (ready k) y index z [] (goes o b) ≡ Some there =
      ap (option_map (λ j. state_at y.module_number j (stack_after o []) b)) led ∙ ap (λ stack. Some (state_at y.module_number (exit k i n o) stack b)) (after-none o) in
      let runs : to_next_piece own_name (ready k) there ≡ Some y' = sym (ap (option_and_then (to_next_piece own_name (ready k))) behind) ∙ steps in
      leads-beside k i n at y.module_number there y' x x' o m.0 b beside.module_number m.1 values closed lists m.2 (nothing-leads own_name (ready k) there) runs

  -- the answer to a statement's action
  module _ (n : Node) (here : AtNode k x y n) (acting : Acting k here.place n here.there x.frame) (idle : x.frame.call ≡ None) (acts : is_action (source_code k) n.form ≡ true) (position : y.position ≡ at_index (begins_at k here.place))
      (comes : ComesIn own_name (source_code k) n.form (counted_action (counted_step x.frame)) from a) where
    abbrev i : ℕ
    i = here.place

    abbrev counted : Frame Name
    counted = counted_action (counted_step x.frame)

    abbrev index : ℕ
    index = suc (begins_at k i) + length acting.before

    no-loop : (r t : Path) → n.form ≡ For r t → ⊥
    no-loop r t e = true≢false (sym acts ∙ ap (is_action (source_code k)) e)

    around : slots_of k i n ≡ slots_around (source_code k) i
    around = own-none k i n.number n.form no-loop

    lists-here : AreListsOf (slots_around (source_code k) i) x.frame.loops
    lists-here = subst (AreListsOf (slots_around (source_code k) i)) (ap (λ (b : Frame Name). b.loops) beside.frame) (lists-first k i n here.there y sound (ap (λ (b : Frame Name). b.call) beside.frame ∙ idle) position)

    well : AnswersWell (source_code k) n.form (k.labels i) x.frame.loops (settle own_name (source_code k) n.form from a counted)
    well = settles-well k.exceptions k.processes (source_code k) n.form (typed-here k i n here.there) acts from a (k.labels i) counted
        (values-here k i n here.there x stands here.point idle) (found-here k i n here.there x stands here.point idle) comes (shaped-here k i n here.there x stands here.point idle)

    kept-loops : All (HasLoops (source_code k) None x.frame.loops) (λ b. ⊤) (settle own_name (source_code k) n.form from a counted)
    kept-loops = all-settle own_name (HasLoops (source_code k) None x.frame.loops) (λ b. ⊤) (loops-kept (source_code k) None x.frame.loops) (source_code k) n.form from a counted
        (((stands.0).work, idle), refl) (λ call m b h. tt)

    -- a call whose callmessage was placed stays
    opened-beside : (b : Frame Name) → AnswersWell (source_code k) n.form (k.labels i) x.frame.loops (stays b) → Some (record x { frame = b }) ≡ Some x' → settled own_name (ready k) y index acting.main [] (stays b) ≡ Some y' → Beside k x' y'
    opened-beside b h is steps =
        let o = by n.form refl h.1 in
        let opened : CodeState Name = state_at y.module_number index [] b in
        let there : instruction_at (code k) index ≡ Some acting.main =
        stand-first (ready k) index acting.main []
        (stand-right (ready k) (suc (begins_at k i)) acting.before (acting.main ∷ []) (subst (StandFrom (ready k) (suc (begins_at k i))) acting.is (front-stands k i n here.there).stands)) in
        let rest : y' ≡ opened = rests k opened y' (acting.main, there, begins acting.main acting.action) steps in
        let long : front_length (types k) (variables k) (constants k) n.form ≡ length acting.before + 1 =
        sym (front-long (types k) (variables k) (constants k) (list_at k.facts i) n.number (suc (begins_at k i)) (exit k i n) n.form) ∙ ap length acting.is ∙ length-joined acting.before (acting.main ∷ []) in
        subst (λ (x' : State Name). Beside k x' y') (some-injective is)
        (subst (λ (y' : CodeState Name). Beside k (record x { frame = b }) y') (sym rest)
        (record {
          module_number = beside.module_number;
          place = subst (λ call. IsAtPoint (constants k) (checked_code k) call (at_index index) x.point) (sym h.6)
              (subst (λ t. IsAtPoint (constants k) (checked_code k) (Some h.5) (at_index index) t) (sym here.point)
              (block k i n, block-here k i n here.there, (omega (arith, long), o.0, o.1, o.2)));
          stack = refl;
          frame = refl;
          lists = λ q j called at. subst (AreListsOf (slots_around (source_code k) j)) (sym h.3) (subst (λ j. AreListsOf (slots_around (source_code k) j) x.frame.loops) (place-of i j (sym here.point ∙ at)) lists-here);
        }))
      where
        by : (form : Form) → n.form ≡ form → calling_form form ≡ Some h.0 → (o : Path) × (atoms : List Atom) × (n.form ≡ Call o atoms)
        by (Call o atoms) same c = (o, atoms, same)
        by form same c = none-not_some c

        place_in : Target → Option ℕ
        place_in (node j) = Some j
        place_in t = None

        place-of : (i j : ℕ) → node i ≡ node j → i ≡ j
        place-of i j e = some-injective (ap place_in e)

        begins : (z : Instruction) → instruction_acts (types k) z ≡ true → begins_piece (ready k) z ≡ true
        begins z e = by-step (is_step z) e
          where
            by-step : (b : Bool) → instruction_acts (types k) z ≡ true → (b || instruction_acts (types k) z) ≡ true
            by-step true e = refl
            by-step false e = e

    answer-by : (r : Completion Name) → settle own_name (source_code k) n.form from a counted ≡ r → state_after (source_code k) x (Some n) r ≡ Some x' → settled own_name (ready k) y index acting.main [] r ≡ Some y' → Beside k x' y'
    answer-by (goes o b) done is steps =
        let h : AnswersWell (source_code k) n.form (k.labels i) x.frame.loops (goes o b) = subst (AnswersWell (source_code k) n.form (k.labels i) x.frame.loops) done well in
        let kept = goes-is (HasLoops (source_code k) None x.frame.loops) (λ b. ⊤) (settle own_name (source_code k) n.form from a counted) o b kept-loops done in
        settled-beside i n here.there index acting.main o b (acting.out o) h.0 h.1.2
        (subst (λ slots. AreListsOf slots b.loops) (sym around) (subst (AreListsOf (slots_around (source_code k) i)) (sym kept.1) lists-here)) is steps
    answer-by (stays b) done is steps = opened-beside b (subst (AnswersWell (source_code k) n.form (k.labels i) x.frame.loops) done well) is steps
    answer-by stuck done is steps = none-not_some is

  calling-here : (n : Node) (here : AtNode k x y n) (o : Path) (atoms : List Atom) → n.form ≡ Call o atoms → calling (source_code k) x ≡ Some (record { port = o; arguments = atoms })
  calling-here n here o atoms same =
      ap (λ t. option_and_then (λ (n : Node). calling_form n.form) (node_at (source_code k) t)) here.point ∙ ap (option_and_then (λ (n : Node). calling_form n.form)) here.there ∙ ap calling_form same

  -- the reply to an open call
  module _ (q : ℕ) (n : Node) (here : AtNode k x y n) (o : Path) (atoms : List Atom) (same : n.form ≡ Call o atoms) (called : x.frame.call ≡ Some q) (reply : (m : ℕ) (r : CellReply Name) → a ≡ hear m r → IsReply (source_code k) (record { port = o; arguments = atoms }) r) where
    abbrev at : ℕ
    at = here.place

    abbrev the_call : Calling
    the_call = record { port = o; arguments = atoms }

    abbrev the_main : Instruction
    the_main = main k at n here.there o atoms same

    abbrev main_index : ℕ
    main_index = suc (begins_at k at) + length (before k at n here.there o atoms same)

    is-form : calling_form n.form ≡ Some the_call
    is-form = ap calling_form same

    is-calling : calling (source_code k) x ≡ Some the_call
    is-calling = calling-here n here o atoms same

    open-values : AreSound (source_code k) (without_lent (source_code k) the_call (k.labels at)) x.frame.variables
    open-values =
        same_facts (source_code k) (has_of (source_code k) x) (without_lent (source_code k) the_call (k.labels at)) x.frame.variables
        (λ f.
        ap (λ (o : Option ℕ). cond (any_pass (λ p. is_at_or_below p (path_of f)) (list_of (λ _. list_of (lent_paths (source_code k)) (calling (source_code k) x)) o)) false (label_at k.labels x.point f)) called
        ∙ ap (λ (o : Option Calling). cond (any_pass (λ p. is_at_or_below p (path_of f)) (list_of (lent_paths (source_code k)) o)) false (label_at k.labels x.point f)) is-calling
        ∙ ap (λ t. cond (any_pass (λ p. is_at_or_below p (path_of f)) (lent_paths (source_code k) the_call)) false (label_at k.labels t f)) here.point)
        (values-of (source_code k) x stands.0)

    reply-well : GoesWell (source_code k) n.form (k.labels at) (settle_reply (source_code k) n.form q a (counted_action x.frame))
    reply-well = replies-well k.exceptions k.processes (source_code k) n.form the_call is-form (typed-here k at n here.there) q a (k.labels at) (counted_action x.frame) reply open-values (lists-of (source_code k) x stands.0, (stands.0).work, refl)

    kept-reply : All (HasLoops (source_code k) None x.frame.loops) (λ b. ⊥) (settle_reply (source_code k) n.form q a (counted_action x.frame))
    kept-reply = all-settle_reply own_name (HasLoops (source_code k) None x.frame.loops) (λ b. ⊥) (loops-kept (source_code k) None x.frame.loops) (source_code k) n.form q a (counted_action x.frame) (((stands.0).work, refl), refl)

    call-no_loop : (r t : Path) → n.form ≡ For r t → ⊥
    call-no_loop r t e = none-not_some (sym (ap calling_form e) ∙ is-form)

    reply-by : (r : Completion Name) → settle_reply (source_code k) n.form q a (counted_action x.frame) ≡ r → state_after (source_code k) x (Some n) r ≡ Some x' → settled own_name (ready k) y main_index the_main [] r ≡ Some y' → Beside k x' y'
    reply-by (goes z b) done is steps =
        let h : GoesWell (source_code k) n.form (k.labels at) (goes z b) = subst (GoesWell (source_code k) n.form (k.labels at)) done reply-well in
        let kept = goes-is (HasLoops (source_code k) None x.frame.loops) (λ b. ⊥) (settle_reply (source_code k) n.form q a (counted_action x.frame)) z b kept-reply done in
        settled-beside at n here.there main_index the_main z b (call-out k at n here.there o atoms same z) h.0 h.1.2
        (subst (λ slots. AreListsOf slots b.loops) (sym (own-none k at n.number n.form call-no_loop)) (subst (AreListsOf (slots_around (source_code k) at)) (sym kept.1) (beside.lists q at called here.point))) is steps
    reply-by (stays b) done is steps = absurd (stays-is (HasLoops (source_code k) None x.frame.loops) (λ b. ⊥) (settle_reply (source_code k) n.form q a (counted_action x.frame)) b kept-reply done)
    reply-by stuck done is steps = none-not_some is

  module _ (w : CellWant Name) (answers : Answers w a) (suits : SuitsCode (types k) (source_code k) x from a) (want : wanted own_name (source_code k) x ≡ Some w) where
    -- what comes in with the answer to a statement
    comes-in : (n : Node) → node_at (source_code k) x.point ≡ Some n → wants own_name (source_code k) n.form x.frame ≡ Some w → (b : CellAction Name) → Answers w b → SuitsCode (types k) (source_code k) x from b
        → ComesIn own_name (source_code k) n.form (counted_action (counted_step x.frame)) from b
    comes-in n there is (take c m) answers suits = (suits.0, sym (ap (option_and_then (λ (node : Node). looked_at (source_code k) node.form x.frame from)) there) ∙ suits.1, suits.2)
    comes-in n there is (put c m) answers suits =
        let z = put-wanted w c m answers in
        (z.0, puts-same own_name (source_code k) (suc x.frame.steps) (suc x.frame.actions) x.frame z.0 m n.form (is ∙ ap (λ w. Some w) z.1))
    comes-in n there is b answers suits = tt

    -- the reply that comes in is one that the call waits for
    reply-in : (q : ℕ) (c : Calling) → x.frame.call ≡ Some q → calling (source_code k) x ≡ Some c → (i : ℕ) (r : CellReply Name) → a ≡ hear i r → IsReply (source_code k) c r
    reply-in q c called is i r e =
        let h : SuitsCode (types k) (source_code k) x from (hear i r) = subst (SuitsCode (types k) (source_code k) x from) e suits in
        let there : open_call (source_code k) x ≡ Some (record { number = q; call_type = call_type (source_code k) c }) =
        ap (option_and_then (λ (n : ℕ). option_map (λ (c : Calling). record { number = n; call_type = call_type (source_code k) c }) (calling (source_code k) x))) called ∙ ap (option_map (λ (c : Calling). record { number = q; call_type = call_type (source_code k) c })) is in
        let same : h.0 ≡ record { number = q; call_type = call_type (source_code k) c } = some-injective (sym h.1 ∙ there) in
        subst (λ (z : OpenCall). IsReplyTo (types k) z.call_type r) same h.3

    pub answers-beside : answered own_name (source_code k) x from a ≡ Some x' → code_answered own_name (ready k) y from a ≡ Some y' → Beside k x' y'
    answers-beside is steps = by (nexts k x y stands beside sound)
      where
        by : Nexts k x y → Beside k x' y'
        by (on_item item work front s c) =
            item-beside item work front (ClosesAndAnswers.work_done item a (counted_action (record (x.frame) { work = work }))) refl
            (sym (ap (states.settle_next own_name (source_code k) x from a) s) ∙ is)
            (sym (ap (λ (b : Frame Name). worked y (ClosesAndAnswers.work_done item a (counted_action (record b { work = work })))) beside.frame) ∙ sym (ap (CodeSteps.settle_next own_name (ready k) y from a) c) ∙ steps)
        by (on_reply q n here o atoms same called s place c) =
            reply-by q n here o atoms same called (λ m r e. reply-in q (record { port = o; arguments = atoms }) called (calling-here n here o atoms same) m r e)
            (settle_reply (source_code k) n.form q a (counted_action x.frame)) refl
            (sym (ap (states.settle_next own_name (source_code k) x from a) s) ∙ is)
            (ap (λ r. settled own_name (ready k) y (suc (begins_at k here.place) + length (before k here.place n here.there o atoms same)) (main k here.place n here.there o atoms same) [] r) (sym (call-hears k here.place n here.there o atoms same q a (counted_action x.frame)))
            ∙ ap (λ j. settled own_name (ready k) y j (main k here.place n here.there o atoms same) [] (code_hears (main k here.place n here.there o atoms same) q a (counted_action x.frame))) (sym place)
            ∙ ap₂ (λ stack (b : Frame Name). settled own_name (ready k) y here.index (main k here.place n here.there o atoms same) stack (code_hears (main k here.place n here.there o atoms same) q a (counted_action b))) (sym beside.stack) (sym beside.frame)
            ∙ sym (ap (CodeSteps.settle_next own_name (ready k) y from a) c) ∙ steps)
        by (on_action n here acting front idle acts s position c stack) =
            let want' : wants own_name (source_code k) n.form x.frame ≡ Some w = (cond-both (is_action (source_code k) n.form) (wants own_name (source_code k) n.form x.frame) w (sym (ap (states.wanted_next own_name (source_code k) x.frame) s) ∙ want)).1 in
            let at : node_at (source_code k) x.point ≡ Some n = ap (node_at (source_code k)) here.point ∙ here.there in
            let m : Met = record { index = suc (begins_at k here.place) + length acting.before; instruction = acting.main } in
            let p : Piece = record { has_step = true; first = suc (begins_at k here.place) } in
            answer-by n here acting idle acts position (comes-in n at want' a answers suits) (settle own_name (source_code k) n.form from a (counted_action (counted_step x.frame))) refl
            (sym (ap (states.settle_next own_name (source_code k) x from a) s) ∙ is)
            (ap (λ (e : Effect Name). settled own_name (ready k) y m.index acting.main e.stack e.completion) (sym (acting.settles from a))
            ∙ ap (λ (b : Frame Name). let e = code_settles own_name (ready k) acting.main acting.stack from a (counted_action (counted_step b)) in settled own_name (ready k) y m.index acting.main e.stack e.completion) (sym beside.frame)
            ∙ sym (ap (option_and_then (settled_action own_name (ready k) y p m from a)) stack)
            ∙ sym (ap (CodeSteps.settle_next own_name (ready k) y from a) c) ∙ steps)
        by (on_local n here step called quiet s c position) =
            none-not_some (sym (ap (λ b. cond b (wants own_name (source_code k) n.form x.frame) None) quiet) ∙ sym (ap (states.wanted_next own_name (source_code k) x.frame) s) ∙ want)
        by (on_nothing s c) = none-not_some (sym (ap (states.settle_next own_name (source_code k) x from a) s) ∙ is)
