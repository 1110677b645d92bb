-- A process of a typed and accepted module stays sound within itself, and where control paths lead.
use Rattle.std.proofs.Common.{◌≡◌, ◌↔◌, inr, ℕ, List, [], ◌∷◌, Bool, true, false, cond, Option, Some, None, option_map, refl, sym, ap, ◌∙◌, subst, true≢false}
use Rattle.std.specs.Prelude.{slice_get, option_and_then, IsTrue, IsFalse}
use Rattle.herm_model.specs.Lists.{IsIn, list_of, any_pass}
use Rattle.herm_model.specs.Paths.{Fact, init, case, path_of, is_at_or_below}
use Rattle.herm_model.specs.Types.{TypeTable, inport}
use Rattle.herm_model.specs.WellFormedTables.{IsWellFormedTable}
use Rattle.herm_model.specs.TypedPrograms.{IsTypedProcess}
use Rattle.herm_model.specs.Statements.{Process, Form, Call}
use Rattle.herm_model.specs.Outcomes.{Outcome, same_outcome, outcomes}
use Rattle.herm_model.specs.Nodes.{Node, process_nodes, entry_of}
use Rattle.herm_model.specs.Exits.{Exit, exits}
use Rattle.herm_model.specs.Targets.{Target, node, end, end_by}
use Rattle.herm_model.specs.ControlPaths.{flow_of, IsReached}
use Rattle.herm_model.specs.Labels.{Labels, label_at, AreExact}
use Rattle.herm_model.specs.MissingFacts.{IsAccepted}
use Rattle.herm_model.specs.Values.{Cell, cell, an_inport, no_parts}
use Rattle.herm_model.proofs.Lists.{not_true, in-map_from}
use Rattle.herm_model.proofs.NodeExits.{exits-outcomes}
use Rattle.herm_model.proofs.Reached.{same_outcome_self}
use Rattle.herm_model.proofs.FactTests.{got-IsIn}
use Rattle.herm_model.proofs.NodeNumbers.{process_numbers-Rise}
use Rattle.herm_model.proofs.Options.{none-not_some, some-injective, map-some}
use Rattle.herm_journal.specs.Actions.{hear, to_put, to_answer, put, take}
use Rattle.herm_journal.specs.Messages.{CellAction, CellReply, CellWant}
use Rattle.herm_forms.specs.Frames.{Name, Loop, Frame, Completion, goes, stays, stuck, counted_step, counted_action}
use Rattle.herm_forms.specs.ClosesAndAnswers
use Rattle.herm_forms.specs.EdgeFinalising.{arrive}
use Rattle.herm_forms.specs.Modules.{Module, module_of}
use Rattle.herm_forms.specs.Acts.{is_action, leads_to, act, settle, settle_reply, wants}
use Rattle.herm_forms.specs.laws.EdgeLaws.{AreSound, AreDeep, held_after}
use Rattle.herm_forms.specs.OpenCalls.{Calling, calling_form, call_type, lent_paths, IsReply}
use Rattle.herm_forms.specs.laws.CallLaws.{without_lent}
use Rattle.herm_forms.specs.Incoming.{ComesIn, looked_at}
use Rattle.herm_forms.specs.laws.TypedForms.{IsTypedIn}
use Rattle.herm_forms.proofs.KeptBodies.{All, went, stayed, never, is-arrive, all-work}
use Rattle.herm_forms.proofs.called.SetArguments.{typed-called}
use Rattle.herm_forms.proofs.typed.EachGoes.{each-goes}
use Rattle.herm_source.proofs.incoming.SuitsPorts.{find-some}
use Rattle.herm_forms.proofs.forms.NewValues.{typed-by}
use Rattle.herm_forms.proofs.forms.PlainForms.{same_facts}
use Rattle.herm_forms.proofs.typed.WantsThere.{want-there}
use Rattle.herm_forms.proofs.typed.AnswersTaken.{answer-taken, reply-taken}
use Rattle.herm_forms.specs.laws.FormsTakeAnswers.{IsTaken, IsTakenAt, Meets}
use Rattle.herm_held.proofs.WantsHeld.{SendsBy, sends-by, RepliesFrom, replies-from}
use Rattle.herm_model.specs.Calls.{message_type}
use Rattle.herm_model.proofs.TypedCalls.{inport-is}
use Rattle.herm_source.specs.States.{State, own_name, begin, node_at, state_after}
use Rattle.herm_source.specs.Local.{IsLabelled, open_loans, calling, HasFact, row_of, row_type, IsListAt, IsLocallySound}
use Rattle.herm_source.proofs.BeginningsSound.{beginnings-sound}
use Rattle.herm_source.proofs.OutcomesArrive.{outcomes-arrive}
use Rattle.herm_source.proofs.reached.FoundNeeds.{labelled}
use Rattle.herm_source.proofs.reached.LeadsOn.{entry-reached}
use Rattle.herm_source.proofs.placed.PlacedSteps.{find-own}
use Rattle.herm_source.proofs.sound.Shapes.{AreLists, AreItems, IsShaped, shape-kept, fewer-shape, OnlyWorks, only-lets}
use Rattle.herm_source.proofs.sound.LoopLists.{only-differ, arrived-kept, lists-at}
use Rattle.herm_source.proofs.sound.OneForm.{rows-fit, Found, GoesWell, AnswersWell, acts-well, settles-well, replies-well}
use Rattle.herm_source.proofs.OpeningFrame.{opening_frame}

-- the facts that a process has, as a test
abbrev pub has_of : Module → State Name → Fact → Bool
has_of c s f = cond (any_pass (λ p. is_at_or_below p (path_of f)) (open_loans c s)) false (label_at c.label s.point f)

labelled-iff : (c : Module) (t : Target) (f : Fact) → IsLabelled c t f ↔ IsTrue (label_at c.label t f)
labelled-iff c (node i) f = ((λ h. h), (λ h. h))
labelled-iff c end f = ((λ h. absurd h), (λ h. not_true h))
labelled-iff c (end_by e) f = ((λ h. absurd h), (λ h. not_true h))

fact-iff : (c : Module) (s : State Name) (f : Fact) → HasFact c s f ↔ IsTrue (has_of c s f)
fact-iff c s f = by (any_pass (λ p. is_at_or_below p (path_of f)) (open_loans c s))
  where
    by : (b : Bool) → (IsLabelled c s.point f × IsFalse b) ↔ IsTrue (cond b false (label_at c.label s.point f))
    by true = ((λ h. absurd (true≢false h.1)), (λ h. not_true h))
    by false = ((λ h. (labelled-iff c s.point f).0 h.0), (λ h. ((labelled-iff c s.point f).1 h, refl)))

pub values-of : (c : Module) (s : State Name) → IsLocallySound c s → AreSound c (has_of c s) s.frame.variables
values-of c s sound = record {
  types = sound.types;
  facts = record {
    values = λ p. ((λ h. (fact-iff c s (init p)).0 ((sound.values.values p).0 h)), (λ h. (sound.values.values p).1 ((fact-iff c s (init p)).1 h)));
    components = λ p k h. sound.values.components p k ((fact-iff c s (case p k)).1 h);
  };
}

pub sound-of : (c : Module) (s : State Name) → AreSound c (has_of c s) s.frame.variables → ((l : Loop Name) → IsIn l s.frame.loops → IsListAt c s.point s.frame.loops l) → AreItems s.frame.work → ((k : ℕ) → s.frame.call ≡ Some k → (call : Calling) × (calling c s ≡ Some call)) → IsLocallySound c s
sound-of c s sound loops work call = record {
  values = record {
    values = λ p. ((λ h. (fact-iff c s (init p)).1 ((sound.facts.values p).0 h)), (λ h. (sound.facts.values p).1 ((fact-iff c s (init p)).0 h)));
    components = λ p k h. sound.facts.components p k ((fact-iff c s (case p k)).0 h);
  };
  types = sound.types;
  loops = loops;
  call = call;
  work = work;
}

-- the lists of its loops
pub lists-of : (c : Module) (s : State Name) → IsLocallySound c s → AreLists c s.frame.loops
lists-of c s sound = ((λ l h. let x = sound.loops l h in (x.0, x.1, x.2)), only-differ s.frame.loops (λ l h. (sound.loops l h).4))

arrived-lists : (c : Module) (t : Target) (b : Frame Name) → AreLists c (arrive c t b).loops → (l : Loop Name) → IsIn l (arrive c t b).loops → IsListAt c t (arrive c t b).loops l
arrived-lists c t b lists = lists-at c t (arrive c t b).loops lists.0 lists.1 (arrived-kept c t b)

-- where no call is open they are those of the point; in an open call, those without what is lent
idle-has : (c : Module) (s : State Name) (f : Fact) → s.frame.call ≡ None → has_of c s f ≡ label_at c.label s.point f
idle-has c s f idle = ap (λ (o : Option ℕ). cond (any_pass (λ p. is_at_or_below p (path_of f)) (list_of (λ k. list_of (lent_paths c) (calling c s)) o)) false (label_at c.label s.point f)) idle

called-has : (c : Module) (s : State Name) (n : ℕ) (k : Calling) (f : Fact) → s.frame.call ≡ Some n → calling c s ≡ Some k → has_of c s f ≡ without_lent c k (label_at c.label s.point) f
called-has c s n k f open' is =
    ap (λ (o : Option ℕ). cond (any_pass (λ p. is_at_or_below p (path_of f)) (list_of (λ k. list_of (lent_paths c) (calling c s)) o)) false (label_at c.label s.point f)) open'
    ∙ ap (λ (o : Option Calling). cond (any_pass (λ p. is_at_or_below p (path_of f)) (list_of (lent_paths c) o)) false (label_at c.label s.point f)) is

-- a module whose process is typed, in a well-formed table, and accepted with exact labels
pub record IsGoodModule (exceptions : ℕ) (types : TypeTable) (processes : List Process) (p : Process) (labels : Labels) : Type 0 where
  pub well : IsWellFormedTable exceptions types
  pub typed : IsTypedProcess exceptions types processes p
  pub exact : AreExact (flow_of types p) labels
  pub accepted : IsAccepted types p

module _ (exceptions : ℕ) (types : TypeTable) (processes : List Process) (p : Process) (labels : Labels) (good : IsGoodModule exceptions types processes p labels) where
  abbrev c : Module
  c = module_of types p labels

  abbrev pub StandsWell : State Name → Type 0
  StandsWell s = IsLocallySound (module_of types p labels) s × IsReached (flow_of types p) s.point

  deep : AreDeep c
  deep t h = good.well.shallow t (good.typed.variables_known t h)

  typed-at : (i : ℕ) (n : Node) → slice_get (process_nodes p) i ≡ Some n → IsTypedIn exceptions processes c n.form
  typed-at i n at = record { table = good.well; variables = good.typed.variables_known; typed = good.typed.typed n (got-IsIn (process_nodes p) i n at) }

  row-at : (i : ℕ) (n : Node) → slice_get (process_nodes p) i ≡ Some n → (t : ℕ) → row_of c n.form ≡ Some t → row_type c n.number ≡ Some t
  row-at i n at t e = ap (option_and_then (λ (n : Node). row_of c n.form)) (find-own n (process_nodes p) (process_numbers-Rise p) (got-IsIn (process_nodes p) i n at)) ∙ e

  -- a point with a node is the node's
  record At (t : Target) (n : Node) : Type 0 where
    place : ℕ
    is : t ≡ node place
    there : slice_get (process_nodes p) place ≡ Some n

  at-node : (t : Target) (n : Node) → node_at c t ≡ Some n → At t n
  at-node (node i) n at = record { place = i; is = refl; there = at }
  at-node end n at = none-not_some at
  at-node (end_by e) n at = none-not_some at

  -- each outcome of a node's form leads along an exit
  leads-there : (n : Node) → IsIn n (process_nodes p) → (o : Outcome) → IsIn o (outcomes types p.variables n.form) → (t : Target) × (leads_to c n o ≡ Some t)
  leads-there n m o h =
      let e = in-map_from (λ (e : Exit). e.outcome) o (exits types p.variables n) (subst (IsIn o) (sym (exits-outcomes types p n good.typed.blocks m)) h) in
      let found = find-some (λ (e : Exit). same_outcome e.outcome o) e.0 (exits types p.variables n) e.1 (ap (λ q. same_outcome q o) (sym e.2) ∙ same_outcome_self o) in
      ((found.0).target, ap (option_map (λ (e : Exit). e.target)) found.1)

  -- behind an outcome
  leads-well : (i : ℕ) (n : Node) → IsReached (flow_of types p) (node i) → slice_get (process_nodes p) i ≡ Some n → (o : Outcome) (b : Frame Name) → AreSound c (held_after types p.variables n.form o (labels i)) b.variables
      → IsShaped c None b → (s t : State Name) → state_after c s (Some n) (goes o b) ≡ Some t → StandsWell t
  leads-well i n reached at o b sound shaped s t is =
      let arrives = outcomes-arrive types p labels good.typed.blocks good.exact deep i n reached at o b sound s t is in
      let m = map-some (λ (t : Target). record { module_number = s.module_number; point = t; frame = arrive c t b }) (option_and_then (λ (n : Node). leads_to c n o) (Some n)) t is in
      let arrived : IsShaped c None (arrive c m.0 b) = is-arrive own_name (IsShaped c None) (IsShaped c None) (shape-kept c None) (fewer-shape c None) c m.0 b shaped in
      let shape : IsShaped c None t.frame = subst (λ (x : State Name). IsShaped c None x.frame) m.2 arrived in
      let lists = subst (λ (x : State Name). (l : Loop Name) → IsIn l x.frame.loops → IsListAt c x.point x.frame.loops l) m.2 (arrived-lists c m.0 b arrived.0) in
      (sound-of c t (same_facts c (label_at labels t.point) (has_of c t) t.frame.variables (λ f. sym (idle-has c t f shape.2)) arrives.1) lists shape.1 (λ k e. none-not_some (sym shape.2 ∙ e)), arrives.0)

  module _ (s t : State Name) (stands : StandsWell s) where
    abbrev sound : IsLocallySound c s
    sound = stands.0

    same-lists : (b : Frame Name) → b.loops ≡ s.frame.loops → (l : Loop Name) → IsIn l b.loops → IsListAt c s.point b.loops l
    same-lists b same = subst (λ loops. (l : Loop Name) → IsIn l loops → IsListAt c s.point loops l) (sym same) sound.loops

    shaped-if : (call : Option ℕ) → s.frame.call ≡ call → IsShaped c call s.frame
    shaped-if call e = (lists-of c s sound, sound.work, e)

    module _ (n : Node) (at : node_at c s.point ≡ Some n) where
      here : At s.point n
      here = at-node s.point n at

      reached-here : IsReached (flow_of types p) (node here.place)
      reached-here = subst (IsReached (flow_of types p)) here.is stands.1

      label-here : (f : Fact) → label_at labels s.point f ≡ labels here.place f
      label-here f = ap (λ t. label_at labels t f) here.is

      -- the statement finds what it needs
      found-here : Found c n.form (labels here.place)
      found-here f need = subst IsTrue (label-here f) ((labelled-iff c s.point f).0 (labelled types p labels good.exact good.accepted s.point n f at stands.1 need))

      -- where a result is taken, it leads on
      taken-behind : (r : Completion Name) → IsTaken (outcomes types p.variables n.form) r → (y : State Name) × (state_after c s (Some n) r ≡ Some y)
      taken-behind (goes o b) h =
          let leads = leads-there n (got-IsIn (process_nodes p) here.place n here.there) o h in
          let next : Target → State Name = λ t. record { module_number = s.module_number; point = t; frame = arrive c t b } in
          (next leads.0, ap (option_map next) leads.1)
      taken-behind (stays b) h = absurd h
      taken-behind stuck h = absurd h

      -- and an open call stays
      answered-behind : (form : Form) (a : CellAction Name) (r : Completion Name) → IsTakenAt (outcomes types p.variables n.form) form a r → (y : State Name) × (state_after c s (Some n) r ≡ Some y)
      answered-behind (Call o arguments) (put (Some k) m) (goes x b) h = absurd h
      answered-behind (Call o arguments) (put (Some k) m) (stays b) h = (record s { frame = b }, refl)
      answered-behind (Call o arguments) (put (Some k) m) stuck h = absurd h
      answered-behind form a r h = taken-behind r h

      -- what is known of the form there, and of a call there
      pub typed-here : IsTypedIn exceptions processes c n.form
      typed-here = typed-at here.place n here.there

      pub call-here : (k : Calling) → calling c s ≡ Some k → (t : ℕ) × (call_type c k ≡ Some t)
      call-here k is_calling = by n.form (sym (ap (option_and_then (λ (n : Node). calling_form n.form)) at) ∙ is_calling) typed-here
        where
          by : (form : Form) → calling_form form ≡ Some k → IsTypedIn exceptions processes c form → (t : ℕ) × (call_type c k ≡ Some t)
          by (Call o arguments) form typed =
              let h = typed.typed in (
                h.0,
                ap (call_type c) (sym (some-injective form)) ∙ ap (λ p. option_and_then message_type (option_and_then (slice_get types) p)) (inport-is types p.variables o h.0 h.3) ∙ ap (option_and_then message_type) h.3.5,
              )
          by form' form typed = none-not_some form

      module _ (idle : s.frame.call ≡ None) where
        idle-values : AreSound c (labels here.place) s.frame.variables
        idle-values = same_facts c (has_of c s) (labels here.place) s.frame.variables (λ f. idle-has c s f idle ∙ label-here f) (values-of c s sound)

        idle-found : Found c n.form (labels here.place)
        idle-found = found-here

        -- what an action wants is there, and suits where it goes
        pub want-here : IsTrue (is_action c n.form) → (w : CellWant Name) × (wants own_name c n.form s.frame ≡ Some w)
        want-here acts = want-there exceptions processes c own_name (labels here.place) s.frame idle-values n.form (typed-at here.place n here.there) acts found-here

        pub sent-here : (to : ℕ) (m : Cell Name) → wants own_name c n.form s.frame ≡ Some (to_put to m) → SendsBy c s.frame.variables to m
        sent-here to m want = sends-by exceptions processes c own_name n.form (typed-at here.place n here.there) (labels here.place) s.frame idle-values found-here to m want

        pub replied-here : (caller call : ℕ) (r : CellReply Name) → wants own_name c n.form s.frame ≡ Some (to_answer caller call r) → RepliesFrom c s.frame.variables caller call r
        replied-here caller call r want = replies-from exceptions processes c own_name n.form (typed-at here.place n here.there) (labels here.place) s.frame idle-values found-here caller call r want

        -- an answer to it is taken
        pub answer-here : IsTrue (is_action c n.form) → (from : ℕ) (a : CellAction Name) → Meets a n.form → ((k : ℕ) (m : Cell Name) → a ≡ take k m → (t : ℕ) × (looked_at c n.form s.frame from ≡ Some t))
            → (y : State Name) × (state_after c s (Some n) (settle own_name c n.form from a (counted_action (counted_step s.frame))) ≡ Some y)
        answer-here acts from a meets looks =
            answered-behind n.form a (settle own_name c n.form from a (counted_action (counted_step s.frame)))
            (answer-taken exceptions processes c own_name (labels here.place) (counted_action (counted_step s.frame)) idle-values n.form (typed-at here.place n here.there) acts found-here from a meets looks)

        -- a local step
        pub steps-well : state_after c s (Some n) (act own_name c n.number n.form (counted_step s.frame)) ≡ Some t → StandsWell t
        steps-well is =
            by (act own_name c n.number n.form (counted_step s.frame))
            (acts-well exceptions processes c n.form n.number (typed-at here.place n here.there) (row-at here.place n here.there) (labels here.place) (counted_step s.frame) idle-values idle-found (shaped-if None idle)) is
          where
            by : (r : Completion Name) → GoesWell c n.form (labels here.place) r → state_after c s (Some n) r ≡ Some t → StandsWell t
            by (goes o b) well is = leads-well here.place n reached-here here.there o b well.0 well.1 s t is
            by (stays b) well is = absurd well
            by stuck well is = none-not_some is

        -- where a local step is next, it is there
        pub step-there : IsFalse (is_action c n.form) → (y : State Name) × (state_after c s (Some n) (act own_name c n.number n.form (counted_step s.frame)) ≡ Some y)
        step-there local =
            let x =
            each-goes exceptions processes c n.form (typed-at here.place n here.there) local own_name n.number (labels here.place) (counted_step s.frame) idle-values idle-found
            (λ r t row form type rs e. rows-fit c n.number row (row-at here.place n here.there row (ap (row_of c) form ∙ type)) s.frame.loops (lists-of c s sound).0 rs e) in
            let leads = leads-there n (got-IsIn (process_nodes p) here.place n here.there) x.0 x.3 in
            let next : Target → State Name = λ t. record { module_number = s.module_number; point = t; frame = arrive c t x.1 } in
            (next leads.0, ap (state_after c s (Some n)) x.2 ∙ ap (option_map next) leads.1)

        -- an answer
        pub answers-well : IsTrue (is_action c n.form) → (place : ℕ) (action : CellAction Name) → ComesIn own_name c n.form (counted_action (counted_step s.frame)) place action
            → state_after c s (Some n) (settle own_name c n.form place action (counted_action (counted_step s.frame))) ≡ Some t → StandsWell t
        answers-well acts place action comes is =
            by (settle own_name c n.form place action (counted_action (counted_step s.frame)))
            (settles-well exceptions processes c n.form (typed-at here.place n here.there) acts place action (labels here.place) (counted_action (counted_step s.frame)) idle-values idle-found comes (shaped-if None idle)) is
          where
            opened : (b : Frame Name) → (k : Calling) → calling_form n.form ≡ Some k → AreSound c (without_lent c k (labels here.place)) b.variables → b.loops ≡ s.frame.loops → AreItems b.work → (m : ℕ) → b.call ≡ Some m → StandsWell (record s { frame = b })
            opened b k form values loops work m called =
                let is_calling : calling c s ≡ Some k = ap (option_and_then (λ (n : Node). calling_form n.form)) at ∙ form in
                let y : State Name = record s { frame = b } in (
                  sound-of c y
                      (same_facts c (without_lent c k (labels here.place)) (has_of c y) b.variables
                      (λ f. ap (λ h. cond (any_pass (λ p. is_at_or_below p (path_of f)) (lent_paths c k)) false h) (sym (label-here f)) ∙ sym (called-has c y m k f called is_calling)) values)
                      (same-lists b loops) work (λ _ _. (k, is_calling)),
                  stands.1,
                )

            by : (r : Completion Name) → AnswersWell c n.form (labels here.place) s.frame.loops r → state_after c s (Some n) r ≡ Some t → StandsWell t
            by (goes o b) well is = leads-well here.place n reached-here here.there o b well.0 well.1 s t is
            by (stays b) well is = subst StandsWell (some-injective is) (opened b well.0 well.1 well.2 well.3 well.4 well.5 well.6)
            by stuck well is = none-not_some is

      -- a reply that an open call waits for is taken
      pub reply-here : (m : ℕ) (k : Calling) → s.frame.call ≡ Some m → calling c s ≡ Some k → (i : ℕ) (r : CellReply Name) → i ≡ m → IsReply c k r → (y : State Name) × (state_after c s (Some n) (settle_reply c n.form m (hear i r) (counted_action s.frame)) ≡ Some y)
      reply-here m k called is_calling i r same reply =
          let form : calling_form n.form ≡ Some k = sym (ap (option_and_then (λ (n : Node). calling_form n.form)) at) ∙ is_calling in
          taken-behind (settle_reply c n.form m (hear i r) (counted_action s.frame))
          (by n.form form (typed-at here.place n here.there) found-here)
        where
          values : AreSound c (without_lent c k (labels here.place)) s.frame.variables
          values =
              same_facts c (has_of c s) (without_lent c k (labels here.place)) s.frame.variables
              (λ f. called-has c s m k f called is_calling ∙ ap (λ h. cond (any_pass (λ p. is_at_or_below p (path_of f)) (lent_paths c k)) false h) (label-here f)) (values-of c s sound)

          by : (form : Form) → calling_form form ≡ Some k → IsTypedIn exceptions processes c form → Found c form (labels here.place) → IsTaken (outcomes types p.variables form) (settle_reply c form m (hear i r) (counted_action s.frame))
          by (Call o arguments) form typed found =
              let e : record { port = o; arguments = arguments } ≡ k = some-injective form in
              reply-taken exceptions c o arguments (typed-called exceptions processes c o arguments typed) (labels here.place) found m i r (counted_action s.frame) same (subst (λ k. IsReply c k r) (sym e) reply) (subst (λ k. AreSound c (without_lent c k (labels here.place)) s.frame.variables) (sym e) values)
          by form' form typed found = none-not_some form

      -- the reply to an open call
      pub replied-well : (m : ℕ) (k : Calling) → s.frame.call ≡ Some m → calling c s ≡ Some k → (call : ℕ) (action : CellAction Name) → ((i : ℕ) (r : CellReply Name) → action ≡ hear i r → IsReply c k r)
          → state_after c s (Some n) (settle_reply c n.form call action (counted_action s.frame)) ≡ Some t → StandsWell t
      replied-well m k called is_calling call action reply is =
          by (settle_reply c n.form call action (counted_action s.frame))
          (replies-well exceptions processes c n.form k (sym (ap (option_and_then (λ (n : Node). calling_form n.form)) at) ∙ is_calling) (typed-at here.place n here.there) call action (labels here.place) (counted_action s.frame) reply
          (same_facts c (has_of c s) (without_lent c k (labels here.place)) s.frame.variables
          (λ f. called-has c s m k f called is_calling ∙ ap (λ h. cond (any_pass (λ p. is_at_or_below p (path_of f)) (lent_paths c k)) false h) (label-here f)) (values-of c s sound))
          (lists-of c s sound, sound.work, refl)) is
        where
          by : (r : Completion Name) → GoesWell c n.form (labels here.place) r → state_after c s (Some n) r ≡ Some t → StandsWell t
          by (goes o b) well is = leads-well here.place n reached-here here.there o b well.0 well.1 s t is
          by (stays b) well is = absurd well
          by stuck well is = none-not_some is

    -- what was done with the front of the work list
    pub worked-well : (item : Cell Name) (work : List (Cell Name)) → s.frame.work ≡ item ∷ work → (action : CellAction Name)
        → state_after c s None (ClosesAndAnswers.work_done item action (counted_action (record (s.frame) { work = work }))) ≡ Some t → StandsWell t
    worked-well item work front action is =
        by (ClosesAndAnswers.work_done item action (counted_action (record (s.frame) { work = work })))
        (all-work (OnlyWorks c s.frame.variables s.frame.loops s.frame.call) (only-lets c s.frame.variables s.frame.loops s.frame.call) item action (counted_action (record (s.frame) { work = work }))
        ((λ x h. sound.work x (subst (IsIn x) (sym front) (inr h))), refl, refl, refl)) is
      where
        same : (b : Frame Name) → OnlyWorks c s.frame.variables s.frame.loops s.frame.call b → StandsWell (record s { frame = b })
        same b h =
            let y : State Name = record s { frame = b } in
            let has : (f : Fact) → has_of c s f ≡ has_of c y f = λ f. ap (λ (o : Option ℕ). cond (any_pass (λ p. is_at_or_below p (path_of f)) (list_of (λ k. list_of (lent_paths c) (calling c s)) o)) false (label_at labels s.point f)) (sym h.3) in (
              sound-of c y (subst (λ ps. AreSound c (has_of c y) ps) (sym h.1) (same_facts c (has_of c s) (has_of c y) s.frame.variables has (values-of c s sound)))
                  (same-lists b h.2) h.0 (λ k e. sound.call k (sym h.3 ∙ e)),
              stands.1,
            )

        by : (r : Completion Name) → All (OnlyWorks c s.frame.variables s.frame.loops s.frame.call) (OnlyWorks c s.frame.variables s.frame.loops s.frame.call) r → state_after c s None r ≡ Some t → StandsWell t
        by (goes o b) (went o' b' h) is = none-not_some is
        by (stays b) (stayed b' h) is = subst StandsWell (some-injective is) (same b h)
        by stuck never is = none-not_some is

  -- as it begins
  pub begins-well : (code number port : ℕ) (m : Name) → StandsWell (begin c code number (cell m (an_inport port) no_parts))
  begins-well code number port m = by p.variables refl good.typed.port.3
    where
      by : (ts : List ℕ) → p.variables ≡ ts → slice_get p.variables 0 ≡ Some good.typed.port.0 → StandsWell (begin c code number (cell m (an_inport port) no_parts))
      by [] e at = none-not_some (sym (ap (λ ts. slice_get ts 0) e) ∙ at)
      by (t ∷ more) e at =
          let x = begin c code number (cell m (an_inport port) no_parts) in
          let type : t ≡ good.typed.port.0 = some-injective (sym (ap (λ ts. slice_get ts 0) e) ∙ at) in
          let h = good.typed.port in
          let values =
          beginnings-sound types p labels good.exact deep t more e code number (cell m (an_inport port) no_parts)
          (typed-by types t (inport h.1 h.2) m (an_inport port) no_parts (subst (λ t. slice_get types t ≡ Some (inport h.1 h.2)) (sym type) h.4) tt refl) refl in
          let first : Frame Name = opening_frame c number (cell m (an_inport port) no_parts) in
          let shape : IsShaped c None x.frame =
          is-arrive own_name (IsShaped c None) (IsShaped c None) (shape-kept c None) (fewer-shape c None) c c.entry first (((λ l h. absurd h), tt), (λ item h. absurd h), refl) in (
            sound-of c x (same_facts c (label_at labels (entry_of p)) (has_of c x) x.frame.variables (λ f. sym (idle-has c x f shape.2)) values) (arrived-lists c c.entry first shape.0) shape.1 (λ k e. none-not_some (sym shape.2 ∙ e)),
            entry-reached types p,
          )
