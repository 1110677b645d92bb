-- Processes of checked programs keep inports, outports and callmessages at places of their types, and send them so.
use Rattle.std.proofs.Common.{◌≡◌, ℕ, zero, suc, List, [], ◌∷◌, flat_map, Option, Some, None, option_map, option_and_then, slice_get, refl, sym, ap, subst, ◌∙◌}
use Rattle.std.specs.Prelude.{IsTrue}
use Rattle.herm_model.specs.Lists.{IsIn, list_of}
use Rattle.herm_model.specs.Paths.{Path}
use Rattle.herm_model.specs.Expressions.{Atom}
use Rattle.herm_model.specs.Calls.{message_type}
use Rattle.herm_model.specs.Statements.{Process, Call}
use Rattle.herm_model.specs.Nodes.{Node}
use Rattle.herm_model.specs.Values.{Name, Kind, kind_of, a_callmessage, an_inport, an_outport, Cell, cell, no_parts}
use Rattle.herm_model.specs.WellFormedTables.{IsType, IsWellFormedTable}
use Rattle.herm_model.specs.TypedStatements.{IsTypedForm}
use Rattle.herm_model.specs.TypedStatements
use Rattle.herm_model.proofs.FactTests.{got-IsIn}
use Rattle.herm_model.proofs.Options.{some-injective, none-not_some, map-some, chain-some}
use Rattle.herm_model.proofs.TypedCalls.{inport-is}
use Rattle.herm_journal.specs.Actions.{gone, new_port, new_process, to_put, to_take, to_close, to_answer, to_hear, make_port, make_process, put, take, hear}
use Rattle.herm_journal.specs.Messages.{CellReply, CellWant, CellAction, is_inport, message_of_port, types_of_reply, cells_in}
use Rattle.herm_journal.specs.PartTypes.{is_kind_at}
use Rattle.herm_forms.specs.Frames.{Frame, stays, if_there, counted_step, counted_action}
use Rattle.herm_forms.specs.Exchanges.{outport_at}
use Rattle.herm_forms.specs.ClosesAndAnswers.{work_wants}
use Rattle.herm_forms.specs.Callmessages.{Composed}
use Rattle.herm_forms.specs.Modules.{Module}
use Rattle.herm_forms.specs.Acts.{is_action, composed, wants, settle}
use Rattle.herm_forms.specs.OpenCalls.{Calling, calling_form, call_type}
use Rattle.herm_forms.specs.laws.TypedForms.{IsTypedIn}
use Rattle.herm_forms.proofs.CountedCalls.{call-kind}
use Rattle.herm_forms.proofs.called.CallMessages.{put-composed}
use Rattle.herm_forms.proofs.typed.EachForm.{puts-same}
use Rattle.herm_forms.proofs.placed.PlacedForms.{AllowsLocal}
use Rattle.herm_forms.proofs.placed.PlacedGoing.{SentTo, sent-to, RepliedFrom, replied-from}
use Rattle.herm_system.specs.Machines.{OpenCall}
use Rattle.herm_system.specs.Suiting.{Answers, Suits}
use Rattle.herm_system.specs.Kinds.{typed_of, typed_list, typed_held}
use Rattle.herm_runs.proofs.ActionParts.{cond-both}
use Rattle.herm_source.specs.States.{State, own_name, begin, Next, an_item, a_reply, a_statement, nothing, node_at, next_of, wanted, wanted_next, settle_next, state_after}
use Rattle.herm_source.specs.SeenBySystem.{values_held, port_type, open_call}
use Rattle.herm_source.specs.Local.{row_type}
use Rattle.herm_source.specs.Modules.{Program, Modules}
use Rattle.herm_source.specs.Instance.{source, code_at}
use Rattle.herm_source.specs.AcceptedRuns.{AreCodesOf}
use Rattle.herm_source.specs.laws.PlaceLaws.{StandsAt}
use Rattle.herm_source.specs.Checked.{IsChecked}
use Rattle.herm_source.specs.laws.SoundProcesses.{IsSoundProcess}
use Rattle.herm_source.specs.laws.Standing.{type_made, first_type, at_type, typed_made, typed_coming, typed_going, AllStand, HoldsStanding, CheckedProcessesKeepStanding}
use Rattle.herm_source.proofs.Numbers.{answer-stays}
use Rattle.herm_source.proofs.instance.SourceLaws.{answer-code, code-stays}
use Rattle.herm_source.proofs.instance.SourceLooks.{accepted-share-types}
use Rattle.herm_source.proofs.instance.HeldValues.{typed-values}
use Rattle.herm_source.proofs.reached.FoundNeeds.{module-of}
use Rattle.herm_source.proofs.counted.CountedSteps.{node-there, stands, typed-at}
use Rattle.herm_source.proofs.sound.SoundProcesses.{SuitsCode, suits-code}
use Rattle.herm_held.proofs.TypedPlaces.{placed-typed, list-typed}
use Rattle.herm_source.proofs.placed.PlacedSteps.{Own, own-agrees, Body', All, listed, to-body, from-body, standing, local-steps-keep-standing}
use Rattle.herm_source.proofs.placed.AnsweredPlaces.{in-some, at-type, coming, made, ArePorts, answer-is, begin-is}

-- What goes out stands so.
module _ (ports : List ℕ) (calls : ℕ → ℕ → Option ℕ) (c : Module) where
  abbrev Is : ℕ → Kind → Type 0
  Is = StandsAt c.types ports calls

  module _ (exceptions : ℕ) (processes : List Process) (allows : AllowsLocal c.types (Own Is c)) where
    abbrev going : CellWant Name → CellAction Name → List (ℕ × Kind)
    going want a = typed_going c.types ports calls want a

    sent-stands : (n : ℕ) (m : Cell Name) → SentTo own_name c (Own Is c) (own-agrees Is c) (row_type c) allows n m → All Is c (list_of (λ t. list_of (λ u. typed_of c.types u m) (message_of_port c.types t)) (slice_get ports n))
    sent-stands n m s =
        let u = s.stands.0 in
        let same : u.0 ≡ s.port = some-injective (sym u.1 ∙ s.leads) in
        subst (λ o. All Is c (list_of (λ t. list_of (λ u. typed_of c.types u m) (message_of_port c.types t)) o)) (sym (u.2 ∙ ap (λ t. Some t) same))
        (subst (λ o. All Is c (list_of (λ u. typed_of c.types u m) o)) (sym s.takes) (placed-typed c.types Is s.message m s.placed))

    replied-stands : (caller call : ℕ) (r : CellReply Name) → RepliedFrom own_name c (Own Is c) (own-agrees Is c) (row_type c) allows caller call r → All Is c (list_of (λ t. typed_list c.types (types_of_reply c.types (Some t) r) (cells_in r)) (calls caller call))
    replied-stands caller call r s =
        subst (λ o. All Is c (list_of (λ t. typed_list c.types (types_of_reply c.types (Some t) r) (cells_in r)) o)) (sym s.stands.0) (list-typed c.types Is (types_of_reply c.types (Some s.type) r) (cells_in r) s.listed)

    gone-stands : (o : Option ℕ) → All Is c (list_of (λ t. typed_list c.types (types_of_reply {N = Name} c.types (Some t) gone) (cells_in {N = Name} gone)) o)
    gone-stands None t k i = absurd i
    gone-stands (Some u) t k i = absurd i

    module _ (x y : State Name) (number : y.frame.number ≡ x.frame.number) (own : Body' Is c x.frame) where
      abbrev counted : Frame Name
      counted = counted_action (counted_step x.frame)

      module _ (n : Node) (at : node_at c x.point ≡ Some n) (of : IsTypedForm c.types c.variables exceptions processes n.form) where
        -- the call that is open behind the answer is the one whose callmessage was placed
        opened : (o : Path) (arguments : List Atom) (z : Composed Name) (k : Option (Composed Name)) → k ≡ Some z → n.form ≡ Call o arguments
            → state_after c x (Some n) (if_there (λ (z : Composed Name). stays (record (z.frame) { call = Some z.call })) k) ≡ Some y → open_call c y ≡ Some (record { number = z.call; call_type = call_type c (record { port = o; arguments = arguments }) })
        opened o arguments z k there form is =
            let is' : record x { frame = record (z.frame) { call = Some z.call } } ≡ y = some-injective (sym (ap (λ k. state_after c x (Some n) (if_there (λ (z : Composed Name). stays (record (z.frame) { call = Some z.call })) k)) there) ∙ is) in
            ap (λ (y : State Name). open_call c y) (sym is')
            ∙ ap (λ o. option_map (λ (call : Calling). record { number = z.call; call_type = call_type c call }) (option_and_then (λ (n : Node). calling_form n.form) o)) at
            ∙ ap (λ f. option_map (λ (call : Calling). record { number = z.call; call_type = call_type c call }) (calling_form f)) form

        calls-type : (o : Path) (arguments : List Atom) (is : IsTypedForm c.types c.variables exceptions processes (Call o arguments)) → call_type c (record { port = o; arguments = arguments }) ≡ Some is.0
        calls-type o arguments is = ap (λ p. option_and_then message_type (option_and_then (slice_get c.types) p)) (inport-is c.types c.variables o is.0 is.3) ∙ ap (option_and_then message_type) is.3.5

        own-message : (k : ℕ) (m : Cell Name) (j : ℕ) (m' : Cell Name) (place : ℕ) → wants own_name c n.form x.frame ≡ Some (to_put k m) → state_after c x (Some n) (settle own_name c n.form place (put (Some j) m') counted) ≡ Some y
            → All Is c (made Is c processes x y (put (Some j) m')) → (o : Path) (arguments : List Atom) → n.form ≡ Call o arguments → (is : IsTypedForm c.types c.variables exceptions processes (Call o arguments)) → Own Is c is.0 (kind_of m)
        own-message k m j m' place want is makes o arguments form typed =
            let want' : wants own_name c (Call o arguments) counted ≡ Some (to_put k m) =
            puts-same own_name c (suc x.frame.steps) (suc x.frame.actions) x.frame k m (Call o arguments) (subst (λ f. wants own_name c f x.frame ≡ Some (to_put k m)) form want) in
            let z = put-composed (outport_at o counted) (composed own_name c o arguments counted) k m want' in
            let is' = subst (λ f. state_after c x (Some n) (settle own_name c f place (put (Some j) m') counted) ≡ Some y) form is in
            let opens = opened o arguments z.0 (composed own_name c o arguments counted) z.1 form is' in
            let kind : kind_of m ≡ a_callmessage y.frame.number z.0.call = ap kind_of (sym z.2) ∙ call-kind own_name c o arguments counted z.0 z.1 ∙ ap (λ n. a_callmessage n z.0.call) (sym number) in
            subst (Own Is c typed.0) (sym kind) (
              makes typed.0 (a_callmessage y.frame.number z.0.call)
                  (in-some (λ (call : OpenCall). at_type (a_callmessage y.frame.number call.number) call.call_type) (typed.0, a_callmessage y.frame.number z.0.call) (open_call c y) (record { number = z.0.call; call_type = call_type c (record { port = o; arguments = arguments }) }) opens
                  (at-type (a_callmessage y.frame.number z.0.call) (call_type c (record { port = o; arguments = arguments })) typed.0 (calls-type o arguments typed))),
              subst (λ s. IsTrue (is_kind_at s (a_callmessage y.frame.number z.0.call))) (sym typed.4) refl,
            )

        statement-going : (want : CellWant Name) (place : ℕ) (a : CellAction Name) → wants own_name c n.form x.frame ≡ Some want → Answers want a → state_after c x (Some n) (settle own_name c n.form place a counted) ≡ Some y
            → All Is c (made Is c processes x y a) → All Is c (going want a)
        statement-going (to_put k m) place (put (Some j) m') want answers is makes =
            sent-stands k m (sent-to own_name c (Own Is c) (own-agrees Is c) (row_type c) allows exceptions processes n.form of k m x.frame own want (own-message k m j m' place want is makes))
        statement-going (to_put k m) place (put None m') want answers is makes = λ t i h. absurd h
        statement-going (to_put k m) place a want answers is makes = absurd answers
        statement-going (to_answer caller call r) place a want answers is makes =
            replied-stands caller call r (replied-from own_name c (Own Is c) (own-agrees Is c) (row_type c) allows exceptions processes n.form of caller call r x.frame own want)
        statement-going new_port place a want answers is makes = λ t i h. absurd h
        statement-going (new_process code) place a want answers is makes = λ t i h. absurd h
        statement-going (to_take ports') place a want answers is makes = λ t i h. absurd h
        statement-going (to_close k) place a want answers is makes = λ t i h. absurd h
        statement-going to_hear place a want answers is makes = λ t i h. absurd h

      item-going : (item : Cell Name) (want : CellWant Name) (a : CellAction Name) → work_wants item ≡ Some want → All Is c (going want a)
      item-going (cell k (an_inport port) ps) want a is = subst (λ w. All Is c (going w a)) (some-injective is) (λ t i h. absurd h)
      item-going (cell k (a_callmessage caller call) ps) want a is = subst (λ w. All Is c (going w a)) (some-injective is) (gone-stands (calls caller call))
      item-going (cell k kind ps) want a is = none-not_some is

      pub next-going : ((n : Node) → IsIn n c.nodes → IsTypedIn exceptions processes c n.form) → (want : CellWant Name) (place : ℕ) (a : CellAction Name) → Answers want a → All Is c (made Is c processes x y a) → (next : Next Name) → next_of c x ≡ next
          → wanted_next own_name c x.frame next ≡ Some want → settle_next own_name c x place a next ≡ Some y → All Is c (going want a)
      next-going typed want place a answers makes (an_item item work) next wants' is = item-going item want a wants'
      next-going typed want place a answers makes (a_reply call n) next wants' is = subst (λ w. All Is c (going w a)) (some-injective wants') (λ t i h. absurd h)
      next-going typed want place a answers makes (a_statement n) next wants' is =
          let at = (stands c x n next).at in
          let want' = cond-both (is_action c n.form) (wants own_name c n.form x.frame) want wants' in
          statement-going n at (typed n (node-there c x.point n at)).typed want place a want'.1 answers is makes
      next-going typed want place a answers makes nothing next wants' is = none-not_some wants'

-- the types of the ports of modules are those of processes
pub first-variables : (program : Program) (ps : List Process) (cs : List Module) (n : ℕ) → AreCodesOf program ps cs → option_and_then (λ (c : Module). slice_get c.variables 0) (slice_get cs n) ≡ TypedStatements.port_type ps n
first-variables program [] [] n h = refl
first-variables program [] (d ∷ cs) n h = absurd h
first-variables program (p ∷ ps) [] n h = absurd h
first-variables program (p ∷ ps) (d ∷ cs) zero h = ap (λ (c : Module). slice_get c.variables 0) h.0.1
first-variables program (p ∷ ps) (d ∷ cs) (suc n) h = first-variables program ps cs n h.1

module _ (exceptions : ℕ) (program : Program) (modules : Modules) (checked : IsChecked exceptions program modules) (ports : List ℕ) (calls : ℕ → ℕ → Option ℕ) where
  -- a module's process looks for messages at an inport
  pub ports-are : (t process : ℕ) → TypedStatements.port_type program.processes process ≡ Some t → IsTrue (is_inport (slice_get program.types t))
  ports-are t process e =
      let p = chain-some (λ (p : Process). slice_get p.variables 0) (slice_get program.processes process) t e in
      let port = ((checked.typed).modules p.0 (got-IsIn program.processes process p.0 p.1)).port in
      let same : t ≡ port.0 = some-injective (sym p.2 ∙ port.3) in
      subst (λ t. IsTrue (is_inport (slice_get program.types t))) (sym same) (subst (λ s. IsTrue (is_inport s)) (sym port.4) refl)

  module _ (c : Module) (n : ℕ) (coded : slice_get modules.codes n ≡ Some c) where
    share : c.types ≡ modules.types
    share = accepted-share-types program modules checked.accepted n c coded

    of-program : c.types ≡ program.types
    of-program = share ∙ (checked.accepted).types

    abbrev Stands' : ℕ → Kind → Type 0
    Stands' = StandsAt c.types ports calls

    allows : AllowsLocal c.types (Own Stands' c)
    allows =
        let numbers = standing c.types ports calls in
        record {
          portless = λ t k is plain. (numbers.others t k is plain, is);
          connects = λ t port n shape h. (numbers.connects t port n shape h.0, subst (λ o. IsTrue (is_kind_at o (an_outport n))) (sym shape) refl);
        }

    of-ports : ArePorts Stands' c program.processes
    of-ports t process e = subst (λ types. IsTrue (is_inport (slice_get types t))) (sym of-program) (ports-are t process e)

    -- to the code's types and back
    to-code : (xs ys : List (ℕ × Kind)) → xs ≡ ys → AllStand modules ports calls xs → All Stands' c ys
    to-code xs ys same all t k i = subst (λ types. StandsAt types ports calls t k) (sym share) (all t k (subst (IsIn (t, k)) (sym same) i))

    from-code : (xs ys : List (ℕ × Kind)) → xs ≡ ys → All Stands' c ys → AllStand modules ports calls xs
    from-code xs ys same all t k i = subst (λ types. StandsAt types ports calls t k) share (all t k (subst (IsIn (t, k)) same i))

    held-is : (x : State Name) → code_at modules x ≡ Some c → flat_map (typed_held modules.types) ((source modules).held x) ≡ listed Stands' c x
    held-is x is = ap (λ o. flat_map (typed_held modules.types) (list_of (λ c. values_held c x) o)) is ∙ ap (λ types. flat_map (typed_held types) (values_held c x)) (sym share) ∙ typed-values c.types c x

    coming-is : (x : State Name) → code_at modules x ≡ Some c → (place : ℕ) (a : CellAction Name) → typed_coming modules x place a ≡ coming Stands' c x place a
    coming-is x is place (take k m) =
        ap (λ types. list_of (λ t. typed_of types t m) (option_and_then (message_of_port types) ((source modules).port_type x place))) (sym share)
        ∙ ap (λ o. list_of (λ t. typed_of c.types t m) (option_and_then (message_of_port c.types) (option_and_then (λ c. port_type c x place) o))) is
    coming-is x is place (hear k r) =
        ap (λ types. list_of (λ (call : OpenCall). typed_list types (types_of_reply types call.call_type r) (cells_in r)) ((source modules).open_call x)) (sym share)
        ∙ ap (λ o. list_of (λ (call : OpenCall). typed_list c.types (types_of_reply c.types call.call_type r) (cells_in r)) (option_and_then (λ c. open_call c x) o)) is
    coming-is x is place a = refl

    made-is : (x y : State Name) → code_at modules x ≡ Some c → code_at modules y ≡ Some c → (a : CellAction Name) → typed_made modules x y a ≡ made Stands' c program.processes x y a
    made-is x y is there (make_port (Some k)) = ap (λ o. at_type (an_inport k) (option_and_then (λ c. option_and_then (λ (n : Node). type_made c n.form) (node_at c x.point)) o)) is
    made-is x y is there (make_process code (Some born)) = ap (at_type (an_inport born.1)) (first-variables program program.processes modules.codes code (checked.accepted).codes)
    made-is x y is there (put (Some k) m) =
        ap (λ o. list_of (λ (call : OpenCall). at_type (a_callmessage y.frame.number call.number) call.call_type) (option_and_then (λ c. open_call c y) o)) there
    made-is x y is there a = refl

  begins : (code number port : ℕ) (n : Name) (x : State Name) → (source modules).begin code number (cell n (an_inport port) no_parts) ≡ Some x → AllStand modules ports calls (at_type (an_inport port) (first_type modules code)) → HoldsStanding modules ports calls x
  begins code number port n x e all =
      let b = map-some (λ c. begin c code number (cell n (an_inport port) no_parts)) (slice_get modules.codes code) x e in
      let c = b.0 in
      let is : code_at modules x ≡ Some c = ap (λ (y : State Name). slice_get modules.codes y.module_number) (sym b.2) ∙ b.1 in
      let m = module-of program program.processes modules.codes (checked.accepted).codes code c b.1 in
      let port' = ((checked.typed).modules m.0 (got-IsIn program.processes code m.0 m.1)).port in
      let first : slice_get c.variables 0 ≡ Some port'.0 = ap (λ (c : Module). slice_get c.variables 0) m.2.1 ∙ port'.3 in
      let typed = to-code c code b.1 (at_type (an_inport port) (first_type modules code)) (at_type (an_inport port) (slice_get c.variables 0))
      (ap (λ o. at_type (an_inport port) (option_and_then (λ (c : Module). slice_get c.variables 0) o)) b.1) all in
      let stood = typed port'.0 (an_inport port) (at-type (an_inport port) (slice_get c.variables 0) port'.0 first) in
      let kind = subst (λ types. IsTrue (is_kind_at (slice_get types port'.0) (an_inport port))) (sym (of-program c code b.1)) (subst (λ s. IsTrue (is_kind_at s (an_inport port))) (sym port'.4) refl) in
      from-code c code b.1 (flat_map (typed_held modules.types) ((source modules).held x)) (listed (Stands' c code b.1) c x) (held-is c code b.1 x is)
      (from-body (Stands' c code b.1) c x (subst (λ (x : State Name). Body' (Stands' c code b.1) c x.frame) b.2 (begin-is (Stands' c code b.1) c code number port n port'.0 first (stood, kind))))

  answers : (x y : State Name) (want : CellWant Name) (at : ℕ) (a : CellAction Name) → (source modules).wanted x ≡ Some want → Answers want a → Suits (source modules) x at a → (source modules).answered x at a ≡ Some y
      → IsSoundProcess program modules x → HoldsStanding modules ports calls x → AllStand modules ports calls (typed_coming modules x at a) → AllStand modules ports calls (typed_made modules x y a)
      → HoldsStanding modules ports calls y × AllStand modules ports calls (typed_going modules.types ports calls want a)
  answers x y want at a wants' answers' suits e is holds comes makes =
      let d = answer-code modules x y at a e in
      let c = d.0 in
      let w = chain-some (λ c. wanted own_name c x) (code_at modules x) want wants' in
      let want' : wanted own_name c x ≡ Some want = subst (λ (c : Module). wanted own_name c x ≡ Some want) (some-injective (sym w.1 ∙ d.1)) w.2 in
      let stay = answer-stays own_name c x y at a d.2 in
      let there = code-stays modules x y c d.1 stay.1 in
      let Is' = Stands' c x.module_number d.1 in
      let of = of-program c x.module_number d.1 in
      let suits' = subst (λ types. SuitsCode types c x at a) (sym of) (suits-code exceptions program modules checked x c d.1 at a suits) in
      let typed : (n : Node) → IsIn n c.nodes → IsTypedIn exceptions program.processes c n.form = λ n h. record {
        table = subst (IsWellFormedTable exceptions) (sym of) (checked.typed).types;
        variables = subst (λ types. (t : ℕ) → IsIn t c.variables → IsType types t) (sym of) (λ t m. let p = module-of program program.processes modules.codes (checked.accepted).codes x.module_number c d.1 in
            ((checked.typed).modules p.0 (got-IsIn program.processes x.module_number p.0 p.1)).variables_known t (subst (λ (c : Module). IsIn t c.variables) p.2.1 m));
        typed = typed-at exceptions program modules checked.accepted checked.typed x c d.1 n h;
      } in
      let own = to-body Is' c x (is.sound c d.1) (to-code c x.module_number d.1 (flat_map (typed_held modules.types) ((source modules).held x)) (listed Is' c x) (held-is c x.module_number d.1 x d.1) holds) in
      let comes' = to-code c x.module_number d.1 (typed_coming modules x at a) (coming Is' c x at a) (coming-is c x.module_number d.1 x d.1 at a) comes in
      let makes' = to-code c x.module_number d.1 (typed_made modules x y a) (made Is' c program.processes x y a) (made-is c x.module_number d.1 x y d.1 there a) makes in
      let body = answer-is Is' c exceptions program.processes (of-ports c x.module_number d.1) (allows c x.module_number d.1) typed x y want at a answers' suits' own comes' makes' (next_of c x) refl want' d.2 in
      let going = next-going ports calls c exceptions program.processes (allows c x.module_number d.1) x y stay.0 own typed want at a answers' makes' (next_of c x) refl want' d.2 in (
        from-code c x.module_number d.1 (flat_map (typed_held modules.types) ((source modules).held y)) (listed Is' c y) (held-is c x.module_number d.1 y there) (from-body Is' c y body),
        from-code c x.module_number d.1 (typed_going modules.types ports calls want a) (typed_going c.types ports calls want a) (ap (λ types. typed_going types ports calls want a) (sym (share c x.module_number d.1))) going,
      )

pub checked-processes-keep-standing : CheckedProcessesKeepStanding
checked-processes-keep-standing exceptions program modules checked ports calls = record {
  begins = begins exceptions program modules checked ports calls;
  local_steps = λ x y e is holds. local-steps-keep-standing exceptions program modules ports calls checked.accepted checked.typed x y is.sound e holds;
  answers = answers exceptions program modules checked ports calls;
}
