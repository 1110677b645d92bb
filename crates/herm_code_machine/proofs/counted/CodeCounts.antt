-- The processes of a good image keep counts of inports and callmessages.
use Rattle.std.proofs.Common.{◌≡◌, ◌⊎◌, inl, inr, ℕ, suc, ◌+◌, List, [], ◌∷◌, map, Bool, Some, None, option_and_then, option_map, refl, sym, ap, subst, ◌∙◌, arith}
use Rattle.std.specs.Prelude.{pred, length, flat_map}
use Rattle.herm_model.specs.Lists.{IsIn}
use Rattle.herm_model.specs.Paths.{Path}
use Rattle.herm_model.specs.Types.{Raised}
use Rattle.herm_model.specs.Values.{Name, Kind, kind_of, an_inport, Cell, cell, no_parts, Value}
use Rattle.herm_model.proofs.Loads.{load, load_all}
use Rattle.herm_model.proofs.Options.{none-not_some, some-injective, chain-some}
use Rattle.herm_journal.specs.Actions.{to_hear, put, hear}
use Rattle.herm_journal.specs.Messages.{CellWant, CellAction, CellReply, IsReplyTo}
use Rattle.herm_system.specs.Kinds.{kinds_by}
use Rattle.herm_system.specs.Machines.{OpenCall}
use Rattle.herm_system.specs.Suiting.{Answers, Suits}
use Rattle.herm_system.specs.Summary.{how_many}
use Rattle.herm_forms.specs.Callmessages as callmessages
use Rattle.herm_forms.specs.Callmessages.{Composed}
use Rattle.herm_forms.specs.ClosesAndAnswers
use Rattle.herm_forms.specs.Excess.{excess_over_full}
use Rattle.herm_forms.specs.Frames.{Frame, Completion, goes, stays, stuck, counted_action}
use Rattle.herm_forms.specs.Weights.{weight_made}
use Rattle.herm_forms.proofs.Balance.{Balanced, AllBalanced}
use Rattle.herm_forms.proofs.Counting.{recount, recount_composed, recount-compose}
use Rattle.herm_forms.proofs.KeptActions.{kept-work_done}
use Rattle.herm_forms.proofs.KeptForms.{balanced-arrive, item-goes}
use Rattle.herm_forms.proofs.Loads.{load_kept, load_coming, load_going}
use Rattle.herm_forms.proofs.PlainCopies.{IsPlainKind}
use Rattle.herm_forms.proofs.Weights.{Spares, weigh-gaps}
use Rattle.herm_runs.specs.Counting.{IsOfWaiting, kinds_coming, kinds_going, kinds_made, kinds_ended}
use Rattle.herm_sound.specs.SoundMachines.{KeepsWaiting}
use Rattle.herm_instructions.specs.Images.{CodeModule, Image}
use Rattle.herm_instructions.specs.Instructions.{Argument, Instruction, Call}
use Rattle.herm_instructions.specs.Labels.{Label}
use Rattle.herm_instructions.specs.Operands.{count_inputs}
use Rattle.herm_code_machine.specs.CodeActions.{mode_of, inouts, outs, composed_of, called, code_wants, code_settles}
use Rattle.herm_code_machine.specs.CodeInstance.{own_name, code_at, code_machine}
use Rattle.herm_code_machine.specs.CodeLocal.{IsCall, IsLocallySoundCode, IsSoundCodeIn}
use Rattle.herm_code_machine.specs.CodeSeen.{type_of_call, code_open_call}
use Rattle.herm_code_machine.specs.CodeStates.{at_index, CodeState, code_begin, on_by, run_on}
use Rattle.herm_code_machine.specs.CodeSteps.{CodeNext, an_item, a_reply, an_action, a_local_piece, nothing, code_next, met_at, counted_if, worked, wanted_next, settled, settle_next, code_wanted, code_local_step, code_answered}
use Rattle.herm_code_machine.specs.Pieces.{Piece, Met, piece_at, action_of}
use Rattle.herm_code_machine.specs.ReadyCode.{ReadyCode, ReadyImage, labelled_image}
use Rattle.herm_code_machine.specs.Stacks.{Effect, leaving, Popped, pop, parts_from, with_popped}
use Rattle.herm_code_machine.specs.laws.GoodImageLaws.{IsGoodOver, labelled_code}
use Rattle.herm_code_machine.proofs.RunsKeep.{AllOf}
use Rattle.herm_code_machine.proofs.balanced.EffectsBalance.{CodeCopies, code_begun, code_over, kept-effect, kept-hears, kept-counted}
use Rattle.herm_code_machine.proofs.counted.CodeAgrees.{Agrees, Opens, OpensBy, agrees-instruction}
use Rattle.herm_held.proofs.KindAgrees.{agrees-hear, agrees-item}
use Rattle.herm_code_machine.proofs.counted.CopiedKinds.{copies-plain, more-copied}
use Rattle.herm_held.proofs.KindTotals.{nameless, one_of, spares, of-cell, of-coming, nothing-made}
use Rattle.herm_code_machine.proofs.counted.KindTotals.{of-going, of-held}
use Rattle.herm_code_machine.proofs.instance.CodeLaws.{begun-code, begun-at, local-code, code-stays}
use Rattle.herm_code_machine.proofs.kept.CodeNumbers.{code-begins, code-local-stays, code-answer-stays}
use Rattle.herm_code_machine.proofs.sound.ActionEffects.{TakesMessage}
use Rattle.herm_code_machine.proofs.sound.ActionSteps.{Acting, acting-at, action-goes, counted-is}
use Rattle.herm_code_machine.proofs.sound.AlongAnswers.{completed, settles, Stayed, answered-along, reply-along}
use Rattle.herm_code_machine.proofs.sound.AlongRuns.{FoundAt, KeepsAlong}
use Rattle.herm_code_machine.proofs.sound.AlongSteps.{ComesSo, begins-along, local-along}
use Rattle.herm_code_machine.proofs.sound.AtLabels.{Holds}
use Rattle.herm_code_machine.proofs.sound.Between as between
use Rattle.herm_code_machine.proofs.sound.CallSteps.{is-call}
use Rattle.herm_code_machine.proofs.sound.CopiedStacks.{AreCopied}
use Rattle.herm_code_machine.proofs.sound.ItemSteps.{SuitsCode, call_there, call-at, suits-in, takes-message}
use Rattle.herm_code_machine.proofs.sound.LocalSteps.{ComesNext, by_work, by_call, by_act, comes-next}
use Rattle.herm_code_machine.proofs.sound.Processes.{module-of}
use Rattle.herm_code_machine.proofs.sound.SoundProcesses.{stays-sound}
use Rattle.herm_code_machine.proofs.sound.CodeThere.{sound-at}

module _ (exceptions' : ℕ) (image : Image) (main : ℕ) (good : IsGoodOver exceptions' image) (m : CodeModule) (in-image : IsIn m image.modules) (test : Kind → Bool) (of : IsOfWaiting test) where
  abbrev c : ReadyCode
  c = labelled_code image m

  -- in balance, with nothing in hand
  abbrev Is : (made kept : ℕ) → Frame Name → Type 0
  Is made kept b = Balanced nameless (one_of test) own_name made kept 0 b

  abbrev Q : (made kept : ℕ) → Label → List Value → Frame Name → Type 0
  Q made kept l stack b = Is made kept b

  -- what an instruction copies does not wait
  spared : (i : ℕ) (instruction : Instruction) (l : Label) (stack : List Value) (b : Frame Name) → FoundAt exceptions' image good.good good.table m in-image own_name i instruction l
      → Holds c l stack b → AreCopied image.types l.stack → CodeCopies (Spares (one_of test)) instruction stack b
  spared i instruction l stack b finds holds copied =
      more-copied IsPlainKind (Spares (one_of test)) (spares test of) instruction stack b (copies-plain exceptions' image m (between.HasWay exceptions' image good.good good.table m in-image i instruction l) instruction l stack b finds holds copied)

  keeps : (made kept : ℕ) → KeepsAlong exceptions' image good.good good.table m in-image own_name (Q made kept) (Is made kept)
  keeps made kept = record {
    effects = λ i instruction l stack b finds holds copied so o b' is.
        subst (AllOf (Is made kept)) is (kept-effect nameless (one_of test) own_name (spares test of) made kept c instruction stack b (spared i instruction l stack b finds holds copied) so);
    arrives = λ arriving listed stack b a so. so;
    ends = λ l stack b t so. balanced-arrive nameless (one_of test) own_name (spares test of) made kept 0 c.scope t b so;
  }

  abbrev Comes : (made kept : ℕ) → CodeState Name → Type 0
  Comes made kept t = ComesSo exceptions' image good.good good.table m in-image own_name (Q made kept) (Is made kept) (keeps made kept) (λ l stack b so. so) (λ s a l stack b so. so) t

  balance-of : (made kept : ℕ) (t : CodeState Name) → Comes made kept t → Is made kept t.frame
  balance-of made kept t (inl at) = at.so
  balance-of made kept t (inr ended) = ended.so

  -- as a process begins
  begins-balanced : (number' number port : ℕ) (n : Name) (t : CodeState Name) → code_begin own_name c number' number (cell n (an_inport port) no_parts) ≡ Some t → Is 0 (load nameless (one_of test) (cell n (an_inport port) no_parts)) t.frame
  begins-balanced number' number port n t is =
      let kept = load nameless (one_of test) (cell n (an_inport port) no_parts) in
      balance-of 0 kept t
      (begins-along exceptions' image good.good good.table m in-image own_name (Q 0 kept) (Is 0 kept) (keeps 0 kept) (λ l stack b so. so) (λ s a l stack b so. so) number' number port n t
      (omega (arith, weigh-gaps nameless (one_of test) (pred (length m.variables)))) is)

  -- a local step
  step-balanced : (s t : CodeState Name) → IsLocallySoundCode c s → code_local_step own_name c s ≡ Some t → Is (weight_made nameless own_name s.frame) (load_kept nameless (one_of test) s.frame) t.frame
  step-balanced s t sound is =
      let made = weight_made nameless own_name s.frame in
      let kept = load_kept nameless (one_of test) s.frame in
      balance-of made kept t
      (local-along exceptions' image good.good good.table m in-image own_name (Q made kept) (Is made kept) (keeps made kept) (λ l stack b so. so) (λ s a l stack b so. so) s t sound (λ l e. omega arith) is)

  -- what is in hand is what was made besides
  more-made : (made kept h : ℕ) (r : Completion Name) → AllOf (Balanced nameless (one_of test) own_name made kept h) r → AllOf (Is (made + h) kept) r
  more-made made kept h (goes o b) e = omega arith
  more-made made kept h (stays b) e = omega arith
  more-made made kept h stuck e = tt

  of-all : (made kept h : ℕ) (r : Completion Name) → AllBalanced nameless (one_of test) own_name made kept h r → AllOf (Balanced nameless (one_of test) own_name made kept h) r
  of-all made kept h (goes o b) e = e
  of-all made kept h (stays b) e = e
  of-all made kept h stuck e = tt

  is-worked : (made kept : ℕ) (s t : CodeState Name) (r : Completion Name) → AllOf (Is made kept) r → worked s r ≡ Some t → Is made kept t.frame
  is-worked made kept s t (stays b) e is = subst (λ (t : CodeState Name). Is made kept t.frame) (some-injective is) e
  is-worked made kept s t (goes o b) e is = none-not_some is
  is-worked made kept s t stuck e is = none-not_some is

  -- behind an answer: what came in and was begun, and what went out and is over
  abbrev BalancedBehind : (s t : CodeState Name) → CellWant Name → CellAction Name → (begun over : ℕ) → Type 0
  BalancedBehind s t want a begun over =
      Is (weight_made nameless own_name s.frame + (load_going nameless (one_of test) own_name s.frame want a + over)) (load_kept nameless (one_of test) s.frame + load_coming nameless (one_of test) a + begun) t.frame

  item-balanced : (s t : CodeState Name) (want : CellWant Name) (a : CellAction Name) (item : Cell Name) (work : List (Cell Name)) → s.frame.work ≡ item ∷ work → ClosesAndAnswers.work_wants item ≡ Some want
      → worked s (ClosesAndAnswers.work_done item a (counted_action (record (s.frame) { work = work }))) ≡ Some t → BalancedBehind s t want a 0 (one_of test (kind_of item))
  item-balanced s t want a item work front wanted is =
      let made = weight_made nameless own_name s.frame in
      let kept = load_kept nameless (one_of test) s.frame + load_coming nameless (one_of test) a in
      let b : Frame Name = counted_action (record (s.frame) { work = work }) in
      let whole : load_all nameless (one_of test) s.frame.work ≡ load nameless (one_of test) item + load_all nameless (one_of test) work = ap (load_all nameless (one_of test)) front in
      let done = of-all made kept (0 + one_of test (kind_of item)) (ClosesAndAnswers.work_done item a b) (kept-work_done nameless (one_of test) own_name (spares test of) made kept item a b (omega arith)) in
      let e = is-worked (made + (0 + one_of test (kind_of item))) kept s t (ClosesAndAnswers.work_done item a b) (more-made made kept (0 + one_of test (kind_of item)) (ClosesAndAnswers.work_done item a b) done) is in
      omega (arith, item-goes nameless (one_of test) own_name item s.frame want a wanted)

  action-balanced : (s t : CodeState Name) (p : Piece) (met : Met) (want : CellWant Name) (at : ℕ) (a : CellAction Name) (acting : Acting exceptions' image good.good good.table m in-image own_name s p met) → wanted_next own_name c s (an_action p met) ≡ Some want → Answers want a
      → TakesMessage c met.instruction s.frame at a → settle_next own_name c s at a (an_action p met) ≡ Some t
      → BalancedBehind s t want a (code_begun (one_of test) own_name c met.instruction (acting.there).before s.frame a) (code_over (one_of test) c met.instruction s.frame a)
  action-balanced s t p met want at a acting wanted answers takes is =
      let x = acting.there in
      let made = weight_made nameless own_name s.frame in
      let begun = code_begun (one_of test) own_name c met.instruction x.before s.frame a in
      let h = load_going nameless (one_of test) own_name s.frame want a + code_over (one_of test) c met.instruction s.frame a in
      let kept = load_kept nameless (one_of test) s.frame + load_coming nameless (one_of test) a + begun in
      let e = completed exceptions' image good.good good.table m in-image own_name (Q 0 0) (Is 0 0) (keeps 0 0) s t p met acting at a in
      let finds = between.finds-there exceptions' image good.good good.table m in-image met.index met.instruction x.label x.at x.labelled in
      let wants' = sym (ap (option_and_then (λ stack. code_wants own_name c met.instruction stack s.frame)) x.operands) ∙ wanted in
      let came = kept-counted nameless (one_of test) own_name (spares test of) made kept p.has_step c met.instruction x.before want at a s.frame wants'
      (spared met.index met.instruction x.label x.before s.frame finds x.holds x.copied) (omega arith) in
      let came' : AllOf (Is (made + h) kept) e.completion =
      more-made made kept h e.completion (subst (λ b. AllOf (Balanced nameless (one_of test) own_name made kept h) (code_settles own_name c met.instruction x.before at a b).completion) (counted-is exceptions' image good.good good.table m in-image own_name p.has_step s.frame) came) in
      by (made + h) kept e came' (answered-along exceptions' image good.good good.table m in-image own_name (Q (made + h) kept) (Is (made + h) kept) (keeps (made + h) kept) s t p at a want answers met acting wanted takes
      (λ o b goes'. subst (AllOf (Is (made + h) kept)) goes' came') is)
    where
      by : (made kept : ℕ) (e : Effect Name) → AllOf (Is made kept) e.completion → Comes made kept t ⊎ Stayed exceptions' image good.good good.table m in-image own_name (Q made kept) (Is made kept) (keeps made kept) s t met.index e → Is made kept t.frame
      by made kept e came (inl comes) = balance-of made kept t comes
      by made kept e came (inr stayed) = subst (λ (t : CodeState Name). Is made kept t.frame) (sym stayed.is) (subst (AllOf (Is made kept)) stayed.completes came)

  reply-balanced : (s t : CodeState Name) (k : ℕ) (met : Met) → IsLocallySoundCode c s → s.frame.call ≡ Some k → met_at c s.position ≡ Some met → (r : CellReply Name) → SuitsCode c s 0 (hear k r) → (at : ℕ)
      → settle_next own_name c s at (hear k r) (a_reply k met.index met.instruction) ≡ Some t → BalancedBehind s t to_hear (hear k r) 0 0
  reply-balanced s t k met sound opened there r suits at is =
      let made = weight_made nameless own_name s.frame in
      let kept = load_kept nameless (one_of test) s.frame + load_coming nameless (one_of test) (hear k r) in
      let heard = kept-hears nameless (one_of test) own_name (spares test of) made kept met.instruction k (hear k r) (counted_action s.frame) (omega arith) in
      let e = balance-of made kept t (reply-along exceptions' image good.good good.table m in-image own_name (Q made kept) (Is made kept) (keeps made kept) s t k met sound opened there r
      (λ o arguments keeps is. let of' = call-at c s k met o arguments keeps suits.0 opened there is suits.1 in subst (λ t. IsReplyTo image.types t r) of'.1 suits.3) at
      (λ l labelled o b goes'. subst (AllOf (Is made kept)) goes' heard) is) in
      omega arith

  -- a callmessage that was placed leaves its call open
  placed-call : (s t : CodeState Name) (p : Piece) (met : Met) (at : ℕ) (acting : Acting exceptions' image good.good good.table m in-image own_name s p met) (o : Path) (arguments : List Argument) (keep : List Raised) → met.instruction ≡ Call o arguments keep
      → (z : Composed Name) → called own_name c arguments (acting.there).before s.frame ≡ Some z → (n : ℕ) (d : Cell Name) → settle_next own_name c s at (put (Some n) d) (an_action p met) ≡ Some t → t.frame.call ≡ Some z.call
  placed-call s t p met at acting o arguments keep instruction z made n d is =
      let x = acting.there in
      let steps = (counted_if p.has_step s.frame).steps in
      let actions = suc s.frame.actions in
      let b = recount steps actions s.frame in
      let q = chain-some (λ (q : Popped). composed_of own_name c arguments q.values s.frame) (pop (count_inputs arguments) x.before) z made in
      let again : composed_of own_name c arguments (q.0).values b ≡ Some (recount_composed steps actions z) =
      recount-compose steps actions own_name (map mode_of arguments) (parts_from (q.0).values) (flat_map (λ q. excess_over_full c.scope q s.frame) (inouts arguments)) (inouts arguments) s.frame ∙ ap (option_map (recount_composed steps actions)) q.2 in
      let frame : Frame Name = record (recount steps actions z.frame) { call = Some z.call } in
      let u : CodeState Name = record { module_number = s.module_number; position = at_index met.index; stack = (q.0).rest; frame = frame } in
      let e : code_settles own_name c (Call o arguments keep) x.before at (put (Some n) d) b ≡ leaving (q.0).rest (stays frame) =
      ap (with_popped (λ (p : Popped). leaving p.rest (callmessages.call (composed_of own_name c arguments p.values b) (outs arguments) (put (Some n) d)))) q.1
      ∙ ap (λ o. leaving (q.0).rest (callmessages.call o (outs arguments) (put (Some n) d))) again in
      let settled' = settles exceptions' image good.good good.table m in-image own_name (Q 0 0) (Is 0 0) (keeps 0 0) s t p met acting at (put (Some n) d) is in
      let there : Some u ≡ Some t =
      sym (ap (λ i. let e = code_settles own_name c i x.before at (put (Some n) d) b in settled own_name c s met.index i e.stack e.completion) instruction
      ∙ ap (λ (e : Effect Name). settled own_name c s met.index (Call o arguments keep) e.stack e.completion) e
      ∙ ap (on_by own_name c (run_on own_name c (length m.code)) u met.index) (x.at ∙ ap Some instruction)) ∙ settled' in
      ap (λ (t : CodeState Name). t.frame.call) (sym (some-injective there))

  -- what an answer makes and ends, and what is in balance behind it
  record Counted (s t : CodeState Name) (want : CellWant Name) (a : CellAction Name) : Type 0 where
    begun : ℕ
    over : ℕ
    balanced : BalancedBehind s t want a begun over
    agrees : Agrees test (labelled_image image main) t want a begun over

  opens-none : (t : CodeState Name) → code_at (labelled_image image main) t ≡ Some c → t.frame.call ≡ None → Opens test (labelled_image image main) t None
  opens-none t there closed = ap (option_map (λ (call : OpenCall). call.number)) (ap (option_and_then (λ c. code_open_call c t)) there ∙ ap (option_and_then (λ k. call_there exceptions' image main good m in-image k t.position)) closed)

  opens-one : (t : CodeState Name) (k : ℕ) → code_at (labelled_image image main) t ≡ Some c → IsLocallySoundCode c t → t.frame.call ≡ Some k → Opens test (labelled_image image main) t (Some k)
  opens-one t k there sound opened =
      let n = sound.call k opened in
      let i = is-call (n.0).instruction n.2 in
      ap (option_map (λ (call : OpenCall). call.number)) (ap (option_and_then (λ c. code_open_call c t)) there ∙ ap (option_and_then (λ k. call_there exceptions' image main good m in-image k t.position)) opened
      ∙ ap (option_and_then (λ (m : Met). option_map (λ t. record { number = k; call_type = t }) (type_of_call c m.instruction))) n.1
      ∙ ap (λ i. option_map (λ t. record { number = k; call_type = t }) (type_of_call c i)) i.3)

  answer-counted : (s t : CodeState Name) (want : CellWant Name) (at : ℕ) (a : CellAction Name) → IsLocallySoundCode c s → code_wanted own_name c s ≡ Some want → Answers want a → SuitsCode c s at a → code_answered own_name c s at a ≡ Some t
      → code_at (labelled_image image main) t ≡ Some c → IsLocallySoundCode c t → Counted s t want a
  answer-counted s t want at a sound wanted h suits is there sound-behind = by (code_next c s) (comes-next c s) wanted is
    where
      number : t.frame.number ≡ s.frame.number
      number = (code-answer-stays own_name c s t at a is).0

      heard : (k : ℕ) (met : Met) → s.frame.call ≡ Some k → met_at c s.position ≡ Some met → (a : CellAction Name) → Answers {M = Cell Name} {R = CellReply Name} to_hear a → SuitsCode c s at a
          → settle_next own_name c s at a (a_reply k met.index met.instruction) ≡ Some t → Counted s t to_hear a
      heard k met opened piece (hear k' r) h suits is =
          let there' = sound.call k opened in
          let same : there'.0 ≡ met = some-injective (sym there'.1 ∙ piece) in
          let i = is-call met.instruction (subst (λ (met : Met). IsCall met.instruction) same there'.2) in
          let heard-number : k' ≡ k = sym suits.2 ∙ (call-at c s k met i.0 i.1 i.2 suits.0 opened piece i.3 suits.1).0 in
          record {
            begun = 0;
            over = 0;
            balanced = subst (λ k'. SuitsCode c s at (hear k' r) → settle_next own_name c s at (hear k' r) (a_reply k met.index met.instruction) ≡ Some t → BalancedBehind s t to_hear (hear k' r) 0 0) (sym heard-number)
                (λ suits is. reply-balanced s t k met sound opened piece r suits at is) suits is;
            agrees = agrees-hear (code_machine (labelled_image image main)) test t (hear k' r) tt;
          }
      heard k met opened piece a h suits is = absurd h

      acted : (p : Piece) (met : Met) → s.frame.work ≡ [] → s.frame.call ≡ None → piece_at c s.position ≡ Some p → action_of c p ≡ Some met → wanted_next own_name c s (an_action p met) ≡ Some want
          → settle_next own_name c s at a (an_action p met) ≡ Some t → Counted s t want a
      acted p met idle closed piece act wanted is =
          let acting = acting-at exceptions' image good.good good.table m in-image own_name s p met sound idle closed piece act in
          let x = acting.there in
          let takes = takes-message exceptions' image main good m in-image s met at (ap (option_and_then (action_of c)) piece ∙ act) a suits in
          let wants' = sym (ap (option_and_then (λ stack. code_wants own_name c met.instruction stack s.frame)) x.operands) ∙ wanted in
          let opens : OpensBy test (labelled_image image main) c x.before s.frame t number met.instruction a = record {
            none = λ other.
                let g = action-goes exceptions' image good.good good.table m in-image own_name s p met acting other in
                let r = g.answers at a (subst (λ w. Answers w a) (sym (some-injective (sym g.wanted ∙ wanted))) h) takes in
                let same : r.0 ≡ t = some-injective (sym r.1 ∙ is) in
                opens-none t there (subst (λ (t : CodeState Name). t.frame.call ≡ None) same (r.2.1).0);
            one = λ o arguments keep instruction z made n d placed.
                opens-one t z.call there sound-behind (placed-call s t p met at acting o arguments keep instruction z made n d (subst (λ a. settle_next own_name c s at a (an_action p met) ≡ Some t) placed is));
          } in
          record {
            begun = code_begun (one_of test) own_name c met.instruction x.before s.frame a;
            over = code_over (one_of test) c met.instruction s.frame a;
            balanced = action-balanced s t p met want at a acting wanted h takes is;
            agrees = agrees-instruction test (labelled_image image main) c x.before s.frame t number met.instruction want a wants' h opens;
          }

      by : (next : CodeNext Name) → ComesNext c s next → wanted_next own_name c s next ≡ Some want → settle_next own_name c s at a next ≡ Some t → Counted s t want a
      by (an_item item work) (by_work i w front) wanted is = record {
        begun = 0;
        over = one_of test (kind_of item);
        balanced = item-balanced s t want a item work front wanted is;
        agrees = agrees-item (code_machine (labelled_image image main)) test t item want a wanted h;
      }
      by (an_action p met) (by_act p' met' idle closed piece act) wanted is = acted p met idle closed piece act wanted is
      by (a_reply k i instruction) (by_call k' met idle opened piece) wanted is =
          subst (λ w. Answers w a → Counted s t w a) (some-injective wanted) (λ h. heard k met opened piece a h suits is) h
      by (a_local_piece p) next wanted is = none-not_some wanted
      by nothing next wanted is = none-not_some wanted

module _ (exceptions' : ℕ) (image : Image) (main : ℕ) (good : IsGoodOver exceptions' image) where
  abbrev ready : ReadyImage
  ready = labelled_image image main

  -- the module of a process
  abbrev HasModule : ReadyCode → Type 0
  HasModule c = (m : CodeModule) × IsIn m image.modules × (labelled_code image m ≡ c)

  module _ (test : Kind → Bool) (of : IsOfWaiting test) where
    none-made : (x : CodeState Name) → weight_made nameless own_name x.frame ≡ 0
    none-made x = nothing-made test (λ s. own_name (x.frame.number, s)) 0 x.frame.serial

    begins-counted : (code number port : ℕ) (n : Name) (x : CodeState Name) → (code_machine ready).begin code number (cell n (an_inport port) no_parts) ≡ Some x → how_many test (kinds_by (code_machine ready) x) ≡ how_many test (an_inport port ∷ [])
    begins-counted code number port n x is =
        let c = begun-code ready code number (cell n (an_inport port) no_parts) x is in
        let m = module-of exceptions' image main good code c.0 c.1 in
        let at = begun-at ready code x c.0 c.1 (code-begins own_name c.0 code number (cell n (an_inport port) no_parts) x c.2).1 in
        let b = begins-balanced exceptions' image main good m.0 m.1 test of code number port n x (subst (λ c. code_begin own_name c code number (cell n (an_inport port) no_parts) ≡ Some x) (sym m.2) c.2) in
        omega (arith, b, none-made x, of-held test ready x c.0 at, of-cell test (cell n (an_inport port) no_parts))

    steps-counted : (x y : CodeState Name) → IsSoundCodeIn ready x → (code_machine ready).local_step x ≡ Some y → how_many test (kinds_by (code_machine ready) y) ≡ how_many test (kinds_by (code_machine ready) x)
    steps-counted x y sound is =
        let c = local-code ready x y is in
        let m = module-of exceptions' image main good x.module_number c.0 c.1 in
        let there = code-stays ready x y c.0 c.1 (code-local-stays own_name c.0 x y c.2).1 in
        let b = subst (λ c. IsLocallySoundCode c x → code_local_step own_name c x ≡ Some y → Balanced nameless (one_of test) own_name (weight_made nameless own_name x.frame) (load_kept nameless (one_of test) x.frame) 0 y.frame) m.2
        (λ sound is. step-balanced exceptions' image main good m.0 m.1 test of x y sound is) (sound-at ready x c.0 sound c.1) c.2 in
        omega (arith, b, none-made x, none-made y, of-held test ready x c.0 c.1, of-held test ready y c.0 there)

    answers-counted : (x y : CodeState Name) (want : CellWant Name) (at : ℕ) (a : CellAction Name) → IsSoundCodeIn ready x → (code_machine ready).wanted x ≡ Some want → Answers want a → Suits (code_machine ready) x at a → (code_machine ready).answered x at a ≡ Some y
        → how_many test (kinds_by (code_machine ready) y) + how_many test (kinds_going (code_machine ready) x want a) + how_many test (kinds_ended want)
        ≡ how_many test (kinds_by (code_machine ready) x) + how_many test (kinds_coming a) + how_many test (kinds_made (code_machine ready) y a)
    answers-counted x y want at a sound wanted h suits is =
        let d = chain-some (λ c. code_wanted own_name c x) (code_at ready x) want wanted in
        let m = module-of exceptions' image main good x.module_number d.0 d.1 in
        let c = labelled_code image m.0 in
        let here : code_at ready x ≡ Some c = d.1 ∙ ap Some (sym m.2) in
        let wanted' : code_wanted own_name c x ≡ Some want = subst (λ c. code_wanted own_name c x ≡ Some want) (sym m.2) d.2 in
        let is' : code_answered own_name c x at a ≡ Some y = sym (ap (option_and_then (λ c. code_answered own_name c x at a)) here) ∙ is in
        let there = code-stays ready x y c here (code-answer-stays own_name c x y at a is').1 in
        let sound-behind = ((stays-sound exceptions' image main good).answers x y want at a sound wanted h suits is).0 in
        let r = answer-counted exceptions' image main good m.0 m.1 test of x y want at a (sound-at ready x c sound here) wanted' h (suits-in exceptions' image main good x c here refl at a suits) is' there (sound-at ready y c sound-behind there) in
        let b = r.balanced in
        let agree = r.agrees in
        omega (arith, b, agree, none-made x, none-made y, of-held test ready x c here, of-held test ready y c there, of-coming test a, of-going test ready x want a)

  pub keeps-waiting : KeepsWaiting (code_machine ready) (IsSoundCodeIn ready)
  keeps-waiting = record { begins = begins-counted; local_steps = steps-counted; answers = answers-counted }
