-- What sound processes begin as, and what their local steps and the answers to what they want leave, without names.
use Rattle.std.proofs.Common.{◌≡◌, ◌⊎◌, inl, inr, ℕ, List, [], ◌∷◌, map, length, Bool, true, false, Option, Some, None, option_map, option_and_then, refl, sym, ap, ap₂, subst, subst₂, ◌∙◌, true≢false}
use Rattle.std.specs.Prelude.{slice_get, ⊤}
use Rattle.herm_model.specs.CellNames.{rename, rename_in}
use Rattle.herm_model.specs.Lists.{IsIn}
use Rattle.herm_model.specs.Values.{Name, Cell, cell, Parts, no_parts, gap, part, an_inport}
use Rattle.herm_model.proofs.Lists.{length-map}
use Rattle.herm_model.proofs.Options.{none-not_some, some-injective, map-some}
use Rattle.herm_journal.specs.Actions.{values, raised, gone, new_port, new_process, to_put, to_take, to_close, to_answer, to_hear, make_port, make_process, put, take, close, answer, hear}
use Rattle.herm_journal.specs.Messages.{CellAction, CellReply, CellWant}
use Rattle.herm_journal.specs.Renaming.{forget_name, rename_action, rename_reply, rename_want}
use Rattle.herm_forms.specs.Frames.{counted_action}
use Rattle.herm_system.specs.Suiting.{Answers, Suits}
use Rattle.herm_runs.proofs.DiariesTold.{nameless-suits}
use Rattle.herm_instructions.specs.Images.{CodeModule, Image}
use Rattle.herm_code_machine.specs.CodeInstance.{code_at, code_machine, nameless_code, own_name}
use Rattle.herm_code_machine.specs.CodeLocal.{IsCall, IsLocallySoundCode, IsSoundCodeIn}
use Rattle.herm_code_machine.specs.CodeRenaming.{forget_code}
use Rattle.herm_code_machine.specs.CodeStates.{CodeState}
use Rattle.herm_code_machine.specs.CodeSteps.{CodeNext, an_item, a_reply, an_action, a_local_piece, nothing, code_answered, code_local_step, code_next, code_wanted, wanted_next}
use Rattle.herm_code_machine.specs.Pieces.{Met, Piece}
use Rattle.herm_code_machine.specs.ReadyCode.{ReadyCode, ReadyImage, labelled_image}
use Rattle.herm_code_machine.specs.laws.GoodImageLaws.{IsGoodOver, labelled_code}
use Rattle.herm_code_machine.proofs.instance.CodeForgets.{code-forgets-names}
use Rattle.herm_code_machine.proofs.instance.CodeLaws.{begun-at, code-keeps-numbers, code-stays}
use Rattle.herm_code_machine.proofs.renamed.CodeRenamed.{code_next-renamed, rename_next}
use Rattle.herm_code_machine.proofs.sound.ActionSteps.{Acting, acting-at, action-goes}
use Rattle.herm_code_machine.proofs.sound.CallSteps.{call-goes, is-call-or}
use Rattle.herm_code_machine.proofs.sound.CodeThere.{sound-at}
use Rattle.herm_code_machine.proofs.sound.ItemSteps.{item-wants, same-sound}
use Rattle.herm_code_machine.proofs.sound.LocalSteps.{ComesNext, by_work, by_call, by_act, by_local, by_none, comes-next}
use Rattle.herm_code_machine.proofs.sound.Processes.{module-of, steps-sound}
use Rattle.herm_code_machine.proofs.sound.SoundProcesses.{goes-on, stays-sound}
use Rattle.herm_values.specs.View.{leaf}
use Rattle.herm_steps.specs.Coming.{Coming, coming, coming_item, coming_reply, coming_action, coming_piece, coming_nothing, wants_nothing}
use Rattle.herm_steps.specs.SoundSteps.{SoundStepsAreMade}
use Rattle.herm_machine.specs.Machines.{IsSoundState, nameless}

-- what comes in, with names
a_name : ⊤ → Name
a_name u = (0, 0)

mutual
  named-forgotten : (c : Cell ⊤) → rename forget_name (rename a_name c) ≡ c
  named-forgotten (cell n k ps) = ap (cell n k) (named_in-forgotten ps)

  named_in-forgotten : (ps : Parts ⊤) → rename_in forget_name (rename_in a_name ps) ≡ ps
  named_in-forgotten no_parts = refl
  named_in-forgotten (gap ps) = ap gap (named_in-forgotten ps)
  named_in-forgotten (part c ps) = ap₂ part (named-forgotten c) (named_in-forgotten ps)

all_named-forgotten : (cs : List (Cell ⊤)) → map (rename forget_name) (map (rename a_name) cs) ≡ cs
all_named-forgotten [] = refl
all_named-forgotten (c ∷ cs) = ap₂ (λ c cs. c ∷ cs) (named-forgotten c) (all_named-forgotten cs)

reply-forgotten : (r : CellReply ⊤) → rename_reply forget_name (rename_reply a_name r) ≡ r
reply-forgotten (values cs) = ap values (all_named-forgotten cs)
reply-forgotten (raised e cs) = ap (raised e) (all_named-forgotten cs)
reply-forgotten gone = refl

-- an answer to a want with names is one of a named action
record IsNamed (want : CellWant Name) (a : CellAction ⊤) : Type 0 where
  action : CellAction Name
  same : rename_action forget_name action ≡ a
  answers : Answers want action

named-action : (want : CellWant Name) (a : CellAction ⊤) → Answers (rename_want forget_name want) a → IsNamed want a
named-action new_port (make_port made) h = record { action = make_port made; same = refl; answers = tt }
named-action (new_process code) (make_process code' made) h = record { action = make_process code' made; same = refl; answers = h }
named-action (to_put n m) (put number m') h = record { action = put number m; same = ap (put number) h; answers = refl }
named-action (to_take ports) (take k m) h = record { action = take k (rename a_name m); same = ap (take k) (named-forgotten m); answers = tt }
named-action (to_close n) (close count left) h = record { action = close count (map (rename a_name) left); same = ap (close count) (all_named-forgotten left); answers = length-map (rename a_name) left ∙ h }
named-action (to_answer caller call r) (answer call' r') h = record { action = answer call' r; same = ap (answer call') h.1; answers = (h.0, refl) }
named-action to_hear (hear call r) h = record { action = hear call (rename_reply a_name r); same = ap (hear call) (reply-forgotten r); answers = tt }
named-action want a h = absurd h

module _ (image : Image) (main : ℕ) where
  abbrev ready : ReadyImage
  ready = labelled_image image main

  -- what a machine asks of the code is asked of this code
  pub code-here : (c : ReadyCode) (s : CodeState ⊤) → IsSoundState image main c s → code_at ready s ≡ Some c
  code-here c s h = subst (λ s. code_at ready s ≡ Some c) h.same h.code

  pub wanted-here : (c : ReadyCode) (s : CodeState ⊤) → IsSoundState image main c s → (nameless image main).wanted s ≡ code_wanted forget_name c s
  wanted-here c s h = ap (option_and_then (λ c. code_wanted forget_name c s)) (code-here c s h)

  pub step-here : (c : ReadyCode) (s : CodeState ⊤) → IsSoundState image main c s → (nameless image main).local_step s ≡ code_local_step forget_name c s
  step-here c s h = ap (option_and_then (λ c. code_local_step forget_name c s)) (code-here c s h)

  pub answer-here : (c : ReadyCode) (s : CodeState ⊤) (at : ℕ) (a : CellAction ⊤) → IsSoundState image main c s → (nameless image main).answered s at a ≡ code_answered forget_name c s at a
  answer-here c s at a h = ap (option_and_then (λ c. code_answered forget_name c s at a)) (code-here c s h)

  -- a sound state behind
  pub record GoesTo (c : ReadyCode) (o : Option (CodeState ⊤)) : Type 0 where
    pub behind : CodeState ⊤
    pub is : o ≡ Some behind
    pub sound : IsSoundState image main c behind

  pub begun-sound : (exceptions : ℕ) → IsGoodOver exceptions image → (c : ReadyCode) (code number port : ℕ) → slice_get ready.codes code ≡ Some c → GoesTo c ((nameless image main).begin code number (leaf (an_inport port)))
  begun-sound exceptions good c code number port there =
      let x = (steps-sound exceptions image main good).begins code number port (0, 0) c there in
      let bare = (code-forgets-names ready).begins code number (cell (0, 0) (an_inport port) no_parts) ∙ ap (option_map forget_code) x.1 in
      let at = begun-at ready code x.0 c there ((code-keeps-numbers ready).begins code number (cell (0, 0) (an_inport port) no_parts) x.0 x.1).1 in
      record { behind = forget_code x.0; is = bare; sound = record { exceptions = exceptions; good = good; named = x.0; same = refl; code = at; sound = x.2 } }

  pub step-sound : SoundStepsAreMade → (c : ReadyCode) (s : CodeState ⊤) (p : Piece) → IsSoundState image main c s → coming (code_next c s) ≡ coming_piece p → GoesTo c ((nameless image main).local_step s)
  step-sound made c s p h next =
      let x = h.named in
      let t = made h.exceptions image main h.good c x s p h.sound h.code h.same next in
      let bare : (nameless image main).local_step s ≡ Some t.0 = step-here c s h ∙ t.1 in
      let y = map-some forget_code ((code_machine ready).local_step x) t.0 (sym ((code-forgets-names ready).local_steps x) ∙ ap (nameless image main).local_step h.same ∙ bare) in
      record {
        behind = t.0;
        is = bare;
        sound = record {
          exceptions = h.exceptions;
          good = h.good;
          named = y.0;
          same = y.2;
          code = code-stays ready x y.0 c h.code ((code-keeps-numbers ready).local_steps x y.0 y.1).1;
          sound = ((stays-sound h.exceptions image main h.good).local_steps x y.0 h.sound y.1).0;
        };
      }

  pub answer-sound : (c : ReadyCode) (s : CodeState ⊤) (w : CellWant ⊤) (at : ℕ) (a : CellAction ⊤) → IsSoundState image main c s → (nameless image main).wanted s ≡ Some w → Answers w a → Suits (nameless image main) s at a → GoesTo c ((nameless image main).answered s at a)
  answer-sound c s w at a h wanted answers suits =
      let x = h.named in
      let forgets = code-forgets-names ready in
      let seen : (nameless image main).wanted (forget_code x) ≡ (nameless image main).wanted s = ap (λ s. (nameless image main).wanted s) h.same in
      let want = map-some (rename_want forget_name) ((code_machine ready).wanted x) w (sym (forgets.wants x) ∙ seen ∙ wanted) in
      let n = named-action want.0 a (subst (λ w. Answers w a) (sym want.2) answers) in
      let fits = nameless-suits (code_machine ready) (nameless image main) forget_code forgets x at n.action (subst₂ (λ s a. Suits (nameless image main) s at a) (sym h.same) (sym n.same) suits) in
      let y = (goes-on h.exceptions image main h.good).answers x want.0 at n.action h.sound want.1 n.answers fits in
      let there : option_map forget_code ((code_machine ready).answered x at n.action) ≡ Some (forget_code y.0) = ap (option_map forget_code) y.1 in
      let stays = (stays-sound h.exceptions image main h.good).answers x y.0 want.0 at n.action h.sound want.1 n.answers fits y.1 in
      record {
        behind = forget_code y.0;
        is = subst₂ (λ s a. (nameless image main).answered s at a ≡ Some (forget_code y.0)) h.same n.same (forgets.answers x at n.action ∙ there);
        sound = record {
          exceptions = h.exceptions;
          good = h.good;
          named = y.0;
          same = refl;
          code = code-stays ready x y.0 c h.code ((code-keeps-numbers ready).answers x y.0 at n.action y.1).1;
          sound = stays.0;
        };
      }

  -- one action more makes no difference
  pub aside-sound : (c : ReadyCode) (s : CodeState ⊤) → IsSoundState image main c s → IsSoundState image main c ((nameless image main).put_aside s)
  aside-sound c s h =
      let x = h.named in
      let inside = h.sound in
      record {
        exceptions = h.exceptions;
        good = h.good;
        named = record x { frame = counted_action x.frame };
        same = ap (nameless image main).put_aside h.same;
        code = h.code;
        sound = (inside.0, inside.1, same-sound inside.0 x (counted_action x.frame) refl refl refl (inside.2).work inside.2);
      }

  -- where something other than a local step comes next, something is wanted
  wants-next : (exceptions : ℕ) (good : IsGoodOver exceptions image) (m : CodeModule) (in-image : IsIn m image.modules) (x : CodeState Name) → IsLocallySoundCode (labelled_code image m) x → (n : CodeNext Name) → ComesNext (labelled_code image m) x n → wants_nothing (coming (rename_next forget_name own_name n)) ≡ false
      → (w : CellWant Name) × (wanted_next own_name (labelled_code image m) x n ≡ Some w)
  wants-next exceptions good m in-image x sound (an_item item work) (by_work i w front) some = item-wants item (sound.work item (subst (IsIn item) (sym front) (inl refl)))
  wants-next exceptions good m in-image x sound (an_action p met) (by_act p' met' idle closed at is) some = either (is-call-or met.instruction)
    where
      acting : Acting exceptions image good.good good.table m in-image own_name x p met
      acting = acting-at exceptions image good.good good.table m in-image own_name x p met sound idle closed at is

      either : IsCall met.instruction ⊎ (IsCall met.instruction → ⊥) → (w : CellWant Name) × (wanted_next own_name (labelled_code image m) x (an_action p met) ≡ Some w)
      either (inl call) = let g = call-goes exceptions image good.good good.table m in-image own_name x p met acting call in (to_put g.port g.message, g.wanted)
      either (inr other) = let g = action-goes exceptions image good.good good.table m in-image own_name x p met acting other in (g.want, g.wanted)
  wants-next exceptions good m in-image x sound (a_reply k i instruction) next some = (to_hear, refl)
  wants-next exceptions good m in-image x sound (a_local_piece p) next some = absurd (true≢false some)
  wants-next exceptions good m in-image x sound nothing next some = absurd (true≢false some)

  pub wants-there : (c : ReadyCode) (s : CodeState ⊤) → IsSoundState image main c s → wants_nothing (coming (code_next c s)) ≡ false → (w : CellWant ⊤) × ((nameless image main).wanted s ≡ Some w)
  wants-there c s h some =
      let x = h.named in
      let m = module-of h.exceptions image main h.good x.module_number c h.code in
      let next : wants_nothing (coming (rename_next forget_name own_name (code_next c x))) ≡ false = ap (λ n. wants_nothing (coming n)) (sym (code_next-renamed forget_name own_name c x)) ∙ ap (λ s. wants_nothing (coming (code_next c s))) h.same ∙ some in
      let want = subst (λ c. IsLocallySoundCode c x → wants_nothing (coming (rename_next forget_name own_name (code_next c x))) ≡ false → (w : CellWant Name) × (code_wanted own_name c x ≡ Some w)) m.2
      (λ sound next. wants-next h.exceptions h.good m.0 m.1 x sound (code_next (labelled_code image m.0) x) (comes-next (labelled_code image m.0) x) next) (sound-at ready x c h.sound h.code) next in
      let named : (code_machine ready).wanted x ≡ Some want.0 = ap (option_and_then (λ c. code_wanted own_name c x)) h.code ∙ want.1 in
      (rename_want forget_name want.0, ap (nameless image main).wanted (sym h.same) ∙ (code-forgets-names ready).wants x ∙ ap (option_map (rename_want forget_name)) named)
