-- How a process stands, by what its machine tells: its end, whether a step begins, its want and its counts.
use Rattle.std.proofs.Common.{◌≡◌, ◌⊎◌, inl, inr, ℕ, Bool, true, false, ◌&&◌, not, nat_lt, Option, Some, None, option_map, option_and_then, refl, sym, ap, subst, ◌∙◌, true≢false}
use Rattle.std.specs.Prelude.{⊤}
use Rattle.herm_model.specs.Lists.{IsIn}
use Rattle.herm_model.specs.Values.{Name}
use Rattle.herm_model.proofs.Options.{some-injective, none-not_some, map-some}
use Rattle.herm_journal.specs.Actions.{to_put}
use Rattle.herm_journal.specs.Messages.{CellWant}
use Rattle.herm_journal.specs.Renaming.{forget_name, rename_want}
use Rattle.herm_forms.specs.Frames.{Frame}
use Rattle.herm_system.specs.Machines.{Machine, Standing, ended, out_of_steps, local, acting, to_act, greatest_actions, is_acting}
use Rattle.herm_instructions.specs.Images.{Image, CodeModule}
use Rattle.herm_code_machine.specs.CodeInstance.{code_at, nameless_code, own_name, ready_if}
use Rattle.herm_code_machine.specs.CodeLocal.{IsCall, IsLocallySoundCode, IsSoundCodeIn}
use Rattle.herm_code_machine.specs.CodeRenaming.{forget_code}
use Rattle.herm_code_machine.specs.CodeSeen.{exception_of}
use Rattle.herm_code_machine.specs.CodeStates.{CodeState, Position, at_index, at_end, at_end_by}
use Rattle.herm_code_machine.specs.CodeSteps.{CodeNext, an_item, a_reply, an_action, a_local_piece, nothing, code_next, code_ready, code_wanted, ready_for, wanted_next, within_steps}
use Rattle.herm_code_machine.specs.Pieces.{Met, Piece}
use Rattle.herm_code_machine.specs.ReadyCode.{ReadyCode, labelled_image}
use Rattle.herm_code_machine.specs.laws.GoodImageLaws.{IsGoodOver, labelled_code}
use Rattle.herm_code_machine.specs.laws.StandingLaws.{IsAtEnd}
use Rattle.herm_code_machine.proofs.ReadyProcesses.{processes-stand_so}
use Rattle.herm_code_machine.proofs.instance.CodeForgets.{code-forgets-names}
use Rattle.herm_code_machine.proofs.renamed.CodeRenamed.{code_next-renamed, rename_next}
use Rattle.herm_code_machine.proofs.sound.ActionSteps.{acting-at, action-goes}
use Rattle.herm_code_machine.proofs.sound.CallSteps.{is-call-or, call-goes}
use Rattle.herm_code_machine.proofs.sound.CodeThere.{sound-at}
use Rattle.herm_code_machine.proofs.sound.ItemSteps.{item-wants}
use Rattle.herm_code_machine.proofs.sound.LocalSteps.{ComesNext, by_work, by_act, comes-next}
use Rattle.herm_code_machine.proofs.sound.Processes.{module-of}
use Rattle.herm_code_machine.proofs.sound.SoundProcesses.{goes-on}
use Rattle.herm_steps.specs.Coming.{begins_with_step, coming, ended_at, end_at}
use Rattle.herm_machine.specs.Machines.{IsSoundState, end_of}
use Rattle.herm_process.specs.Nexts.{is_spent}

abbrev bare : CodeNext Name → CodeNext ⊤
bare n = rename_next forget_name own_name n

ended-so : (limit : ℕ) (b : Frame Name) (n : CodeNext Name) (p : Position) (e : Option ℕ) → Some e ≡ ended_at (coming (bare n)) p → (ready_for limit b n ≡ ended) × (exception_of p ≡ e)
ended-so limit b (an_item item work) p e h = none-not_some (sym h)
ended-so limit b (a_reply call i instruction) p e h = none-not_some (sym h)
ended-so limit b (an_action q m) p e h = none-not_some (sym h)
ended-so limit b (a_local_piece q) p e h = none-not_some (sym h)
ended-so limit b nothing p e h = (refl, at p h)
  where
    at : (p : Position) → Some e ≡ end_at p → exception_of p ≡ e
    at (at_index i) h = none-not_some (sym h)
    at at_end h = sym (some-injective h)
    at (at_end_by x) h = sym (some-injective h)

abbrev is_over : (limit : ℕ) → Frame Name → CodeNext Name → Bool
is_over limit b n = begins_with_step (coming (bare n)) && not (nat_lt b.steps limit)

over : (has within : Bool) (s : Standing) → has && not within ≡ true → within_steps has within s ≡ out_of_steps
over true true s h = absurd (true≢false (sym h))
over true false s h = refl
over false within s h = absurd (true≢false (sym h))

left : (has within : Bool) (s : Standing) → has && not within ≡ false → within_steps has within s ≡ s
left true true s h = refl
left true false s h = absurd (true≢false h)
left false within s h = refl

spent-so : (limit : ℕ) (b : Frame Name) (n : CodeNext Name) → is_over limit b n ≡ true → ready_for limit b n ≡ out_of_steps
spent-so limit b (an_item item work) h = absurd (true≢false (sym h))
spent-so limit b (a_reply call i instruction) h = absurd (true≢false (sym h))
spent-so limit b (an_action p m) h = over p.has_step (nat_lt b.steps limit) (to_act (nat_lt b.actions greatest_actions)) h
spent-so limit b (a_local_piece p) h = over p.has_step (nat_lt b.steps limit) local h
spent-so limit b nothing h = absurd (true≢false (sym h))

-- a want is for something done at a place
acts-so : (c : ReadyCode) (x : CodeState Name) (limit : ℕ) (b : Frame Name) (n : CodeNext Name) (w : CellWant Name) → is_over limit b n ≡ false → wanted_next own_name c x n ≡ Some w → ready_for limit b n ≡ to_act (nat_lt b.actions greatest_actions)
acts-so c x limit b (an_item item work) w h e = refl
acts-so c x limit b (a_reply call i instruction) w h e = refl
acts-so c x limit b (an_action p m) w h e = left p.has_step (nat_lt b.steps limit) (to_act (nat_lt b.actions greatest_actions)) h
acts-so c x limit b (a_local_piece p) w h e = none-not_some e
acts-so c x limit b nothing w h e = none-not_some e

module _ (exceptions : ℕ) (image : Image) (main : ℕ) (good : IsGoodOver exceptions image) where
  -- an action wants something
  action-wants : (m : CodeModule) → IsIn m image.modules → (s : CodeState Name) (p : Piece) (met : Met) → IsLocallySoundCode (labelled_code image m) s → ComesNext (labelled_code image m) s (an_action p met)
      → (w : CellWant Name) × (wanted_next own_name (labelled_code image m) s (an_action p met) ≡ Some w)
  action-wants m in-image s p met sound (by_act p' met' idle closed at is) = by (is-call-or met.instruction)
    where
      by : IsCall met.instruction ⊎ (IsCall met.instruction → ⊥) → (w : CellWant Name) × (wanted_next own_name (labelled_code image m) s (an_action p met) ≡ Some w)
      by (inl call) =
          let g = call-goes exceptions image good.good good.table m in-image own_name s p met (acting-at exceptions image good.good good.table m in-image own_name s p met sound idle closed at is) call in (to_put g.port g.message, g.wanted)
      by (inr other) =
          let g = action-goes exceptions image good.good good.table m in-image own_name s p met (acting-at exceptions image good.good good.table m in-image own_name s p met sound idle closed at is) other in (g.want, g.wanted)

  nothing-so : (limit : ℕ) (x : CodeState Name) (c : ReadyCode) → IsSoundCodeIn (labelled_image image main) x → code_at (labelled_image image main) x ≡ Some c → code_next c x ≡ nothing → ended_at (coming (bare nothing)) x.position ≡ None → ⊥
  nothing-so limit x c sound at is none =
      let so = (processes-stand_so (labelled_image image main) limit x sound c at ended).0 (ap (ready_if limit x) at ∙ ap (ready_for limit x.frame) is) in
      by x.position so.2 none
    where
      by : (p : Position) → IsAtEnd p → end_at p ≡ None → ⊥
      by (at_index i) h e = h
      by at_end h e = none-not_some (sym e)
      by (at_end_by x) h e = none-not_some (sym e)

  -- where nothing is wanted, and it has not ended, a local step is next
  local-next : (m : CodeModule) → IsIn m image.modules → (limit : ℕ) (x : CodeState Name) → IsLocallySoundCode (labelled_code image m) x → (code_next (labelled_code image m) x ≡ nothing → ⊥)
      → is_over limit x.frame (code_next (labelled_code image m) x) ≡ false → code_wanted own_name (labelled_code image m) x ≡ None → code_ready (labelled_code image m) limit x ≡ local
  local-next m in-image limit x sound goes steps wanted = by (code_next (labelled_code image m) x) (comes-next (labelled_code image m) x) refl steps wanted
    where
      by : (n : CodeNext Name) → ComesNext (labelled_code image m) x n → code_next (labelled_code image m) x ≡ n → is_over limit x.frame n ≡ false → wanted_next own_name (labelled_code image m) x n ≡ None → ready_for limit x.frame n ≡ local
      by (an_item item work) (by_work i w front) is steps wanted = let w = item-wants item (sound.work item (subst (IsIn item) (sym front) (inl refl))) in none-not_some (sym wanted ∙ w.1)
      by (a_reply call i instruction) next is steps wanted = none-not_some (sym wanted)
      by (an_action p met) next is steps wanted = let w = action-wants m in-image x p met sound next in none-not_some (sym wanted ∙ w.1)
      by (a_local_piece p) next is steps wanted = left p.has_step (nat_lt x.frame.steps limit) local steps
      by nothing next is steps wanted = absurd (goes is)

  local-so : (limit : ℕ) (x : CodeState Name) (c : ReadyCode) → IsSoundCodeIn (labelled_image image main) x → code_at (labelled_image image main) x ≡ Some c
      → ended_at (coming (bare (code_next c x))) x.position ≡ None → is_over limit x.frame (code_next c x) ≡ false → code_wanted own_name c x ≡ None → code_ready c limit x ≡ local
  local-so limit x c sound at none =
      let m = module-of exceptions image main good x.module_number c at in
      subst (λ c. IsLocallySoundCode c x → (code_next c x ≡ nothing → ⊥) → is_over limit x.frame (code_next c x) ≡ false → code_wanted own_name c x ≡ None → code_ready c limit x ≡ local) m.2
      (λ sound goes steps wanted. local-next m.0 m.1 limit x sound goes steps wanted) (sound-at (labelled_image image main) x c sound at)
      (λ is. nothing-so limit x c sound at is (subst (λ n. ended_at (coming (bare n)) x.position ≡ None) is none))

-- A sound state without names stands as its named state does.
module _ (image : Image) (main : ℕ) (limit : ℕ) (c : ReadyCode) where
  abbrev bare_machine : Machine ⊤ (CodeState ⊤)
  bare_machine = nameless_code (labelled_image image main)

  abbrev Ends : CodeState ⊤ → Type 0
  Ends s = (e : Option ℕ) → Some e ≡ end_of c s → (bare_machine.ready limit s ≡ ended) × (bare_machine.exception s ≡ e)

  abbrev Spends : CodeState ⊤ → Type 0
  Spends s = is_spent c limit s ≡ true → bare_machine.ready limit s ≡ out_of_steps

  abbrev Steps : CodeState ⊤ → Type 0
  Steps s = None ≡ end_of c s → is_spent c limit s ≡ false → ((w : CellWant ⊤) → bare_machine.wanted s ≡ Some w → ⊥) → bare_machine.ready limit s ≡ local

  abbrev Acts : CodeState ⊤ → Type 0
  Acts s = (w : CellWant ⊤) → is_spent c limit s ≡ false → bare_machine.wanted s ≡ Some w → bare_machine.ready limit s ≡ to_act (nat_lt s.frame.actions greatest_actions)

  pub record StandsAs (s : CodeState ⊤) : Type 0 where
    pub ends : Ends s
    pub spends : Spends s
    pub steps : Steps s
    pub acts : Acts s

  stands-named : (exceptions : ℕ) → IsGoodOver exceptions image → (x : CodeState Name) → IsSoundCodeIn (labelled_image image main) x → code_at (labelled_image image main) x ≡ Some c → StandsAs (forget_code x)
  stands-named exceptions good x sound at = record {
    ends = λ e h. let r = ended-so limit x.frame (code_next c x) x.position e (h ∙ ap (λ n. ended_at (coming n) x.position) same) in (stands ∙ r.0, r.1);
    spends = λ h. stands ∙ spent-so limit x.frame (code_next c x) (over-same h);
    steps = λ h g none. stands ∙ local-so exceptions image main good limit x c sound at (ap (λ n. ended_at (coming n) x.position) (sym same) ∙ sym h) (over-same g) (unwanted (code_wanted own_name c x) refl none);
    acts = λ w h g. let v = wanted w g in stands ∙ acts-so c x limit x.frame (code_next c x) v.0 (over-same h) v.1;
  }
    where
      same : code_next c (forget_code x) ≡ bare (code_next c x)
      same = code_next-renamed forget_name own_name c x

      stands : bare_machine.ready limit (forget_code x) ≡ ready_for limit x.frame (code_next c x)
      stands = (code-forgets-names (labelled_image image main)).ready limit x ∙ ap (ready_if limit x) at

      over-same : {b : Bool} → is_spent c limit (forget_code x) ≡ b → is_over limit x.frame (code_next c x) ≡ b
      over-same h = ap (λ n. begins_with_step (coming n) && not (nat_lt x.frame.steps limit)) (sym same) ∙ h

      wants : bare_machine.wanted (forget_code x) ≡ option_map (rename_want forget_name) (code_wanted own_name c x)
      wants = (code-forgets-names (labelled_image image main)).wants x ∙ ap (λ o. option_map (rename_want forget_name) (option_and_then (λ c. code_wanted own_name c x) o)) at

      wanted : (w : CellWant ⊤) → bare_machine.wanted (forget_code x) ≡ Some w → (v : CellWant Name) × (code_wanted own_name c x ≡ Some v)
      wanted w e = let v = map-some (rename_want forget_name) (code_wanted own_name c x) w (sym wants ∙ e) in (v.0, v.1)

      unwanted : (o : Option (CellWant Name)) → code_wanted own_name c x ≡ o → ((w : CellWant ⊤) → bare_machine.wanted (forget_code x) ≡ Some w → ⊥) → code_wanted own_name c x ≡ None
      unwanted None e none = e
      unwanted (Some v) e none = absurd (none (rename_want forget_name v) (wants ∙ ap (option_map (rename_want forget_name)) e))

  pub stands-as : (s : CodeState ⊤) → IsSoundState image main c s → StandsAs s
  stands-as s h = subst StandsAs h.same (stands-named h.exceptions h.good h.named h.sound h.code)

-- where an action is next something is wanted
pub acting-wants : (image : Image) (main limit : ℕ) (c : ReadyCode) (s : CodeState ⊤) → IsSoundState image main c s → (nameless_code (labelled_image image main)).ready limit s ≡ acting → (w : CellWant ⊤) × ((nameless_code (labelled_image image main)).wanted s ≡ Some w)
acting-wants image main limit c s h = subst (λ s. (nameless_code (labelled_image image main)).ready limit s ≡ acting → (w : CellWant ⊤) × ((nameless_code (labelled_image image main)).wanted s ≡ Some w)) h.same by
  where
    by : (nameless_code (labelled_image image main)).ready limit (forget_code h.named) ≡ acting → (w : CellWant ⊤) × ((nameless_code (labelled_image image main)).wanted (forget_code h.named) ≡ Some w)
    by e =
        let r = (goes-on h.exceptions image main h.good).wants limit h.named h.sound (ap is_acting (sym ((code-forgets-names (labelled_image image main)).ready limit h.named) ∙ e)) in
        (rename_want forget_name r.0, (code-forgets-names (labelled_image image main)).wants h.named ∙ ap (option_map (rename_want forget_name)) r.1)
