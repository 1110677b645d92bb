-- A run of a process of good code comes to a piece or to an end, sound within itself.
use Rattle.std.proofs.Common.{◌≡◌, ◌⊎◌, inl, inr, ℕ, zero, suc, ◌+◌, ◌<◌, ◌≤◌, List, [], ◌∷◌, filter, length, Bool, true, false, cond, Option, Some, None, option_and_then, refl, sym, ap, subst, ◌∙◌, arith}
use Rattle.std.specs.Prelude.{slice_get, IsTrue, pred}
use mathlib.Core.Bool.{false≢true}
use Rattle.herm_model.specs.Lists.{IsIn, list_of}
use Rattle.herm_model.specs.Paths.{Path, Fact, init, case}
use Rattle.herm_model.specs.Types.{inport}
use Rattle.herm_model.specs.Statements.{Differ}
use Rattle.herm_model.specs.Targets
use Rattle.herm_model.specs.FactsOfValues.{HasExactly}
use Rattle.herm_model.specs.Typed.{HaveTypes}
use Rattle.herm_model.specs.Values.{an_inport, cell, Parts, no_parts, part, gaps, has_value}
use Rattle.herm_model.specs.WellFormedTables.{IsWellFormedTable}
use Rattle.herm_model.proofs.NothingThere.{nothing-there, nothing-in_gaps}
use Rattle.herm_model.proofs.Options.{none-not_some, some-injective}
use Rattle.herm_model.proofs.Typing.{gaps-typed}
use Rattle.herm_journal.specs.Messages.{AreFull}
use Rattle.herm_forms.specs.EdgeFinalising.{arrive}
use Rattle.herm_forms.specs.Frames.{Name, Loop, Frame, Completion, goes, stays, stuck, counted_step}
use Rattle.herm_forms.proofs.Arrived.{edges-exact}
use Rattle.herm_forms.proofs.KeptBodies.{FewerLoops, is-arrive}
use Rattle.herm_forms.proofs.forms.NewValues.{typed-by}
use Rattle.herm_instructions.specs.Instructions.{Instruction, Step, End, EndBy}
use Rattle.herm_instructions.specs.Labels.{Label}
use Rattle.herm_instructions.specs.Images.{CodeModule, Image, instruction_at}
use Rattle.herm_instructions.specs.Places.{Place, label_at_start, label_at}
use Rattle.herm_instructions.specs.GoodCode.{Arrives, IsGood}
use Rattle.herm_instructions.proofs.LabelsOfCode.{begins-at_label}
use Rattle.herm_code_machine.specs.ReadyCode.{ReadyCode, ready_code}
use Rattle.herm_code_machine.specs.CodeStates.{Position, at_index, at_end, at_end_by, CodeState, ended_at, done_instruction, begins_piece, first_frame}
use Rattle.herm_code_machine.specs.CodeLocal.{AreSlots, met_while_open, stack_at, inputs_of, IsLocallySoundCode}
use Rattle.herm_code_machine.specs.CodeSeen.{label_of}
use Rattle.herm_code_machine.specs.CodeSteps.{met_at}
use Rattle.herm_code_machine.specs.Pieces.{Met}
use Rattle.herm_code_machine.specs.laws.GoodImageLaws.{IsEnd}
use Rattle.herm_code_machine.specs.laws.PieceLaws.{IsAtPiece}
use Rattle.herm_code_machine.proofs.sound.AtLabels.{has_of, numbers, Holds}
use Rattle.std.specs.Prelude.{⊤, drop}
use Rattle.herm_model.specs.Finalising.{excess}
use Rattle.herm_model.specs.Labels.{label_at as held_at}
use Rattle.herm_model.proofs.FactTests.{got-IsIn}
use Rattle.herm_model.proofs.Options.{chain-some}
use Rattle.herm_model.proofs.TypedPaths.{slice_get-below}
use Rattle.herm_forms.specs.Frames
use Rattle.herm_instructions.specs.Places.{places}
use Rattle.herm_instructions.proofs.LabelsOfCode.{places-are_instructions}
use Rattle.herm_instructions.proofs.PlacesOfCode.{Follow, module-follows}
use Rattle.herm_code_machine.specs.CodeStates.{on_by, on_from, run_on, to_next_piece, code_begin}
use Rattle.herm_code_machine.proofs.sound.LoopEffects.{left-alone}
use Rattle.herm_code_machine.proofs.sound.Between.{AreAlone, IsAtRest, rest-kept, sound-at, holds-at, exact-listed, arrived}
use Rattle.herm_code_machine.proofs.sound.Between as between
use Rattle.herm_code_machine.proofs.sound.CopiedStacks.{AreCopied}

no-loops : (loops : List (Loop Name)) → filter (λ (l : Loop Name). false) loops ≡ []
no-loops [] = refl
no-loops (l ∷ loops) = no-loops loops

-- the landing index of a place
index-from : (ps : List Place) (n k : ℕ) (p : Place) → Follow n ps → slice_get ps k ≡ Some p → p.index ≡ n + k
index-from [] n k p f e = none-not_some e
index-from (q ∷ ps) n zero p f e = sym (ap (λ (r : Place). r.index) (some-injective e)) ∙ f.0 ∙ omega arith
index-from (q ∷ ps) n (suc k) p f e = index-from ps (suc n) k p f.1 e ∙ omega arith

module _ (exceptions' : ℕ) (image : Image) (good : IsGood exceptions' image) (formed : IsWellFormedTable exceptions' image.types) (m : CodeModule) (in-image : IsIn m image.modules) where
  abbrev pub code : ReadyCode
  code = ready_code image (label_at image.types image.constants) m

  abbrev pub StandsAt : ℕ → Label → CodeState Name → Type 0
  StandsAt i l s = between.StandsAt exceptions' image good formed m in-image i l s

  -- an end leaves nothing
  no-lists : (target : Targets.Target) (b : Frame Name) → (target ≡ Targets.end) ⊎ ((e : ℕ) × (target ≡ Targets.end_by e)) → (arrive code.scope target b).loops ≡ []
  no-lists target b (inl e) = ap (λ t. (arrive code.scope t b).loops) e ∙ (left-alone (λ l. false) cut.loops (record cut { loops = filter (λ (l : Loop Name). false) cut.loops })).1 ∙ no-loops cut.loops
    where
      cut : Frame Name
      cut = Frames.drop (excess image.types m.variables (has_value b.variables) (λ p. false)) b
  no-lists target b (inr (x, e)) = ap (λ t. (arrive code.scope t b).loops) e ∙ (left-alone (λ l. false) cut.loops (record cut { loops = filter (λ (l : Loop Name). false) cut.loops })).1 ∙ no-loops cut.loops
    where
      cut : Frame Name
      cut = Frames.drop (excess image.types m.variables (has_value b.variables) (λ p. false)) b

  fewer-rest : FewerLoops IsAtRest
  fewer-rest stay b h = h

  -- at an end nothing is left
  at-end-sound : (target : Targets.Target) (p : Position) → (target ≡ Targets.end) ⊎ ((e : ℕ) × (target ≡ Targets.end_by e)) → ((f : Fact) → held_at code.scope.label target f ≡ false) → label_of code p ≡ None → IsAtPiece code p → ((j : ℕ) → p ≡ at_index j → ⊥)
      → (l : Label) (s : CodeState Name) → Holds code l s.stack s.frame → IsAtRest s.frame → IsLocallySoundCode code (ended_at code s p target)
  at-end-sound target p which none unlabelled piece no_index l s h rest =
      let b = arrive code.scope target s.frame in
      let t = ended_at code s p target in
      let loops : b.loops ≡ [] = no-lists target s.frame which in
      let sound = edges-exact code.scope target s.frame (has_of l) (between.deep exceptions' image good formed m in-image) h.sound (λ f e. absurd (false≢true (sym (none f) ∙ e))) (λ f g e i. absurd (false≢true (sym (none f) ∙ e))) in
      let kept = is-arrive (λ n. n) IsAtRest IsAtRest rest-kept fewer-rest code.scope target s.frame rest in
      let idle : met_while_open code t ≡ None = ap (λ k. elim k [ None ↦ None | Some k ↦ met_at code p ]) kept.0 in
      record {
        stands = piece;
        label = λ j e. absurd (no_index j e);
        values = record {
          values = λ q. ((λ v. absurd (false≢true (sym (none (init q)) ∙ ((sound.facts).values q).0 v))), (λ f. absurd (subst (λ o. IsIn (init q) (list_of (λ (l : Label). l.facts) o)) unlabelled f.0)));
          components = λ q k f. absurd (subst (λ o. IsIn (case q k) (list_of (λ (l : Label). l.facts) o)) unlabelled f.0);
        };
        types = sound.types;
        stack = subst (λ (o : Option Met). AreFull {N = ⊤} code.scope.types (elim o [ None ↦ stack_at code t | Some m ↦ drop (inputs_of m.instruction) (stack_at code t) ]) []) (sym idle)
            (subst (λ o. AreFull {N = ⊤} code.scope.types (list_of (λ (l : Label). l.stack) o) []) (sym unlabelled) tt);
        copies = subst (λ (o : Option Met). AreCopied code.scope.types (elim o [ None ↦ stack_at code t | Some m ↦ drop (inputs_of m.instruction) (stack_at code t) ])) (sym idle)
            (subst (λ o. AreCopied code.scope.types (list_of (λ (l : Label). l.stack) o)) (sym unlabelled) (λ t h. absurd h));
        slots = subst (λ o. AreSlots code.scope.types (list_of (λ (l : Label). l.slots) o) b.loops) (sym unlabelled) (subst (λ loops. AreSlots code.scope.types [] loops) (sym loops) tt);
        slots_differ = subst (λ loops. Differ (numbers loops)) (sym loops) tt;
        call = λ k e. none-not_some (sym kept.0 ∙ e);
        work = kept.1;
      }

  -- a process whose run came to a piece or an end, in the same module
  abbrev pub Reaches : CodeState Name → CodeState Name → Type 0
  Reaches s t = IsLocallySoundCode code t × IsAtRest t.frame × (t.module_number ≡ s.module_number)

  abbrev pub RunGoes : (name : Name → Name) → ℕ → CodeState Name → Type 0
  RunGoes name n s = (t : CodeState Name) × (run_on name code n s ≡ Some t) × Reaches s t

  end-rest : (p : Position) (target : Targets.Target) (s : CodeState Name) → IsAtRest s.frame → IsAtRest (ended_at code s p target).frame
  end-rest p target s rest = is-arrive (λ n. n) IsAtRest IsAtRest rest-kept fewer-rest code.scope target s.frame rest

  -- there is an instruction where there is a label
  pub instruction-there : (i : ℕ) (l : Label) → code.label i ≡ Some l → (instruction : Instruction) × (instruction_at m i ≡ Some instruction) × (i < length m.code)
  instruction-there i l e =
      let p = chain-some (λ (p : Place). p.label) (slice_get (places image.types image.constants m) i) l e in
      let q = got-IsIn (places image.types image.constants m) i p.0 p.1 in
      let at = (places-are_instructions exceptions' image m p.0 q).0 in
      let same : (p.0).index ≡ i = index-from (places image.types image.constants m) 0 i p.0 (module-follows image.types image.constants m) p.1 ∙ omega arith in
      let here = subst (λ j. slice_get m.code j ≡ Some (p.0).instruction) same at in
      ((p.0).instruction, here, slice_get-below m.code i (p.0).instruction here)

  module _ (name : Name → Name) where
    abbrev pub Onward : ℕ → CodeState Name → ℕ → Instruction → Type 0
    Onward n s i instruction = (t : CodeState Name) × (on_by name code (run_on name code n) s i (Some instruction) ≡ Some t) × Reaches s t

    -- where a piece begins
    stays-there : (n i : ℕ) (l : Label) (s : CodeState Name) → StandsAt i l s → (instruction : Instruction) → instruction_at m i ≡ Some instruction → begins_piece code instruction ≡ true → Onward n s i instruction
    stays-there n i l s here instruction at begins = (
      s,
      ap (λ b. cond b (Some s) (option_and_then (run_on name code n) (done_instruction name code s i instruction))) begins,
      (sound-at code s i l here.position here.labelled (subst (IsAtPiece code) (sym here.position) (instruction, at, begins)) here.holds here.copied here.rest, here.rest, refl),
    )

    -- at an end
    ends-there : (n i : ℕ) (l : Label) (s : CodeState Name) → StandsAt i l s → Onward (suc n) s i End
    ends-there n i l s here = (
      ended_at code s at_end Targets.end,
      refl,
      (at-end-sound Targets.end at_end (inl refl) (λ f. refl) refl tt (λ j e. cc) l s here.holds here.rest, end-rest at_end Targets.end s here.rest, refl),
    )

    ends-there_by : (n i : ℕ) (x : ℕ) (l : Label) (s : CodeState Name) → StandsAt i l s → Onward (suc n) s i (EndBy x)
    ends-there_by n i x l s here = (
      ended_at code s (at_end_by x) (Targets.end_by x),
      refl,
      (at-end-sound (Targets.end_by x) (at_end_by x) (inr (x, refl)) (λ f. refl) refl tt (λ j e. cc) l s here.holds here.rest, end-rest (at_end_by x) (Targets.end_by x) s here.rest, refl),
    )

    abbrev pub Again : ℕ → Type 0
    Again n = (i : ℕ) (l : Label) (s : CodeState Name) → StandsAt i l s → length m.code ≤ i + n → RunGoes name (suc n) s

    -- an instruction, and what follows it
    on-there : (n i : ℕ) (l : Label) (s : CodeState Name) → StandsAt i l s → (instruction : Instruction) → instruction_at m i ≡ Some instruction → (IsEnd instruction → ⊥) → begins_piece code instruction ≡ false
        → length m.code ≤ i + suc n → Again n → Onward (suc n) s i instruction
    on-there n i l s here instruction at no_end other enough again =
        let d = between.done-there exceptions' image good formed m in-image name i instruction l s at here no_end other in
        let led = d.2 in
        let r = by d.0 led led.onward in (
          r.0,
          ap (λ b. cond b (Some s) (option_and_then (run_on name code (suc n)) (done_instruction name code s i instruction))) other ∙ ap (option_and_then (run_on name code (suc n))) d.1 ∙ r.1,
          (r.2.0, r.2.1, r.2.2 ∙ led.same),
        )
      where
        by : (t : CodeState Name) (led : between.LeadsOn exceptions' image good formed m in-image i s t) → (i < led.index) ⊎ (instruction_at m led.index ≡ Some Step) → RunGoes name (suc n) t
        by t led (inl lt) = again led.index led.label t led.stands (omega (arith, enough, lt))
        by t led (inr step) =
            let stands = led.stands in
            let x = stays-there n led.index led.label t stands Step step refl in
            (x.0, ap (on_from name code (run_on name code n) t) stands.position ∙ ap (on_by name code (run_on name code n) t led.index) step ∙ x.1, x.2)

    each-there : (n i : ℕ) (l : Label) (s : CodeState Name) → StandsAt i l s → (instruction : Instruction) → instruction_at m i ≡ Some instruction → (b : Bool) → begins_piece code instruction ≡ b → length m.code ≤ i + suc n → Again n → Onward (suc n) s i instruction
    each-there n i l s here instruction at true begins enough again = stays-there (suc n) i l s here instruction at begins
    each-there n i l s here End at false begins enough again = ends-there n i l s here
    each-there n i l s here (EndBy x) at false begins enough again = ends-there_by n i x l s here
    each-there n i l s here instruction at false begins enough again = on-there n i l s here instruction at (λ v. v) begins enough again

    -- a run in so many instructions as are left of the code, and one more
    pub run-there : (n : ℕ) → Again n
    run-there zero i l s here enough = let x = instruction-there i l here.labelled in absurd (omega (arith, enough, x.2))
    run-there (suc n) i l s here enough =
        let x = instruction-there i l here.labelled in
        let r = each-there n i l s here x.0 x.1 (begins_piece code x.0) refl enough (run-there n) in
        (r.0, ap (on_from name code (run_on name code (suc n)) s) here.position ∙ ap (on_by name code (run_on name code (suc n)) s i) x.1 ∙ r.1, r.2)

    pub next-there : (i : ℕ) (l : Label) (s : CodeState Name) → StandsAt i l s → (t : CodeState Name) × (to_next_piece name code s ≡ Some t) × Reaches s t
    next-there i l s here = run-there (length m.code) i l s here (omega arith)

  -- as it begins: the port in variable 0 and nothing else
  first-exact : (port : ℕ) (n : Name) (k : ℕ) → HasExactly (part (cell n (an_inport port) no_parts) (gaps k)) (λ f. IsIn f label_at_start.facts)
  first-exact port n k = record { values = λ p. (there p, back p); components = λ p c h. no-case p c h }
    where
      first : Parts Name
      first = part (cell n (an_inport port) no_parts) (gaps k)

      there : (p : Path) → IsTrue (has_value first p) → IsIn (init p) (init (0 ∷ []) ∷ [])
      there [] h = absurd (false≢true h)
      there (zero ∷ []) h = inl refl
      there (suc i ∷ []) h = absurd (false≢true (sym (nothing-in_gaps Name k (i ∷ [])) ∙ h))
      there (zero ∷ j ∷ p) h = absurd (false≢true (sym (nothing-there Name (j ∷ p)) ∙ h))
      there (suc i ∷ j ∷ p) h = absurd (false≢true (sym (nothing-in_gaps Name k (i ∷ j ∷ p)) ∙ h))

      path_in : Fact → Path
      path_in (init p) = p
      path_in (case p c) = p

      back : (p : Path) → IsIn (init p) (init (0 ∷ []) ∷ []) → IsTrue (has_value first p)
      back p (inl e) = subst (λ p. IsTrue (has_value first p)) (sym (ap path_in e)) refl
      back p (inr h) = absurd h

      is_case : Fact → Bool
      is_case (init p) = false
      is_case (case p c) = true

      no-case : {A : Type 0} (p : Path) (c : ℕ) → IsIn (case p c) (init (0 ∷ []) ∷ []) → A
      no-case p c (inl e) = absurd (false≢true (sym (ap is_case e)))
      no-case p c (inr h) = absurd h

  -- as a process begins
  abbrev pub first_state : (number' number port : ℕ) (n : Name) → CodeState Name
  first_state number' number port n = record { module_number = number'; position = at_index 0; stack = []; frame = first_frame m.variables number (cell n (an_inport port) no_parts) }

  pub begins-at : (number' number port : ℕ) (n : Name) → (l : Label) × StandsAt 0 l (first_state number' number port n) × Arrives label_at_start l
  begins-at number' number port n = by m.variables refl (between.good-module exceptions' image good formed m in-image).port
    where
      first-types : (ts : List ℕ) → m.variables ≡ ts → (t message : ℕ) (declared : List Fact) → slice_get m.variables 0 ≡ Some t → slice_get image.types t ≡ Some (inport message declared)
          → HaveTypes image.types m.variables (part (cell n (an_inport port) no_parts) (gaps (pred (length m.variables))))
      first-types [] e t message declared at shape = none-not_some (sym (ap (λ ts. slice_get ts 0) e) ∙ at)
      first-types (u ∷ more) e t message declared at shape =
          let type : u ≡ t = some-injective (sym (ap (λ ts. slice_get ts 0) e) ∙ at) in
          let one_less : pred (length m.variables) ≡ length more = ap (λ (ts : List ℕ). pred (length ts)) e in
          subst (λ ts. HaveTypes image.types ts (part (cell n (an_inport port) no_parts) (gaps (pred (length m.variables))))) (sym e)
          (subst (λ k. HaveTypes image.types (u ∷ more) (part (cell n (an_inport port) no_parts) (gaps k))) (sym one_less)
          (typed-by image.types u (inport message declared) n (an_inport port) no_parts (subst (λ t. slice_get image.types t ≡ Some (inport message declared)) (sym type) shape) tt refl, gaps-typed Name image.types more))

      by : (ts : List ℕ) → m.variables ≡ ts → (t message : ℕ) × (declared : List Fact) × (slice_get m.variables 0 ≡ Some t) × (slice_get image.types t ≡ Some (inport message declared))
          → (l : Label) × StandsAt 0 l (first_state number' number port n) × Arrives label_at_start l
      by ts e port' =
          let l = begins-at_label exceptions' image m (between.good-module exceptions' image good formed m in-image) in
          let b = first_frame m.variables number (cell n (an_inport port) no_parts) in
          let holds : Holds code label_at_start [] b = record {
            sound = record { types = first-types ts e port'.0 port'.1 port'.2 port'.3 port'.4; facts = exact-listed b.variables label_at_start.facts (first-exact port n (pred (length m.variables))) };
            stack = tt;
            slots = tt;
            differ = tt;
          } in
          (l.0, record { position = refl; labelled = l.1; holds = arrived code label_at_start l.0 [] b l.2 holds; copied = λ t h. absurd (subst (IsIn t) (l.2).stack h); rest = (refl, λ item h. absurd h) }, l.2)

  pub begins-there : (name : Name → Name) (number' number port : ℕ) (n : Name) → (x : CodeState Name) × (code_begin name code number' number (cell n (an_inport port) no_parts) ≡ Some x) × IsLocallySoundCode code x × IsAtRest x.frame × (x.module_number ≡ number')
  begins-there name number' number port n =
      let l = begins-at number' number port n in
      let r = next-there name 0 l.0 (first_state number' number port n) l.1 in
      (r.0, r.1, r.2.0, r.2.1, r.2.2)
