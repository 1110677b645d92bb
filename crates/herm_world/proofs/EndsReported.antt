-- What is reported of each process is what became of it in the system that a world holds.
use Rattle.std.proofs.Common.{◌≡◌, ℕ, suc, ◌+◌, List, [], ◌∷◌, map, Bool, false, ◌||◌, Some, refl, sym, ap, ap₂, ◌∙◌, arith}
use Rattle.std.specs.Prelude.{slice_get, ⊤}
use Rattle.std.specs.List.{All}
use Rattle.std.proofs.lemmas.List.Elements.{All-nil, All-cons}
use Rattle.herm_model.specs.Lists.{numbered}
use Rattle.herm_instructions.specs.Images.{Image}
use Rattle.herm_system.specs.Machines.{is_local, is_acting}
use Rattle.herm_system.specs.Systems.{numbered_from_one, standing}
use Rattle.herm_code_machine.specs.CodeStates.{CodeState}
use Rattle.herm_code_worlds.specs.CodeWorlds.{nameless}
use Rattle.herm_waking.specs.Unnamed.{Unnamed, bare_can, bare_can_step, ports_of_want}
use Rattle.herm_waking.specs.UnnamedReport.{bare_fate_as, bare_fate_of}
use Rattle.herm_process.specs.Processes.{ProcessState, IsProcess}
use Rattle.herm_report.specs.View.{proc_end_view}
use Rattle.herm_report.specs.declared.report.ProcEnd.{ProcEnd}
use Rattle.herm_world.specs.Looks.{can_so}
use Rattle.herm_world.specs.Reported.{IsAtRest, IsEndOf}
use Rattle.herm_world.specs.Worlds.{AreAlike}
use Rattle.herm_world.proofs.Stepped.{tested}

module _ (image : Image) (main : ℕ) (v : Unnamed (CodeState ⊤)) where
  -- none of these, from this number on, can step
  abbrev pub CannotStep : ℕ → List (CodeState ⊤) → Type 0
  CannotStep n [] = ⊤
  CannotStep n (x ∷ xs) = (can_so (standing (nameless image main) v.book.limits.steps (bare_can v n) x) ≡ false) × CannotStep (suc n) xs

  -- each is under the limit of steps
  abbrev pub HaveLimit : List ProcessState → Type 0
  HaveLimit [] = ⊤
  HaveLimit (p ∷ ps) = (p.limit ≡ v.book.limits.steps) × HaveLimit ps

  cannot-from : (n : ℕ) (xs : List (CodeState ⊤)) → ((i : ℕ) (x : CodeState ⊤) → slice_get xs i ≡ Some x → can_so (standing (nameless image main) v.book.limits.steps (bare_can v (n + i)) x) ≡ false) → CannotStep n xs
  cannot-from n [] h = tt
  cannot-from n (x ∷ xs) h = (
    ap (λ k. can_so (standing (nameless image main) v.book.limits.steps (bare_can v k) x)) (let e : n ≡ n + 0 = omega arith in e) ∙ h 0 x refl,
    cannot-from (suc n) xs (λ i y e. ap (λ k. can_so (standing (nameless image main) v.book.limits.steps (bare_can v k) y)) (let e : suc n + i ≡ n + suc i = omega arith in e) ∙ h (suc i) y e),
  )

  cannot-one : ((p : ℕ) → bare_can_step (nameless image main) v p ≡ false) → (i : ℕ) (x : CodeState ⊤) → slice_get v.processes i ≡ Some x → can_so (standing (nameless image main) v.book.limits.steps (bare_can v (suc i)) x) ≡ false
  cannot-one h i x e =
      let s = standing (nameless image main) v.book.limits.steps (bare_can v (suc i)) x in
      sym (ap₂ (λ a b. a || b) (tested (nameless image main) (suc i) v x e is_local s refl) (tested (nameless image main) (suc i) v x e is_acting s refl)) ∙ h (suc i)

  pub none-can : ((p : ℕ) → bare_can_step (nameless image main) v p ≡ false) → CannotStep 1 v.processes
  none-can h =
      cannot-from 1 v.processes
      (λ i x e. ap (λ k. can_so (standing (nameless image main) v.book.limits.steps (bare_can v k) x)) (let same : 1 + i ≡ suc i = omega arith in same) ∙ cannot-one h i x e)

  limits-from : (ps : List ProcessState) → ((i : ℕ) (p : ProcessState) → slice_get ps i ≡ Some p → p.limit ≡ v.book.limits.steps) → HaveLimit ps
  limits-from [] h = tt
  limits-from (p ∷ ps) h = (h 0 p refl, limits-from ps (λ i q e. h (suc i) q e))

  pub have-limit : (ps : List ProcessState) → ((q : ℕ) (p : ProcessState) → numbered_from_one q ps ≡ Some p → p.limit ≡ v.book.limits.steps) → HaveLimit ps
  have-limit ps h = limits-from ps (λ i p e. h (suc i) p e)

  cannot-at : (n : ℕ) (p : ProcessState) (x : CodeState ⊤) → p.limit ≡ v.book.limits.steps → can_so (standing (nameless image main) v.book.limits.steps (bare_can v n) x) ≡ false → can_so (standing (nameless image main) p.limit (bare_can v n) x) ≡ false
  cannot-at n p x same cannot = ap (λ l. can_so (standing (nameless image main) l (bare_can v n) x)) same ∙ cannot

  pub at-rest : (n : ℕ) (ps : List ProcessState) (xs : List (CodeState ⊤)) → AreAlike (IsProcess image main) ps xs → HaveLimit ps → CannotStep n xs → All IsAtRest ps
  at-rest n [] xs stand limits cannot = All-nil IsAtRest
  at-rest n (p ∷ ps) [] stand limits cannot = absurd stand
  at-rest n (p ∷ ps) (x ∷ xs) stand limits cannot =
      All-cons IsAtRest p ps (image, main, x, bare_can v n, stand.0, cannot-at n p x limits.0 cannot.0) (at-rest (suc n) ps xs stand.1 limits.1 cannot.1)

  one-end : (n : ℕ) (p : ProcessState) (x : CodeState ⊤) (e : ProcEnd) → IsProcess image main p x → IsEndOf p e → p.limit ≡ v.book.limits.steps → can_so (standing (nameless image main) v.book.limits.steps (bare_can v n) x) ≡ false
      → proc_end_view e ≡ bare_fate_of (nameless image main) v (n, x)
  one-end n p x e stands its same cannot =
      its image main x (bare_can v n) stands (cannot-at n p x same cannot)
      ∙ ap (λ l. bare_fate_as (standing (nameless image main) l (bare_can v n) x) l ((nameless image main).exception x) (ports_of_want ((nameless image main).wanted x))) same

  pub ends-are : (n : ℕ) (ps : List ProcessState) (xs : List (CodeState ⊤)) (es : List ProcEnd) → AreAlike (IsProcess image main) ps xs → AreAlike IsEndOf ps es → HaveLimit ps → CannotStep n xs
      → map proc_end_view es ≡ map (bare_fate_of (nameless image main) v) (numbered n xs)
  ends-are n [] [] [] stand ends limits cannot = refl
  ends-are n [] [] (e ∷ es) stand ends limits cannot = absurd ends
  ends-are n [] (x ∷ xs) es stand ends limits cannot = absurd stand
  ends-are n (p ∷ ps) [] es stand ends limits cannot = absurd stand
  ends-are n (p ∷ ps) (x ∷ xs) [] stand ends limits cannot = absurd ends
  ends-are n (p ∷ ps) (x ∷ xs) (e ∷ es) stand ends limits cannot =
      ap₂ (λ f fs. f ∷ fs) (one-end n p x e stand.0 ends.0 limits.0 cannot.0) (ends-are (suc n) ps xs es stand.1 ends.1 limits.1 cannot.1)
