-- A process stays at its diary along its events.
use Rattle.std.proofs.Common.{◌≡◌, ◌⊎◌, inl, inr, ℕ, zero, suc, ◌<◌, ◌≤◌, List, [], ◌∷◌, ◌++◌, true, cond, Some, None, option_and_then, refl, ap, ◌∙◌, arith}
use Rattle.std.specs.Prelude.{IsFalse, ⊤}
use Rattle.herm_model.specs.Lists.{IsIn}
use Rattle.herm_model.proofs.Options.{some-injective, chain-some}
use Rattle.herm_model.proofs.Lists.{in-append_cases}
use Rattle.herm_journal.specs.Entries.{Entry}
use Rattle.herm_system.specs.DiaryStates.{IsAfter, after_steps, after_entry}
use Rattle.herm_system.specs.Machines.{Machine}
use Rattle.herm_system.specs.PutAside.{IsBehind, told}
use Rattle.herm_system.specs.Suiting.{has_local_step, local_steps}
use Rattle.herm_runs.proofs.ActionParts.{cond-both}
use Rattle.herm_waking.specs.DiaryKept.{AreLater, clock_behind, BeginsAtDiary, LocalStepsKeepDiary, ActionsKeepDiary, DiaryStampsAreBetween}

later-more : (s : ℕ) (es : List Entry) (e : Entry) → AreLater s es → clock_behind s es < e.stamp → AreLater s (es ++ e ∷ [])
later-more s [] e h lt = (lt, tt)
later-more s (x ∷ es) e h lt = (h.0, later-more x.stamp es e h.1 lt)

clock-more : (s : ℕ) (es : List Entry) (e : Entry) → clock_behind s (es ++ e ∷ []) ≡ e.stamp
clock-more s [] e = refl
clock-more s (x ∷ es) e = clock-more x.stamp es e

clock-after : (s : ℕ) (es : List Entry) → AreLater s es → s ≤ clock_behind s es
clock-after s [] h = omega arith
clock-after s (x ∷ es) h = omega (arith, h.0, clock-after x.stamp es h.1)

between : (s : ℕ) (es : List Entry) → AreLater s es → (e : Entry) → IsIn e es → (s < e.stamp) × (e.stamp < suc (clock_behind s es))
between s [] h e i = absurd i
between s (x ∷ es) h e (inl same) =
    let stamp = ap (λ (e : Entry). e.stamp) same in (omega (arith, stamp, h.0), omega (arith, stamp, clock-after x.stamp es h.1))
between s (x ∷ es) h e (inr i) = let b = between x.stamp es h.1 e i in (omega (arith, h.0, b.0), b.1)

module _ {P : Type 0} (machine : Machine ⊤ P) (limit : ℕ) where
  -- one local step more
  more-steps : (n : ℕ) (s t u : P) → local_steps machine limit n s ≡ Some t → has_local_step machine limit t ≡ true → machine.local_step t ≡ Some u → local_steps machine limit (suc n) s ≡ Some u
  more-steps zero s t u e has next =
      ap (λ b. cond b (option_and_then (local_steps machine limit zero) (machine.local_step s)) None) (ap (has_local_step machine limit) (some-injective e) ∙ has)
      ∙ ap (option_and_then (local_steps machine limit zero)) (ap machine.local_step (some-injective e) ∙ next)
  more-steps (suc n) s t u e has next =
      let k = cond-both (has_local_step machine limit s) _ t e in
      let m = chain-some (local_steps machine limit n) (machine.local_step s) t k.1 in
      ap (λ b. cond b (option_and_then (local_steps machine limit (suc n)) (machine.local_step s)) None) k.0
      ∙ ap (option_and_then (local_steps machine limit (suc n))) m.1 ∙ more-steps n m.0 t u m.2 has next

  after-step : (n : ℕ) (s t u : P) (es : List Entry) → IsAfter machine limit s es n t → has_local_step machine limit t ≡ true → machine.local_step t ≡ Some u → IsAfter machine limit s es (suc n) u
  after-step n s t u es (after_steps s' t' n' e) has next = after_steps s u (suc n) (more-steps n s t u e has next)
  after-step n s t u es (after_entry s' v w t' x xs k n' e still is rest) has next = after_entry s v w u x xs k (suc n) e still is (after-step n w t u xs rest has next)

  after-more : (n : ℕ) (s t u : P) (es : List Entry) (e : Entry) → IsAfter machine limit s es n t → IsFalse (has_local_step machine limit t) → IsBehind machine t e u → IsAfter machine limit s (es ++ e ∷ []) 0 u
  after-more n s t u es e (after_steps s' t' n' d) still is = after_entry s t u u e [] n 0 d still is (after_steps u u 0 refl)
  after-more n s t u es e (after_entry s' v w t' x xs k n' d stop first rest) still is = after_entry s v w u x (xs ++ e ∷ []) k 0 d stop first (after-more n w t u xs e rest still is)

module _ {P : Type 0} (machine : Machine ⊤ P) where
  pub begins-at : BeginsAtDiary machine
  begins-at limit number birth first = record { local_steps = 0; comes = after_steps first first 0 refl; own = λ e h. absurd h; later = tt; at_clock = refl }

  pub steps-keep : LocalStepsKeepDiary machine
  steps-keep limit number birth clock first x y diary at has next = record {
    local_steps = suc at.local_steps;
    comes = after-step machine limit at.local_steps first x y diary at.comes has next;
    own = at.own;
    later = at.later;
    at_clock = at.at_clock;
  }

  pub actions-keep : ActionsKeepDiary machine
  actions-keep limit number birth clock first x y diary e a at still own late tells leaves = record {
    local_steps = 0;
    comes = after-more machine limit at.local_steps first x y diary e at.comes still (told a y tells leaves);
    own = λ f h. by f (in-append_cases f diary (e ∷ []) h);
    later = later-more birth diary e at.later (omega (arith, at.at_clock, late));
    at_clock = clock-more birth diary e;
  }
    where
      by : (f : Entry) → IsIn f diary ⊎ IsIn f (e ∷ []) → f.process ≡ number
      by f (inl h) = at.own f h
      by f (inr (inl same)) = ap (λ (e : Entry). e.process) same ∙ own
      by f (inr (inr h)) = absurd h

  pub stamps-between : DiaryStampsAreBetween machine
  stamps-between limit number birth clock first now diary at e h =
      let b = between birth diary at.later e h in (b.0, omega (arith, b.1, at.at_clock))
