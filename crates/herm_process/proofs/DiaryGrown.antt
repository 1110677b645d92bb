-- A process stays at its diary behind each entry, also behind one that is put aside.
use Rattle.std.proofs.Common.{◌≡◌, ◌⊎◌, inl, inr, ℕ, ◌<◌, List, [], ◌∷◌, ◌++◌, refl, ap, ◌∙◌, arith}
use Rattle.std.specs.Prelude.{IsFalse, ⊤}
use Rattle.herm_model.specs.Lists.{IsIn}
use Rattle.herm_model.proofs.Lists.{in-append_cases}
use Rattle.herm_journal.specs.Entries.{Entry}
use Rattle.herm_system.specs.DiaryStates.{IsAfter, after_steps, after_entry}
use Rattle.herm_system.specs.Machines.{Machine}
use Rattle.herm_system.specs.PutAside.{IsBehind}
use Rattle.herm_system.specs.Suiting.{has_local_step}
use Rattle.herm_events.specs.Rising.{IsAboveLast}
use Rattle.herm_waking.specs.DiaryKept.{AreLater, clock_behind, IsAtDiary}

pub later-more : (s : ℕ) (es : List Entry) (e : Entry) → AreLater s es → clock_behind s es < e.stamp → AreLater s (es ++ e ∷ [])
later-more s [] e h lt = (lt, tt)
later-more s (x ∷ es) e h lt = (h.0, later-more x.stamp es e h.1 lt)

pub clock-more : (s : ℕ) (es : List Entry) (e : Entry) → clock_behind s (es ++ e ∷ []) ≡ e.stamp
clock-more s [] e = refl
clock-more s (x ∷ es) e = clock-more x.stamp es e

module _ {P : Type 0} (machine : Machine ⊤ P) (limit : ℕ) where
  after-more : (n : ℕ) (s t u : P) (es : List Entry) (e : Entry) → IsAfter machine limit s es n t → IsFalse (has_local_step machine limit t) → IsBehind machine t e u → IsAfter machine limit s (es ++ e ∷ []) 0 u
  after-more n s t u es e (after_steps s' t' n' d) still is = after_entry s t u u e [] n 0 d still is (after_steps u u 0 refl)
  after-more n s t u es e (after_entry s' v w t' x xs k n' d stop first rest) still is = after_entry s v w u x (xs ++ e ∷ []) k 0 d stop first (after-more n w t u xs e rest still is)

  pub grown : (number birth clock : ℕ) (first x y : P) (diary : List Entry) (e : Entry) → IsAtDiary machine limit number birth first x diary clock
      → IsFalse (has_local_step machine limit x) → e.process ≡ number → clock < e.stamp → IsBehind machine x e y → IsAtDiary machine limit number birth first y (diary ++ e ∷ []) e.stamp
  grown number birth clock first x y diary e at still own late is = record {
    local_steps = 0;
    comes = after-more at.local_steps first x y diary e at.comes still is;
    own = λ f h. by f (in-append_cases f diary (e ∷ []) h);
    later = later-more birth diary e at.later (omega (arith, at.at_clock, late));
    at_clock = clock-more birth diary e;
  }
    where
      by : (f : Entry) → IsIn f diary ⊎ IsIn f (e ∷ []) → f.process ≡ number
      by f (inl h) = at.own f h
      by f (inr (inl same)) = ap (λ (e : Entry). e.process) same ∙ own
      by f (inr (inr h)) = absurd h

-- a stamp above the clock is above the last one
pub above-last : (birth s : ℕ) (es : List Entry) → AreLater birth es → clock_behind birth es < s → IsAboveLast s es
above-last birth s [] h lt = tt
above-last birth s (e ∷ []) h lt = lt
above-last birth s (e ∷ f ∷ es) h lt = above-last e.stamp s (f ∷ es) h.1 lt
