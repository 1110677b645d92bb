-- A process with its diary, and what is claimed of it along its events.
use Rattle.std.specs.Prelude.{ℕ, suc, List, [], ◌∷◌, ◌++◌, Some, ◌≡◌, ◌<◌, ⊤, IsTrue, IsFalse}
use Rattle.herm_model.specs.Lists.{IsIn}
use Rattle.herm_journal.specs.Entries.{Entry}
use Rattle.herm_journal.specs.Messages.{CellAction}
use Rattle.herm_system.specs.DiaryStates.{IsAfter}
use Rattle.herm_system.specs.Machines.{Machine}
use Rattle.herm_system.specs.PutAside.{IsToldBy}
use Rattle.herm_system.specs.Suiting.{has_local_step}
use Rattle.herm_system.specs.Systems.{number_of}

-- Each stamp is above the one before, the first above that of the birth.
abbrev pub AreLater : ℕ → List Entry → Type 0
AreLater stamp [] = ⊤
AreLater stamp (e ∷ es) = (stamp < e.stamp) × AreLater e.stamp es

-- the clock behind these entries: the last stamp, or that of the birth
abbrev pub clock_behind : ℕ → List Entry → ℕ
clock_behind stamp [] = stamp
clock_behind stamp (e ∷ es) = clock_behind e.stamp es

-- The process of this number, born at this stamp in a first state, is in the state behind its diary, with so many local steps since its
-- last entry. The entries are its own and later than its birth, and its clock is that behind them. Language reference, "Diaries".
pub record IsAtDiary {P : Type 0} (machine : Machine ⊤ P) (limit number birth : ℕ) (first now : P) (diary : List Entry) (clock : ℕ) : Type 0 where
  pub local_steps : ℕ
  pub comes : IsAfter machine limit first diary local_steps now
  pub own : (e : Entry) → IsIn e diary → e.process ≡ number
  pub later : AreLater birth diary
  pub at_clock : clock_behind birth diary ≡ clock

module _ {P : Type 0} (machine : Machine ⊤ P) where
  -- It begins with an empty diary, its clock at the stamp of its birth.
  abbrev pub BeginsAtDiary : Type 0
  BeginsAtDiary = (limit number birth : ℕ) (first : P) → IsAtDiary machine limit number birth first first [] birth

  -- A local step leaves the diary and the clock.
  abbrev pub LocalStepsKeepDiary : Type 0
  LocalStepsKeepDiary = (limit number birth clock : ℕ) (first x y : P) (diary : List Entry) → IsAtDiary machine limit number birth first x diary clock
      → IsTrue (has_local_step machine limit x) → machine.local_step x ≡ Some y → IsAtDiary machine limit number birth first y diary clock

  -- An action, where no local step is next, is one entry more, of the process, with a stamp above its clock, which is its clock then; it
  -- tells of the action.
  abbrev pub ActionsKeepDiary : Type 0
  ActionsKeepDiary = (limit number birth clock : ℕ) (first x y : P) (diary : List Entry) (e : Entry) (a : CellAction ⊤) → IsAtDiary machine limit number birth first x diary clock
      → IsFalse (has_local_step machine limit x) → e.process ≡ number → clock < e.stamp → IsToldBy machine x e a → machine.answered x (number_of e.place) a ≡ Some y
      → IsAtDiary machine limit number birth first y (diary ++ e ∷ []) e.stamp

  -- So each stamp of the diary is above that of the birth, and none above the clock.
  abbrev pub DiaryStampsAreBetween : Type 0
  DiaryStampsAreBetween = (limit number birth clock : ℕ) (first now : P) (diary : List Entry) → IsAtDiary machine limit number birth first now diary clock
      → (e : Entry) → IsIn e diary → (birth < e.stamp) × (e.stamp < suc clock)
