-- Rounds over the processes that are kept are the rounds of one worker.
use Rattle.std.proofs.Common.{◌≡◌, ℕ, zero, suc, ◌+◌, ◌<◌, ◌≤◌, List, [], ◌∷◌, length, Bool, true, false, cond, ◌||◌, Option, Some, None, option_map, refl, sym, ap, subst, ◌∙◌, arith, true≢false}
use Rattle.herm_model.specs.Values.{Name}
use Rattle.herm_model.proofs.Options.{some-injective, none-not_some, map-some}
use Rattle.herm_journal.proofs.Rising.{same-true}
use Rattle.herm_system.specs.Machines.{Machine, is_local, is_acting}
use Rattle.herm_system.specs.Rounds.{Round, rounds, one_round, turns, turn, after_turn, first_place, place_or_book}
use Rattle.herm_system.specs.Systems.{System, Moved, Event, steps, acts, step, Run, run_on, with_entry, stands, can_step, IsFinal}
use Rattle.herm_runs.proofs.RoundsEnd.{elim-some}
use Rattle.herm_sound.specs.SoundMachines.{KeepsSound}
use Rattle.herm_waking.specs.Numbers.{has, next_from}
use Rattle.herm_waking.specs.Waking.{able, kept_behind}
use Rattle.herm_waking.specs.KeptRounds.{Worked, made_turn, stepped, kept_turns, is_some_kept, kept_rounds}
use Rattle.herm_waking.specs.laws.RoundLaws.{IsWorked, KeptRoundsAreRounds, KeptRoundsEnd, NothingKeptIsFinal}
use Rattle.herm_waking.proofs.KeptReady.{can_step-there, has-able, rising-able}
use Rattle.herm_waking.proofs.RisingNumbers.{next-passed, next-own, next-none}
use Rattle.herm_waking.proofs.WorkedOn.{worked-behind, step-limits}

-- a process has a turn exactly where it can step
pub no-turn : {P : Type 0} (machine : Machine Name P) (s : System P) (p : ℕ) → can_step machine s p ≡ false → turn machine s p ≡ None
no-turn machine s p e = by (stands is_local machine s p) (stands is_acting machine s p) e
  where
    by : (a b : Bool) → (a || b) ≡ false → cond a (Some (steps p)) (cond b (Some (acts p (place_or_book (first_place machine s p)))) None) ≡ None
    by true b e = absurd (true≢false e)
    by false true e = absurd (true≢false e)
    by false false e = refl

pub some-turn : {P : Type 0} (machine : Machine Name P) (s : System P) (p : ℕ) → can_step machine s p ≡ true → (e : Event) × (turn machine s p ≡ Some e)
some-turn machine s p e = by (stands is_local machine s p) (stands is_acting machine s p) e
  where
    by : (a b : Bool) → (a || b) ≡ true → (e : Event) × (cond a (Some (steps p)) (cond b (Some (acts p (place_or_book (first_place machine s p)))) None) ≡ Some e)
    by true b e = (steps p, refl)
    by false true e = (acts p (place_or_book (first_place machine s p)), refl)
    by false false e = absurd (true≢false (sym e))

-- a turn that was made stays noted
after-moved : {P : Type 0} (machine : Machine Name P) (o : Option Event) (r t : Round P) → after_turn machine o r ≡ Some t → r.moved ≡ true → t.moved ≡ true
after-moved machine None r t e m = sym (ap (λ (x : Round _). x.moved) (some-injective e)) ∙ m
after-moved machine (Some x) r t e m = let k = map-some _ (run_on machine x r.run) t e in sym (ap (λ (x : Round _). x.moved) k.2)

still-moved : {P : Type 0} (n : ℕ) (machine : Machine Name P) (p : ℕ) (r t : Round P) → turns n machine p r ≡ Some t → r.moved ≡ true → t.moved ≡ true
still-moved zero machine p r t e m = sym (ap (λ (x : Round _). x.moved) (some-injective e)) ∙ m
still-moved (suc n) machine p r t e m =
    let k = elim-some (after_turn machine (turn machine r.run.system p) r) (turns n machine (suc p)) t e in
    still-moved n machine (suc p) k.0 t k.2 (after-moved machine (turn machine r.run.system p) r k.0 k.1 m)

-- where some process can step one is made to
some-moved : {P : Type 0} (n : ℕ) (machine : Machine Name P) (p i : ℕ) (r t : Round P) → turns n machine p r ≡ Some t → i < n → can_step machine r.run.system (p + i) ≡ true → t.moved ≡ true
some-moved zero machine p i r t e lt able = absurd (omega (arith, lt))
some-moved {P} (suc n) machine p i r t e lt able =
    let k = elim-some (after_turn machine (turn machine r.run.system p) r) (turns n machine (suc p)) t e in
    by (turn machine r.run.system p) refl k.0 k.1 k.2 i lt able (λ u j next lt able. some-moved n machine (suc p) j u t next lt able)
  where
    by : (o : Option Event) → turn machine r.run.system p ≡ o → (u : Round P) → after_turn machine (turn machine r.run.system p) r ≡ Some u → turns n machine (suc p) u ≡ Some t → (i : ℕ) → i < suc n → can_step machine r.run.system (p + i) ≡ true
        → ((u : Round P) (j : ℕ) → turns n machine (suc p) u ≡ Some t → j < n → can_step machine u.run.system (suc p + j) ≡ true → t.moved ≡ true) → t.moved ≡ true
    by (Some x) is u first rest i lt able again =
        let k = map-some _ (run_on machine x r.run) u (ap (λ o. after_turn machine o r) (sym is) ∙ first) in
        still-moved n machine (suc p) u t rest (sym (ap (λ (x : Round _). x.moved) k.2))
    by None is u first rest zero lt able again =
        let same : p + zero ≡ p = omega arith in
        let made = some-turn machine r.run.system p (sym (ap (can_step machine r.run.system) same) ∙ able) in
        none-not_some (sym is ∙ made.1)
    by None is u first rest (suc j) lt able again =
        let same : r ≡ u = some-injective (ap (λ o. after_turn machine o r) (sym is) ∙ first) in
        let next : p + suc j ≡ suc p + j = omega arith in
        again u j rest (omega (arith, lt)) (ap (λ (x : Round _). can_step machine x.run.system (suc p + j)) (sym same) ∙ ap (can_step machine r.run.system) (sym next) ∙ able)

-- where none can step nothing is made
idle-turns : {P : Type 0} (n : ℕ) (machine : Machine Name P) (p : ℕ) (r : Round P) → ((q : ℕ) → can_step machine r.run.system q ≡ false) → turns n machine p r ≡ Some r
idle-turns zero machine p r none = refl
idle-turns (suc n) machine p r none =
    ap (λ o. elim (after_turn machine o r) [ None ↦ None | Some next ↦ turns n machine (suc p) next ]) (no-turn machine r.run.system p (none p))
    ∙ idle-turns n machine (suc p) r none

pub nothing-kept : {P : Type 0} (machine : Machine Name P) → NothingKeptIsFinal machine
nothing-kept machine s k kept none p = sym (has-able machine s p) ∙ sym (ap (has p) kept.ready) ∙ ap (has p) none

abbrev left_run : {P : Type 0} → Option (Worked P) → Option (Run P)
left_run o = option_map (λ (w : Worked _). w.run) o

abbrev round_run : {P : Type 0} → Option (Round P) → Option (Run P)
round_run o = option_map (λ (r : Round _). r.run) o

module _ {P : Type 0} (machine : Machine Name P) (Is : P → Type 0) (keeps : KeepsSound machine Is) where
  abbrev IsGood : Worked P → Type 0
  IsGood w = IsWorked machine Is keeps.beside w

  abbrev behind : Worked P → Event → Moved P → Worked P
  behind w e m = record { run = record { system = m.system; journal = with_entry w.run.journal e m.done }; kept = kept_behind machine m.system e m.done w.kept }

  pub kept-can : (w : Worked P) → IsGood w → (q : ℕ) → has q w.kept.ready ≡ can_step machine w.run.system q
  kept-can w good q = ap (has q) good.kept.ready ∙ has-able machine w.run.system q

  -- the turns from one number on to the limit
  turns-kept : (limit n p f : ℕ) (w : Worked P) (moved : Bool) → n ≤ f → p + n ≡ suc limit → w.run.system.book.limits.processes ≡ limit → IsGood w
      → left_run (kept_turns f machine p w) ≡ round_run (turns n machine p (record { run = w.run; moved = moved }))
  turns-kept limit zero p f w moved enough at limits good = by f (next-none p w.kept.ready (λ q e.
      let there = can_step-there machine w.run.system q (sym (kept-can w good q) ∙ e) in omega (arith, there.1, good.within, limits, at)))
    where
      by : (f : ℕ) → next_from p w.kept.ready ≡ None → left_run (kept_turns f machine p w) ≡ Some w.run
      by zero none = refl
      by (suc f) none = ap (λ o. left_run (elim o [ None ↦ Some w | Some q ↦ elim (stepped machine q w) [ None ↦ None | Some next ↦ kept_turns f machine (suc q) next ] ])) none
  turns-kept limit (suc n) p zero w moved enough at limits good = absurd (omega (arith, enough))
  turns-kept limit (suc n) p (suc f) w moved enough at limits good =
      by (can_step machine w.run.system p) refl
      (turns-kept limit n (suc p) (suc f) w moved (omega (arith, enough)) (omega (arith, at)) limits good)
      (λ t more good. turns-kept limit n (suc p) f t true (omega (arith, enough)) (omega (arith, at)) more good)
    where
      r : Round P
      r = record { run = w.run; moved = moved }

      made : (e : Event) (o : Option (Moved P)) → step machine e w.run.system ≡ o → ((t : Worked P) → t.run.system.book.limits.processes ≡ limit → IsGood t → left_run (kept_turns f machine (suc p) t) ≡ round_run (turns n machine (suc p) (record { run = t.run; moved = true })))
          → left_run (elim (made_turn machine (Some e) w) [ None ↦ None | Some next ↦ kept_turns f machine (suc p) next ]) ≡ round_run (elim (after_turn machine (Some e) r) [ None ↦ None | Some next ↦ turns n machine (suc p) next ])
      made e None does again =
          ap (λ o. left_run (elim (option_map (behind w e) o) [ None ↦ None | Some next ↦ kept_turns f machine (suc p) next ])) does
          ∙ sym (ap (λ o. round_run (elim (option_map (λ next. record { run = next; moved = true }) (option_map (λ (m : Moved P). record { system = m.system; journal = with_entry w.run.journal e m.done }) o)) [ None ↦ None | Some next ↦ turns n machine (suc p) next ])) does)
      made e (Some m) does again =
          ap (λ o. left_run (elim (option_map (behind w e) o) [ None ↦ None | Some next ↦ kept_turns f machine (suc p) next ])) does
          ∙ again (behind w e m) (ap (λ (l : Rattle.herm_journal.specs.NextNumbers.Limits). l.processes) (step-limits machine Is keeps e w.run.system m good.sound.0 (good.sound.1.sound) does) ∙ limits) (worked-behind machine Is keeps e w m good does)
          ∙ sym (ap (λ o. round_run (elim (option_map (λ next. record { run = next; moved = true }) (option_map (λ (m : Moved P). record { system = m.system; journal = with_entry w.run.journal e m.done }) o)) [ None ↦ None | Some next ↦ turns n machine (suc p) next ])) does)

      by : (b : Bool) → can_step machine w.run.system p ≡ b → left_run (kept_turns (suc f) machine (suc p) w) ≡ round_run (turns n machine (suc p) r)
          → ((t : Worked P) → t.run.system.book.limits.processes ≡ limit → IsGood t → left_run (kept_turns f machine (suc p) t) ≡ round_run (turns n machine (suc p) (record { run = t.run; moved = true })))
          → left_run (kept_turns (suc f) machine p w) ≡ round_run (turns (suc n) machine p r)
      by false e next again =
          ap (λ o. left_run (elim o [ None ↦ Some w | Some q ↦ elim (stepped machine q w) [ None ↦ None | Some next ↦ kept_turns f machine (suc q) next ] ])) (next-passed p w.kept.ready (kept-can w good p ∙ e))
          ∙ next
          ∙ sym (ap (λ o. round_run (elim (after_turn machine o r) [ None ↦ None | Some next ↦ turns n machine (suc p) next ])) (no-turn machine w.run.system p e))
      by true e next again =
          let x = some-turn machine w.run.system p e in
          ap (λ o. left_run (elim o [ None ↦ Some w | Some q ↦ elim (stepped machine q w) [ None ↦ None | Some next ↦ kept_turns f machine (suc q) next ] ])) (next-own p w.kept.ready (subst Rattle.herm_waking.specs.Numbers.AreRising (sym good.kept.ready) (rising-able machine w.run.system)) (kept-can w good p ∙ e))
          ∙ ap (λ o. left_run (elim (made_turn machine o w) [ None ↦ None | Some next ↦ kept_turns f machine (suc p) next ])) x.1
          ∙ made x.0 (step machine x.0 w.run.system) refl again
          ∙ sym (ap (λ o. round_run (elim (after_turn machine o r) [ None ↦ None | Some next ↦ turns n machine (suc p) next ])) x.1)

  -- what the turns lead to is good
  pub stepped-good : (p : ℕ) (w t : Worked P) → IsGood w → stepped machine p w ≡ Some t → IsGood t
  stepped-good p w t good e = by (turn machine w.run.system p) e
    where
      by : (o : Option Event) → made_turn machine o w ≡ Some t → IsGood t
      by None e = subst IsGood (some-injective e) good
      by (Some x) e = let m = map-some (behind w x) (step machine x w.run.system) t e in subst IsGood m.2 (worked-behind machine Is keeps x w m.0 good m.1)

  pub turns-good : (f p : ℕ) (w t : Worked P) → IsGood w → kept_turns f machine p w ≡ Some t → IsGood t
  turns-good zero p w t good e = subst IsGood (some-injective e) good
  turns-good (suc f) p w t good e = by (next_from p w.kept.ready) e (λ q u good e. turns-good f (suc q) u t good e)
    where
      by : (o : Option ℕ) → elim o [ None ↦ Some w | Some q ↦ elim (stepped machine q w) [ None ↦ None | Some next ↦ kept_turns f machine (suc q) next ] ] ≡ Some t
          → ((q : ℕ) (u : Worked P) → IsGood u → kept_turns f machine (suc q) u ≡ Some t → IsGood t) → IsGood t
      by None e again = subst IsGood (some-injective e) good
      by (Some q) e again = let u = elim-some (stepped machine q w) (kept_turns f machine (suc q)) t e in again q u.0 (stepped-good q w u.0 good u.1) u.2

  none-can : (w : Worked P) → IsGood w → is_some_kept w.kept.ready ≡ false → (q : ℕ) → can_step machine w.run.system q ≡ false
  none-can w good none q = nothing-kept machine w.run.system w.kept good.kept (by w.kept.ready none) q
    where
      by : (ps : List ℕ) → is_some_kept ps ≡ false → ps ≡ []
      by [] e = refl
      by (p ∷ ps) e = absurd (true≢false e)

  pub one-can : (w : Worked P) → IsGood w → is_some_kept w.kept.ready ≡ true → (q : ℕ) × (can_step machine w.run.system q ≡ true)
  one-can w good some = by w.kept.ready refl some
    where
      by : (ps : List ℕ) → w.kept.ready ≡ ps → is_some_kept ps ≡ true → (q : ℕ) × (can_step machine w.run.system q ≡ true)
      by [] is e = absurd (true≢false (sym e))
      by (q ∷ ps) is e = (q, sym (kept-can w good q) ∙ ap (has q) is ∙ ap (λ b. b || has q ps) (same-true q))

  pub kept-rounds : KeptRoundsAreRounds machine Is keeps.beside
  kept-rounds zero w good = refl
  kept-rounds (suc n) w good = by (is_some_kept w.kept.ready) refl (λ t good. kept-rounds n t good)
    where
      limit : ℕ
      limit = w.run.system.book.limits.processes

      r : Round P
      r = record { run = w.run; moved = false }

      walked : left_run (kept_turns limit machine 1 w) ≡ round_run (one_round machine w.run)
      walked = turns-kept limit limit 1 limit w false (omega arith) (omega arith) refl good

      goes : (a : Option (Worked P)) (b : Option (Round P)) → left_run a ≡ round_run b → ((t : Worked P) → a ≡ Some t → IsGood t) → ((t : Round P) → b ≡ Some t → t.moved ≡ true) → ((t : Worked P) → IsGood t → left_run (kept_rounds n machine t) ≡ rounds n machine t.run)
          → left_run (elim a [ None ↦ None | Some next ↦ kept_rounds n machine next ]) ≡ elim b [ None ↦ None | Some round ↦ elim (round.moved) [ false ↦ Some round.run | true ↦ rounds n machine round.run ] ]
      goes None None e goods moved again = refl
      goes None (Some t) e goods moved again = none-not_some e
      goes (Some t) None e goods moved again = none-not_some (sym e)
      goes (Some t) (Some u) e goods moved again =
          again t (goods t refl) ∙ ap (rounds n machine) (some-injective e) ∙ sym (ap (λ b. elim b [ false ↦ Some u.run | true ↦ rounds n machine u.run ]) (moved u refl))

      by : (b : Bool) → is_some_kept w.kept.ready ≡ b → ((t : Worked P) → IsGood t → left_run (kept_rounds n machine t) ≡ rounds n machine t.run) → left_run (kept_rounds (suc n) machine w) ≡ rounds (suc n) machine w.run
      by false e again =
          ap (λ b. left_run (elim b [ false ↦ Some w | true ↦ elim (kept_turns limit machine 1 w) [ None ↦ None | Some next ↦ kept_rounds n machine next ] ])) e
          ∙ sym (ap (λ o. elim o [ None ↦ None | Some round ↦ elim (round.moved) [ false ↦ Some round.run | true ↦ rounds n machine round.run ] ]) (idle-turns limit machine 1 r (none-can w good e)))
      by true e again =
          let q = one-can w good e in
          let there = can_step-there machine w.run.system q.0 q.1 in
          ap (λ b. left_run (elim b [ false ↦ Some w | true ↦ elim (kept_turns limit machine 1 w) [ None ↦ None | Some next ↦ kept_rounds n machine next ] ])) e
          ∙ goes (kept_turns limit machine 1 w) (one_round machine w.run) walked (λ t e. turns-good limit 1 w t good e)
          (λ t e. moved-by q.0 there.0 there.1 q.1 t e)
          again
        where
          moved-by : (q : ℕ) → 1 ≤ q → q ≤ length w.run.system.processes → can_step machine w.run.system q ≡ true → (t : Round P) → one_round machine w.run ≡ Some t → t.moved ≡ true
          moved-by zero one le able t e = absurd (omega (arith, one))
          moved-by (suc i) one le can t e = let next : 1 + i ≡ suc i = omega arith in some-moved limit machine 1 i r t e (omega (arith, le, good.within)) (ap (can_step machine w.run.system) next ∙ can)

  pub kept-rounds-end : KeptRoundsEnd machine Is keeps.beside
  kept-rounds-end zero w t good e = none-not_some e
  kept-rounds-end (suc n) w t good e = by (is_some_kept w.kept.ready) refl e (λ u good e. kept-rounds-end n u t good e)
    where
      by : (b : Bool) → is_some_kept w.kept.ready ≡ b → elim b [ false ↦ Some w | true ↦ elim (kept_turns w.run.system.book.limits.processes machine 1 w) [ None ↦ None | Some next ↦ kept_rounds n machine next ] ] ≡ Some t
          → ((u : Worked P) → IsGood u → kept_rounds n machine u ≡ Some t → IsGood t × (t.kept.ready ≡ []) × IsFinal machine t.run.system) → IsGood t × (t.kept.ready ≡ []) × IsFinal machine t.run.system
      by false none e again = subst (λ t. IsGood t × (t.kept.ready ≡ []) × IsFinal machine t.run.system) (some-injective e) (good, empty w.kept.ready none, none-can w good none)
        where
          empty : (ps : List ℕ) → is_some_kept ps ≡ false → ps ≡ []
          empty [] e = refl
          empty (p ∷ ps) e = absurd (true≢false e)
      by true some e again = let u = elim-some (kept_turns w.run.system.book.limits.processes machine 1 w) (kept_rounds n machine) t e in again u.0 (turns-good w.run.system.book.limits.processes 1 w u.0 good u.1) u.2
