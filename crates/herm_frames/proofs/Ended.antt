-- What an end finalises.
use Rattle.std.proofs.Common.{◌≡◌, ◌≢◌, ◌≤◌, ◌<◌, ◌-◌, ◌+◌, ℕ, zero, suc, List, [], ◌∷◌, ◌++◌, length, flat_map, Bool, true, false, not, ◌&&◌, cond, Option, Some, None, is_some, slice_get, refl, sym, ap, ap₂, subst, ◌∙◌, append-nil, filter, map, arith}
use Rattle.std.proofs.lemmas.List.{length-map}
use Rattle.std.specs.Prelude.{⊤}
use Rattle.herm_model.specs.Lists.{map_or, numbered}
use Rattle.herm_model.specs.Paths.{Path}
use Rattle.herm_model.specs.Types.{TypeTable, greatest_depth, held_parts}
use Rattle.herm_model.specs.Values.{Cell, Parts, no_parts, gap, part, part_at, set_part, cell_at, clear_at, has_value}
use Rattle.herm_model.specs.Finalising.{clear_all, excess, excess_at, excess_from, is_left}
use Rattle.herm_model.specs.Targets as targets
use Rattle.herm_model.proofs.Places.{part_at-set_other}
use Rattle.herm_forms.specs.Frames.{Frame, finalise_old, drop, drop_at, cleared}
use Rattle.herm_forms.specs.EdgeFinalising.{arrive, keeps}
use Rattle.herm_forms.specs.LeavingLoops.{leave_loops}
use Rattle.herm_forms.specs.Modules.{Module}
use Rattle.herm_base.specs.declared.numbers.TypeNo.{TypeNo}
use Rattle.herm_values.specs.Works.{item_view}
use Rattle.herm_values.specs.declared.work.WorkItem.{WorkItem}
use Rattle.herm_frames.specs.Counts.{cut}
use Rattle.herm_frames.specs.HeldFrames.{HeldFrame, HeldLoop}
use Rattle.herm_frames.specs.Leaving.{lost_pending, lost_finalised}
use Rattle.herm_frames.specs.Scopes.{numbers_of}
use Rattle.herm_frames.specs.Standing.{Stands}
use Rattle.herm_frames.proofs.LeftLoops.{left_loops}
use Rattle.herm_frames.specs.EmptyPlaces.{variables_from}
use Rattle.herm_frames.specs.Excesses.{if_here}
use Rattle.herm_frames.proofs.BeyondFull.{and-true, nothing-left}
use Rattle.herm_frames.proofs.Exceeding.{here-closed}

pub next_variable : (i n : ℕ) → i < n → variables_from i (n - i) ≡ (i ∷ []) ∷ variables_from (i + 1) (n - (i + 1))
next_variable i n less =
    ap (variables_from i) (let e : n - i ≡ suc (n - (i + 1)) = omega (arith, less) in e)
    ∙ ap (λ k. (i ∷ []) ∷ variables_from k (n - (i + 1))) (let e : suc i ≡ i + 1 = omega arith in e)

no_variable : (n : ℕ) → n - n ≡ 0
no_variable n = omega arith

-- a variable that is empty stays so
empty_part : (i : ℕ) (ps : Parts ⊤) → part_at i ps ≡ None → set_part i None ps ≡ ps
empty_part i no_parts h = refl
empty_part zero (gap ps) h = refl
empty_part zero (part c ps) h = cc
empty_part (suc i) (gap ps) h = ap gap (empty_part i ps h)
empty_part (suc i) (part c ps) h = ap (part c) (empty_part i ps h)

dropped_variables : (p : Path) (s : Frame ⊤) → (drop_at p s).variables ≡ clear_at p s.variables
dropped_variables p s = by (cell_at p s.variables)
  where
    by : (o : Option (Cell ⊤)) → (finalise_old o (cleared p s)).variables ≡ clear_at p s.variables
    by None = refl
    by (Some c) = refl

pub all_variables : (paths : List Path) (s : Frame ⊤) → (drop paths s).variables ≡ clear_all paths s.variables
all_variables [] s = refl
all_variables (p ∷ paths) s = all_variables paths (drop_at p s) ∙ ap (clear_all paths) (dropped_variables p s)

none_some : {X : Type 0} (o : Option X) → is_some o ≡ false → o ≡ None
none_some None h = refl
none_some (Some x) h = cc

nothing_dropped : (k : ℕ) (s : Frame ⊤) → is_some (part_at k s.variables) ≡ false → drop_at (k ∷ []) s ≡ s
nothing_dropped k s h =
    let none = none_some (part_at k s.variables) h in
    ap (λ o. finalise_old o (cleared (k ∷ []) s)) none ∙ ap (λ ps. record s { variables = ps }) (empty_part k s.variables none)

-- dropping what is there is dropping all
each_variable : (here : Path → Bool) (k : ℕ) (ts : List ℕ) (s : Frame ⊤) → ((i : ℕ) → k ≤ i → here (i ∷ []) ≡ is_some (part_at i s.variables))
    → drop (flat_map (λ v. if_here here (v.0 ∷ [])) (numbered k ts)) s ≡ drop (variables_from k (length ts)) s
each_variable here k [] s h = refl
each_variable here k (t ∷ ts) s h = by (here (k ∷ [])) refl (each_variable here (suc k) ts (drop_at (k ∷ []) s) behind)
  where
    behind : (i : ℕ) → suc k ≤ i → here (i ∷ []) ≡ is_some (part_at i (drop_at (k ∷ []) s).variables)
    behind i less =
        h i (omega (arith, less))
        ∙ ap is_some (sym (ap (part_at i) (dropped_variables (k ∷ []) s) ∙ part_at-set_other k i None s.variables (λ e. omega (arith, e, less))))

    by : (b : Bool) → here (k ∷ []) ≡ b → drop (flat_map (λ v. if_here here (v.0 ∷ [])) (numbered (suc k) ts)) (drop_at (k ∷ []) s) ≡ drop (variables_from (suc k) (length ts)) (drop_at (k ∷ []) s)
        → drop (if_here here (k ∷ []) ++ flat_map (λ v. if_here here (v.0 ∷ [])) (numbered (suc k) ts)) s ≡ drop (variables_from (suc k) (length ts)) (drop_at (k ∷ []) s)
    by true is again = ap (λ b. drop (cond b ((k ∷ []) ∷ []) [] ++ flat_map (λ v. if_here here (v.0 ∷ [])) (numbered (suc k) ts)) s) is ∙ again
    by false is again =
        ap (λ b. drop (cond b ((k ∷ []) ∷ []) [] ++ flat_map (λ v. if_here here (v.0 ∷ [])) (numbered (suc k) ts)) s) is
        ∙ ap (drop (flat_map (λ v. if_here here (v.0 ∷ [])) (numbered (suc k) ts))) (sym (nothing_dropped k s (sym (h k (omega arith)) ∙ is)))
        ∙ again

same-flat : {X Y : Type 0} (f g : X → List Y) (xs : List X) → ((x : X) → f x ≡ g x) → flat_map f xs ≡ flat_map g xs
same-flat f g [] h = refl
same-flat f g (x ∷ xs) h = ap₂ ◌++◌ (h x) (same-flat f g xs h)

module _ (types : TypeTable) (kept : Path → Bool) (none : (p : Path) → kept p ≡ false) (ps : Parts ⊤) where
  left-here : (p : Path) → is_left (has_value ps) kept p ≡ has_value ps p
  left-here p = ap (λ b. has_value ps p && not b) (none p) ∙ and-true (has_value ps p)

  one-variable : (b : Bool) (i t : ℕ) → has_value ps (i ∷ []) ≡ b → excess_at types (has_value ps) kept (i ∷ []) t ≡ if_here (has_value ps) (i ∷ [])
  one-variable true i t is =
      ap (λ b. cond b ((i ∷ []) ∷ []) (map_or [] (λ s. flat_map (λ part. excess_from (is_left (has_value ps) kept) 31 types ((i ∷ []) ++ part.0 ∷ []) part.1) (held_parts s)) (slice_get types t))) (left-here (i ∷ []) ∙ is)
      ∙ sym (ap (λ b. cond b ((i ∷ []) ∷ []) []) is)
  one-variable false i t is =
      nothing-left (has_value ps) (is_left (has_value ps) kept) (i ∷ []) types (λ q r h. here-closed i q r ps h) greatest_depth (i ∷ []) t (λ r. left-here ((i ∷ []) ++ r) ∙ here-closed i [] r ps is)
      ∙ sym (ap (λ b. cond b ((i ∷ []) ∷ []) []) is)

pub all_dropped : (types : TypeTable) (vars : List ℕ) (kept : Path → Bool) (s : Frame ⊤) (n : ℕ) → ((p : Path) → kept p ≡ false) → n ≡ length vars → drop (variables_from 0 n) s ≡ drop (excess types vars (has_value s.variables) kept) s
all_dropped types vars kept s n none is =
    ap (λ n. drop (variables_from 0 n) s) is
    ∙ sym (each_variable (has_value s.variables) 0 vars s (λ i less. refl))
    ∙ ap (λ paths. drop paths s) (sym (same-flat (λ v. excess_at types (has_value s.variables) kept (v.0 ∷ []) v.1) (λ v. if_here (has_value s.variables) (v.0 ∷ [])) (numbered 0 vars) (λ v. one-variable types kept none s.variables (has_value s.variables (v.0 ∷ [])) v.0 v.1 refl)))

pub none_kept : {X : Type 0} (xs : List X) → filter (λ x. false) xs ≡ []
none_kept [] = refl
none_kept (x ∷ xs) = none_kept xs

pub ended_at : (code : Module) (s : Frame ⊤) (n : ℕ) → n ≡ length code.variables → leave_loops (λ l. false) (drop (variables_from 0 n) s) ≡ arrive code targets.end s
ended_at code s n is = ap (leave_loops (λ l. false)) (all_dropped code.types code.variables (keeps code targets.end) s n (λ p. refl) is)

pub ended_by : (code : Module) (e : ℕ) (s : Frame ⊤) (n : ℕ) → n ≡ length code.variables → leave_loops (λ l. false) (drop (variables_from 0 n) s) ≡ arrive code (targets.end_by e) s
ended_by code e s n is = ap (leave_loops (λ l. false)) (all_dropped code.types code.variables (keeps code (targets.end_by e)) s n (λ p. refl) is)

pub all_left : (f : HeldFrame) (s b : Frame ⊤) (loops : List HeldLoop) (work : List WorkItem) (n : ℕ) → Stands f s → loops ≡ [] → map item_view work ≡ map item_view f.work ++ lost_pending (λ l. false) f.loops
    → n ≡ cut (f.finalised + length (lost_finalised (λ l. false) f.loops)) → leave_loops (λ l. false) s ≡ b → Stands (record f { loops = loops; work = work; finalised = n }) b
all_left f s b loops work n h none waits count is = subst (λ b. Stands (record f { loops = loops; work = work; finalised = n }) b) is (left_loops (λ l. false) f s loops work n h (none ∙ sym (none_kept f.loops)) waits count)

pub as_many : (vars : List ℕ) (of : List TypeNo) → vars ≡ numbers_of of → length of ≡ length vars
as_many vars of is = sym (ap length is ∙ length-map of (λ (t : TypeNo). t.0))
