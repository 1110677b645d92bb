-- Lists of loops: of each loop at most one, and behind an edge those alone that are around where it leads.
use Rattle.std.proofs.Common.{◌≡◌, inl, inr, ℕ, List, [], ◌∷◌, map, filter, Bool, true, false, cond, nat_eq, Some, None, refl, sym, ap, ◌∙◌, subst}
use Rattle.std.specs.Prelude.{IsTrue}
use Rattle.std.proofs.lemmas.Bool.{eqb-true}
use mathlib.Core.Bool.{true≢false}
use Rattle.herm_model.specs.Lists.{IsIn}
use Rattle.herm_model.specs.Statements.{Differ}
use Rattle.herm_model.specs.Targets.{Target, node, end, end_by}
use Rattle.herm_model.specs.Typed.{Fits, many}
use Rattle.herm_model.specs.Finalising.{excess}
use Rattle.herm_model.specs.Values.{has_value}
use Rattle.herm_model.proofs.Lists.{not_true, in-map, in-map_from, in-filter, in-filter_from}
use Rattle.herm_journal.proofs.Rising.{same-true}
use Rattle.herm_model.proofs.Options.{none-not_some}
use Rattle.herm_forms.specs.Frames.{Name, Loop, Frame, drop}
use Rattle.herm_forms.specs.LoopForms.{rows_for}
use Rattle.herm_forms.specs.EdgeFinalising.{arrive, keeps}
use Rattle.herm_forms.specs.LeavingLoops.{keeps_loop}
use Rattle.herm_forms.specs.Modules.{Module}
use Rattle.herm_forms.specs.laws.FormsSound.{AreSameLoops}
use Rattle.herm_forms.proofs.KeptBodies.{IsKept, is-loops}
use Rattle.herm_source.specs.States.{own_name}
use Rattle.herm_source.specs.Local.{IsAround, IsListAt, row_type}

abbrev pub numbers : List (Loop Name) → List ℕ
numbers loops = map (λ (l : Loop Name). l.statement) loops

abbrev of_loop : ℕ → Loop Name → Bool
of_loop s l = nat_eq l.statement s

-- no list is of a loop whose number none has
none-of : (s : ℕ) (loops : List (Loop Name)) → (IsIn s (numbers loops) → ⊥) → filter (of_loop s) loops ≡ []
none-of s [] never = refl
none-of s (k ∷ loops) never = by (nat_eq k.statement s) refl (none-of s loops (λ h. never (inr h)))
  where
    by : (b : Bool) → nat_eq k.statement s ≡ b → filter (of_loop s) loops ≡ [] → cond b (k ∷ filter (of_loop s) loops) (filter (of_loop s) loops) ≡ []
    by true e more = absurd (never (inl (sym (eqb-true k.statement s e))))
    by false e more = more

-- where numbers differ each list is the only one of its loop, and back
pub differ-only : (loops : List (Loop Name)) → Differ (numbers loops) → (l : Loop Name) → IsIn l loops → filter (of_loop l.statement) loops ≡ l ∷ []
differ-only [] d l h = absurd h
differ-only (k ∷ loops) d l (inl e) =
    ap (λ b. cond b (k ∷ filter (of_loop l.statement) loops) (filter (of_loop l.statement) loops)) (ap (λ (m : Loop Name). nat_eq k.statement m.statement) e ∙ same-true k.statement)
    ∙ ap (λ ls. k ∷ ls) (none-of l.statement loops (subst (λ (m : Loop Name). IsIn m.statement (numbers loops) → ⊥) (sym e) d.0)) ∙ ap (λ m. m ∷ []) (sym e)
differ-only (k ∷ loops) d l (inr h) = by (nat_eq k.statement l.statement) refl (differ-only loops d.1 l h)
  where
    by : (b : Bool) → nat_eq k.statement l.statement ≡ b → filter (of_loop l.statement) loops ≡ l ∷ [] → cond b (k ∷ filter (of_loop l.statement) loops) (filter (of_loop l.statement) loops) ≡ l ∷ []
    by true e more = absurd (d.0 (subst (λ n. IsIn n (numbers loops)) (sym (eqb-true k.statement l.statement e)) (in-map (λ (l : Loop Name). l.statement) l loops h)))
    by false e more = more

abbrev rest_of : List (Loop Name) → List (Loop Name)
rest_of [] = []
rest_of (l ∷ loops) = loops

nothing-in : {A : Type 0} (l : Loop Name) (ls : List (Loop Name)) → ls ≡ [] → IsIn l ls → A
nothing-in l ls e h = absurd (subst (IsIn l) e h)

pub only-differ : (loops : List (Loop Name)) → ((l : Loop Name) → IsIn l loops → filter (of_loop l.statement) loops ≡ l ∷ []) → Differ (numbers loops)
only-differ [] only = tt
only-differ (k ∷ loops) only = (
  (λ h. first (in-map_from (λ (l : Loop Name). l.statement) k.statement loops h)),
  only-differ loops (λ l h. later l h (nat_eq k.statement l.statement) refl (only l (inr h))),
)
  where
    own-alone : filter (of_loop k.statement) loops ≡ []
    own-alone = ap rest_of (sym (ap (λ b. cond b (k ∷ filter (of_loop k.statement) loops) (filter (of_loop k.statement) loops)) (same-true k.statement)) ∙ only k (inl refl))

    first : (l : Loop Name) × IsIn l loops × (k.statement ≡ l.statement) → ⊥
    first x = nothing-in x.0 (filter (of_loop k.statement) loops) own-alone (in-filter (of_loop k.statement) x.0 loops x.1 (ap (nat_eq (x.0).statement) x.2 ∙ same-true (x.0).statement))

    later : (l : Loop Name) → IsIn l loops → (b : Bool) → nat_eq k.statement l.statement ≡ b → cond b (k ∷ filter (of_loop l.statement) loops) (filter (of_loop l.statement) loops) ≡ l ∷ [] → filter (of_loop l.statement) loops ≡ l ∷ []
    later l h true e is = absurd (first (l, h, eqb-true k.statement l.statement e))
    later l h false e is = is

-- fewer lists differ still
pub fewer-differ : (stay : ℕ → Bool) (loops : List (Loop Name)) → Differ (numbers loops) → Differ (numbers (filter (λ (l : Loop Name). stay l.statement) loops))
fewer-differ stay [] d = tt
fewer-differ stay (k ∷ loops) d = by (stay k.statement) (fewer-differ stay loops d.1)
  where
    fewer : List (Loop Name)
    fewer = filter (λ (l : Loop Name). stay l.statement) loops

    still : IsIn k.statement (numbers fewer) → IsIn k.statement (numbers loops)
    still h =
        let x = in-map_from (λ (l : Loop Name). l.statement) k.statement fewer h in
        subst (λ n. IsIn n (numbers loops)) (sym x.2) (in-map (λ (l : Loop Name). l.statement) x.0 loops (in-filter_from (λ (l : Loop Name). stay l.statement) x.0 loops x.1).0)

    by : (b : Bool) → Differ (numbers fewer) → Differ (numbers (cond b (k ∷ fewer) fewer))
    by true more = ((λ h. d.0 (still h)), more)
    by false more = more

-- a loop without rows has no list
no-rows : (s : ℕ) (loops : List (Loop Name)) → rows_for s loops ≡ None → IsIn s (numbers loops) → ⊥
no-rows s [] e h = absurd h
no-rows s (k ∷ loops) e h = by (nat_eq k.statement s) refl e h (no-rows s loops)
  where
    by : (b : Bool) → nat_eq k.statement s ≡ b → cond b (Some k.rows) (rows_for s loops) ≡ None → IsIn s (numbers (k ∷ loops)) → (rows_for s loops ≡ None → IsIn s (numbers loops) → ⊥) → ⊥
    by true is e h more = none-not_some (sym e)
    by false is e (inl same) more = absurd (true≢false (sym (ap (nat_eq k.statement) same ∙ same-true k.statement) ∙ is))
    by false is e (inr h) more = more e h

pub same-differ : (s : ℕ) (before behind : List (Loop Name)) → AreSameLoops s before behind → Differ (numbers before) → Differ (numbers behind)
same-differ s before behind (inl e) d = subst Differ (sym e) d
same-differ s before behind (inr h) d = subst Differ (sym h.1) (no-rows s before h.0, d)

-- behind an edge each list is of a loop that it does not leave
module _ (c : Module) (t : Target) where
  abbrev AreKept : Frame Name → Type 0
  AreKept b = (l : Loop Name) → IsIn l b.loops → IsTrue (keeps_loop c t l.statement)

  kept-on : IsKept AreKept
  kept-on = record {
    letting = record {
      value = λ d b h. h;
      parts = λ ps b h. h;
      name = λ m b h. h;
    };
    variables = λ ps b h. h;
    serial = λ s b h. h;
    calls = λ b h. h;
  }

  pub arrived-kept : (b : Frame Name) (l : Loop Name) → IsIn l (arrive c t b).loops → IsTrue (keeps_loop c t l.statement)
  arrived-kept b =
      let cut : Frame Name = drop (excess c.types c.variables (has_value b.variables) (keeps c t)) b in
      let fewer : List (Loop Name) = filter (λ (l : Loop Name). keeps_loop c t l.statement) cut.loops in
      is-loops own_name AreKept AreKept kept-on (keeps_loop c t) cut.loops (record cut { loops = fewer }) (λ l h. (in-filter_from (λ (l : Loop Name). keeps_loop c t l.statement) l cut.loops h).1)

around : (c : Module) (t : Target) (s : ℕ) → IsTrue (keeps_loop c t s) → IsAround c t s
around c (node i) s h = h
around c end s h = not_true h
around c (end_by e) s h = not_true h

-- so lists that fit, differ and are kept are as they should be at the point
pub lists-at : (c : Module) (t : Target) (loops : List (Loop Name)) → ((l : Loop Name) → IsIn l loops → (u : ℕ) × (row_type c l.statement ≡ Some u) × Fits c.types (many u) l.rows) → Differ (numbers loops)
    → ((l : Loop Name) → IsIn l loops → IsTrue (keeps_loop c t l.statement)) → (l : Loop Name) → IsIn l loops → IsListAt c t loops l
lists-at c t loops fit differ kept l h = let x = fit l h in (x.0, x.1, x.2, around c t l.statement (kept l h), differ-only loops differ l h)
