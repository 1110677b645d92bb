-- In sound values that have what a form needs, its typed expression comes to a full value of its type.
use Rattle.std.proofs.Common.{◌≡◌, ℕ, List, [], ◌∷◌, ◌++◌, Bool, sym, subst}
use Rattle.std.specs.Prelude.{Some, IsTrue}
use Rattle.herm_model.specs.Lists.{IsIn}
use Rattle.herm_model.specs.Paths.{Path, Fact, init, case}
use Rattle.herm_model.specs.Copyable.{IsCopyable}
use Rattle.herm_model.specs.Facts.{facts_to}
use Rattle.herm_model.specs.Expressions.{Expression, literal, copy, negation, logical_not, operation, size_of, decimal, length_of, paths_read}
use Rattle.herm_model.specs.TypedExpressions.{IsPathOf, IsTyped}
use Rattle.herm_model.specs.Statements.{Assign, If}
use Rattle.herm_model.specs.FactsOfStatements.{room_for, full, full_of_each}
use Rattle.herm_model.specs.Values.{Cell, Parts, read_at}
use Rattle.herm_model.specs.FactsOfValues.{satisfies}
use Rattle.herm_model.specs.Typed.{whole, HasType}
use Rattle.herm_model.proofs.Lists.{in-append_left, in-append_right, in-append_more}
use Rattle.herm_model.proofs.Options.{none-not_some}
use Rattle.herm_model.proofs.Typing.{IsOf-renamed}
use Rattle.herm_forms.specs.Frames.{Name}
use Rattle.herm_forms.specs.Modules.{Module}
use Rattle.herm_forms.specs.Evaluate.{evaluate, value_there, rows_there}
use Rattle.herm_forms.specs.laws.EdgeLaws.{AreSound, AreDeep}
use Rattle.herm_forms.specs.laws.ExpressionLaws.{TypedExpressionsGiveFull, ComesTo, WhereFound, TypedExpressionsHaveValues, TypedAssignmentsKeepSound}
use Rattle.herm_forms.proofs.forms.ReadTypes.{read-typed}
use Rattle.herm_forms.proofs.forms.ToldFacts.{in-closed}
use Rattle.herm_forms.proofs.evaluated.CopiedValues.{deep-at, copy-full}
use Rattle.herm_forms.proofs.forms.SetTargets.{assignments-keep}
use Rattle.herm_forms.proofs.evaluated.ReadValues.{read-there}
use Rattle.herm_forms.proofs.evaluated.TypedExpressions.{operation-comes, negated-comes, inverted-comes, decimal-comes, length-comes, size-comes, literal-comes, comes-decides}

module _ (c : Module) (deep : AreDeep c) (has : Fact → Bool) (ps : Parts Name) (sound : AreSound c has ps) where
  -- what is held is told
  held-told : (f : Fact) → IsTrue (has f) → IsTrue (satisfies ps f)
  held-told (init p) h = (sound.facts.values p).1 h
  held-told (case p k) h = sound.facts.components p k h

  abbrev Holds : List Fact → Type 0
  Holds fs = (f : Fact) → IsIn f fs → IsTrue (has f)

  path-read : (p : Path) (t : ℕ) → IsPathOf c.types c.variables p t → Holds (full c.types c.variables p) → (d : Cell Name) × (read_at p ps ≡ Some d) × HasType c.types t d
  path-read [] t h needed = none-not_some h.0
  path-read (i ∷ q) t h needed =
      let d = read-there c.types Name ps c.variables deep sound.types i q t h.0 h.1 (λ f m. held-told f (needed f (in-append_left f (facts_to c.types c.variables (i ∷ q)) _ m))) in
      (d.0, d.1, read-typed Name c.types c.variables i q t ps d.0 sound.types h.0 d.1)

  copy-comes : (p : Path) (t : ℕ) → IsPathOf c.types c.variables p t → IsCopyable c.types t → Holds (full c.types c.variables p) → ComesTo c t (value_there (read_at p ps))
  copy-comes [] t h copyable needed = none-not_some h.0
  copy-comes (i ∷ q) t h copyable needed =
      let d = path-read (i ∷ q) t h needed in
      subst (λ o. ComesTo c t (value_there o)) (sym d.1) (IsOf-renamed (λ (n : Name). tt) c.types whole t d.0 (copy-full c deep has ps sound i q t h.0 needed d.0 copyable d.1))

  one-path : (p : Path) → Holds (full_of_each c.types c.variables (p ∷ [])) → Holds (full c.types c.variables p)
  one-path p needed f h = needed f (in-append_left f (full c.types c.variables p) [] h)

  of-left : (ps qs : List Path) → Holds (full_of_each c.types c.variables (ps ++ qs)) → Holds (full_of_each c.types c.variables ps)
  of-left [] qs needed f h = absurd h
  of-left (p ∷ ps) qs needed f h = needed f (by h)
    where
      by : IsIn f (full c.types c.variables p ++ full_of_each c.types c.variables ps) → IsIn f (full c.types c.variables p ++ full_of_each c.types c.variables (ps ++ qs))
      by h = in-append_more f (full c.types c.variables p) (full_of_each c.types c.variables ps) (full_of_each c.types c.variables (ps ++ qs)) (in-first ps) h
        where
          in-first : (ps : List Path) → IsIn f (full_of_each c.types c.variables ps) → IsIn f (full_of_each c.types c.variables (ps ++ qs))
          in-first [] h = absurd h
          in-first (p ∷ ps) h = in-append_more f (full c.types c.variables p) (full_of_each c.types c.variables ps) (full_of_each c.types c.variables (ps ++ qs)) (in-first ps) h

  of-right : (ps qs : List Path) → Holds (full_of_each c.types c.variables (ps ++ qs)) → Holds (full_of_each c.types c.variables qs)
  of-right [] qs needed f h = needed f h
  of-right (p ∷ ps) qs needed f h = of-right ps qs (λ f h. needed f (in-append_right f (full c.types c.variables p) (full_of_each c.types c.variables (ps ++ qs)) h)) f h

  pub typed-comes : (e : Expression) (t : ℕ) → IsTyped c.types c.variables e t → Holds (full_of_each c.types c.variables (paths_read e)) → ComesTo c t (evaluate ps e)
  typed-comes (literal l) t h needed = literal-comes c t l h
  typed-comes (copy p) t h needed = copy-comes p t h.0 h.1 (one-path p needed)
  typed-comes (negation e) t h needed = negated-comes c t h.1 (evaluate ps e) h.0 h.2 (typed-comes e h.1 h.3 needed)
  typed-comes (logical_not e) t h needed = inverted-comes c t h.1 (evaluate ps e) h.0 h.2 (typed-comes e h.1 h.3 needed)
  typed-comes (operation o left right) t h needed =
      operation-comes c t h.1 h.2 o (evaluate ps left) (evaluate ps right) h.0 h.3 h.4 (typed-comes left h.1 h.5 (of-left (paths_read left) (paths_read right) needed)) (typed-comes right h.1 h.6 (of-right (paths_read left) (paths_read right) needed))
  typed-comes (size_of p) t h needed = let d = path-read p h.1 h.4 (one-path p needed) in subst (λ o. ComesTo c t (rows_there o)) (sym d.1) (size-comes c t h.1 h.2 h.3 d.0 h.0 h.5 d.2)
  typed-comes (decimal e) t h needed = decimal-comes c t h.1 (evaluate ps e) h.0 h.2 (typed-comes e h.1 h.3 needed)
  typed-comes (length_of e) t h needed = length-comes c t h.1 (evaluate ps e) h.0 h.2 (typed-comes e h.1 h.3 needed)

module _ (c : Module) (deep : AreDeep c) where
  assigned-comes : (x : Path) (e : Expression) (t : ℕ) → IsTyped c.types c.variables e t → WhereFound c (Assign x e) (λ ps. ComesTo c t (evaluate ps e))
  assigned-comes x e t h has ps sound needed =
      typed-comes c deep has ps sound e t h (λ f m. needed f (in-closed c.types c.variables (room_for c.types c.variables x ++ full_of_each c.types c.variables (paths_read e)) f (in-append_right f (room_for c.types c.variables x) (full_of_each c.types c.variables (paths_read e)) m)))

  tested-comes : (e : Expression) (t : ℕ) → IsTyped c.types c.variables e t → WhereFound c (If e) (λ ps. ComesTo c t (evaluate ps e))
  tested-comes e t h has ps sound needed = typed-comes c deep has ps sound e t h (λ f m. needed f (in-closed c.types c.variables (full_of_each c.types c.variables (paths_read e)) f m))

  pub typed-values : TypedExpressionsHaveValues c
  typed-values = record {
    assigned = assigned-comes;
    if_test = λ e t shape h has ps sound needed. comes-decides c t (evaluate ps e) shape (tested-comes e t h has ps sound needed);
    while_test = λ e t shape h has ps sound needed. comes-decides c t (evaluate ps e) shape (tested-comes e t h has ps sound needed);
  }

pub typed-full : TypedExpressionsGiveFull
typed-full c x e t deep h has ps value sound needed is = subst (ComesTo c t) is (assigned-comes c deep x e t h has ps sound needed)

pub typed-assignments : TypedAssignmentsKeepSound
typed-assignments c i q e t deep type h = (assignments-keep c).finding i q t e type (deep-at c deep i q t type) (typed-full c (i ∷ q) e t deep h)
