-- A typed `insert` is not stuck: no table lies in a row of its own, so the table is there behind the row that moves.
use Rattle.std.proofs.Common.{◌≡◌, inl, ℕ, List, [], ◌∷◌, Bool, true, false, cond, not, ◌&&◌, Option, Some, None, nat_lt, refl, sym, ap, ◌∙◌, subst}
use Rattle.std.specs.Prelude.{slice_get, IsTrue}
use Rattle.herm_model.specs.Lists.{IsIn, list_of, map_or}
use Rattle.herm_model.specs.Paths.{Path, Fact, init, path_of, is_at_or_below}
use Rattle.herm_model.specs.Types.{TypeTable, Shape, rows, named_types, part_type, part_of, type_below, type_at}
use Rattle.herm_model.specs.Facts.{facts_to}
use Rattle.herm_model.specs.TypedExpressions.{HasShape}
use Rattle.herm_model.specs.WellFormedTables.{IsWellFormedTable, Reaches, at_once, further}
use Rattle.herm_model.specs.Statements.{Insert, Process}
use Rattle.herm_model.specs.FactsOfStatements.{present, full}
use Rattle.herm_model.specs.Outcomes.{raised, duplicate_key, depletion, ok}
use Rattle.herm_model.specs.Tables.{has_key, key_of}
use Rattle.herm_model.specs.Values.{parts_of, size, cell_at, read_at}
use Rattle.herm_model.specs.Typed.{greatest_rows}
use Rattle.herm_model.proofs.Lists.{in-append_left, in-append_right}
use Rattle.herm_model.proofs.Options.{none-not_some, some-injective}
use Rattle.herm_model.proofs.Beginnings.{below-trans, begins-with}
use Rattle.herm_model.proofs.TypedPaths.{at-append}
use Rattle.herm_forms.specs.Frames.{goes, reading}
use Rattle.herm_forms.specs.Forms.{moving}
use Rattle.herm_forms.specs.InsertForm.{change_rows, add_row}
use Rattle.herm_forms.specs.Excess.{excess_over_full}
use Rattle.herm_forms.specs.Modules.{Module}
use Rattle.herm_forms.specs.Acts.{key_at}
use Rattle.herm_forms.specs.laws.EdgeLaws.{without}
use Rattle.herm_forms.specs.laws.TypedForms.{IsTypedIn}
use Rattle.herm_forms.specs.laws.FormsGoOn.{GoesOn}
use Rattle.herm_forms.proofs.Arrived.{to-direct}
use Rattle.herm_forms.proofs.called.ApartPaths.{way-begins}
use Rattle.herm_forms.proofs.typed.Room.{value-there}
use Rattle.herm_forms.proofs.typed.LocalGoes.{Comes, there-comes, asked, moved-comes, looked-there}
use Rattle.herm_model.proofs.TypesBelow.{type_below-none}
use Rattle.herm_model.proofs.BoundedPaths.{part-named}

module _ (types : TypeTable) where
  named-part : (t i u : ℕ) → part_of types (Some t) i ≡ Some u → IsIn u (list_of named_types (slice_get types t))
  named-part t i u e = by (slice_get types t) e
    where
      by : (o : Option Shape) → map_or None (λ s. part_type s i) o ≡ Some u → IsIn u (list_of named_types o)
      by None e = none-not_some e
      by (Some s) e = part-named s i u e

  -- what lies below a type is reached by it
  reaches-below : (s : List ℕ) (i t u : ℕ) → type_below types (Some t) (i ∷ s) ≡ Some u → Reaches types t u
  reaches-below [] i t u e = at_once t u (named-part t i u e)
  reaches-below (j ∷ s) i t u e = by (part_of types (Some t) i) refl e (reaches-below s j)
    where
      by : (o : Option ℕ) → part_of types (Some t) i ≡ o → type_below types o (j ∷ s) ≡ Some u → ((v u : ℕ) → type_below types (Some v) (j ∷ s) ≡ Some u → Reaches types v u) → Reaches types t u
      by None at e again = none-not_some (sym (type_below-none types s) ∙ e)
      by (Some v) at e again = further t v u (named-part t i v at) (again v u e)

  reaches-on : (t u v : ℕ) → Reaches types t u → IsIn v (list_of named_types (slice_get types u)) → Reaches types t v
  reaches-on t u v (at_once t' u' h) m = further t u v h (at_once u v m)
  reaches-on t u v (further t' w u' h r) m = further t w v h (reaches-on w u v r m)

module _ (exceptions : ℕ) (processes : List Process) (c : Module) where
  -- the table is not at or below the row
  not-inside : (i : ℕ) (q : List ℕ) (t : Path) (row u : ℕ) (key : List ℕ) → IsWellFormedTable exceptions c.types → type_at c.types c.variables (i ∷ q) ≡ Some row → type_at c.types c.variables t ≡ Some u → HasShape c.types u (rows row key)
      → is_at_or_below (i ∷ q) t ≡ true → ⊥
  not-inside i q t row u key well source table shape below' =
      let s = begins-with (i ∷ q) t below' in
      by s.0 (sym (at-append c.types c.variables i q s.0 ∙ ap (λ o. type_below c.types o s.0) source) ∙ sym (ap (type_at c.types c.variables) s.1) ∙ table)
    where
      named : IsIn row (list_of named_types (slice_get c.types u))
      named = subst (λ o. IsIn row (list_of named_types o)) (sym shape) (inl refl)

      by : (s : List ℕ) → type_below c.types (Some row) s ≡ Some u → ⊥
      by [] e = well.acyclic row (at_once row row (subst (λ u. IsIn row (list_of named_types (slice_get c.types u))) (sym (some-injective e)) named))
      by (j ∷ s) e = well.acyclic row (reaches-on c.types row u row (reaches-below c.types s j row u e) named)

  pub insert-comes : (r t : Path) → IsTypedIn exceptions processes c (Insert r t) → GoesOn c (Insert r t)
  insert-comes [] t is name statement has b sound needed = none-not_some is.typed.3.0.0
  insert-comes (i ∷ q) t is name statement has b sound needed =
      let form = Insert (i ∷ q) t in
      let h = is.typed in
      let whole' = full c.types c.variables (i ∷ q) in
      let there = present c.types c.variables t in
      let held : (f : Fact) → IsIn f there → IsTrue (has f) = λ f m. asked exceptions processes c form is has needed f (in-append_right f whole' there m) in
      let own = value-there c has b.variables sound i q (asked exceptions processes c form is has needed (init (i ∷ q)) (in-append_left (init (i ∷ q)) whole' there (in-append_left (init (i ∷ q)) (facts_to c.types c.variables (i ∷ q)) _ (to-direct c.types c.variables i q h.3.1)))) in
      let d = looked-there exceptions processes c form is has b.variables sound t h.2.0 h.2.1 held in
      there-comes _ (cell_at (i ∷ q) b.variables) own.0 own.1
      (there-comes _ (read_at t b.variables) d.0 d.1
      (by held (has_key (key_at c t) (key_of (key_at c t) own.0) (parts_of d.0)) (nat_lt (size (parts_of d.0)) greatest_rows)))
    where
      left : ((f : Fact) → IsIn f (facts_to c.types c.variables t) → IsTrue (has f)) → (f : Fact) → IsIn f (facts_to c.types c.variables t) → IsTrue (without (i ∷ q) has f)
      left held f m = away (is_at_or_below (i ∷ q) (path_of f)) refl
        where
          away : (b : Bool) → is_at_or_below (i ∷ q) (path_of f) ≡ b → IsTrue (not b && has f)
          away false e = held f m
          away true e = absurd (not-inside i q t is.typed.0 is.typed.2.0 is.typed.1 is.table is.typed.3.0.0 is.typed.2.1.0 is.typed.2.2 (below-trans (i ∷ q) (path_of f) t e (way-begins c.types c.variables t f m)))

      by : ((f : Fact) → IsIn f (facts_to c.types c.variables t) → IsTrue (has f)) → (known fits : Bool)
          → Comes (cond known (goes (raised duplicate_key) b) (cond fits (moving (excess_over_full c (i ∷ q) b) (i ∷ q) (λ row b. reading t (λ table. goes ok (change_rows t (add_row row) b)) b) b) (goes (raised depletion) b)))
      by held true fits = (raised duplicate_key, b, refl)
      by held false false = (raised depletion, b, refl)
      by held false true =
          moved-comes exceptions processes c (Insert (i ∷ q) t) is has needed b sound i q is.typed.0 is.typed.3 (λ f m. in-append_left f (full c.types c.variables (i ∷ q)) (present c.types c.variables t) m)
          (λ row b. reading t (λ table. goes ok (change_rows t (add_row row) b)) b)
          (λ row b' sound'.
          let d = looked-there exceptions processes c (Insert (i ∷ q) t) is (without (i ∷ q) has) b'.variables sound' t is.typed.2.0 is.typed.2.1 (left held) in
          there-comes _ (read_at t b'.variables) d.0 d.1 (ok, change_rows t (add_row row) b', refl))
