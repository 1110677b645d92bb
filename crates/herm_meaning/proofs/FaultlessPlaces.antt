-- Where no place of a text has a fault: what is so at each name, by the item and the shape that it stands in.
use Rattle.std.proofs.Common.{◌≡◌, inl, inr, ℕ, zero, suc, ◌+◌, List, [], ◌∷◌, ◌++◌, map, take, slice_get, Some, refl, sym, ap, subst, arith}
use Rattle.herm_base.specs.declared.word.Name.{Name}
use Rattle.herm_model.specs.Lists.{IsIn}
use Rattle.herm_model.specs.Statements.{Differ}
use Rattle.herm_model.proofs.Lists.{cons-not_nil, in-append_left, in-append_right, in-map_from}
use Rattle.herm_model.proofs.Options.{some-injective, none-not_some}
use Rattle.herm_syntax.specs.declared.definitions.DefForm.{DefForm}
use Rattle.herm_syntax.specs.declared.definitions.DefForm.TheVariants.{Shaped, Exception}
use Rattle.herm_syntax.specs.declared.definitions.ShapeForm.{ShapeForm}
use Rattle.herm_syntax.specs.Trees.{Letters, Shape}
use Rattle.herm_syntax.specs.View.{name_view, shape_form_view}
use Rattle.herm_meaning.specs.Names.{NamedTable}
use Rattle.herm_meaning.specs.Items.{Placed, types_in, types_by, exceptions_in, exceptions_by}
use Rattle.herm_meaning.specs.Marks.{a_type, an_exception, Mark, Place, in_turn, mark, shape_marks, places_in, places_by, places_from}
use Rattle.herm_meaning.specs.DefinitionFaults.{twice, IsRight, AreFaults}

-- no code holds at any of these places
abbrev pub AllRight : NamedTable → List Place → Type 0
AllRight table ps = (p : Place) → IsIn p ps → IsRight table p

pub no-faults : (table : NamedTable) (ps : List Place) → AreFaults table ps [] → AllRight table ps
no-faults table [] h p i = absurd i
no-faults table (q ∷ ps) (inl h) p (inl e) = subst (λ r. IsRight table r) (sym e) h.0
no-faults table (q ∷ ps) (inl h) p (inr i) = no-faults table ps h.1 p i
no-faults table (q ∷ ps) (inr h) p i = cons-not_nil _ _ (sym h.3)

-- no code holds at any of these marks of a module
abbrev pub MarksRight : NamedTable → ℕ → List Mark → Type 0
MarksRight table n ms = (m : Mark) → IsIn m ms → IsRight table (n, m)

place-in : (n : ℕ) (m : Mark) (ms : List Mark) → IsIn m ms → IsIn (n, m) (places_in n ms)
place-in n m [] i = i
place-in n m (k ∷ ms) (inl e) = inl (ap (λ l. (n, l)) e)
place-in n m (k ∷ ms) (inr i) = inr (place-in n m ms i)

marks-right : (table : NamedTable) (n : ℕ) (ms : List Mark) → AllRight table (places_in n ms) → MarksRight table n ms
marks-right table n ms right m i = right (n, m) (place-in n m ms i)

pub left-right : (table : NamedTable) (n : ℕ) (ms ks : List Mark) → MarksRight table n (ms ++ ks) → MarksRight table n ms
left-right table n ms ks right m i = right m (in-append_left m ms ks i)

pub right-right : (table : NamedTable) (n : ℕ) (ms ks : List Mark) → MarksRight table n (ms ++ ks) → MarksRight table n ks
right-right table n ms ks right m i = right m (in-append_right m ms ks i)

-- A type as it is written, whose marks are right.
pub record Stands (table : NamedTable) (t : ℕ) (d : Letters × Shape) : Type 0 where
  pub module' : ℕ
  pub name : Name
  pub form : ShapeForm
  pub is : (name.text, shape_form_view form) ≡ d
  pub right : MarksRight table module' (mark name (a_type t (shape_form_view form)) ++ shape_marks form)

pub types-stand : (table : NamedTable) (items : List Placed) (t e k : ℕ) (d : Letters × Shape) → AllRight table (places_from items t e) → slice_get (types_in items) k ≡ Some d → Stands table (t + k) d
types-stand table [] t e k d right at = none-not_some at
types-stand table (i ∷ items) t e k d right at = by i.1.form k right at (λ t' e' k'. types-stand table items t' e' k' d)
  where
    by : (f : DefForm) (k : ℕ) → AllRight table (places_by i.0 i.1.name f t e (places_from items)) → slice_get (types_by (name_view i.1.name) f (types_in items)) k ≡ Some d → ((t' e' k' : ℕ) → AllRight table (places_from items t' e') → slice_get (types_in items) k' ≡ Some d → Stands table (t' + k') d) → Stands table (t + k) d
    by (Shaped shape) zero right' at' again =
        let same : t + zero ≡ t = omega arith in
        subst (λ n. Stands table n d) (sym same) (record {
          module' = i.0;
          name = i.1.name;
          form = shape;
          is = some-injective at';
          right = marks-right table i.0 (mark i.1.name (a_type t (shape_form_view shape)) ++ shape_marks shape) (λ p h. right' p (in-append_left p (places_in i.0 (mark i.1.name (a_type t (shape_form_view shape)) ++ shape_marks shape)) (places_from items (suc t) e) h));
        })
    by (Shaped shape) (suc k') right' at' again =
        let same : suc t + k' ≡ t + suc k' = omega arith in
        subst (λ n. Stands table n d) same (again (suc t) e k' (λ p h. right' p (in-append_right p (places_in i.0 (mark i.1.name (a_type t (shape_form_view shape)) ++ shape_marks shape)) (places_from items (suc t) e) h)) at')
    by Exception k' right' at' again = again t (suc e) k' (λ p h. right' p (in-append_right p (places_in i.0 (mark i.1.name (an_exception e))) (places_from items t (suc e)) h)) at'

pub exceptions-stand : (table : NamedTable) (items : List Placed) (t e k : ℕ) (name : Letters) → AllRight table (places_from items t e) → slice_get (exceptions_in items) k ≡ Some name → IsIn name (take (e + k) table.exceptions) → ⊥
exceptions-stand table [] t e k name right at = none-not_some at
exceptions-stand table (i ∷ items) t e k name right at = by i.1.form k right at (λ t' e' k'. exceptions-stand table items t' e' k' name)
  where
    by : (f : DefForm) (k : ℕ) → AllRight table (places_by i.0 i.1.name f t e (places_from items)) → slice_get (exceptions_by (name_view i.1.name) f (exceptions_in items)) k ≡ Some name → ((t' e' k' : ℕ) → AllRight table (places_from items t' e') → slice_get (exceptions_in items) k' ≡ Some name → IsIn name (take (e' + k') table.exceptions) → ⊥) → IsIn name (take (e + k) table.exceptions) → ⊥
    by (Shaped shape) k' right' at' again = again (suc t) e k' (λ p h. right' p (in-append_right p (places_in i.0 (mark i.1.name (a_type t (shape_form_view shape)) ++ shape_marks shape)) (places_from items (suc t) e) h)) at'
    by Exception zero right' at' again = λ among.
        let same : e + zero ≡ e = omega arith in
        right' (i.0, record { name = i.1.name; role = an_exception e }) (inl refl) twice (subst (λ n. IsIn i.1.name.text (take n table.exceptions)) same (subst (λ w. IsIn w (take (e + zero) table.exceptions)) (sym (some-injective at')) among))
    by Exception (suc k') right' at' again =
        let same : suc e + k' ≡ e + suc k' = omega arith in
        subst (λ n. IsIn name (take n table.exceptions) → ⊥) same (again t (suc e) k' (λ p h. right' p (in-append_right p (places_in i.0 (mark i.1.name (an_exception e))) (places_from items t (suc e)) h)) at')

-- ---- lists of names within a shape

module _ {X : Type 0} (table : NamedTable) (n : ℕ) (name : X → Letters) (marks : List Letters → X → List Mark) where
  -- what is so of an element by its marks, whatever stands before it
  pub each-turn : (P : X → Type 0) → ((before : List Letters) (x : X) → MarksRight table n (marks before x) → P x) → (before : List Letters) (xs : List X) → MarksRight table n (in_turn name marks before xs) → (x : X) → IsIn x xs → P x
  each-turn P by before [] right x i = absurd i
  each-turn P by before (y ∷ xs) right x (inl e) = subst P (sym e) (by before y (left-right table n (marks before y) _ right))
  each-turn P by before (y ∷ xs) right x (inr i) = each-turn P by (before ++ name y ∷ []) xs (right-right table n (marks before y) _ right) x i

  -- none has the name of one before it
  apart-turn : ((before : List Letters) (x : X) → MarksRight table n (marks before x) → IsIn (name x) before → ⊥) → (before : List Letters) (xs : List X) → MarksRight table n (in_turn name marks before xs) → (x : X) → IsIn x xs → (w : Letters) → IsIn w before → name x ≡ w → ⊥
  apart-turn by before [] right x i w j e = i
  apart-turn by before (y ∷ xs) right x (inl s) w j e = by before y (left-right table n (marks before y) _ right) (subst (λ z. IsIn (name z) before) s (subst (λ v. IsIn v before) (sym e) j))
  apart-turn by before (y ∷ xs) right x (inr i) w j e = apart-turn by (before ++ name y ∷ []) xs (right-right table n (marks before y) _ right) x i w (in-append_left w before (name y ∷ []) j) e

  pub differ-turn : ((before : List Letters) (x : X) → MarksRight table n (marks before x) → IsIn (name x) before → ⊥) → (before : List Letters) (xs : List X) → MarksRight table n (in_turn name marks before xs) → Differ (map name xs)
  differ-turn by before [] right = tt
  differ-turn by before (y ∷ xs) right = (among, differ-turn by (before ++ name y ∷ []) xs (right-right table n (marks before y) _ right))
    where
      among : IsIn (name y) (map name xs) → ⊥
      among h =
          let from = in-map_from name (name y) xs h in
          apart-turn by (before ++ name y ∷ []) xs (right-right table n (marks before y) _ right) from.0 from.1 (name y) (in-append_right (name y) before (name y ∷ []) (inl refl)) (sym from.2)
