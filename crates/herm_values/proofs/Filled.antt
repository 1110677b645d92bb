-- How many places have a row.
use Rattle.std.proofs.Common.{◌≡◌, ℕ, zero, suc, ◌+◌, ◌≤◌, ◌<◌, ◌⊎◌, inl, inr, List, [], ◌∷◌, map, length, Bool, true, false, not, cond, Option, Some, None, IfNone, IfSome, option_map, get_or, nat_lt, max, refl, sym, ap, subst, ◌∙◌, arith}
use Rattle.std.specs.Option.{is_none}
use Rattle.std.proofs.lemmas.Bool.{ltb-false}
use Rattle.std.specs.List.{AllByRecursion, position, prefix_len}
use Rattle.herm_model.specs.Values as model
use Rattle.herm_model.specs.Statements.{Differ}
use Rattle.herm_model.specs.Lists.{IsIn}
use Rattle.herm_values.specs.Parts.{filled, rows_at}
use Rattle.herm_values.specs.View.{views_of, places_of, key_view, value_view}
use Rattle.herm_values.specs.Whole.{HasRow, AreKept}
use Rattle.herm_values.specs.declared.scalar.KeyRow.{KeyRow}
use Rattle.herm_values.specs.declared.value.Value.{Value}
use Rattle.herm_values.proofs.TakenRows.{stay, place-is}

module _ {X : Type 0} where
  long-filled : (os : List (Option X)) → length os ≤ prefix_len (λ o. not (is_none o)) os → filled os ≡ length os
  long-filled [] h = refl
  long-filled (None ∷ os) h = absurd (omega (arith, h))
  long-filled (Some x ∷ os) h = ap suc (long-filled os (omega (arith, h)))

  none-filled : (os : List (Option X)) → ((i : ℕ) → get_or os i None ≡ None) → filled os ≡ 0
  none-filled [] h = refl
  none-filled (None ∷ os) h = none-filled os (λ i. h (suc i))
  none-filled (Some x ∷ os) h = cc (h 0)

  abbrev emptied : ℕ → List (Option X) → List (Option X)
  emptied i [] = []
  emptied zero (o ∷ os) = None ∷ os
  emptied (suc i) (o ∷ os) = o ∷ emptied i os

  emptied-here : (i : ℕ) (os : List (Option X)) → get_or (emptied i os) i None ≡ None
  emptied-here i [] = refl
  emptied-here zero (o ∷ os) = refl
  emptied-here (suc i) (o ∷ os) = emptied-here i os

  emptied-other : (i j : ℕ) (os : List (Option X)) → (j ≡ i → ⊥) → get_or (emptied i os) j None ≡ get_or os j None
  emptied-other i j [] other = refl
  emptied-other zero zero (o ∷ os) other = absurd (other refl)
  emptied-other zero (suc j) (o ∷ os) other = refl
  emptied-other (suc i) zero (o ∷ os) other = refl
  emptied-other (suc i) (suc j) (o ∷ os) other = emptied-other i j os (λ e. other (ap suc e))

  filled-emptied : (i : ℕ) (x : X) (os : List (Option X)) → get_or os i None ≡ Some x → filled os ≡ suc (filled (emptied i os))
  filled-emptied i x [] h = cc h
  filled-emptied zero x (None ∷ os) h = cc h
  filled-emptied zero x (Some y ∷ os) h = refl
  filled-emptied (suc i) x (None ∷ os) h = filled-emptied i x os h
  filled-emptied (suc i) x (Some y ∷ os) h = ap suc (filled-emptied i x os h)

-- a place is found, or each has a row
all-filled : (os : List (Option Value)) → None ≡ position is_none os → filled os ≡ length os
all-filled os h = by (nat_lt (prefix_len (λ o. not (is_none o)) os) (length os)) refl h
  where
    by : (b : Bool) → nat_lt (prefix_len (λ o. not (is_none o)) os) (length os) ≡ b → None ≡ cond b (Some (prefix_len (λ o. not (is_none o)) os)) None → filled os ≡ length os
    by true t e = cc e
    by false t e = long-filled os (ltb-false (prefix_len (λ o. not (is_none o)) os) (length os) t)

-- before the first empty place all have a row
filled-before : {X : Type 0} (os : List (Option X)) → prefix_len (λ o. not (is_none o)) os ≤ filled os
filled-before [] = omega arith
filled-before (None ∷ os) = omega arith
filled-before (Some x ∷ os) = omega (arith, filled-before os)

pub low-from : (os : List (Option Value)) (found : Option ℕ) → found ≡ position is_none os → IfSome found (λ place. place ≤ filled os)
low-from os found is = subst (λ o. IfSome o (λ place. place ≤ filled os)) (sym is) (by (nat_lt (prefix_len (λ o. not (is_none o)) os) (length os)))
  where
    by : (b : Bool) → IfSome (cond b (Some (prefix_len (λ o. not (is_none o)) os)) None) (λ place. place ≤ filled os)
    by true = filled-before os
    by false = tt

pub full-from : (os : List (Option Value)) (found : Option ℕ) → found ≡ position is_none os → IfNone found (filled os ≡ length os)
full-from os None is = all-filled os is
full-from os (Some i) is = tt

-- as many places have a row as there are keys
kept-filled : (columns : List ℕ) (keys : List KeyRow) (os : List (Option model.Value)) → Differ (places_of keys) → AllByRecursion (HasRow columns os) keys → ((i : ℕ) → (IsIn i (places_of keys) → ⊥) → get_or os i None ≡ None) → filled os ≡ length keys
kept-filled columns [] os d h none = none-filled os (λ i. none i (λ x. x))
kept-filled columns (k ∷ ks) os d h none =
    let same = λ (i : ℕ) (other : i ≡ k.place → ⊥). emptied-other k.place i os other in
    filled-emptied k.place h.0.row os h.0.there
    ∙ ap suc (kept-filled columns ks (emptied k.place os) d.1 (stay columns os (emptied k.place os) (key_view k.key.items) k same ks d.0 h.1) (λ i out. elsewhere i out (placed i)))
  where
    placed : (i : ℕ) → (i ≡ k.place) ⊎ (i ≡ k.place → ⊥)
    placed i = place-is columns os (emptied k.place os) (key_view k.key.items) k (λ i other. emptied-other k.place i os other) i

    elsewhere : (i : ℕ) → (IsIn i (places_of ks) → ⊥) → (i ≡ k.place) ⊎ (i ≡ k.place → ⊥) → get_or (emptied k.place os) i None ≡ None
    elsewhere i out (inl e) = ap (λ j. get_or (emptied k.place os) j None) e ∙ emptied-here k.place os
    elsewhere i out (inr other) = emptied-other k.place i os other ∙ none i (λ x. elim x [ inl e ↦ other e | inr y ↦ out y ])

filled-views : (os : List (Option Value)) → filled (views_of os) ≡ filled os
filled-views [] = refl
filled-views (None ∷ os) = filled-views os
filled-views (Some v ∷ os) = ap suc (filled-views os)

pub rows-filled : (columns : List ℕ) (keys : List KeyRow) (rows : List (Option Value)) → AreKept columns keys (views_of rows) → filled rows ≡ length keys
rows-filled columns keys rows kept = sym (filled-views rows) ∙ kept-filled columns keys (views_of rows) kept.differ kept.found kept.elsewhere

rows-long : (keys : List KeyRow) (os : List (Option model.Value)) → length (rows_at (places_of keys) os) ≡ length keys
rows-long [] os = refl
rows-long (k ∷ keys) os = ap suc (rows-long keys os)

pub few-places : (keys : List KeyRow) (os : List (Option model.Value)) (old new used : ℕ) → used ≡ length keys → new ≤ max old (used + 1) → new ≤ max old (length (rows_at (places_of keys) os) + 1)
few-places keys os old new used is few = subst (λ n. new ≤ max old (n + 1)) (is ∙ sym (rows-long keys os)) few
