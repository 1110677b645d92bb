-- The rows themselves that a table has, after an insertion and a removal.
use Rattle.std.proofs.Common.{◌≡◌, ◌↔◌, ℕ, List, ◌⊎◌, inl, inr, Bool, true, false, nat_eq, Option, Some, None, IfSome, option_map, get_or, refl, sym, ap, ◌∙◌, true≢false}
use Rattle.std.specs.Option.{option_copied}
use denote.Bor.{Bor}
use Rattle.std.proofs.lemmas.Bool.{eq-eqb, eqb-true}
use Rattle.herm_model.proofs.Options.{some-injective}
use Rattle.herm_values.specs.declared.value.Value.{Value}

same_or_apart : (i j : ℕ) → (i ≡ j) ⊎ (i ≡ j → ⊥)
same_or_apart i j = by (nat_eq i j) refl
  where
    by : (b : Bool) → nat_eq i j ≡ b → (i ≡ j) ⊎ (i ≡ j → ⊥)
    by true t = inl (eqb-true i j t)
    by false f = inr (λ e. true≢false (sym (eq-eqb i j e) ∙ f))

-- there is this value at a place
abbrev pub IsAmong : List (Option Value) → Value → Type 0
IsAmong rows v = (i : ℕ) × (get_or rows i None ≡ Some v)

pub the-same : (rows wider : List (Option Value)) → ((i : ℕ) → get_or wider i None ≡ get_or rows i None) → (v : Value) → IsAmong wider v ↔ IsAmong rows v
the-same rows wider same v = (λ h. (h.0, sym (same h.0) ∙ h.1), λ h. (h.0, same h.0 ∙ h.1))

module _ (rows wider changed : List (Option Value)) (row : Value) (place : ℕ)
    (same : (i : ℕ) → get_or wider i None ≡ get_or rows i None)
    (empty : get_or wider place None ≡ None)
    (put : get_or changed place None ≡ Some row)
    (others : (i : ℕ) → (i ≡ place → ⊥) → get_or changed i None ≡ get_or wider i None) where
  more-from : (v : Value) (i : ℕ) → get_or changed i None ≡ Some v → (i ≡ place) ⊎ (i ≡ place → ⊥) → IsAmong rows v ⊎ (v ≡ row)
  more-from v i e (inl at) = inr (some-injective (sym e ∙ ap (λ j. get_or changed j None) at ∙ put))
  more-from v i e (inr apart) = inl (i, sym (same i) ∙ sym (others i apart) ∙ e)

  not-empty : (v : Value) (i : ℕ) → get_or rows i None ≡ Some v → i ≡ place → ⊥
  not-empty v i e at = cc (sym empty ∙ ap (λ j. get_or wider j None) (sym at) ∙ same i ∙ e)

  more-to : (v : Value) → IsAmong rows v ⊎ (v ≡ row) → IsAmong changed v
  more-to v (inl h) = (h.0, others h.0 (not-empty v h.0 h.1) ∙ same h.0 ∙ h.1)
  more-to v (inr e) = (place, put ∙ ap Some (sym e))

  pub one-more : (v : Value) → IsAmong changed v ↔ (IsAmong rows v ⊎ (v ≡ row))
  one-more v = (λ h. more-from v h.0 h.1 (same_or_apart h.0 place), more-to v)

module _ (rows changed : List (Option Value)) (place : ℕ) (lost : Option Value)
    (old : lost ≡ get_or rows place None)
    (gone : get_or changed place None ≡ None)
    (others : (i : ℕ) → (i ≡ place → ⊥) → get_or changed i None ≡ get_or rows i None) where
  left-from : (v : Value) (i : ℕ) → get_or changed i None ≡ Some v → (i ≡ place) ⊎ (i ≡ place → ⊥) → IsAmong rows v
  left-from v i e (inl at) = cc (sym gone ∙ ap (λ j. get_or changed j None) (sym at) ∙ e)
  left-from v i e (inr apart) = (i, sym (others i apart) ∙ e)

  left-to : (v : Value) (i : ℕ) → get_or rows i None ≡ Some v → (i ≡ place) ⊎ (i ≡ place → ⊥) → IsAmong changed v ⊎ (lost ≡ Some v)
  left-to v i e (inl at) = inr (old ∙ ap (λ j. get_or rows j None) (sym at) ∙ e)
  left-to v i e (inr apart) = inl (i, others i apart ∙ e)

  pub all-but : (v : Value) → (IsAmong changed v → IsAmong rows v) × (IsAmong rows v → IsAmong changed v ⊎ (lost ≡ Some v))
  all-but v = (λ h. left-from v h.0 h.1 (same_or_apart h.0 place), λ h. left-to v h.0 h.1 (same_or_apart h.0 place))

-- what is read at a place is among the rows
pub read-among : (rows : List (Option Value)) (place : ℕ) (o : Option Value) → o ≡ get_or rows place None → IfSome o (λ v. IsAmong rows v)
read-among rows place None is = tt
read-among rows place (Some v) is = (place, sym is)

pub none-lost : (rows : List (Option Value)) (lost : Option Value) (v : Value) → (IsAmong rows v → IsAmong rows v) × (IsAmong rows v → IsAmong rows v ⊎ (lost ≡ Some v))
none-lost rows lost v = (λ h. h, inl)

pub lent-among : (rows : List (Option Value)) (place : ℕ) (o : Option (Bor Value)) → option_map (λ v. v.now) o ≡ get_or rows place None → IfSome o (λ v. IsAmong rows v.now)
lent-among rows place None is = tt
lent-among rows place (Some v) is = (place, sym is)

pub lent-itself : (rows : List (Option Value)) (place : ℕ) (lent : Option (Bor Value)) (o : Option Value) → option_copied lent ≡ o → o ≡ get_or rows place None → IfSome lent (λ v. IsAmong rows v.now)
lent-itself rows place None o is at = tt
lent-itself rows place (Some v) o is at = (place, sym (is ∙ at))
