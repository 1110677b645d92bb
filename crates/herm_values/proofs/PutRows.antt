-- A row put at an empty place, whose key goes behind the others.
use Rattle.std.proofs.Common.{◌≡◌, ℕ, List, [], ◌∷◌, ◌++◌, ◌⊎◌, inl, inr, Option, Some, None, get_or, refl, sym, ap, ap₂, subst, ◌∙◌}
use Rattle.std.specs.Prelude.{⊤}
use Rattle.std.specs.List.{AllByRecursion}
use Rattle.herm_model.specs.Values as model
use Rattle.herm_model.specs.Values.{Parts, no_parts, part, place, joined}
use Rattle.herm_model.specs.Lists.{IsIn}
use Rattle.herm_model.specs.Statements.{Differ}
use Rattle.herm_model.specs.Tables.{key_of}
use Rattle.herm_values.specs.View.{places_of, key_view}
use Rattle.herm_values.specs.Whole.{HasRow, AreKept}
use Rattle.herm_values.specs.declared.scalar.KeyRow.{KeyRow}
use Rattle.herm_values.proofs.KeyedRows.{named}

-- a place that has no row is named by no key
pub unnamed : (columns : List ℕ) (rows : List (Option model.Value)) (i : ℕ) (keys : List KeyRow) → get_or rows i None ≡ None → AllByRecursion (HasRow columns rows) keys → IsIn i (places_of keys) → ⊥
unnamed columns rows i [] empty h none = absurd none
unnamed columns rows i (k ∷ keys) empty h (inl e) = cc (sym empty ∙ ap (λ j. get_or rows j None) e ∙ h.0.there)
unnamed columns rows i (k ∷ keys) empty h (inr rest) = unnamed columns rows i keys empty h.1 rest

-- a row stays where its place is not changed
pub moved : (columns : List ℕ) (rows changed : List (Option model.Value)) (at : ℕ) → ((i : ℕ) → (i ≡ at → ⊥) → get_or changed i None ≡ get_or rows i None) → (k : KeyRow) → (k.place ≡ at → ⊥) → HasRow columns rows k → HasRow columns changed k
moved columns rows changed at same k apart h = record { row = h.row; there = same k.place apart ∙ h.there; keyed = h.keyed }

module _ (key : KeyRow) where
  in-put : (i : ℕ) (keys : List KeyRow) → IsIn i (places_of (keys ++ key ∷ [])) → IsIn i (places_of keys) ⊎ (i ≡ key.place)
  in-put i [] (inl e) = inr e
  in-put i [] (inr h) = absurd h
  in-put i (k ∷ keys) (inl e) = inl (inl e)
  in-put i (k ∷ keys) (inr h) = elim (in-put i keys h) [ inl x ↦ inl (inr x) | inr e ↦ inr e ]

  put-in : (i : ℕ) (keys : List KeyRow) → IsIn i (places_of keys) → IsIn i (places_of (keys ++ key ∷ []))
  put-in i [] none = absurd none
  put-in i (k ∷ keys) (inl e) = inl e
  put-in i (k ∷ keys) (inr h) = inr (put-in i keys h)

  put-last : (keys : List KeyRow) → IsIn key.place (places_of (keys ++ key ∷ []))
  put-last [] = inl refl
  put-last (k ∷ keys) = inr (put-last keys)

  differ-put : (keys : List KeyRow) → Differ (places_of keys) → (IsIn key.place (places_of keys) → ⊥) → Differ (places_of (keys ++ key ∷ []))
  differ-put [] d apart = (λ h. h, tt)
  differ-put (k ∷ keys) d apart = (λ h. elim (in-put k.place keys h) [ inl x ↦ d.0 x | inr e ↦ apart (inl (sym e)) ], differ-put keys d.1 (λ h. apart (inr h)))

module _ (columns : List ℕ) (rows changed : List (Option model.Value)) (key : KeyRow) (row : model.Value) (put : get_or changed key.place None ≡ Some row) (same : (i : ℕ) → (i ≡ key.place → ⊥) → get_or changed i None ≡ get_or rows i None) where
  found-put : (keys : List KeyRow) → key_of columns row ≡ key_view key.key.items → AllByRecursion (HasRow columns rows) keys → (IsIn key.place (places_of keys) → ⊥) → AllByRecursion (HasRow columns changed) (keys ++ key ∷ [])
  found-put [] keyed h apart = (record { row = row; there = put; keyed = keyed }, tt)
  found-put (k ∷ keys) keyed h apart = (moved columns rows changed key.place same k (λ e. apart (inl (sym e))) h.0, found-put keys keyed h.1 (λ x. apart (inr x)))

  pub kept-put : (keys : List KeyRow) → key_of columns row ≡ key_view key.key.items → get_or rows key.place None ≡ None → AreKept columns keys rows → AreKept columns (keys ++ key ∷ []) changed
  kept-put keys keyed empty kept =
      let apart = unnamed columns rows key.place keys empty kept.found in
      record {
        differ = differ-put key keys kept.differ apart;
        found = found-put keys keyed kept.found apart;
        elsewhere = λ i out. same i (λ e. out (subst (λ j. IsIn j (places_of (keys ++ key ∷ []))) (sym e) (put-last key keys))) ∙ kept.elsewhere i (λ h. out (put-in key i keys h));
      }

  joined-place : (o : Option model.Value) (ps qs : Parts ⊤) → place o (joined ps qs) ≡ joined (place o ps) qs
  joined-place None ps qs = refl
  joined-place (Some c) ps qs = refl

  pub named-put : (keys : List KeyRow) → (IsIn key.place (places_of keys) → ⊥) → named columns changed (keys ++ key ∷ []) ≡ joined (named columns rows keys) (part row no_parts)
  named-put [] apart = ap (λ o. place o no_parts) put
  named-put (k ∷ keys) apart =
      ap₂ place (same k.place (λ e. apart (inl (sym e)))) (named-put keys (λ h. apart (inr h)))
      ∙ joined-place (get_or rows k.place None) (named columns rows keys) (part row no_parts)
