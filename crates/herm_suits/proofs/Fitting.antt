-- The places of a record or a callmessage, one after another.
use Rattle.std.proofs.Common.{◌≡◌, ◌<◌, ◌≤◌, ℕ, zero, suc, ◌+◌, List, [], ◌∷◌, Bool, true, false, ◌&&◌, length, Option, Some, None, is_some, is_none, not, option_map, slice_get, get_or, drop, refl, sym, ap, ap₂, ◌∙◌, arith}
use Rattle.std.proofs.lemmas.List.{drop_more, drop_all}
use Rattle.herm_model.specs.Types.{TypeTable}
use Rattle.herm_model.specs.Typed as typed
use Rattle.herm_model.specs.Typed.{Degree, exactly, a_value, nothing}
use Rattle.herm_values.specs.Parts.{parts_from}
use Rattle.herm_values.specs.View.{value_view, views_of}
use Rattle.herm_values.specs.declared.value.Value.{Value}
use Rattle.herm_suits.specs.declared.layouts.Content.{Content}
use Rattle.herm_suits.specs.Decided.{may_be_empty, is_of, fits}
use Rattle.herm_suits.specs.View.{content_view}

content-at : {X : Type 0} (xs : List X) (j : ℕ) (x : X) → Some x ≡ slice_get xs j → drop j xs ≡ x ∷ drop (j + 1) xs
content-at [] j x e = cc
content-at (y ∷ xs) zero x e = cc
content-at (y ∷ xs) (suc j) x e = content-at xs j x e ∙ ap (λ n. x ∷ drop n (y ∷ xs)) (suc-one j)
  where
    suc-one : (j : ℕ) → suc (j + 1) ≡ suc j + 1
    suc-one j = omega arith

no-content : {X : Type 0} (xs : List X) (j : ℕ) → None ≡ slice_get xs j → drop j xs ≡ []
no-content [] zero e = refl
no-content [] (suc j) e = refl
no-content (y ∷ xs) zero e = cc
no-content (y ∷ xs) (suc j) e = no-content xs j e

module _ (table : TypeTable) where
  abbrev Fit : List typed.Content → List (Option Value) → Bool
  Fit xs items = fits table (exactly xs) (parts_from (views_of items))

  module _ (xs : List typed.Content) (items : List (Option Value)) (j i : ℕ) (all : Bool) (rest : Fit (drop j xs) (drop i items) ≡ all) where
    item-at : (o : Option Value) (p : Option Value) → i < length items → o ≡ get_or items i o → o ≡ p → drop i items ≡ p ∷ drop (i + 1) items
    item-at o p h e f = drop_more items i o h ∙ ap (λ o. o ∷ drop (i + 1) items) (sym e ∙ f)

    -- the content and the place that are next
    module _ (found : Option Content) (o p : Option Value) (told : option_map content_view found ≡ slice_get xs j) (within : i < length items) (held : o ≡ get_or items i o) (is : o ≡ p) where
      pub one-more : (x : Content) → found ≡ Some x → Fit (content_view x ∷ drop (j + 1) xs) (p ∷ drop (i + 1) items) ≡ all
      one-more x e = ap₂ Fit (sym (content-at xs j (content_view x) (ap (option_map content_view) (sym e) ∙ told))) (sym (item-at o p within held is)) ∙ rest

      too-many : (q : Option Value) (is : List (Option Value)) → Fit [] (q ∷ is) ≡ false
      too-many None is = refl
      too-many (Some v) is = refl

      pub unwanted : found ≡ None → false ≡ all
      unwanted e = sym (too-many p (drop (i + 1) items)) ∙ ap₂ Fit (sym (no-content xs j (ap (option_map content_view) (sym e) ∙ told))) (sym (item-at o p within held is)) ∙ rest

    -- no place is left
    ended : (found : Option Content) → option_map content_view found ≡ slice_get xs j → is_none found ≡ Fit (drop j xs) []
    ended None e = sym (ap (λ xs. Fit xs []) (no-content xs j e))
    ended (Some x) e = sym (ap (λ xs. Fit xs []) (content-at xs j (content_view x) e))

    flipped : (found : Option Content) (b : Bool) → is_some found ≡ not b → b ≡ is_none found
    flipped None true e = refl
    flipped None false e = cc
    flipped (Some x) true e = cc
    flipped (Some x) false e = refl

    pub none-left : (found : Option Content) (b : Bool) → option_map content_view found ≡ slice_get xs j → length items ≤ i → is_some found ≡ not b → b ≡ all
    none-left found b told h e = flipped found b e ∙ ended found told ∙ ap (Fit (drop j xs)) (sym (drop_all i items h)) ∙ rest

  -- what a place has that is next
  module _ (xs : List typed.Content) (items : List (Option Value)) (all : Bool) where
    pub empty-refused : (x : typed.Content) (b : Bool) → Fit (x ∷ xs) (None ∷ items) ≡ all → b ≡ may_be_empty x → b ≡ false → false ≡ all
    empty-refused x b h e f = sym (ap (λ m. m && Fit xs items) (sym e ∙ f)) ∙ h

    pub empty-passed : (x : typed.Content) (b : Bool) → Fit (x ∷ xs) (None ∷ items) ≡ all → b ≡ may_be_empty x → b ≡ true → Fit xs items ≡ all
    empty-passed x b h e f = sym (ap (λ m. m && Fit xs items) (sym e ∙ f)) ∙ h

    pub nothing-refused : (x : typed.Content) (v : Value) → Fit (x ∷ xs) (Some v ∷ items) ≡ all → x ≡ nothing → false ≡ all
    nothing-refused x v h e = sym (ap (λ x. Fit (x ∷ xs) (Some v ∷ items)) e) ∙ h

    pub value-refused : (x : typed.Content) (v : Value) (d : Degree) (t : ℕ) (b : Bool) → Fit (x ∷ xs) (Some v ∷ items) ≡ all → x ≡ a_value d t → b ≡ is_of d table t (value_view v) → b ≡ false → false ≡ all
    value-refused x v d t b h e g f = sym (ap (λ m. m && Fit xs items) (sym g ∙ f)) ∙ sym (ap (λ x. Fit (x ∷ xs) (Some v ∷ items)) e) ∙ h

    pub value-passed : (x : typed.Content) (v : Value) (d : Degree) (t : ℕ) (b : Bool) → Fit (x ∷ xs) (Some v ∷ items) ≡ all → x ≡ a_value d t → b ≡ is_of d table t (value_view v) → b ≡ true → Fit xs items ≡ all
    value-passed x v d t b h e g f = sym (ap (λ m. m && Fit xs items) (sym g ∙ f)) ∙ sym (ap (λ x. Fit (x ∷ xs) (Some v ∷ items)) e) ∙ h
