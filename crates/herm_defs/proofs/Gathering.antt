-- Types and exceptions are gathered item by item.
use Rattle.std.proofs.Common.{◌≡◌, ◌<◌, ℕ, zero, suc, ◌+◌, List, [], ◌∷◌, ◌++◌, length, map, take, get_or, refl, sym, ◌∙◌, ap, append_assoc, arith, inl, inr, subst, ◌≤◌, ◌⊎◌, ◌^◌}
use Rattle.std.proofs.lemmas.List.{take_more}
use denote.Bor.{Bor}
use Rattle.herm_syntax.specs.declared.definitions.DefForm.{DefForm}
use Rattle.herm_syntax.specs.declared.definitions.DefForm.TheVariants.{Shaped, Exception}
use Rattle.herm_syntax.specs.declared.definitions.DefItem.{DefItem}
use Rattle.herm_syntax.specs.Trees.{Letters, Shape}
use Rattle.herm_model.specs.Lists.{IsIn}
use Rattle.herm_meaning.specs.Items.{Placed, types_in, types_by, exceptions_in, exceptions_by}
use Rattle.herm_types.specs.declared.shape.Shape.{Shape as Code}
use Rattle.herm_types.specs.View.{shape_view}
use Rattle.herm_meaning.specs.Meaning.{outline, numbered_shape, type_names, exception_names}
use Rattle.herm_defs.specs.Seen.{item_seen}
use Rattle.herm_defs.specs.Few.{AreFew, form_total}
use Rattle.herm_model.specs.Types.{TypeTable}
use Rattle.herm_meaning.specs.Names.{NamedTable}

map-append : {X Y : Type 0} (f : X → Y) (xs ys : List X) → map f (xs ++ ys) ≡ map f xs ++ map f ys
map-append f [] ys = refl
map-append f (x ∷ xs) ys = ap (f x ∷◌) (map-append f xs ys)

types-by : (name : Letters) (form : DefForm) (xs ys : List (Letters × Shape)) → types_by name form (xs ++ ys) ≡ types_by name form xs ++ ys
types-by name (Shaped s) xs ys = refl
types-by name Exception xs ys = refl

exceptions-by : (name : Letters) (form : DefForm) (xs ys : List Letters) → exceptions_by name form (xs ++ ys) ≡ exceptions_by name form xs ++ ys
exceptions-by name (Shaped s) xs ys = refl
exceptions-by name Exception xs ys = refl

types-snoc : (xs : List Placed) (x : Placed) → types_in (xs ++ x ∷ []) ≡ types_in xs ++ types_by x.1.name.text x.1.form []
types-snoc [] x = refl
types-snoc (y ∷ ys) x = ap (types_by y.1.name.text y.1.form) (types-snoc ys x) ∙ types-by y.1.name.text y.1.form (types_in ys) (types_by x.1.name.text x.1.form [])

exceptions-snoc : (xs : List Placed) (x : Placed) → exceptions_in (xs ++ x ∷ []) ≡ exceptions_in xs ++ exceptions_by x.1.name.text x.1.form []
exceptions-snoc [] x = refl
exceptions-snoc (y ∷ ys) x = ap (exceptions_by y.1.name.text y.1.form) (exceptions-snoc ys x) ∙ exceptions-by y.1.name.text y.1.form (exceptions_in ys) (exceptions_by x.1.name.text x.1.form [])

in-end : (x : Placed) (xs : List Placed) (y : Placed) → IsIn x (xs ++ y ∷ []) → IsIn x xs ⊎ (x ≡ y)
in-end x [] y (inl e) = inr e
in-end x [] y (inr i) = absurd i
in-end x (z ∷ zs) y (inl e) = inl (inl e)
in-end x (z ∷ zs) y (inr i) = by (in-end x zs y i)
  where
    by : IsIn x zs ⊎ (x ≡ y) → IsIn x (z ∷ zs) ⊎ (x ≡ y)
    by (inl j) = inl (inr j)
    by (inr e) = inr e

abbrev named : List Letters → TypeTable → List (List Letters) → List Letters → NamedTable
named n s p e = record { names = n; shapes = s; parts = p; exceptions = e }

seen-more : (items : List (ℕ × Bor DefItem)) (i : ℕ) (o : ℕ × Bor DefItem) → i < length items → o ≡ get_or items i o → map item_seen (take (i + 1) items) ≡ map item_seen (take i items) ++ item_seen o ∷ []
seen-more items i o l e = ap (map item_seen) (take_more items i o l) ∙ (map-append item_seen (take i items) (get_or items i o ∷ []) ∙ ap (λ x. map item_seen (take i items) ++ item_seen x ∷ []) (sym e))

-- one item more
pub types-step : {Y : Type 0} (f : Letters × Shape → Y) (items : List (ℕ × Bor DefItem)) (i : ℕ) (o : ℕ × Bor DefItem) (base before after : List Y) → i < length items → o ≡ get_or items i o → before ≡ base ++ map f (types_in (map item_seen (take i items))) → after ≡ before ++ map f (types_by o.1.now.name.text o.1.now.form []) → after ≡ base ++ map f (types_in (map item_seen (take (i + 1) items)))
types-step f items i o base before after l e b a =
    a ∙ (ap (◌++ map f (types_by o.1.now.name.text o.1.now.form [])) b ∙ (append_assoc base _ _ ∙ ap (base ++◌)
    (sym (map-append f (types_in (map item_seen (take i items))) (types_by o.1.now.name.text o.1.now.form [])) ∙ ap (map f) (sym (ap types_in (seen-more items i o l e) ∙ types-snoc (map item_seen (take i items)) (item_seen o))))))

pub exceptions-step : (items : List (ℕ × Bor DefItem)) (i : ℕ) (o : ℕ × Bor DefItem) (base before after : List Letters) → i < length items → o ≡ get_or items i o → before ≡ base ++ exceptions_in (map item_seen (take i items)) → after ≡ before ++ exceptions_by o.1.now.name.text o.1.now.form [] → after ≡ base ++ exceptions_in (map item_seen (take (i + 1) items))
exceptions-step items i o base before after l e b a =
    a ∙ (ap (◌++ exceptions_by o.1.now.name.text o.1.now.form []) b ∙ (append_assoc base _ _ ∙ ap (base ++◌) (sym (ap exceptions_in (seen-more items i o l e) ∙ exceptions-snoc (map item_seen (take i items)) (item_seen o)))))

-- an item that is read is among the items
pub seen-in : (items : List (ℕ × Bor DefItem)) (i : ℕ) (o : ℕ × Bor DefItem) → i < length items → o ≡ get_or items i o → IsIn (item_seen o) (map item_seen items)
seen-in [] i o l e = absurd (omega (arith, l))
seen-in (x ∷ xs) zero o l e = inl (ap item_seen e)
seen-in (x ∷ xs) (suc i) o l e = inr (seen-in xs i o (omega (arith, l)) e)

map-length : {X Y : Type 0} (f : X → Y) (xs : List X) → length (map f xs) ≡ length xs
map-length f [] = refl
map-length f (x ∷ xs) = ap suc (map-length f xs)

-- there are as many shapes as names
pub as-many-shapes : (items : List Placed) (shapes : List Code) → map shape_view shapes ≡ (outline items).shapes → length shapes ≡ length (type_names items)
as-many-shapes items shapes e =
    let same = ap length e in
    omega (arith, map-length shape_view shapes, same, map-length (λ (d : Letters × Shape). numbered_shape (type_names items) (exception_names items) d.1) (types_in items), map-length (λ (d : Letters × Shape). d.0) (types_in items))

-- ---- few

types-few : (items : List Placed) → length (types_in items) ≤ length items
types-few [] = omega arith
types-few (i ∷ rest) = by i.1.form (types-few rest)
  where
    by : (form : DefForm) → length (types_in rest) ≤ length rest → length (types_by i.1.name.text form (types_in rest)) ≤ length (i ∷ rest)
    by (Shaped s) l = omega (arith, l)
    by Exception l = omega (arith, l)

exceptions-few : (items : List Placed) → length (exceptions_in items) ≤ length items
exceptions-few [] = omega arith
exceptions-few (i ∷ rest) = by i.1.form (exceptions-few rest)
  where
    by : (form : DefForm) → length (exceptions_in rest) ≤ length rest → length (exceptions_by i.1.name.text form (exceptions_in rest)) ≤ length (i ∷ rest)
    by (Shaped s) l = omega (arith, l)
    by Exception l = omega (arith, l)

pub names-few : (items : List (ℕ × Bor DefItem)) → length items < 2 ^ 31 → length (type_names (map item_seen items)) < 2 ^ 32
names-few items l = omega (arith, l, map-length item_seen items, types-few (map item_seen items), map-length (λ (d : Letters × Shape). d.0) (types_in (map item_seen items)))

pub exception-names-few : (items : List (ℕ × Bor DefItem)) → length items < 2 ^ 31 → length (exception_names (map item_seen items)) < 2 ^ 32
exception-names-few items l = omega (arith, l, map-length item_seen items, exceptions-few (map item_seen items))

pub outline-is : (items : List Placed) (types exceptions : List Letters) (shapes : TypeTable) (parts : List (List Letters)) → types ≡ type_names items → exceptions ≡ exception_names items → shapes ≡ (outline items).shapes → parts ≡ (outline items).parts → named types shapes parts exceptions ≡ outline items
outline-is items types exceptions shapes parts a b c d =
    ap (λ n. named n shapes parts exceptions) a
    ∙ (ap (λ s. named (type_names items) s parts exceptions) c
    ∙ (ap (λ p. named (type_names items) (outline items).shapes p exceptions) d
    ∙ ap (named (type_names items) (outline items).shapes (outline items).parts) b))

-- one item more that lists few parts
pub few-more : (items : List (ℕ × Bor DefItem)) (i : ℕ) (o : ℕ × Bor DefItem) → i < length items → o ≡ get_or items i o → AreFew (map item_seen (take i items)) → form_total o.1.now.form < 2 ^ 31 → AreFew (map item_seen (take (i + 1) items))
few-more items i o l e before one p h = by (in-end p (map item_seen (take i items)) (item_seen o) (subst (λ xs. IsIn p xs) (seen-more items i o l e) h))
  where
    by : IsIn p (map item_seen (take i items)) ⊎ (p ≡ item_seen o) → form_total p.1.form < 2 ^ 31
    by (inl j) = before p j
    by (inr same) = subst (λ q. form_total q.1.form < 2 ^ 31) (sym same) one
