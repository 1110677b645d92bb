-- The fields that are the key of a table by its type, and rows that have them.
use Rattle.std.proofs.Common.{◌≡◌, inl, inr, ℕ, zero, suc, ◌+◌, ◌<◌, length, drop, get_or, List, [], ◌∷◌, Option, Some, None, arith, refl, sym, ap, ap₂, subst, ◌∙◌}
use Rattle.herm_base.specs.declared.numbers.TypeNo.{TypeNo}
use Rattle.herm_meaning.specs.Names.{NamedTable}
use Rattle.herm_model.specs.Calls.{shape_at}
use Rattle.herm_model.specs.Lists.{IsIn}
use Rattle.herm_model.specs.Paths.{Path}
use Rattle.herm_model.specs.Types.{Shape, TypeTable, fields}
use Rattle.herm_model.specs.WellFormedTables.{IsScalarField}
use Rattle.herm_forms.specs.Acts.{key_at, key_fields}
use Rattle.herm_forms.specs.Modules.{Module}
use Rattle.herm_code_machine.specs.ReadyCode.{ReadyCode}
use Rattle.herm_frames.specs.KeyedTables.{HasKeyFields}
use Rattle.herm_frames.specs.Scopes.{IsOf, numbers_of}

pub columns_are : (types : NamedTable) (of : List TypeNo) (c : ReadyCode) (p : Path) (ks : List ℕ) → IsOf types of c → ks ≡ key_fields (shape_at types.shapes (numbers_of of) p) → ks ≡ key_at c.scope p
columns_are types of c p ks is h = h ∙ sym (ap₂ (λ (ts : TypeTable) (vs : List ℕ). key_fields (shape_at ts vs p)) is.0 is.1)

pub has_fields : (c : Module) (ts : TypeTable) (vs key us : List ℕ) (p : Path) → c.types ≡ ts → c.variables ≡ vs → shape_at ts vs p ≡ Some (fields us) → ((i : ℕ) → IsIn i key → IsScalarField ts us i) → HasKeyFields c key p
has_fields c ts vs key us p types variables shape scalars = record {
  types = us;
  shape = ap₂ (λ (ts : TypeTable) (vs : List ℕ). shape_at ts vs p) types variables ∙ shape;
  scalars = λ i at. subst (λ (ts : TypeTable). IsScalarField ts us i) (sym types) (scalars i at);
}

-- the next of a list is the first of what is left
pub next-left : (xs : List ℕ) (i : ℕ) → i < length xs → drop i xs ≡ get_or xs i 0 ∷ drop (i + 1) xs
next-left [] i less = absurd (omega (arith, less))
next-left (y ∷ ys) zero less = refl
next-left (y ∷ ys) (suc i) less = next-left ys i (omega (arith, less)) ∙ ap (λ n. get_or ys i 0 ∷ drop n (y ∷ ys)) (let e : suc (i + 1) ≡ suc i + 1 = omega arith in e)

-- it holds of those that are left where it holds of the next and of those behind it
pub one-less : (P : ℕ → Type 0) (xs ys : List ℕ) (x : ℕ) → xs ≡ x ∷ ys → P x → ((i : ℕ) → IsIn i ys → P i) → (i : ℕ) → IsIn i xs → P i
one-less P xs ys x is first rest i at = by (subst (IsIn i) is at)
  where
    by : IsIn i (x ∷ ys) → P i
    by (inl same) = subst P (sym same) first
    by (inr behind) = rest i behind

-- the next of what is left is one of the list
pub next-in : (xs : List ℕ) (i : ℕ) → i < length xs → IsIn (get_or xs i 0) xs
next-in [] i less = absurd (omega (arith, less))
next-in (y ∷ ys) zero less = inl refl
next-in (y ∷ ys) (suc i) less = inr (next-in ys i (omega (arith, less)))

abbrev field_types : Option Shape → List ℕ
field_types (Some (fields ts)) = ts
field_types o = []

-- of a record type the fields are known
pub fields_scalar : (c : Module) (ts : TypeTable) (vs key us : List ℕ) (p : Path) → c.types ≡ ts → c.variables ≡ vs → shape_at ts vs p ≡ Some (fields us) → HasKeyFields c key p → (i : ℕ) → IsIn i key → IsScalarField ts us i
fields_scalar c ts vs key us p types variables shape has i at =
    let same : has.types ≡ us = ap field_types (sym has.shape ∙ ap₂ (λ (ts : TypeTable) (vs : List ℕ). shape_at ts vs p) types variables ∙ shape) in
    subst (λ (ts : TypeTable). IsScalarField ts us i) types (subst (λ us. IsScalarField c.types us i) same (has.scalars i at))

-- what has such fields is of a record type
pub is_record : (c : Module) (ts : TypeTable) (vs key : List ℕ) (p : Path) (o : Option Shape) → c.types ≡ ts → c.variables ≡ vs → o ≡ shape_at ts vs p → HasKeyFields c key p → (us : List ℕ) × (o ≡ Some (fields us))
is_record c ts vs key p o types variables is has = (has.types, is ∙ sym (ap₂ (λ (ts : TypeTable) (vs : List ℕ). shape_at ts vs p) types variables) ∙ has.shape)
