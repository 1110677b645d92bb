-- With literals in place of the keys on the stack, `Remove` and `Get` do typed forms.
use Rattle.std.proofs.Common.{◌≡◌, ℕ, List, [], ◌∷◌, ◌++◌, map, slice_get, option_and_then, inl, inr, refl, ap, subst, ◌∙◌}
use Rattle.herm_model.specs.Lists.{IsIn, list_of}
use Rattle.herm_model.specs.Paths.{Path}
use Rattle.herm_model.specs.Types.{fields, rows, TypeTable}
use Rattle.herm_model.specs.Expressions.{Literal, Atom}
use Rattle.herm_model.specs.Statements.{Differ}
use Rattle.herm_model.specs.TypedExpressions.{HasShape}
use Rattle.herm_model.specs.TypedStatements.{AreKeysOf, IsTableOf, IsTarget, IsFound}
use Rattle.herm_model.specs.WellFormedTables.{IsScalarField, IsWellFormedTable}
use Rattle.herm_instructions.specs.Operands.{types_of_key, types_of_row_key}
use Rattle.herm_instructions.specs.laws.KeyLaws.{AreLiteralsOf, key_types, KeysAreTyped}

module _ (table : TypeTable) (variables : List ℕ) where
  keys-typed : (ts key : List ℕ) → ((i : ℕ) → IsIn i key → IsScalarField table ts i) → (ls : List Literal) → AreLiteralsOf table ls (types_of_key key (fields ts)) → AreKeysOf table variables ts key (map Atom.literal ls)
  keys-typed ts [] scalar [] h = tt
  keys-typed ts [] scalar (l ∷ ls) h = absurd h
  keys-typed ts (i ∷ key) scalar ls h =
      let s = scalar i (inl refl) in
      by ls (subst (λ o. AreLiteralsOf table ls (list_of (λ t. t ∷ []) o ++ types_of_key key (fields ts))) s.2 h) (keys-typed ts key (λ j m. scalar j (inr m)))
    where
      by : (ls : List Literal) → AreLiteralsOf table ls ((scalar i (inl refl)).0 ∷ types_of_key key (fields ts)) → ((ls : List Literal) → AreLiteralsOf table ls (types_of_key key (fields ts)) → AreKeysOf table variables ts key (map Atom.literal ls))
          → AreKeysOf table variables ts (i ∷ key) (map Atom.literal ls)
      by [] h again = absurd h
      by (l ∷ ls) h again = (((scalar i (inl refl)).0, (scalar i (inl refl)).2, h.0), again ls h.1)

  key-types : (t : Path) (row : ℕ) (key ts : List ℕ) → IsTableOf table variables t row key → HasShape table row (fields ts) → key_types table variables t ≡ types_of_key key (fields ts)
  key-types t row key ts of shape =
      ap (λ o. list_of (types_of_row_key table) (option_and_then (slice_get table) o)) (of.1).0
      ∙ ap (list_of (types_of_row_key table)) of.2
      ∙ ap (list_of (types_of_key key)) shape

  module _ (exceptions : ℕ) (formed : IsWellFormedTable exceptions table) where
    found : (r t : Path) (row : ℕ) (key : List ℕ) (ls : List Literal) → IsTableOf table variables t row key → IsTarget table variables r row → AreLiteralsOf table ls (key_types table variables t) → IsFound table variables r t (map Atom.literal ls) row
    found r t row key ls of target h =
        let k : (ts : List ℕ) × HasShape table row (fields ts) × Differ key × ((i : ℕ) → IsIn i key → IsScalarField table ts i) = formed.keys of.0 (rows row key) of.2 in
        (key, k.0, of, target, k.1, keys-typed k.0 key k.3 ls (subst (AreLiteralsOf table ls) (key-types t row key k.0 of k.1) h))

pub keys-are_typed : KeysAreTyped
keys-are_typed exceptions table variables constants processes formed = record {
  remove = λ r t n ls typed h. (typed.0, found table variables exceptions formed r t typed.0 typed.1 ls typed.2 typed.3 h);
  get = λ r t n ls typed h. (typed.0, found table variables exceptions formed r t typed.0 typed.1 ls typed.2 typed.3 h, typed.5);
}
