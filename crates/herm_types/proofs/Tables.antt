-- What a table's tests and its index say.
use Rattle.std.proofs.Common.{◌≡◌, ◌<◌, ◌↔◌, ℕ, zero, suc, Bool, true, false, List, [], ◌∷◌, length, map, slice_get, Option, Some, None, IsTrue, refl, sym, ◌∙◌, ap, ◌&&◌, ◌||◌, option_map, subst, arith}
use Rattle.std.specs.Str.{bytes_eq}
use Rattle.std.specs.List.{list_all, position, position_or_len}
use Rattle.std.proofs.lemmas.Option.{slice_get-map}
use Rattle.herm_model.specs.Lists.{map_or, all_pass}
use Rattle.herm_model.specs.Types as types
use Rattle.herm_model.specs.Types.{TypeTable, is_within_depth, greatest_depth, named_types}
use Rattle.herm_model.specs.Copyable.{IsCopyable, is_plain, is_composed, is_copyable_within}
use Rattle.herm_types.specs.declared.shape.Shape.{Shape}
use Rattle.herm_types.specs.View.{shape_view}
use Rattle.herm_model.proofs.Copyable.{copyable-is, is-copyable}
use Rattle.herm_types.specs.Table.{says, copies, SayCopyable, shapes_view}

says_some : (tests : List Bool) (t : ℕ) (b : Bool) → slice_get tests t ≡ Some b → says tests t ≡ b
says_some tests t b e = ap (map_or false (λ c. c)) e

pub tests-copyable : (n : ℕ) (table : TypeTable) (tests : List Bool) (t : ℕ) (b : Bool) → SayCopyable n table tests → IsTrue (is_within_depth n table t) → slice_get tests t ≡ Some b → IsTrue b ↔ IsCopyable table t
tests-copyable n table tests t b say w e =
    let same = sym (says_some tests t b e) ∙ say t in
    (λ h. copyable-is table n t (sym same ∙ h), λ c. same ∙ is-copyable table n t w c)

-- ---- the index

pub map-length : {X Y : Type 0} (f : X → Y) (xs : List X) → length (map f xs) ≡ length xs
map-length f [] = refl
map-length f (x ∷ xs) = ap suc (map-length f xs)

first-map : {X Y : Type 0} (f : X → Y) (p : Y → Bool) (xs : List X) → position_or_len p (map f xs) ≡ position_or_len (λ x. p (f x)) xs
first-map f p [] = refl
first-map f p (x ∷ xs) = rw (first-map f p xs) refl

-- the place of a name is found on the keys
pub place-in_names : {X : Type 0} (bytes : X → List ℕ) (keys : List X) (names : List (List ℕ)) (name : List ℕ) → map bytes keys ≡ names → position (λ k. bytes_eq name (bytes k)) keys ≡ position (bytes_eq name) names
place-in_names bytes keys names name e = subst (λ ns. position (λ k. bytes_eq name (bytes k)) keys ≡ position (bytes_eq name) ns) e (rw (first-map bytes (bytes_eq name) keys, map-length bytes keys) refl)

-- ---- tests in rounds

pub every_all : {X : Type 0} (test : ℕ → Bool) (f : X → ℕ) (xs : List X) → all_pass test (map f xs) ≡ list_all (λ x. test (f x)) xs
every_all test f [] = refl
every_all test f (x ∷ xs) = rw (every_all test f xs) refl

says-map : {X : Type 0} (f : X → Bool) (xs : List X) (t : ℕ) → says (map f xs) t ≡ map_or false f (slice_get xs t)
says-map {X = X} f xs t = rw (slice_get-map f xs t) (by (slice_get xs t))
  where
    by : (o : Option X) → map_or false (λ b. b) (option_map f o) ≡ map_or false f o
    by None = refl
    by (Some x) = refl

every-same : (f g : ℕ → Bool) (ts : List ℕ) → ((t : ℕ) → f t ≡ g t) → all_pass f ts ≡ all_pass g ts
every-same f g [] same = refl
every-same f g (t ∷ ts) same = rw (same t, every-same f g ts same) refl

-- after no round nothing is said
pub no-rounds : (table : TypeTable) → SayCopyable 0 table []
no-rounds table t = refl

-- a round more says it with one more type on the way
pub one-round : (n : ℕ) (shapes : List Shape) (tests : List Bool) → SayCopyable n (shapes_view shapes) tests → SayCopyable (suc n) (shapes_view shapes) (map (λ s. copies tests (shape_view s)) shapes)
one-round n shapes tests say t =
    says-map (λ s. copies tests (shape_view s)) shapes t ∙ (by (slice_get shapes t) ∙ ap (map_or false within) (sym (slice_get-map shape_view shapes t)))
  where
    within : types.Shape → Bool
    within s = is_plain s || (is_composed s && all_pass (is_copyable_within n (shapes_view shapes)) (named_types s))

    by : (o : Option Shape) → map_or false (λ s. copies tests (shape_view s)) o ≡ map_or false within (option_map shape_view o)
    by None = refl
    by (Some s) = ap (λ b. is_plain (shape_view s) || (is_composed (shape_view s) && b)) (every-same (says tests) (is_copyable_within n (shapes_view shapes)) (named_types (shape_view s)) say)
