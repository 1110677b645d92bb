-- Elements of joined lists, by their places.
use Rattle.std.proofs.Common.{◌≡◌, ℕ, zero, suc, ◌+◌, ◌<◌, ◌≤◌, length, List, [], ◌∷◌, ◌++◌, map, Some, slice_get, ◌⊎◌, inl, inr, refl, ap, ◌∙◌, arith}
use Rattle.herm_model.proofs.Options.{none-not_some}

pub get-left : {X : Type 0} (xs ys : List X) (k : ℕ) → k < length xs → slice_get (xs ++ ys) k ≡ slice_get xs k
get-left [] ys k h = absurd (omega arith)
get-left (x ∷ xs) ys zero h = refl
get-left (x ∷ xs) ys (suc k) h = get-left xs ys k (omega arith)

pub get-right : {X : Type 0} (xs ys : List X) (n k : ℕ) → n ≡ length xs + k → slice_get (xs ++ ys) n ≡ slice_get ys k
get-right [] ys n k e = ap (slice_get ys) (omega arith)
get-right (x ∷ xs) ys zero k e = absurd (omega arith)
get-right (x ∷ xs) ys (suc n) k e = get-right xs ys n k (omega arith)

pub length-joined : {X : Type 0} (xs ys : List X) → length (xs ++ ys) ≡ length xs + length ys
length-joined [] ys = omega arith
length-joined (x ∷ xs) ys = ap suc (length-joined xs ys) ∙ omega arith

pub map-joined : {X Y : Type 0} (f : X → Y) (xs ys : List X) → map f (xs ++ ys) ≡ map f xs ++ map f ys
map-joined f [] ys = refl
map-joined f (x ∷ xs) ys = ap (f x ∷◌) (map-joined f xs ys)

-- an element that is there is within the list
pub got-within : {X : Type 0} (xs : List X) (k : ℕ) (x : X) → slice_get xs k ≡ Some x → k < length xs
got-within [] k x e = none-not_some e
got-within (y ∷ xs) zero x e = omega arith
got-within (y ∷ xs) (suc k) x e = let h = got-within xs k x e in omega (arith, h)

-- a place within joined lists is in the one or in the other
pub place-in : (n a b : ℕ) → n < a + b → (n < a) ⊎ ((k : ℕ) × (n ≡ a + k) × (k < b))
place-in n zero b h = inr (n, omega arith, omega arith)
place-in zero (suc a) b h = inl (omega arith)
place-in (suc n) (suc a) b h = by (place-in n a b (omega arith))
  where
    by : (n < a) ⊎ ((k : ℕ) × (n ≡ a + k) × (k < b)) → (suc n < suc a) ⊎ ((k : ℕ) × (suc n ≡ suc a + k) × (k < b))
    by (inl x) = inl (omega (arith, x))
    by (inr y) = inr (y.0, omega (arith, y.1), y.2)

-- what is left of a number behind a smaller one
pub rest-behind : (x y : ℕ) → x ≤ y → (z : ℕ) × (y ≡ x + z)
rest-behind zero y h = (y, omega arith)
rest-behind (suc x) zero h = absurd (omega arith)
rest-behind (suc x) (suc y) h = let r = rest-behind x y (omega arith) in (r.0, let q = r.1 in omega (arith, q))
