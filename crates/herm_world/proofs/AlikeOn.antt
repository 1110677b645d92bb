-- Lists that are alike element by element, made one by one.
use Rattle.std.proofs.Common.{◌≡◌, ◌<◌, ◌≤◌, ◌+◌, ℕ, suc, List, [], ◌∷◌, ◌++◌, drop, length, get_or, refl, sym, ap, subst, ◌∙◌, append_assoc, arith}
use Rattle.std.proofs.lemmas.List.{append-nil}
use Rattle.std.proofs.Math.Seq.{drop-cons}
use Rattle.std.proofs.Math.ListN.{drop_of_length-le}
use Rattle.std.specs.List.{All}
use Rattle.std.proofs.lemmas.List.Elements.{All-get_or}
use Rattle.herm_world.specs.Worlds.{AreAlike}

-- what there is so far, joined with what is alike to the rest, is alike to the whole
abbrev pub IsAlikeOn : {X Y : Type 0} → (X → Y → Type 0) → List X → ℕ → List Y → Type 0
IsAlikeOn {X} {Y} R xs i ys = (rest : List Y) → AreAlike R (drop i xs) rest → AreAlike R xs (ys ++ rest)

pub alike-next : {X Y : Type 0} (R : X → Y → Type 0) (xs : List X) (i : ℕ) (x : X) (ys ys' : List Y) (y : Y) → i < length xs → x ≡ get_or xs i x → ys' ≡ ys ++ y ∷ [] → R x y → IsAlikeOn R xs i ys → IsAlikeOn R xs (i + 1) ys'
alike-next R xs i x ys ys' y lt at is r on rest are =
    let front : drop i xs ≡ x ∷ drop (i + 1) xs = drop-cons xs i x lt ∙ ap (λ z. z ∷ drop (suc i) xs) (sym at) ∙ ap (λ k. x ∷ drop k xs) (let e : suc i ≡ i + 1 = omega arith in e) in
    subst (AreAlike R xs) (sym (append_assoc ys (y ∷ []) rest) ∙ ap (λ zs. zs ++ rest) (sym is)) (on (y ∷ rest) (subst (λ zs. AreAlike R zs (y ∷ rest)) (sym front) (r, are)))

pub alike-all : {X Y : Type 0} (R : X → Y → Type 0) (xs : List X) (i : ℕ) (ys : List Y) → length xs ≤ i → IsAlikeOn R xs i ys → AreAlike R xs ys
alike-all R xs i ys le on = subst (AreAlike R xs) (append-nil ys) (on [] (subst (λ zs. AreAlike R zs []) (sym (drop_of_length-le xs le)) tt))

pub alike-start : {X Y : Type 0} (R : X → Y → Type 0) (xs : List X) (ys : List Y) → ys ≡ [] → IsAlikeOn R xs 0 ys
alike-start R xs ys is rest are = subst (λ zs. AreAlike R xs (zs ++ rest)) (sym is) are

pub one-of-all : {X : Type 0} (P : X → Type 0) (xs : List X) (i : ℕ) (x : X) → i < length xs → x ≡ get_or xs i x → All P xs → P x
one-of-all P xs i x lt at all = subst P (sym at) (All-get_or P xs i x lt all)

pub alike-long : {X Y : Type 0} (R : X → Y → Type 0) (xs : List X) (ys : List Y) → AreAlike R xs ys → length ys ≡ length xs
alike-long R [] [] are = refl
alike-long R [] (y ∷ ys) are = absurd are
alike-long R (x ∷ xs) [] are = absurd are
alike-long R (x ∷ xs) (y ∷ ys) are = ap suc (alike-long R xs ys are.1)
