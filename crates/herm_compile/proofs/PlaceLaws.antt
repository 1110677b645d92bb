-- Lines and columns.
use Rattle.std.proofs.Common.{◌≡◌, ℕ, suc, ◌<◌, ◌≤◌, ◌+◌, Bool, true, false, cond, List, [], ◌∷◌, ◌++◌, length, get_or, take, refl, sym, ap, ◌∙◌, arith}
use Rattle.std.specs.Prelude.{reverse}
use Rattle.std.proofs.Math.Seq.{take-suc}
use Rattle.std.proofs.lemmas.List.{reverse-append, length-reverse, length-take}
use Rattle.herm_compile.specs.Front.{front}
use Rattle.herm_compile.specs.Places.{is_newline, no_newline, newlines, IsPlace, place_behind}
use Rattle.herm_compile.specs.declared.places.Place.{Place}

by_tests : (b c : Bool) (x y : ℕ) → x ≡ cond c (suc y) y → cond b (suc x) x ≡ cond c (suc (cond b (suc y) y)) (cond b (suc y) y)
by_tests true true x y e = ap suc e
by_tests true false x y e = ap suc e
by_tests false true x y e = e
by_tests false false x y e = e

newlines_push : (bytes : List ℕ) (byte : ℕ) → newlines (bytes ++ byte ∷ []) ≡ cond (is_newline byte) (suc (newlines bytes)) (newlines bytes)
newlines_push [] byte = refl
newlines_push (b ∷ bytes) byte = by_tests (is_newline b) (is_newline byte) (newlines (bytes ++ byte ∷ [])) (newlines bytes) (newlines_push bytes byte)

newlines_few : (bytes : List ℕ) → newlines bytes ≤ length bytes
newlines_few [] = omega arith
newlines_few (b ∷ bytes) = elim (is_newline b) as (λ (v : Bool). cond v (suc (newlines bytes)) (newlines bytes) ≤ suc (length bytes)) [ true ↦ omega (arith, newlines_few bytes) | false ↦ omega (arith, newlines_few bytes) ]

front_few : (p : ℕ → Bool) (bytes : List ℕ) → length (front p bytes) ≤ length bytes
front_few p [] = omega arith
front_few p (b ∷ bytes) = elim (p b) as (λ (v : Bool). length (cond v (b ∷ front p bytes) []) ≤ suc (length bytes)) [ true ↦ omega (arith, front_few p bytes) | false ↦ omega arith ]

pub place_small : (bytes : List ℕ) (place : Place) → IsPlace bytes place → (place.line ≤ suc place.offset) × (place.column ≤ suc place.offset)
place_small bytes place p =
    let t : length (take place.offset bytes) ≤ place.offset = omega (arith, length-take place.offset bytes) in (
      omega (arith, p.line_is, newlines_few (take place.offset bytes)),
      omega (arith, p.column_is, front_few no_newline (reverse (take place.offset bytes)), length-reverse (take place.offset bytes)),
    )

pub place_moves : (bytes : List ℕ) (place : Place) → IsPlace bytes place → place.offset < length bytes → IsPlace bytes (place_behind place (get_or bytes place.offset 0))
place_moves bytes place p l =
    let o = place.offset in
    let byte = get_or bytes o 0 in
    let t : take (suc o) bytes ≡ take o bytes ++ byte ∷ [] = take-suc bytes o 0 l in
    let n : newlines (take (suc o) bytes) ≡ cond (is_newline byte) (suc (newlines (take o bytes))) (newlines (take o bytes)) = rw t (newlines_push (take o bytes) byte) in
    let r : reverse (take (suc o) bytes) ≡ byte ∷ reverse (take o bytes) = rw t (reverse-append (take o bytes) (byte ∷ [])) in
    let split : (b : Bool) → is_newline byte ≡ b → IsPlace bytes (cond b (record { offset = suc o; line = suc place.line; column = 1 }) (record { offset = suc o; line = place.line; column = suc place.column })) =
    λ b e. elim b as (λ (v : Bool). is_newline byte ≡ v → IsPlace bytes (cond v (record { offset = suc o; line = suc place.line; column = 1 }) (record { offset = suc o; line = place.line; column = suc place.column }))) [
      | true ↦ λ e. record { within = l; line_is = ap suc p.line_is ∙ ap suc (sym (rw e at n)); column_is = ap suc (sym (ap (λ (x : List ℕ). length (front no_newline x)) r ∙ rw e refl)) }
      | false ↦ λ e. record { within = l; line_is = p.line_is ∙ ap suc (sym (rw e at n)); column_is = ap suc p.column_is ∙ ap suc (sym (ap (λ (x : List ℕ). length (front no_newline x)) r ∙ rw e refl)) }
    ] e in
    split (is_newline byte) refl

abbrev a_place : ℕ → ℕ → ℕ → Place
a_place offset line column = record { offset = offset; line = line; column = column }

pub behind_offset : (place : Place) (byte : ℕ) → (place_behind place byte).offset ≡ suc place.offset
behind_offset place byte = elim (is_newline byte) as (λ (v : Bool). (cond v (a_place (suc place.offset) (suc place.line) 1) (a_place (suc place.offset) place.line (suc place.column))).offset ≡ suc place.offset) [ true ↦ refl | false ↦ refl ]
