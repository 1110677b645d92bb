-- A code that is put at its place among those found.
use Rattle.std.proofs.Common.{◌≡◌, ℕ, zero, suc, ◌+◌, ◌<◌, List, [], ◌∷◌, ◌++◌, map, length, set, get_or, Option, None, refl, sym, ap, ◌∙◌, arith, length-append, append_assoc}
use Rattle.std.proofs.lemmas.List.{map-set, length-map}
use Rattle.std.proofs.Math.Seq.{map-set_same}
use Rattle.herm_base.specs.declared.word.Span.{Span}
use Rattle.herm_naming.specs.StatementFaults.{Code}
use Rattle.herm_numbers.specs.declared.fault.Judged.{Judged}
use Rattle.herm_numbers.specs.Faults.{found_code_view, codes_found, spans_found}

pub codes_set : (js : List Judged) (i : ℕ) (j : Judged) → codes_found (set js i j) ≡ set (codes_found js) i (found_code_view j.code)
codes_set js i j = map-set (λ (j : Judged). found_code_view j.code) js i j

pub spans_set : (js : List Judged) (i : ℕ) (j d : Judged) → j.span ≡ (get_or js i d).span → spans_found (set js i j) ≡ spans_found js
spans_set js i j d e = map-set_same (λ (j : Judged). j.span) js i j d e

put : (base within : List (Option Code)) (c d : Option Code) → set ((base ++ (c ∷ [])) ++ within) (length base) d ≡ base ++ ((d ∷ within) ++ [])
put [] within c d = ap (d ∷◌) (sym (append-nil within))
  where
    append-nil : (xs : List (Option Code)) → xs ++ [] ≡ xs
    append-nil [] = refl
    append-nil (x ∷ xs) = ap (x ∷◌) (append-nil xs)
put (b ∷ base) within c d = ap (b ∷◌) (put base within c d)

pub coded : (base first after whole within : List (Option Code)) (n : ℕ) (c d : Option Code) → n ≡ length base → first ≡ base ++ (c ∷ []) → after ≡ first ++ within → whole ≡ set after n d → whole ≡ base ++ ((d ∷ within) ++ [])
coded base first after whole within n c d l e f h =
    h ∙ (ap (λ xs. set xs n d) (f ∙ ap (λ xs. xs ++ within) e) ∙ (ap (λ k. set ((base ++ (c ∷ [])) ++ within) k d) l ∙ put base within c d))

pub placed_spans : (base first after whole within : List Span) (s : Span) → first ≡ base ++ (s ∷ []) → after ≡ first ++ within → whole ≡ after → whole ≡ base ++ ((s ∷ within) ++ [])
placed_spans base first after whole within s e f h = h ∙ (f ∙ (ap (λ xs. xs ++ within) e ∙ (append_assoc base (s ∷ []) within ∙ ap (λ xs. base ++ (s ∷ xs)) (sym (append-nil within)))))
  where
    append-nil : (xs : List Span) → xs ++ [] ≡ xs
    append-nil [] = refl
    append-nil (x ∷ xs) = ap (x ∷◌) (append-nil xs)

counts : (js : List Judged) → length js ≡ length (codes_found js)
counts js = sym (length-map js (λ (j : Judged). found_code_view j.code))

pub is_placed : (base after : List Judged) (first within : List (Option Code)) (c : Option Code) → first ≡ codes_found base ++ (c ∷ []) → codes_found after ≡ first ++ within → length base < length after
is_placed base after first within c e f =
    let a = counts base in
    let b = counts after in
    let g : length (codes_found after) ≡ length first + length within = ap length f ∙ length-append first within in
    let h : length first ≡ length (codes_found base) + 1 = ap length e ∙ length-append (codes_found base) (c ∷ []) in
    omega (arith, a, b, g, h)
