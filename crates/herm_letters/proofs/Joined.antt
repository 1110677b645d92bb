-- Places with their texts, one after another.
use Rattle.std.proofs.Common.{◌≡◌, ◌<◌, ◌≤◌, ◌+◌, ℕ, zero, suc, List, [], ◌∷◌, ◌++◌, Option, Some, None, codes, length, get_or, drop, refl, sym, ap, ◌∙◌, arith, add-one, drop-cons}
use Rattle.herm_model.specs.Values.{Value}
use Rattle.herm_model.specs.ValueTexts.{text_of, parts_text}
use Rattle.herm_values.specs.Parts.{parts_from}
use Rattle.herm_letters.specs.PlaceTexts.{comma_behind}

-- the text of what is at a place
abbrev pub place_text : Option Value → List ℕ
place_text None = codes "_"
place_text (Some v) = text_of v

parts_first : (before : List ℕ) (o : Option Value) (os : List (Option Value)) → parts_text (parts_from (o ∷ os)) before ≡ before ++ (place_text o ++ parts_text (parts_from os) (codes ","))
parts_first before None os = refl
parts_first before (Some v) os = refl

-- so many places with what stands before each, and one more
pub parts_more : (os : List (Option Value)) (n : ℕ) → n < length os →
    parts_text (parts_from (drop n os)) (comma_behind n) ≡ comma_behind n ++ (place_text (get_or os n None) ++ parts_text (parts_from (drop (n + 1) os)) (comma_behind (n + 1)))
parts_more os n h =
    ap (λ xs. parts_text (parts_from xs) (comma_behind n)) (drop-cons os n None h)
    ∙ parts_first (comma_behind n) (get_or os n None) (drop (suc n) os)
    ∙ ap (λ k. comma_behind n ++ (place_text (get_or os n None) ++ parts_text (parts_from (drop k os)) (comma_behind k))) (sym (add-one n))

pub comma-behind : (n : ℕ) → 0 < n → comma_behind n ≡ 44 ∷ []
comma-behind zero h = let e : ⊥ = omega (arith, h) in absurd e
comma-behind (suc n) h = refl

pub no_comma-behind : (n : ℕ) → n ≤ 0 → comma_behind n ≡ []
no_comma-behind zero h = refl
no_comma-behind (suc n) h = let e : ⊥ = omega (arith, h) in absurd e

pub ruleset commas = (comma-behind, no_comma-behind)
