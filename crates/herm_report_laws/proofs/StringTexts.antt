-- A string is read back from its text.
use Rattle.std.proofs.Common.{◌≡◌, ℕ, List, [], ◌∷◌, ◌++◌, false, flat_map, refl, sym, ap, ◌∙◌, arith, append_assoc}
use Rattle.std.proofs.lemmas.Grind.{common_steps}
use Rattle.std.proofs.lemmas.List.{append-nil}
use Rattle.std.specs.Prelude.{⊤}
use Rattle.herm_model.specs.Escapes.{escaped}
use Rattle.herm_model.specs.Values.{a_scalar, a_text, Cell, cell, no_parts}
use Rattle.herm_model.specs.ValueTexts.{text_of}
use Rattle.herm_text.specs.StringsReadBack.{escaped_all, quoted, unescaped, unquoted}

unescaped-byte : (b : ℕ) (rest : List ℕ) → unescaped false (escaped b ++ rest) ≡ b ∷ unescaped false rest
unescaped-byte b rest = grind (arith, common_steps)

unescaped-escaped : (s : List ℕ) → unescaped false (escaped_all s ++ 34 ∷ []) ≡ s
unescaped-escaped [] = refl
unescaped-escaped (b ∷ bs) =
    rw (append_assoc (escaped b) (escaped_all bs) (34 ∷ []), unescaped-byte b (escaped_all bs ++ 34 ∷ [])) (ap (λ (t : List ℕ). b ∷ t) (unescaped-escaped bs))

unquoted-quoted : (s : List ℕ) → unquoted (quoted s) ≡ s
unquoted-quoted s = unescaped-escaped s

escaped-same : (s : List ℕ) → escaped_all s ≡ flat_map escaped s
escaped-same [] = refl
escaped-same (b ∷ s) = ap (λ t. escaped b ++ t) (escaped-same s)

abbrev string_of : List ℕ → Cell ⊤
string_of s = cell tt (a_scalar (a_text s)) no_parts

quoted-text : (s : List ℕ) → quoted s ≡ text_of (string_of s)
quoted-text s = ap (λ t. 34 ∷ (t ++ 34 ∷ [])) (escaped-same s) ∙ ap (34 ∷◌) (sym (append-nil (flat_map escaped s ++ 34 ∷ [])))

pub read-back : (s : List ℕ) → unquoted (text_of (string_of s)) ≡ s
read-back s = ap unquoted (sym (quoted-text s)) ∙ unquoted-quoted s
