-- The places of tokens in bytes.
use Rattle.std.specs.Prelude.{ℕ, zero, suc, ◌-◌, List, [], ◌∷◌, length, drop}
use Rattle.herm_alphabet.specs.declared.token.Token.{Token}

-- The end of the first of some tokens, and its start.
abbrev pub end_first : List Token → ℕ
end_first [] = 0
end_first (t ∷ tokens) = t.span.end

abbrev pub start_of : List Token → ℕ
start_of [] = 0
start_of (t ∷ tokens) = t.span.start

-- The place in bytes of the token from which on so many are left, or behind the last one where none is
-- (Language reference, "The place of a syntax fault").
abbrev pub place_of : List Token → ℕ → ℕ
place_of tokens zero = end_first (drop (length tokens - 1) tokens)
place_of tokens (suc left) = start_of (drop (length tokens - suc left) tokens)
