-- The answers for one list of tokens exclude one another, and each has one place.
use Rattle.std.proofs.Common.{◌≡◌, ℕ, ◌<◌, ◌≤◌, List, [], ◌∷◌, ◌++◌, map, length, refl, sym, ap, ◌∙◌, arith, append_assoc, length-append, ⊎_elim}
use Rattle.std.proofs.lemmas.Bool.{cases_lt}
use Rattle.herm_readers.specs.BracketBalance.{IsTooDeep, IsWithin}
use Rattle.herm_readers.proofs.Nesting.{finds_within}
use Rattle.herm_alphabet.specs.declared.token.Token.{Token}
use Rattle.herm_syntax.specs.Symbols.{Symbol, side}
use Rattle.herm_syntax.specs.View.{module_view}
use Rattle.herm_syntax.proofs.Numbers.{one_program}
use Rattle.herm_parser.specs.Gives.{kinds}
use Rattle.herm_parser.specs.BracketDepth.{most_brackets, IsNested}
use Rattle.herm_parser.specs.TokenPlaces.{place_of}
use Rattle.herm_parser.specs.SyntaxFaults.{IsMisspelled}
use Rattle.herm_parser.specs.Laws.{HasOneParse, ParsedHasNoFault, HasOneFault}
use Rattle.herm_parser.specs.declared.fault.ParseFault.TheVariants.{Syntax, Nesting, Memory}

pub one_parse : HasOneParse
one_parse tokens a b of_a of_b = one_program a b of_a.program of_b.program (sym of_a.spelled ∙ of_b.spelled)

module _ (bound : ℕ) (symbols : List Symbol) where
  not_within : (P : Type 0) (count : ℕ) → IsTooDeep side bound symbols count → IsWithin side bound symbols → P
  not_within P count deep within =
      let here = within (deep.front ++ deep.x ∷ []) deep.behind (deep.whole ∙ sym (append_assoc deep.front (deep.x ∷ []) deep.behind)) in
      absurd (omega (arith, here, deep.reached))

nested_not_within : (P : Type 0) (tokens : List Token) (offset : ℕ) → IsNested tokens offset → IsWithin side most_brackets (kinds tokens) → P
nested_not_within P tokens offset nested within = not_within most_brackets (kinds tokens) P nested.left nested.deep within

pub parsed_has_no_fault : ParsedHasNoFault
parsed_has_no_fault tokens modules (Nesting offset) parsed nested =
    nested_not_within (Nesting offset ≡ Memory) tokens offset nested (finds_within Symbol side most_brackets (kinds tokens) parsed.within)
parsed_has_no_fault tokens modules (Syntax offset) parsed misspelled = absurd (misspelled.none (map module_view modules) parsed.program.fits (sym parsed.spelled))
parsed_has_no_fault tokens modules Memory parsed memory = refl

-- Of two ways to cut a list, the one that leaves fewer behind goes beyond the first symbol that the other leaves.
beyond : (front other : List Symbol) (x : Symbol) (behind left : List Symbol) → front ++ x ∷ behind ≡ other ++ left → length left ≤ length behind → (more : List Symbol) × (other ≡ front ++ x ∷ more)
beyond [] [] x behind left e l = absurd (omega (arith, ap length e, l))
beyond [] (y ∷ other) x behind left e l =
    let same : y ≡ x = cc in
    (other, ap (λ t. t ∷ other) same)
beyond (z ∷ front) [] x behind left e l = absurd (omega (arith, ap length e, length-append front (x ∷ behind), l))
beyond (z ∷ front) (y ∷ other) x behind left e l =
    let same : y ≡ z = cc in
    let tails : front ++ x ∷ behind ≡ other ++ left = cc in
    let inner = beyond front other x behind left tails l in
    (inner.0, ap (λ t. t ∷ other) same ∙ ap (λ t. z ∷ t) inner.1)

module _ (tokens : List Token) (a b : ℕ) (m : IsMisspelled tokens a) (n : IsMisspelled tokens b) where
  misspelled_at : (P : Type 0) (left : List Symbol) → kinds tokens ≡ n.begins.front ++ left → length left ≡ n.left → m.left < n.left → P
  misspelled_at P [] whole counted less = absurd (omega (arith, counted, less))
  misspelled_at P (x ∷ behind) whole counted less =
      let more = beyond n.begins.front m.begins.front x behind m.begins.left (sym whole ∙ m.begins.whole) (omega (arith, m.begins.counted, counted, less)) in
      absurd (n.first n.begins.front x behind whole (sym counted) m.begins.modules (more.0 ++ m.begins.completion) m.begins.is_file
      (m.begins.completed ∙ (ap (λ t. t ++ m.begins.completion) more.1 ∙ append_assoc n.begins.front (x ∷ more.0) m.begins.completion)))

  misspelled_no_later : n.left ≤ m.left
  misspelled_no_later = ⊎_elim (misspelled_at (n.left ≤ m.left) n.begins.left n.begins.whole n.begins.counted) (λ h. h) (cases_lt m.left n.left)

module _ (symbols : List Symbol) (bound a b : ℕ) (m : IsTooDeep side bound symbols a) (n : IsTooDeep side bound symbols b) where
  deep_at : (P : Type 0) → a < b → P
  deep_at P less =
      let more = beyond n.front m.front n.x n.behind (m.x ∷ m.behind) (sym n.whole ∙ m.whole) (omega (arith, m.counted, n.counted, less)) in
      let here = m.before (n.front ++ n.x ∷ []) more.0 (more.1 ∙ sym (append_assoc n.front (n.x ∷ []) more.0)) in
      absurd (omega (arith, here, n.reached))

  deep_no_later : b ≤ a
  deep_no_later = ⊎_elim (deep_at (b ≤ a)) (λ h. h) (cases_lt a b)

pub one_fault : HasOneFault
one_fault tokens Memory b of_a of_b is_a is_b = absurd (of_a refl)
one_fault tokens (Nesting a) Memory of_a of_b is_a is_b = absurd (of_b refl)
one_fault tokens (Syntax a) Memory of_a of_b is_a is_b = absurd (of_b refl)
one_fault tokens (Nesting a) (Nesting b) of_a of_b m n =
    let same : m.left ≡ n.left = omega (arith, deep_no_later (kinds tokens) most_brackets m.left n.left m.deep n.deep, deep_no_later (kinds tokens) most_brackets n.left m.left n.deep m.deep) in
    ap Nesting (m.place ∙ (ap (place_of tokens) same ∙ sym n.place))
one_fault tokens (Syntax a) (Syntax b) of_a of_b m n =
    let same : m.left ≡ n.left = omega (arith, misspelled_no_later tokens a b m n, misspelled_no_later tokens b a n m) in
    ap Syntax (m.place ∙ (ap (place_of tokens) same ∙ sym n.place))
one_fault tokens (Nesting a) (Syntax b) of_a of_b m n = nested_not_within (Nesting a ≡ Syntax b) tokens a m (finds_within Symbol side most_brackets (kinds tokens) n.within)
one_fault tokens (Syntax a) (Nesting b) of_a of_b m n = nested_not_within (Syntax a ≡ Nesting b) tokens b n (finds_within Symbol side most_brackets (kinds tokens) m.within)
