-- Where the reading of an expression stops: in front of every symbol of a higher level.
use Rattle.std.proofs.Common.{◌≡◌, ℕ, zero, suc, Bool, true, false, not, ◌&&◌, Option, Some, None, nat_eq, nat_lt, true≢false, refl, sym, ap, ◌∙◌, arith, ltb-true, lt-ltb, ne_eqb, eqb-true}
use Rattle.std.proofs.lemmas.Bool.{and_parts, and_from}
use Rattle.herm_readers.specs.Reader.{ahead}
use Rattle.herm_readers.specs.Combinators.{passes}
use Rattle.herm_alphabet.specs.KeywordLetters.{same_mark}
use Rattle.herm_alphabet.specs.declared.sign.Mark.{Mark}
use Rattle.herm_alphabet.specs.declared.sign.Mark.TheVariants.{Dot, Hash}
use Rattle.herm_alphabet.proofs.Keywords.{one_mark}
use Rattle.herm_syntax.specs.Symbols.{Symbol, Key, Sign, Identifier, Number, Quoted, is, is_operator, level, dot, hash}
use Rattle.herm_syntax.specs.Trees.{Expression, Chain, Compare, Unary, Operands, NoOperand, Operand, Comparison, NoComparison, With, Primary, Simple, Size, Paren, TextOf, LengthOf}
use Rattle.herm_syntax.specs.Spelling.{operands, comparison}
use Rattle.herm_syntax.specs.Fitting.{expression_fits, operands_fit, comparison_fits}
use Rattle.herm_syntax.specs.ReadExpressions.{expression_ends, operands_end, comparison_ends, primary_ends}
use Rattle.herm_syntax.proofs.Paths.{atom_stops}

-- Whether what is ahead is of a level above n.
abbrev pub above : ℕ → Option Symbol → Bool
above n None = true
above n (Some x) = nat_lt n (level x)

below_level : (n m : ℕ) → nat_lt (suc n) m ≡ true → nat_lt n m ≡ true
below_level n m e = lt-ltb n m (omega (arith, ltb-true (suc n) m e))

above_less : (n : ℕ) (beyond : Option Symbol) → above (suc n) beyond ≡ true → above n beyond ≡ true
above_less n None e = refl
above_less n (Some x) e = below_level n (level x) e

no_operator : (n : ℕ) (beyond : Option Symbol) → above (suc n) beyond ≡ true → passes (is_operator (suc n)) beyond ≡ false
no_operator n None e = refl
no_operator n (Some x) e = ne_eqb (level x) (suc n) (omega (arith, ltb-true (suc n) (level x) e))

operator_above : (n : ℕ) (x : Symbol) → is_operator (suc n) x ≡ true → above n (Some x) ≡ true
operator_above n x e = lt-ltb n (level x) (omega (arith, eqb-true (level x) (suc n) e))

not_sign_at : (m n : Mark) (b : Bool) → same_mark m n ≡ b → above 0 (Some (Sign n)) ≡ false → above 0 (Some (Sign m)) ≡ true → b ≡ false
not_sign_at m n true e low high =
    let same : m ≡ n = one_mark m n e in
    absurd (true≢false (sym high ∙ (ap (λ k. above 0 (Some (Sign k))) same ∙ low)))
not_sign_at m n false e low high = refl

no_dot : (beyond : Option Symbol) → above 0 beyond ≡ true → passes (is dot) beyond ≡ false
no_dot None e = refl
no_dot (Some (Key n)) e = refl
no_dot (Some (Sign m)) e = not_sign_at m Dot (same_mark m Dot) refl refl e
no_dot (Some (Identifier letters)) e = refl
no_dot (Some (Number n)) e = refl
no_dot (Some (Quoted letters)) e = refl

no_hash : (beyond : Option Symbol) → above 0 beyond ≡ true → passes (is hash) beyond ≡ false
no_hash None e = refl
no_hash (Some (Key n)) e = refl
no_hash (Some (Sign m)) e = not_sign_at m Hash (same_mark m Hash) refl refl e
no_hash (Some (Identifier letters)) e = refl
no_hash (Some (Number n)) e = refl
no_hash (Some (Quoted letters)) e = refl

-- What is ahead behind a first operand.
operands_above : (rest : Operands) (n levels : ℕ) (beyond : Option Symbol) → operands_fit rest n levels ≡ true → above n beyond ≡ true → above n (ahead (operands rest) beyond) ≡ true
operands_above NoOperand n levels beyond f e = e
operands_above (Operand operator x rest) n levels beyond f e =
    let parts = and_parts (is_operator (suc n) operator && expression_fits x n levels) (operands_fit rest n levels) f in
    operator_above n operator (and_parts (is_operator (suc n) operator) (expression_fits x n levels) parts.0).0

comparison_above : (right : Comparison) (n levels : ℕ) (beyond : Option Symbol) → comparison_fits right n levels ≡ true → above n beyond ≡ true → above n (ahead (comparison right) beyond) ≡ true
comparison_above NoComparison n levels beyond f e = e
comparison_above (With operator x) n levels beyond f e = operator_above n operator (and_parts (is_operator (suc n) operator) (expression_fits x n levels) f).0

primary_stops : (p : Primary) (beyond : Option Symbol) → above 0 beyond ≡ true → primary_ends p beyond ≡ true
primary_stops (Simple a) beyond e = atom_stops a beyond (no_dot beyond e) (no_hash beyond e)
primary_stops (Size p) beyond e = refl
primary_stops (Paren x) beyond e = refl
primary_stops (TextOf x) beyond e = refl
primary_stops (LengthOf x) beyond e = refl

mutual
  pub expression_stops : (e : Expression) (n levels : ℕ) (beyond : Option Symbol) → expression_fits e n levels ≡ true → above n beyond ≡ true → expression_ends e n beyond ≡ true
  expression_stops (Chain first rest) zero levels beyond f a = refl
  expression_stops (Chain first rest) (suc n) levels beyond f a =
      let guard = and_parts (not (nat_eq n 2)) (expression_fits first n levels && operands_fit rest n levels) f in
      let fit = and_parts (expression_fits first n levels) (operands_fit rest n levels) guard.1 in
      let below = above_less n beyond a in
      and_from (expression_ends first n (ahead (operands rest) beyond)) (operands_end rest n beyond)
      (expression_stops first n levels (ahead (operands rest) beyond) fit.0 (operands_above rest n levels beyond fit.1 below))
      (operands_stop rest n levels beyond fit.1 a)
  expression_stops (Compare left right) zero levels beyond f a = refl
  expression_stops (Compare left right) (suc n) levels beyond f a =
      let guard = and_parts (nat_eq n 2) (expression_fits left n levels && comparison_fits right n levels) f in
      let fit = and_parts (expression_fits left n levels) (comparison_fits right n levels) guard.1 in
      let below = above_less n beyond a in
      and_from (expression_ends left n (ahead (comparison right) beyond)) (comparison_ends right n beyond)
      (expression_stops left n levels (ahead (comparison right) beyond) fit.0 (comparison_above right n levels beyond fit.1 below))
      (comparison_stops right n levels beyond fit.1 a)
  expression_stops (Unary operator p) zero levels beyond f a = primary_stops p beyond a
  expression_stops (Unary operator p) (suc n) levels beyond f a = absurd (cc)

  operands_stop : (rest : Operands) (n levels : ℕ) (beyond : Option Symbol) → operands_fit rest n levels ≡ true → above (suc n) beyond ≡ true → operands_end rest n beyond ≡ true
  operands_stop NoOperand n levels beyond f a = ap not (no_operator n beyond a)
  operands_stop (Operand operator e rest) n levels beyond f a =
      let parts = and_parts (is_operator (suc n) operator && expression_fits e n levels) (operands_fit rest n levels) f in
      let fit = and_parts (is_operator (suc n) operator) (expression_fits e n levels) parts.0 in
      and_from (is_operator (suc n) operator) (expression_ends e n (ahead (operands rest) beyond) && operands_end rest n beyond) fit.0
      (and_from (expression_ends e n (ahead (operands rest) beyond)) (operands_end rest n beyond)
      (expression_stops e n levels (ahead (operands rest) beyond) fit.1 (operands_above rest n levels beyond parts.1 (above_less n beyond a)))
      (operands_stop rest n levels beyond parts.1 a))

  comparison_stops : (right : Comparison) (n levels : ℕ) (beyond : Option Symbol) → comparison_fits right n levels ≡ true → above (suc n) beyond ≡ true → comparison_ends right n beyond ≡ true
  comparison_stops NoComparison n levels beyond f a = ap not (no_operator n beyond a)
  comparison_stops (With operator e) n levels beyond f a =
      let fit = and_parts (is_operator (suc n) operator) (expression_fits e n levels) f in
      and_from (is_operator (suc n) operator) (expression_ends e n beyond) fit.0 (expression_stops e n levels beyond fit.1 (above_less n beyond a))
