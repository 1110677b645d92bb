-- The readers of expressions, level by level.
use Rattle.std.proofs.Common.{◌≡◌, ℕ, zero, suc, Bool, true, false, not, ◌&&◌, ◌⊎◌, inl, inr, List, [], ◌∷◌, ◌++◌, Option, Some, None, nat_eq, true≢false, refl, sym, ap, ◌∙◌}
use Rattle.std.proofs.lemmas.Bool.{and_parts, and_from}
use Rattle.herm_readers.specs.Reader.{Reader, Rule, Reads, ahead}
use Rattle.herm_readers.specs.Combinators.{passes, nothing, nothing_rule, one, one_rule, sequence, sequence_rule, preceded, preceded_rule, terminated, terminated_rule, choice, choice_rule, many, many_fits, many_spelling, many_ends, many_rule}
use Rattle.herm_readers.specs.laws.ReaderLaws.{IsWritten}
use Rattle.herm_readers.proofs.Simple.{nothing_reads, changed_reads}
use Rattle.herm_readers.proofs.Sequences.{sequence_reads}
use Rattle.herm_readers.proofs.Marks.{leading_reads, closing_reads}
use Rattle.herm_readers.proofs.Choices.{choice_reads}
use Rattle.herm_readers.proofs.Lists.{many_reads}
use Rattle.herm_alphabet.specs.declared.keyword.Keyword.TheVariants.{KwLength, KwSize, KwText}
use Rattle.herm_alphabet.specs.declared.sign.Mark.TheVariants.{ParenOpen, ParenClose}
use Rattle.herm_syntax.specs.Symbols.{Symbol, is, is_operator, minus, star, plus, equal, paren_open, paren_close}
use Rattle.herm_syntax.specs.KeywordSymbols.{kw_size, kw_text, kw_length, kw_and, kw_or}
use Rattle.herm_syntax.specs.Trees.{Path, Integer, Text, Boolean, Tag, Atom, Constant, Place, Expression, Chain, Compare, Unary, Operands, NoOperand, Operand, NoComparison, With, Primary, Simple, Size, Paren, TextOf, LengthOf}
use Rattle.herm_syntax.specs.Spelling.{expression, operands, primary}
use Rattle.herm_syntax.specs.Fitting.{is_sign, expression_fits, operands_fit, comparison_fits, primary_fits}
use Rattle.herm_syntax.specs.ReadExpressions.{pick_by, path_rule, read_path, atom_rule, read_atom, expression_ends, operands_end, primary_ends, expression_rule, primary_rule, in_parens, simple_of, read_simple, primary_of, read_primary, unary_of, read_unary, operands_of, chain_of, read_chain, comparison_of, read_comparison, read_levels, read_expression}
use Rattle.herm_syntax.proofs.Names.{keyword_test, sign_test, pick_by_reads}
use Rattle.herm_syntax.proofs.Paths.{path_reads, atom_reads, path_stops}
use Rattle.herm_syntax.proofs.Stops.{expression_stops}

-- What `(` and `)` hold.
abbrev pub parens_rule : {A : Type 0} → Rule Symbol A → Rule Symbol A
parens_rule rule = preceded_rule paren_open (terminated_rule paren_close rule)

pub parens_reads : {A : Type 0} → (rule : Rule Symbol A) (read : Reader Symbol A) → Reads rule read → Reads (parens_rule rule) (in_parens read)
parens_reads rule read reads = leading_reads paren_open (is paren_open) (terminated_rule paren_close rule) (terminated (is paren_close) read) (sign_test ParenOpen)
    (closing_reads paren_close (is paren_close) rule read (sign_test ParenClose) reads)

-- Operands with no expression in them.
abbrev simple_parts : Rule Symbol (Path ⊎ Atom)
simple_parts = choice_rule (is kw_size) (preceded_rule kw_size (parens_rule path_rule)) atom_rule

simple_fits : (found : Path ⊎ Atom) → simple_parts.fits found ≡ true → primary_fits (simple_of found) 0 ≡ true
simple_fits (inl p) f = f
simple_fits (inr a) f = f

simple_spelled : (found : Path ⊎ Atom) → simple_parts.fits found ≡ true → primary (simple_of found) ≡ simple_parts.spelling found
simple_spelled (inl p) f = refl
simple_spelled (inr a) f = refl

simple_ended : (found : Path ⊎ Atom) (beyond : Option Symbol) → simple_parts.fits found ≡ true → primary_ends (simple_of found) beyond ≡ simple_parts.ends found beyond
simple_ended (inl p) beyond f = sym (path_stops p (Some paren_close) refl)
simple_ended (inr (Constant (Integer n))) beyond f = refl
simple_ended (inr (Constant (Text letters))) beyond f = refl
simple_ended (inr (Constant (Boolean true))) beyond f = refl
simple_ended (inr (Constant (Boolean false))) beyond f = refl
simple_ended (inr (Constant (Tag name value))) beyond f = refl
simple_ended (inr (Place [])) beyond f = absurd (cc)
simple_ended (inr (Place (variable ∷ parts))) beyond f = refl

simple_back : (p : Primary) → primary_fits p 0 ≡ true → (found : Path ⊎ Atom) × (simple_parts.fits found ≡ true) × (simple_of found ≡ p)
simple_back (Simple a) f = (inr a, f, refl)
simple_back (Size p) f = (inl p, f, refl)
simple_back (Paren e) f = absurd (cc)
simple_back (TextOf e) f = absurd (cc)
simple_back (LengthOf e) f = absurd (cc)

pub simple_reads : Reads (primary_rule 0) read_simple
simple_reads = changed_reads simple_of simple_parts (primary_rule 0) (choice (is kw_size) (preceded (is kw_size) (in_parens read_path)) read_atom)
    (record { fits = simple_fits; spelling = simple_spelled; ends = simple_ended; back = simple_back })
    (choice_reads (is kw_size) (preceded_rule kw_size (parens_rule path_rule)) atom_rule (preceded (is kw_size) (in_parens read_path)) read_atom
    (leading_reads kw_size (is kw_size) (parens_rule path_rule) (in_parens read_path) (keyword_test KwSize) (parens_reads path_rule read_path path_reads)) atom_reads)

-- Operands with an expression in them, one level deeper.
module _ (levels : ℕ) (read : Reader Symbol Expression) (reads : Reads (expression_rule 5 levels) read) where
  abbrev deeper : Rule Symbol Expression
  deeper = parens_rule (expression_rule 5 levels)

  abbrev primary_parts : Rule Symbol (Expression ⊎ (Expression ⊎ (Expression ⊎ Primary)))
  primary_parts = choice_rule (is paren_open) deeper (choice_rule (is kw_text) (preceded_rule kw_text deeper) (choice_rule (is kw_length) (preceded_rule kw_length deeper) (primary_rule 0)))

  simple_deeper : (p : Primary) → primary_fits p 0 ≡ true → primary_fits p (suc levels) ≡ true
  simple_deeper (Simple a) f = f
  simple_deeper (Size p) f = f
  simple_deeper (Paren e) f = absurd (cc)
  simple_deeper (TextOf e) f = absurd (cc)
  simple_deeper (LengthOf e) f = absurd (cc)

  primary_fits_of : (found : Expression ⊎ (Expression ⊎ (Expression ⊎ Primary))) → primary_parts.fits found ≡ true → primary_fits (primary_of found) (suc levels) ≡ true
  primary_fits_of (inl e) f = f
  primary_fits_of (inr (inl e)) f = f
  primary_fits_of (inr (inr (inl e))) f = f
  primary_fits_of (inr (inr (inr p))) f = simple_deeper p f

  primary_spelled : (found : Expression ⊎ (Expression ⊎ (Expression ⊎ Primary))) → primary_parts.fits found ≡ true → primary (primary_of found) ≡ primary_parts.spelling found
  primary_spelled (inl e) f = refl
  primary_spelled (inr (inl e)) f = refl
  primary_spelled (inr (inr (inl e))) f = refl
  primary_spelled (inr (inr (inr p))) f = refl

  closed : (e : Expression) → expression_fits e 5 levels ≡ true → true ≡ expression_ends e 5 (Some paren_close)
  closed e f = sym (expression_stops e 5 levels (Some paren_close) f refl)

  primary_ended : (found : Expression ⊎ (Expression ⊎ (Expression ⊎ Primary))) (beyond : Option Symbol) → primary_parts.fits found ≡ true → primary_ends (primary_of found) beyond ≡ primary_parts.ends found beyond
  primary_ended (inl e) beyond f = closed e f
  primary_ended (inr (inl e)) beyond f = closed e f
  primary_ended (inr (inr (inl e))) beyond f = closed e f
  primary_ended (inr (inr (inr (Simple (Constant (Integer n)))))) beyond f = refl
  primary_ended (inr (inr (inr (Simple (Constant (Text letters)))))) beyond f = refl
  primary_ended (inr (inr (inr (Simple (Constant (Boolean true)))))) beyond f = refl
  primary_ended (inr (inr (inr (Simple (Constant (Boolean false)))))) beyond f = refl
  primary_ended (inr (inr (inr (Simple (Constant (Tag name value)))))) beyond f = refl
  primary_ended (inr (inr (inr (Simple (Place []))))) beyond f = absurd (cc)
  primary_ended (inr (inr (inr (Simple (Place (variable ∷ parts)))))) beyond f = refl
  primary_ended (inr (inr (inr (Size p)))) beyond f = refl
  primary_ended (inr (inr (inr (Paren e)))) beyond f = absurd (cc)
  primary_ended (inr (inr (inr (TextOf e)))) beyond f = absurd (cc)
  primary_ended (inr (inr (inr (LengthOf e)))) beyond f = absurd (cc)

  primary_back : (p : Primary) → primary_fits p (suc levels) ≡ true → (found : Expression ⊎ (Expression ⊎ (Expression ⊎ Primary))) × (primary_parts.fits found ≡ true) × (primary_of found ≡ p)
  primary_back (Simple a) f = (inr (inr (inr (Simple a))), f, refl)
  primary_back (Size p) f = (inr (inr (inr (Size p))), f, refl)
  primary_back (Paren e) f = (inl e, f, refl)
  primary_back (TextOf e) f = (inr (inl e), f, refl)
  primary_back (LengthOf e) f = (inr (inr (inl e)), f, refl)

  pub primary_reads : Reads (primary_rule (suc levels)) (read_primary read)
  primary_reads =
      let inside = parens_reads (expression_rule 5 levels) read reads in
      changed_reads primary_of primary_parts (primary_rule (suc levels))
      (choice (is paren_open) (in_parens read) (choice (is kw_text) (preceded (is kw_text) (in_parens read)) (choice (is kw_length) (preceded (is kw_length) (in_parens read)) read_simple)))
      (record { fits = primary_fits_of; spelling = primary_spelled; ends = primary_ended; back = primary_back })
      (choice_reads (is paren_open) deeper (choice_rule (is kw_text) (preceded_rule kw_text deeper) (choice_rule (is kw_length) (preceded_rule kw_length deeper) (primary_rule 0)))
      (in_parens read) (choice (is kw_text) (preceded (is kw_text) (in_parens read)) (choice (is kw_length) (preceded (is kw_length) (in_parens read)) read_simple)) inside
      (choice_reads (is kw_text) (preceded_rule kw_text deeper) (choice_rule (is kw_length) (preceded_rule kw_length deeper) (primary_rule 0))
      (preceded (is kw_text) (in_parens read)) (choice (is kw_length) (preceded (is kw_length) (in_parens read)) read_simple)
      (leading_reads kw_text (is kw_text) deeper (in_parens read) (keyword_test KwText) inside)
      (choice_reads (is kw_length) (preceded_rule kw_length deeper) (primary_rule 0) (preceded (is kw_length) (in_parens read)) read_simple
      (leading_reads kw_length (is kw_length) deeper (in_parens read) (keyword_test KwLength) inside) simple_reads)))

-- A sign before an operand.
module _ (levels : ℕ) (read : Reader Symbol Primary) (reads : Reads (primary_rule levels) read) where
  abbrev signed : Rule Symbol (Symbol × Primary)
  signed = sequence_rule (one_rule is_sign (λ x. x)) (primary_rule levels)

  abbrev unary_parts : Rule Symbol ((Symbol × Primary) ⊎ Primary)
  unary_parts = choice_rule is_sign signed (primary_rule levels)

  unary_fits : (found : (Symbol × Primary) ⊎ Primary) → unary_parts.fits found ≡ true → expression_fits (unary_of found) 0 levels ≡ true
  unary_fits (inl found) f = f
  unary_fits (inr p) f = f

  unary_spelled : (found : (Symbol × Primary) ⊎ Primary) → unary_parts.fits found ≡ true → expression (unary_of found) ≡ unary_parts.spelling found
  unary_spelled (inl found) f = refl
  unary_spelled (inr p) f = refl

  with_sign : (b c : Bool) → b ≡ true → c ≡ (b && c)
  with_sign b c e = sym (ap (λ t. t && c) e)

  unary_ended : (found : (Symbol × Primary) ⊎ Primary) (beyond : Option Symbol) → unary_parts.fits found ≡ true → expression_ends (unary_of found) 0 beyond ≡ unary_parts.ends found beyond
  unary_ended (inl found) beyond f = with_sign (is_sign found.0) (primary_ends found.1 beyond) (and_parts (is_sign found.0) (primary_fits found.1 levels) f).0
  unary_ended (inr (Simple (Constant (Integer n)))) beyond f = refl
  unary_ended (inr (Simple (Constant (Text letters)))) beyond f = refl
  unary_ended (inr (Simple (Constant (Boolean true)))) beyond f = refl
  unary_ended (inr (Simple (Constant (Boolean false)))) beyond f = refl
  unary_ended (inr (Simple (Constant (Tag name value)))) beyond f = refl
  unary_ended (inr (Simple (Place []))) beyond f = absurd (cc)
  unary_ended (inr (Simple (Place (variable ∷ parts)))) beyond f = refl
  unary_ended (inr (Size p)) beyond f = refl
  unary_ended (inr (Paren e)) beyond f = refl
  unary_ended (inr (TextOf e)) beyond f = refl
  unary_ended (inr (LengthOf e)) beyond f = refl

  unary_back : (e : Expression) → expression_fits e 0 levels ≡ true → (found : (Symbol × Primary) ⊎ Primary) × (unary_parts.fits found ≡ true) × (unary_of found ≡ e)
  unary_back (Chain first rest) f = absurd (cc)
  unary_back (Compare left right) f = absurd (cc)
  unary_back (Unary None p) f = (inr p, f, refl)
  unary_back (Unary (Some x) p) f = (inl (x, p), f, refl)

  pub unary_reads : Reads (expression_rule 0 levels) (read_unary read)
  unary_reads = changed_reads unary_of unary_parts (expression_rule 0 levels) (choice is_sign (sequence (one (pick_by is_sign)) read) read)
      (record { fits = unary_fits; spelling = unary_spelled; ends = unary_ended; back = unary_back })
      (choice_reads is_sign signed (primary_rule levels) (sequence (one (pick_by is_sign)) read) read
      (sequence_reads (one_rule is_sign (λ x. x)) (primary_rule levels) (one (pick_by is_sign)) read (pick_by_reads is_sign minus refl) reads) reads)

-- A chain over operands of the level below, and a comparison.
module _ (n levels : ℕ) (read : Reader Symbol Expression) (reads : Reads (expression_rule n levels) read) (example : Symbol) (is_example : is_operator (suc n) example ≡ true) where
  abbrev operand_parts : Rule Symbol (Symbol × Expression)
  operand_parts = sequence_rule (one_rule (is_operator (suc n)) (λ x. x)) (expression_rule n levels)

  operand_written : IsWritten operand_parts
  operand_written found f e = cc

  operand_reads : Reads operand_parts (sequence (one (pick_by (is_operator (suc n)))) read)
  operand_reads = sequence_reads (one_rule (is_operator (suc n)) (λ x. x)) (expression_rule n levels) (one (pick_by (is_operator (suc n)))) read (pick_by_reads (is_operator (suc n)) example is_example) reads

  abbrev chain_parts : Rule Symbol (Expression × List (Symbol × Expression))
  chain_parts = sequence_rule (expression_rule n levels) (many_rule (is_operator (suc n)) operand_parts)

  operands_fits_of : (found : List (Symbol × Expression)) → operands_fit (operands_of found) n levels ≡ many_fits operand_parts.fits found
  operands_fits_of [] = refl
  operands_fits_of (x ∷ found) = ap (λ b. (is_operator (suc n) x.0 && expression_fits x.1 n levels) && b) (operands_fits_of found)

  operands_spelled : (found : List (Symbol × Expression)) → operands (operands_of found) ≡ many_spelling operand_parts.spelling found
  operands_spelled [] = refl
  operands_spelled (x ∷ found) = ap (λ t. (x.0 ∷ expression x.1) ++ t) (operands_spelled found)

  operands_ended : (found : List (Symbol × Expression)) (beyond : Option Symbol) → operands_end (operands_of found) n beyond ≡ many_ends (is_operator (suc n)) operand_parts found beyond
  operands_ended [] beyond = refl
  operands_ended (x ∷ found) beyond =
      ap (λ t. is_operator (suc n) x.0 && (expression_ends x.1 n (ahead t beyond) && operands_end (operands_of found) n beyond)) (operands_spelled found)
      ∙ ap (λ b. is_operator (suc n) x.0 && (expression_ends x.1 n (ahead (many_spelling operand_parts.spelling found) beyond) && b)) (operands_ended found beyond)

  abbrev list_of : Operands → List (Symbol × Expression)
  list_of NoOperand = []
  list_of (Operand operator e rest) = (operator, e) ∷ list_of rest

  list_back : (rest : Operands) → operands_of (list_of rest) ≡ rest
  list_back NoOperand = refl
  list_back (Operand operator e rest) = ap (Operand operator e) (list_back rest)

  chain_fits_of : nat_eq n 2 ≡ false → (found : Expression × List (Symbol × Expression)) → chain_parts.fits found ≡ true → expression_fits (chain_of found) (suc n) levels ≡ true
  chain_fits_of chains found f =
      and_from (not (nat_eq n 2)) (expression_fits found.0 n levels && operands_fit (operands_of found.1) n levels) (ap not chains)
      (ap (λ b. expression_fits found.0 n levels && b) (operands_fits_of found.1) ∙ f)

  chain_spelled : (found : Expression × List (Symbol × Expression)) → chain_parts.fits found ≡ true → expression (chain_of found) ≡ chain_parts.spelling found
  chain_spelled found f = ap (λ t. expression found.0 ++ t) (operands_spelled found.1)

  chain_ended : (found : Expression × List (Symbol × Expression)) (beyond : Option Symbol) → chain_parts.fits found ≡ true → expression_ends (chain_of found) (suc n) beyond ≡ chain_parts.ends found beyond
  chain_ended found beyond f =
      ap (λ t. expression_ends found.0 n (ahead t beyond) && operands_end (operands_of found.1) n beyond) (operands_spelled found.1)
      ∙ ap (λ b. expression_ends found.0 n (ahead (many_spelling operand_parts.spelling found.1) beyond) && b) (operands_ended found.1 beyond)

  chain_back : nat_eq n 2 ≡ false → (e : Expression) → expression_fits e (suc n) levels ≡ true → (found : Expression × List (Symbol × Expression)) × (chain_parts.fits found ≡ true) × (chain_of found ≡ e)
  chain_back chains (Chain first rest) f =
      let fit = (and_parts (not (nat_eq n 2)) (expression_fits first n levels && operands_fit rest n levels) f).1 in
      let listed : operands_fit rest n levels ≡ many_fits operand_parts.fits (list_of rest) = ap (λ t. operands_fit t n levels) (sym (list_back rest)) ∙ operands_fits_of (list_of rest) in
      ((first, list_of rest), ap (λ b. expression_fits first n levels && b) (sym listed) ∙ fit, ap (Chain first) (list_back rest))
  chain_back chains (Compare left right) f =
      let compared : nat_eq n 2 ≡ true = (and_parts (nat_eq n 2) (expression_fits left n levels && comparison_fits right n levels) f).0 in
      absurd (true≢false (sym compared ∙ chains))
  chain_back chains (Unary operator p) f = absurd (cc)

  pub chain_reads : nat_eq n 2 ≡ false → Reads (expression_rule (suc n) levels) (read_chain (suc n) read)
  chain_reads chains = changed_reads chain_of chain_parts (expression_rule (suc n) levels) (sequence read (many (is_operator (suc n)) (sequence (one (pick_by (is_operator (suc n)))) read)))
      (record { fits = chain_fits_of chains; spelling = chain_spelled; ends = chain_ended; back = chain_back chains })
      (sequence_reads (expression_rule n levels) (many_rule (is_operator (suc n)) operand_parts) read (many (is_operator (suc n)) (sequence (one (pick_by (is_operator (suc n)))) read)) reads
      (many_reads (is_operator (suc n)) operand_parts (sequence (one (pick_by (is_operator (suc n)))) read) operand_written operand_reads))

  abbrev comparison_parts : Rule Symbol (Expression × ((Symbol × Expression) ⊎ Unit {0}))
  comparison_parts = sequence_rule (expression_rule n levels) (choice_rule (is_operator (suc n)) operand_parts nothing_rule)

  comparison_fits_of : nat_eq n 2 ≡ true → (found : Expression × ((Symbol × Expression) ⊎ Unit {0})) → comparison_parts.fits found ≡ true → expression_fits (comparison_of found) (suc n) levels ≡ true
  comparison_fits_of compares (e, inl x) f = and_from (nat_eq n 2) (expression_fits e n levels && (is_operator (suc n) x.0 && expression_fits x.1 n levels)) compares f
  comparison_fits_of compares (e, inr none) f = and_from (nat_eq n 2) (expression_fits e n levels && true) compares f

  comparison_spelled : (found : Expression × ((Symbol × Expression) ⊎ Unit {0})) → comparison_parts.fits found ≡ true → expression (comparison_of found) ≡ comparison_parts.spelling found
  comparison_spelled (e, inl x) f = refl
  comparison_spelled (e, inr none) f = refl

  no_more : (b : Bool) → b ≡ (b && true)
  no_more true = refl
  no_more false = refl

  comparison_ended : (found : Expression × ((Symbol × Expression) ⊎ Unit {0})) (beyond : Option Symbol) → comparison_parts.fits found ≡ true → expression_ends (comparison_of found) (suc n) beyond ≡ comparison_parts.ends found beyond
  comparison_ended (e, inl x) beyond f = refl
  comparison_ended (e, inr none) beyond f = ap (λ b. expression_ends e n beyond && b) (no_more (not (passes (is_operator (suc n)) beyond)))

  comparison_back : nat_eq n 2 ≡ true → (e : Expression) → expression_fits e (suc n) levels ≡ true → (found : Expression × ((Symbol × Expression) ⊎ Unit {0})) × (comparison_parts.fits found ≡ true) × (comparison_of found ≡ e)
  comparison_back compares (Chain first rest) f =
      let chains : not (nat_eq n 2) ≡ true = (and_parts (not (nat_eq n 2)) (expression_fits first n levels && operands_fit rest n levels) f).0 in
      absurd (true≢false (sym chains ∙ ap not compares))
  comparison_back compares (Compare left NoComparison) f = ((left, inr tt), (and_parts (nat_eq n 2) (expression_fits left n levels && true) f).1, refl)
  comparison_back compares (Compare left (With operator e)) f =
      ((left, inl (operator, e)), (and_parts (nat_eq n 2) (expression_fits left n levels && (is_operator (suc n) operator && expression_fits e n levels)) f).1, refl)
  comparison_back compares (Unary operator p) f = absurd (cc)

  pub comparison_reads : nat_eq n 2 ≡ true → Reads (expression_rule (suc n) levels) (read_comparison (suc n) read)
  comparison_reads compares = changed_reads comparison_of comparison_parts (expression_rule (suc n) levels)
      (sequence read (choice (is_operator (suc n)) (sequence (one (pick_by (is_operator (suc n)))) read) nothing))
      (record { fits = comparison_fits_of compares; spelling = comparison_spelled; ends = comparison_ended; back = comparison_back compares })
      (sequence_reads (expression_rule n levels) (choice_rule (is_operator (suc n)) operand_parts nothing_rule) read (choice (is_operator (suc n)) (sequence (one (pick_by (is_operator (suc n)))) read) nothing) reads
      (choice_reads (is_operator (suc n)) operand_parts nothing_rule (sequence (one (pick_by (is_operator (suc n)))) read) nothing operand_reads (nothing_reads Symbol)))

pub levels_reads : (levels : ℕ) (read : Reader Symbol Primary) → Reads (primary_rule levels) read → Reads (expression_rule 5 levels) (read_levels read)
levels_reads levels read reads =
    let unary = unary_reads levels read reads in
    let product = chain_reads 0 levels (read_unary read) unary star refl refl in
    let sum = chain_reads 1 levels (read_chain 1 (read_unary read)) product plus refl refl in
    let compared = comparison_reads 2 levels (read_chain 2 (read_chain 1 (read_unary read))) sum equal refl refl in
    let both = chain_reads 3 levels (read_comparison 3 (read_chain 2 (read_chain 1 (read_unary read)))) compared kw_and refl refl in
    chain_reads 4 levels (read_chain 4 (read_comparison 3 (read_chain 2 (read_chain 1 (read_unary read))))) both kw_or refl refl

pub expression_reads : (levels : ℕ) → Reads (expression_rule 5 levels) (read_expression levels)
expression_reads zero = levels_reads 0 read_simple simple_reads
expression_reads (suc levels) = levels_reads (suc levels) (read_primary (read_expression levels)) (primary_reads levels (read_expression levels) (expression_reads levels))
