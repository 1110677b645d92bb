-- Readers of one symbol: keywords and signs, names, parts, literals, operators.
use Rattle.std.proofs.Common.{◌≡◌, Bool, true, false, not, if◌then◌else◌, Option, Some, None, is_some, refl, sym, ap, ◌∙◌, subst}
use Rattle.std.specs.Prelude.{codes}
use Rattle.herm_readers.specs.Reader.{Reads}
use Rattle.herm_readers.specs.Combinators.{one, one_rule}
use Rattle.herm_readers.specs.laws.ReaderLaws.{IsTestFor}
use Rattle.herm_readers.proofs.Simple.{one_reads}
use Rattle.herm_alphabet.specs.declared.keyword.Keyword.TheVariants.{KwFalse, KwTrue}
use Rattle.herm_alphabet.specs.KeywordLetters.{letters, keyword_of}
use Rattle.herm_alphabet.specs.declared.keyword.Keyword.{Keyword}
use Rattle.herm_alphabet.specs.declared.sign.Mark.{Mark}
use Rattle.herm_alphabet.proofs.Keywords.{keyword_of-letters, keyword_of-some, one_keyword, own_keyword, one_mark, own_mark}
use Rattle.herm_syntax.specs.Symbols.{Symbol, Key, Sign, Identifier, Number, Quoted, is_keyword, is}
use Rattle.herm_syntax.specs.KeywordSymbols.{kw_true, kw_false}
use Rattle.herm_syntax.specs.Trees.{Letters, Literal, Integer, Text, Boolean, Tag}
use Rattle.herm_syntax.specs.Spelling.{part_at, part}
use Rattle.herm_syntax.specs.Fitting.{is_name, any_part}
use Rattle.herm_syntax.specs.ReadExpressions.{pick_by, pick_name, pick_part, pick_constant, read_name, read_part, name_rule, part_rule}

pub keyword_alone : (k : Keyword) (y : Symbol) → is (Key k) y ≡ true → y ≡ Key k
keyword_alone k (Key other) e = ap Key (one_keyword other k e)
keyword_alone n (Sign m) e = absurd (cc)
keyword_alone n (Identifier letters) e = absurd (cc)
keyword_alone n (Number i) e = absurd (cc)
keyword_alone n (Quoted letters) e = absurd (cc)

pub keyword_test : (k : Keyword) → IsTestFor (Key k) (is (Key k))
keyword_test k = record { passed = own_keyword k; alone = keyword_alone k }

pub sign_alone : (n : Mark) (y : Symbol) → is (Sign n) y ≡ true → y ≡ Sign n
sign_alone n (Key m) e = absurd (cc)
sign_alone n (Sign m) e = ap Sign (one_mark m n e)
sign_alone n (Identifier letters) e = absurd (cc)
sign_alone n (Number i) e = absurd (cc)
sign_alone n (Quoted letters) e = absurd (cc)

pub sign_test : (n : Mark) → IsTestFor (Sign n) (is (Sign n))
sign_test n = record { passed = own_mark n; alone = sign_alone n }

-- A symbol that passes a test.
pub pick_by_from : (test : Symbol → Bool) (x tree : Symbol) (passed : Bool) → test x ≡ passed → (if passed then Some x else None) ≡ Some tree → (test tree ≡ true) × (x ≡ tree)
pick_by_from test x tree true p e = let same : x ≡ tree = cc in (ap test (sym same) ∙ p, same)
pick_by_from test x tree false p e = absurd (cc)

pub pick_by_reads : (test : Symbol → Bool) (example : Symbol) → test example ≡ true → Reads (one_rule test (λ x. x)) (one (pick_by test))
pick_by_reads test example fits = one_reads test (λ x. x) (pick_by test) (record {
  example = example;
  example_fits = fits;
  from = λ x tree e. pick_by_from test x tree (test x) refl e;
  back = λ tree f. ap (λ b. if b then Some tree else None) f;
})

-- Names.
name_from_at : (letters tree : Letters) (b : Bool) → is_keyword letters ≡ b → (if b then None else Some letters) ≡ Some tree → (is_name tree ≡ true) × (Identifier letters ≡ Identifier tree)
name_from_at letters tree true k e = absurd (cc)
name_from_at letters tree false k e =
    let same : letters ≡ tree = cc in
    (ap (λ t. is_name t) (sym same) ∙ ap not k, ap Identifier same)

pub name_from : (x : Symbol) (tree : Letters) → pick_name x ≡ Some tree → (is_name tree ≡ true) × (x ≡ Identifier tree)
name_from (Key n) tree e = absurd (cc)
name_from (Sign n) tree e = absurd (cc)
name_from (Identifier letters) tree e = name_from_at letters tree (is_keyword letters) refl e
name_from (Number n) tree e = absurd (cc)
name_from (Quoted letters) tree e = absurd (cc)

name_back_at : (letters : Letters) (b : Bool) → not b ≡ true → (if b then None else Some letters) ≡ Some letters
name_back_at letters true e = absurd (cc)
name_back_at letters false e = refl

-- An example of a name, and of a part.
abbrev pub some_name : Letters
some_name = codes "a"

pub some_name_fits : is_name some_name ≡ true
unfolding keyword_of
some_name_fits = refl

pub name_reads : Reads name_rule read_name
name_reads = one_reads is_name Identifier pick_name (record {
  example = some_name;
  example_fits = some_name_fits;
  from = name_from;
  back = λ tree f. name_back_at tree (is_keyword tree) f;
})

-- Parts.
pub part_of_name_at : (letters : Letters) (found : Option Keyword) → not (is_some found) ≡ true → part_at found letters ≡ Identifier letters
part_of_name_at letters None f = refl
part_of_name_at letters (Some n) f = absurd (cc)

pub part_from : (x : Symbol) (tree : Letters) → pick_part x ≡ Some tree → (any_part tree ≡ true) × (x ≡ part tree)
part_from (Key k) tree e =
    let same : letters k ≡ tree = cc in
    (refl, sym (ap part (sym same) ∙ ap (λ found. part_at found (letters k)) (keyword_of-letters k)))
part_from (Sign n) tree e = absurd (cc)
part_from (Identifier name) tree e =
    let from = name_from_at name tree (is_keyword name) refl e in
    (refl, from.1 ∙ sym (part_of_name_at tree (keyword_of tree) from.0))
part_from (Number n) tree e = absurd (cc)
part_from (Quoted letters) tree e = absurd (cc)

part_back_at : (text : Letters) (found : Option Keyword) → keyword_of text ≡ found → pick_part (part_at found text) ≡ Some text
part_back_at text None e = name_back_at text (is_keyword text) (ap (λ f. not (is_some f)) e)
part_back_at text (Some k) e = ap Some (sym (keyword_of-some text k e))

pub part_reads : Reads part_rule read_part
part_reads = one_reads any_part part pick_part (record {
  example = some_name;
  example_fits = refl;
  from = part_from;
  back = λ tree f. part_back_at tree (keyword_of tree) refl;
})

-- Literals of one symbol. An enumeration's value is none.
abbrev pub constant_fits : Literal → Bool
constant_fits (Integer n) = true
constant_fits (Text letters) = true
constant_fits (Boolean b) = true
constant_fits (Tag name value) = false

abbrev pub constant_symbol : Literal → Symbol
constant_symbol (Integer n) = Number n
constant_symbol (Text letters) = Quoted letters
constant_symbol (Boolean true) = kw_true
constant_symbol (Boolean false) = kw_false
constant_symbol (Tag name value) = Identifier name

boolean_from : (n : Keyword) (tree : Literal) (first second : Bool) → is kw_true (Key n) ≡ first → is kw_false (Key n) ≡ second →
    (if first then Some (Boolean true) else if second then Some (Boolean false) else None) ≡ Some tree → (constant_fits tree ≡ true) × (Key n ≡ constant_symbol tree)
boolean_from n tree true second p q e =
    let same : Boolean true ≡ tree = cc in
    subst (λ t. (constant_fits t ≡ true) × (Key n ≡ constant_symbol t)) same (refl, keyword_alone KwTrue (Key n) p)
boolean_from n tree false true p q e =
    let same : Boolean false ≡ tree = cc in
    subst (λ t. (constant_fits t ≡ true) × (Key n ≡ constant_symbol t)) same (refl, keyword_alone KwFalse (Key n) q)
boolean_from n tree false false p q e = absurd (cc)

pub constant_from : (x : Symbol) (tree : Literal) → pick_constant x ≡ Some tree → (constant_fits tree ≡ true) × (x ≡ constant_symbol tree)
constant_from (Key n) tree e = boolean_from n tree (is kw_true (Key n)) (is kw_false (Key n)) refl refl e
constant_from (Sign n) tree e = absurd (cc)
constant_from (Identifier letters) tree e = absurd (cc)
constant_from (Number n) tree e =
    let same : Integer n ≡ tree = cc in
    subst (λ t. (constant_fits t ≡ true) × (Number n ≡ constant_symbol t)) same (refl, refl)
constant_from (Quoted letters) tree e =
    let same : Text letters ≡ tree = cc in
    subst (λ t. (constant_fits t ≡ true) × (Quoted letters ≡ constant_symbol t)) same (refl, refl)

constant_back : (tree : Literal) → constant_fits tree ≡ true → pick_constant (constant_symbol tree) ≡ Some tree
constant_back (Integer n) f = refl
constant_back (Text letters) f = refl
constant_back (Boolean true) f = refl
constant_back (Boolean false) f = refl
constant_back (Tag name value) f = absurd (cc)

pub constant_reads : Reads (one_rule constant_fits constant_symbol) (one pick_constant)
constant_reads = one_reads constant_fits constant_symbol pick_constant (record {
  example = Boolean true;
  example_fits = refl;
  from = constant_from;
  back = constant_back;
})
