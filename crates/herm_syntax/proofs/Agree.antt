-- Readers of different levels agree where no more brackets are open than both have levels.
use Rattle.std.proofs.Common.{◌≡◌, ℕ, zero, suc, ◌<◌, Bool, true, false, if◌then◌else◌, List, Option, Some, None, nat_eq, true≢false, refl, sym, ap, ◌∙◌, arith}
use Rattle.herm_readers.specs.Reader.{Reader}
use Rattle.herm_readers.specs.Combinators.{nothing, one, sequence, preceded, terminated, separated}
use Rattle.herm_readers.specs.BracketBalance.{Neither}
use Rattle.herm_readers.proofs.Agreement.{Agrees, agree_return, agree_changed, agree_sequence, agree_depending, agree_one, agree_leading, agree_opening, agree_shutting, agree_closing, agree_bracketed, agree_choice, agree_many, agree_separated}
use Rattle.herm_alphabet.specs.KeywordLetters.{keyword_of}
use Rattle.herm_alphabet.specs.declared.keyword.Keyword.{Keyword}
use Rattle.herm_alphabet.specs.declared.sign.Mark.{Mark}
use Rattle.herm_alphabet.specs.declared.keyword.Keyword.TheVariants.{KwAs, KwCall, KwCallmessage, KwCase, KwCreate, KwDefinitions, KwElse, KwEnum, KwException, KwFor, KwFrom, KwFull, KwIf, KwIn, KwInit, KwInport, KwInto, KwKey, KwLeave, KwLength, KwNot, KwOf, KwOn, KwOutport, KwProcess, KwRaise, KwRaises, KwReceive, KwRecord, KwReturn, KwSelect, KwSize, KwTable, KwText, KwTo, KwTry, KwType, KwUnwrap, KwVar, KwVariant, KwWhen, KwWhile}
use Rattle.herm_alphabet.specs.declared.sign.Mark.TheVariants.{ParenOpen, ParenClose, BraceOpen, BraceClose, BracketOpen, BracketClose, Comma, Semicolon, Colon, Becomes, Dot, Hash, Equal, Minus}
use Rattle.herm_syntax.specs.Symbols.{Symbol, Key, Sign, Identifier, Number, Quoted, bracket_side, side, is, is_operator, sign_level, minus, paren_open, paren_close, brace_open, brace_close, bracket_open, bracket_close, comma, semicolon, colon, becomes, dot, hash, equal}
use Rattle.herm_syntax.specs.KeywordSymbols.{kw_not, kw_exception}
use Rattle.herm_syntax.specs.Trees.{Letters, Literal, Integer, Text, Boolean, Tag, Expression, Primary, Statements, Mode, In, Inout, Out}
use Rattle.herm_syntax.specs.Words.{Transfer, Moving, Uniting, Dissolving, Wrapping, Inserting, Connecting, Sending, Receiving, Touch, Making, Discarding, Revealing, Find, Removing, Getting, transfer, between, touch, find, pick_transfer, pick_touch, pick_find, is_transfer, is_touch, is_find, read_first_path, read_touched}
use Rattle.herm_syntax.specs.Spelling.{part_at, mode}
use Rattle.herm_syntax.specs.Fitting.{is_sign}
use Rattle.herm_syntax.specs.ReadExpressions.{pick_by, pick_name, pick_part, pick_constant, is_constant, read_name, read_part, read_dotted, path_of, read_path, read_component_path, atom_of, read_atom, in_parens, simple_of, read_simple, primary_of, read_primary, unary_of, read_unary, chain_of, read_chain, comparison_of, read_comparison, read_levels, read_expression}
use Rattle.herm_syntax.specs.ReadStatements.{read_end, in_braces, listed_of, listed, read_two_paths, read_one_path, read_keyed, read_unwrap, read_call, read_return, read_create, read_raise, read_leave, read_case_arm, read_handler, read_port_arm, some_arms_of, some_port_arms_of, read_case_arms, read_handlers, read_port_arms, otherwise_of, read_otherwise, read_plain, read_compound, is_plain, statement_of, read_statement, inside, statements_of, read_statements}
use Rattle.herm_syntax.specs.ReadModules.{read_field, pick_mode, read_param, fact_of, read_fact, written_of, if_written, read_facts, read_kept, read_raisings, shape_of, read_shape, item_of, read_item, read_variables, module_of, read_module, anything, read_file}
use Rattle.herm_syntax.proofs.Names.{keyword_alone, sign_alone, pick_by_from, name_from, part_from, constant_symbol, constant_from}
use Rattle.herm_syntax.proofs.Plain.{transfer_from, touch_from, find_from}
use Rattle.herm_syntax.proofs.Files.{mode_from}

-- The sides of the symbols that are read.
pub keyword_side : (n : Keyword) (x : Symbol) → is (Key n) x ≡ true → side x ≡ Neither
keyword_side n x p = ap side (keyword_alone n x p)

pub sign_side : (n : Mark) (x : Symbol) → is (Sign n) x ≡ true → side x ≡ bracket_side n
sign_side n x p = ap side (sign_alone n x p)

pub sign_operator_side : (m : Mark) (n : ℕ) → nat_eq 6 n ≡ false → nat_eq (sign_level m) n ≡ true → bracket_side m ≡ Neither
sign_operator_side ParenOpen n other p = absurd (true≢false (sym p ∙ other))
sign_operator_side ParenClose n other p = absurd (true≢false (sym p ∙ other))
sign_operator_side BraceOpen n other p = absurd (true≢false (sym p ∙ other))
sign_operator_side BraceClose n other p = absurd (true≢false (sym p ∙ other))
sign_operator_side BracketOpen n other p = absurd (true≢false (sym p ∙ other))
sign_operator_side BracketClose n other p = absurd (true≢false (sym p ∙ other))
sign_operator_side _ n other p = refl

pub operator_side : (n : ℕ) → nat_eq 6 n ≡ false → (x : Symbol) → is_operator n x ≡ true → side x ≡ Neither
operator_side n other (Key m) p = refl
operator_side n other (Sign m) p = sign_operator_side m n other p
operator_side n other (Identifier letters) p = refl
operator_side n other (Number i) p = refl
operator_side n other (Quoted letters) p = refl

pub is_sign_side_by : (x : Symbol) (b : Bool) → is minus x ≡ b → is_sign x ≡ true → side x ≡ Neither
is_sign_side_by x true e p = sign_side Minus x e
is_sign_side_by x false e p = keyword_side KwNot x (ap (λ b. if b then true else is kw_not x) (sym e) ∙ p)

pub is_sign_side : (x : Symbol) → is_sign x ≡ true → side x ≡ Neither
is_sign_side x p = is_sign_side_by x (is minus x) refl p

pub picked_side : (test : Symbol → Bool) → ((x : Symbol) → test x ≡ true → side x ≡ Neither) → (x tree : Symbol) → pick_by test x ≡ Some tree → side x ≡ Neither
picked_side test sides x tree e =
    let from = pick_by_from test x tree (test x) refl e in
    ap side from.1 ∙ sides tree from.0

pub name_side : (x : Symbol) (tree : Letters) → pick_name x ≡ Some tree → side x ≡ Neither
name_side x tree e = ap side (name_from x tree e).1

pub part_side_at : (letters : Letters) (found : Option Keyword) → side (part_at found letters) ≡ Neither
part_side_at letters None = refl
part_side_at letters (Some n) = refl

pub part_side : (x : Symbol) (tree : Letters) → pick_part x ≡ Some tree → side x ≡ Neither
part_side x tree e = ap side (part_from x tree e).1 ∙ part_side_at tree (keyword_of tree)

pub constant_symbol_side : (l : Literal) → side (constant_symbol l) ≡ Neither
constant_symbol_side (Integer n) = refl
constant_symbol_side (Text letters) = refl
constant_symbol_side (Boolean true) = refl
constant_symbol_side (Boolean false) = refl
constant_symbol_side (Tag name value) = refl

pub constant_side : (x : Symbol) (tree : Literal) → pick_constant x ≡ Some tree → side x ≡ Neither
constant_side x tree e = ap side (constant_from x tree e).1 ∙ constant_symbol_side tree

pub transfer_symbol_side : (t : Transfer) → side (transfer t) ≡ Neither
transfer_symbol_side Moving = refl
transfer_symbol_side Uniting = refl
transfer_symbol_side Dissolving = refl
transfer_symbol_side Wrapping = refl
transfer_symbol_side Inserting = refl
transfer_symbol_side Connecting = refl
transfer_symbol_side Sending = refl
transfer_symbol_side Receiving = refl

pub transfer_side : (x : Symbol) (tree : Transfer) → pick_transfer x ≡ Some tree → side x ≡ Neither
transfer_side x tree e = ap side (transfer_from x tree e) ∙ transfer_symbol_side tree

pub touch_symbol_side : (t : Touch) → side (touch t) ≡ Neither
touch_symbol_side Making = refl
touch_symbol_side Discarding = refl
touch_symbol_side Revealing = refl

pub touch_side : (x : Symbol) (tree : Touch) → pick_touch x ≡ Some tree → side x ≡ Neither
touch_side x tree e = ap side (touch_from x tree e) ∙ touch_symbol_side tree

pub find_symbol_side : (t : Find) → side (find t) ≡ Neither
find_symbol_side Removing = refl
find_symbol_side Getting = refl

pub find_side : (x : Symbol) (tree : Find) → pick_find x ≡ Some tree → side x ≡ Neither
find_side x tree e = ap side (find_from x tree e) ∙ find_symbol_side tree

pub mode_symbol_side : (t : Mode) → side (mode t) ≡ Neither
mode_symbol_side In = refl
mode_symbol_side Inout = refl
mode_symbol_side Out = refl

pub mode_side : (x : Symbol) (tree : Mode) → pick_mode x ≡ Some tree → side x ≡ Neither
mode_side x tree e = ap side (mode_from x tree e) ∙ mode_symbol_side tree

pub between_side : (t : Transfer) (x : Symbol) → is (between t) x ≡ true → side x ≡ Neither
between_side Moving x p = keyword_side KwTo x p
between_side Uniting x p = keyword_side KwFrom x p
between_side Dissolving x p = keyword_side KwInto x p
between_side Wrapping x p = keyword_side KwAs x p
between_side Inserting x p = keyword_side KwInto x p
between_side Connecting x p = keyword_side KwTo x p
between_side Sending x p = keyword_side KwTo x p
between_side Receiving x p = keyword_side KwFrom x p

-- A level's readers, over readers that agree one bracket deeper.
abbrev Alike : {A : Type 0} → ℕ → Reader Symbol A → Reader Symbol A → Type 0
Alike r f g = Agrees side r r f g

pub name_a : (r : ℕ) → Alike r read_name read_name
name_a r = agree_one side r pick_name name_side

pub part_a : (r : ℕ) → Alike r read_part read_part
part_a r = agree_one side r pick_part part_side

pub dotted_a : (r : ℕ) → Alike r read_dotted read_dotted
dotted_a r = agree_many side (is dot) (agree_leading side (is dot) (sign_side Dot) (part_a r))

pub path_a : (r : ℕ) → Alike r read_path read_path
path_a r = agree_changed side path_of (agree_sequence side (name_a r) (dotted_a r))

pub component_path_a : (r : ℕ) → Alike r read_component_path read_component_path
component_path_a r = agree_changed side path_of (agree_sequence side (name_a r) (agree_leading side (is dot) (sign_side Dot) (agree_separated side (is dot) (sign_side Dot) (part_a r))))

pub atom_a : (r : ℕ) → Alike r read_atom read_atom
atom_a r = agree_changed side atom_of (agree_choice side is_constant (agree_one side r pick_constant constant_side)
    (agree_sequence side (name_a r) (agree_choice side (is hash) (agree_leading side (is hash) (sign_side Hash) (part_a r)) (dotted_a r))))

pub parens_a : {A : Type 0} {f g : Reader Symbol A} → (r : ℕ) → ((less : ℕ) → r ≡ suc less → Alike less f g) → Alike r (in_parens f) (in_parens g)
parens_a r inner = agree_bracketed side (is paren_open) (is paren_close) (sign_side ParenOpen) (sign_side ParenClose) inner

pub braces_a : {A : Type 0} {f g : Reader Symbol A} → (r : ℕ) → ((less : ℕ) → r ≡ suc less → Alike less f g) → Alike r (in_braces f) (in_braces g)
braces_a r inner = agree_bracketed side (is brace_open) (is brace_close) (sign_side BraceOpen) (sign_side BraceClose) inner

pub keyword_a : {A : Type 0} {f g : Reader Symbol A} {before after : ℕ} → (n : Keyword) → Agrees side before after f g → Agrees side before after (preceded (is (Key n)) f) (preceded (is (Key n)) g)
keyword_a n agree = agree_leading side (is (Key n)) (keyword_side n) agree

pub semicolon_a : {A : Type 0} {f g : Reader Symbol A} {before after : ℕ} → Agrees side before after f g → Agrees side before after (terminated (is semicolon) f) (terminated (is semicolon) g)
semicolon_a agree = agree_closing side (is semicolon) (sign_side Semicolon) agree

pub nothing_a : (r : ℕ) → Alike r nothing nothing
nothing_a r = agree_return side r tt

pub end_a : (r : ℕ) → Alike r read_end read_end
end_a r = agree_leading side (is semicolon) (sign_side Semicolon) (nothing_a r)

pub simple_a : (r : ℕ) → Alike r read_simple read_simple
simple_a r = agree_changed side simple_of (agree_choice side (is (Key KwSize)) (keyword_a KwSize (parens_a r (λ less more. path_a less))) (atom_a r))

pub primary_a : (r : ℕ) (f g : Reader Symbol Expression) → ((less : ℕ) → r ≡ suc less → Alike less f g) → Alike r (read_primary f) (read_primary g)
primary_a r f g inner = agree_changed side primary_of (agree_choice side (is paren_open) (parens_a r inner)
    (agree_choice side (is (Key KwText)) (keyword_a KwText (parens_a r inner)) (agree_choice side (is (Key KwLength)) (keyword_a KwLength (parens_a r inner)) (simple_a r))))

pub unary_a : (r : ℕ) (f g : Reader Symbol Primary) → Alike r f g → Alike r (read_unary f) (read_unary g)
unary_a r f g inner = agree_changed side unary_of (agree_choice side is_sign (agree_sequence side (agree_one side r (pick_by is_sign) (picked_side is_sign is_sign_side)) inner) inner)

pub operand_a : (r n : ℕ) (f g : Reader Symbol Expression) → nat_eq 6 n ≡ false → Alike r f g → Alike r (sequence (one (pick_by (is_operator n))) f) (sequence (one (pick_by (is_operator n))) g)
operand_a r n f g other inner = agree_sequence side (agree_one side r (pick_by (is_operator n)) (picked_side (is_operator n) (operator_side n other))) inner

pub chain_a : (r n : ℕ) (f g : Reader Symbol Expression) → nat_eq 6 n ≡ false → Alike r f g → Alike r (read_chain n f) (read_chain n g)
chain_a r n f g other inner = agree_changed side chain_of (agree_sequence side inner (agree_many side (is_operator n) (operand_a r n f g other inner)))

pub comparison_a : (r n : ℕ) (f g : Reader Symbol Expression) → nat_eq 6 n ≡ false → Alike r f g → Alike r (read_comparison n f) (read_comparison n g)
comparison_a r n f g other inner = agree_changed side comparison_of (agree_sequence side inner (agree_choice side (is_operator n) (operand_a r n f g other inner) (nothing_a r)))

pub levels_a : (r : ℕ) (f g : Reader Symbol Primary) → Alike r f g → Alike r (read_levels f) (read_levels g)
levels_a r f g inner =
    let unary = unary_a r f g inner in
    let product = chain_a r 1 (read_unary f) (read_unary g) refl unary in
    let sum = chain_a r 2 (read_chain 1 (read_unary f)) (read_chain 1 (read_unary g)) refl product in
    let compared = comparison_a r 3 (read_chain 2 (read_chain 1 (read_unary f))) (read_chain 2 (read_chain 1 (read_unary g))) refl sum in
    let both = chain_a r 4 (read_comparison 3 (read_chain 2 (read_chain 1 (read_unary f)))) (read_comparison 3 (read_chain 2 (read_chain 1 (read_unary g)))) refl compared in
    chain_a r 5 (read_chain 4 (read_comparison 3 (read_chain 2 (read_chain 1 (read_unary f))))) (read_chain 4 (read_comparison 3 (read_chain 2 (read_chain 1 (read_unary g))))) refl both

pub expression_a : (d m r : ℕ) → r < d → r < m → Alike r (read_expression d) (read_expression m)
expression_a zero m r l k = absurd (omega (arith, l))
expression_a (suc d) zero r l k = absurd (omega (arith, k))
expression_a (suc d) (suc m) r l k =
    levels_a r (read_primary (read_expression d)) (read_primary (read_expression m))
    (primary_a r (read_expression d) (read_expression m) (λ less more. expression_a d m less (omega (arith, l, more)) (omega (arith, k, more))))

-- Statements with no statement in them.
pub first_path_a : (r : ℕ) (t : Transfer) → Alike r (read_first_path t) (read_first_path t)
first_path_a r Moving = path_a r
first_path_a r Uniting = component_path_a r
first_path_a r Dissolving = component_path_a r
first_path_a r Wrapping = path_a r
first_path_a r Inserting = path_a r
first_path_a r Connecting = path_a r
first_path_a r Sending = path_a r
first_path_a r Receiving = path_a r

pub touched_a : (r : ℕ) (t : Touch) → Alike r (read_touched t) (read_touched t)
touched_a r Making = path_a r
touched_a r Discarding = path_a r
touched_a r Revealing = component_path_a r

pub two_paths_a : (r : ℕ) → Alike r read_two_paths read_two_paths
two_paths_a r = agree_depending side (agree_one side r pick_transfer transfer_side) (λ t. agree_sequence side (first_path_a r t) (agree_leading side (is (between t)) (between_side t) (semicolon_a (path_a r))))

pub one_path_a : (r : ℕ) → Alike r read_one_path read_one_path
one_path_a r = agree_depending side (agree_one side r pick_touch touch_side) (λ t. semicolon_a (touched_a r t))

pub keyed_a : (r : ℕ) → Alike r read_keyed read_keyed
keyed_a r = agree_sequence side (agree_one side r pick_find find_side) (agree_sequence side (path_a r) (keyword_a KwFrom (agree_sequence side (path_a r)
    (agree_opening side (is bracket_open) (sign_side BracketOpen) (λ less more.
    agree_sequence side (agree_separated side (is comma) (sign_side Comma) (atom_a less)) (agree_shutting side (is bracket_close) (sign_side BracketClose) more (end_a r)))))))

pub unwrap_a : (r : ℕ) → Alike r read_unwrap read_unwrap
unwrap_a r = keyword_a KwUnwrap (agree_sequence side (path_a r) (keyword_a KwAs (agree_sequence side (name_a r) (keyword_a KwInto (semicolon_a (path_a r))))))

pub listed_a : {A : Type 0} {f : Reader Symbol A} → (r : ℕ) (n : Mark) → Alike r f f → Alike r (listed (Sign n) f) (listed (Sign n) f)
listed_a r n item = agree_changed side listed_of (agree_choice side (is (Sign n)) (nothing_a r) (agree_separated side (is comma) (sign_side Comma) item))

pub call_a : (r : ℕ) → Alike r read_call read_call
call_a r = keyword_a KwCall (agree_sequence side (path_a r) (agree_opening side (is paren_open) (sign_side ParenOpen) (λ less more.
    agree_sequence side (listed_a less ParenClose (atom_a less)) (agree_shutting side (is paren_close) (sign_side ParenClose) more (end_a r)))))

pub return_a : (r : ℕ) → Alike r read_return read_return
return_a r = keyword_a KwReturn (agree_sequence side (path_a r) (agree_choice side (is kw_exception) (keyword_a KwException (semicolon_a (name_a r))) (end_a r)))

pub create_a : (r : ℕ) → Alike r read_create read_create
create_a r = keyword_a KwCreate (agree_sequence side (path_a r) (keyword_a KwOf (semicolon_a (name_a r))))

pub raise_a : (r : ℕ) → Alike r read_raise read_raise
raise_a r = keyword_a KwRaise (semicolon_a (name_a r))

pub leave_a : (r : ℕ) → Alike r read_leave read_leave
leave_a r = keyword_a KwLeave (end_a r)

pub plain_a : (r : ℕ) → Alike r read_plain read_plain
plain_a r = agree_choice side is_transfer (two_paths_a r) (agree_choice side is_touch (one_path_a r) (agree_choice side is_find (keyed_a r) (agree_choice side (is (Key KwUnwrap)) (unwrap_a r)
    (agree_choice side (is (Key KwCall)) (call_a r) (agree_choice side (is (Key KwReturn)) (return_a r) (agree_choice side (is (Key KwCreate)) (create_a r)
    (agree_choice side (is (Key KwRaise)) (raise_a r) (leave_a r))))))))

-- Statements with statements in them, over blocks that agree one bracket deeper.
module _ (r : ℕ) (e_f e_g : Reader Symbol Expression) (f g : Reader Symbol Statements) (expressions : Alike r e_f e_g) (deeper : (less : ℕ) → r ≡ suc less → Alike less f g) where
  pub case_arm_a : (k : ℕ) → ((less : ℕ) → k ≡ suc less → Alike less f g) → Alike k (read_case_arm f) (read_case_arm g)
  case_arm_a k inner = keyword_a KwWhen (agree_sequence side (part_a k) (braces_a k inner))

  pub handler_a : Alike r (read_handler f) (read_handler g)
  handler_a = keyword_a KwOn (agree_sequence side (name_a r) (braces_a r deeper))

  pub port_arm_a : (k : ℕ) → ((less : ℕ) → k ≡ suc less → Alike less f g) → Alike k (read_port_arm f) (read_port_arm g)
  port_arm_a k inner = keyword_a KwWhen (agree_sequence side (path_a k) (keyword_a KwReceive (agree_sequence side (path_a k) (braces_a k inner))))

  pub case_arms_a : (k : ℕ) → ((less : ℕ) → k ≡ suc less → Alike less f g) → Alike k (read_case_arms f) (read_case_arms g)
  case_arms_a k inner = agree_changed side some_arms_of (agree_sequence side (case_arm_a k inner) (agree_many side (is (Key KwWhen)) (case_arm_a k inner)))

  pub handlers_a : Alike r (read_handlers f) (read_handlers g)
  handlers_a = agree_changed side some_arms_of (agree_sequence side handler_a (agree_many side (is (Key KwOn)) handler_a))

  pub port_arms_a : (k : ℕ) → ((less : ℕ) → k ≡ suc less → Alike less f g) → Alike k (read_port_arms f) (read_port_arms g)
  port_arms_a k inner = agree_changed side some_port_arms_of (agree_sequence side (port_arm_a k inner) (agree_many side (is (Key KwWhen)) (port_arm_a k inner)))

  pub otherwise_a : Alike r (read_otherwise f) (read_otherwise g)
  otherwise_a = agree_changed side otherwise_of (agree_choice side (is (Key KwElse)) (keyword_a KwElse (braces_a r deeper)) (nothing_a r))

  -- Blocks that agree with some room agree with less.
  pub compound_a : ((less k : ℕ) → r ≡ suc less → less ≡ suc k → Alike k f g) → Alike r (read_compound e_f f) (read_compound e_g g)
  compound_a deepest =
      agree_choice side (is (Key KwCase)) (keyword_a KwCase (agree_sequence side (path_a r) (braces_a r (λ less more. case_arms_a less (λ k again. deepest less k more again)))))
      (agree_choice side (is (Key KwFor)) (keyword_a KwFor (agree_sequence side (path_a r) (keyword_a KwIn (agree_sequence side (path_a r) (braces_a r deeper)))))
      (agree_choice side (is (Key KwSelect)) (keyword_a KwSelect (braces_a r (λ less more. port_arms_a less (λ k again. deepest less k more again))))
      (agree_choice side (is (Key KwIf)) (keyword_a KwIf (agree_sequence side expressions (agree_opening side (is brace_open) (sign_side BraceOpen) (λ less more.
      agree_sequence side (deeper less more) (agree_shutting side (is brace_close) (sign_side BraceClose) more otherwise_a)))))
      (agree_choice side (is (Key KwWhile)) (keyword_a KwWhile (agree_sequence side expressions (braces_a r deeper)))
      (agree_choice side (is (Key KwTry)) (keyword_a KwTry (agree_opening side (is brace_open) (sign_side BraceOpen) (λ less more.
      agree_sequence side (deeper less more) (agree_shutting side (is brace_close) (sign_side BraceClose) more handlers_a))))
      (agree_sequence side (path_a r) (agree_leading side (is becomes) (sign_side Becomes) (semicolon_a expressions))))))))

  pub statement_a : ((less k : ℕ) → r ≡ suc less → less ≡ suc k → Alike k f g) → Alike r (read_statement e_f f) (read_statement e_g g)
  statement_a deepest = agree_changed side statement_of (agree_choice side is_plain (plain_a r) (compound_a deepest))

-- With two levels more than brackets may be open.
pub statements_a : (d m r : ℕ) → suc r < d → suc r < m → Alike r (read_statements d) (read_statements m)
statements_a zero m r l k = absurd (omega (arith, l))
statements_a (suc d) zero r l k = absurd (omega (arith, k))
statements_a (suc d) (suc m) r l k =
    agree_changed side statements_of (agree_many side inside (statement_a r (read_expression d) (read_expression m) (read_statements d) (read_statements m) (expression_a d m r (omega (arith, l)) (omega (arith, k)))
    (λ less more. statements_a d m less (omega (arith, l, more)) (omega (arith, k, more)))
    (λ less deep more again. statements_a d m deep (omega (arith, l, more, again)) (omega (arith, k, more, again)))))

-- Definitions.
pub field_a : (r : ℕ) → Alike r read_field read_field
field_a r = agree_sequence side (part_a r) (agree_leading side (is colon) (sign_side Colon) (name_a r))

pub param_a : (r : ℕ) → Alike r read_param read_param
param_a r = agree_sequence side (agree_one side r pick_mode mode_side) (field_a r)

pub commas_a : {A : Type 0} {f g : Reader Symbol A} → (r : ℕ) → Alike r f g → Alike r (separated (is comma) f) (separated (is comma) g)
commas_a r item = agree_separated side (is comma) (sign_side Comma) item

pub fact_path_a : (r : ℕ) → Alike r (separated (is dot) read_part) (separated (is dot) read_part)
fact_path_a r = agree_separated side (is dot) (sign_side Dot) (part_a r)

pub fact_a : (r : ℕ) → Alike r read_fact read_fact
fact_a r = agree_changed side fact_of (agree_choice side (is (Key KwInit)) (keyword_a KwInit (parens_a r (λ less more. fact_path_a less)))
    (agree_choice side (is (Key KwFull)) (keyword_a KwFull (parens_a r (λ less more. fact_path_a less)))
    (keyword_a KwCase (parens_a r (λ less more. agree_sequence side (fact_path_a less) (agree_leading side (is comma) (sign_side Comma) (part_a less)))))))

pub written_a : {A : Type 0} {f : Reader Symbol (List A)} → (r : ℕ) (test : Symbol → Bool) → Alike r f f → Alike r (if_written test f) (if_written test f)
written_a r test inner = agree_changed side written_of (agree_choice side test inner (nothing_a r))

pub facts_a : (r : ℕ) → Alike r read_facts read_facts
facts_a r = written_a r (is brace_open) (braces_a r (λ less more. commas_a less (fact_a less)))

pub kept_a : (r : ℕ) → Alike r read_kept read_kept
kept_a r = written_a r (is brace_open) (braces_a r (λ less more. commas_a less (keyword_a KwFull (parens_a less (λ k again. part_a k)))))

pub raisings_a : (r : ℕ) → Alike r read_raisings read_raisings
raisings_a r = written_a r (is (Key KwRaises)) (keyword_a KwRaises (parens_a r (λ less more. commas_a less (agree_sequence side (name_a less) (kept_a less)))))

pub shape_a : (r : ℕ) → Alike r read_shape read_shape
shape_a r = agree_changed side shape_of (agree_choice side (is (Key KwEnum)) (keyword_a KwEnum (braces_a r (λ less more. commas_a less (part_a less))))
    (agree_choice side (is (Key KwRecord)) (keyword_a KwRecord (braces_a r (λ less more. commas_a less (field_a less))))
    (agree_choice side (is (Key KwVariant)) (keyword_a KwVariant (braces_a r (λ less more. commas_a less (field_a less))))
    (agree_choice side (is (Key KwTable)) (keyword_a KwTable (keyword_a KwOf (agree_sequence side (name_a r) (keyword_a KwKey (parens_a r (λ less more. commas_a less (part_a less)))))))
    (agree_choice side (is (Key KwInport)) (keyword_a KwInport (keyword_a KwOf (agree_sequence side (name_a r) (facts_a r))))
    (agree_choice side (is (Key KwOutport)) (keyword_a KwOutport (keyword_a KwOf (name_a r)))
    (keyword_a KwCallmessage (agree_sequence side (parens_a r (λ less more. listed_a less ParenClose (param_a less))) (raisings_a r)))))))))

pub item_a : (r : ℕ) → Alike r read_item read_item
item_a r = agree_changed side item_of (agree_choice side (is (Key KwType)) (keyword_a KwType (agree_sequence side (name_a r) (agree_leading side (is equal) (sign_side Equal) (semicolon_a (shape_a r)))))
    (keyword_a KwException (semicolon_a (name_a r))))

pub variables_a : (r : ℕ) → Alike r read_variables read_variables
variables_a r = written_a r (is (Key KwVar)) (keyword_a KwVar (semicolon_a (commas_a r (field_a r))))

-- Modules, with one level more than brackets may be open.
pub module_a : (d m r : ℕ) → r < d → r < m → Alike r (read_module d) (read_module m)
module_a d m r l k = agree_changed side module_of (agree_choice side (is (Key KwDefinitions)) (keyword_a KwDefinitions (agree_sequence side (name_a r) (braces_a r (λ less more. agree_many side inside (item_a less)))))
    (keyword_a KwProcess (agree_sequence side (name_a r) (agree_sequence side (parens_a r (λ less more. field_a less))
    (braces_a r (λ less more. agree_sequence side (variables_a less) (statements_a d m less (omega (arith, l, more)) (omega (arith, k, more)))))))))

pub file_a : (d m r : ℕ) → r < d → r < m → Alike r (read_file d) (read_file m)
file_a d m r l k = agree_many side anything (module_a d m r l k)
