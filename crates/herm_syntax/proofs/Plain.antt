-- Readings of the parts of statements, and of the statements with no statement in them.
use Rattle.std.proofs.Common.{◌≡◌, Bool, true, false, not, ◌⊎◌, inl, inr, if◌then◌else◌, List, [], ◌∷◌, ◌++◌, Option, Some, None, refl, sym, ap, ◌∙◌}
use Rattle.std.proofs.lemmas.Bool.{and_parts, and_from}
use Rattle.herm_readers.specs.Reader.{Rule, Reads, ahead}
use Rattle.herm_readers.specs.Combinators.{passes, one, one_rule, many_fits, many_spelling, separated_spelling, separated_ends}
use Rattle.herm_readers.specs.laws.ReaderLaws.{IsTestFor}
use Rattle.herm_readers.proofs.Simple.{one_reads}
use Rattle.herm_readers.proofs.Readings.{Reading, nothing_more, turned, with_next, both, led_by, closed_by, either_of, separated_by, separated_end}
use Rattle.herm_alphabet.specs.KeywordLetters.{same_mark}
use Rattle.herm_alphabet.specs.declared.keyword.Keyword.{Keyword}
use Rattle.herm_alphabet.specs.declared.sign.Mark.{Mark}
use Rattle.herm_alphabet.specs.declared.keyword.Keyword.TheVariants.{KwAs, KwCall, KwConnect, KwCreate, KwDiscard, KwDissolve, KwException, KwFrom, KwGet, KwInsert, KwInto, KwLeave, KwMove, KwNew, KwOf, KwRaise, KwReceive, KwRemove, KwReturn, KwReveal, KwSend, KwTo, KwUnite, KwUnwrap, KwWrap}
use Rattle.herm_alphabet.specs.declared.sign.Mark.TheVariants.{ParenOpen, ParenClose, BraceOpen, BraceClose, BracketOpen, BracketClose, Comma, Semicolon}
use Rattle.herm_syntax.specs.Symbols.{Symbol, Key, Sign, is, comma}
use Rattle.herm_syntax.specs.KeywordSymbols.{kw_exception}
use Rattle.herm_syntax.specs.Trees.{Letters, Path, Atom}
use Rattle.herm_syntax.specs.Words.{Transfer, Moving, Uniting, Dissolving, Wrapping, Inserting, Connecting, Sending, Receiving, Touch, Making, Discarding, Revealing, Find, Removing, Getting, transfer, between, touch, find, pick_transfer, pick_touch, pick_find, is_transfer, is_touch, is_find, read_first_path, read_touched}
use Rattle.herm_syntax.specs.Spelling.{path}
use Rattle.herm_syntax.specs.Fitting.{path_fits, component_path_fits}
use Rattle.herm_syntax.specs.ReadExpressions.{name_rule, read_name, part_rule, read_part, path_rule, path_ends, read_path, component_path_ends, atom_rule, read_atom}
use Rattle.herm_syntax.specs.ReadStatements.{listed_of, PlainStatement}
use Rattle.herm_syntax.proofs.Names.{keyword_test, sign_test, name_reads, part_reads}
use Rattle.herm_syntax.proofs.Paths.{path_reads, component_path_reads, atom_reads}

-- Keywords and signs before and behind a reading.
abbrev pub keyword_then : {A : Type 0} → Keyword → Reading Symbol A → Reading Symbol A
keyword_then n r = led_by (Key n) (is (Key n)) (keyword_test n) r

abbrev pub sign_then : {A : Type 0} → Mark → Reading Symbol A → Reading Symbol A
sign_then n r = led_by (Sign n) (is (Sign n)) (sign_test n) r

abbrev pub then_sign : {A : Type 0} → Mark → Reading Symbol A → Reading Symbol A
then_sign n r = closed_by (Sign n) (is (Sign n)) (sign_test n) r

abbrev pub in_braces_r : {A : Type 0} → Reading Symbol A → Reading Symbol A
in_braces_r r = sign_then BraceOpen (then_sign BraceClose r)

abbrev pub in_parens_r : {A : Type 0} → Reading Symbol A → Reading Symbol A
in_parens_r r = sign_then ParenOpen (then_sign ParenClose r)

abbrev pub end_r : Reading Symbol (Unit {0})
end_r = sign_then Semicolon nothing_more

abbrev pub name_r : Reading Symbol Letters
name_r = record { rule = name_rule; read = read_name; reads = name_reads }

abbrev pub part_r : Reading Symbol Letters
part_r = record { rule = part_rule; read = read_part; reads = part_reads }

abbrev pub path_r : Reading Symbol Path
path_r = record { rule = path_rule; read = read_path; reads = path_reads }

abbrev pub atom_r : Reading Symbol Atom
atom_r = record { rule = atom_rule; read = read_atom; reads = atom_reads }

-- Items with commas, none where the closing sign stands at once.
module _ {A : Type 0} (n : Mark) (item : Reading Symbol A) where
  abbrev pub listed_parts : Reading Symbol (Unit {0} ⊎ List A)
  listed_parts = either_of (is (Sign n)) nothing_more (separated_by comma (is comma) (sign_test Comma) item)

  abbrev pub listed_ends : List A → Option Symbol → Bool
  listed_ends [] beyond = listed_parts.rule.ends (inl tt) beyond
  listed_ends (a ∷ items) beyond = listed_parts.rule.ends (inr (a ∷ items)) beyond

  abbrev pub listed_rule : Rule Symbol (List A)
  listed_rule = record { fits = many_fits item.rule.fits; spelling = separated_spelling comma item.rule.spelling; ends = listed_ends }

  pub listed_fits : (found : Unit {0} ⊎ List A) → listed_parts.rule.fits found ≡ true → many_fits item.rule.fits (listed_of found) ≡ true
  listed_fits (inl none) f = refl
  listed_fits (inr []) f = absurd (cc)
  listed_fits (inr (a ∷ items)) f = f

  pub listed_spelled : (found : Unit {0} ⊎ List A) → listed_parts.rule.fits found ≡ true → separated_spelling comma item.rule.spelling (listed_of found) ≡ listed_parts.rule.spelling found
  listed_spelled (inl none) f = refl
  listed_spelled (inr []) f = refl
  listed_spelled (inr (a ∷ items)) f = refl

  pub listed_ended : (found : Unit {0} ⊎ List A) (beyond : Option Symbol) → listed_parts.rule.fits found ≡ true → listed_ends (listed_of found) beyond ≡ listed_parts.rule.ends found beyond
  listed_ended (inl none) beyond f = refl
  listed_ended (inr []) beyond f = absurd (cc)
  listed_ended (inr (a ∷ items)) beyond f = refl

  pub listed_back : (items : List A) → many_fits item.rule.fits items ≡ true → (found : Unit {0} ⊎ List A) × (listed_parts.rule.fits found ≡ true) × (listed_of found ≡ items)
  listed_back [] f = (inl tt, refl, refl)
  listed_back (a ∷ items) f = (inr (a ∷ items), f, refl)

  abbrev pub listed_r : Reading Symbol (List A)
  listed_r = turned listed_of listed_rule listed_parts (record { fits = listed_fits; spelling = listed_spelled; ends = listed_ended; back = listed_back })

-- A list ends in front of its closing sign, where no item begins with it.
pub listed_end : {A : Type 0} → (n : Mark) (item : Reading Symbol A) → same_mark n Comma ≡ false → ((a : A) (more : List Symbol) (beyond : Option Symbol) → item.rule.fits a ≡ true → passes (is (Sign n)) (ahead (item.rule.spelling a ++ more) beyond) ≡ false) →
    ((a : A) → item.rule.fits a ≡ true → item.rule.ends a (Some comma) ≡ true) → ((a : A) → item.rule.fits a ≡ true → item.rule.ends a (Some (Sign n)) ≡ true) →
    (items : List A) → many_fits item.rule.fits items ≡ true → listed_ends n item items (Some (Sign n)) ≡ true
listed_end n item other leads before last [] f = and_from (is (Sign n) (Sign n)) true (sign_test n).passed refl
listed_end n item other leads before last (a ∷ items) f =
    let fit = and_parts (item.rule.fits a) (many_fits item.rule.fits items) f in
    and_from (not (passes (is (Sign n)) (ahead (separated_spelling comma item.rule.spelling (a ∷ items)) (Some (Sign n))))) (separated_ends comma (is comma) item.rule (a ∷ items) (Some (Sign n)))
    (ap not (leads a (many_spelling (λ b. comma ∷ item.rule.spelling b) items) (Some (Sign n)) fit.0))
    (separated_end comma (is comma) (sign_test Comma) item.rule (Some (Sign n)) other before last (a ∷ items) f)

-- A keyword that stands for a value.
pub picked_if : {A : Type 0} → (n : Keyword) (v : A) (symbol : A → Symbol) → symbol v ≡ Key n → (x : Symbol) (tree : A) (rest : Option A) (b : Bool) → is (Key n) x ≡ b → (if b then Some v else rest) ≡ Some tree →
    (rest ≡ Some tree → x ≡ symbol tree) → x ≡ symbol tree
picked_if n v symbol s x tree rest true p e more =
    let same : v ≡ tree = cc in
    (keyword_test n).alone x p ∙ (sym s ∙ ap symbol same)
picked_if n v symbol s x tree rest false p e more = more e

pub transfer_from : (x : Symbol) (tree : Transfer) → pick_transfer x ≡ Some tree → x ≡ transfer tree
transfer_from x tree e =
    picked_if KwMove Moving transfer refl x tree (if is (Key KwUnite) x then Some Uniting else (if is (Key KwDissolve) x then Some Dissolving else (if is (Key KwWrap) x then Some Wrapping else (if is (Key KwInsert) x then Some Inserting else (if is (Key KwConnect) x then Some Connecting else (if is (Key KwSend) x then Some Sending else (if is (Key KwReceive) x then Some Receiving else None))))))) (is (Key KwMove) x) refl e (λ e0.
    picked_if KwUnite Uniting transfer refl x tree (if is (Key KwDissolve) x then Some Dissolving else (if is (Key KwWrap) x then Some Wrapping else (if is (Key KwInsert) x then Some Inserting else (if is (Key KwConnect) x then Some Connecting else (if is (Key KwSend) x then Some Sending else (if is (Key KwReceive) x then Some Receiving else None)))))) (is (Key KwUnite) x) refl e0 (λ e1.
    picked_if KwDissolve Dissolving transfer refl x tree (if is (Key KwWrap) x then Some Wrapping else (if is (Key KwInsert) x then Some Inserting else (if is (Key KwConnect) x then Some Connecting else (if is (Key KwSend) x then Some Sending else (if is (Key KwReceive) x then Some Receiving else None))))) (is (Key KwDissolve) x) refl e1 (λ e2.
    picked_if KwWrap Wrapping transfer refl x tree (if is (Key KwInsert) x then Some Inserting else (if is (Key KwConnect) x then Some Connecting else (if is (Key KwSend) x then Some Sending else (if is (Key KwReceive) x then Some Receiving else None)))) (is (Key KwWrap) x) refl e2 (λ e3.
    picked_if KwInsert Inserting transfer refl x tree (if is (Key KwConnect) x then Some Connecting else (if is (Key KwSend) x then Some Sending else (if is (Key KwReceive) x then Some Receiving else None))) (is (Key KwInsert) x) refl e3 (λ e4.
    picked_if KwConnect Connecting transfer refl x tree (if is (Key KwSend) x then Some Sending else (if is (Key KwReceive) x then Some Receiving else None)) (is (Key KwConnect) x) refl e4 (λ e5.
    picked_if KwSend Sending transfer refl x tree (if is (Key KwReceive) x then Some Receiving else None) (is (Key KwSend) x) refl e5 (λ e6.
    picked_if KwReceive Receiving transfer refl x tree None (is (Key KwReceive) x) refl e6 (λ e7.
    absurd (cc)))))))))

pub transfer_back : (tree : Transfer) → pick_transfer (transfer tree) ≡ Some tree
transfer_back Moving = refl
transfer_back Uniting = refl
transfer_back Dissolving = refl
transfer_back Wrapping = refl
transfer_back Inserting = refl
transfer_back Connecting = refl
transfer_back Sending = refl
transfer_back Receiving = refl

abbrev pub transfer_r : Reading Symbol Transfer
transfer_r = record {
  rule = one_rule (λ tree. true) transfer;
  read = one pick_transfer;
  reads = one_reads (λ tree. true) transfer pick_transfer (record { example = Moving; example_fits = refl; from = λ x tree e. (refl, transfer_from x tree e); back = λ tree f. transfer_back tree });
}

pub touch_from : (x : Symbol) (tree : Touch) → pick_touch x ≡ Some tree → x ≡ touch tree
touch_from x tree e =
    picked_if KwNew Making touch refl x tree (if is (Key KwDiscard) x then Some Discarding else (if is (Key KwReveal) x then Some Revealing else None)) (is (Key KwNew) x) refl e (λ e0.
    picked_if KwDiscard Discarding touch refl x tree (if is (Key KwReveal) x then Some Revealing else None) (is (Key KwDiscard) x) refl e0 (λ e1.
    picked_if KwReveal Revealing touch refl x tree None (is (Key KwReveal) x) refl e1 (λ e2.
    absurd (cc))))

pub touch_back : (tree : Touch) → pick_touch (touch tree) ≡ Some tree
touch_back Making = refl
touch_back Discarding = refl
touch_back Revealing = refl

abbrev pub touch_r : Reading Symbol Touch
touch_r = record {
  rule = one_rule (λ tree. true) touch;
  read = one pick_touch;
  reads = one_reads (λ tree. true) touch pick_touch (record { example = Making; example_fits = refl; from = λ x tree e. (refl, touch_from x tree e); back = λ tree f. touch_back tree });
}

pub find_from : (x : Symbol) (tree : Find) → pick_find x ≡ Some tree → x ≡ find tree
find_from x tree e =
    picked_if KwRemove Removing find refl x tree (if is (Key KwGet) x then Some Getting else None) (is (Key KwRemove) x) refl e (λ e0.
    picked_if KwGet Getting find refl x tree None (is (Key KwGet) x) refl e0 (λ e1.
    absurd (cc)))

pub find_back : (tree : Find) → pick_find (find tree) ≡ Some tree
find_back Removing = refl
find_back Getting = refl

abbrev pub find_r : Reading Symbol Find
find_r = record {
  rule = one_rule (λ tree. true) find;
  read = one pick_find;
  reads = one_reads (λ tree. true) find pick_find (record { example = Removing; example_fits = refl; from = λ x tree e. (refl, find_from x tree e); back = λ tree f. find_back tree });
}

-- The word between two paths.
pub between_test : (t : Transfer) → IsTestFor (between t) (is (between t))
between_test Moving = keyword_test KwTo
between_test Uniting = keyword_test KwFrom
between_test Dissolving = keyword_test KwInto
between_test Wrapping = keyword_test KwAs
between_test Inserting = keyword_test KwInto
between_test Connecting = keyword_test KwTo
between_test Sending = keyword_test KwTo
between_test Receiving = keyword_test KwFrom

-- The path behind the first word, by that word.
abbrev pub first_path_ends : Transfer → Path → Option Symbol → Bool
first_path_ends Moving p beyond = path_ends p beyond
first_path_ends Uniting p beyond = component_path_ends p beyond
first_path_ends Dissolving p beyond = component_path_ends p beyond
first_path_ends Wrapping p beyond = path_ends p beyond
first_path_ends Inserting p beyond = path_ends p beyond
first_path_ends Connecting p beyond = path_ends p beyond
first_path_ends Sending p beyond = path_ends p beyond
first_path_ends Receiving p beyond = path_ends p beyond

abbrev pub first_path_fits : Transfer → Path → Bool
first_path_fits Moving p = path_fits p
first_path_fits Uniting p = component_path_fits p
first_path_fits Dissolving p = component_path_fits p
first_path_fits Wrapping p = path_fits p
first_path_fits Inserting p = path_fits p
first_path_fits Connecting p = path_fits p
first_path_fits Sending p = path_fits p
first_path_fits Receiving p = path_fits p

abbrev pub first_path_rule : Transfer → Rule Symbol Path
first_path_rule t = record { fits = first_path_fits t; spelling = path; ends = first_path_ends t }

pub first_path_reads : (t : Transfer) → Reads (first_path_rule t) (read_first_path t)
first_path_reads Moving = path_reads
first_path_reads Uniting = component_path_reads
first_path_reads Dissolving = component_path_reads
first_path_reads Wrapping = path_reads
first_path_reads Inserting = path_reads
first_path_reads Connecting = path_reads
first_path_reads Sending = path_reads
first_path_reads Receiving = path_reads

abbrev pub touched_ends : Touch → Path → Option Symbol → Bool
touched_ends Making p beyond = path_ends p beyond
touched_ends Discarding p beyond = path_ends p beyond
touched_ends Revealing p beyond = component_path_ends p beyond

abbrev pub touched_fits : Touch → Path → Bool
touched_fits Making p = path_fits p
touched_fits Discarding p = path_fits p
touched_fits Revealing p = component_path_fits p

abbrev pub touched_rule : Touch → Rule Symbol Path
touched_rule t = record { fits = touched_fits t; spelling = path; ends = touched_ends t }

pub touched_reads : (t : Touch) → Reads (touched_rule t) (read_touched t)
touched_reads Making = path_reads
touched_reads Discarding = path_reads
touched_reads Revealing = component_path_reads

abbrev pub first_path_r : Transfer → Reading Symbol Path
first_path_r t = record { rule = first_path_rule t; read = read_first_path t; reads = first_path_reads t }

abbrev pub touched_r : Touch → Reading Symbol Path
touched_r t = record { rule = touched_rule t; read = read_touched t; reads = touched_reads t }

-- The statements with no statement in them.
abbrev pub two_paths_r : Reading Symbol (Transfer × (Path × Path))
two_paths_r = with_next transfer_r (λ t. both (first_path_r t) (led_by (between t) (is (between t)) (between_test t) (then_sign Semicolon path_r)))

abbrev pub one_path_r : Reading Symbol (Touch × Path)
one_path_r = with_next touch_r (λ t. then_sign Semicolon (touched_r t))

abbrev pub keyed_r : Reading Symbol (Find × (Path × (Path × (List Atom × Unit {0}))))
keyed_r = both find_r (both path_r (keyword_then KwFrom (both path_r (sign_then BracketOpen (both (separated_by comma (is comma) (sign_test Comma) atom_r) (sign_then BracketClose end_r))))))

abbrev pub unwrap_r : Reading Symbol (Path × (Letters × Path))
unwrap_r = keyword_then KwUnwrap (both path_r (keyword_then KwAs (both name_r (keyword_then KwInto (then_sign Semicolon path_r)))))

abbrev pub call_r : Reading Symbol (Path × (List Atom × Unit {0}))
call_r = keyword_then KwCall (both path_r (sign_then ParenOpen (both (listed_r ParenClose atom_r) (sign_then ParenClose end_r))))

abbrev pub return_r : Reading Symbol (Path × (Letters ⊎ Unit {0}))
return_r = keyword_then KwReturn (both path_r (either_of (is kw_exception) (keyword_then KwException (then_sign Semicolon name_r)) end_r))

abbrev pub create_r : Reading Symbol (Path × Letters)
create_r = keyword_then KwCreate (both path_r (keyword_then KwOf (then_sign Semicolon name_r)))

abbrev pub raise_r : Reading Symbol Letters
raise_r = keyword_then KwRaise (then_sign Semicolon name_r)

abbrev pub leave_r : Reading Symbol (Unit {0})
leave_r = keyword_then KwLeave end_r

abbrev pub plain_r : Reading Symbol PlainStatement
plain_r = either_of is_transfer two_paths_r (either_of is_touch one_path_r (either_of is_find keyed_r (either_of (is (Key KwUnwrap)) unwrap_r (either_of (is (Key KwCall)) call_r
    (either_of (is (Key KwReturn)) return_r (either_of (is (Key KwCreate)) create_r (either_of (is (Key KwRaise)) raise_r leave_r)))))))
