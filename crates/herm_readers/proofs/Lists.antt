-- Lists of items.
use Rattle.std.proofs.Common.{◌≡◌, ℕ, zero, suc, ◌<◌, ◌≤◌, Bool, true, false, not, ◌&&◌, List, [], ◌∷◌, ◌++◌, length, None, refl, sym, ap, ◌∙◌, subst, append_assoc, append-nil, le_refl, arith, length-append}
use Rattle.std.proofs.lemmas.Bool.{and_parts, and_from}
use Rattle.herm_readers.specs.Reader.{Answer, Read, Fault, Reader, Rule, Found, Begins, Reads, ahead}
use Rattle.herm_readers.specs.Combinators.{onward, passes, many_step, many_at, many, many_fits, many_spelling, many_ends, many_rule}
use Rattle.herm_readers.specs.laws.ReaderLaws.{IsWritten}
use Rattle.herm_readers.proofs.Ahead.{ahead-append, ahead_at, ahead_written, longer}
use Rattle.herm_readers.proofs.Seams.{Seam, seam}
use Rattle.herm_readers.proofs.Choices.{not_true}

module _ {S A : Type 0} (test : S → Bool) (item : Rule S A) (read : Reader S A) (written : IsWritten item) (reads : Reads item read) where
  -- An item read leaves fewer symbols.
  fewer : (symbols : List S) (a : A) (rest : List S) → Found item symbols a rest → length rest < length symbols
  fewer symbols a rest found = omega (arith, ap length found.spelled, longer (item.spelling a) rest (written a found.fits))

  many_found_others : (symbols middle rest : List S) (a : A) (tree : List A) → passes test (ahead symbols None) ≡ true → Found item symbols a middle →
      (answer : Answer S (List A)) → ((others : List A) (last : List S) → answer ≡ Read others last → Found (many_rule test item) middle others last) →
      onward answer (λ found last. Read (a ∷ found) last) ≡ Read tree rest → Found (many_rule test item) symbols tree rest
  many_found_others symbols middle rest a tree p outer (Read others last) inner e =
      let same : a ∷ others ≡ tree = cc in
      let left : last ≡ rest = cc in
      let found = inner others last refl in
      let beyond : ahead middle None ≡ ahead (many_spelling item.spelling others) (ahead last None) = ap (λ t. ahead t None) found.spelled ∙ ahead-append (many_spelling item.spelling others) last None in
      let passed : passes test (ahead (item.spelling a) None) ≡ true =
      ap (passes test) (ahead_written (item.spelling a) None (ahead middle None) (written a outer.fits) ∙ (sym (ahead-append (item.spelling a) middle None) ∙ ap (λ t. ahead t None) (sym outer.spelled))) ∙ p in
      let ends : item.ends a (ahead (many_spelling item.spelling others) (ahead last None)) ≡ true = ap (item.ends a) (sym beyond) ∙ outer.ends in
      let there : Found (many_rule test item) symbols (a ∷ others) last = record {
        fits = and_from (item.fits a) (many_fits item.fits others) outer.fits found.fits;
        ends = and_from (passes test (ahead (item.spelling a) None)) (item.ends a (ahead (many_spelling item.spelling others) (ahead last None)) && many_ends test item others (ahead last None)) passed
            (and_from (item.ends a (ahead (many_spelling item.spelling others) (ahead last None))) (many_ends test item others (ahead last None)) ends found.ends);
        spelled = outer.spelled ∙ (ap (λ t. item.spelling a ++ t) found.spelled ∙ sym (append_assoc (item.spelling a) (many_spelling item.spelling others) last));
      } in
      subst (λ t. Found (many_rule test item) symbols t rest) same (subst (λ l. Found (many_rule test item) symbols (a ∷ others) l) left there)
  many_found_others symbols middle rest a tree p outer (Fault n) inner e = absurd (cc)

  many_found_item : (others : Reader S (List A)) (symbols rest : List S) (tree : List A) → passes test (ahead symbols None) ≡ true →
      ((middle : List S) → length middle < length symbols → (found : List A) (last : List S) → others middle ≡ Read found last → Found (many_rule test item) middle found last) →
      (answer : Answer S A) → read symbols ≡ answer → onward answer (λ a middle. onward (others middle) (λ found last. Read (a ∷ found) last)) ≡ Read tree rest → Found (many_rule test item) symbols tree rest
  many_found_item others symbols rest tree p inner (Read a middle) r e =
      let outer = reads.found symbols middle a r in
      many_found_others symbols middle rest a tree p outer (others middle) (inner middle (fewer symbols a middle outer)) e
  many_found_item others symbols rest tree p inner (Fault n) r e = absurd (cc)

  many_found_step : (others : Reader S (List A)) (symbols rest : List S) (tree : List A) (passed : Bool) → passes test (ahead symbols None) ≡ passed →
      ((middle : List S) → length middle < length symbols → (found : List A) (last : List S) → others middle ≡ Read found last → Found (many_rule test item) middle found last) →
      many_step passed read others symbols ≡ Read tree rest → Found (many_rule test item) symbols tree rest
  many_found_step others symbols rest tree true p inner e = many_found_item others symbols rest tree p inner (read symbols) refl e
  many_found_step others symbols rest tree false p inner e =
      let same : [] ≡ tree = cc in
      let left : symbols ≡ rest = cc in
      let there : Found (many_rule test item) symbols [] symbols = record { fits = refl; ends = ap not p; spelled = refl } in
      subst (λ t. Found (many_rule test item) symbols t rest) same (subst (λ l. Found (many_rule test item) symbols [] l) left there)

  many_found_empty : (symbols rest : List S) (tree : List A) → length symbols ≤ 0 → Read [] symbols ≡ Read tree rest → Found (many_rule test item) symbols tree rest
  many_found_empty [] rest tree l e =
      let same : [] ≡ tree = cc in
      let left : [] ≡ rest = cc in
      let there : Found (many_rule test item) [] [] [] = record { fits = refl; ends = refl; spelled = refl } in
      subst (λ t. Found (many_rule test item) [] t rest) same (subst (λ l. Found (many_rule test item) [] [] l) left there)
  many_found_empty (x ∷ symbols) rest tree l e = absurd (omega (arith, l))

  many_found : (most : ℕ) (symbols rest : List S) (tree : List A) → length symbols ≤ most → many_at test read most symbols ≡ Read tree rest → Found (many_rule test item) symbols tree rest
  many_found zero symbols rest tree l e = many_found_empty symbols rest tree l e
  many_found (suc most) symbols rest tree l e =
      many_found_step (many_at test read most) symbols rest tree (passes test (ahead symbols None)) refl
      (λ middle below found last r. many_found most middle last found (omega (arith, l, below)) r) e

  many_again : (tree : List A) (most : ℕ) (rest : List S) → many_fits item.fits tree ≡ true → many_ends test item tree (ahead rest None) ≡ true → length (many_spelling item.spelling tree ++ rest) ≤ most →
      many_at test read most (many_spelling item.spelling tree ++ rest) ≡ Read tree rest
  many_again [] zero rest fits ends l = refl
  many_again [] (suc most) rest fits ends l = ap (λ p. many_step p read (many_at test read most) rest) (not_true (passes test (ahead rest None)) ends)
  many_again (a ∷ others) zero rest fits ends l =
      let fit = and_parts (item.fits a) (many_fits item.fits others) fits in
      absurd (omega (arith, l, longer (item.spelling a) (many_spelling item.spelling others) (written a fit.0), length-append (item.spelling a ++ many_spelling item.spelling others) rest))
  many_again (a ∷ others) (suc most) rest fits ends l =
      let fit = and_parts (item.fits a) (many_fits item.fits others) fits in
      let end = and_parts (passes test (ahead (item.spelling a) None)) (item.ends a (ahead (many_spelling item.spelling others) (ahead rest None)) && many_ends test item others (ahead rest None)) ends in
      let both = and_parts (item.ends a (ahead (many_spelling item.spelling others) (ahead rest None))) (many_ends test item others (ahead rest None)) end.1 in
      let text : (item.spelling a ++ many_spelling item.spelling others) ++ rest ≡ item.spelling a ++ (many_spelling item.spelling others ++ rest) = append_assoc (item.spelling a) (many_spelling item.spelling others) rest in
      let passed : passes test (ahead ((item.spelling a ++ many_spelling item.spelling others) ++ rest) None) ≡ true =
      ap (passes test) (ap (λ t. ahead t None) text ∙ (ahead-append (item.spelling a) (many_spelling item.spelling others ++ rest) None ∙ ahead_written (item.spelling a) (ahead (many_spelling item.spelling others ++ rest) None) None (written a fit.0))) ∙ end.0 in
      let item_ends : item.ends a (ahead (many_spelling item.spelling others ++ rest) None) ≡ true = ap (item.ends a) (ahead-append (many_spelling item.spelling others) rest None) ∙ both.0 in
      let first : read ((item.spelling a ++ many_spelling item.spelling others) ++ rest) ≡ Read a (many_spelling item.spelling others ++ rest) =
      ap read text ∙ reads.again a (many_spelling item.spelling others ++ rest) fit.0 item_ends in
      let below : length (many_spelling item.spelling others ++ rest) ≤ most =
      omega (arith, l, ap length text, longer (item.spelling a) (many_spelling item.spelling others ++ rest) (written a fit.0)) in
      let inner : many_at test read most (many_spelling item.spelling others ++ rest) ≡ Read others rest = many_again others most rest fit.1 both.1 below in
      ap (λ p. many_step p read (many_at test read most) ((item.spelling a ++ many_spelling item.spelling others) ++ rest)) passed
      ∙ (ap (λ answer. onward answer (λ b middle. onward (many_at test read most middle) (λ found last. Read (b ∷ found) last))) first
      ∙ ap (λ answer. onward answer (λ found last. Read (a ∷ found) last)) inner)

  many_begins_others : (symbols middle : List S) (a : A) (count : ℕ) → Found item symbols a middle → (answer : Answer S (List A)) →
      ((n : ℕ) → answer ≡ Fault n → Begins (many_rule test item) middle n) → onward answer (λ found last. Read (a ∷ found) last) ≡ Fault count → Begins (many_rule test item) symbols count
  many_begins_others symbols middle a count outer (Read others last) inner e = absurd (cc)
  many_begins_others symbols middle a count outer (Fault n) inner e =
      let begun = inner n refl in
      let same : n ≡ count = cc in
      record {
        front = item.spelling a ++ begun.front;
        left = begun.left;
        whole = outer.spelled ∙ (ap (λ t. item.spelling a ++ t) begun.whole ∙ sym (append_assoc (item.spelling a) begun.front begun.left));
        counted = begun.counted ∙ same;
        tree = a ∷ begun.tree;
        fits = and_from (item.fits a) (many_fits item.fits begun.tree) outer.fits begun.fits;
        completion = begun.completion;
        completed = ap (λ t. item.spelling a ++ t) begun.completed ∙ sym (append_assoc (item.spelling a) begun.front begun.completion);
      }

  many_begins_item : (others : Reader S (List A)) (symbols : List S) (count : ℕ) → ((middle : List S) (n : ℕ) → others middle ≡ Fault n → Begins (many_rule test item) middle n) →
      (answer : Answer S A) → read symbols ≡ answer → onward answer (λ a middle. onward (others middle) (λ found last. Read (a ∷ found) last)) ≡ Fault count → Begins (many_rule test item) symbols count
  many_begins_item others symbols count inner (Read a middle) r e = many_begins_others symbols middle a count (reads.found symbols middle a r) (others middle) (inner middle) e
  many_begins_item others symbols count inner (Fault n) r e =
      let begun = reads.begins symbols n r in
      let same : n ≡ count = cc in
      record {
        front = begun.front;
        left = begun.left;
        whole = begun.whole;
        counted = begun.counted ∙ same;
        tree = begun.tree ∷ [];
        fits = and_from (item.fits begun.tree) true begun.fits refl;
        completion = begun.completion;
        completed = append-nil (item.spelling begun.tree) ∙ begun.completed;
      }

  many_begins_step : (others : Reader S (List A)) (symbols : List S) (count : ℕ) (passed : Bool) → ((middle : List S) (n : ℕ) → others middle ≡ Fault n → Begins (many_rule test item) middle n) →
      many_step passed read others symbols ≡ Fault count → Begins (many_rule test item) symbols count
  many_begins_step others symbols count true inner e = many_begins_item others symbols count inner (read symbols) refl e
  many_begins_step others symbols count false inner e = absurd (cc)

  many_begins : (most : ℕ) (symbols : List S) (count : ℕ) → many_at test read most symbols ≡ Fault count → Begins (many_rule test item) symbols count
  many_begins zero symbols count e = absurd (cc)
  many_begins (suc most) symbols count e = many_begins_step (many_at test read most) symbols count (passes test (ahead symbols None)) (many_begins most) e

  -- The fault stands in a later item: the first one is read again, whatever stands behind the fault.
  abbrev Later : ℕ → ℕ → List S → S → List S → List S → Type 0
  Later most other_most front x behind other = (middle : List S) (a : A) (rest : List S) → Found item (front ++ x ∷ behind) a middle → Seam item read front x behind other middle a rest →
      many_at test read most middle ≡ Fault (suc (length behind)) → many_at test read other_most (rest ++ x ∷ other) ≡ Fault (suc (length other))

  many_settled_others : (most other_most : ℕ) (front : List S) (x : S) (behind other : List S) → Later most other_most front x behind other → (middle : List S) (a : A) → Found item (front ++ x ∷ behind) a middle →
      (answer : Answer S (List A)) → many_at test read most middle ≡ answer → onward answer (λ found last. Read (a ∷ found) last) ≡ Fault (suc (length behind)) →
      onward (read (front ++ x ∷ other)) (λ a middle. onward (many_at test read other_most middle) (λ found last. Read (a ∷ found) last)) ≡ Fault (suc (length other))
  many_settled_others most other_most front x behind other later middle a outer (Read others last) m d = absurd (cc)
  many_settled_others most other_most front x behind other later middle a outer (Fault n) m d =
      let here : many_at test read most middle ≡ Fault (suc (length behind)) = cc in
      let begun = many_begins most middle (suc (length behind)) here in
      let there = seam item read reads front x behind other middle a begun.front begun.left outer begun.whole begun.counted in
      ap (λ answer. onward answer (λ a middle. onward (many_at test read other_most middle) (λ found last. Read (a ∷ found) last))) there.reread
      ∙ ap (λ answer. onward answer (λ found last. Read (a ∷ found) last)) (later middle a begun.front outer there here)

  many_settled_item : (most other_most : ℕ) (front : List S) (x : S) (behind other : List S) → Later most other_most front x behind other → (answer : Answer S A) → read (front ++ x ∷ behind) ≡ answer →
      onward answer (λ a middle. onward (many_at test read most middle) (λ found last. Read (a ∷ found) last)) ≡ Fault (suc (length behind)) →
      onward (read (front ++ x ∷ other)) (λ a middle. onward (many_at test read other_most middle) (λ found last. Read (a ∷ found) last)) ≡ Fault (suc (length other))
  many_settled_item most other_most front x behind other later (Read a middle) r e =
      many_settled_others most other_most front x behind other later middle a (reads.found (front ++ x ∷ behind) middle a r) (many_at test read most middle) refl e
  many_settled_item most other_most front x behind other later (Fault n) r e =
      let here : read (front ++ x ∷ behind) ≡ Fault (suc (length behind)) = cc in
      ap (λ answer. onward answer (λ a middle. onward (many_at test read other_most middle) (λ found last. Read (a ∷ found) last))) (reads.settled front x behind other here)

  many_settled_step : (most other_most : ℕ) (front : List S) (x : S) (behind other : List S) (passed : Bool) → Later most other_most front x behind other →
      many_step passed read (many_at test read most) (front ++ x ∷ behind) ≡ Fault (suc (length behind)) → many_step passed read (many_at test read other_most) (front ++ x ∷ other) ≡ Fault (suc (length other))
  many_settled_step most other_most front x behind other true later e = many_settled_item most other_most front x behind other later (read (front ++ x ∷ behind)) refl e
  many_settled_step most other_most front x behind other false later e = absurd (cc)

  many_settled : (most other_most : ℕ) (front : List S) (x : S) (behind other : List S) → length (front ++ x ∷ behind) ≤ most → length (front ++ x ∷ other) ≤ other_most →
      many_at test read most (front ++ x ∷ behind) ≡ Fault (suc (length behind)) → many_at test read other_most (front ++ x ∷ other) ≡ Fault (suc (length other))
  many_settled zero other_most front x behind other l m e = absurd (cc)
  many_settled (suc most) zero front x behind other l m e = absurd (omega (arith, m, length-append front (x ∷ other)))
  many_settled (suc most) (suc other_most) front x behind other l m e =
      ap (λ p. many_step p read (many_at test read other_most) (front ++ x ∷ other)) (ap (passes test) (ahead_at front x other behind None))
      ∙ many_settled_step most other_most front x behind other (passes test (ahead (front ++ x ∷ behind) None))
      (λ middle a rest outer there r.
      let shorter : length (rest ++ x ∷ behind) ≤ most = omega (arith, l, ap length there.text, longer (item.spelling a) (rest ++ x ∷ behind) (written a outer.fits)) in
      let other_shorter : length (rest ++ x ∷ other) ≤ other_most = omega (arith, m, ap length there.other_text, longer (item.spelling a) (rest ++ x ∷ other) (written a outer.fits)) in
      many_settled most other_most rest x behind other shorter other_shorter (ap (many_at test read most) (sym there.same) ∙ r)) e

  pub many_reads : Reads (many_rule test item) (many test read)
  many_reads = record {
    example = [];
    example_fits = refl;
    found = λ symbols rest tree e. many_found (length symbols) symbols rest tree (le_refl (length symbols)) e;
    again = λ tree rest fits ends. many_again tree (length (many_spelling item.spelling tree ++ rest)) rest fits ends (le_refl (length (many_spelling item.spelling tree ++ rest)));
    begins = λ symbols count e. many_begins (length symbols) symbols count e;
    settled = λ front x behind other e.
        many_settled (length (front ++ x ∷ behind)) (length (front ++ x ∷ other)) front x behind other (le_refl (length (front ++ x ∷ behind))) (le_refl (length (front ++ x ∷ other))) e;
  }

  -- With room for all symbols, more room makes no difference.
  many_alike_item : (others further : Reader S (List A)) (symbols : List S) → ((middle : List S) → length middle < length symbols → others middle ≡ further middle) → (answer : Answer S A) → read symbols ≡ answer →
      onward answer (λ a middle. onward (others middle) (λ found last. Read (a ∷ found) last)) ≡ onward answer (λ a middle. onward (further middle) (λ found last. Read (a ∷ found) last))
  many_alike_item others further symbols same (Read a middle) r = ap (λ answer. onward answer (λ found last. Read (a ∷ found) last)) (same middle (fewer symbols a middle (reads.found symbols middle a r)))
  many_alike_item others further symbols same (Fault n) r = refl

  many_alike_step : (others further : Reader S (List A)) (symbols : List S) (passed : Bool) → ((middle : List S) → length middle < length symbols → others middle ≡ further middle) →
      many_step passed read others symbols ≡ many_step passed read further symbols
  many_alike_step others further symbols true same = many_alike_item others further symbols same (read symbols) refl
  many_alike_step others further symbols false same = refl

  many_enough : (most other : ℕ) (symbols : List S) → length symbols ≤ most → length symbols ≤ other → many_at test read most symbols ≡ many_at test read other symbols
  many_enough zero zero symbols l m = refl
  many_enough zero (suc other) [] l m = refl
  many_enough zero (suc other) (x ∷ symbols) l m = absurd (omega (arith, l))
  many_enough (suc most) zero [] l m = refl
  many_enough (suc most) zero (x ∷ symbols) l m = absurd (omega (arith, m))
  many_enough (suc most) (suc other) symbols l m =
      many_alike_step (many_at test read most) (many_at test read other) symbols (passes test (ahead symbols None))
      (λ middle below. many_enough most other middle (omega (arith, l, below)) (omega (arith, m, below)))

  pub many_unrolled : (symbols : List S) → many test read symbols ≡ many_step (passes test (ahead symbols None)) read (many test read) symbols
  many_unrolled symbols =
      let longest = length symbols in
      many_enough longest (suc longest) symbols (le_refl longest) (omega arith)
      ∙ many_alike_step (many_at test read longest) (many test read) symbols (passes test (ahead symbols None)) (λ middle below. many_enough longest (length middle) middle (omega (arith, below)) (le_refl (length middle)))
