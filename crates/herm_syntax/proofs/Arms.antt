-- Lists of arms: one and further ones, each led by its keyword.
use Rattle.std.proofs.Common.{◌≡◌, Bool, true, not, ◌&&◌, List, ◌∷◌, Option, None, sym, ap, ◌∙◌}
use Rattle.std.proofs.lemmas.Bool.{and_parts, and_from}
use Rattle.herm_readers.specs.Reader.{Rule, ahead}
use Rattle.herm_readers.specs.Combinators.{passes, many_fits, many_spelling, many_ends}
use Rattle.herm_readers.specs.laws.ReaderLaws.{IsWritten}
use Rattle.herm_readers.proofs.Readings.{Reading, turned, both, many_of, many_end}
use Rattle.herm_syntax.specs.Symbols.{Symbol}

-- The trees of a list type of their own, made of a list, of which each item begins with a symbol that passes
-- the test and ends everywhere.
module _ {A L : Type 0} (test : Symbol → Bool) (item : Reading Symbol A) (of : List A → L) (fits has : L → Bool) (spelling : L → List Symbol)
    (leads : (a : A) → item.rule.fits a ≡ true → passes test (ahead (item.rule.spelling a) None) ≡ true) (ends : (a : A) (h : Option Symbol) → item.rule.fits a ≡ true → item.rule.ends a h ≡ true)
    (written : IsWritten item.rule) (fits_of : (list : List A) → fits (of list) ≡ many_fits item.rule.fits list) (spelled : (list : List A) → spelling (of list) ≡ many_spelling item.rule.spelling list)
    (has_of : (a : A) (list : List A) → has (of (a ∷ list)) ≡ true) (back : (t : L) → has t ≡ true → (a : A) × (list : List A) × (of (a ∷ list) ≡ t)) where
  abbrev pub some_parts : Reading Symbol (A × List A)
  some_parts = both item (many_of test item written)

  abbrev pub some_rule : Rule Symbol L
  some_rule = record { fits = λ t. has t && fits t; spelling = spelling; ends = λ t beyond. not (passes test beyond) }

  abbrev pub some_of : A × List A → L
  some_of found = of (found.0 ∷ found.1)

  pub some_fits : (found : A × List A) → some_parts.rule.fits found ≡ true → some_rule.fits (some_of found) ≡ true
  some_fits found f = and_from (has (some_of found)) (fits (some_of found)) (has_of found.0 found.1) (fits_of (found.0 ∷ found.1) ∙ f)

  pub some_spelled : (found : A × List A) → some_parts.rule.fits found ≡ true → spelling (some_of found) ≡ some_parts.rule.spelling found
  some_spelled found f = spelled (found.0 ∷ found.1)

  pub some_ended : (found : A × List A) (beyond : Option Symbol) → some_parts.rule.fits found ≡ true → not (passes test beyond) ≡ some_parts.rule.ends found beyond
  some_ended found beyond f =
      let fit = and_parts (item.rule.fits found.0) (many_fits item.rule.fits found.1) f in
      sym (ap (λ b. b && many_ends test item.rule found.1 beyond) (ends found.0 (ahead (many_spelling item.rule.spelling found.1) beyond) fit.0) ∙ many_end test item.rule leads ends found.1 beyond fit.1)

  pub some_back : (t : L) → some_rule.fits t ≡ true → (found : A × List A) × (some_parts.rule.fits found ≡ true) × (some_of found ≡ t)
  some_back t f =
      let fit = and_parts (has t) (fits t) f in
      let there = back t fit.0 in
      ((there.0, there.1), sym (fits_of (there.0 ∷ there.1)) ∙ (ap fits there.2 ∙ fit.1), there.2)

  abbrev pub some_r : Reading Symbol L
  some_r = turned some_of some_rule some_parts (record { fits = some_fits; spelling = some_spelled; ends = some_ended; back = some_back })
