-- A choice by the symbol ahead.
use Rattle.std.proofs.Common.{◌≡◌, ℕ, suc, Bool, true, false, not, ◌⊎◌, inl, inr, List, ◌∷◌, ◌++◌, length, None, refl, sym, ap, ◌∙◌}
use Rattle.std.proofs.lemmas.Bool.{and_parts, and_from}
use Rattle.herm_readers.specs.Reader.{Read, Fault, Reader, Rule, Found, Begins, Reads, ahead}
use Rattle.herm_readers.specs.Combinators.{onward, passes, chosen, choice, choice_rule}
use Rattle.herm_readers.proofs.Simple.{put_found, put_begins, put_settled}
use Rattle.herm_readers.proofs.Ahead.{ahead-append, ahead_at}

pub not_true : (b : Bool) → not b ≡ true → b ≡ false
not_true true e = absurd (cc)
not_true false e = refl

module _ {S A B : Type 0} (test : S → Bool) (first : Rule S A) (second : Rule S B) (read_first : Reader S A) (read_second : Reader S B) (reads_first : Reads first read_first) (reads_second : Reads second read_second) where
  abbrev left : A → A ⊎ B
  left a = inl a

  abbrev right : B → A ⊎ B
  right b = inr b

  -- What is ahead of the symbols is what is ahead of the tree's spelling.
  ahead_of : {C : Type 0} (rule : Rule S C) (symbols : List S) (c : C) (last : List S) (passed : Bool) → passes test (ahead symbols None) ≡ passed → Found rule symbols c last → passes test (ahead (rule.spelling c) (ahead last None)) ≡ passed
  ahead_of rule symbols c last passed p found = ap (passes test) (sym (ahead-append (rule.spelling c) last None) ∙ ap (λ t. ahead t None) (sym found.spelled)) ∙ p

  choice_found : (symbols rest : List S) (tree : A ⊎ B) (passed : Bool) → passes test (ahead symbols None) ≡ passed →
      chosen passed read_first read_second symbols ≡ Read tree rest → Found (choice_rule test first second) symbols tree rest
  choice_found symbols rest tree true p e =
      put_found left first (choice_rule test first second) read_first reads_first (λ a f. f) (λ a f. refl) symbols rest tree
      (λ a last inner. and_from (passes test (ahead (first.spelling a) (ahead last None))) (first.ends a (ahead last None)) (ahead_of first symbols a last true p inner) inner.ends) (read_first symbols) refl e
  choice_found symbols rest tree false p e =
      put_found right second (choice_rule test first second) read_second reads_second (λ b f. f) (λ b f. refl) symbols rest tree
      (λ b last inner. and_from (not (passes test (ahead (second.spelling b) (ahead last None)))) (second.ends b (ahead last None)) (ap not (ahead_of second symbols b last false p inner)) inner.ends) (read_second symbols) refl e

  choice_again : (tree : A ⊎ B) (rest : List S) → (choice_rule test first second).fits tree ≡ true → (choice_rule test first second).ends tree (ahead rest None) ≡ true →
      choice test read_first read_second ((choice_rule test first second).spelling tree ++ rest) ≡ Read tree rest
  choice_again (inl a) rest fits ends =
      let parts = and_parts (passes test (ahead (first.spelling a) (ahead rest None))) (first.ends a (ahead rest None)) ends in
      let passed : passes test (ahead (first.spelling a ++ rest) None) ≡ true = ap (passes test) (ahead-append (first.spelling a) rest None) ∙ parts.0 in
      ap (λ b. chosen b read_first read_second (first.spelling a ++ rest)) passed ∙ ap (λ answer. onward answer (λ a last. Read (left a) last)) (reads_first.again a rest fits parts.1)
  choice_again (inr b) rest fits ends =
      let parts = and_parts (not (passes test (ahead (second.spelling b) (ahead rest None)))) (second.ends b (ahead rest None)) ends in
      let passed : passes test (ahead (second.spelling b ++ rest) None) ≡ false =
      ap (passes test) (ahead-append (second.spelling b) rest None) ∙ not_true (passes test (ahead (second.spelling b) (ahead rest None))) parts.0 in
      ap (λ p. chosen p read_first read_second (second.spelling b ++ rest)) passed ∙ ap (λ answer. onward answer (λ b last. Read (right b) last)) (reads_second.again b rest fits parts.1)

  choice_begins : (symbols : List S) (count : ℕ) (passed : Bool) → chosen passed read_first read_second symbols ≡ Fault count → Begins (choice_rule test first second) symbols count
  choice_begins symbols count true e = put_begins left first (choice_rule test first second) read_first reads_first (λ a f. f) (λ a f. refl) symbols count (read_first symbols) refl e
  choice_begins symbols count false e = put_begins right second (choice_rule test first second) read_second reads_second (λ b f. f) (λ b f. refl) symbols count (read_second symbols) refl e

  choice_settled : (front : List S) (x : S) (behind other : List S) (passed : Bool) → chosen passed read_first read_second (front ++ x ∷ behind) ≡ Fault (suc (length behind)) →
      chosen passed read_first read_second (front ++ x ∷ other) ≡ Fault (suc (length other))
  choice_settled front x behind other true e =
      put_settled left first (choice_rule test first second) read_first reads_first (λ a f. f) (λ a f. refl) front x behind other (read_first (front ++ x ∷ behind)) refl e
  choice_settled front x behind other false e =
      put_settled right second (choice_rule test first second) read_second reads_second (λ b f. f) (λ b f. refl) front x behind other (read_second (front ++ x ∷ behind)) refl e

  pub choice_reads : Reads (choice_rule test first second) (choice test read_first read_second)
  choice_reads = record {
    example = inl reads_first.example;
    example_fits = reads_first.example_fits;
    found = λ symbols rest tree e. choice_found symbols rest tree (passes test (ahead symbols None)) refl e;
    again = choice_again;
    begins = λ symbols count e. choice_begins symbols count (passes test (ahead symbols None)) e;
    settled = λ front x behind other e.
        let same = ap (passes test) (ahead_at front x other behind None) in
        ap (λ p. chosen p read_first read_second (front ++ x ∷ other)) same ∙ choice_settled front x behind other (passes test (ahead (front ++ x ∷ behind) None)) e;
  }
