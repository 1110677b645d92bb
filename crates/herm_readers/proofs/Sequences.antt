-- Two readers, one after the other, the second as the first says.
use Rattle.std.proofs.Common.{◌≡◌, ℕ, suc, true, List, ◌∷◌, ◌++◌, length, None, refl, sym, ap, ◌∙◌, subst, append_assoc}
use Rattle.std.proofs.lemmas.Bool.{and_parts, and_from}
use Rattle.herm_readers.specs.Reader.{Answer, Read, Fault, Reader, Rule, Found, Begins, Reads, ahead}
use Rattle.herm_readers.specs.Combinators.{onward, and_then, and_then_rule, sequence, sequence_rule}
use Rattle.herm_readers.proofs.Seams.{seam}
use Rattle.herm_readers.proofs.Ahead.{ahead-append}

module _ {S A B : Type 0} (first : Rule S A) (second : A → Rule S B) (read_first : Reader S A) (read_second : A → Reader S B) (reads_first : Reads first read_first) (reads_second : (a : A) → Reads (second a) (read_second a)) where
  depending_found_second : (symbols middle rest : List S) (a : A) (tree : A × B) → Found first symbols a middle → (answer : Answer S B) → read_second a middle ≡ answer →
      onward answer (λ b last. Read (a, b) last) ≡ Read tree rest → Found (and_then_rule first second) symbols tree rest
  depending_found_second symbols middle rest a tree outer (Read b last) r e =
      let same : (a, b) ≡ tree = cc in
      let left : last ≡ rest = cc in
      let inner = (reads_second a).found middle last b r in
      let beyond : ahead middle None ≡ ahead ((second a).spelling b) (ahead last None) = ap (λ t. ahead t None) inner.spelled ∙ ahead-append ((second a).spelling b) last None in
      let ends : first.ends a (ahead ((second a).spelling b) (ahead last None)) ≡ true = ap (first.ends a) (sym beyond) ∙ outer.ends in
      let there : Found (and_then_rule first second) symbols (a, b) last = record {
        fits = and_from (first.fits a) ((second a).fits b) outer.fits inner.fits;
        ends = and_from (first.ends a (ahead ((second a).spelling b) (ahead last None))) ((second a).ends b (ahead last None)) ends inner.ends;
        spelled = outer.spelled ∙ (ap (λ t. first.spelling a ++ t) inner.spelled ∙ sym (append_assoc (first.spelling a) ((second a).spelling b) last));
      } in
      subst (λ t. Found (and_then_rule first second) symbols t rest) same (subst (λ l. Found (and_then_rule first second) symbols (a, b) l) left there)
  depending_found_second symbols middle rest a tree outer (Fault n) r e = absurd (cc)

  depending_found_at : (symbols rest : List S) (tree : A × B) (answer : Answer S A) → read_first symbols ≡ answer →
      onward answer (λ a middle. onward (read_second a middle) (λ b last. Read (a, b) last)) ≡ Read tree rest → Found (and_then_rule first second) symbols tree rest
  depending_found_at symbols rest tree (Read a middle) r e =
      depending_found_second symbols middle rest a tree (reads_first.found symbols middle a r) (read_second a middle) refl e
  depending_found_at symbols rest tree (Fault n) r e = absurd (cc)

  depending_again : (tree : A × B) (rest : List S) → (and_then_rule first second).fits tree ≡ true → (and_then_rule first second).ends tree (ahead rest None) ≡ true →
      and_then read_first read_second ((and_then_rule first second).spelling tree ++ rest) ≡ Read tree rest
  depending_again tree rest fits ends =
      let fit = and_parts (first.fits tree.0) ((second tree.0).fits tree.1) fits in
      let end = and_parts (first.ends tree.0 (ahead ((second tree.0).spelling tree.1) (ahead rest None))) ((second tree.0).ends tree.1 (ahead rest None)) ends in
      let front_ends : first.ends tree.0 (ahead ((second tree.0).spelling tree.1 ++ rest) None) ≡ true = ap (first.ends tree.0) (ahead-append ((second tree.0).spelling tree.1) rest None) ∙ end.0 in
      let front : read_first ((first.spelling tree.0 ++ (second tree.0).spelling tree.1) ++ rest) ≡ Read tree.0 ((second tree.0).spelling tree.1 ++ rest) =
      ap read_first (append_assoc (first.spelling tree.0) ((second tree.0).spelling tree.1) rest) ∙ reads_first.again tree.0 ((second tree.0).spelling tree.1 ++ rest) fit.0 front_ends in
      let back : read_second tree.0 ((second tree.0).spelling tree.1 ++ rest) ≡ Read tree.1 rest = (reads_second tree.0).again tree.1 rest fit.1 end.1 in
      ap (λ answer. onward answer (λ a middle. onward (read_second a middle) (λ b last. Read (a, b) last))) front ∙ ap (λ answer. onward answer (λ b last. Read (tree.0, b) last)) back

  depending_begins_second : (symbols middle : List S) (a : A) (count : ℕ) → Found first symbols a middle → (answer : Answer S B) → read_second a middle ≡ answer →
      onward {B = A × B} answer (λ b last. Read (a, b) last) ≡ Fault count → Begins (and_then_rule first second) symbols count
  depending_begins_second symbols middle a count outer (Read b last) r e = absurd (cc)
  depending_begins_second symbols middle a count outer (Fault n) r e =
      let inner = (reads_second a).begins middle n r in
      let same : n ≡ count = cc in
      record {
        front = first.spelling a ++ inner.front;
        left = inner.left;
        whole = outer.spelled ∙ (ap (λ t. first.spelling a ++ t) inner.whole ∙ sym (append_assoc (first.spelling a) inner.front inner.left));
        counted = inner.counted ∙ same;
        tree = (a, inner.tree);
        fits = and_from (first.fits a) ((second a).fits inner.tree) outer.fits inner.fits;
        completion = inner.completion;
        completed = ap (λ t. first.spelling a ++ t) inner.completed ∙ sym (append_assoc (first.spelling a) inner.front inner.completion);
      }

  depending_begins_at : (symbols : List S) (count : ℕ) (answer : Answer S A) → read_first symbols ≡ answer →
      onward {B = A × B} answer (λ a middle. onward (read_second a middle) (λ b last. Read (a, b) last)) ≡ Fault count → Begins (and_then_rule first second) symbols count
  depending_begins_at symbols count (Read a middle) r e =
      depending_begins_second symbols middle a count (reads_first.found symbols middle a r) (read_second a middle) refl e
  depending_begins_at symbols count (Fault n) r e =
      let inner = reads_first.begins symbols n r in
      let same : n ≡ count = cc in
      record {
        front = inner.front;
        left = inner.left;
        whole = inner.whole;
        counted = inner.counted ∙ same;
        tree = (inner.tree, (reads_second inner.tree).example);
        fits = and_from (first.fits inner.tree) ((second inner.tree).fits (reads_second inner.tree).example) inner.fits (reads_second inner.tree).example_fits;
        completion = inner.completion ++ (second inner.tree).spelling (reads_second inner.tree).example;
        completed = ap (λ t. t ++ (second inner.tree).spelling (reads_second inner.tree).example) inner.completed ∙ append_assoc inner.front inner.completion ((second inner.tree).spelling (reads_second inner.tree).example);
      }

  -- The fault stands in the second part: the first part is read again, whatever stands behind the fault.
  depending_settled_second : (front : List S) (x : S) (behind other middle : List S) (a : A) → Found first (front ++ x ∷ behind) a middle → (answer : Answer S B) → read_second a middle ≡ answer →
      onward {B = A × B} answer (λ b last. Read (a, b) last) ≡ Fault (suc (length behind)) → and_then read_first read_second (front ++ x ∷ other) ≡ Fault (suc (length other))
  depending_settled_second front x behind other middle a outer (Read b last) r e = absurd (cc)
  depending_settled_second front x behind other middle a outer (Fault n) r e =
      let here : read_second a middle ≡ Fault (suc (length behind)) = cc in
      let inner = (reads_second a).begins middle (suc (length behind)) here in
      let there = seam first read_first reads_first front x behind other middle a inner.front inner.left outer inner.whole inner.counted in
      let second_read : read_second a (inner.front ++ x ∷ other) ≡ Fault (suc (length other)) = (reads_second a).settled inner.front x behind other (ap (read_second a) (sym there.same) ∙ here) in
      ap (λ answer. onward answer (λ a middle. onward (read_second a middle) (λ b last. Read (a, b) last))) there.reread ∙ ap (λ answer. onward answer (λ b last. Read (a, b) last)) second_read

  depending_settled_at : (front : List S) (x : S) (behind other : List S) (answer : Answer S A) → read_first (front ++ x ∷ behind) ≡ answer →
      onward {B = A × B} answer (λ a middle. onward (read_second a middle) (λ b last. Read (a, b) last)) ≡ Fault (suc (length behind)) → and_then read_first read_second (front ++ x ∷ other) ≡ Fault (suc (length other))
  depending_settled_at front x behind other (Read a middle) r e =
      depending_settled_second front x behind other middle a (reads_first.found (front ++ x ∷ behind) middle a r) (read_second a middle) refl e
  depending_settled_at front x behind other (Fault n) r e =
      let here : read_first (front ++ x ∷ behind) ≡ Fault (suc (length behind)) = cc in
      ap (λ answer. onward answer (λ a middle. onward (read_second a middle) (λ b last. Read (a, b) last))) (reads_first.settled front x behind other here)

  pub depending_reads : Reads (and_then_rule first second) (and_then read_first read_second)
  depending_reads = record {
    example = (reads_first.example, (reads_second reads_first.example).example);
    example_fits = and_from (first.fits reads_first.example) ((second reads_first.example).fits (reads_second reads_first.example).example) reads_first.example_fits (reads_second reads_first.example).example_fits;
    found = λ symbols rest tree e. depending_found_at symbols rest tree (read_first symbols) refl e;
    again = depending_again;
    begins = λ symbols count e. depending_begins_at symbols count (read_first symbols) refl e;
    settled = λ front x behind other e. depending_settled_at front x behind other (read_first (front ++ x ∷ behind)) refl e;
  }

pub sequence_reads : {S A B : Type 0} → (first : Rule S A) (second : Rule S B) (read_first : Reader S A) (read_second : Reader S B) → Reads first read_first → Reads second read_second →
    Reads (sequence_rule first second) (sequence read_first read_second)
sequence_reads first second read_first read_second reads_first reads_second = depending_reads first (λ a. second) read_first (λ a. read_second) reads_first (λ a. reads_second)
