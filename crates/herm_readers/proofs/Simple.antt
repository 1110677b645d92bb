-- The readers of nothing and of one symbol, a changed reader, and a reader that answers as another does.
use Rattle.std.proofs.Common.{◌≡◌, ℕ, suc, Bool, true, List, [], ◌∷◌, ◌++◌, length, Option, Some, None, refl, sym, ap, ◌∙◌, subst, arith, length-append}
use Rattle.herm_readers.specs.Reader.{Answer, Read, Fault, Reader, Rule, Found, Begins, Reads, ahead}
use Rattle.herm_readers.specs.Combinators.{onward, nothing_rule, one, one_rule, picked, mapped}
use Rattle.herm_readers.specs.laws.ReaderLaws.{Picks, Changes, NothingIsRead}

nothing_found : {S : Type 0} → (symbols rest : List S) (tree : Unit {0}) → Read tt symbols ≡ Read tree rest → Found nothing_rule symbols tree rest
nothing_found symbols rest tree e = let same : symbols ≡ rest = cc in record { fits = refl; ends = refl; spelled = same }

pub nothing_reads : (S : Type 0) → NothingIsRead S
nothing_reads S = record {
  example = tt;
  example_fits = refl;
  found = nothing_found;
  again = λ tree rest fits ends. refl;
  begins = λ symbols count e. absurd (cc);
  settled = λ front x behind other e. absurd (cc);
}

module _ {S A : Type 0} (fits : A → Bool) (symbol : A → S) (pick : S → Option A) (picks : Picks fits symbol pick) where
  one_found_at : (x : S) (behind rest : List S) (tree : A) (choice : Option A) → pick x ≡ choice → picked choice x behind ≡ Read tree rest → Found (one_rule fits symbol) (x ∷ behind) tree rest
  one_found_at x behind rest tree None p e = absurd (cc)
  one_found_at x behind rest tree (Some a) p e =
      let chosen : pick x ≡ Some tree = cc in
      let is : x ≡ symbol tree = (picks.from x tree chosen).1 in
      let left : behind ≡ rest = cc in
      let spelled : x ∷ behind ≡ symbol tree ∷ rest = cc in
      record { fits = (picks.from x tree chosen).0; ends = refl; spelled = spelled }

  one_found : (symbols rest : List S) (tree : A) → one pick symbols ≡ Read tree rest → Found (one_rule fits symbol) symbols tree rest
  one_found [] rest tree e = absurd (cc)
  one_found (x ∷ behind) rest tree e = one_found_at x behind rest tree (pick x) refl e

  one_begins_at : (x : S) (behind : List S) (count : ℕ) (choice : Option A) → picked choice x behind ≡ Fault count → Begins (one_rule fits symbol) (x ∷ behind) count
  one_begins_at x behind count None e =
      let counted : suc (length behind) ≡ count = cc in
      record {
        front = [];
        left = x ∷ behind;
        whole = refl;
        counted = counted;
        tree = picks.example;
        fits = picks.example_fits;
        completion = symbol picks.example ∷ [];
        completed = refl;
      }
  one_begins_at x behind count (Some a) e = absurd (cc)

  one_begins : (symbols : List S) (count : ℕ) → one pick symbols ≡ Fault count → Begins (one_rule fits symbol) symbols count
  one_begins [] count e =
      let counted : 0 ≡ count = cc in
      record {
        front = [];
        left = [];
        whole = refl;
        counted = counted;
        tree = picks.example;
        fits = picks.example_fits;
        completion = symbol picks.example ∷ [];
        completed = refl;
      }
  one_begins (x ∷ behind) count e = one_begins_at x behind count (pick x) e

  one_settled_at : (x : S) (behind other : List S) (choice : Option A) → picked choice x behind ≡ Fault (suc (length behind)) → picked choice x other ≡ Fault (suc (length other))
  one_settled_at x behind other None e = refl
  one_settled_at x behind other (Some a) e = absurd (cc)

  -- A fault of one symbol stands at the first symbol.
  one_not_later : (choice : Option A) (y : S) (front : List S) (x : S) (behind : List S) → picked choice y (front ++ x ∷ behind) ≡ Fault (suc (length behind)) → ⊥
  one_not_later None y front x behind e =
      let counts : suc (length (front ++ x ∷ behind)) ≡ suc (length behind) = cc in
      omega (arith, counts, length-append front (x ∷ behind))
  one_not_later (Some a) y front x behind e = absurd (cc)

  one_settled : (front : List S) (x : S) (behind other : List S) → one pick (front ++ x ∷ behind) ≡ Fault (suc (length behind)) → one pick (front ++ x ∷ other) ≡ Fault (suc (length other))
  one_settled [] x behind other e = one_settled_at x behind other (pick x) e
  one_settled (y ∷ front) x behind other e = absurd (one_not_later (pick y) y front x behind e)

  pub one_reads : Reads (one_rule fits symbol) (one pick)
  one_reads = record {
    example = picks.example;
    example_fits = picks.example_fits;
    found = one_found;
    again = λ tree rest f ends. ap (λ choice. picked choice (symbol tree) rest) (picks.back tree f);
    begins = one_begins;
    settled = one_settled;
  }

-- What is read of one rule, put into the trees of another.
module _ {S A B : Type 0} (put : A → B) (from : Rule S A) (to : Rule S B) (read : Reader S A) (reads : Reads from read)
    (put_fits : (a : A) → from.fits a ≡ true → to.fits (put a) ≡ true) (put_spelled : (a : A) → from.fits a ≡ true → to.spelling (put a) ≡ from.spelling a) where
  pub put_found : (symbols rest : List S) (tree : B) → ((a : A) (last : List S) → Found from symbols a last → to.ends (put a) (ahead last None) ≡ true) → (answer : Answer S A) → read symbols ≡ answer →
      onward answer (λ a last. Read (put a) last) ≡ Read tree rest → Found to symbols tree rest
  put_found symbols rest tree ends (Read a last) r e =
      let same : put a ≡ tree = cc in
      let left : last ≡ rest = cc in
      let inner = reads.found symbols last a r in
      let there : Found to symbols (put a) last = record {
        fits = put_fits a inner.fits;
        ends = ends a last inner;
        spelled = inner.spelled ∙ ap (λ text. text ++ last) (sym (put_spelled a inner.fits));
      } in
      subst (λ t. Found to symbols t rest) same (subst (λ l. Found to symbols (put a) l) left there)
  put_found symbols rest tree ends (Fault n) r e = absurd (cc)

  pub put_begins : (symbols : List S) (count : ℕ) (answer : Answer S A) → read symbols ≡ answer → onward answer (λ a last. Read (put a) last) ≡ Fault count → Begins to symbols count
  put_begins symbols count (Read a last) r e = absurd (cc)
  put_begins symbols count (Fault n) r e =
      let inner = reads.begins symbols n r in
      let same : n ≡ count = cc in
      record {
        front = inner.front;
        left = inner.left;
        whole = inner.whole;
        counted = inner.counted ∙ same;
        tree = put inner.tree;
        fits = put_fits inner.tree inner.fits;
        completion = inner.completion;
        completed = put_spelled inner.tree inner.fits ∙ inner.completed;
      }

  pub put_settled : (front : List S) (x : S) (behind other : List S) (answer : Answer S A) → read (front ++ x ∷ behind) ≡ answer → onward answer (λ a last. Read (put a) last) ≡ Fault (suc (length behind)) →
      onward (read (front ++ x ∷ other)) (λ a last. Read (put a) last) ≡ Fault (suc (length other))
  put_settled front x behind other (Read a last) r e = absurd (cc)
  put_settled front x behind other (Fault n) r e =
      let here : read (front ++ x ∷ behind) ≡ Fault (suc (length behind)) = cc in
      ap (λ answer. onward answer (λ a last. Read (put a) last)) (reads.settled front x behind other here)

module _ {S A B : Type 0} (change : A → B) (from : Rule S A) (to : Rule S B) (read : Reader S A) (changes : Changes change from to) (reads : Reads from read) where
  changed_again : (tree : B) (rest : List S) → to.fits tree ≡ true → to.ends tree (ahead rest None) ≡ true → mapped change read (to.spelling tree ++ rest) ≡ Read tree rest
  changed_again tree rest fits ends =
      let back = changes.back tree fits in
      let same : change back.0 ≡ tree = back.2 in
      let ends_before : from.ends back.0 (ahead rest None) ≡ true =
      sym (changes.ends back.0 (ahead rest None) back.1) ∙ (ap (λ t. to.ends t (ahead rest None)) same ∙ ends) in
      let text : to.spelling tree ≡ from.spelling back.0 = ap to.spelling (sym same) ∙ changes.spelling back.0 back.1 in
      let first : read (to.spelling tree ++ rest) ≡ Read back.0 rest = ap (λ t. read (t ++ rest)) text ∙ reads.again back.0 rest back.1 ends_before in
      ap (λ answer. onward answer (λ a last. Read (change a) last)) first ∙ ap (λ t. Read t rest) same

  pub changed_reads : Reads to (mapped change read)
  changed_reads = record {
    example = change reads.example;
    example_fits = changes.fits reads.example reads.example_fits;
    found = λ symbols rest tree e.
        put_found change from to read reads changes.fits changes.spelling symbols rest tree (λ a last inner. changes.ends a (ahead last None) inner.fits ∙ inner.ends) (read symbols) refl e;
    again = changed_again;
    begins = λ symbols count e. put_begins change from to read reads changes.fits changes.spelling symbols count (read symbols) refl e;
    settled = λ front x behind other e. put_settled change from to read reads changes.fits changes.spelling front x behind other (read (front ++ x ∷ behind)) refl e;
  }

-- A reader that answers as another reads the same rule.
pub alike_reads : {S A : Type 0} → (rule : Rule S A) (read other : Reader S A) → ((symbols : List S) → other symbols ≡ read symbols) → Reads rule read → Reads rule other
alike_reads rule read other alike reads = record {
  example = reads.example;
  example_fits = reads.example_fits;
  found = λ symbols rest tree e. reads.found symbols rest tree (sym (alike symbols) ∙ e);
  again = λ tree rest fits ends. alike (rule.spelling tree ++ rest) ∙ reads.again tree rest fits ends;
  begins = λ symbols count e. reads.begins symbols count (sym (alike symbols) ∙ e);
  settled = λ front x behind other_rest e. alike (front ++ x ∷ other_rest) ∙ reads.settled front x behind other_rest (sym (alike (front ++ x ∷ behind)) ∙ e);
}
