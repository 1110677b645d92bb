-- Lists that are read by a loop: what was found, joined with what is left to read, is the whole.
use Rattle.std.proofs.Common.{◌≡◌, ℕ, suc, ◌<◌, ◌≤◌, Bool, true, false, List, [], ◌∷◌, ◌++◌, append-nil, append_assoc, map, length, Option, Some, None, refl, sym, ap, ◌∙◌, arith}
use Rattle.herm_readers.specs.Reader.{Answer, Read, Fault, Reader, Rule, Reads, ahead}
use Rattle.herm_readers.specs.Combinators.{onward, passes, preceded, preceded_rule, many, many_step}
use Rattle.herm_readers.specs.laws.ReaderLaws.{IsWritten}
use Rattle.herm_readers.proofs.Lists.{many_unrolled}
use Rattle.herm_readers.proofs.Marks.{leading_reads}
use Rattle.herm_readers.proofs.Separated.{leading_written}
use Rattle.herm_alphabet.specs.declared.token.Token.{Token}
use Rattle.herm_alphabet.specs.declared.sign.Mark.{Mark}
use Rattle.herm_syntax.specs.Symbols.{Symbol, Sign, is}
use Rattle.herm_syntax.proofs.Names.{sign_test}
use Rattle.herm_parser.specs.Along.{◌>>=◌, past_each}
use Rattle.herm_parser.specs.Gives.{kinds, with_front}

-- The list goes on item by item, and an item has a symbol.
pub record Goes {A : Type 0} (test : Symbol → Bool) (item : Reader Symbol A) : Type 0 where
  pub unrolled : (symbols : List Symbol) → many test item symbols ≡ many_step (passes test (ahead symbols None)) item (many test item) symbols
  pub shorter : (symbols rest : List Symbol) (a : A) → item symbols ≡ Read a rest → length rest < length symbols

longer : (a rest : List Symbol) → (a ≡ [] → ⊥) → length rest < length (a ++ rest)
longer [] rest some = absurd (some refl)
longer (x ∷ a) rest some = omega (arith, length_joined a rest)
  where
    length_joined : (a rest : List Symbol) → length rest ≤ length (a ++ rest)
    length_joined [] rest = omega arith
    length_joined (x ∷ a) rest = omega (arith, length_joined a rest)

pub goes_by : {A : Type 0} → (test : Symbol → Bool) (rule : Rule Symbol A) (item : Reader Symbol A) → IsWritten rule → Reads rule item → Goes test item
goes_by test rule item written reads = record {
  unrolled = many_unrolled test rule item written reads;
  shorter = λ symbols rest a e.
      let found = reads.found symbols rest a e in
      omega (arith, ap length found.spelled, longer (rule.spelling a) rest (written a found.fits));
}

-- Items behind a sign each.
pub goes_behind : {A : Type 0} → (sign : Mark) (rule : Rule Symbol A) (item : Reader Symbol A) → Reads rule item → Goes (is (Sign sign)) (preceded (is (Sign sign)) item)
goes_behind sign rule item reads =
    goes_by (is (Sign sign)) (preceded_rule (Sign sign) rule) (preceded (is (Sign sign)) item) (leading_written (Sign sign) rule)
    (leading_reads (Sign sign) (is (Sign sign)) rule item (sign_test sign) reads)

module _ {A : Type 0} (test : Symbol → Bool) (item : Reader Symbol A) (goes : Goes test item) where
  -- At the end of the list.
  end_of : (front : List A) (symbols : List Symbol) (passed : Bool) → passed ≡ false → with_front front (many_step passed item (many test item) symbols) ≡ Read front symbols
  end_of front symbols true e = absurd cc
  end_of front symbols false e = ap (λ (t : List A). Read t symbols) (append-nil front)

  pub loop_end : (front : List A) (symbols : List Symbol) → passes test (ahead symbols None) ≡ false → with_front front (many test item symbols) ≡ Read front symbols
  loop_end front symbols e = ap (with_front front) (goes.unrolled symbols) ∙ end_of front symbols (passes test (ahead symbols None)) e

  -- One item more.
  moved : (front : List A) (a : A) (answer : Answer Symbol (List A)) →
      with_front front (onward answer (λ found last. Read (a ∷ found) last)) ≡ with_front (front ++ a ∷ []) answer
  moved front a (Read found last) = ap (λ (t : List A). Read t last) (sym (append_assoc front (a ∷ []) found))
  moved front a (Fault n) = refl

  step_of : (front : List A) (symbols rest : List Symbol) (a : A) (passed : Bool) → passed ≡ true → item symbols ≡ Read a rest →
      with_front front (many_step passed item (many test item) symbols) ≡ with_front (front ++ a ∷ []) (many test item rest)
  step_of front symbols rest a true e f = ap (λ answer. with_front front (onward answer (λ a rest. onward (many test item rest) (λ found last. Read (a ∷ found) last)))) f ∙ moved front a (many test item rest)
  step_of front symbols rest a false e f = absurd cc

  pub loop_step : (front : List A) (symbols rest : List Symbol) (a : A) → passes test (ahead symbols None) ≡ true → item symbols ≡ Read a rest →
      with_front front (many test item symbols) ≡ with_front (front ++ a ∷ []) (many test item rest)
  loop_step front symbols rest a e f = ap (with_front front) (goes.unrolled symbols) ∙ step_of front symbols rest a (passes test (ahead symbols None)) e f

  -- A fault in an item.
  stop_of : (front : List A) (symbols : List Symbol) (n : ℕ) (passed : Bool) → passed ≡ true → item symbols ≡ Fault n →
      with_front front (many_step passed item (many test item) symbols) ≡ Fault n
  stop_of front symbols n true e f = ap (λ answer. with_front front (onward answer (λ a rest. onward (many test item rest) (λ found last. Read (a ∷ found) last)))) f
  stop_of front symbols n false e f = absurd cc

  pub loop_stop : (front : List A) (symbols : List Symbol) (n : ℕ) → passes test (ahead symbols None) ≡ true → item symbols ≡ Fault n →
      with_front front (many test item symbols) ≡ Fault n
  loop_stop front symbols n e f = ap (with_front front) (goes.unrolled symbols) ∙ stop_of front symbols n (passes test (ahead symbols None)) e f

-- The first item of a list with a sign between two.
pub first_and_others : {A : Type 0} → (a : A) (answer : Answer Symbol (List A)) →
    onward (onward answer (λ b last. Read (a, b) last)) (λ (found : A × List A) rest. Read (found.0 ∷ found.1) rest) ≡ with_front (a ∷ []) answer
first_and_others a (Read found last) = refl
first_and_others a (Fault n) = refl

pub kinds_length : (tokens : List Token) → length (kinds tokens) ≡ length tokens
kinds_length [] = refl
kinds_length (t ∷ tokens) = ap suc (kinds_length tokens)

pub map_pushed : {X A : Type 0} → (f : X → A) (xs ys : List X) (x : X) → ys ≡ xs ++ x ∷ [] → map f ys ≡ map f xs ++ f x ∷ []
map_pushed f xs ys x e = ap (map f) e ∙ map_joined f xs (x ∷ [])
  where
    map_joined : {X A : Type 0} → (f : X → A) (xs zs : List X) → map f (xs ++ zs) ≡ map f xs ++ map f zs
    map_joined f [] zs = refl
    map_joined f (y ∷ xs) zs = ap (λ t. f y ∷ t) (map_joined f xs zs)

module _ {X A : Type 0} (f : X → A) (test : Symbol → Bool) (item : Reader Symbol A) (goes : Goes test item) where
  -- A value more was pushed.
  pub loop_next : (xs ys : List X) (x : X) (symbols rest : List Symbol) → ys ≡ xs ++ x ∷ [] → passes test (ahead symbols None) ≡ true → item symbols ≡ Read (f x) rest →
      with_front (map f ys) (many test item rest) ≡ with_front (map f xs) (many test item symbols)
  loop_next xs ys x symbols rest pushed e found =
      ap (λ (front : List A). with_front front (many test item rest)) (map_pushed f xs ys x pushed) ∙ sym (loop_step test item goes (map f xs) symbols rest (f x) e found)

chained : (first : Option (List Token)) (f g h : List Token → Option (List Token)) → ((s : List Token) → f s ≡ (g s >>= h)) → (first >>= f) ≡ ((first >>= g) >>= h)
chained None f g h same = refl
chained (Some s) f g h same = same s

module _ {X : Type 0} (past : X → List Token → Option (List Token)) where
  past_joined : (list : List X) (x : X) (tokens : List Token) → past_each past (list ++ x ∷ []) tokens ≡ (past_each past list tokens >>= past_each past (x ∷ []))
  past_joined [] x tokens = refl
  past_joined (y ∷ list) x tokens = chained (past y tokens) (past_each past (list ++ x ∷ [])) (past_each past list) (past_each past (x ∷ [])) (past_joined list x)

  -- One more goes along behind those that went along.
  pub past_next : (xs ys : List X) (x : X) (tokens rest behind : List Token) → ys ≡ xs ++ x ∷ [] → past_each past xs tokens ≡ Some rest → past x rest ≡ Some behind → past_each past ys tokens ≡ Some behind
  past_next xs ys x tokens rest behind pushed went goes =
      ap (λ (list : List X). past_each past list tokens) pushed ∙ (past_joined xs x tokens ∙ (ap (λ t. t >>= past_each past (x ∷ [])) went ∙ ap (λ t. t >>= λ s. Some s) goes))

no_front : {A : Type 0} → (answer : Answer Symbol (List A)) → with_front [] answer ≡ answer
no_front (Read found rest) = refl
no_front (Fault n) = refl

pub loop_start : {X A : Type 0} → (f : X → A) (xs : List X) (answer : Answer Symbol (List A)) → xs ≡ [] → with_front (map f xs) answer ≡ answer
loop_start {X = X} f xs answer e = ap (λ (list : List X). with_front (map f list) answer) e ∙ no_front answer

pub past_start : {X : Type 0} → (past : X → List Token → Option (List Token)) (xs : List X) (tokens : List Token) → xs ≡ [] → past_each past xs tokens ≡ Some tokens
past_start {X = X} past xs tokens e = ap (λ (list : List X). past_each past list tokens) e

pub loop_smaller : {X A : Type 0} → (f : X → A) (test : Symbol → Bool) (item : Reader Symbol A) → Goes test item → (x : X) (tokens rest : List Token) → item (kinds tokens) ≡ Read (f x) (kinds rest) → length rest < length tokens
loop_smaller f test item goes x tokens rest e = omega (arith, goes.shorter (kinds tokens) (kinds rest) (f x) e, kinds_length tokens, kinds_length rest)
