-- Two readers that agree wherever no more than some brackets are open. Readers that differ only in how deep
-- they go agree on symbols that do not go so deep.
use Rattle.std.proofs.Common.{◌≡◌, ℕ, zero, suc, Bool, true, false, ◌⊎◌, inl, inr, List, [], ◌∷◌, length, Option, Some, None, refl, ap, ◌∙◌, subst}
use Rattle.herm_readers.specs.Reader.{Answer, Read, Fault, Reader, ahead}
use Rattle.herm_readers.proofs.Marks.{led}
use Rattle.herm_readers.specs.Combinators.{onward, passes, one, picked, mapped, and_then, sequence, preceded, terminated, chosen, choice, many_step, many_at, many, separated}
use Rattle.herm_readers.specs.BracketBalance.{Side, Opening, Closing, Neither, too_deep_step, too_deep}

-- With so much room before, the two answer alike, and what is read leaves so much room after.
pub record Agrees {S A : Type 0} (side : S → Side) (before after : ℕ) (f g : Reader S A) : Type 0 where
  pub same : (symbols : List S) → too_deep side symbols before ≡ None → f symbols ≡ g symbols
  pub keeps : (symbols : List S) (a : A) (rest : List S) → too_deep side symbols before ≡ None → f symbols ≡ Read a rest → too_deep side rest after ≡ None

module _ {S : Type 0} (side : S → Side) where
  pub agree_return : {A : Type 0} (r : ℕ) (a : A) → Agrees side r r (λ rest. Read a rest) (λ rest. Read a rest)
  agree_return r a = record { same = λ symbols w. refl; keeps = λ symbols b rest w e. let left : symbols ≡ rest = cc in subst (λ t. too_deep side t r ≡ None) left w }

  agree_bind_same : {A B : Type 0} {before middle after : ℕ} {f g : Reader S A} {h k : A → Reader S B} → Agrees side before middle f g → ((a : A) → Agrees side middle after (h a) (k a)) →
      (symbols : List S) → too_deep side symbols before ≡ None → (answer : Answer S A) → f symbols ≡ answer → onward answer h ≡ onward answer k
  agree_bind_same first second symbols w (Read a rest) e = (second a).same rest (first.keeps symbols a rest w e)
  agree_bind_same first second symbols w (Fault n) e = refl

  agree_bind_keeps : {A B : Type 0} {before middle after : ℕ} {f g : Reader S A} {h k : A → Reader S B} → Agrees side before middle f g → ((a : A) → Agrees side middle after (h a) (k a)) →
      (symbols : List S) (b : B) (last : List S) → too_deep side symbols before ≡ None → (answer : Answer S A) → f symbols ≡ answer → onward answer h ≡ Read b last → too_deep side last after ≡ None
  agree_bind_keeps first second symbols b last w (Read a rest) e r = (second a).keeps rest b last (first.keeps symbols a rest w e) r
  agree_bind_keeps first second symbols b last w (Fault n) e r = absurd (cc)

  pub agree_bind : {A B : Type 0} {before middle after : ℕ} {f g : Reader S A} {h k : A → Reader S B} → Agrees side before middle f g → ((a : A) → Agrees side middle after (h a) (k a)) →
      Agrees side before after (λ symbols. onward (f symbols) h) (λ symbols. onward (g symbols) k)
  agree_bind {f = f} {g = g} {h = h} {k = k} first second = record {
    same = λ symbols w. agree_bind_same first second symbols w (f symbols) refl ∙ ap (λ answer. onward answer k) (first.same symbols w);
    keeps = λ symbols b last w r. agree_bind_keeps first second symbols b last w (f symbols) refl r;
  }

  pub agree_changed : {A B : Type 0} {before after : ℕ} {f g : Reader S A} (change : A → B) → Agrees side before after f g → Agrees side before after (mapped change f) (mapped change g)
  agree_changed {after = after} change first = agree_bind first (λ a. agree_return after (change a))

  pub agree_sequence : {A B : Type 0} {before middle after : ℕ} {f g : Reader S A} {h k : Reader S B} → Agrees side before middle f g → Agrees side middle after h k → Agrees side before after (sequence f h) (sequence g k)
  agree_sequence {after = after} first second = agree_bind first (λ a. agree_bind second (λ b. agree_return after (a, b)))

  pub agree_depending : {A B : Type 0} {before middle after : ℕ} {f g : Reader S A} {h k : A → Reader S B} → Agrees side before middle f g → ((a : A) → Agrees side middle after (h a) (k a)) →
      Agrees side before after (and_then f h) (and_then g k)
  agree_depending {after = after} first second = agree_bind first (λ a. agree_bind (second a) (λ b. agree_return after (a, b)))

  -- One symbol that is no bracket.
  agree_one_keeps : {A : Type 0} (r : ℕ) (x : S) (symbols : List S) (a : A) (rest : List S) (choice : Option A) → ((b : A) → choice ≡ Some b → side x ≡ Neither) →
      too_deep side (x ∷ symbols) r ≡ None → picked choice x symbols ≡ Read a rest → too_deep side rest r ≡ None
  agree_one_keeps r x symbols a rest None neither w e = absurd (cc)
  agree_one_keeps r x symbols a rest (Some b) neither w e =
      let left : symbols ≡ rest = cc in
      let inner : too_deep_step Neither (too_deep side symbols) (suc (length symbols)) r ≡ None = subst (λ s. too_deep_step s (too_deep side symbols) (suc (length symbols)) r ≡ None) (neither b refl) w in
      subst (λ t. too_deep side t r ≡ None) left inner

  agree_one_all : {A : Type 0} (r : ℕ) (pick : S → Option A) → ((x : S) (a : A) → pick x ≡ Some a → side x ≡ Neither) → (symbols : List S) (a : A) (rest : List S) →
      too_deep side symbols r ≡ None → one pick symbols ≡ Read a rest → too_deep side rest r ≡ None
  agree_one_all r pick neither [] a rest w e = absurd (cc)
  agree_one_all r pick neither (x ∷ symbols) a rest w e = agree_one_keeps r x symbols a rest (pick x) (neither x) w e

  pub agree_one : {A : Type 0} (r : ℕ) (pick : S → Option A) → ((x : S) (a : A) → pick x ≡ Some a → side x ≡ Neither) → Agrees side r r (one pick) (one pick)
  agree_one r pick neither = record { same = λ symbols w. refl; keeps = agree_one_all r pick neither }

  -- A leading symbol: what room there is behind it.
  record Next {A : Type 0} (before after : ℕ) (f g : Reader S A) (further : ℕ → Option ℕ) : Type 0 where
    room : ℕ
    fits : further room ≡ None
    agree : Agrees side room after f g

  abbrev Nexts : {A : Type 0} → ℕ → ℕ → (S → Bool) → Reader S A → Reader S A → Type 0
  Nexts before after test f g = (x : S) → test x ≡ true → (further : ℕ → Option ℕ) (left : ℕ) → too_deep_step (side x) further left before ≡ None → Next before after f g further

  agree_led_same : {A : Type 0} {before after : ℕ} {f g : Reader S A} (x : S) (symbols : List S) (passed : Bool) → (passed ≡ true → Next before after f g (too_deep side symbols)) → led passed f symbols ≡ led passed g symbols
  agree_led_same x symbols true next = let n = next refl in n.agree.same symbols n.fits
  agree_led_same x symbols false next = refl

  agree_led_keeps : {A : Type 0} {before after : ℕ} {f g : Reader S A} (x : S) (symbols : List S) (a : A) (rest : List S) (passed : Bool) → (passed ≡ true → Next before after f g (too_deep side symbols)) →
      led passed f symbols ≡ Read a rest → too_deep side rest after ≡ None
  agree_led_keeps x symbols a rest true next e = let n = next refl in n.agree.keeps symbols a rest n.fits e
  agree_led_keeps x symbols a rest false next e = absurd (cc)

  agree_leading_same : {A : Type 0} {before after : ℕ} {f g : Reader S A} (test : S → Bool) → Nexts before after test f g → (symbols : List S) → too_deep side symbols before ≡ None → preceded test f symbols ≡ preceded test g symbols
  agree_leading_same test nexts [] w = refl
  agree_leading_same test nexts (x ∷ symbols) w = agree_led_same x symbols (test x) (λ p. nexts x p (too_deep side symbols) (suc (length symbols)) w)

  agree_leading_keeps : {A : Type 0} {before after : ℕ} {f g : Reader S A} (test : S → Bool) → Nexts before after test f g → (symbols : List S) (a : A) (rest : List S) → too_deep side symbols before ≡ None →
      preceded test f symbols ≡ Read a rest → too_deep side rest after ≡ None
  agree_leading_keeps test nexts [] a rest w e = absurd (cc)
  agree_leading_keeps test nexts (x ∷ symbols) a rest w e = agree_led_keeps x symbols a rest (test x) (λ p. nexts x p (too_deep side symbols) (suc (length symbols)) w) e

  agree_leading_by : {A : Type 0} {before after : ℕ} {f g : Reader S A} (test : S → Bool) → Nexts before after test f g → Agrees side before after (preceded test f) (preceded test g)
  agree_leading_by test nexts = record { same = agree_leading_same test nexts; keeps = agree_leading_keeps test nexts }

  next_neither : {A : Type 0} {before after : ℕ} {f g : Reader S A} → Agrees side before after f g → (s : Side) (further : ℕ → Option ℕ) (left : ℕ) → s ≡ Neither → too_deep_step s further left before ≡ None → Next before after f g further
  next_neither {before = before} agree s further left is w = record { room = before; fits = subst (λ t. too_deep_step t further left before ≡ None) is w; agree = agree }

  pub agree_leading : {A : Type 0} {before after : ℕ} {f g : Reader S A} (test : S → Bool) → ((x : S) → test x ≡ true → side x ≡ Neither) → Agrees side before after f g → Agrees side before after (preceded test f) (preceded test g)
  agree_leading test neither agree = agree_leading_by test (λ x p further left w. next_neither agree (side x) further left (neither x p) w)

  next_opening : {A : Type 0} {after : ℕ} {f g : Reader S A} (before : ℕ) → ((r : ℕ) → before ≡ suc r → Agrees side r after f g) → (further : ℕ → Option ℕ) (left : ℕ) →
      too_deep_step Opening further left before ≡ None → Next before after f g further
  next_opening zero agree further left w = absurd (cc)
  next_opening (suc r) agree further left w = record { room = r; fits = w; agree = agree r refl }

  -- A leading bracket that opens leaves less room, and where there was none it cannot stand.
  pub agree_opening : {A : Type 0} {before after : ℕ} {f g : Reader S A} (test : S → Bool) → ((x : S) → test x ≡ true → side x ≡ Opening) → ((r : ℕ) → before ≡ suc r → Agrees side r after f g) →
      Agrees side before after (preceded test f) (preceded test g)
  agree_opening {before = before} test opens agree =
      agree_leading_by test (λ x p further left w. next_opening before agree further left (subst (λ t. too_deep_step t further left before ≡ None) (opens x p) w))

  -- A leading bracket that closes gives room back.
  pub agree_shutting : {A : Type 0} {room before after : ℕ} {f g : Reader S A} (test : S → Bool) → ((x : S) → test x ≡ true → side x ≡ Closing) → before ≡ suc room → Agrees side before after f g →
      Agrees side room after (preceded test f) (preceded test g)
  agree_shutting {room = room} {before = before} test closes more agree =
      agree_leading_by test (λ x p further left w. record {
        room = before;
        fits = ap further more ∙ subst (λ t. too_deep_step t further left room ≡ None) (closes x p) w;
        agree = agree;
      })

  pub agree_closing : {A : Type 0} {before after : ℕ} {f g : Reader S A} (test : S → Bool) → ((x : S) → test x ≡ true → side x ≡ Neither) → Agrees side before after f g → Agrees side before after (terminated test f) (terminated test g)
  agree_closing {after = after} test neither first = agree_bind first (λ a. agree_leading test neither (agree_return after a))

  -- What stands in brackets, with the brackets.
  pub agree_bracketed : {A : Type 0} {r : ℕ} {f g : Reader S A} (opening shutting : S → Bool) → ((x : S) → opening x ≡ true → side x ≡ Opening) → ((x : S) → shutting x ≡ true → side x ≡ Closing) →
      ((less : ℕ) → r ≡ suc less → Agrees side less less f g) → Agrees side r r (preceded opening (terminated shutting f)) (preceded opening (terminated shutting g))
  agree_bracketed {r = r} opening shutting opens closes inside =
      agree_opening opening opens (λ less more. agree_bind (inside less more) (λ a. agree_shutting shutting closes more (agree_return r a)))

  agree_chosen_same : {A B : Type 0} {before after : ℕ} {f g : Reader S A} {h k : Reader S B} → Agrees side before after f g → Agrees side before after h k → (symbols : List S) → too_deep side symbols before ≡ None →
      (passed : Bool) → chosen passed f h symbols ≡ chosen passed g k symbols
  agree_chosen_same {A} {B} first second symbols w true = ap (λ answer. onward {B = A ⊎ B} answer (λ a rest. Read (inl a) rest)) (first.same symbols w)
  agree_chosen_same {A} {B} first second symbols w false = ap (λ answer. onward {B = A ⊎ B} answer (λ b rest. Read (inr b) rest)) (second.same symbols w)

  agree_chosen_keeps : {A B : Type 0} {before after : ℕ} {f g : Reader S A} {h k : Reader S B} → Agrees side before after f g → Agrees side before after h k → (symbols : List S) (c : A ⊎ B) (rest : List S) →
      too_deep side symbols before ≡ None → (passed : Bool) → chosen passed f h symbols ≡ Read c rest → too_deep side rest after ≡ None
  agree_chosen_keeps {A} {B} {after = after} first second symbols c rest w true e = (agree_bind first (λ a. agree_return {A = A ⊎ B} after (inl a))).keeps symbols c rest w e
  agree_chosen_keeps {A} {B} {after = after} first second symbols c rest w false e = (agree_bind second (λ b. agree_return {A = A ⊎ B} after (inr b))).keeps symbols c rest w e

  pub agree_choice : {A B : Type 0} {before after : ℕ} {f g : Reader S A} {h k : Reader S B} (test : S → Bool) → Agrees side before after f g → Agrees side before after h k → Agrees side before after (choice test f h) (choice test g k)
  agree_choice test first second = record {
    same = λ symbols w. agree_chosen_same first second symbols w (passes test (ahead symbols None));
    keeps = λ symbols c rest w e. agree_chosen_keeps first second symbols c rest w (passes test (ahead symbols None)) e;
  }

  agree_step_same : {A : Type 0} {r : ℕ} {f g : Reader S A} {h k : Reader S (List A)} → Agrees side r r f g → Agrees side r r h k → (symbols : List S) → too_deep side symbols r ≡ None → (passed : Bool) →
      many_step passed f h symbols ≡ many_step passed g k symbols
  agree_step_same {A} {r = r} item others symbols w true = (agree_bind item (λ a. agree_bind others (λ found. agree_return {A = List A} r (a ∷ found)))).same symbols w
  agree_step_same item others symbols w false = refl

  agree_step_keeps : {A : Type 0} {r : ℕ} {f g : Reader S A} {h k : Reader S (List A)} → Agrees side r r f g → Agrees side r r h k → (symbols : List S) (found : List A) (rest : List S) → too_deep side symbols r ≡ None → (passed : Bool) →
      many_step passed f h symbols ≡ Read found rest → too_deep side rest r ≡ None
  agree_step_keeps {A} {r = r} item others symbols found rest w true e = (agree_bind item (λ a. agree_bind others (λ more. agree_return {A = List A} r (a ∷ more)))).keeps symbols found rest w e
  agree_step_keeps {r = r} item others symbols found rest w false e = let left : symbols ≡ rest = cc in subst (λ t. too_deep side t r ≡ None) left w

  agree_many_at : {A : Type 0} {r : ℕ} {f g : Reader S A} (test : S → Bool) → Agrees side r r f g → (most : ℕ) → Agrees side r r (many_at test f most) (many_at test g most)
  agree_many_at {A} {r = r} test item zero = agree_return {A = List A} r []
  agree_many_at test item (suc most) = record {
    same = λ symbols w. agree_step_same item (agree_many_at test item most) symbols w (passes test (ahead symbols None));
    keeps = λ symbols found rest w e. agree_step_keeps item (agree_many_at test item most) symbols found rest w (passes test (ahead symbols None)) e;
  }

  pub agree_many : {A : Type 0} {r : ℕ} {f g : Reader S A} (test : S → Bool) → Agrees side r r f g → Agrees side r r (many test f) (many test g)
  agree_many test item = record {
    same = λ symbols w. (agree_many_at test item (length symbols)).same symbols w;
    keeps = λ symbols found rest w e. (agree_many_at test item (length symbols)).keeps symbols found rest w e;
  }

  pub agree_separated : {A : Type 0} {r : ℕ} {f g : Reader S A} (test : S → Bool) → ((x : S) → test x ≡ true → side x ≡ Neither) → Agrees side r r f g → Agrees side r r (separated test f) (separated test g)
  agree_separated test neither item = agree_changed (λ found. found.0 ∷ found.1) (agree_sequence item (agree_many test (agree_leading test neither item)))
