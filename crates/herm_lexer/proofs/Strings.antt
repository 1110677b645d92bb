-- Strings.
use Rattle.std.proofs.Common.{◌≡◌, ℕ, ◌+◌, ◌<◌, ◌≤◌, ◌⊎◌, inl, inr, Bool, true, false, cond, ◌&&◌, nat_lt, nat_eq, List, [], ◌∷◌, ◌++◌, length, get_or, take, Option, Some, None, Ok, Err, Result, refl, sym, ap, subst, ◌∙◌, append_assoc, arith}
use Rattle.std.specs.Prelude.{IsTrue}
use Rattle.std.specs.Int.{is_in_range}
use Rattle.std.specs.List.{AllByRecursion, flat_map}
use Rattle.std.proofs.lemmas.Bool.{le-ltb, lt-ltb, ltb-false, ltb-true}
use Rattle.std.proofs.lemmas.Bool.Decides.{nat_tests}
use Rattle.std.proofs.lemmas.List.{take_at, append-nil, length-append, append_cancel_right}
use Rattle.herm_lexer.specs.Bytes.{is_allowed}
use Rattle.herm_lexer.specs.Runs.{goes_on, escapes, Goes, Stops, run_length}
use Rattle.herm_model.specs.Escapes.{escaped}
use Rattle.herm_lexer.specs.Spelling.{is_content, Spells, Ends}
use Rattle.herm_lexer.specs.Faults.{IsUnclosedString, IsMisspelledString}
use Rattle.herm_lexer.specs.Reading.{before, unescaped, content_byte, content_of, text_of_content, string_at, piece_at}
use Rattle.herm_lexer.specs.declared.run.Run.TheVariants.{Inside}
use Rattle.herm_lexer.specs.declared.piece.Piece.{Piece}
use Rattle.herm_lexer.specs.declared.piece.Piece.TheVariants.{Token as Lexeme}
use Rattle.herm_lexer.specs.declared.piece.Stop.{Stop}
use Rattle.herm_lexer.specs.declared.piece.Stop.TheVariants as stops
use Rattle.herm_alphabet.specs.declared.token.TokenKind.TheVariants.{Text}
use Rattle.herm_lexer.proofs.Explained.{Explains}
use Rattle.herm_lexer.proofs.ByteFacts.{stray_not, stray_no_line_byte}
use Rattle.herm_lexer.proofs.Integers.{index_rest}
use Rattle.herm_lexer.proofs.Choices.{by_test, and_false, is_n, none_not_some, some_is}
use Rattle.herm_lexer.proofs.RunFacts.{Goes-append, run_length-of}

-- ---- the spelling of content

-- a byte of content that stands for itself
pub record IsItself (b : ℕ) : Type 0 where
  pub goes : goes_on Inside false b ≡ true
  pub escapes_none : escapes Inside false b ≡ false
  pub in_range : is_in_range 32 126 b ≡ true

itself : (b : ℕ) → is_content b ≡ true → nat_eq b 10 ≡ false → nat_eq b 34 ≡ false → nat_eq b 92 ≡ false → IsItself b
itself b h no_newline no_quote no_escape = record {
  goes = grind (arith, nat_tests);
  escapes_none = rw no_escape refl;
  in_range = grind (arith, nat_tests);
}

-- what holds of the three escapes and of each byte that stands for itself
by_escape : (P : List ℕ → Type 0) (b : ℕ) → (nat_eq b 10 ≡ true → P (92 ∷ 110 ∷ [])) → (nat_eq b 34 ≡ true → P (92 ∷ 34 ∷ [])) → (nat_eq b 92 ≡ true → P (92 ∷ 92 ∷ []))
    → (nat_eq b 10 ≡ false → nat_eq b 34 ≡ false → nat_eq b 92 ≡ false → P (b ∷ [])) → P (escaped b)
by_escape P b newline quote escape plain =
    by_test P (nat_eq b 10) _ _ newline (λ not_newline. by_test P (nat_eq b 34) _ _ quote (λ not_quote. by_test P (nat_eq b 92) _ _ escape (plain not_newline not_quote)))

escaped_Goes : (b : ℕ) → is_content b ≡ true → Goes Inside false (escaped b) false
escaped_Goes b h =
    by_escape (λ (t : List ℕ). Goes Inside false t false) b (λ _. (refl, (refl, refl))) (λ _. (refl, (refl, refl))) (λ _. (refl, (refl, refl)))
    (λ p q r. let i = itself b h p q r in (i.goes, i.escapes_none))

pub content_Goes : (content : List ℕ) → AllByRecursion (λ b. IsTrue (is_content b)) content → Goes Inside false (flat_map escaped content) false
content_Goes [] h = refl
content_Goes (b ∷ bs) h = Goes-append Inside false false false (escaped b) (flat_map escaped bs) (escaped_Goes b h.0) (content_Goes bs h.1)

content_of-escaped : (b : ℕ) (rest : List ℕ) → is_content b ≡ true → content_of false (escaped b ++ rest) ≡ before (Some b) (content_of false rest)
content_of-escaped b rest h =
    by_escape (λ (t : List ℕ). content_of false (t ++ rest) ≡ before (Some b) (content_of false rest)) b
    (λ e. ap (λ (c : ℕ). before (Some c) (content_of false rest)) (sym (is_n b 10 e)))
    (λ e. ap (λ (c : ℕ). before (Some c) (content_of false rest)) (sym (is_n b 34 e)))
    (λ e. ap (λ (c : ℕ). before (Some c) (content_of false rest)) (sym (is_n b 92 e)))
    (λ p q r. let i = itself b h p q r in rw (r, i.in_range) refl)

-- content that is spelled is read
pub content_again : (content : List ℕ) → AllByRecursion (λ b. IsTrue (is_content b)) content → content_of false (flat_map escaped content) ≡ Some content
content_again [] h = refl
content_again (b ∷ bs) h = content_of-escaped b (flat_map escaped bs) h.0 ∙ ap (before (Some b)) (content_again bs h.1)

-- a `\` that was read before
abbrev slash : Bool → List ℕ
slash true = 92 ∷ []
slash false = []

-- content that is read is spelled by the bytes
record Reads (front inside content : List ℕ) : Type 0 where
  spelled : front ++ inside ≡ flat_map escaped content
  each : AllByRecursion (λ b. IsTrue (is_content b)) content

before_some : (byte : Option ℕ) (o : Option (List ℕ)) (content : List ℕ) → before byte o ≡ Some content → (c : ℕ) × (cs : List ℕ) × (byte ≡ Some c) × (o ≡ Some cs) × (content ≡ c ∷ cs)
before_some None o content e = absurd cc
before_some (Some c) None content e = absurd cc
before_some (Some c) (Some cs) content e = (c, cs, refl, refl, cc)

one_unit : (front : List ℕ) (b : ℕ) (bs content : List ℕ) (byte : Option ℕ) → ((c : ℕ) → byte ≡ Some c → (front ++ b ∷ [] ≡ escaped c) × (is_content c ≡ true)) → ((cs : List ℕ) → content_of false bs ≡ Some cs → Reads [] bs cs) → before byte (content_of false bs) ≡ Some content → Reads front (b ∷ bs) content
one_unit front b bs content byte unit more e =
    let p = before_some byte (content_of false bs) content e in
    let u = unit p.0 p.2 in
    let m = more p.1 p.3 in
    let joined : front ++ b ∷ bs ≡ escaped p.0 ++ flat_map escaped p.1 = sym (append_assoc front (b ∷ []) bs) ∙ ap (λ (t : List ℕ). t ++ bs) u.0 ∙ ap (λ (t : List ℕ). escaped p.0 ++ t) m.spelled in
    subst (Reads front (b ∷ bs)) (sym p.4) (record { spelled = joined; each = (u.1, m.each) })

-- behind a `\`
escaped_unit : (b c : ℕ) → unescaped b ≡ Some c → (92 ∷ b ∷ [] ≡ escaped c) × (is_content c ≡ true)
escaped_unit b c =
    by_test (λ (o : Option ℕ). o ≡ Some c → (92 ∷ b ∷ [] ≡ escaped c) × (is_content c ≡ true)) (nat_eq b 110) _ _
    (λ h e. subst (λ (x : ℕ). (92 ∷ b ∷ [] ≡ escaped x) × (is_content x ≡ true)) (some_is 10 c e) (ap (λ (x : ℕ). 92 ∷ x ∷ []) (is_n b 110 h), refl))
    (λ _. by_test (λ (o : Option ℕ). o ≡ Some c → (92 ∷ b ∷ [] ≡ escaped c) × (is_content c ≡ true)) (nat_eq b 34) _ _
    (λ h e. subst (λ (x : ℕ). (92 ∷ b ∷ [] ≡ escaped x) × (is_content x ≡ true)) (some_is 34 c e) (ap (λ (x : ℕ). 92 ∷ x ∷ []) (is_n b 34 h), refl))
    (λ _. by_test (λ (o : Option ℕ). o ≡ Some c → (92 ∷ b ∷ [] ≡ escaped c) × (is_content c ≡ true)) (nat_eq b 92) _ _
    (λ h e. subst (λ (x : ℕ). (92 ∷ b ∷ [] ≡ escaped x) × (is_content x ≡ true)) (some_is 92 c e) (ap (λ (x : ℕ). 92 ∷ x ∷ []) (is_n b 92 h), refl))
    (λ _ e. absurd (none_not_some c e))))

not_quote : (b : ℕ) → goes_on Inside false b ≡ true → nat_eq b 34 ≡ false
not_quote b h = grind (arith, nat_tests)

not_newline : (b : ℕ) → is_in_range 32 126 b ≡ true → nat_eq b 10 ≡ false
not_newline b h = grind (arith, nat_tests)

in_content : (b : ℕ) → is_in_range 32 126 b ≡ true → is_content b ≡ true
in_content b h = grind (arith, nat_tests)

-- a byte that stands for itself
plain_unit : (b c : ℕ) → goes_on Inside false b ≡ true → nat_eq b 92 ≡ false → content_byte false b ≡ Some c → (b ∷ [] ≡ escaped c) × (is_content c ≡ true)
plain_unit b c goes other =
    by_test (λ (o : Option ℕ). o ≡ Some c → (b ∷ [] ≡ escaped c) × (is_content c ≡ true)) (is_in_range 32 126 b) (Some b) None
    (λ h e. subst (λ (x : ℕ). (b ∷ [] ≡ escaped x) × (is_content x ≡ true)) (some_is b c e) (rw (not_newline b h, not_quote b goes, other) refl, in_content b h))
    (λ _ e. absurd (none_not_some c e))

content_reads : (escaping : Bool) (inside content : List ℕ) (after : Bool) → Goes Inside escaping inside after → content_of escaping inside ≡ Some content → Reads (slash escaping) inside content
content_reads true [] content after goes e = absurd (none_not_some content e)
content_reads false [] content after goes e = let is : [] ≡ content = cc in subst (Reads [] []) is (record { spelled = refl; each = tt })
content_reads true (b ∷ bs) content after goes e =
    let next : Goes Inside false bs after = subst (λ (v : Bool). Goes Inside v bs after) (and_false (nat_eq b 92)) goes.1 in
    one_unit (92 ∷ []) b bs content (unescaped b) (escaped_unit b) (λ cs. content_reads false bs cs after next) e
content_reads false (b ∷ bs) content after goes e =
    (by_test (λ (o : Option (List ℕ)). o ≡ Some content → Reads [] (b ∷ bs) content) (nat_eq b 92) (content_of true bs) (before (content_byte false b) (content_of false bs))
    (λ h e.
    let next : Goes Inside true bs after = subst (λ (v : Bool). Goes Inside v bs after) (let v : (nat_eq b 92 && true) ≡ true = rw h refl in v) goes.1 in
    let r = content_reads true bs content after next e in
    record { spelled = ap (λ (x : ℕ). x ∷ bs) (is_n b 92 h) ∙ r.spelled; each = r.each })
    (λ h e.
    let next : Goes Inside false bs after = subst (λ (v : Bool). Goes Inside v bs after) (let v : (nat_eq b 92 && true) ≡ false = rw h refl in v) goes.1 in
    one_unit [] b bs content (content_byte false b) (λ c. plain_unit b c goes.0 h) (λ cs. content_reads false bs cs after next) e)) e

-- ---- how a string is read

-- the string whose run is over these bytes, by what follows them
abbrev pub string_read : List ℕ → List ℕ → Result (Piece × ℕ) Stop
string_read inside [] = Err stops.Token
string_read inside (c ∷ cs) = cond (nat_eq c 34) (text_of_content (length inside) (content_of false inside))
    (cond (nat_eq c 10) (Err stops.Token) (Err (stops.Byte (length inside + 1))))

eq_self : (n : ℕ) → nat_eq n n ≡ true
eq_self n = grind (arith, nat_tests)

not_all : (n m : ℕ) → n < m → nat_eq n m ≡ false
not_all n m h = grind (arith, nat_tests)

pub piece_at-string : (inside rest : List ℕ) (after : Bool) → Goes Inside false inside after → Stops Inside after rest → piece_at (34 ∷ (inside ++ rest)) ≡ string_read inside rest
unfolding piece_at string_at
piece_at-string inside [] after goes end =
    let len : run_length Inside false (inside ++ []) ≡ length inside = run_length-of Inside false inside [] after goes end in
    let whole : nat_eq (length inside) (length (inside ++ [])) ≡ true = rw (append-nil inside) (eq_self (length inside)) in
    rw (len, whole) refl
piece_at-string inside (c ∷ cs) after goes end =
    let len : run_length Inside false (inside ++ c ∷ cs) ≡ length inside = run_length-of Inside false inside (c ∷ cs) after goes end in
    let more : nat_eq (length inside) (length (inside ++ c ∷ cs)) ≡ false = not_all _ _ (omega (arith, length-append inside (c ∷ cs))) in
    let at : get_or (inside ++ c ∷ cs) (length inside) 0 ≡ c = index_rest inside (c ∷ cs) in
    let front : take (length inside) (inside ++ c ∷ cs) ≡ inside = take_at inside (c ∷ cs) (length inside) refl in
    rw (len, more, at, front) refl

-- ---- what the reading of a string says

closed_flag : (after : Bool) → goes_on Inside after 34 ≡ false → after ≡ false
closed_flag true h = h
closed_flag false h = refl

stray_stop : (after : Bool) (c : ℕ) → goes_on Inside after c ≡ false → nat_eq c 34 ≡ false → nat_eq c 10 ≡ false → is_allowed c ≡ false
stray_stop true c h q n = grind (arith, nat_tests)
stray_stop false c h q n = grind (arith, nat_tests)

-- the bytes of a string with these bytes between its two `"`
abbrev pub quoted : List ℕ → List ℕ
quoted inside = 34 ∷ (inside ++ 34 ∷ [])

pub quoted_front : (inside cs : List ℕ) → 34 ∷ (inside ++ 34 ∷ cs) ≡ quoted inside ++ cs
quoted_front inside cs = ap (λ (t : List ℕ). 34 ∷ t) (sym (append_assoc inside (34 ∷ []) cs))

inside_is : (inside other : List ℕ) → quoted inside ≡ quoted other → inside ≡ other
inside_is inside other e = let tails : inside ++ 34 ∷ [] ≡ other ++ 34 ∷ [] = cc in append_cancel_right inside other (34 ∷ []) tails

quoted_Spells : (inside content : List ℕ) (after : Bool) → Goes Inside false inside after → content_of false inside ≡ Some content → Spells (Text content) (quoted inside)
quoted_Spells inside content after goes e =
    let r = content_reads false inside content after goes e in
    (ap quoted r.spelled, r.each)

no_content : (inside content : List ℕ) → content_of false inside ≡ None → Spells (Text content) (quoted inside) → ⊥
no_content inside content e spelled =
    let same : inside ≡ flat_map escaped content = inside_is inside (flat_map escaped content) spelled.0 in
    let found : content_of false inside ≡ Some content = ap (content_of false) same ∙ content_again content spelled.1 in
    none_not_some content (sym e ∙ found)

pub quoted_len : (inside : List ℕ) → length (quoted inside) ≡ length inside + 2
quoted_len inside = omega (arith, length-append inside (34 ∷ []))

ends_text : (content rest : List ℕ) → Ends (Lexeme (Text content)) rest
ends_text content [] = tt
ends_text content (b ∷ bs) = refl

closed_explained : (inside cs : List ℕ) (found : Option (List ℕ)) → content_of false inside ≡ found → Goes Inside false inside false → Explains (34 ∷ (inside ++ 34 ∷ cs)) (text_of_content (length inside) found)
closed_explained inside cs None e goes = inr (inl (record {
  text = 34 ∷ inside;
  after = cs;
  parts = refl;
  opened = (inside, refl, goes);
  misspelled = λ content. no_content inside content e;
}))
closed_explained inside cs (Some content) e goes =
    by_test (Explains (34 ∷ (inside ++ 34 ∷ cs))) (nat_lt 4096 (length content)) (Err stops.TooLong) (Ok (Lexeme (Text content), length inside + 2))
    (λ long. let far : 4096 < length content = ltb-true _ _ long in record {
      kind = Text content;
      text = quoted inside;
      after = cs;
      parts = quoted_front inside cs;
      spelled = quoted_Spells inside content false goes e;
      ended = ends_text content cs;
      beyond = λ (within : length content ≤ 4096). absurd (omega arith);
    })
    (λ short. record {
      text = quoted inside;
      rest = cs;
      whole = quoted_front inside cs;
      len = quoted_len inside;
      some = omega arith;
      part = record {
        spelled = quoted_Spells inside content false goes e;
        within = ltb-false _ _ short;
        ended = ends_text content cs;
      };
    })

pub string_explained : (inside rest : List ℕ) (after : Bool) → Goes Inside false inside after → Stops Inside after rest → Explains (34 ∷ (inside ++ rest)) (string_read inside rest)
string_explained inside [] after goes end = inl (record {
  text = 34 ∷ inside;
  after = [];
  parts = refl;
  escaping = after;
  opened = (inside, refl, goes);
  ended = inl refl;
})
string_explained inside (c ∷ cs) after goes end =
    by_test (Explains (34 ∷ (inside ++ c ∷ cs))) (nat_eq c 34) _ _
    (λ quote.
    let is : 34 ≡ c = sym (is_n c 34 quote) in
    let flag : after ≡ false = closed_flag after (subst (λ (x : ℕ). goes_on Inside after x ≡ false) (sym is) end) in
    let goes' : Goes Inside false inside false = subst (λ (v : Bool). Goes Inside false inside v) flag goes in
    let P : ℕ → Type 0 = λ x. Explains (34 ∷ (inside ++ x ∷ cs)) (text_of_content (length inside) (content_of false inside)) in
    subst P is (closed_explained inside cs (content_of false inside) refl goes'))
    (λ no_quote. by_test (Explains (34 ∷ (inside ++ c ∷ cs))) (nat_eq c 10) _ _
    (λ newline. inl (record {
      text = 34 ∷ inside;
      after = c ∷ cs;
      parts = refl;
      escaping = after;
      opened = (inside, refl, goes);
      ended = inr (cs, ap (λ (x : ℕ). x ∷ cs) (is_n c 10 newline));
    }))
    (λ no_newline. (
      34 ∷ inside,
      record { stray = c; after = cs; parts = refl; outside = stray_stop after c end no_quote no_newline; place = inr (after, (inside, refl, goes)) },
      omega arith,
    )))

-- ---- a string that is spelled is read

text_at : (content rest : List ℕ) → AllByRecursion (λ b. IsTrue (is_content b)) content → piece_at (quoted (flat_map escaped content) ++ rest) ≡ text_of_content (length (flat_map escaped content)) (Some content)
text_at content rest all =
    ap piece_at (sym (quoted_front (flat_map escaped content) rest))
    ∙ piece_at-string (flat_map escaped content) (34 ∷ rest) false (content_Goes content all) refl
    ∙ ap (text_of_content (length (flat_map escaped content))) (content_again content all)

pub text_again : (content text rest : List ℕ) → Spells (Text content) text → length content ≤ 4096 → piece_at (text ++ rest) ≡ Ok (Lexeme (Text content), length text)
text_again content text rest spelled short =
    let len : length text ≡ length (flat_map escaped content) + 2 = ap length spelled.0 ∙ quoted_len (flat_map escaped content) in
    ap (λ (t : List ℕ). piece_at (t ++ rest)) spelled.0 ∙ text_at content rest spelled.1 ∙ rw (le-ltb 4096 (length content) short, len) refl

pub text_too_long : (content text rest : List ℕ) → Spells (Text content) text → (length content ≤ 4096 → ⊥) → piece_at (text ++ rest) ≡ Err stops.TooLong
text_too_long content text rest spelled beyond =
    let long : 4096 < length content = omega arith in
    ap (λ (t : List ℕ). piece_at (t ++ rest)) spelled.0 ∙ text_at content rest spelled.1 ∙ rw (lt-ltb 4096 (length content) long) refl

-- ---- a string that is none is found

newline_stops : (escaping : Bool) (others : List ℕ) → Stops Inside escaping (10 ∷ others)
newline_stops escaping others = refl

unclosed_at : (inside : List ℕ) (escaping : Bool) (after : List ℕ) → Goes Inside false inside escaping → (after ≡ []) ⊎ ((others : List ℕ) × (after ≡ 10 ∷ others)) → piece_at (34 ∷ (inside ++ after)) ≡ Err stops.Token
unclosed_at inside escaping after goes (inl e) =
    ap (λ (t : List ℕ). piece_at (34 ∷ (inside ++ t))) e ∙ piece_at-string inside [] escaping goes tt
unclosed_at inside escaping after goes (inr e) =
    ap (λ (t : List ℕ). piece_at (34 ∷ (inside ++ t))) e.1 ∙ piece_at-string inside (10 ∷ e.0) escaping goes (newline_stops escaping e.0)

pub unclosed_again : (bytes : List ℕ) → IsUnclosedString bytes → piece_at bytes ≡ Err stops.Token
unclosed_again bytes u =
    ap piece_at (u.parts ∙ ap (λ (t : List ℕ). t ++ u.after) u.opened.1) ∙ unclosed_at u.opened.0 u.escaping u.after u.opened.2 u.ended

misspelled_at : (inside : List ℕ) (found : Option (List ℕ)) → content_of false inside ≡ found → Goes Inside false inside false → ((content : List ℕ) → Spells (Text content) (quoted inside) → ⊥) → text_of_content (length inside) found ≡ Err stops.Token
misspelled_at inside None e goes never = refl
misspelled_at inside (Some content) e goes never = absurd (never content (quoted_Spells inside content false goes e))

pub misspelled_string_again : (bytes : List ℕ) → IsMisspelledString bytes → piece_at bytes ≡ Err stops.Token
misspelled_string_again bytes m =
    let inside : List ℕ = m.opened.0 in
    let never : (content : List ℕ) → Spells (Text content) (quoted inside) → ⊥ = λ content s. m.misspelled content (subst (λ (t : List ℕ). Spells (Text content) (t ++ 34 ∷ [])) (sym m.opened.1) s) in
    ap piece_at (m.parts ∙ ap (λ (t : List ℕ). t ++ 34 ∷ m.after) m.opened.1)
    ∙ piece_at-string inside (34 ∷ m.after) false m.opened.2 refl
    ∙ misspelled_at inside (content_of false inside) refl m.opened.2 never

pub stray_in_string : (inside after : List ℕ) (stray : ℕ) (escaping : Bool) → Goes Inside false inside escaping → is_allowed stray ≡ false → piece_at (34 ∷ (inside ++ stray ∷ after)) ≡ Err (stops.Byte (length inside + 1))
stray_in_string inside after stray escaping goes outside =
    let end : goes_on Inside escaping stray ≡ false = rw (stray_no_line_byte stray outside) refl in
    piece_at-string inside (stray ∷ after) escaping goes end ∙ rw (stray_not stray 34 outside refl, stray_not stray 10 outside refl) refl
