-- What is spelled is read again: each part, and each fault.
use Rattle.std.proofs.Common.{◌≡◌, ℕ, ◌+◌, ◌<◌, ◌⊎◌, inl, inr, Bool, false, nat_eq, List, [], ◌∷◌, ◌++◌, length, get_or, Ok, Err, Result, refl, sym, ap, subst, ◌∙◌, arith}
use Rattle.std.specs.Prelude.{pos, negsuc}
use Rattle.std.proofs.lemmas.List.{length-append}
use Rattle.herm_lexer.specs.Bytes.{is_blank, is_allowed, is_line_byte}
use Rattle.herm_alphabet.specs.KeywordLetters.{letters, characters}
use Rattle.herm_lexer.specs.Runs.{Stops}
use Rattle.herm_lexer.specs.Spelling.{Spells, SpellsPiece, IsPieceWithinLimit, IsWithinLimit, Ends}
use Rattle.herm_lexer.specs.Faults.{IsOpenString, HasStrayByte, BeginsNoToken, FaultAt}
use Rattle.herm_lexer.specs.Reading.{piece_at, single_sign, sign_at, placed}
use Rattle.herm_lexer.specs.declared.run.Run.TheVariants.{Line}
use Rattle.herm_lexer.specs.declared.piece.Piece.{Piece}
use Rattle.herm_lexer.specs.declared.piece.Piece.TheVariants.{Blank, Comment, Token as Lexeme}
use Rattle.herm_lexer.specs.declared.piece.Stop.{Stop}
use Rattle.herm_lexer.specs.declared.piece.Stop.TheVariants as stops
use Rattle.herm_lexer.specs.declared.fault.LexFault.{LexFault}
use Rattle.herm_lexer.specs.declared.fault.LexFault.TheVariants as faults
use Rattle.herm_alphabet.specs.declared.token.TokenKind.{TokenKind}
use Rattle.herm_alphabet.specs.declared.token.TokenKind.TheVariants.{Key, Ident, Int, Text, Sign}
use Rattle.herm_alphabet.specs.declared.sign.Mark.{Mark}
use Rattle.herm_alphabet.specs.declared.sign.Mark.TheVariants.{ParenOpen, Colon, Less, Greater, Minus}
use Rattle.herm_lexer.proofs.Explained.{Explains, IsNoToken}
use Rattle.herm_lexer.proofs.ByteFacts.{stray_no_blank, stray_no_letter, stray_no_digit, stray_not}
use Rattle.herm_lexer.proofs.Choices.{or_false, false_not_true}
use Rattle.herm_lexer.proofs.RunFacts.{Goes-from_all}
use Rattle.herm_lexer.proofs.Names.{letters_IsName, name_some, key_again, ident_again, ident_too_long}
use Rattle.herm_lexer.proofs.Integers.{int_again, int_too_long, misspelled_again}
use Rattle.herm_lexer.proofs.Strings.{text_again, text_too_long, unclosed_again, misspelled_string_again, stray_in_string}
use Rattle.herm_lexer.proofs.Signs.{MayBeSign, piece_at-sign}
use Rattle.herm_lexer.proofs.Pieces.{explained, piece_at-blank, piece_at-comment, plain_line}

-- ---- parts

-- a sign that ends is read
sign_at-characters : (mark : Mark) (rest : List ℕ) → Ends (Lexeme (Sign mark)) rest → piece_at (characters mark ++ rest) ≡ Ok (Lexeme (Sign mark), length (characters mark))
unfolding piece_at sign_at single_sign
sign_at-characters Colon [] h = refl
sign_at-characters Colon (x ∷ xs) h = rw h refl
sign_at-characters Less [] h = refl
sign_at-characters Less (x ∷ xs) h = let p = or_false (nat_eq x 61) (nat_eq x 62) h in rw (p.0, p.1) refl
sign_at-characters Greater [] h = refl
sign_at-characters Greater (x ∷ xs) h = rw h refl
sign_at-characters Minus [] h = refl
sign_at-characters Minus (x ∷ xs) h = rw h refl
sign_at-characters _ rest h = refl

sign_again : (mark : Mark) (text rest : List ℕ) → text ≡ characters mark → Ends (Lexeme (Sign mark)) rest → piece_at (text ++ rest) ≡ Ok (Lexeme (Sign mark), length text)
sign_again mark text rest spelled ended =
    ap (λ (t : List ℕ). piece_at (t ++ rest)) spelled ∙ sign_at-characters mark rest ended ∙ ap (λ (t : List ℕ). Ok (Lexeme (Sign mark), length t)) (sym spelled)

pub stops_line : (rest : List ℕ) → Ends Comment rest → Stops Line false rest
stops_line [] h = tt
stops_line (b ∷ bs) h = h

blank_again : (text rest : List ℕ) → SpellsPiece Blank text → piece_at (text ++ rest) ≡ Ok (Blank, length text)
blank_again text rest spelled =
    ap (λ (t : List ℕ). piece_at (t ++ rest)) spelled.1 ∙ piece_at-blank spelled.0 rest spelled.2 ∙ ap (λ (t : List ℕ). Ok (Blank, length t)) (sym spelled.1)

comment_again : (text rest : List ℕ) → SpellsPiece Comment text → Ends Comment rest → piece_at (text ++ rest) ≡ Ok (Comment, length text)
comment_again text rest spelled ended =
    let line : List ℕ = spelled.0 in
    let len : length line + 2 ≡ length text = omega (arith, ap length spelled.1) in
    ap (λ (t : List ℕ). piece_at (t ++ rest)) spelled.1
    ∙ piece_at-comment line rest (Goes-from_all Line is_line_byte plain_line line spelled.2) (stops_line rest ended)
    ∙ ap (λ (n : ℕ). Ok (Comment, n)) len

-- a part is read as it is spelled
pub part_again : (piece : Piece) (text rest : List ℕ) → SpellsPiece piece text → IsPieceWithinLimit piece → Ends piece rest → piece_at (text ++ rest) ≡ Ok (piece, length text)
part_again Blank text rest spelled within ended = blank_again text rest spelled
part_again Comment text rest spelled within ended = comment_again text rest spelled ended
part_again (Lexeme (Key k)) text rest spelled within ended = key_again k text rest spelled ended
part_again (Lexeme (Ident name)) text rest spelled within ended = ident_again name text rest spelled within ended
part_again (Lexeme (Int (pos n))) text rest spelled within ended = int_again n text rest spelled within ended
part_again (Lexeme (Int (negsuc n))) text rest spelled within ended = absurd spelled
part_again (Lexeme (Text content)) text rest spelled within ended = text_again content text rest spelled within
part_again (Lexeme (Sign mark)) text rest spelled within ended = sign_again mark text rest spelled ended

characters_some : (mark : Mark) → 0 < length (characters mark)
characters_some ParenOpen = omega arith
characters_some _ = omega arith

pub spells_some : (kind : TokenKind) (text : List ℕ) → Spells kind text → 0 < length text
spells_some (Key k) text spelled = omega (arith, ap length spelled, name_some (letters k) (letters_IsName k))
spells_some (Ident name) text spelled = omega (arith, ap length spelled.0, name_some name spelled.1)
spells_some (Int (pos n)) text spelled = spelled.digits.0
spells_some (Int (negsuc n)) text spelled = absurd spelled
spells_some (Text content) text spelled = omega (arith, ap length spelled.0)
spells_some (Sign mark) text spelled = omega (arith, ap length spelled, characters_some mark)

-- no part is empty
pub piece_some : (piece : Piece) (text : List ℕ) → SpellsPiece piece text → 0 < length text
piece_some Blank text spelled = omega (arith, ap length spelled.1)
piece_some Comment text spelled = omega (arith, ap length spelled.1)
piece_some (Lexeme kind) text spelled = spells_some kind text spelled

-- ---- faults

stray_first : (b : ℕ) (bs : List ℕ) → is_allowed b ≡ false → MayBeSign b bs
stray_first b bs h = record {
  no_blank = stray_no_blank b h;
  no_letter = stray_no_letter b h;
  no_digit = stray_no_digit b h;
  no_quote = stray_not b 34 h refl;
  no_comment = rw (stray_not b 45 h refl) refl;
}

sign_at-stray : (b next : ℕ) → is_allowed b ≡ false → sign_at b next ≡ Err (stops.Byte 0)
unfolding sign_at single_sign
sign_at-stray b next h =
    rw (
      stray_not b 58 h refl,
      stray_not b 60 h refl,
      stray_not b 62 h refl,
      stray_not b 40 h refl,
      stray_not b 41 h refl,
      stray_not b 123 h refl,
      stray_not b 125 h refl,
      stray_not b 91 h refl,
      stray_not b 93 h refl,
      stray_not b 44 h refl,
      stray_not b 59 h refl,
      stray_not b 46 h refl,
      stray_not b 35 h refl,
      stray_not b 61 h refl,
      stray_not b 43 h refl,
      stray_not b 45 h refl,
      stray_not b 42 h refl,
      stray_not b 38 h refl,
      stray_not b 58 h refl,
      stray_not b 60 h refl,
      stray_not b 62 h refl,
      h,
    ) refl

-- a file's fault is that of the reading
record IsRead (start : ℕ) (bytes : List ℕ) (fault : LexFault) : Type 0 where
  pub stop : Stop
  pub read : piece_at bytes ≡ Err stop
  pub place : fault ≡ placed start stop

stray_again : (start : ℕ) (bytes before : List ℕ) (place : ℕ) (s : HasStrayByte bytes before) → place ≡ start + length before → (before ≡ []) ⊎ ((escaping : Bool) × IsOpenString before escaping) → IsRead start bytes (faults.Byte place)
stray_again start bytes before place s e (inl front) = record {
  stop = stops.Byte 0;
  read =
      ap piece_at (s.parts ∙ ap (λ (t : List ℕ). t ++ s.stray ∷ s.after) front)
      ∙ piece_at-sign s.stray s.after (stray_first s.stray s.after s.outside)
      ∙ sign_at-stray s.stray (get_or s.after 0 0) s.outside;
  place = ap faults.Byte (omega (arith, e, ap length front));
}
stray_again start bytes before place s e (inr string) = record {
  stop = stops.Byte (length string.1.0 + 1);
  read =
      ap piece_at (s.parts ∙ ap (λ (t : List ℕ). t ++ s.stray ∷ s.after) string.1.1)
      ∙ stray_in_string string.1.0 s.after s.stray string.0 string.1.2 s.outside;
  place = ap faults.Byte (omega (arith, e, ap length string.1.1));
}

too_long_again : (bytes : List ℕ) (kind : TokenKind) (text after : List ℕ) → bytes ≡ text ++ after → Spells kind text → Ends (Lexeme kind) after → (IsWithinLimit kind → ⊥) → piece_at bytes ≡ Err stops.TooLong
too_long_again bytes (Key k) text after e spelled ended beyond = absurd (beyond tt)
too_long_again bytes (Ident name) text after e spelled ended beyond = ap piece_at e ∙ ident_too_long name text after spelled beyond ended
too_long_again bytes (Int (pos n)) text after e spelled ended beyond = ap piece_at e ∙ int_too_long n text after spelled beyond ended
too_long_again bytes (Int (negsuc n)) text after e spelled ended beyond = absurd spelled
too_long_again bytes (Text content) text after e spelled ended beyond = ap piece_at e ∙ text_too_long content text after spelled beyond
too_long_again bytes (Sign mark) text after e spelled ended beyond = absurd (beyond tt)

-- ---- a byte that begins no token is no piece and no other fault

first_of : (b : ℕ) (bs text rest : List ℕ) → b ∷ bs ≡ text ++ rest → 0 < length text → (more : List ℕ) × (text ≡ b ∷ more)
first_of b bs [] rest e some = absurd (omega arith)
first_of b bs (c ∷ cs) rest e some = let same : c ≡ b = cc in (cs, ap (λ (x : ℕ). x ∷ cs) same)

no_kind : (bytes : List ℕ) (n : BeginsNoToken bytes) (kind : TokenKind) (text rest : List ℕ) → bytes ≡ text ++ rest → Spells kind text → ⊥
no_kind bytes n kind text rest e spelled =
    let f = first_of n.first n.after text rest (sym n.parts ∙ e) (spells_some kind text spelled) in
    n.begins kind f.0 (subst (Spells kind) f.1 spelled)

head_is : (b c : ℕ) (bs cs : List ℕ) → b ∷ bs ≡ c ∷ cs → b ≡ c
head_is b c bs cs e = cc

no_found : (bytes : List ℕ) (n : BeginsNoToken bytes) (piece : Piece) (text rest : List ℕ) → bytes ≡ text ++ rest → SpellsPiece piece text → ⊥
no_found bytes n Blank text rest e spelled =
    let same : n.first ≡ spelled.0 = head_is n.first spelled.0 n.after rest (sym n.parts ∙ e ∙ ap (λ (t : List ℕ). t ++ rest) spelled.1) in
    false_not_true (is_blank n.first) n.visible (ap is_blank same ∙ spelled.2)
no_found bytes n Comment text rest e spelled =
    let same : n.first ≡ 45 = head_is n.first 45 n.after _ (sym n.parts ∙ e ∙ ap (λ (t : List ℕ). t ++ rest) spelled.1) in
    n.begins (Sign Minus) [] (ap (λ (x : ℕ). x ∷ []) same)
no_found bytes n (Lexeme kind) text rest e spelled = no_kind bytes n kind text rest e spelled

no_stray : (bytes : List ℕ) (n : BeginsNoToken bytes) (before : List ℕ) (s : HasStrayByte bytes before) → (before ≡ []) ⊎ ((escaping : Bool) × IsOpenString before escaping) → ⊥
no_stray bytes n before s (inl front) =
    let same : n.first ≡ s.stray = head_is n.first s.stray n.after s.after (sym n.parts ∙ s.parts ∙ ap (λ (t : List ℕ). t ++ s.stray ∷ s.after) front) in
    false_not_true (is_allowed s.stray) s.outside (ap is_allowed (sym same) ∙ n.inside)
no_stray bytes n before s (inr string) =
    let same : n.first ≡ 34 = head_is n.first 34 n.after _ (sym n.parts ∙ s.parts ∙ ap (λ (t : List ℕ). t ++ s.stray ∷ s.after) string.1.1) in
    n.begins (Text []) (34 ∷ []) (ap (λ (x : ℕ). x ∷ 34 ∷ []) same, tt)

begins_again : (bytes : List ℕ) → BeginsNoToken bytes → (read : Result (Piece × ℕ) Stop) → piece_at bytes ≡ read → Explains bytes read → piece_at bytes ≡ Err stops.Token
begins_again bytes n (Ok found) e h = absurd (no_found bytes n found.0 h.text h.rest h.whole h.part.spelled)
begins_again bytes n (Err (stops.Byte k)) e h = absurd (no_stray bytes n h.0 h.1 h.1.place)
begins_again bytes n (Err stops.Token) e h = e
begins_again bytes n (Err stops.TooLong) e h = absurd (no_kind bytes n h.kind h.text h.after h.parts h.spelled)
begins_again bytes n (Err stops.Memory) e h = absurd h

no_token_again : (bytes : List ℕ) → IsNoToken bytes → piece_at bytes ≡ Err stops.Token
no_token_again bytes (inl unclosed) = unclosed_again bytes unclosed
no_token_again bytes (inr (inl misspelled)) = misspelled_string_again bytes misspelled
no_token_again bytes (inr (inr (inl number))) = misspelled_again bytes number
no_token_again bytes (inr (inr (inr n))) =
    let some : 0 < length bytes = omega (arith, ap length n.parts) in
    begins_again bytes n (piece_at bytes) refl (explained bytes some)

-- a fault is read as it is
pub fault_again : (start : ℕ) (bytes : List ℕ) (fault : LexFault) → FaultAt start bytes fault → (stop : Stop) × (piece_at bytes ≡ Err stop) × (fault ≡ placed start stop)
fault_again start bytes (faults.Byte place) h = let r = stray_again start bytes h.0 place h.1 h.2 h.1.place in (r.stop, r.read, r.place)
fault_again start bytes (faults.Token place) h = (stops.Token, no_token_again bytes h.1, ap faults.Token h.0)
fault_again start bytes (faults.TooLong place) h =
    let t = h.1 in
    (stops.TooLong, too_long_again bytes t.kind t.text t.after t.parts t.spelled t.ended t.beyond, ap faults.TooLong h.0)
fault_again start bytes faults.Memory h = absurd h

-- no fault stands at the end
no_token_some : (bytes : List ℕ) → IsNoToken bytes → 0 < length bytes
no_token_some bytes (inl u) = omega (arith, ap length u.parts, length-append u.text u.after, ap length u.opened.1)
no_token_some bytes (inr (inl m)) = omega (arith, ap length m.parts, length-append m.text (34 ∷ m.after))
no_token_some bytes (inr (inr (inl m))) = omega (arith, ap length m.parts, length-append m.digits m.after, m.some)
no_token_some bytes (inr (inr (inr n))) = omega (arith, ap length n.parts)

pub fault_some : (start : ℕ) (bytes : List ℕ) (fault : LexFault) → FaultAt start bytes fault → 0 < length bytes
fault_some start bytes (faults.Byte place) h = omega (arith, ap length h.1.parts, length-append h.0 (h.1.stray ∷ h.1.after))
fault_some start bytes (faults.Token place) h = no_token_some bytes h.1
fault_some start bytes (faults.TooLong place) h = omega (arith, ap length h.1.parts, length-append h.1.text h.1.after, spells_some h.1.kind h.1.text h.1.spelled)
fault_some start bytes faults.Memory h = absurd h
