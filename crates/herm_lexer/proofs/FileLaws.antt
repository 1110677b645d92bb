-- The laws of files.
use Rattle.std.proofs.Common.{◌≡◌, ℕ, zero, suc, ◌+◌, ◌-◌, ◌<◌, ◌≤◌, ◌⊎◌, inl, inr, List, [], ◌∷◌, ◌++◌, length, take, drop, Ok, Err, Result, refl, sym, ap, subst, ◌∙◌, append_assoc, arith}
use Rattle.std.specs.List.{AllByRecursion, slice_range}
use Rattle.std.proofs.lemmas.List.{length-take-le, take_at, take_all, drop_at, length-append, length-drop}
use Rattle.std.proofs.lemmas.Bool.{cases_lt}
use Rattle.herm_lexer.specs.Spelling.{Spells, SpellsPiece, Part, text_of, AreParts, token_at, tokens_of, ReadTo, HasTokens, IsOrdinary}
use Rattle.herm_lexer.specs.Faults.{FaultAt, IsStoppedBy, HasFault, kept}
use Rattle.herm_lexer.specs.Reading.{piece_at, placed}
use Rattle.herm_lexer.specs.laws.TokenLaws.{OneTokenList, OneFault, TokensOrFault, TokensElseFault, IsSpelledIn, AreRising, TokensSpellFile}
use Rattle.herm_lexer.specs.declared.piece.Piece.{Piece}
use Rattle.herm_lexer.specs.declared.piece.Piece.TheVariants.{Blank, Comment, Token as Lexeme}
use Rattle.herm_lexer.specs.declared.piece.Stop.{Stop}
use Rattle.herm_lexer.specs.declared.fault.LexFault.{LexFault}
use Rattle.herm_lexer.specs.declared.fault.LexFault.TheVariants as faults
use Rattle.herm_alphabet.specs.declared.token.Token.{Token}
use Rattle.herm_alphabet.specs.declared.token.TokenKind.{TokenKind}
use Rattle.herm_alphabet.specs.declared.token.TokenKind.TheVariants.{Key, Ident, Int, Text, Sign}
use Rattle.herm_lexer.proofs.Explained.{Explains}
use Rattle.herm_lexer.proofs.Pieces.{explained}
use Rattle.herm_lexer.proofs.Again.{piece_some, fault_again, fault_some}
use Rattle.herm_lexer.proofs.Files.{IsStuck, one_reading, ReadTo-none, ReadTo-more, fault_of}

-- ---- one reading

reads_same : (bytes rest other : List ℕ) (tokens others : List Token) → ReadTo bytes rest tokens → ReadTo bytes other others → IsStuck rest → IsStuck other → (tokens ≡ others) × (rest ≡ other)
reads_same bytes rest other tokens others a b s t =
    let r = one_reading a.parts b.parts rest other a.each b.each s t (sym a.whole ∙ b.whole) in
    (a.listed ∙ ap (tokens_of 0) r.0 ∙ sym b.listed, r.1)

stuck_end : IsStuck []
unfolding IsStuck
stuck_end = inl refl

stuck_fault : (start : ℕ) (rest : List ℕ) (fault : LexFault) → FaultAt start rest fault → IsStuck rest
unfolding IsStuck
stuck_fault start rest fault h = let r = fault_again start rest fault h in inr (r.0, r.1)

pub one_token_list : OneTokenList
one_token_list bytes tokens others a b = (reads_same bytes [] [] tokens others a.read b.read stuck_end stuck_end).0

not_end : (start : ℕ) (rest : List ℕ) (fault : LexFault) → FaultAt start rest fault → rest ≡ [] → ⊥
not_end start rest fault h e = omega (arith, fault_some start rest fault h, ap length e)

-- a reading to the end and one that stops are not both
no_stop : (bytes : List ℕ) (tokens : List Token) (fault : LexFault) → ReadTo bytes [] tokens → IsStoppedBy bytes fault → ⊥
no_stop bytes tokens fault r s =
    let same = reads_same bytes s.rest [] s.tokens tokens s.read r (stuck_fault _ s.rest fault s.first) stuck_end in
    not_end _ s.rest fault s.first same.1

kept_short : (bytes : List ℕ) → length bytes ≤ 1048576 → kept bytes ≡ bytes
kept_short bytes h = take_all 1048576 bytes h

pub tokens_or_fault : TokensOrFault
tokens_or_fault bytes tokens fault t (inl s) = no_stop bytes tokens fault t.read (subst (λ (b : List ℕ). IsStoppedBy b fault) (kept_short bytes t.short) s)
tokens_or_fault bytes tokens fault t (inr c) = omega (arith, t.short, c.longer)

-- what stops the reading of a short file is its fault
pub short_fault : (bytes : List ℕ) (fault : LexFault) → length bytes ≤ 1048576 → (fault ≡ faults.Memory) ⊎ IsStoppedBy bytes fault → (fault ≡ faults.Memory) ⊎ HasFault bytes fault
short_fault bytes fault h (inl memory) = inl memory
short_fault bytes fault h (inr s) = inr (inl (subst (λ (b : List ℕ). IsStoppedBy b fault) (sym (kept_short bytes h)) s))

pub long_fault : (bytes : List ℕ) (fault : LexFault) → (fault ≡ faults.Memory) ⊎ IsStoppedBy (kept bytes) fault → (fault ≡ faults.Memory) ⊎ HasFault bytes fault
long_fault bytes fault (inl memory) = inl memory
long_fault bytes fault (inr s) = inr (inl s)

pub cut_fault : (bytes : List ℕ) (tokens : List Token) → 1048576 < length bytes → ReadTo (kept bytes) [] tokens → (faults.TooLong 1048576 ≡ faults.Memory) ⊎ HasFault bytes (faults.TooLong 1048576)
cut_fault bytes tokens h r = inr (inr (record { longer = h; tokens = tokens; read = r; place = refl }))

pub kept_length : (bytes : List ℕ) → 1048576 < length bytes → length (kept bytes) ≡ 1048576
kept_length bytes h = length-take-le 1048576 bytes (omega arith)

abbrev failed : Stop → Result (Piece × ℕ) Stop
failed stop = Err stop

stop_is : (a b : Stop) → failed a ≡ failed b → a ≡ b
stop_is a b e = cc

fault_same : (start : ℕ) (rest : List ℕ) (fault other : LexFault) → FaultAt start rest fault → FaultAt start rest other → fault ≡ other
fault_same start rest fault other a b =
    let p = fault_again start rest fault a in
    let q = fault_again start rest other b in
    p.2 ∙ ap (placed start) (stop_is p.0 q.0 (sym p.1 ∙ q.1)) ∙ sym q.2

stop_same : (bytes : List ℕ) (fault other : LexFault) → IsStoppedBy bytes fault → IsStoppedBy bytes other → fault ≡ other
stop_same bytes fault other s t =
    let same = reads_same bytes s.rest t.rest s.tokens t.tokens s.read t.read (stuck_fault _ s.rest fault s.first) (stuck_fault _ t.rest other t.first) in
    let moved : FaultAt (length bytes - length t.rest) t.rest fault = subst (λ (r : List ℕ). FaultAt (length bytes - length r) r fault) same.1 s.first in
    fault_same (length bytes - length t.rest) t.rest fault other moved t.first

pub one_fault : OneFault
one_fault bytes fault other (inl s) (inl t) = stop_same (kept bytes) fault other s t
one_fault bytes fault other (inl s) (inr c) = absurd (no_stop (kept bytes) c.tokens fault c.read s)
one_fault bytes fault other (inr c) (inl t) = absurd (no_stop (kept bytes) c.tokens other c.read t)
one_fault bytes fault other (inr c) (inr d) = c.place ∙ sym d.place

-- ---- some reading

abbrev Outcome : List ℕ → Type 0
Outcome bytes = ((tokens : List Token) × ReadTo bytes [] tokens) ⊎ ((fault : LexFault) × IsStoppedBy bytes fault)

read_on : (fuel : ℕ) (bytes rest : List ℕ) (tokens : List Token) → length rest ≤ fuel → ReadTo bytes rest tokens → Outcome bytes
read_on fuel bytes [] tokens h r = inl (tokens, r)
read_on zero bytes (b ∷ bs) tokens h r = absurd (omega arith)
read_on (suc fuel) bytes (b ∷ bs) tokens h r =
    let some : 0 < length (b ∷ bs) = omega arith in
    let go : (read : Result (Piece × ℕ) Stop) → Explains (b ∷ bs) read → Outcome bytes =
    λ read. elim read as (λ read. Explains (b ∷ bs) read → Outcome bytes) [
      | Ok found ↦ λ f.
          let shorter : length (drop found.1 (b ∷ bs)) ≤ fuel = omega (arith, length-drop found.1 (b ∷ bs), f.some, f.len, ap length f.whole, length-append f.text f.rest) in
          read_on fuel bytes (drop found.1 (b ∷ bs)) (tokens ++ token_at (length bytes - length (b ∷ bs)) found.0 found.1) shorter (ReadTo-more bytes (b ∷ bs) tokens found.0 found.1 r f)
      | Err stop ↦ λ e. inr (placed (length bytes - length (b ∷ bs)) stop, record { rest = b ∷ bs; tokens = tokens; read = r; first = fault_of _ (b ∷ bs) stop e })
    ]
    in
    go (piece_at (b ∷ bs)) (explained (b ∷ bs) some)

read_all : (bytes : List ℕ) → Outcome bytes
read_all bytes = read_on (length bytes) bytes bytes [] (omega arith) (ReadTo-none bytes)

short_outcome : (bytes : List ℕ) → length bytes ≤ 1048576 → Outcome bytes → ((tokens : List Token) × HasTokens bytes tokens) ⊎ ((fault : LexFault) × HasFault bytes fault)
short_outcome bytes h (inl t) = inl (t.0, record { short = h; read = t.1 })
short_outcome bytes h (inr s) = inr (s.0, inl (subst (λ (b : List ℕ). IsStoppedBy b s.0) (sym (kept_short bytes h)) s.1))

long_outcome : (bytes : List ℕ) → 1048576 < length bytes → Outcome (kept bytes) → ((tokens : List Token) × HasTokens bytes tokens) ⊎ ((fault : LexFault) × HasFault bytes fault)
long_outcome bytes h (inl t) = inr (_, inr (record { longer = h; tokens = t.0; read = t.1; place = refl }))
long_outcome bytes h (inr s) = inr (s.0, inl s.1)

pub tokens_else_fault : TokensElseFault
tokens_else_fault bytes =
    elim (cases_lt 1048576 (length bytes)) [
      | inl longer ↦ long_outcome bytes longer (read_all (kept bytes))
      | inr short ↦ short_outcome bytes short (read_all bytes)
    ]

-- ---- tokens at their places

piece_spelled : (piece : Piece) (bytes front text back : List ℕ) (start : ℕ) → bytes ≡ front ++ (text ++ back) → length front ≡ start → SpellsPiece piece text → AllByRecursion (IsSpelledIn bytes) (token_at start piece (length text))
piece_spelled Blank bytes front text back start e s h = tt
piece_spelled Comment bytes front text back start e s h = tt
piece_spelled (Lexeme kind) bytes front text back start e s h =
    let width : (start + length text) - start ≡ length text = omega arith in
    let there : slice_range bytes start (start + length text) ≡ text =
    ap (λ (n : ℕ). take n (drop start bytes)) width
    ∙ ap (λ (t : List ℕ). take (length text) (drop start t)) e
    ∙ ap (take (length text)) (drop_at front (text ++ back) start s)
    ∙ take_at text back (length text) refl
    in
    (subst (Spells kind) (sym there) h, tt)

all_join : (bytes : List ℕ) (xs ys : List Token) → AllByRecursion (IsSpelledIn bytes) xs → AllByRecursion (IsSpelledIn bytes) ys → AllByRecursion (IsSpelledIn bytes) (xs ++ ys)
all_join bytes [] ys p q = q
all_join bytes (x ∷ xs) ys p q = (p.0, all_join bytes xs ys p.1 q)

parts_spelled : (bytes front : List ℕ) (parts : List Part) (rest : List ℕ) (start : ℕ) → bytes ≡ front ++ (text_of parts ++ rest) → length front ≡ start → AreParts parts rest → AllByRecursion (IsSpelledIn bytes) (tokens_of start parts)
parts_spelled bytes front [] rest start e s all = tt
parts_spelled bytes front (x ∷ xs) rest start e s all =
    let one : bytes ≡ front ++ (x.text ++ (text_of xs ++ rest)) = e ∙ ap (λ (t : List ℕ). front ++ t) (append_assoc x.text (text_of xs) rest) in
    let next : bytes ≡ (front ++ x.text) ++ (text_of xs ++ rest) = one ∙ sym (append_assoc front x.text (text_of xs ++ rest)) in
    all_join bytes (token_at start x.piece (length x.text)) (tokens_of (start + length x.text) xs)
    (piece_spelled x.piece bytes front x.text (text_of xs ++ rest) start one s all.0.spelled)
    (parts_spelled bytes (front ++ x.text) xs rest (start + length x.text) next (omega (arith, length-append front x.text)) all.1)

rising_from : (low start : ℕ) (tokens : List Token) (end : ℕ) → low ≤ start → AreRising start tokens end → AreRising low tokens end
rising_from low start [] end h r = omega arith
rising_from low start (t ∷ ts) end h r = (omega (arith, r.0), r.1, r.2)

rising_piece : (piece : Piece) (start n : ℕ) (tokens : List Token) (end : ℕ) → 0 < n → AreRising (start + n) tokens end → AreRising start (token_at start piece n ++ tokens) end
rising_piece Blank start n tokens end some r = rising_from start (start + n) tokens end (omega arith) r
rising_piece Comment start n tokens end some r = rising_from start (start + n) tokens end (omega arith) r
rising_piece (Lexeme kind) start n tokens end some r = (omega arith, omega arith, r)

parts_rising : (parts : List Part) (rest : List ℕ) (start end : ℕ) → AreParts parts rest → start + length (text_of parts) ≤ end → AreRising start (tokens_of start parts) end
parts_rising [] rest start end all h = omega arith
parts_rising (x ∷ xs) rest start end all h =
    rising_piece x.piece start (length x.text) (tokens_of (start + length x.text) xs) end (piece_some x.piece x.text all.0.spelled)
    (parts_rising xs rest (start + length x.text) end all.1 (omega (arith, length-append x.text (text_of xs))))

pub tokens_spell_file : TokensSpellFile
tokens_spell_file bytes tokens h =
    let r = h.read in
    let spelled : AllByRecursion (IsSpelledIn bytes) (tokens_of 0 r.parts) = parts_spelled bytes [] r.parts [] 0 r.whole refl r.each in
    let rising : AreRising 0 (tokens_of 0 r.parts) (length bytes) = parts_rising r.parts [] 0 (length bytes) r.each (omega (arith, ap length r.whole, length-append (text_of r.parts) [])) in
    subst (λ (ts : List Token). AllByRecursion (IsSpelledIn bytes) ts × AreRising 0 ts (length bytes)) (sym r.listed) (spelled, rising)

-- ---- what the parser needs

spelled_ordinary : (kind : TokenKind) (text : List ℕ) → Spells kind text → IsOrdinary kind
spelled_ordinary (Key k) text h = tt
spelled_ordinary (Ident name) text h = h.2
spelled_ordinary (Int n) text h = tt
spelled_ordinary (Text content) text h = tt
spelled_ordinary (Sign mark) text h = tt

abbrev AreOrdinary : List Token → Type 0
AreOrdinary tokens = AllByRecursion (λ t. IsOrdinary t.kind) tokens

piece_ordinary : (piece : Piece) (text : List ℕ) (start n : ℕ) (tokens : List Token) → SpellsPiece piece text → AreOrdinary tokens → AreOrdinary (token_at start piece n ++ tokens)
piece_ordinary Blank text start n tokens h more = more
piece_ordinary Comment text start n tokens h more = more
piece_ordinary (Lexeme kind) text start n tokens h more = (spelled_ordinary kind text h, more)

parts_ordinary : (parts : List Part) (rest : List ℕ) (start : ℕ) → AreParts parts rest → AreOrdinary (tokens_of start parts)
parts_ordinary [] rest start all = tt
parts_ordinary (x ∷ xs) rest start all =
    piece_ordinary x.piece x.text start (length x.text) (tokens_of (start + length x.text) xs) all.0.spelled (parts_ordinary xs rest (start + length x.text) all.1)

pub read_ordinary : (bytes rest : List ℕ) (tokens : List Token) → ReadTo bytes rest tokens → AllByRecursion (λ t. IsOrdinary t.kind) tokens
read_ordinary bytes rest tokens r = subst AreOrdinary (sym r.listed) (parts_ordinary r.parts rest 0 r.each)

piece_count : (piece : Piece) (start n : ℕ) (tokens : List Token) → 0 < n → length (token_at start piece n ++ tokens) ≤ n + length tokens
piece_count Blank start n tokens some = omega arith
piece_count Comment start n tokens some = omega arith
piece_count (Lexeme kind) start n tokens some = omega arith

parts_count : (parts : List Part) (rest : List ℕ) (start : ℕ) → AreParts parts rest → length (tokens_of start parts) ≤ length (text_of parts)
parts_count [] rest start all = omega arith
parts_count (x ∷ xs) rest start all =
    omega (
      arith,
      piece_count x.piece start (length x.text) (tokens_of (start + length x.text) xs) (piece_some x.piece x.text all.0.spelled),
      parts_count xs rest (start + length x.text) all.1,
      length-append x.text (text_of xs),
    )

pub read_count : (bytes rest : List ℕ) (tokens : List Token) → ReadTo bytes rest tokens → length tokens ≤ length bytes
read_count bytes rest tokens r =
    omega (arith, ap length r.listed, parts_count r.parts rest 0 r.each, ap length r.whole, length-append (text_of r.parts) rest)
