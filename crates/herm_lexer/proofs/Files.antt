-- Files as parts, one after the other.
use Rattle.std.proofs.Common.{◌≡◌, ℕ, ◌+◌, ◌-◌, ◌<◌, ◌≤◌, ◌⊎◌, inl, inr, List, [], ◌∷◌, ◌++◌, length, take, drop, Ok, Err, Result, refl, sym, ap, subst, ◌∙◌, append_assoc, arith}
use Rattle.std.proofs.lemmas.List.{take_at, drop_at, append-nil, length-append}
use Rattle.herm_lexer.specs.Spelling.{Part, IsPart, text_of, AreParts, token_at, tokens_of, ReadTo}
use Rattle.herm_lexer.specs.Faults.{FaultAt, IsStoppedBy}
use Rattle.herm_lexer.specs.Reading.{piece_at, placed, Fails, Gives, IsWithin}
use Rattle.herm_lexer.specs.declared.piece.Piece.{Piece}
use Rattle.herm_lexer.specs.declared.piece.Stop.{Stop}
use Rattle.herm_lexer.specs.declared.piece.Stop.TheVariants as stops
use Rattle.herm_lexer.specs.declared.fault.LexFault.{LexFault}
use Rattle.herm_lexer.specs.declared.fault.LexFault.TheVariants as faults
use Rattle.herm_alphabet.specs.declared.token.Token.{Token}
use Rattle.herm_lexer.proofs.Explained.{Explains, Found}
use Rattle.herm_lexer.proofs.Pieces.{explained}
use Rattle.herm_lexer.proofs.Again.{part_again, piece_some}

-- ---- one part more

text_of-append : (xs ys : List Part) → text_of (xs ++ ys) ≡ text_of xs ++ text_of ys
text_of-append [] ys = refl
text_of-append (x ∷ xs) ys = ap (λ (t : List ℕ). x.text ++ t) (text_of-append xs ys) ∙ sym (append_assoc x.text (text_of xs) (text_of ys))

tokens_of-append : (start : ℕ) (xs ys : List Part) → tokens_of start (xs ++ ys) ≡ tokens_of start xs ++ tokens_of (start + length (text_of xs)) ys
tokens_of-append start [] ys = rw (let e : start + 0 ≡ start = omega arith in e) refl
tokens_of-append start (x ∷ xs) ys =
    let head : List Token = token_at start x.piece (length x.text) in
    let place : (start + length x.text) + length (text_of xs) ≡ start + length (x.text ++ text_of xs) = omega (arith, length-append x.text (text_of xs)) in
    ap (λ (t : List Token). head ++ t) (tokens_of-append (start + length x.text) xs ys)
    ∙ sym (append_assoc head (tokens_of (start + length x.text) xs) (tokens_of ((start + length x.text) + length (text_of xs)) ys))
    ∙ ap (λ (n : ℕ). (head ++ tokens_of (start + length x.text) xs) ++ tokens_of n ys) place

AreParts-append : (xs : List Part) (part : Part) (rest : List ℕ) → AreParts xs (part.text ++ rest) → IsPart part rest → AreParts (xs ++ part ∷ []) rest
AreParts-append [] part rest all one = (one, tt)
AreParts-append (x ∷ xs) part rest all one =
    let same : text_of xs ++ (part.text ++ rest) ≡ text_of (xs ++ part ∷ []) ++ rest =
    sym (append_assoc (text_of xs) part.text rest)
    ∙ ap (λ (t : List ℕ). (text_of xs ++ t) ++ rest) (sym (append-nil part.text))
    ∙ ap (λ (t : List ℕ). t ++ rest) (sym (text_of-append xs (part ∷ [])))
    in
    (subst (IsPart x) same all.0, AreParts-append xs part rest all.1 one)

pub ReadTo-le : (bytes rest : List ℕ) (tokens : List Token) → ReadTo bytes rest tokens → length rest ≤ length bytes
ReadTo-le bytes rest tokens r = omega (arith, ap length r.whole, length-append (text_of r.parts) rest)

pub ReadTo-none : (bytes : List ℕ) → ReadTo bytes bytes []
ReadTo-none bytes = record { parts = []; whole = refl; each = tt; listed = refl }

-- a piece more is read
pub ReadTo-more : (bytes rest : List ℕ) (tokens : List Token) (piece : Piece) (n : ℕ) → ReadTo bytes rest tokens → Found rest piece n → ReadTo bytes (drop n rest) (tokens ++ token_at (length bytes - length rest) piece n)
ReadTo-more bytes rest tokens piece n r f =
    let part : Part = record { piece = piece; text = f.text } in
    let after : drop n rest ≡ f.rest = ap (drop n) f.whole ∙ drop_at f.text f.rest n f.len in
    let start : length (text_of r.parts) ≡ length bytes - length rest = omega (arith, ap length r.whole, length-append (text_of r.parts) rest) in
    let single : tokens_of (length (text_of r.parts)) (part ∷ []) ≡ token_at (length bytes - length rest) piece n =
    append-nil (token_at (length (text_of r.parts)) piece (length f.text))
    ∙ ap (λ (k : ℕ). token_at k piece (length f.text)) start
    ∙ ap (λ (k : ℕ). token_at (length bytes - length rest) piece k) f.len
    in
    let zero_more : 0 + length (text_of r.parts) ≡ length (text_of r.parts) = omega arith in
    let read : ReadTo bytes f.rest (tokens ++ token_at (length bytes - length rest) piece n) = record {
      parts = r.parts ++ part ∷ [];
      whole =
          r.whole
          ∙ ap (λ (t : List ℕ). text_of r.parts ++ t) f.whole
          ∙ sym (append_assoc (text_of r.parts) f.text f.rest)
          ∙ ap (λ (t : List ℕ). (text_of r.parts ++ t) ++ f.rest) (sym (append-nil f.text))
          ∙ ap (λ (t : List ℕ). t ++ f.rest) (sym (text_of-append r.parts (part ∷ [])));
      each = AreParts-append r.parts part f.rest (subst (AreParts r.parts) f.whole r.each) f.part;
      listed =
          ap (λ (t : List Token). t ++ token_at (length bytes - length rest) piece n) r.listed
          ∙ ap (λ (t : List Token). tokens_of 0 r.parts ++ t) (sym single)
          ∙ ap (λ (k : ℕ). tokens_of 0 r.parts ++ tokens_of k (part ∷ [])) (sym zero_more)
          ∙ sym (tokens_of-append 0 r.parts (part ∷ []));
    } in
    subst (λ (t : List ℕ). ReadTo bytes t (tokens ++ token_at (length bytes - length rest) piece n)) (sym after) read

-- a reading that stops is a fault there
pub fault_of : (start : ℕ) (bytes : List ℕ) (stop : Stop) → Explains bytes (Err stop) → FaultAt start bytes (placed start stop)
fault_of start bytes (stops.Byte n) h = (h.0, h.1, ap (λ (k : ℕ). start + k) h.2)
fault_of start bytes stops.Token h = (refl, h)
fault_of start bytes stops.TooLong h = (refl, h)
fault_of start bytes stops.Memory h = absurd h

-- what a function gave is within the bytes
pub within_of : (bytes : List ℕ) (read given : Result (Piece × ℕ) Stop) → Explains bytes read → Gives given read → IsWithin bytes given
within_of bytes read (Ok found) h e =
    let f : Found bytes found.0 found.1 = subst (Explains bytes) e h in
    (f.some, omega (arith, ap length f.whole, length-append f.text f.rest, f.len))
within_of bytes read (Err (stops.Byte n)) h e =
    let f : Explains bytes (Err (stops.Byte n)) = subst (Explains bytes) e h in
    omega (arith, ap length f.1.parts, length-append f.0 (f.1.stray ∷ f.1.after), f.2)
within_of bytes read (Err stops.Token) h e = tt
within_of bytes read (Err stops.TooLong) h e = tt
within_of bytes read (Err stops.Memory) h e = tt

-- ---- the steps of the code

pub read_more : (bytes rest : List ℕ) (tokens more : List Token) (found : Piece × ℕ) → ReadTo bytes rest tokens → 0 < length rest → piece_at rest ≡ Ok found → more ≡ tokens ++ token_at (length bytes - length rest) found.0 found.1 → ReadTo bytes (drop found.1 rest) more
read_more bytes rest tokens more found r some e m =
    let f : Found rest found.0 found.1 = subst (Explains rest) e (explained rest some) in
    subst (ReadTo bytes (drop found.1 rest)) (sym m) (ReadTo-more bytes rest tokens found.0 found.1 r f)

stopped : (bytes rest : List ℕ) (tokens : List Token) (fault : LexFault) (stop : Stop) → ReadTo bytes rest tokens → 0 < length rest → piece_at rest ≡ Err stop → fault ≡ placed (length bytes - length rest) stop → IsStoppedBy bytes fault
stopped bytes rest tokens fault stop r some e p =
    let h : Explains rest (Err stop) = subst (Explains rest) e (explained rest some) in
    record { rest = rest; tokens = tokens; read = r; first = subst (FaultAt (length bytes - length rest) rest) (sym p) (fault_of (length bytes - length rest) rest stop h) }

pub read_stop : (bytes rest : List ℕ) (tokens : List Token) (fault : LexFault) (stop : Stop) → ReadTo bytes rest tokens → 0 < length rest → Fails stop (piece_at rest) → fault ≡ placed (length bytes - length rest) stop → (fault ≡ faults.Memory) ⊎ IsStoppedBy bytes fault
read_stop bytes rest tokens fault (stops.Byte n) r some e p = inr (stopped bytes rest tokens fault (stops.Byte n) r some e p)
read_stop bytes rest tokens fault stops.Token r some e p = inr (stopped bytes rest tokens fault stops.Token r some e p)
read_stop bytes rest tokens fault stops.TooLong r some e p = inr (stopped bytes rest tokens fault stops.TooLong r some e p)
read_stop bytes rest tokens fault stops.Memory r some e p = inl p

-- ---- one reading of a file

-- nothing more is read here
unfoldable pub IsStuck : List ℕ → Type 0
IsStuck rest = (rest ≡ []) ⊎ ((stop : Stop) × (piece_at rest ≡ Err stop))

stuck_at : (rest : List ℕ) (found : Piece × ℕ) → 0 < length rest → piece_at rest ≡ Ok found → IsStuck rest → ⊥
unfolding IsStuck
stuck_at rest found some e (inl empty) = omega (arith, ap length empty)
stuck_at rest found some e (inr stop) = let clash : Ok found ≡ Err stop.0 = sym e ∙ stop.1 in cc

-- the first of parts is read
first_read : (part : Part) (parts : List Part) (rest : List ℕ) → AreParts (part ∷ parts) rest → piece_at (text_of (part ∷ parts) ++ rest) ≡ Ok (part.piece, length part.text)
first_read part parts rest all =
    ap piece_at (append_assoc part.text (text_of parts) rest)
    ∙ part_again part.piece part.text (text_of parts ++ rest) all.0.spelled all.0.within all.0.ended

first_some : (part : Part) (parts : List Part) (rest : List ℕ) → AreParts (part ∷ parts) rest → 0 < length (text_of (part ∷ parts) ++ rest)
first_some part parts rest all =
    omega (arith, length-append (part.text ++ text_of parts) rest, length-append part.text (text_of parts), piece_some part.piece part.text all.0.spelled)

abbrev done : Piece × ℕ → Result (Piece × ℕ) Stop
done x = Ok x

found_is : (x y : Piece × ℕ) → done x ≡ done y → x ≡ y
found_is x y e = cc

same_part : (x y : Part) → x.piece ≡ y.piece → x.text ≡ y.text → x ≡ y
same_part x y p t = ap (λ (k : Piece). record { piece = k; text = x.text }) p ∙ ap (λ (w : List ℕ). record { piece = y.piece; text = w }) t

pub one_reading : (xs ys : List Part) (rest other : List ℕ) → AreParts xs rest → AreParts ys other → IsStuck rest → IsStuck other → text_of xs ++ rest ≡ text_of ys ++ other → (xs ≡ ys) × (rest ≡ other)
one_reading [] [] rest other p q s t e = (refl, e)
one_reading [] (y ∷ ys) rest other p q s t e =
    let some : 0 < length rest = omega (arith, ap length e, first_some y ys other q) in
    absurd (stuck_at rest (y.piece, length y.text) some (ap piece_at e ∙ first_read y ys other q) s)
one_reading (x ∷ xs) [] rest other p q s t e =
    let some : 0 < length other = omega (arith, ap length e, first_some x xs rest p) in
    absurd (stuck_at other (x.piece, length x.text) some (ap piece_at (sym e) ∙ first_read x xs rest p) t)
one_reading (x ∷ xs) (y ∷ ys) rest other p q s t e =
    let same : (x.piece, length x.text) ≡ (y.piece, length y.text) = found_is _ _ (sym (first_read x xs rest p) ∙ ap piece_at e ∙ first_read y ys other q) in
    let len : length x.text ≡ length y.text = ap (λ (f : Piece × ℕ). f.1) same in
    let whole : x.text ++ (text_of xs ++ rest) ≡ y.text ++ (text_of ys ++ other) = sym (append_assoc x.text (text_of xs) rest) ∙ e ∙ append_assoc y.text (text_of ys) other in
    let text : x.text ≡ y.text = sym (take_at x.text (text_of xs ++ rest) (length y.text) len) ∙ ap (take (length y.text)) whole ∙ take_at y.text (text_of ys ++ other) (length y.text) refl in
    let tail : text_of xs ++ rest ≡ text_of ys ++ other = sym (drop_at x.text (text_of xs ++ rest) (length y.text) len) ∙ ap (drop (length y.text)) whole ∙ drop_at y.text (text_of ys ++ other) (length y.text) refl in
    let more = one_reading xs ys rest other p.1 q.1 s t tail in
    let part : x ≡ y = same_part x y (ap (λ (f : Piece × ℕ). f.0) same) text in
    (ap (λ (z : Part). z ∷ xs) part ∙ ap (λ (zs : List Part). y ∷ zs) more.0, more.1)
