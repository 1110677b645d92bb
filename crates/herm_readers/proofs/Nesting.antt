-- The bound on open brackets.
use Rattle.std.proofs.Common.{◌≡◌, ℕ, zero, suc, ◌+◌, ◌≤◌, List, [], ◌∷◌, ◌++◌, length, Option, Some, None, refl, sym, ap, subst, arith, ◌⊎◌, inl, inr, ⊎_elim}
use Rattle.herm_readers.specs.BracketBalance.{Side, Opening, Closing, Neither, opened, closed, openings, closings, too_deep_step, too_deep, IsWithin, IsTooDeep, FindsTooDeep, FindsWithin}

within_step : (side : Side) (further : ℕ → Option ℕ) (left room m c : ℕ) → too_deep_step side further left room ≡ None → ((r : ℕ) → further r ≡ None → m ≤ r + c) → opened side + m ≤ room + (closed side + c)
within_step Opening further left zero m c e h = absurd (cc)
within_step Opening further left (suc room) m c e h = omega (arith, h room e)
within_step Closing further left room m c e h = omega (arith, h (suc room) e)
within_step Neither further left room m c e h = omega (arith, h room e)

pub finds_within : (S : Type 0) → FindsWithin S
finds_within S side bound [] e [] rest w = omega arith
finds_within S side bound [] e (y ∷ front) rest w = absurd (cc)
finds_within S side bound (x ∷ symbols) e [] rest w = omega arith
finds_within S side bound (x ∷ symbols) e (y ∷ front) rest w =
    let same : x ≡ y = cc in
    let tails : symbols ≡ front ++ rest = cc in
    subst (λ z. opened (side z) + openings side front ≤ bound + (closed (side z) + closings side front)) same
    (within_step (side x) (too_deep side symbols) (suc (length symbols)) bound (openings side front) (closings side front) e
    (λ r inner. finds_within S side r symbols inner front rest tails))

-- How the room changes at a symbol that is not too deep.
record Steps (side : Side) (further : ℕ → Option ℕ) (room count : ℕ) : Type 0 where
  next : ℕ
  then_on : further next ≡ Some count
  balance : room + closed side ≡ next + opened side

too_deep_cases : (side : Side) (further : ℕ → Option ℕ) (left room count : ℕ) → too_deep_step side further left room ≡ Some count → ((side ≡ Opening) × (room ≡ 0) × (left ≡ count)) ⊎ Steps side further room count
too_deep_cases Opening further left zero count e = let same : left ≡ count = cc in inl (refl, refl, same)
too_deep_cases Opening further left (suc room) count e = inr (record { next = room; then_on = e; balance = omega arith })
too_deep_cases Closing further left room count e = inr (record { next = suc room; then_on = e; balance = omega arith })
too_deep_cases Neither further left room count e = inr (record { next = room; then_on = e; balance = omega arith })

module _ {S : Type 0} (side : S → Side) where
  before_first : (room : ℕ) → IsWithin side room []
  before_first room [] rest w = omega arith
  before_first room (y ∷ front) rest w = absurd (cc)

  before_more : (room next : ℕ) (x : S) (symbols : List S) → room + closed (side x) ≡ next + opened (side x) → IsWithin side next symbols → IsWithin side room (x ∷ symbols)
  before_more room next x symbols b h [] rest w = omega arith
  before_more room next x symbols b h (y ∷ front) rest w =
      let same : x ≡ y = cc in
      let tails : symbols ≡ front ++ rest = cc in
      subst (λ z. opened (side z) + openings side front ≤ room + (closed (side z) + closings side front)) same (omega (arith, b, h front rest tails))

  too_deep_first : (room : ℕ) (x : S) (symbols : List S) (count : ℕ) → side x ≡ Opening → room ≡ 0 → suc (length symbols) ≡ count → IsTooDeep side room (x ∷ symbols) count
  too_deep_first room x symbols count s r l = record {
    front = [];
    x = x;
    behind = symbols;
    whole = refl;
    counted = sym l;
    reached = subst (λ t. opened t + 0 ≡ suc (room + (closed t + 0))) (sym s) (omega (arith, r));
    before = before_first room;
  }

  too_deep_more : (room : ℕ) (x : S) (symbols : List S) (count next : ℕ) → room + closed (side x) ≡ next + opened (side x) → IsTooDeep side next symbols count → IsTooDeep side room (x ∷ symbols) count
  too_deep_more room x symbols count next b inner = record {
    front = x ∷ inner.front;
    x = inner.x;
    behind = inner.behind;
    whole = ap (λ t. x ∷ t) inner.whole;
    counted = inner.counted;
    reached = omega (arith, b, inner.reached);
    before = before_more room next x inner.front b inner.before;
  }

pub finds_too_deep : (S : Type 0) → FindsTooDeep S
finds_too_deep S side bound [] count e = absurd (cc)
finds_too_deep S side bound (x ∷ symbols) count e =
    ⊎_elim (λ h. too_deep_first side bound x symbols count h.0 h.1 h.2)
    (λ steps. too_deep_more side bound x symbols count steps.next steps.balance (finds_too_deep S side steps.next symbols count steps.then_on))
    (too_deep_cases (side x) (too_deep side symbols) (suc (length symbols)) bound count e)
