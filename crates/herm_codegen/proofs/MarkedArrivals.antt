-- A place is marked where some edge arrives there.
use Rattle.std.proofs.Common.{◌≡◌, ℕ, zero, suc, ◌<◌, List, [], ◌∷◌, length, get_or, replicate, set, ◌≤◌, Bool, true, false, ◌||◌, nat_eq, refl, sym, ap, ap₂, ◌∙◌, arith}
use Rattle.std.proofs.lemmas.Bool.Decides.{nat_tests}
use Rattle.std.proofs.lemmas.List.{get_or-replicate, length-replicate}
use Rattle.herm_model.specs.Lists.{any_pass}
use Rattle.herm_translated.specs.Departures.{Arrival, to_block, to_second_step, to_end, to_end_by, Departure}
use Rattle.herm_translated.specs.CodeBlocks.{CodeBlock}
use Rattle.herm_translated.specs.BlockLabels.{goes_to_first, goes_to_second, comes_first, comes_again}
use Rattle.herm_codegen.specs.Arrivals.{Marks, marked, with_arrival, with_entry, with_edges, with_blocks, no_marks, all_marks, is_marked_at}

pub length-marked : (n : ℕ) (bs : List Bool) → length (marked n bs) ≡ length bs
length-marked n [] = refl
length-marked zero (b ∷ bs) = refl
length-marked (suc n) (b ∷ bs) = ap suc (length-marked n bs)

pub set_marked : (n : ℕ) (bs : List Bool) → n < length bs → set bs n true ≡ marked n bs
set_marked n [] h = absurd (let x : ⊥ = omega (arith, h) in x)
set_marked zero (b ∷ bs) h = refl
set_marked (suc n) (b ∷ bs) h = ap (b ∷◌) (set_marked n bs (omega (arith, h)))

pub marked_behind : (n : ℕ) (bs : List Bool) → length bs ≤ n → bs ≡ marked n bs
marked_behind n [] h = refl
marked_behind zero (b ∷ bs) h = absurd (let x : ⊥ = omega (arith, h) in x)
marked_behind (suc n) (b ∷ bs) h = ap (b ∷◌) (marked_behind n bs (omega (arith, h)))

or-none : (a : Bool) → a ≡ (a || false)
or-none true = refl
or-none false = refl

or-one : (a : Bool) → true ≡ (a || true)
or-one true = refl
or-one false = refl

or-nested : (a b c : Bool) → ((a || b) || c) ≡ (a || (b || c))
or-nested true b c = refl
or-nested false b c = refl

zero-apart : (i : ℕ) → false ≡ nat_eq zero (suc i)
zero-apart i = grind (arith, nat_tests)

suc-apart : (n : ℕ) → false ≡ nat_eq (suc n) zero
suc-apart n = grind (arith, nat_tests)

suc-same : (n i : ℕ) → nat_eq n i ≡ nat_eq (suc n) (suc i)
suc-same n i = grind (arith, nat_tests)

pub get-marked : (n : ℕ) (bs : List Bool) (i : ℕ) → i < length bs → is_marked_at (marked n bs) i ≡ (is_marked_at bs i || nat_eq n i)
get-marked n [] i h = absurd (let x : ⊥ = omega (arith, h) in x)
get-marked zero (b ∷ bs) zero h = or-one b
get-marked zero (b ∷ bs) (suc i) h = or-none (is_marked_at bs i) ∙ ap (λ x. is_marked_at bs i || x) (zero-apart i)
get-marked (suc n) (b ∷ bs) zero h = or-none b ∙ ap (λ x. b || x) (suc-apart n)
get-marked (suc n) (b ∷ bs) (suc i) h = get-marked n bs i (omega (arith, h)) ∙ ap (λ x. is_marked_at bs i || x) (suc-same n i)

-- A list of marks of which each way of an arrival marks one place: that of first steps, or that of second steps.
pub record AreMarks (marks : Marks → List Bool) (goes : ℕ → Arrival → Bool) : Type 0 where
  pub many : (a : Arrival) (m : Marks) → length (marks (with_arrival a m)) ≡ length (marks m)
  pub each : (a : Arrival) (m : Marks) (i : ℕ) → i < length (marks m) → is_marked_at (marks (with_arrival a m)) i ≡ (is_marked_at (marks m) i || goes i a)

pub of-first : AreMarks (λ m. m.first) goes_to_first
of-first = record { many = many; each = each }
  where
    many : (a : Arrival) (m : Marks) → length (with_arrival a m).first ≡ length m.first
    many (to_block n) m = length-marked n m.first
    many (to_second_step n) m = refl
    many to_end m = refl
    many (to_end_by e) m = refl

    each : (a : Arrival) (m : Marks) (i : ℕ) → i < length m.first → is_marked_at (with_arrival a m).first i ≡ (is_marked_at m.first i || goes_to_first i a)
    each (to_block n) m i h = get-marked n m.first i h
    each (to_second_step n) m i h = or-none (is_marked_at m.first i)
    each to_end m i h = or-none (is_marked_at m.first i)
    each (to_end_by e) m i h = or-none (is_marked_at m.first i)

pub of-again : AreMarks (λ m. m.again) goes_to_second
of-again = record { many = many; each = each }
  where
    many : (a : Arrival) (m : Marks) → length (with_arrival a m).again ≡ length m.again
    many (to_block n) m = refl
    many (to_second_step n) m = length-marked n m.again
    many to_end m = refl
    many (to_end_by e) m = refl

    each : (a : Arrival) (m : Marks) (i : ℕ) → i < length m.again → is_marked_at (with_arrival a m).again i ≡ (is_marked_at m.again i || goes_to_second i a)
    each (to_block n) m i h = or-none (is_marked_at m.again i)
    each (to_second_step n) m i h = get-marked n m.again i h
    each to_end m i h = or-none (is_marked_at m.again i)
    each (to_end_by e) m i h = or-none (is_marked_at m.again i)

module _ (marks : Marks → List Bool) (goes : ℕ → Arrival → Bool) (are : AreMarks marks goes) where
  edges-many : (ds : List Departure) (m : Marks) → length (marks (with_edges ds m)) ≡ length (marks m)
  edges-many [] m = refl
  edges-many (d ∷ ds) m = edges-many ds (with_arrival d.arrival m) ∙ are.many d.arrival m

  edges-each : (ds : List Departure) (m : Marks) (i : ℕ) → i < length (marks m) → is_marked_at (marks (with_edges ds m)) i ≡ (is_marked_at (marks m) i || any_pass (λ (d : Departure). goes i d.arrival) ds)
  edges-each [] m i h = or-none (is_marked_at (marks m) i)
  edges-each (d ∷ ds) m i h =
      edges-each ds (with_arrival d.arrival m) i (let e = are.many d.arrival m in omega (arith, h, e))
      ∙ (ap (λ b. b || any_pass (λ (d : Departure). goes i d.arrival) ds) (are.each d.arrival m i h)
      ∙ or-nested (is_marked_at (marks m) i) (goes i d.arrival) (any_pass (λ (d : Departure). goes i d.arrival) ds))

  pub blocks-each : (bs : List CodeBlock) (m : Marks) (i : ℕ) → i < length (marks m)
      → is_marked_at (marks (with_blocks bs m)) i ≡ (is_marked_at (marks m) i || any_pass (λ (b : CodeBlock). any_pass (λ (d : Departure). goes i d.arrival) b.departures) bs)
  blocks-each [] m i h = or-none (is_marked_at (marks m) i)
  blocks-each (b ∷ bs) m i h =
      blocks-each bs (with_edges b.departures m) i (let e = edges-many b.departures m in omega (arith, h, e))
      ∙ (ap (λ x. x || any_pass (λ (b : CodeBlock). any_pass (λ (d : Departure). goes i d.arrival) b.departures) bs) (edges-each b.departures m i h)
      ∙ or-nested (is_marked_at (marks m) i) (any_pass (λ (d : Departure). goes i d.arrival) b.departures) (any_pass (λ (b : CodeBlock). any_pass (λ (d : Departure). goes i d.arrival) b.departures) bs))

pub first-marked : (entry : Departure) (bs : List CodeBlock) (i : ℕ) → i < length bs → is_marked_at (all_marks entry bs).first i ≡ comes_first entry bs i
first-marked entry bs i h =
    blocks-each (λ m. m.first) goes_to_first of-first bs (with_entry entry.arrival (no_marks (length bs))) i (let e = many entry.arrival in omega (arith, h, e))
    ∙ ap (λ x. x || any_pass (λ (b : CodeBlock). any_pass (λ (d : Departure). goes_to_first i d.arrival) b.departures) bs) (begun entry.arrival)
  where
    none : is_marked_at (replicate (length bs) false) i ≡ false
    none = get_or-replicate (length bs) i false false h

    many : (a : Arrival) → length (with_entry a (no_marks (length bs))).first ≡ length bs
    many (to_block n) = length-marked n (replicate (length bs) false) ∙ length-replicate (length bs) false
    many (to_second_step n) = length-replicate (length bs) false
    many to_end = length-replicate (length bs) false
    many (to_end_by e) = length-replicate (length bs) false

    begun : (a : Arrival) → is_marked_at (with_entry a (no_marks (length bs))).first i ≡ goes_to_first i a
    begun (to_block n) = get-marked n (replicate (length bs) false) i (let e = length-replicate (length bs) false in omega (arith, h, e)) ∙ ap (λ x. x || nat_eq n i) none
    begun (to_second_step n) = none
    begun to_end = none
    begun (to_end_by e) = none

pub again-marked : (entry : Departure) (bs : List CodeBlock) (i : ℕ) → i < length bs → is_marked_at (all_marks entry bs).again i ≡ comes_again bs i
again-marked entry bs i h =
    blocks-each (λ m. m.again) goes_to_second of-again bs (with_entry entry.arrival (no_marks (length bs))) i (let e = ap length (kept entry.arrival) ∙ length-replicate (length bs) false in omega (arith, h, e))
    ∙ ap (λ x. x || comes_again bs i) (ap (λ ms. is_marked_at ms i) (kept entry.arrival) ∙ get_or-replicate (length bs) i false false h)
  where
    kept : (a : Arrival) → (with_entry a (no_marks (length bs))).again ≡ replicate (length bs) false
    kept (to_block n) = refl
    kept (to_second_step n) = refl
    kept to_end = refl
    kept (to_end_by e) = refl
