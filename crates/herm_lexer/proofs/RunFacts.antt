-- Runs: how far they go, and what stands behind them.
use Rattle.std.proofs.Common.{◌≡◌, ℕ, suc, ◌≤◌, Bool, true, false, List, [], ◌∷◌, ◌++◌, length, refl, sym, ap, subst, ◌∙◌, arith}
use Rattle.std.specs.Prelude.{IsTrue}
use Rattle.std.specs.List.{AllByRecursion}
use Rattle.herm_lexer.specs.Runs.{goes_on, escapes, Goes, Stops, run_length}
use Rattle.herm_lexer.specs.declared.run.Run.{Run}

-- the bytes as a run and what is left
pub record RunSplit (run : Run) (escaped : Bool) (bytes : List ℕ) : Type 0 where
  pub text : List ℕ
  pub rest : List ℕ
  pub after : Bool
  pub whole : bytes ≡ text ++ rest
  pub len : run_length run escaped bytes ≡ length text
  pub goes : Goes run escaped text after
  pub stops : Stops run after rest

one_more : (run : Run) (escaped : Bool) (b : ℕ) (bs : List ℕ) → goes_on run escaped b ≡ true → RunSplit run (escapes run escaped b) bs → RunSplit run escaped (b ∷ bs)
one_more run escaped b bs h s = record {
  text = b ∷ s.text;
  rest = s.rest;
  after = s.after;
  whole = ap (λ (t : List ℕ). b ∷ t) s.whole;
  len = rw h (ap suc s.len);
  goes = (h, s.goes);
  stops = s.stops;
}

none : (run : Run) (escaped : Bool) (b : ℕ) (bs : List ℕ) → goes_on run escaped b ≡ false → RunSplit run escaped (b ∷ bs)
none run escaped b bs h = record { text = []; rest = b ∷ bs; after = escaped; whole = refl; len = rw h refl; goes = refl; stops = h }

pub run_split : (run : Run) (escaped : Bool) (bytes : List ℕ) → RunSplit run escaped bytes
run_split run escaped [] = record { text = []; rest = []; after = escaped; whole = refl; len = refl; goes = refl; stops = tt }
run_split run escaped (b ∷ bs) =
    let more = run_split run (escapes run escaped b) bs in
    let choose : (v : Bool) → goes_on run escaped b ≡ v → RunSplit run escaped (b ∷ bs) =
    λ v. elim v as (λ v. goes_on run escaped b ≡ v → RunSplit run escaped (b ∷ bs)) [
      | true ↦ λ h. one_more run escaped b bs h more
      | false ↦ λ h. none run escaped b bs h
    ]
    in
    choose (goes_on run escaped b) refl

-- a run that goes over a text and stops behind it has its length
pub run_length-of : (run : Run) (escaped : Bool) (text rest : List ℕ) (after : Bool) → Goes run escaped text after → Stops run after rest → run_length run escaped (text ++ rest) ≡ length text
run_length-of run escaped [] [] after goes stops = refl
run_length-of run escaped [] (b ∷ bs) after goes stops =
    let h : goes_on run escaped b ≡ false = subst (λ (e : Bool). goes_on run e b ≡ false) (sym goes) stops in
    rw h refl
run_length-of run escaped (b ∷ bs) rest after goes stops =
    let h : goes_on run escaped b ≡ true = goes.0 in
    rw h (ap suc (run_length-of run (escapes run escaped b) bs rest after goes.1 stops))

-- a run is at least as long as a text that it goes over
pub run_length-le : (run : Run) (escaped : Bool) (text rest : List ℕ) (after : Bool) → Goes run escaped text after → length text ≤ run_length run escaped (text ++ rest)
run_length-le run escaped [] rest after goes = omega arith
run_length-le run escaped (b ∷ bs) rest after goes =
    let h : goes_on run escaped b ≡ true = goes.0 in
    rw h (omega (arith, run_length-le run (escapes run escaped b) bs rest after goes.1))

-- one run after another
pub Goes-append : (run : Run) (escaped between after : Bool) (xs ys : List ℕ) → Goes run escaped xs between → Goes run between ys after → Goes run escaped (xs ++ ys) after
Goes-append run escaped between after [] ys p q = subst (λ (e : Bool). Goes run e ys after) (sym p) q
Goes-append run escaped between after (x ∷ xs) ys p q = (p.0, Goes-append run (escapes run escaped x) between after xs ys p.1 q)

-- a run in which nothing escapes goes over each byte by itself
pub record IsPlain (run : Run) (test : ℕ → Bool) : Type 0 where
  pub tests : (escaped : Bool) (b : ℕ) → goes_on run escaped b ≡ test b
  pub never : (escaped : Bool) (b : ℕ) → escapes run escaped b ≡ false

pub Goes-from_all : (run : Run) (test : ℕ → Bool) → IsPlain run test → (text : List ℕ) → AllByRecursion (λ b. IsTrue (test b)) text → Goes run false text false
Goes-from_all run test plain [] all = refl
Goes-from_all run test plain (b ∷ bs) all =
    (plain.tests false b ∙ all.0, subst (λ (e : Bool). Goes run e bs false) (sym (plain.never false b)) (Goes-from_all run test plain bs all.1))

pub all_from_Goes : (run : Run) (test : ℕ → Bool) → IsPlain run test → (text : List ℕ) (after : Bool) → Goes run false text after → AllByRecursion (λ b. IsTrue (test b)) text × (after ≡ false)
all_from_Goes run test plain [] after goes = (tt, sym goes)
all_from_Goes run test plain (b ∷ bs) after goes =
    let more : Goes run false bs after = subst (λ (e : Bool). Goes run e bs after) (plain.never false b) goes.1 in
    let others = all_from_Goes run test plain bs after more in
    ((sym (plain.tests false b) ∙ goes.0, others.0), others.1)
