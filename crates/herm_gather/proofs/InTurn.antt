-- Lists of entries of which in turn the next one of a process is taken.
use Rattle.std.proofs.Common.{◌≡◌, ◌≢◌, ℕ, zero, suc, ◌%◌, Bool, List, [], ◌∷◌, ◌++◌, map, filter, nat_eq, take, drop, refl, sym, ap, ap₂, subst, ◌∙◌, inl, inr}
use Rattle.std.proofs.lemmas.Bool.{cond-true, cond-false, cases_Bool}
use Rattle.std.proofs.lemmas.Nat.{mod-mul-add}
use Rattle.herm_journal.specs.Journals.{part_of_process}
use Rattle.herm_events.specs.View.{entry_view, entries_view}
use Rattle.herm_events.specs.declared.entry.Entry.{Entry}
use Rattle.herm_report.specs.Turns.{in_turn, list_at, without_first}
use Rattle.herm_gather.specs.Diaries.{AreTurns}
use Rattle.herm_gather.specs.Orders.{place_in_order}
use Rattle.herm_gather.proofs.Merged.{few-of}
use Rattle.herm_gather.proofs.SameNumber.{same-true, other-false, same-is, other-is}

-- ---- one entry less in one list

this-without : (lists : List (List Entry)) (n : ℕ) (e : Entry) (es : List Entry) → list_at lists n ≡ e ∷ es → list_at (without_first lists n) n ≡ es
this-without lists zero e es is = cc
this-without [] (suc n) e es is = cc
this-without (l ∷ lists) (suc zero) e es is = ap (drop 1) is
this-without (l ∷ lists) (suc (suc n)) e es is = this-without lists (suc n) e es is

other-without : (lists : List (List Entry)) (n p : ℕ) → p ≢ n → list_at (without_first lists n) p ≡ list_at lists p
other-without lists zero p ne = refl
other-without [] (suc n) p ne = refl
other-without (l ∷ lists) (suc zero) zero ne = refl
other-without (l ∷ lists) (suc zero) (suc zero) ne = absurd (ne refl)
other-without (l ∷ lists) (suc zero) (suc (suc p)) ne = refl
other-without (l ∷ lists) (suc (suc n)) zero ne = refl
other-without (l ∷ lists) (suc (suc n)) (suc zero) ne = refl
other-without (l ∷ lists) (suc (suc n)) (suc (suc p)) ne = other-without lists (suc n) (suc p) (λ e. ne (ap suc e))

-- ---- one turn

first-same : {X : Type 0} (x y : X) (xs ys : List X) → x ∷ xs ≡ y ∷ ys → (x ≡ y) × (xs ≡ ys)
first-same x y xs ys e = (cc, cc)

abbrev pub of_number : ℕ → ℕ → Bool
of_number p n = nat_eq (n % 2048) p

kept-turn : (x : ℕ) (xs : List ℕ) → filter (of_number (x % 2048)) (x ∷ xs) ≡ x ∷ filter (of_number (x % 2048)) xs
kept-turn x xs = cond-true (of_number (x % 2048) x) (x ∷ filter (of_number (x % 2048)) xs) (filter (of_number (x % 2048)) xs) (same-true (x % 2048) (x % 2048) refl)

dropped-turn : (x p : ℕ) (xs : List ℕ) → p ≢ x % 2048 → filter (of_number p) (x ∷ xs) ≡ filter (of_number p) xs
dropped-turn x p xs ne = cond-false (of_number p x) (x ∷ filter (of_number p) xs) (filter (of_number p) xs) (other-false (x % 2048) p (λ e. ne (sym e)))

module _ (x : ℕ) (xs : List ℕ) (lists rests : List (List Entry)) (e : Entry)
    (turns : AreTurns (x ∷ xs) lists)
    (next : list_at lists (x % 2048) ≡ e ∷ list_at rests (x % 2048))
    (others : (p : ℕ) → p ≢ x % 2048 → list_at rests p ≡ list_at lists p) where
  this-turn : (x ≡ place_in_order e) × (filter (of_number (x % 2048)) xs ≡ map place_in_order (list_at rests (x % 2048)))
  this-turn = first-same x (place_in_order e) (filter (of_number (x % 2048)) xs) (map place_in_order (list_at rests (x % 2048))) (sym (kept-turn x xs) ∙ turns (x % 2048) ∙ ap (map place_in_order) next)

  turn-place : x ≡ place_in_order e
  turn-place = this-turn.0

  turns-left : AreTurns xs rests
  turns-left p =
      elim (cases_Bool (nat_eq p (x % 2048))) [
        | inl same ↦ subst (λ m. filter (of_number m) xs ≡ map place_in_order (list_at rests m)) (sym (same-is p (x % 2048) same)) this-turn.1
        | inr other ↦
            let ne = other-is p (x % 2048) other in
            sym (dropped-turn x p xs ne) ∙ turns p ∙ sym (ap (map place_in_order) (others p ne))
      ]

  number-is : e.proc.number ≡ x % 2048
  number-is = sym (ap (λ n. n % 2048) turn-place ∙ mod-mul-add e.stamp.0 2048 e.proc.number (few-of e))

  -- what is of a process among this entry and those behind it
  part-behind : (behind : List Entry) (p : ℕ) → part_of_process p (entries_view behind) ≡ entries_view (list_at rests p) → part_of_process p (entries_view (e ∷ behind)) ≡ entries_view (list_at lists p)
  part-behind behind p is =
      let rest = part_of_process p (entries_view behind) in
      elim (cases_Bool (nat_eq e.proc.number p)) [
        | inl same ↦
            cond-true (nat_eq e.proc.number p) (entry_view e ∷ rest) rest same
            ∙ ap (λ l. entry_view e ∷ l) is
            ∙ sym (ap entries_view (subst (λ m. list_at lists m ≡ e ∷ list_at rests m) (sym number-is ∙ same-is e.proc.number p same) next))
        | inr other ↦
            cond-false (nat_eq e.proc.number p) (entry_view e ∷ rest) rest other
            ∙ is
            ∙ ap entries_view (others p (λ same. other-is e.proc.number p other (number-is ∙ sym same)))
      ]

-- ---- the end

none-left : (lists : List (List Entry)) (p : ℕ) → AreTurns [] lists → list_at lists p ≡ []
none-left lists p turns = empty (list_at lists p) (turns p)
  where
    empty : (es : List Entry) → [] ≡ map place_in_order es → es ≡ []
    empty [] e = refl
    empty (f ∷ es) e = cc

-- ---- all turns

none-first : (x : ℕ) (xs : List ℕ) (lists : List (List Entry)) → AreTurns (x ∷ xs) lists → list_at lists (x % 2048) ≡ [] → ⊥
none-first x xs lists turns is = none (sym (kept-turn x xs) ∙ turns (x % 2048) ∙ ap (map place_in_order) is)
  where
    none : x ∷ filter (of_number (x % 2048)) xs ≡ [] → ⊥
    none e = cc

-- what is taken at these turns has their places, and of each process all, in order
abbrev AreTaken : List ℕ → List (List Entry) → List Entry → Type 0
AreTaken xs lists es = (map place_in_order es ≡ xs) × ((p : ℕ) → part_of_process p (entries_view es) ≡ entries_view (list_at lists p))

taken-first : (x : ℕ) (xs : List ℕ) (lists : List (List Entry)) (behind : List Entry) → AreTurns (x ∷ xs) lists → (AreTurns xs (without_first lists (x % 2048)) → AreTaken xs (without_first lists (x % 2048)) behind)
    → (l : List Entry) → list_at lists (x % 2048) ≡ l → AreTaken (x ∷ xs) lists (take 1 (list_at lists (x % 2048)) ++ behind)
taken-first x xs lists behind turns rest [] is = absurd (none-first x xs lists turns is)
taken-first x xs lists behind turns rest (e ∷ es) is =
    let rests = without_first lists (x % 2048) in
    let next : list_at lists (x % 2048) ≡ e ∷ list_at rests (x % 2048) = is ∙ ap (λ l. e ∷ l) (sym (this-without lists (x % 2048) e es is)) in
    let others : (p : ℕ) → p ≢ x % 2048 → list_at rests p ≡ list_at lists p = λ p ne. other-without lists (x % 2048) p ne in
    let all = rest (turns-left x xs lists rests e turns next others) in (
      ap (λ l. map place_in_order (take 1 l ++ behind)) is ∙ ap₂ (λ n ns. n ∷ ns) (sym (turn-place x xs lists rests e turns next others)) all.0,
      λ p. ap (λ l. part_of_process p (entries_view (take 1 l ++ behind))) is ∙ part-behind x xs lists rests e turns next others behind p (all.1 p),
    )

pub in-turn-is : (xs : List ℕ) (lists : List (List Entry)) → AreTurns xs lists → (map place_in_order (in_turn xs lists) ≡ xs) × ((p : ℕ) → part_of_process p (entries_view (in_turn xs lists)) ≡ entries_view (list_at lists p))
in-turn-is [] lists turns = (refl, λ p. sym (ap entries_view (none-left lists p turns)))
in-turn-is (x ∷ xs) lists turns =
    let rests = without_first lists (x % 2048) in
    taken-first x xs lists (in_turn xs rests) turns (in-turn-is xs rests) (list_at lists (x % 2048)) refl
