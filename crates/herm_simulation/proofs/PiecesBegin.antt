-- Which piece begins at a step: whether an action comes at once behind operands, or none.
use Rattle.std.proofs.Common.{◌≡◌, ◌⊎◌, inl, inr, ℕ, zero, suc, ◌+◌, List, [], ◌∷◌, ◌++◌, map, length, Bool, true, false, cond, Some, None, slice_get, refl, sym, ap, subst, ◌∙◌, arith, true≢false}
use Rattle.std.specs.Prelude.{drop, flat_map}
use Rattle.herm_model.specs.Lists.{IsIn}
use Rattle.herm_model.specs.Types.{TypeTable}
use Rattle.herm_model.specs.Expressions.{Literal, Expression, Atom}
use Rattle.herm_model.proofs.Lists.{in-append_right, in-append_cases}
use Rattle.herm_model.proofs.Options.{none-not_some, some-injective}
use Rattle.herm_instructions.specs.Actions.{is_action}
use Rattle.herm_instructions.specs.Instructions.{Instruction, Drop, LoopDrop}
use Rattle.herm_instructions.specs.Pieces.{is_operand}
use Rattle.herm_code_machine.specs.ReadyCode.{ReadyCode}
use Rattle.herm_code_machine.specs.Pieces.{action_from}
use Rattle.herm_translated.specs.Departures.{Arrival, to_block, to_second_step, to_end, to_end_by, Departure, edge_code, arrive_by}
use Rattle.herm_translated.specs.Fronts.{expression_code, atom_code}
use Rattle.herm_translated.proofs.EachInstruction.{expression-each, atoms-each}
use Rattle.herm_simulation.specs.Leading.{StandFrom}

-- what is behind the first elements
pub got-dropped : {X : Type 0} (n : ℕ) (xs : List X) (q : ℕ) → slice_get (drop n xs) q ≡ slice_get xs (n + q)
got-dropped zero xs q = ap (slice_get xs) (omega arith)
got-dropped (suc n) [] q = refl
got-dropped (suc n) (x ∷ xs) q = let same : suc n + q ≡ suc (n + q) = omega arith in got-dropped n xs q ∙ sym (ap (slice_get (x ∷ xs)) same)

-- the row comes first in the code
abbrev pub IsFirst : (row code : List Instruction) → Type 0
IsFirst row code = (n : ℕ) (x : Instruction) → slice_get row n ≡ Some x → slice_get code n ≡ Some x

pub stand-dropped : (c : ReadyCode) (i : ℕ) (row : List Instruction) → StandFrom c i row → IsFirst row (drop i c.code.code)
stand-dropped c i row h n x e = got-dropped i c.code.code n ∙ h n x e

-- instructions joined twice
pub again-joined : (xs ys zs : List Instruction) → (xs ++ ys) ++ zs ≡ xs ++ (ys ++ zs)
again-joined [] ys zs = refl
again-joined (x ∷ xs) ys zs = ap (x ∷◌) (again-joined xs ys zs)

module _ (types : TypeTable) where
  -- a row without an action, in which not all are operands
  pub record IsLocalRow (row : List Instruction) : Type 0 where
    pub local : (x : Instruction) → IsIn x row → is_action types x ≡ false
    pub other : Instruction
    pub in_row : IsIn other row
    pub no_operand : is_operand other ≡ false

  pub no-action : (row code : List Instruction) (i : ℕ) → IsFirst row code → ((x : Instruction) → IsIn x row → is_action types x ≡ false) → (x : Instruction) → IsIn x row → is_operand x ≡ false → action_from types code i ≡ None
  no-action [] code i first local x h other = absurd h
  no-action (y ∷ row) [] i first local x h other = none-not_some (first 0 y refl)
  no-action (y ∷ row) (z ∷ code) i first local x h other =
      let same : z ≡ y = some-injective (first 0 y refl) in
      ap (λ z. cond (is_operand z) (action_from types code (suc i)) (cond (is_action types z) (Some (record { index = i; instruction = z })) None)) same
      ∙ by (is_operand y) refl h (λ m. no-action row code (suc i) (λ n w e. first (suc n) w e) (λ w m. local w (inr m)) x m other)
    where
      by : (b : Bool) → is_operand y ≡ b → IsIn x (y ∷ row) → (IsIn x row → action_from types code (suc i) ≡ None)
          → cond b (action_from types code (suc i)) (cond (is_action types y) (Some (record { index = i; instruction = y })) None) ≡ None
      by false e m again = ap (λ b. cond b (Some (record { index = i; instruction = y })) None) (local y (inl refl))
      by true e (inl same) again = absurd (true≢false (sym e ∙ ap is_operand (sym same) ∙ other))
      by true e (inr m) again = again m

  -- operands and then an action
  pub acts-first : (before : List Instruction) (x : Instruction) (code : List Instruction) (i : ℕ) → IsFirst (before ++ (x ∷ [])) code → ((y : Instruction) → IsIn y before → is_operand y ≡ true) → is_operand x ≡ false → is_action types x ≡ true
      → action_from types code i ≡ Some (record { index = i + length before; instruction = x })
  acts-first [] x [] i first each plain acts = none-not_some (first 0 x refl)
  acts-first [] x (z ∷ code) i first each plain acts =
      let same : z ≡ x = some-injective (first 0 x refl) in
      ap (λ z. cond (is_operand z) (action_from types code (suc i)) (cond (is_action types z) (Some (record { index = i; instruction = z })) None)) same
      ∙ ap (λ b. cond b (action_from types code (suc i)) (cond (is_action types x) (Some (record { index = i; instruction = x })) None)) plain
      ∙ ap (λ b. cond b (Some (record { index = i; instruction = x })) None) acts
      ∙ ap (λ n. Some (record { index = n; instruction = x })) (omega arith)
  acts-first (y ∷ before) x [] i first each plain acts = none-not_some (first 0 y refl)
  acts-first (y ∷ before) x (z ∷ code) i first each plain acts =
      let same : z ≡ y = some-injective (first 0 y refl) in
      let there : suc i + length before ≡ i + suc (length before) = omega arith in
      ap (λ z. cond (is_operand z) (action_from types code (suc i)) (cond (is_action types z) (Some (record { index = i; instruction = z })) None)) same
      ∙ ap (λ b. cond b (action_from types code (suc i)) (cond (is_action types y) (Some (record { index = i; instruction = y })) None)) (each y (inl refl))
      ∙ acts-first before x code (suc i) (λ n w e. first (suc n) w e) (λ w m. each w (inr m)) plain acts
      ∙ ap (λ n. Some (record { index = n; instruction = x })) there

  -- local rows
  pub behind-local : (before : List Instruction) (x : Instruction) → ((y : Instruction) → IsIn y before → is_action types y ≡ false) → is_action types x ≡ false → is_operand x ≡ false → IsLocalRow (before ++ (x ∷ []))
  behind-local before x each local plain = record {
    local = λ y m. by y (in-append_cases y before (x ∷ []) m);
    other = x;
    in_row = in-append_right x before (x ∷ []) (inl refl);
    no_operand = plain;
  }
    where
      by : (y : Instruction) → IsIn y before ⊎ IsIn y (x ∷ []) → is_action types y ≡ false
      by y (inl m) = each y m
      by y (inr (inl e)) = ap (is_action types) e ∙ local
      by y (inr (inr m)) = absurd m

  pub one-local : (x : Instruction) → is_action types x ≡ false → is_operand x ≡ false → IsLocalRow (x ∷ [])
  one-local x local plain = behind-local [] x (λ y m. absurd m) local plain

  pub expression-local : (constants : List Literal) (e : Expression) (x : Instruction) → is_action types x ≡ false → is_operand x ≡ false → IsLocalRow (expression_code constants e ++ (x ∷ []))
  expression-local constants e x local plain =
      behind-local (expression_code constants e) x (expression-each constants (λ y. is_action types y ≡ false) (λ k. refl) (λ p. refl) (λ p. refl) (λ u. refl) (λ o. refl) e) local plain

  pub atoms-local : (constants : List Literal) (keys : List Atom) (x : Instruction) → is_action types x ≡ false → is_operand x ≡ false → IsLocalRow (flat_map (atom_code constants) keys ++ (x ∷ []))
  atoms-local constants keys x local plain = behind-local (flat_map (atom_code constants) keys) x (atoms-each constants (λ y. is_action types y ≡ false) (λ k. refl) (λ p. refl) keys) local plain

  -- an edge
  drops-local : (ps : List (List ℕ)) (x : Instruction) → IsIn x (map Drop ps) → is_action types x ≡ false
  drops-local [] x m = absurd m
  drops-local (p ∷ ps) x (inl e) = ap (is_action types) e
  drops-local (p ∷ ps) x (inr m) = drops-local ps x m

  slots-local : (ss : List ℕ) (x : Instruction) → IsIn x (map LoopDrop ss) → is_action types x ≡ false
  slots-local [] x m = absurd m
  slots-local (s ∷ ss) x (inl e) = ap (is_action types) e
  slots-local (s ∷ ss) x (inr m) = slots-local ss x m

  arrival-local : (start : ℕ → ℕ) (a : Arrival) → is_action types (arrive_by start a) ≡ false
  arrival-local start (to_block n) = refl
  arrival-local start (to_second_step n) = refl
  arrival-local start to_end = refl
  arrival-local start (to_end_by e) = refl

  arrival-plain : (start : ℕ → ℕ) (a : Arrival) → is_operand (arrive_by start a) ≡ false
  arrival-plain start (to_block n) = refl
  arrival-plain start (to_second_step n) = refl
  arrival-plain start to_end = refl
  arrival-plain start (to_end_by e) = refl

  pub edge-local : (start : ℕ → ℕ) (d : Departure) → IsLocalRow (edge_code start d)
  edge-local start d =
      subst IsLocalRow (again-joined (map Drop d.drops) (map LoopDrop d.slots) (arrive_by start d.arrival ∷ []))
      (behind-local (map Drop d.drops ++ map LoopDrop d.slots) (arrive_by start d.arrival) (λ y m. by y (in-append_cases y (map Drop d.drops) (map LoopDrop d.slots) m)) (arrival-local start d.arrival) (arrival-plain start d.arrival))
    where
      by : (y : Instruction) → IsIn y (map Drop d.drops) ⊎ IsIn y (map LoopDrop d.slots) → is_action types y ≡ false
      by y (inl m) = drops-local d.drops y m
      by y (inr m) = slots-local d.slots y m
