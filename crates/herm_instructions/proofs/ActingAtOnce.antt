-- One pass decides whether each first action behind a step comes at once, where control goes back only to steps.
use Rattle.std.proofs.Common.{◌≡◌, ℕ, suc, ◌<◌, ◌≤◌, List, [], ◌∷◌, ◌++◌, map, Bool, true, false, not, cond, ◌&&◌, ◌||◌, ◌⊎◌, inl, inr, nat_eq, nat_lt, IsTrue, refl, sym, ap, subst, ◌∙◌, arith, true≢false}
use Rattle.std.proofs.lemmas.Bool.{lt-ltb, ltb-true}
use Rattle.herm_model.specs.Lists.{IsIn, any_pass, list_of}
use Rattle.herm_model.specs.Types.{TypeTable}
use Rattle.herm_model.proofs.Lists.{not_true, and-both, both-and, or-either, or-left, or-right, in-append_left, in-append_right, in-append_cases, in-map, in-map_from}
use Rattle.herm_model.proofs.Deciding.{numbers-decide, member-decides}
use Rattle.herm_instructions.specs.Instructions.{Instruction, Step, Const, Load}
use Rattle.herm_instructions.specs.Actions.{is_step, is_action}
use Rattle.herm_instructions.specs.Places.{Way, Place, goes_on, named_ways, ways}
use Rattle.herm_instructions.specs.Pieces.{is_operand, is_other, ComesFromStep, from_step, past_operand, past_other, ActsAtOnce}
use Rattle.herm_instructions.specs.tests.GoodTests.{Role, a_step, an_operand, an_action, another, role_of, acts_at_once_from}
use Rattle.herm_instructions.proofs.PlacesOfCode.{Follow, follow-one}

-- what each role says
abbrev IsRole : TypeTable → Instruction → Role → Type 0
IsRole table i a_step = IsTrue (is_step i)
IsRole table i an_operand = IsTrue (is_operand i)
IsRole table i an_action = IsTrue (is_action table i) × (is_step i ≡ false)
IsRole table i another = IsTrue (is_other table i)

role-is : (table : TypeTable) (i : Instruction) → IsRole table i (role_of table i)
role-is table i = by (is_step i) refl (is_action table i) refl (is_operand i) refl
  where
    by : (s : Bool) → is_step i ≡ s → (a : Bool) → is_action table i ≡ a → (o : Bool) → is_operand i ≡ o → IsRole table i (cond s a_step (cond a an_action (cond o an_operand another)))
    by true e a f o g = e
    by false e true f o g = (f, e)
    by false e false f true g = g
    by false e false f false g = subst (λ b. IsTrue (not (b || (is_action table i || is_operand i)))) (sym e) (subst (λ b. IsTrue (not (b || is_operand i))) (sym f) (subst (λ b. IsTrue (not b)) (sym g) refl))

-- the roles exclude each other
other-no_step : (table : TypeTable) (i : Instruction) → IsTrue (is_other table i) → is_step i ≡ false
other-no_step table i h = by (is_step i) refl h
  where
    by : (s : Bool) → is_step i ≡ s → IsTrue (not (s || (is_action table i || is_operand i))) → is_step i ≡ false
    by true e h = not_true h
    by false e h = e

-- a test that fails where one holds
differ : {A : Type 0} (b : Bool) → IsTrue b → b ≡ false → A
differ b h e = absurd (true≢false (sym h ∙ e))

step-no_action : (table : TypeTable) (i : Instruction) → IsTrue (is_step i) → is_action table i ≡ false
step-no_action table Step h = refl
step-no_action table i h = not_true h

operand-no_action : (table : TypeTable) (i : Instruction) → IsTrue (is_operand i) → is_action table i ≡ false
operand-no_action table (Const k) h = refl
operand-no_action table (Load p) h = refl
operand-no_action table i h = not_true h

operand-no_step : (i : Instruction) → IsTrue (is_operand i) → is_step i ≡ false
operand-no_step (Const k) h = refl
operand-no_step (Load p) h = refl
operand-no_step i h = not_true h

other-no_action : (table : TypeTable) (i : Instruction) → IsTrue (is_other table i) → is_action table i ≡ false
other-no_action table i h = by (is_step i) (is_action table i) refl h
  where
    by : (s a : Bool) → is_action table i ≡ a → IsTrue (not (s || (a || is_operand i))) → is_action table i ≡ false
    by true a e h = not_true h
    by false true e h = not_true h
    by false false e h = e

other-no_operand : (table : TypeTable) (i : Instruction) → IsTrue (is_other table i) → is_operand i ≡ false
other-no_operand table i h = by (is_step i) (is_action table i) (is_operand i) refl h
  where
    by : (s a o : Bool) → is_operand i ≡ o → IsTrue (not (s || (a || o))) → is_operand i ≡ false
    by true a o e h = not_true h
    by false true o e h = not_true h
    by false false true e h = not_true h
    by false false false e h = e

module _ (table : TypeTable) (ps : List Place) (follow : Follow 0 ps) where
  -- control goes back only to steps
  abbrev pub GoesBack : Type 0
  GoesBack = (p q : Place) (w : Way) → IsIn p ps → IsIn q ps → IsIn w (named_ways p) → w.index ≡ q.index → w.index ≤ p.index → IsTrue (is_step q.instruction)

  there : (n : ℕ) (mixed : List ℕ) → IsIn n mixed → any_pass (nat_eq n) mixed ≡ true
  there n mixed i = (member-decides nat_eq numbers-decide n mixed).1 i

  -- where each action comes at once, the pass finds no other
  pub pass-complete : ((p : Place) → IsIn p ps → ActsAtOnce table ps p) → (n : ℕ) (rest : List Place) → Follow n rest → ((p : Place) → IsIn p rest → IsIn p ps) → (alone : Bool) (mixed : List ℕ)
      → (alone ≡ true → ComesFromStep table ps true n) → ((m : ℕ) → IsIn m mixed → ComesFromStep table ps false m) → IsTrue (acts_at_once_from table alone mixed rest)
  pass-complete acts n [] f sub alone mixed a x = refl
  pass-complete acts n (p ∷ rest) f sub alone mixed a x = by (role_of table p.instruction) (role-is table p.instruction) (pass-complete acts (suc n) rest f.1 (λ q i. sub q (inr i)))
    where
      here : IsIn p ps
      here = sub p (inl refl)

      at : {b : Bool} → ComesFromStep table ps b n → ComesFromStep table ps b p.index
      at {b} c = subst (ComesFromStep table ps b) (sym f.0) c

      behind : {b : Bool} → ComesFromStep table ps b (suc p.index) → ComesFromStep table ps b (suc n)
      behind {b} c = subst (λ k. ComesFromStep table ps b (suc k)) f.0 c

      mixed_here : any_pass (nat_eq p.index) mixed ≡ true → ComesFromStep table ps false p.index
      mixed_here h = x p.index ((member-decides nat_eq numbers-decide p.index mixed).0 h)

      next_mixed : (b : Bool) → any_pass (nat_eq p.index) mixed ≡ b → IsTrue (is_operand p.instruction) → (m : ℕ) → IsIn m (cond b (suc p.index ∷ mixed) mixed) → ComesFromStep table ps false m
      next_mixed true e o m (inl k) = subst (ComesFromStep table ps false) (sym k) (past_operand p false here o (mixed_here e))
      next_mixed true e o m (inr i) = x m i
      next_mixed false e o m i = x m i

      from_other : (b : Bool) → (alone || any_pass (nat_eq p.index) mixed) ≡ b → IsTrue (is_other table p.instruction) → (m : ℕ) → IsIn m (cond b (map (λ (w : Way). w.index) (ways p) ++ mixed) mixed) → ComesFromStep table ps false m
      from_other false e o m i = x m i
      from_other true e o m i = both (in-append_cases m (map (λ (w : Way). w.index) (ways p)) mixed i)
        where
          past : (w : Way) → IsIn w (ways p) → alone ≡ true ⊎ any_pass (nat_eq p.index) mixed ≡ true → ComesFromStep table ps false w.index
          past w j (inl k) = past_other p true w here o (at (a k)) j
          past w j (inr k) = past_other p false w here o (mixed_here k) j

          both : IsIn m (map (λ (w : Way). w.index) (ways p)) ⊎ IsIn m mixed → ComesFromStep table ps false m
          both (inl j) = let r = in-map_from (λ (w : Way). w.index) m (ways p) j in subst (ComesFromStep table ps false) (sym r.2) (past r.0 r.1 (or-either alone _ e))
          both (inr j) = x m j

      unmixed : IsTrue (is_action table p.instruction) → (b : Bool) → any_pass (nat_eq p.index) mixed ≡ b → IsTrue (not b)
      unmixed k true e = absurd (acts p here k (mixed_here e))
      unmixed k false e = refl

      by : (r : Role) → IsRole table p.instruction r
          → ((alone : Bool) (mixed : List ℕ) → (alone ≡ true → ComesFromStep table ps true (suc n)) → ((m : ℕ) → IsIn m mixed → ComesFromStep table ps false m) → IsTrue (acts_at_once_from table alone mixed rest))
          → IsTrue (elim r [
            | a_step ↦ acts_at_once_from table true mixed rest
            | an_operand ↦ acts_at_once_from table alone (cond (any_pass (nat_eq p.index) mixed) (suc p.index ∷ mixed) mixed) rest
            | an_action ↦ not (any_pass (nat_eq p.index) mixed) && acts_at_once_from table false mixed rest
            | another ↦ acts_at_once_from table false (cond (alone || any_pass (nat_eq p.index) mixed) (map (λ (w : Way). w.index) (ways p) ++ mixed) mixed) rest
          ])
      by a_step k again = again true mixed (λ e. behind (from_step p here k)) x
      by an_operand k again = again alone _ (λ e. behind (past_operand p true here k (at (a e)))) (next_mixed _ refl k)
      by an_action k again = both-and _ _ (unmixed k.0 _ refl) (again false mixed (λ e. absurd (true≢false (sym e))) x)
      by another k again = again false _ (λ e. absurd (true≢false (sym e))) (from_other _ refl k)

  -- what the places before an index hand on to it, and to those behind it
  pub record HandedOn (n : ℕ) (alone : Bool) (mixed : List ℕ) : Type 0 where
    pub by_step : (p : Place) → IsIn p ps → suc p.index ≡ n → IsTrue (is_step p.instruction) → alone ≡ true
    pub by_operand : (p : Place) → IsIn p ps → suc p.index ≡ n → IsTrue (is_operand p.instruction) → ComesFromStep table ps true p.index → alone ≡ true
    pub by_operand_mixed : (p : Place) → IsIn p ps → suc p.index ≡ n → IsTrue (is_operand p.instruction) → ComesFromStep table ps false p.index → IsIn n mixed
    pub by_other : (p : Place) (b : Bool) (w : Way) → IsIn p ps → p.index < n → IsTrue (is_other table p.instruction) → ComesFromStep table ps b p.index → IsIn w (ways p) → n ≤ w.index → IsIn w.index mixed

  -- a way that leads on leads to the next index
  goes_on-next : (p : Place) (w : Way) → IsIn w (ways p) → (w.index ≡ suc p.index) ⊎ IsIn w (named_ways p)
  goes_on-next p w i = by (in-append_cases w _ (named_ways p) i)
    where
      by : IsIn w (map (λ o. record { outcome = o; index = suc p.index }) (list_of (λ o. o ∷ []) (goes_on p.instruction))) ⊎ IsIn w (named_ways p) → (w.index ≡ suc p.index) ⊎ IsIn w (named_ways p)
      by (inl j) = let r = in-map_from (λ o. record { outcome = o; index = suc p.index }) w _ j in inl (ap (λ (v : Way). v.index) r.2)
      by (inr j) = inr j

  module _ (back : GoesBack) where
    -- at a place that is no step, what comes there was handed on
    came : (n : ℕ) (alone : Bool) (mixed : List ℕ) → HandedOn n alone mixed → (q : Place) → IsIn q ps → q.index ≡ n → is_step q.instruction ≡ false → (b : Bool) (k : ℕ) → k ≡ n → ComesFromStep table ps b k → (b ≡ true → alone ≡ true) × (b ≡ false → IsIn n mixed)
    came n alone mixed h q j e s b k l (from_step p i t) = (λ x. h.by_step p i l t, λ x. absurd (true≢false x))
    came n alone mixed h q j e s b k l (past_operand p true i o c) = (λ x. h.by_operand p i l o c, λ x. absurd (true≢false x))
    came n alone mixed h q j e s b k l (past_operand p false i o c) = (λ x. absurd (true≢false (sym x)), λ x. h.by_operand_mixed p i l o c)
    came n alone mixed h q j e s b k l (past_other p a w i o c v) = (λ x. absurd (true≢false (sym x)), λ x. by (nat_lt p.index n) refl)
      where
        by : (t : Bool) → nat_lt p.index n ≡ t → IsIn n mixed
        by true t = subst (λ m. IsIn m mixed) l (h.by_other p a w i (ltb-true p.index n t) o c v (omega (arith, l)))
        by false t = absurd (on (goes_on-next p w v))
          where
            not_below : p.index < n → ⊥
            not_below z = true≢false (sym (lt-ltb p.index n z) ∙ t)

            on : (w.index ≡ suc p.index) ⊎ IsIn w (named_ways p) → ⊥
            on (inl z) = not_below (omega (arith, z, l))
            on (inr z) = true≢false (sym (back p q w i j z (l ∙ sym e) (omega (arith, l, not_below))) ∙ s)

    -- one place more hands on
    module _ (n : ℕ) (alone : Bool) (mixed : List ℕ) (h : HandedOn n alone mixed) (q : Place) (j : IsIn q ps) (e : q.index ≡ n) where
      at_next : (P : Place → Type 0) → (p : Place) → IsIn p ps → suc p.index ≡ suc n → P p → P q
      at_next P p i l x = subst P (follow-one ps follow p q i j (omega (arith, l, e))) x

      next : (alone′ : Bool) (mixed′ : List ℕ) → ((m : ℕ) → IsIn m mixed → IsIn m mixed′) → (IsTrue (is_step q.instruction) → alone′ ≡ true)
          → (IsTrue (is_operand q.instruction) → ComesFromStep table ps true q.index → alone′ ≡ true) → (IsTrue (is_operand q.instruction) → ComesFromStep table ps false q.index → IsIn (suc n) mixed′)
          → ((b : Bool) (w : Way) → IsTrue (is_other table q.instruction) → ComesFromStep table ps b q.index → IsIn w (ways q) → IsIn w.index mixed′) → HandedOn (suc n) alone′ mixed′
      next alone′ mixed′ more s o x w = record {
        by_step = λ p i l t. s (at_next (λ r. IsTrue (is_step r.instruction)) p i l t);
        by_operand = λ p i l t c. o (at_next (λ r. IsTrue (is_operand r.instruction)) p i l t) (at_next (λ r. ComesFromStep table ps true r.index) p i l c);
        by_operand_mixed = λ p i l t c. x (at_next (λ r. IsTrue (is_operand r.instruction)) p i l t) (at_next (λ r. ComesFromStep table ps false r.index) p i l c);
        by_other = λ p b v i l t c k u. by p b v i l t c k u (nat_lt p.index n) refl;
      }
        where
          by : (p : Place) (b : Bool) (v : Way) → IsIn p ps → p.index < suc n → IsTrue (is_other table p.instruction) → ComesFromStep table ps b p.index → IsIn v (ways p) → suc n ≤ v.index → (t : Bool) → nat_lt p.index n ≡ t → IsIn v.index mixed′
          by p b v i l t c k u true y = more v.index (h.by_other p b v i (ltb-true p.index n y) t c k (omega (arith, u)))
          by p b v i l t c k u false y =
              let not_below : p.index < n → ⊥ = λ z. true≢false (sym (lt-ltb p.index n z) ∙ y) in
              let last : suc p.index ≡ suc n = omega (arith, l, not_below) in
              w b v (at_next (λ r. IsTrue (is_other table r.instruction)) p i last t) (at_next (λ r. ComesFromStep table ps b r.index) p i last c) (at_next (λ r. IsIn v (ways r)) p i last k)

    -- where the pass finds no other, each action comes at once
    pub pass-sound : (rest : List Place) (n : ℕ) → Follow n rest → ((p : Place) → IsIn p rest → IsIn p ps) → (alone : Bool) (mixed : List ℕ) → HandedOn n alone mixed → IsTrue (acts_at_once_from table alone mixed rest) → (p : Place) → IsIn p rest → ActsAtOnce table ps p
    pass-sound [] n f sub alone mixed h t p i = absurd i
    pass-sound (q ∷ rest) n f sub alone mixed h t p i = by (role_of table q.instruction) (role-is table q.instruction) (pass-sound rest (suc n) f.1 (λ r j. sub r (inr j))) t i
      where
        here : IsIn q ps
        here = sub q (inl refl)

        came_here : is_step q.instruction ≡ false → (b : Bool) → ComesFromStep table ps b q.index → (b ≡ true → alone ≡ true) × (b ≡ false → IsIn n mixed)
        came_here s b c = came n alone mixed h q here f.0 s b q.index f.0 c

        mixed_here : IsIn n mixed → any_pass (nat_eq q.index) mixed ≡ true
        mixed_here k = there q.index mixed (subst (λ m. IsIn m mixed) (sym f.0) k)

        more_operand : (b : Bool) (m : ℕ) → IsIn m mixed → IsIn m (cond b (suc q.index ∷ mixed) mixed)
        more_operand true m k = inr k
        more_operand false m k = k

        more_other : (b : Bool) (m : ℕ) → IsIn m mixed → IsIn m (cond b (map (λ (w : Way). w.index) (ways q) ++ mixed) mixed)
        more_other true m k = in-append_right m (map (λ (w : Way). w.index) (ways q)) mixed k
        more_other false m k = k

        first_operand : (b : Bool) → b ≡ true → IsIn (suc n) (cond b (suc q.index ∷ mixed) mixed)
        first_operand true e = inl (ap suc (sym f.0))
        first_operand false e = absurd (true≢false (sym e))

        first_other : (w : Way) → IsIn w (ways q) → (b : Bool) → b ≡ true → IsIn w.index (cond b (map (λ (w : Way). w.index) (ways q) ++ mixed) mixed)
        first_other w k true e = in-append_left w.index _ mixed (in-map (λ (v : Way). v.index) w (ways q) k)
        first_other w k false e = absurd (true≢false (sym e))

        comes : IsTrue (is_other table q.instruction) → (b : Bool) → ComesFromStep table ps b q.index → (alone || any_pass (nat_eq q.index) mixed) ≡ true
        comes o true c = or-left alone _ ((came_here (other-no_step table q.instruction o) true c).0 refl)
        comes o false c = or-right alone _ (mixed_here ((came_here (other-no_step table q.instruction o) false c).1 refl))

        no_action : is_action table q.instruction ≡ false → ActsAtOnce table ps q
        no_action e a c = differ _ a e

        either : (p : Place) → IsIn p (q ∷ rest) → ActsAtOnce table ps q → ((r : Place) → IsIn r rest → ActsAtOnce table ps r) → ActsAtOnce table ps p
        either p (inl e) x y = subst (ActsAtOnce table ps) (sym e) x
        either p (inr j) x y = y p j

        by : (r : Role) → IsRole table q.instruction r
            → ((alone : Bool) (mixed : List ℕ) → HandedOn (suc n) alone mixed → IsTrue (acts_at_once_from table alone mixed rest) → (r : Place) → IsIn r rest → ActsAtOnce table ps r)
            → IsTrue (elim r [
              | a_step ↦ acts_at_once_from table true mixed rest
              | an_operand ↦ acts_at_once_from table alone (cond (any_pass (nat_eq q.index) mixed) (suc q.index ∷ mixed) mixed) rest
              | an_action ↦ not (any_pass (nat_eq q.index) mixed) && acts_at_once_from table false mixed rest
              | another ↦ acts_at_once_from table false (cond (alone || any_pass (nat_eq q.index) mixed) (map (λ (w : Way). w.index) (ways q) ++ mixed) mixed) rest
            ]) → IsIn p (q ∷ rest) → ActsAtOnce table ps p
        by a_step s again t i =
            either p i (no_action (step-no_action table q.instruction s))
            (again true mixed
            (next n alone mixed h q here f.0 true mixed (λ m k. k) (λ z. refl) (λ z c. refl) (λ z c. differ _ s (operand-no_step q.instruction z)) (λ b w z c k. differ _ s (other-no_step table q.instruction z))) t)
        by an_operand o again t i =
            either p i (no_action (operand-no_action table q.instruction o))
            (again alone _
            (next n alone mixed h q here f.0 alone _ (more_operand _) (λ z. differ _ z (operand-no_step q.instruction o)) (λ z c. (came_here (operand-no_step q.instruction o) true c).0 refl)
            (λ z c. first_operand _ (mixed_here ((came_here (operand-no_step q.instruction o) false c).1 refl))) (λ b w z c k. differ _ o (other-no_operand table q.instruction z))) t)
        by an_action a again t i =
            let both = and-both (not (any_pass (nat_eq q.index) mixed)) _ t in
            either p i (λ z c. not_true (subst (λ b. IsTrue (not b)) (mixed_here ((came_here a.1 false c).1 refl)) both.0))
            (again false mixed
            (next n alone mixed h q here f.0 false mixed (λ m k. k) (λ z. differ _ z a.1) (λ z c. differ _ a.0 (operand-no_action table q.instruction z)) (λ z c. differ _ a.0 (operand-no_action table q.instruction z)) (λ b w z c k. differ _ a.0 (other-no_action table q.instruction z))) both.1)
        by another o again t i =
            either p i (no_action (other-no_action table q.instruction o))
            (again false _
            (next n alone mixed h q here f.0 false _ (more_other _) (λ z. differ _ z (other-no_step table q.instruction o)) (λ z c. differ _ z (other-no_operand table q.instruction o)) (λ z c. differ _ z (other-no_operand table q.instruction o))
            (λ b w z c k. first_other w k _ (comes o b c))) t)
