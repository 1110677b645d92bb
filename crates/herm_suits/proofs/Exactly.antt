-- Where facts are listed, the test of a message's values decides that they stand exactly where the facts tell of them.
use Rattle.std.proofs.Common.{◌≡◌, ℕ, zero, suc, List, [], ◌∷◌, map, inl, inr, Option, Some, None, is_some, nat_eq, IsTrue, refl, sym, ap, subst, ◌∙◌, arith}
use Rattle.std.proofs.lemmas.Bool.Decides.{nat_tests}
use Rattle.herm_model.specs.Lists.{IsIn, all_pass}
use Rattle.herm_model.specs.Paths.{Path, Fact, init, case, is_at_or_below}
use Rattle.herm_model.specs.Types.{inport, TypeTable}
use Rattle.herm_model.specs.Values.{a_scalar, a_record, a_variant, a_table, a_polymorph, a_callmessage, an_inport, an_outport, Cell, cell, Parts, no_parts, part, part_at, inside, cell_at, has_value, readable_of, read_at}
use Rattle.herm_model.specs.Facts.{said_at, message_facts}
use Rattle.herm_model.specs.FactsOfValues.{is_component, satisfies, HasExactly}
use Rattle.herm_model.specs.WellFormedTables.{DeclaresFields}
use Rattle.herm_model.proofs.Lists.{not_true, and-both, both-and, every-in, in-every}
use Rattle.herm_model.proofs.NothingThere.{nothing-there}
use Rattle.herm_suits.specs.Exact.{steps, steps_of, is_on_way, is_within, is_met, is_exact}
use Rattle.herm_suits.proofs.Ways.{any-in, in-any, within-on, on-within}
use Rattle.herm_suits.proofs.Listed.{way-itself, listed-plain, Known, travels-known, way-travels, listed-travels}

same-number : (i j : ℕ) → IsTrue (nat_eq i j) → j ≡ i
same-number i j h = grind (arith, nat_tests)

module _ {N : Type 0} where
  first-some : (v : ℕ) (w : List ℕ) (ps : Parts N) → IsTrue (has_value ps (v ∷ w)) → IsTrue (is_some (part_at v ps))
  first-some v [] ps h = h
  first-some v (j ∷ w) ps h = by (part_at v ps) h
    where
      by : (o : Option (Cell N)) → IsTrue (has_value (inside o) (j ∷ w)) → IsTrue (is_some o)
      by None h = not_true (sym (nothing-there N (j ∷ w)) ∙ h)
      by (Some c) h = refl

  -- where there is a value there is one at each path before
  above-there : (v : ℕ) (r w : List ℕ) (ps : Parts N) → IsTrue (is_at_or_below r w) → IsTrue (has_value ps (v ∷ w)) → IsTrue (has_value ps (v ∷ r))
  above-there v [] w ps b h = first-some v w ps h
  above-there v (i ∷ r) [] ps b h = not_true b
  above-there v (i ∷ r) (j ∷ w) ps b h =
      let e = and-both (nat_eq i j) (is_at_or_below r w) b in
      above-there i r w (inside (part_at v ps)) e.1 (subst (λ n. IsTrue (has_value (inside (part_at v ps)) (n ∷ w))) (same-number i j e.0) h)

  -- what is reached through records and callmessages alone is read there too
  inside-readable : (o : Option (Cell N)) (i : ℕ) (c : Cell N) → part_at i (inside o) ≡ Some c → part_at i (readable_of o) ≡ Some c
  inside-readable None i c h = h
  inside-readable (Some (cell n (a_scalar s) ps)) i c h = h
  inside-readable (Some (cell n a_record ps)) i c h = h
  inside-readable (Some (cell n (a_variant d) ps)) i c h = cc
  inside-readable (Some (cell n a_table ps)) i c h = h
  inside-readable (Some (cell n (a_polymorph t) ps)) i c h = h
  inside-readable (Some (cell n (a_callmessage caller call) ps)) i c h = h
  inside-readable (Some (cell n (an_inport p) ps)) i c h = h
  inside-readable (Some (cell n (an_outport p) ps)) i c h = h

  there-read : (i : ℕ) (p : List ℕ) (ps qs : Parts N) → ((c : Cell N) → part_at i ps ≡ Some c → part_at i qs ≡ Some c) → IsTrue (is_some (cell_at (i ∷ p) ps)) → cell_at (i ∷ p) ps ≡ read_at (i ∷ p) qs
  there-read i [] ps qs f h = by (part_at i ps) refl h
    where
      by : (o : Option (Cell N)) → part_at i ps ≡ o → IsTrue (is_some o) → o ≡ part_at i qs
      by None e h = not_true h
      by (Some c) e h = sym (f c e)
  there-read i (j ∷ p) ps qs f h = by (part_at i ps) refl h (λ o. there-read j p (inside o) (readable_of o) (λ c. inside-readable o j c))
    where
      by : (o : Option (Cell N)) → part_at i ps ≡ o → IsTrue (is_some (cell_at (j ∷ p) (inside o))) → ((o : Option (Cell N)) → IsTrue (is_some (cell_at (j ∷ p) (inside o))) → cell_at (j ∷ p) (inside o) ≡ read_at (j ∷ p) (readable_of o)) → cell_at (j ∷ p) (inside o) ≡ read_at (j ∷ p) (readable_of (part_at i qs))
      by None e h g = not_true (sym (nothing-there N (j ∷ p)) ∙ h)
      by (Some c) e h g = g (Some c) h ∙ ap (λ o. read_at (j ∷ p) (readable_of o)) (sym (f c e))

  pub is-read : (i : ℕ) (p : List ℕ) (ps : Parts N) → IsTrue (is_some (cell_at (i ∷ p) ps)) → cell_at (i ∷ p) ps ≡ read_at (i ∷ p) ps
  is-read i p ps h = there-read i p ps ps (λ c e. e) h

  component-there : (o : Option (Cell N)) (d : ℕ) → IsTrue (is_component o d) → IsTrue (is_some o)
  component-there None d h = h
  component-there (Some c) d h = refl

  met-there : (c : Cell N) (f : Fact) → IsTrue (is_met c f) → IsTrue (has_value (part c no_parts) (0 ∷ steps_of f))
  met-there c (init p) h = h
  met-there c (case p d) h = component-there (cell_at (0 ∷ steps p) (part c no_parts)) d h

  module _ (table : TypeTable) (message : ℕ) (f0 : Fact) (fs : List Fact) (declares : DeclaresFields table (inport message (f0 ∷ fs))) (c : Cell N) where
    abbrev All : List Fact
    All = f0 ∷ fs

    abbrev Travels : Fact → Type 0
    Travels g = IsIn g (map (said_at (0 ∷ [])) (message_facts table message All))

    on-travels : (r : List ℕ) → IsTrue (is_on_way All r) → Travels (init (0 ∷ r))
    on-travels r h = way-travels table message f0 fs declares r h

    -- the test passes
    module _ (exact : IsTrue (is_exact c All)) where
      met : (f : Fact) → IsIn f All → IsTrue (is_met c f)
      met f i = every-in (is_met c) f All (and-both (all_pass (is_met c) All) (is_within c All []) exact).0 i

      value-travels : (p : Path) → IsTrue (has_value (part c no_parts) p) → Travels (init p)
      value-travels [] v = not_true v
      value-travels (zero ∷ []) v = on-travels [] refl
      value-travels (zero ∷ i ∷ q) v = on-travels (i ∷ q) (within-on All c [] (and-both (all_pass (is_met c) All) (is_within c All []) exact).1 i q v)
      value-travels (suc i ∷ []) v = not_true v
      value-travels (suc i ∷ j ∷ q) v = not_true (sym (nothing-there N (j ∷ q)) ∙ v)

      on-value : (r : List ℕ) → IsTrue (is_on_way All r) → IsTrue (has_value (part c no_parts) (0 ∷ r))
      on-value r h = let f = any-in (λ f. is_at_or_below r (steps_of f)) All h in above-there 0 r (steps_of f.0) (part c no_parts) f.2 (met-there c f.0 (met f.0 f.1))

      travels-value : (p : Path) → Travels (init p) → IsTrue (has_value (part c no_parts) p)
      travels-value p h = by (travels-known table message f0 fs declares (init p) h)
        where
          by : Known table message f0 fs declares (init p) → IsTrue (has_value (part c no_parts) p)
          by (inl k) = let e : p ≡ 0 ∷ k.0 = cc in subst (λ p. IsTrue (has_value (part c no_parts) p)) (sym e) (on-value k.0 k.1)
          by (inr k) = absurd (k.2 p refl)

      case-holds : (p : Path) (d : ℕ) → IsIn (case p d) All → IsTrue (satisfies (part c no_parts) (case p d))
      case-holds p d i =
          let h = met (case p d) i in
          let e = is-read 0 (steps p) (part c no_parts) (component-there (cell_at (0 ∷ steps p) (part c no_parts)) d h) in
          subst (λ p. IsTrue (is_component (read_at p (part c no_parts)) d)) (sym (listed-plain table message f0 fs declares (case p d) i).from) (subst (λ o. IsTrue (is_component o d)) e h)

      component-holds : (p : Path) (d : ℕ) → Travels (case p d) → IsTrue (satisfies (part c no_parts) (case p d))
      component-holds p d h = by (travels-known table message f0 fs declares (case p d) h)
        where
          by : Known table message f0 fs declares (case p d) → IsTrue (satisfies (part c no_parts) (case p d))
          by (inl k) = cc
          by (inr k) = case-holds p d k.0

      pub tested : HasExactly (part c no_parts) Travels
      tested = record { values = λ p. (value-travels p, travels-value p); components = component-holds }

    -- and the other way
    module _ (has : HasExactly (part c no_parts) Travels) where
      listed-met : (f : Fact) → IsIn f All → IsTrue (is_met c f)
      listed-met (init p) i =
          let e = (listed-plain table message f0 fs declares (init p) i).from in
          subst (λ p. IsTrue (has_value (part c no_parts) p)) e ((has.values p).1 (listed-travels table message f0 fs declares (init p) i))
      listed-met (case p d) i =
          let e = (listed-plain table message f0 fs declares (case p d) i).from in
          let w = on-travels (steps p) (in-any (λ f. is_at_or_below (steps p) (steps_of f)) (case p d) All i (way-itself (steps p))) in
          let v = (has.values (0 ∷ steps p)).1 w in
          let s = has.components p d (listed-travels table message f0 fs declares (case p d) i) in
          subst (λ o. IsTrue (is_component o d)) (sym (is-read 0 (steps p) (part c no_parts) v)) (subst (λ p. IsTrue (is_component (read_at p (part c no_parts)) d)) e s)

      value-on : (i : ℕ) (q : List ℕ) → IsTrue (has_value (inside (Some c)) (i ∷ q)) → IsTrue (is_on_way All (i ∷ q))
      value-on i q v = by (travels-known table message f0 fs declares (init (0 ∷ i ∷ q)) ((has.values (0 ∷ i ∷ q)).0 v))
        where
          by : Known table message f0 fs declares (init (0 ∷ i ∷ q)) → IsTrue (is_on_way All (i ∷ q))
          by (inl k) = let e : k.0 ≡ i ∷ q = cc in subst (λ r. IsTrue (is_on_way All r)) e k.1
          by (inr k) = absurd (k.2 (0 ∷ i ∷ q) refl)

      pub testing : IsTrue (is_exact c All)
      testing = both-and (all_pass (is_met c) All) (is_within c All []) (in-every (is_met c) All listed-met) (on-within All c [] value-on)
