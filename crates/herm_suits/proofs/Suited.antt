-- The test of messages decides which they are, over every table that keeps the rules of definitions.
use Rattle.std.proofs.Common.{◌≡◌, ◌↔◌, ℕ, zero, suc, List, [], ◌∷◌, map, Bool, inl, Option, Some, None, slice_get, option_and_then, IsTrue, refl, sym, ap, subst, ◌∙◌}
use Rattle.herm_model.specs.Lists.{IsIn, map_or, list_of}
use Rattle.herm_model.specs.Paths.{Path, Fact, init, case}
use Rattle.herm_model.specs.Types.{Shape, boolean, integer, text, polymorph, names, fields, cases, rows, inport, outport, callmessage, TypeTable, IsPartPath, is_within_depth, greatest_depth, full_parts, part_paths}
use Rattle.herm_model.specs.Calls.{message_type}
use Rattle.herm_model.specs.Facts.{full_facts, said_at, message_facts, message_of}
use Rattle.herm_model.specs.Values.{Cell, no_parts, part, has_value}
use Rattle.herm_model.specs.FactsOfValues.{HasExactly}
use Rattle.herm_model.specs.Typed.{whole, partly, IsOf}
use Rattle.herm_model.specs.WellFormedTables.{IsWellFormedTable}
use Rattle.herm_journal.specs.Messages.{OfType, IsMessage}
use Rattle.herm_model.proofs.Lists.{not_true, and-both, both-and, in-map, in-map_from}
use Rattle.herm_model.proofs.NothingThere.{nothing-there}
use Rattle.herm_model.proofs.Steps.{full-named, steps-lead, steps-listed}
use Rattle.herm_model.proofs.Typing.{full-typed}
use Rattle.herm_model.proofs.FullFacts.{full-leads, leads-full, exact-full}
use Rattle.herm_suits.specs.Decided.{is_of}
use Rattle.herm_suits.specs.Exact.{is_exact, is_message_of, is_of_port, is_message}
use Rattle.herm_suits.proofs.Decides.{decided-of, of-decided}
use Rattle.herm_suits.proofs.Exactly.{tested, testing}

module _ {N : Type 0} (table : TypeTable) where
  -- full messages
  module _ (t : ℕ) (within : IsTrue (is_within_depth greatest_depth table t)) (c : Cell N) where
    abbrev Full : Fact → Type 0
    Full g = IsIn g (map (said_at (0 ∷ [])) (full_facts table t (0 ∷ [])))

    listed-full : (q : List ℕ) → IsPartPath full_parts table t q → Full (init (0 ∷ q))
    listed-full q h = in-map (said_at (0 ∷ [])) (init (0 ∷ q)) (full_facts table t (0 ∷ [])) (in-map (λ q. init (0 ∷ q)) q (part_paths full_parts table t) (steps-listed full_parts table full-named greatest_depth t within q h))

    full-listed : (g : Fact) → Full g → (q : List ℕ) × IsPartPath full_parts table t q × (g ≡ init (0 ∷ q))
    full-listed g h =
        let r = in-map_from (said_at (0 ∷ [])) g (full_facts table t (0 ∷ [])) h in
        let s = in-map_from (λ q. init (0 ∷ q)) r.0 (part_paths full_parts table t) r.1 in
        (s.0, steps-lead full_parts table greatest_depth t s.0 s.1, r.2 ∙ ap (said_at (0 ∷ [])) s.2)

    value-full : IsOf whole table t c → (p : Path) → IsTrue (has_value (part c no_parts) p) → Full (init p)
    value-full h [] v = not_true v
    value-full h (zero ∷ q) v = listed-full q (full-leads table q t c h v)
    value-full h (suc i ∷ []) v = not_true v
    value-full h (suc i ∷ j ∷ q) v = not_true (sym (nothing-there N (j ∷ q)) ∙ v)

    full-value : IsOf whole table t c → (p : Path) → Full (init p) → IsTrue (has_value (part c no_parts) p)
    full-value h p i = let r = full-listed (init p) i in let e : p ≡ 0 ∷ r.0 = cc in subst (λ p. IsTrue (has_value (part c no_parts) p)) (sym e) (leads-full table r.0 t c h r.1)

    no-case : {A : Type 0} (p : Path) (d : ℕ) → Full (case p d) → A
    no-case p d h = let r = full-listed (case p d) h in cc

    full-has : IsOf whole table t c → IsOf partly table t c × HasExactly (part c no_parts) Full
    full-has h = (full-typed table t c h, record { values = λ p. (value-full h p, full-value h p); components = λ p d i. no-case p d i })

    has-leads : HasExactly (part c no_parts) Full → (q : List ℕ) → IsTrue (has_value (part c no_parts) (0 ∷ q)) → IsPartPath full_parts table t q
    has-leads has q v = let r = full-listed (init (0 ∷ q)) ((has.values (0 ∷ q)).0 v) in let e : r.0 ≡ q = cc in subst (IsPartPath full_parts table t) e r.1

    has-full : IsOf partly table t c × HasExactly (part c no_parts) Full → IsOf whole table t c
    has-full h = exact-full table c greatest_depth t within h.0 (λ i q. (λ v. has-leads h.1 (i ∷ q) v, λ l. (h.1.values (0 ∷ i ∷ q)).1 (listed-full (i ∷ q) l)))

  module _ (exceptions : ℕ) (well : IsWellFormedTable exceptions table) (c : Cell N) where
    abbrev IsListed : ℕ → List Fact → Type 0
    IsListed t declared = IsOf partly table t c × HasExactly (part c no_parts) (λ f. IsIn f (map (said_at (0 ∷ [])) (message_facts table t declared)))

    message-within : (port t : ℕ) (declared : List Fact) → slice_get table port ≡ Some (inport t declared) → IsTrue (is_within_depth greatest_depth table t)
    message-within port t declared e = well.shallow t (well.types_known port (inport t declared) e t (inl refl))

    message-told : (port t : ℕ) (declared : List Fact) → slice_get table port ≡ Some (inport t declared) → IsTrue (is_message_of table t declared c) ↔ IsListed t declared
    message-told port t [] e = (λ h. full-has t (message-within port t [] e) c (decided-of table whole t c h), λ h. of-decided table whole t c (has-full t (message-within port t [] e) c h))
    message-told port t (f ∷ fs) e = (
      (λ h. let b = and-both (is_of partly table t c) (is_exact c (f ∷ fs)) h in (decided-of table partly t c b.0, tested table t f fs (well.facts_of_fields port (inport t (f ∷ fs)) e) c b.1)),
      (λ h. both-and (is_of partly table t c) (is_exact c (f ∷ fs)) (of-decided table partly t c h.0) (testing table t f fs (well.facts_of_fields port (inport t (f ∷ fs)) e) c h.1)),
    )

    abbrev IsAtShape : Option Shape → Type 0
    IsAtShape o = OfType table (option_and_then message_type o) c × HasExactly (part c no_parts) (λ f. IsIn f (map_or [] (λ s. list_of (λ m. map (said_at (0 ∷ [])) (message_facts table m.0 m.1)) (message_of s)) o))

    shape-told : (port : ℕ) (o : Option Shape) → slice_get table port ≡ o → IsTrue (is_of_port table o c) ↔ IsAtShape o
    shape-told port None e = (λ h. not_true h, λ h. absurd h.0)
    shape-told port (Some boolean) e = (λ h. not_true h, λ h. absurd h.0)
    shape-told port (Some integer) e = (λ h. not_true h, λ h. absurd h.0)
    shape-told port (Some text) e = (λ h. not_true h, λ h. absurd h.0)
    shape-told port (Some polymorph) e = (λ h. not_true h, λ h. absurd h.0)
    shape-told port (Some (names n)) e = (λ h. not_true h, λ h. absurd h.0)
    shape-told port (Some (fields ts)) e = (λ h. not_true h, λ h. absurd h.0)
    shape-told port (Some (cases ts)) e = (λ h. not_true h, λ h. absurd h.0)
    shape-told port (Some (rows r k)) e = (λ h. not_true h, λ h. absurd h.0)
    shape-told port (Some (inport t declared)) e = message-told port t declared e
    shape-told port (Some (outport p)) e = (λ h. not_true h, λ h. absurd h.0)
    shape-told port (Some (callmessage ps rs)) e = (λ h. not_true h, λ h. absurd h.0)

    pub messages : (port : ℕ) (b : Bool) → b ≡ is_message table port c → IsTrue b ↔ IsMessage table port c
    messages port b e = let r = shape-told port (slice_get table port) refl in (λ h. r.0 (sym e ∙ h), λ h. e ∙ r.1 h)
