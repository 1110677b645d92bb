-- What is known of the statements of a part of the text is known of those of its parts.
use Rattle.std.proofs.Common.{◌≡◌, ℕ, zero, suc, ◌<◌, List, [], ◌∷◌, ◌++◌, map, flat_map, length, get_or, Vec, Global, Bor, refl, subst, arith, inl, inr}
use Rattle.herm_base.specs.declared.numbers.ExcNo.{ExcNo}
use Rattle.herm_model.specs.Lists.{IsIn}
use Rattle.herm_model.proofs.Lists.{in-append_left, in-append_right}
use Rattle.herm_model.specs.Types.{TypeTable}
use Rattle.herm_typed.specs.declared.statements.TypedStmt.{TypedStmt}
use Rattle.herm_typed.specs.Within.{statements_within, all_statements}
use Rattle.herm_typed.specs.Outcomes.{KnowsOutcomes}
use Rattle.herm_flow.specs.KnownOutcomes.{AllKnow}

in-item : (list : List TypedStmt) (i : ℕ) (d t : TypedStmt) → i < length list → IsIn t (get_or list i d ∷ statements_within (get_or list i d).form) → IsIn t (all_statements list)
in-item [] i d t l h = absurd (let n : ⊥ = omega (arith, l) in n)
in-item (s ∷ list) zero d t l h = in-append_left t (s ∷ statements_within s.form) (all_statements list) h
in-item (s ∷ list) (suc i) d t l h = in-append_right t (s ∷ statements_within s.form) (all_statements list) (in-item list i d t (omega (arith, l)) h)

in-block : (blocks : List (Bor (List TypedStmt))) (i : ℕ) (d : Bor (List TypedStmt)) (t : TypedStmt) → i < length blocks → IsIn t (all_statements (get_or blocks i d).now) → IsIn t (flat_map all_statements (map (λ b. b.now) blocks))
in-block [] i d t l h = absurd (let n : ⊥ = omega (arith, l) in n)
in-block (b ∷ blocks) zero d t l h = in-append_left t (all_statements b.now) (flat_map all_statements (map (λ b. b.now) blocks)) h
in-block (b ∷ blocks) (suc i) d t l h = in-append_right t (all_statements b.now) (flat_map all_statements (map (λ b. b.now) blocks)) (in-block blocks i d t (omega (arith, l)) h)

in-handler : (handled : List (ExcNo × Vec TypedStmt Global)) (i : ℕ) (d : ExcNo × Vec TypedStmt Global) (t : TypedStmt) → i < length handled → IsIn t (all_statements (get_or handled i d).1.items) → IsIn t (flat_map (λ h. all_statements h.1.items) handled)
in-handler [] i d t l h = absurd (let n : ⊥ = omega (arith, l) in n)
in-handler (b ∷ handled) zero d t l h = in-append_left t (all_statements b.1.items) (flat_map (λ h. all_statements h.1.items) handled) h
in-handler (b ∷ handled) (suc i) d t l h = in-append_right t (all_statements b.1.items) (flat_map (λ h. all_statements h.1.items) handled) (in-handler handled i d t (omega (arith, l)) h)

module _ (table : TypeTable) (variables : List ℕ) where
  pub item_known : (list : List TypedStmt) (i : ℕ) (s : TypedStmt) → i < length list → s ≡ get_or list i s → AllKnow table variables (all_statements list) → AllKnow table variables (s ∷ statements_within s.form)
  item_known list i s l e k = λ t h. k t (in-item list i s t l (subst (λ (x : TypedStmt). IsIn t (x ∷ statements_within x.form)) e h))

  pub block_known : (blocks : List (Bor (List TypedStmt))) (i : ℕ) (b : Bor (List TypedStmt)) → i < length blocks → b ≡ get_or blocks i b → AllKnow table variables (flat_map all_statements (map (λ b. b.now) blocks)) → AllKnow table variables (all_statements b.now)
  block_known blocks i b l e k = λ t h. k t (in-block blocks i b t l (subst (λ (x : Bor (List TypedStmt)). IsIn t (all_statements x.now)) e h))

  pub handler_known : (handled : List (ExcNo × Vec TypedStmt Global)) (i : ℕ) (b : ExcNo × Vec TypedStmt Global) (list : List TypedStmt) → i < length handled → b ≡ get_or handled i b → list ≡ b.1.items → AllKnow table variables (flat_map (λ h. all_statements h.1.items) handled) → AllKnow table variables (all_statements list)
  handler_known handled i b list l e f k = λ t h. k t (in-handler handled i b t l (subst (λ (x : ExcNo × Vec TypedStmt Global). IsIn t (all_statements x.1.items)) e (subst (λ x. IsIn t (all_statements x)) f h)))

  pub first_known : (s : TypedStmt) (ts : List TypedStmt) → AllKnow table variables (s ∷ ts) → KnowsOutcomes table variables s.form
  first_known s ts k = k s (inl refl)

  pub rest_known : (s : TypedStmt) (ts : List TypedStmt) → AllKnow table variables (s ∷ ts) → AllKnow table variables ts
  rest_known s ts k = λ t h. k t (inr h)

  pub left_known : (ts us : List TypedStmt) → AllKnow table variables (ts ++ us) → AllKnow table variables ts
  left_known ts us k = λ t h. k t (in-append_left t ts us h)

  pub right_known : (ts us : List TypedStmt) → AllKnow table variables (ts ++ us) → AllKnow table variables us
  right_known ts us k = λ t h. k t (in-append_right t ts us h)

  pub same_known : (s : TypedStmt) (ts us : List TypedStmt) → ts ≡ us → AllKnow table variables (s ∷ ts) → AllKnow table variables (s ∷ us)
  same_known s ts us e k = subst (λ xs. AllKnow table variables (s ∷ xs)) e k
