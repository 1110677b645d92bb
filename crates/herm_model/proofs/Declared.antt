-- The facts at which messages travel are closed.
use Rattle.std.proofs.Common.{◌⊎◌, inl, inr, ℕ, List, [], ◌∷◌, flat_map, IsTrue, refl, sym, subst}
use Rattle.herm_model.specs.Lists.{IsIn}
use Rattle.herm_model.specs.Paths.{Fact, init}
use Rattle.herm_model.specs.Types.{TypeTable, is_within_depth, greatest_depth, full_parts, part_paths}
use Rattle.herm_model.specs.Facts.{facts_to, prefixes, with_prefixes, IsClosed, full_facts, message_facts}
use Rattle.herm_model.proofs.Lists.{in-map, in-flat_map, in-flat_map_from}
use Rattle.herm_model.proofs.Steps.{full-named, steps-listed, within-known}
use Rattle.herm_model.proofs.Prefixes.{with-closed, full-closed}
use Rattle.herm_model.proofs.ClosedFacts.{once-IsIn, IsIn-once}

module _ (table : TypeTable) (message : ℕ) where
  root-full : IsTrue (is_within_depth greatest_depth table message) → IsIn (init (0 ∷ [])) (full_facts table message (0 ∷ []))
  root-full w = in-map (λ q. init (0 ∷ q)) [] (part_paths full_parts table message) (steps-listed full_parts table full-named greatest_depth message w [] (within-known table greatest_depth message w))

  pub message-closed : (fs : List Fact) → IsTrue (is_within_depth greatest_depth table message) → IsClosed table (message ∷ []) (λ f. IsIn f (message_facts table message fs))
  message-closed [] w f g h k = by (full-closed table (message ∷ []) (0 ∷ []) message refl refl w f g (inr h) k)
    where
      by : IsIn g (facts_to table (message ∷ []) (0 ∷ [])) ⊎ IsIn g (full_facts table message (0 ∷ [])) → IsIn g (full_facts table message (0 ∷ []))
      by (inl (inl e)) = subst (λ x. IsIn x (full_facts table message (0 ∷ []))) (sym e) (root-full w)
      by (inl (inr b)) = absurd b
      by (inr b) = b
  message-closed (x ∷ xs) w f g h k = by (once-IsIn f (init (0 ∷ []) ∷ flat_map (with_prefixes table (message ∷ [])) (x ∷ xs)) h)
    where
      by : IsIn f (init (0 ∷ []) ∷ flat_map (with_prefixes table (message ∷ [])) (x ∷ xs)) → IsIn g (message_facts table message (x ∷ xs))
      by (inl e) = absurd (subst (λ y. IsIn g (prefixes table (message ∷ []) y)) e k)
      by (inr b) =
          let r = in-flat_map_from (with_prefixes table (message ∷ [])) f (x ∷ xs) b in
          IsIn-once g (init (0 ∷ []) ∷ flat_map (with_prefixes table (message ∷ [])) (x ∷ xs)) (inr (in-flat_map (with_prefixes table (message ∷ [])) r.0 g (x ∷ xs) r.1 (with-closed table (message ∷ []) r.0 f g r.2 k)))
