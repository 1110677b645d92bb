-- What is reached by all parts of copyable shapes is copyable.
use Rattle.std.proofs.Common.{◌≡◌, ℕ, Bool, false, ◌||◌, ◌⊎◌, inl, inr, ◌↔◌, List, [], ◌∷◌, map, Option, Some, None, slice_get, option_map, IsTrue, refl, sym, ◌∙◌, ap, subst, cond, true≢false}
use Rattle.std.proofs.lemmas.Option.{slice_get-map}
use Rattle.herm_model.specs.Lists.{IsIn, map_or}
use Rattle.herm_model.specs.Types.{TypeTable, Shape, fields, cases, rows, named_types}
use Rattle.herm_model.specs.Copyable.{is_plain, is_composed, IsCopyable, plain, composed}
use Rattle.herm_model.proofs.Lists.{or-either, or-left, or-right}
use Rattle.herm_types.specs.declared.shape.Shape.{Shape as Code}
use Rattle.herm_types.specs.View.{shape_view}
use Rattle.herm_types.specs.Table.{says}
use Rattle.herm_graph.specs.declared.graph.Rule.{Rule}
use Rattle.herm_graph.specs.declared.graph.Rule.TheVariants.{AnyOf, AllOf}
use Rattle.herm_graph.specs.Graph.{IsReached, at_goal, through, by_all}
use Rattle.herm_graph.specs.Links.{composed_types}

-- a plain shape has no parts
no-part : (s : Shape) → IsTrue (is_plain s) → (v : ℕ) → IsIn v (composed_types s) → ⊥
no-part (fields ts) p v i = true≢false (sym p)
no-part (cases ts) p v i = true≢false (sym p)
no-part (rows row key) p v i = true≢false (sym p)
no-part s p v i = i

module _ (table : TypeTable) where
  abbrev may : Shape → Bool
  may s = is_plain s || is_composed s

  abbrev goal : List Bool
  goal = map may table

  abbrev next : List (List ℕ)
  next = map composed_types table

  goal-at : (t : ℕ) → says goal t ≡ map_or false may (slice_get table t)
  goal-at t = rw (slice_get-map may table t) (by (slice_get table t))
    where
      by : (o : Option Shape) → map_or false (λ b. b) (option_map may o) ≡ map_or false may o
      by None = refl
      by (Some s) = refl

  next-at : (t : ℕ) (ns : List ℕ) (s : Shape) → slice_get table t ≡ Some s → slice_get next t ≡ Some ns → composed_types s ≡ ns
  next-at t ns s e n = some-inj (sym (ap (option_map composed_types) e) ∙ (sym (slice_get-map composed_types table t) ∙ n))
    where
      some-inj : {a b : List ℕ} → Some a ≡ Some b → a ≡ b
      some-inj h = cc

  pub is-copyable : (r : Rule) → r ≡ AllOf → (t : ℕ) → IsReached r goal next t → IsCopyable table t
  is-copyable r all t (at_goal t' v ns e n i g) = absurd (different (sym e ∙ all))
    where
      different : AnyOf ≡ AllOf → ⊥
      different h = absurd cc
  is-copyable r all t (through t' v ns e n i h) = absurd (different (sym e ∙ all))
    where
      different : AnyOf ≡ AllOf → ⊥
      different h = absurd cc
  is-copyable r all t (by_all t' ns e n g each) = by (slice_get table t) refl (sym (goal-at t) ∙ g) (λ v i. is-copyable r all v (each v i))
    where
      by : (o : Option Shape) → slice_get table t ≡ o → IsTrue (map_or false may o) → ((v : ℕ) → IsIn v ns → IsCopyable table v) → IsCopyable table t
      by None f h again = absurd (true≢false (sym h))
      by (Some s) f h again = either (or-either (is_plain s) (is_composed s) h)
        where
          either : IsTrue (is_plain s) ⊎ IsTrue (is_composed s) → IsCopyable table t
          either (inl p) = plain t s f p
          either (inr c) =
              let same : named_types s ≡ ns = sym (ap (λ b. cond b (named_types s) []) c) ∙ next-at t ns s f n in
              composed t s f c (λ u i. again u (subst (λ xs. IsIn u xs) same i))

  pub copyable-reached : (t : ℕ) → IsCopyable table t → IsReached AllOf goal next t
  copyable-reached t (plain t' s e p) = by_all t (composed_types s) refl (slice_get-map composed_types table t ∙ ap (option_map composed_types) e) (goal-at t ∙ (ap (map_or false may) e ∙ or-left (is_plain s) (is_composed s) p)) (λ v i. absurd (no-part s p v i))
  copyable-reached t (composed t' s e c each) = by_all t (composed_types s) refl (slice_get-map composed_types table t ∙ ap (option_map composed_types) e) (goal-at t ∙ (ap (map_or false may) e ∙ or-right (is_plain s) (is_composed s) c)) (λ v i. copyable-reached v (each v (subst (λ b. IsIn v (cond b (named_types s) [])) c i)))

map-map : {X Y Z : Type 0} (g : Y → Z) (f : X → Y) (xs : List X) → map (λ x. g (f x)) xs ≡ map g (map f xs)
map-map g f [] = refl
map-map g f (x ∷ xs) = ap (g (f x) ∷◌) (map-map g f xs)

-- what is found is what is copyable
pub copyable-exact : (shapes : List Code) (may-be tests : List Bool) (nexts : List (List ℕ)) → may-be ≡ map (λ s. is_plain (shape_view s) || is_composed (shape_view s)) shapes → nexts ≡ map composed_types (map shape_view shapes) → ((t : ℕ) → IsTrue (says tests t) ↔ IsReached AllOf may-be nexts t) → (t : ℕ) → IsTrue (says tests t) ↔ IsCopyable (map shape_view shapes) t
copyable-exact shapes may-be tests nexts m n r t =
    let table = map shape_view shapes in
    let m' : may-be ≡ goal table = m ∙ map-map (may table) shape_view shapes in (
      λ h. is-copyable table AllOf refl t (subst (λ ns. IsReached AllOf (goal table) ns t) n (subst (λ g. IsReached AllOf g nexts t) m' ((r t).0 h))),
      λ c. (r t).1 (subst (λ g. IsReached AllOf g nexts t) (sym m') (subst (λ ns. IsReached AllOf (goal table) ns t) (sym n) (copyable-reached table t c))),
    )
