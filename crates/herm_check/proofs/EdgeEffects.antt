-- What edges do with the facts of a search, by the words of their lists.
use Rattle.std.proofs.Common.{◌≡◌, ℕ, ◌+◌, ◌*◌, ◌<◌, List, length, map, Option, Some, None, false, option_map, slice_get, refl, sym, ◌∙◌, subst, arith}
use Rattle.std.specs.declared.vec.Vec.{Vec}
use Rattle.std.specs.declared.alloc.Global.{Global}
use Rattle.std.proofs.lemmas.Option.{slice_get_within}
use Rattle.herm_model.specs.Lists.{map_or}
use Rattle.herm_model.specs.Paths.{Fact}
use Rattle.herm_model.specs.ControlPaths.{Edge, Point}
use Rattle.herm_model.proofs.Lists.{length-map, slice_get-map}
use Rattle.herm_flow.specs.declared.onward.OnwardEdge.{OnwardEdge}
use Rattle.herm_flow.specs.declared.onward.OnwardPoint.{OnwardPoint}
use Rattle.herm_flow.specs.declared.onward.OnwardFlow.{OnwardFlow}
use Rattle.herm_flow.specs.OnwardView.{onward_point_view, onward_flow_view}
use Rattle.herm_facts.specs.declared.fact_set.FactSet.{FactSet}
use Rattle.herm_facts.specs.declared.fact_numbers.FactNumbers.{FactNumbers}
use Rattle.herm_facts.specs.FactSets.{has}
use Rattle.herm_facts.specs.NumberSets.{has_at}
use Rattle.herm_facts.specs.declared.sparse_set.SparseSet.{SparseSet}
use Rattle.herm_facts.specs.SparseSets.{has_sparse}
use Rattle.herm_facts.specs.FactNumbers.{AreFacts}
use Rattle.herm_check.specs.declared.effects.Effect.{Effect}
use Rattle.herm_check.specs.declared.lists.ListsOf.{ListsOf}
use Rattle.herm_check.specs.View.{edge_in}
use Rattle.herm_check.specs.Lists.{at_has, AreListsOf, AreListsIn}
use Rattle.herm_check.specs.Effects.{share, AreWords, IsEffectOf, IsEffectBy, AreEffectsBy, AreEffectsByIn, IsEffect, AreEffects, AreEffectsIn}
use Rattle.herm_facts.proofs.Listed.{facts-apart}
use Rattle.herm_check.proofs.ListedFacts.{any-same, made-all, gone-at}
use Rattle.herm_check.proofs.Searched.{some-at}
use Rattle.herm_check.proofs.Shares.{share-at}

none-some : {X : Type 0} (x : X) → ◌≡◌ {A = Option X} None (Some x) → ⊥
none-some x e = cc

some-same : {X : Type 0} {x y : X} → ◌≡◌ {A = Option X} (Some x) (Some y) → x ≡ y
some-same e = cc

-- the words of sets one by one
pub words-each : (sets : List SparseSet) (s : ℕ) (words : List FactSet) → length words ≡ length sets
    → ((i : ℕ) (t : SparseSet) (w : FactSet) → slice_get sets i ≡ Some t → slice_get words i ≡ Some w → (j : ℕ) → j < 64 → has w j ≡ has_sparse t (64 * s + j)) → AreWords sets s words
words-each sets s words many each i j less = by (slice_get sets i) refl (slice_get words i) refl
  where
    by : (o : Option SparseSet) → slice_get sets i ≡ o → (v : Option FactSet) → slice_get words i ≡ v → map_or false (λ (w : FactSet). has w j) v ≡ map_or false (λ (t : SparseSet). has_sparse t (64 * s + j)) o
    by None e None f = refl
    by (Some t) e (Some w) f = each i t w e f j less
    by None e (Some w) f = absurd (let within = slice_get_within words i w f in let some = some-at sets i (omega (arith, within, many)) in none-some some.0 (sym e ∙ some.1))
    by (Some t) e None f = absurd (let within = slice_get_within sets i t e in let some = some-at words i (omega (arith, within, many)) in none-some some.0 (sym f ∙ some.1))

module _ (l : ListsOf) (s : ℕ) (made gone : List FactSet) (in_made : AreWords l.made.items s made) (in_gone : AreWords l.gone.items s gone) where
  -- what words say, the numbers say
  pub effect-by : (e : OnwardEdge) (effect : Effect) → IsEffectOf made gone e effect → IsEffectBy l s e effect
  effect-by e effect is j less = (
    (is j).0 ∙ any-same (λ m. has_at made m j) (λ m. at_has l.made.items m (64 * s + j)) e.makes.items (λ m. in_made m j less),
    (is j).1 ∙ in_gone e.kills j less,
  )

module _ (ns : FactNumbers) (facts : List Fact) (numbered : AreFacts ns facts) (s : ℕ) where
  row-known : (p : OnwardPoint) (l : ListsOf) → AreListsOf ns p l → (row : List Effect) → AreEffectsBy l s p.edges.items row → AreEffects (share facts s) (onward_point_view p).edges row
  row-known p l are row by = record {
    many = by.many ∙ sym (length-map (edge_in p) p.edges.items);
    each = λ n e effect at there. each n e effect there (slice_get p.edges.items n) refl (sym (slice_get-map (edge_in p) p.edges.items n) ∙ at);
  }
    where
      each : (n : ℕ) (e : Edge) (effect : Effect) → slice_get row n ≡ Some effect → (o : Option OnwardEdge) → slice_get p.edges.items n ≡ o → option_map (edge_in p) o ≡ Some e → IsEffect (share facts s) e effect
      each n e effect there None is at = absurd (none-some e at)
      each n e effect there (Some d) is at = subst (λ x. IsEffect (share facts s) x effect) (some-same at) (λ j f seen.
          let h = share-at facts s j f seen in
          let number = (numbered f (64 * s + j)).0 h.1 in
          let says = by.each n d effect is there j h.0 in
          let apart = facts-apart ns facts numbered in
          (says.0 ∙ made-all ns apart p l are f (64 * s + j) number d.makes.items, says.1 ∙ gone-at ns apart p l are f (64 * s + j) number d.kills))

  pub effects-known : (flow : OnwardFlow) (lists : List ListsOf) (effects : List (Vec Effect Global)) → AreListsIn ns flow lists → AreEffectsByIn flow lists s effects → AreEffectsIn (onward_flow_view flow) (share facts s) effects
  effects-known flow lists effects are by = record {
    many = by.many ∙ sym (length-map onward_point_view flow.points.items);
    each = λ i p row at there. each i p row there (slice_get flow.points.items i) refl (sym (slice_get-map onward_point_view flow.points.items i) ∙ at);
  }
    where
      each : (i : ℕ) (p : Point) (row : Vec Effect Global) → slice_get effects i ≡ Some row → (o : Option OnwardPoint) → slice_get flow.points.items i ≡ o → option_map onward_point_view o ≡ Some p → AreEffects (share facts s) p.edges row.items
      each i p row there None is at = absurd (none-some p at)
      each i p row there (Some q) is at =
          let within = slice_get_within flow.points.items i q is in
          let l = some-at lists i (omega (arith, within, are.many)) in
          subst (λ (x : Point). AreEffects (share facts s) x.edges row.items) (some-same at) (row-known q l.0 (are.each i q l.0 is l.1) row.items (by.each i q l.0 row is l.1 there))
