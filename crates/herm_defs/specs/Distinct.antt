-- Facts that stand once, and the declared facts that mean them.
use Rattle.std.specs.Prelude.{ℕ, List, ◌∷◌, map, flat_map, ◌≡◌, Vec}
use Rattle.std.specs.Global.{Global}
use Rattle.herm_model.specs.Lists.{IsIn}
use Rattle.herm_model.specs.Paths.{Fact, init, case}
use Rattle.herm_model.specs.Facts.{without_repeats}
use Rattle.herm_syntax.specs.Trees.{DeclaredFact}
use Rattle.herm_types.specs.View.{fact_view}
use Rattle.herm_meaning.specs.Names.{NamedTable}
use Rattle.herm_meaning.specs.Meaning.{fact_meant}
use Rattle.herm_defs.specs.declared.distinct.DistinctFacts.{DistinctFacts}
use Rattle.herm_defs.specs.PlainFacts.{written_key}

-- numbers by which a fact is told from all others
abbrev pub number_key : Fact → List ℕ
number_key (init p) = 0 ∷ p
number_key (case p c) = 1 ∷ c ∷ p

-- each of these facts stands there once, in the order of the first
pub record AreDistinct (facts : List Fact) (distinct : DistinctFacts) : Type 0 where
  pub listed : map fact_view distinct.facts.items ≡ without_repeats facts
  pub keys : map (λ (k : Vec ℕ Global). k.items) distinct.keys.keys ≡ map number_key (without_repeats facts)

-- These declared facts mean what stands there, and each key is that of one of them.
pub record AreListed (table : NamedTable) (message : ℕ) (written : List DeclaredFact) (keys : List (List ℕ)) (distinct : DistinctFacts) : Type 0 where
  pub meant : AreDistinct (flat_map (fact_meant table message) written) distinct
  pub known : (k : List ℕ) → IsIn k keys → (d : DeclaredFact) × IsIn d written × (k ≡ written_key d)
