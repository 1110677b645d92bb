-- The first code of which the test holds is the first that holds at a name.
use Rattle.std.proofs.Common.{◌≡◌, ◌<◌, ◌+◌, ℕ, Bool, true, false, not, ◌&&◌, cond, Option, Some, None, List, take, sym, subst, arith, length, nat_lt}
use Rattle.std.proofs.lemmas.Bool.{ltb-true, ltb-false}
use Rattle.herm_base.specs.declared.word.Name.{Name}
use Rattle.herm_model.specs.Lists.{IsIn}
use Rattle.herm_model.specs.Paths.{Fact}
use Rattle.herm_model.specs.Types as types
use Rattle.herm_model.specs.Copyable.{IsCopyable}
use Rattle.herm_model.specs.TypedExpressions.{HasShape}
use Rattle.herm_model.specs.WellFormedTables.{IsType, Reaches}
use Rattle.herm_syntax.specs.Trees.{Letters, Shape}
use Rattle.herm_meaning.specs.Names.{NamedTable}
use Rattle.herm_meaning.specs.Walks.{place_of}
use Rattle.herm_meaning.specs.Marks.{Mark, Role, a_type, an_exception, a_part, an_input, a_content, a_row, a_key, a_port, a_raised, a_kept}
use Rattle.herm_meaning.specs.DefinitionFaults.{Code, unknown, twice, cycle, deep, bad_key, bad_state, rank, Holds, number_of, IsJudged, IsSettled, IsNoRecord, IsNoKey, MeetsNoUnknown, MeetsNoCycle, HasBadShape}
use Rattle.herm_graph.specs.Depth.{IsBeyond}
use Rattle.herm_graph.specs.Tells.{Tells}
use Rattle.herm_defs.specs.declared.fault.DefCode.{DefCode}
use Rattle.herm_defs.specs.declared.fault.DefCode.TheVariants.{Unknown, Twice, Cycle, Deep, BadKey, BadState}
use Rattle.herm_defs.specs.declared.judge.CodeTests.{CodeTests}
use Rattle.herm_defs.specs.Judged.{Judge, IsCodeAt, first_code, marked}

pub tells-not : (P : Type 0) (b : Bool) → Tells b P → Tells (not b) (P → ⊥)
tells-not P true t = λ n. n t
tells-not P false t = t

pub tells-and : (P Q : Type 0) (a b : Bool) → Tells a P → Tells b Q → Tells (a && b) (P × Q)
tells-and P Q true true s t = (s, t)
tells-and P Q true false s t = λ both. t both.1
tells-and P Q false true s t = λ both. s both.0
tells-and P Q false false s t = λ both. s both.0

none-below : (n : ℕ) (P : Code → Type 0) → (6 < n → P unknown → ⊥) → (7 < n → P twice → ⊥) → (8 < n → P cycle → ⊥) → (9 < n → P deep → ⊥) → (10 < n → P bad_key → ⊥) → (11 < n → P bad_state → ⊥) → (d : Code) → rank d < n → P d → ⊥
none-below n P a b c d e f unknown l = a l
none-below n P a b c d e f twice l = b l
none-below n P a b c d e f cycle l = c l
none-below n P a b c d e f deep l = d l
none-below n P a b c d e f bad_key l = e l
none-below n P a b c d e f bad_state l = f l

pub first-is : (table : NamedTable) (m : Mark) (t : CodeTests) → Judge table m t → IsCodeAt table m (first_code t)
first-is table m t j = by t.unknown t.twice t.cycle t.deep t.bad_key t.bad_state j.is_unknown j.is_twice j.is_cycle j.is_deep j.is_bad_key j.is_bad_state
  where
    low : (n : ℕ) → n < 7 → (d : Code) → rank d < n → Holds table d (0, m) → ⊥
    low n s unknown l = absurd (omega (arith, s, l))
    low n s twice l = absurd (omega (arith, s, l))
    low n s cycle l = absurd (omega (arith, s, l))
    low n s deep l = absurd (omega (arith, s, l))
    low n s bad_key l = absurd (omega (arith, s, l))
    low n s bad_state l = absurd (omega (arith, s, l))

    over : (a n : ℕ) (X : Type 0) → n < a + 1 → a < n → X → ⊥
    over a n X h l x = omega (arith, h, l)

    by : (a b c d e f : Bool) → Tells a (Holds table unknown (0, m)) → Tells b (Holds table twice (0, m)) → Tells c (Holds table cycle (0, m)) → Tells d (Holds table deep (0, m)) → Tells e (Holds table bad_key (0, m)) → Tells f (Holds table bad_state (0, m))
        → IsCodeAt table m (cond a (Some Unknown) (cond b (Some Twice) (cond c (Some Cycle) (cond d (Some Deep) (cond e (Some BadKey) (cond f (Some BadState) None))))))
    by true b c d e f ha hb hc hd he hf = (ha, low 6 (omega arith))
    by false true c d e f ha hb hc hd he hf = (hb, none-below 7 (λ x. Holds table x (0, m)) (λ l. ha) (over 7 7 _ (omega arith)) (over 8 7 _ (omega arith)) (over 9 7 _ (omega arith)) (over 10 7 _ (omega arith)) (over 11 7 _ (omega arith)))
    by false false true d e f ha hb hc hd he hf = (hc, none-below 8 (λ x. Holds table x (0, m)) (λ l. ha) (λ l. hb) (over 8 8 _ (omega arith)) (over 9 8 _ (omega arith)) (over 10 8 _ (omega arith)) (over 11 8 _ (omega arith)))
    by false false false true e f ha hb hc hd he hf = (hd, none-below 9 (λ x. Holds table x (0, m)) (λ l. ha) (λ l. hb) (λ l. hc) (over 9 9 _ (omega arith)) (over 10 9 _ (omega arith)) (over 11 9 _ (omega arith)))
    by false false false false true f ha hb hc hd he hf = (he, none-below 10 (λ x. Holds table x (0, m)) (λ l. ha) (λ l. hb) (λ l. hc) (λ l. hd) (over 10 10 _ (omega arith)) (over 11 10 _ (omega arith)))
    by false false false false false true ha hb hc hd he hf = (hf, none-below 11 (λ x. Holds table x (0, m)) (λ l. ha) (λ l. hb) (λ l. hc) (λ l. hd) (λ l. he) (over 11 11 _ (omega arith)))
    by false false false false false false ha hb hc hd he hf = right
      where
        right : (x : Code) → Holds table x (0, m) → ⊥
        right unknown = ha
        right twice = hb
        right cycle = hc
        right deep = hd
        right bad_key = he
        right bad_state = hf

abbrev of_two : Bool → Bool → CodeTests
of_two u t = record { unknown = u; twice = t; cycle = false; deep = false; bad_key = false; bad_state = false }

abbrev of_four : Bool → Bool → Bool → Bool → CodeTests
of_four u t k s = record { unknown = u; twice = t; cycle = false; deep = false; bad_key = k; bad_state = s }

module _ (table : NamedTable) (name : Name) where
  at : (role : Role) (tests : CodeTests) (r : Option DefCode) → r ≡ first_code tests → Judge table (marked name role) tests → IsCodeAt table (marked name role) r
  at role tests r e j = subst (λ x. IsCodeAt table (marked name role) x) (sym e) (first-is table (marked name role) tests j)

  pub content-role : (t : ℕ) (known : Bool) → t ≡ number_of table name.text → Tells known (IsType table.shapes t) → (r : Option DefCode) → r ≡ first_code (of_two (not known) false) → IsCodeAt table (marked name a_content) r
  content-role t known e k r f = at a_content (of_two (not known) false) r f (record {
    is_unknown = subst (λ n. Tells (not known) (IsType table.shapes n → ⊥)) e (tells-not (IsType table.shapes t) known k);
    is_twice = λ x. x;
    is_cycle = λ x. x;
    is_deep = λ x. x;
    is_bad_key = λ x. x;
    is_bad_state = λ x. x;
  })

  pub row-role : (t : ℕ) (known bad : Bool) → t ≡ number_of table name.text → Tells known (IsType table.shapes t) → Tells bad (IsJudged table t × IsNoRecord table t) → (r : Option DefCode) → r ≡ first_code (of_four (not known) false bad false) → IsCodeAt table (marked name a_row) r
  row-role t known bad e k b r f = at a_row (of_four (not known) false bad false) r f (record {
    is_unknown = subst (λ n. Tells (not known) (IsType table.shapes n → ⊥)) e (tells-not (IsType table.shapes t) known k);
    is_twice = λ x. x;
    is_cycle = λ x. x;
    is_deep = λ x. x;
    is_bad_key = subst (λ n. Tells bad (IsJudged table n × IsNoRecord table n)) e b;
    is_bad_state = λ x. x;
  })

  pub port-role : (t : ℕ) (known bad : Bool) → t ≡ number_of table name.text → Tells known (IsType table.shapes t) → Tells bad (IsJudged table t × ((message : ℕ) (declared : List Fact) → HasShape table.shapes t (types.inport message declared) → ⊥)) → (r : Option DefCode) → r ≡ first_code (of_four (not known) false false bad) → IsCodeAt table (marked name a_port) r
  port-role t known bad e k b r f = at a_port (of_four (not known) false false bad) r f (record {
    is_unknown = subst (λ n. Tells (not known) (IsType table.shapes n → ⊥)) e (tells-not (IsType table.shapes t) known k);
    is_twice = λ x. x;
    is_cycle = λ x. x;
    is_deep = λ x. x;
    is_bad_key = λ x. x;
    is_bad_state = subst (λ n. Tells bad (IsJudged table n × ((message : ℕ) (declared : List Fact) → HasShape table.shapes n (types.inport message declared) → ⊥))) e b;
  })

  module _ (before : List Letters) (repeated : Bool) (told : Tells repeated (IsIn name.text before)) where
    pub part-role : (r : Option DefCode) → r ≡ first_code (of_two false repeated) → IsCodeAt table (marked name (a_part before)) r
    part-role r f = at (a_part before) (of_two false repeated) r f (record {
      is_unknown = λ x. x;
      is_twice = told;
      is_cycle = λ x. x;
      is_deep = λ x. x;
      is_bad_key = λ x. x;
      is_bad_state = λ x. x;
    })

    pub kept-role : (r : Option DefCode) → r ≡ first_code (of_two false repeated) → IsCodeAt table (marked name (a_kept before)) r
    kept-role r f = at (a_kept before) (of_two false repeated) r f (record {
      is_unknown = λ x. x;
      is_twice = told;
      is_cycle = λ x. x;
      is_deep = λ x. x;
      is_bad_key = λ x. x;
      is_bad_state = λ x. x;
    })

    pub input-role : (content : Letters) (t : ℕ) (bad : Bool) → t ≡ number_of table content → Tells bad (IsJudged table t × IsSettled table t × (IsCopyable table.shapes t → ⊥)) → (r : Option DefCode) → r ≡ first_code (of_four false repeated false bad) → IsCodeAt table (marked name (an_input before content)) r
    input-role content t bad e b r f = at (an_input before content) (of_four false repeated false bad) r f (record {
      is_unknown = λ x. x;
      is_twice = told;
      is_cycle = λ x. x;
      is_deep = λ x. x;
      is_bad_key = λ x. x;
      is_bad_state = subst (λ n. Tells bad (IsJudged table n × IsSettled table n × (IsCopyable table.shapes n → ⊥))) e b;
    })

    pub key-role : (row : Letters) (t : ℕ) (bad : Bool) → t ≡ number_of table row → Tells bad (IsJudged table t × (ts : List ℕ) × HasShape table.shapes t (types.fields ts) × IsNoKey table t ts name.text) → (r : Option DefCode) → r ≡ first_code (of_four false repeated bad false) → IsCodeAt table (marked name (a_key before row)) r
    key-role row t bad e b r f = at (a_key before row) (of_four false repeated bad false) r f (record {
      is_unknown = λ x. x;
      is_twice = told;
      is_cycle = λ x. x;
      is_deep = λ x. x;
      is_bad_key = subst (λ n. Tells bad (IsJudged table n × (ts : List ℕ) × HasShape table.shapes n (types.fields ts) × IsNoKey table n ts name.text)) e b;
      is_bad_state = λ x. x;
    })

    pub raised-role : (n : ℕ) (known : Bool) → n ≡ place_of table.exceptions name.text → known ≡ nat_lt n (length table.exceptions) → (r : Option DefCode) → r ≡ first_code (of_two (not known) repeated) → IsCodeAt table (marked name (a_raised before)) r
    raised-role n known e k r f = at (a_raised before) (of_two (not known) repeated) r f (record {
      is_unknown = by known (sym k);
      is_twice = told;
      is_cycle = λ x. x;
      is_deep = λ x. x;
      is_bad_key = λ x. x;
      is_bad_state = λ x. x;
    })
      where
        by : (b : Bool) → nat_lt n (length table.exceptions) ≡ b → Tells (not b) (Holds table unknown (0, marked name (a_raised before)))
        by true l = λ h. omega (arith, ltb-true n (length table.exceptions) l, e, h)
        by false l = omega (arith, ltb-false n (length table.exceptions) l, e)

  pub exception-role : (number : ℕ) (repeated : Bool) → Tells repeated (IsIn name.text (take number table.exceptions)) → (r : Option DefCode) → r ≡ first_code (of_two false repeated) → IsCodeAt table (marked name (an_exception number)) r
  exception-role number repeated told r f = at (an_exception number) (of_two false repeated) r f (record {
    is_unknown = λ x. x;
    is_twice = told;
    is_cycle = λ x. x;
    is_deep = λ x. x;
    is_bad_key = λ x. x;
    is_bad_state = λ x. x;
  })

  pub type-role : (number : ℕ) (shape : Shape) (repeated ring beyond bad : Bool) → Tells repeated (IsIn name.text (take number table.names)) → Tells ring (Reaches table.shapes number number) → Tells beyond (MeetsNoUnknown table number × MeetsNoCycle table number × IsBeyond table.shapes number) → Tells bad (HasBadShape table shape) → (r : Option DefCode) → r ≡ first_code (record { unknown = false; twice = repeated; cycle = ring; deep = beyond; bad_key = false; bad_state = bad }) → IsCodeAt table (marked name (a_type number shape)) r
  type-role number shape repeated ring beyond bad a b c d r f = at (a_type number shape) (record { unknown = false; twice = repeated; cycle = ring; deep = beyond; bad_key = false; bad_state = bad }) r f (record {
    is_unknown = λ x. x;
    is_twice = a;
    is_cycle = b;
    is_deep = c;
    is_bad_key = λ x. x;
    is_bad_state = d;
  })
