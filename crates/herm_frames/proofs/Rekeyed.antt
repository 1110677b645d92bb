-- Tables that are made anew have the rows that they had.
use Rattle.std.proofs.Common.{◌≡◌, inl, inr, ◌⊎◌, ◌<◌, ◌≤◌, ℕ, zero, suc, List, [], ◌∷◌, Bool, true, false, cond, not, ◌&&◌, ◌||◌, Option, Some, None, option_map, slice_get, drop, length, refl, sym, ap, subst, ◌∙◌, arith, true≢false}
use Rattle.std.proofs.Common.{nat_le, nat_lt, leb-true}
use Rattle.std.proofs.lemmas.Bool.{lt-ltb}
use Rattle.std.specs.Prelude.{⊤, IsTrue}
use Rattle.std.specs.List.{AllByRecursion}
use Rattle.herm_links.specs.declared.links.NodeNo.{NodeNo}
use Rattle.herm_rows.specs.Keys.{rows_of}
use Rattle.herm_rows.specs.Nodes.{place_at}
use Rattle.herm_model.specs.Paths.{Path}
use Rattle.herm_model.specs.Tables.{same_key, key_of, has_key, has_distinct_keys}
use Rattle.herm_model.specs.Typed.{greatest_rows}
use Rattle.herm_model.specs.Values.{Value, Parts, no_parts, gap, part, joined, size}
use Rattle.herm_model.proofs.Keys.{distinct-joined}
use Rattle.herm_model.proofs.Lists.{and-both, both-and, or-either, or-left, or-right}
use Rattle.herm_values.specs.Parts.{parts_from, rows_at}
use Rattle.herm_values.specs.View.{places_of, table_parts, rows_from, views_of}
use Rattle.herm_values.specs.Whole.{HasRow, IsWholeTable}
use Rattle.herm_values.specs.declared.scalar.KeyRow.{KeyRow}
use Rattle.herm_values.specs.declared.value.Table.{Table}
use Rattle.herm_values.proofs.Walked.{more-rows, none-rows}
use Rattle.herm_frames.specs.Keyings.{DiffersBy}
use Rattle.herm_frames.specs.Refusals.{refusal}

one-more : (ps qs : Parts ⊤) (v : Value) → joined (joined ps (part v no_parts)) qs ≡ joined ps (part v qs)
one-more no_parts qs v = refl
one-more (gap ps) qs v = ap gap (one-more ps qs v)
one-more (part c ps) qs v = ap (part c) (one-more ps qs v)

joined-none : (ps : Parts ⊤) → joined ps no_parts ≡ ps
joined-none no_parts = refl
joined-none (gap ps) = ap gap (joined-none ps)
joined-none (part c ps) = ap (part c) (joined-none ps)

-- a row more is made, and a row less is left
pub row_made : (made more all : Parts ⊤) (t : Table) (node : NodeNo) (next : Option NodeNo) (v : Value) → joined made (parts_from (rows_from t (Some node))) ≡ all → slice_get (rows_from t (Some node)) 0 ≡ Some (Some v)
    → rows_from t next ≡ drop 1 (rows_from t (Some node)) → more ≡ joined made (part v no_parts) → joined more (parts_from (rows_from t next)) ≡ all
row_made made more all t node next v before at rest grown =
    ap (λ ps. joined ps (parts_from (rows_from t next))) grown
    ∙ one-more made (parts_from (rows_from t next)) v
    ∙ ap (λ os. joined made (parts_from os)) (sym (more-rows t node next (Some v) at rest))
    ∙ before

-- no row is left
pub rows_made : (made all : Parts ⊤) (t : Table) (next : Option NodeNo) → joined made (parts_from (rows_from t next)) ≡ all → next ≡ None → made ≡ all
rows_made made all t next before none = sym (joined-none made) ∙ ap (λ os. joined made (parts_from os)) (sym (none-rows t next none)) ∙ before

-- each key of a whole table has its row
each-there : (columns : List ℕ) (rows : List (Option Value)) (keys : List KeyRow) → AllByRecursion (HasRow columns rows) keys → (n : ℕ) → slice_get (drop n (rows_at (places_of keys) rows)) 0 ≡ Some None → ⊥
each-there columns rows [] h zero at = cc (at)
each-there columns rows [] h (suc n) at = cc (at)
each-there columns rows (key ∷ keys) h zero at = let there = h.0.there in cc (at, there)
each-there columns rows (key ∷ keys) h (suc n) at = each-there columns rows keys h.1 n at

pub no_gap : (t : Table) (start : Option NodeNo) → IsWholeTable t → slice_get (rows_from t start) 0 ≡ Some None → ⊥
unfolding rows_from
no_gap t start h at = each-there t.columns.items (views_of t.rows.items) (rows_of t.keys) h.kept.found (place_at t.keys start) at

not-true : (b : Bool) → IsTrue (not b) → b ≡ false
not-true true h = absurd (true≢false (sym h))
not-true false h = refl

not-more : (a b : Bool) → (IsTrue b → IsTrue a) → IsTrue (not a) → IsTrue (not b)
not-more a true f h = absurd (true≢false (sym (sym (ap not (f refl)) ∙ h)))
not-more a false f h = refl

less : (ps qs : Parts ⊤) (v : Value) → size ps < size (joined ps (part v qs))
less no_parts qs v = omega arith
less (gap ps) qs v = let again = less ps qs v in omega (arith, again)
less (part c ps) qs v = let again = less ps qs v in omega (arith, again)

module _ (key : List ℕ) where
  has-more : (k : _) (ps qs : Parts ⊤) → IsTrue (has_key key k ps) → IsTrue (has_key key k (joined ps qs))
  has-more k no_parts qs h = absurd (true≢false (sym h))
  has-more k (gap ps) qs h = has-more k ps qs h
  has-more k (part c ps) qs h = by (or-either (same_key (key_of key c) k) (has_key key k ps) h) (has-more k ps qs)
    where
      by : IsTrue (same_key (key_of key c) k) ⊎ IsTrue (has_key key k ps) → (IsTrue (has_key key k ps) → IsTrue (has_key key k (joined ps qs))) → IsTrue (same_key (key_of key c) k || has_key key k (joined ps qs))
      by (inl a) again = or-left (same_key (key_of key c) k) (has_key key k (joined ps qs)) a
      by (inr b) again = or-right (same_key (key_of key c) k) (has_key key k (joined ps qs)) (again b)

  first-distinct : (ps qs : Parts ⊤) → IsTrue (has_distinct_keys key (joined ps qs)) → IsTrue (has_distinct_keys key ps)
  first-distinct no_parts qs h = refl
  first-distinct (gap ps) qs h = first-distinct ps qs h
  first-distinct (part c ps) qs h =
      let b = and-both (not (has_key key (key_of key c) (joined ps qs))) (has_distinct_keys key (joined ps qs)) h in
      both-and (not (has_key key (key_of key c) ps)) (has_distinct_keys key ps) (not-more (has_key key (key_of key c) (joined ps qs)) (has_key key (key_of key c) ps) (has-more (key_of key c) ps qs) b.0) (first-distinct ps qs b.1)

  -- a row among others that differ is not refused by those before it
  pub allowed : (made rest all : Parts ⊤) (v : Value) → joined made (part v rest) ≡ all → DiffersBy key all → refusal key v made ≡ None
  allowed made rest all v is h =
      let d : has_distinct_keys key (joined (joined made (part v no_parts)) rest) ≡ true = ap (has_distinct_keys key) (one-more made rest v ∙ is) ∙ h.0 in
      let e = first-distinct (joined made (part v no_parts)) rest d in
      let f = and-both (has_distinct_keys key made) (not (has_key key (key_of key v) made)) (sym (distinct-joined key v made) ∙ e) in
      let new = not-true (has_key key (key_of key v) made) f.1 in
      let few : size all ≤ 4096 = leb-true (size all) greatest_rows h.1 in
      let more : size made < size all = subst (λ n. size made < n) (ap size is) (less made rest v) in
      let room : nat_lt (size made) greatest_rows ≡ true = lt-ltb (size made) greatest_rows (omega (arith, few, more)) in
      ap (λ b. cond b (Some 4) (cond (nat_lt (size made) greatest_rows) None (Some 1))) new ∙ ap (λ b. cond b None (Some 1)) room

pub row_allowed : (key : List ℕ) (made all : Parts ⊤) (t : Table) (node : NodeNo) (next : Option NodeNo) (v : Value) → joined made (parts_from (rows_from t (Some node))) ≡ all → slice_get (rows_from t (Some node)) 0 ≡ Some (Some v)
    → rows_from t next ≡ drop 1 (rows_from t (Some node)) → DiffersBy key all → refusal key v made ≡ None
row_allowed key made all t node next v before at rest h =
    allowed key made (parts_from (rows_from t next)) all v (ap (λ os. joined made (parts_from os)) (sym (more-rows t node next (Some v) at rest)) ∙ before) h

pub ruleset rekeying = (row_made, rows_made, row_allowed, no_gap)
