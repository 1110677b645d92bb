-- Where a walk along parts stops.
use Rattle.std.proofs.Common.{◌≡◌, ℕ, suc, ◌+◌, ◌-◌, ◌<◌, List, [], ◌∷◌, map, length, drop, arith, get_or, add-one, Bool, true, false, not, ◌&&◌, ◌||◌, Option, is_some, refl, sym, ap, ◌∙◌}
use Rattle.std.proofs.Math.Seq.{drop-cons}
use Rattle.herm_model.specs.Lists.{all_pass, range}
use Rattle.herm_model.specs.Expressions.{Atom}
use Rattle.herm_model.specs.Types.{TypeTable, part_of, is_variant, enters_component}
use Rattle.herm_naming.specs.UnknownNames.{is_known, are_parts_there}
use Rattle.herm_naming.specs.Fits.{are_keys}

pub unknown_there : (table : TypeTable) (t : Option ℕ) (p : List ℕ) → is_known table t ≡ false → are_parts_there table t p ≡ true
unknown_there table t [] e = refl
unknown_there table t (i ∷ p) e = ap (λ b. not b || (is_some (part_of table t i) && are_parts_there table (part_of table t i) p)) e

entered_first : (table : TypeTable) (t : Option ℕ) (i : ℕ) (p : List ℕ) → is_variant table t ≡ true → enters_component table t (i ∷ p) ≡ true
entered_first table t i p e = ap (λ b. b || enters_component table (part_of table t i) p) e

pub entered : (table : TypeTable) (t : Option ℕ) (p : List ℕ) (i : ℕ) → i < length p → is_variant table t ≡ true → enters_component table t (drop i p) ≡ true
entered table t p i h e = ap (enters_component table t) (drop-cons p i 0 h) ∙ entered_first table t (get_or p i 0) _ e

empty-keys : {X : Type 0} (f : X → Atom) (table : TypeTable) (types ts key : List ℕ) (i : ℕ) (rest : List X) → length rest ≡ 0 → false ≡ are_keys table types ts (i ∷ key) (map f rest)
empty-keys f table types ts key i [] e = refl
empty-keys f table types ts key i (a ∷ rest) e = absurd (omega (arith, e))

pub no_key : {X : Type 0} (f : X → Atom) (table : TypeTable) (types ts key : List ℕ) (i : ℕ) (rest : List X) → i < length key → length rest ≡ 0 → false ≡ are_keys table types ts (drop i key) (map f rest)
no_key f table types ts key i rest h e = empty-keys f table types ts _ (get_or key i 0) rest e ∙ sym (ap (λ k. are_keys table types ts k (map f rest)) (drop-cons key i 0 h))

pub each_next : (f : ℕ → Bool) (i n : ℕ) → i < n → f i ≡ true → all_pass f (range i (n - i)) ≡ all_pass f (range (i + 1) (n - (i + 1)))
each_next f i n h e =
    ap (λ k. all_pass f (range i k)) (let k : n - i ≡ suc (n - (i + 1)) = omega arith in k)
    ∙ (ap (λ b. b && all_pass f (range (suc i) (n - (i + 1)))) e
    ∙ ap (λ j. all_pass f (range j (n - (i + 1)))) (let j : suc i ≡ i + 1 = omega arith in j))
