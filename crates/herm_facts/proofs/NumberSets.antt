-- Sets of numbers, word by word.
use Rattle.std.proofs.Common.{◌≡◌, ◌≢◌, ◌⊎◌, inl, inr, ℕ, zero, suc, ◌+◌, ◌*◌, ◌/◌, ◌%◌, ◌<◌, ◌≤◌, List, [], ◌∷◌, ◌++◌, length, take, Bool, true, false, not, ◌&&◌, ◌||◌, nat_eq, slice_set, get_or, refl, sym, ◌∙◌, ap, ap₂, subst, arith, length-set, true≢false, mod-lt}
use Rattle.std.proofs.lemmas.Bool.{eq-eqb, eqb-false, eqb-true, cases_eq, cases_lt}
use Rattle.std.proofs.lemmas.Nat.{div-add-mod'}
use Rattle.std.proofs.lemmas.Option.{slice_get_past, slice_get_read}
use Rattle.herm_model.specs.Lists.{map_or}
use Rattle.herm_facts.specs.declared.fact_set.FactSet.{FactSet}
use Rattle.herm_facts.specs.FactSets.{has}
use Rattle.herm_facts.specs.NumberSets.{has_at}

-- ---- words at places

pub past : (ws : List FactSet) (i j : ℕ) → length ws ≤ i → has_at ws i j ≡ false
past ws i j h = ap (map_or false (λ w. has w j)) (slice_get_past ws i h)

pub at_place : (ws : List FactSet) (i : ℕ) (w : FactSet) (j : ℕ) → i < length ws → w ≡ get_or ws i w → has_at ws i j ≡ has w j
at_place ws i w j within e = ap (map_or false (λ w. has w j)) (slice_get_read ws (length ws) i w refl within e)

pub set-same : (ws : List FactSet) (i : ℕ) (w : FactSet) (j : ℕ) → i < length ws → has_at (slice_set ws i w) i j ≡ has w j
set-same [] i w j h = absurd (omega (arith, h))
set-same (v ∷ ws) zero w j h = refl
set-same (v ∷ ws) (suc i) w j h = set-same ws i w j (omega (arith, h))

pub set-other : (ws : List FactSet) (i : ℕ) (w : FactSet) (k j : ℕ) → i ≢ k → has_at (slice_set ws i w) k j ≡ has_at ws k j
set-other [] i w k j h = refl
set-other (v ∷ ws) zero w zero j h = absurd (h refl)
set-other (v ∷ ws) zero w (suc k) j h = refl
set-other (v ∷ ws) (suc i) w zero j h = refl
set-other (v ∷ ws) (suc i) w (suc k) j h = set-other ws i w k j (λ e. h (ap suc e))

-- an empty word at the end says nothing
pub pushed : (ws : List FactSet) (w : FactSet) (i j : ℕ) → ((j : ℕ) → has w j ≡ false) → has_at (ws ++ w ∷ []) i j ≡ has_at ws i j
pushed [] w zero j none = none j
pushed [] w (suc i) j none = refl
pushed (v ∷ ws) w zero j none = refl
pushed (v ∷ ws) w (suc i) j none = pushed ws w i j none

-- words cut off behind the others keep what both have
pub cut : (ws vs : List FactSet) (i j : ℕ) → (has_at (take (length vs) ws) i j && has_at vs i j) ≡ (has_at ws i j && has_at vs i j)
cut ws [] i j = and_false (has_at ws i j)
  where
    and_false : (b : Bool) → false ≡ (b && false)
    and_false true = refl
    and_false false = refl
cut [] (v ∷ vs) i j = refl
cut (w ∷ ws) (v ∷ vs) zero j = refl
cut (w ∷ ws) (v ∷ vs) (suc i) j = cut ws vs i j

-- ---- numbers and their places

pub in-word : (n : ℕ) → n % 64 < 64
in-word n = let some : 0 < 64 = omega arith in mod-lt n some

pub place-of : (i j : ℕ) → j < 64 → (64 * i + j) / 64 ≡ i
place-of i j h = omega (arith, h, div-add-mod' (64 * i + j) 64, in-word (64 * i + j))

pub bit-of : (i j : ℕ) → j < 64 → (64 * i + j) % 64 ≡ j
bit-of i j h = omega (arith, h, div-add-mod' (64 * i + j) 64, in-word (64 * i + j))

pub at-number : (ws : List FactSet) (i j : ℕ) → j < 64 → has_at ws ((64 * i + j) / 64) ((64 * i + j) % 64) ≡ has_at ws i j
at-number ws i j h = ap₂ (λ a b. has_at ws a b) (place-of i j h) (bit-of i j h)

-- ---- a word is set anew

-- a number is that of its place and bit
pub same-number : (n k : ℕ) → (nat_eq (n / 64) (k / 64) && nat_eq (n % 64) (k % 64)) ≡ nat_eq n k
same-number n k = by (nat_eq (n / 64) (k / 64)) refl (nat_eq (n % 64) (k % 64)) refl (nat_eq n k) refl
  where
    by : (a : Bool) → nat_eq (n / 64) (k / 64) ≡ a → (b : Bool) → nat_eq (n % 64) (k % 64) ≡ b → (c : Bool) → nat_eq n k ≡ c → (a && b) ≡ c
    by true e true f true g = refl
    by true e true f false g = absurd (eqb-false n k g (omega (arith, eqb-true (n / 64) (k / 64) e, eqb-true (n % 64) (k % 64) f, div-add-mod' n 64, div-add-mod' k 64)))
    by true e false f true g = absurd (eqb-false (n % 64) (k % 64) f (ap (λ m. m % 64) (eqb-true n k g)))
    by true e false f false g = refl
    by false e b f true g = absurd (eqb-false (n / 64) (k / 64) e (ap (λ m. m / 64) (eqb-true n k g)))
    by false e b f false g = refl

-- the word at a place becomes one that differs by these bits alone
pub place-changed : (f : Bool → Bool → Bool) (ws : List FactSet) (k : ℕ) (v w : FactSet) (bits : ℕ → Bool) → ((b : Bool) → f b false ≡ b) → k < length ws → v ≡ get_or ws k v
    → ((j : ℕ) → has w j ≡ f (has v j) (bits j)) → (i j : ℕ) → has_at (slice_set ws k w) i j ≡ f (has_at ws i j) (nat_eq i k && bits j)
place-changed f ws k v w bits quiet within there is i j = by (nat_eq i k) refl
  where
    here : has_at (slice_set ws k w) k j ≡ f (has_at ws k j) (nat_eq k k && bits j)
    here = set-same ws k w j within ∙ (is j ∙ ap₂ f (sym (at_place ws k v j within there)) (ap (λ b. b && bits j) (sym (eq-eqb k k refl))))

    by : (b : Bool) → nat_eq i k ≡ b → has_at (slice_set ws k w) i j ≡ f (has_at ws i j) (nat_eq i k && bits j)
    by true e = subst (λ h. has_at (slice_set ws k w) h j ≡ f (has_at ws h j) (nat_eq h k && bits j)) (sym (eqb-true i k e)) here
    by false e = set-other ws k w i j (λ same. eqb-false i k e (sym same)) ∙ sym (ap (λ b. f (has_at ws i j) (b && bits j)) e ∙ quiet (has_at ws i j))

-- the word of a number becomes one that differs by this number alone
pub word-changed : (f : Bool → Bool → Bool) (ws : List FactSet) (k : ℕ) (v w : FactSet) → ((b : Bool) → f b false ≡ b) → k / 64 < length ws → v ≡ get_or ws (k / 64) v
    → ((j : ℕ) → has w j ≡ f (has v j) (nat_eq j (k % 64))) → (n : ℕ) → has_at (slice_set ws (k / 64) w) (n / 64) (n % 64) ≡ f (has_at ws (n / 64) (n % 64)) (nat_eq n k)
word-changed f ws k v w quiet within there is n = place-changed f ws (k / 64) v w (λ j. nat_eq j (k % 64)) quiet within there is (n / 64) (n % 64) ∙ ap (f (has_at ws (n / 64) (n % 64))) (same-number n k)

-- where there is no such word, nothing changes
pub nothing-there : (f : Bool → Bool → Bool) (ws : List FactSet) (k : ℕ) (bit : Bool) → ((b : Bool) → f b false ≡ b) → ((b : Bool) → f false b ≡ false) → length ws ≤ k → (i j : ℕ) → has_at ws i j ≡ f (has_at ws i j) (nat_eq i k && bit)
nothing-there f ws k bit quiet empty h i j = by (nat_eq i k) refl
  where
    by : (b : Bool) → nat_eq i k ≡ b → has_at ws i j ≡ f (has_at ws i j) (nat_eq i k && bit)
    by true e = let gone = past ws i j (subst (λ m. length ws ≤ m) (sym (eqb-true i k e)) h) in gone ∙ sym (ap (λ b. f b (nat_eq i k && bit)) gone ∙ empty (nat_eq i k && bit))
    by false e = sym (ap (λ b. f (has_at ws i j) (b && bit)) e ∙ quiet (has_at ws i j))

-- ---- words that meet others

-- the words below a place have met the others, and the rest are as they were
pub record HaveMet (old others new : List FactSet) (i : ℕ) : Type 0 where
  pub many : length new ≡ length old
  pub met : (k j : ℕ) → k < i → has_at new k j ≡ (has_at old k j && has_at others k j)
  pub left : (k j : ℕ) → i ≤ k → has_at new k j ≡ has_at old k j

pub begin_to_meet : (old others : List FactSet) → HaveMet old others old 0
begin_to_meet old others = record { many = refl; met = λ k j h. absurd (omega arith); left = λ k j h. refl }

pub meet_next : (old others new : List FactSet) (i : ℕ) (v o w : FactSet) → HaveMet old others new i → i < length new → i < length others → v ≡ get_or new i v → o ≡ get_or others i o
    → ((j : ℕ) → has w j ≡ (has v j && has o j)) → HaveMet old others (slice_set new i w) (i + 1)
meet_next old others new i v o w h within there ev eo f = record {
  many = length-set new i w ∙ h.many;
  met = λ k j less. by k j less (cases_eq i k);
  left = λ k j above. set-other new i w k j (omega arith) ∙ h.left k j (omega arith);
}
  where
    here : (j : ℕ) → has_at (slice_set new i w) i j ≡ (has_at old i j && has_at others i j)
    here j = set-same new i w j within ∙ f j ∙ ap₂ ◌&&◌ (sym (at_place new i v j within ev) ∙ h.left i j (omega arith)) (sym (at_place others i o j there eo))

    by : (k j : ℕ) → k < i + 1 → (i ≡ k) ⊎ (i ≡ k → ⊥) → has_at (slice_set new i w) k j ≡ (has_at old k j && has_at others k j)
    by k j less (inl e) = subst (λ k. has_at (slice_set new i w) k j ≡ (has_at old k j && has_at others k j)) e (here j)
    by k j less (inr apart) = set-other new i w k j apart ∙ h.met k j (omega (arith, less, apart))

pub all_met : (old others new : List FactSet) (i : ℕ) → HaveMet old others new i → length old ≤ i → (k j : ℕ) → has_at new k j ≡ (has_at old k j && has_at others k j)
all_met old others new i h whole k j = by (cases_lt k i)
  where
    by : (k < i) ⊎ (i ≤ k) → has_at new k j ≡ (has_at old k j && has_at others k j)
    by (inl less) = h.met k j less
    by (inr above) = let gone = past old k j (omega arith) in h.left k j above ∙ (gone ∙ ap (λ b. b && has_at others k j) (sym gone))

-- ---- words that others lack

-- the bits that one of the words below a place has and the other at its place lacks
pub record IsExcess (words others : List FactSet) (i : ℕ) (e : FactSet) : Type 0 where
  pub none : (k j : ℕ) → k < i → has e j ≡ false → has_at words k j ≡ true → has_at others k j ≡ true
  pub some : (j : ℕ) → has e j ≡ true → (k : ℕ) × (has_at words k j ≡ true) × (has_at others k j ≡ false)

pub no_excess : (words others : List FactSet) (e : FactSet) → ((j : ℕ) → has e j ≡ false) → IsExcess words others 0 e
no_excess words others e empty = record { none = λ k j h. absurd (omega arith); some = λ j h. absurd (true≢false (sym h ∙ empty j)) }

pub excess_next : (words others : List FactSet) (i : ℕ) (e e' : FactSet) → IsExcess words others i e → ((j : ℕ) → has e' j ≡ (has e j || (has_at words i j && not (has_at others i j)))) → IsExcess words others (i + 1) e'
excess_next words others i e e' h more = record {
  none = λ k j less lacks. was k j less (cases_eq i k) (has e j) refl (has_at words i j) refl (has_at others i j) refl (sym (more j) ∙ lacks);
  some = λ j is. by j (has e j) refl (has_at words i j) refl (has_at others i j) refl (sym (more j) ∙ is);
}
  where
    was : (k j : ℕ) → k < i + 1 → (i ≡ k) ⊎ (i ≡ k → ⊥) → (a : Bool) → has e j ≡ a → (b : Bool) → has_at words i j ≡ b → (c : Bool) → has_at others i j ≡ c
        → (has e j || (has_at words i j && not (has_at others i j))) ≡ false → has_at words k j ≡ true → has_at others k j ≡ true
    was k j less (inr apart) false ea b eb c ec lacks = h.none k j (omega (arith, less, apart)) ea
    was k j less which true ea b eb c ec lacks = absurd (true≢false (sym (ap (λ a. a || (has_at words i j && not (has_at others i j))) ea) ∙ lacks))
    was k j less (inl same) false ea b eb true ec lacks = λ is. subst (λ k. has_at others k j ≡ true) same ec
    was k j less (inl same) false ea false eb false ec lacks = λ is. absurd (true≢false (sym is ∙ subst (λ k. has_at words k j ≡ false) same eb))
    was k j less (inl same) false ea true eb false ec lacks = absurd (true≢false (sym (ap₂ (λ a b. a || b) ea (ap₂ (λ b c. b && not c) eb ec)) ∙ lacks))

    by : (j : ℕ) (a : Bool) → has e j ≡ a → (b : Bool) → has_at words i j ≡ b → (c : Bool) → has_at others i j ≡ c
        → (has e j || (has_at words i j && not (has_at others i j))) ≡ true → (k : ℕ) × (has_at words k j ≡ true) × (has_at others k j ≡ false)
    by j true ea b eb c ec is = h.some j ea
    by j false ea true eb false ec is = (i, eb, ec)
    by j false ea true eb true ec is = absurd (true≢false (sym is ∙ ap₂ (λ a b. a || b) ea (ap₂ (λ b c. b && not c) eb ec)))
    by j false ea false eb c ec is = absurd (true≢false (sym is ∙ ap₂ (λ a b. a || b) ea (ap (λ b. b && not (has_at others i j)) eb)))

pub all_excess : (words others : List FactSet) (i : ℕ) (e : FactSet) → IsExcess words others i e → length words ≤ i → (k j : ℕ) → has e j ≡ false → has_at words k j ≡ true → has_at others k j ≡ true
all_excess words others i e h whole k j lacks is = by (cases_lt k i)
  where
    by : (k < i) ⊎ (i ≤ k) → has_at others k j ≡ true
    by (inl less) = h.none k j less lacks is
    by (inr above) = absurd (true≢false (sym is ∙ past words k j (omega (arith, whole, above))))
