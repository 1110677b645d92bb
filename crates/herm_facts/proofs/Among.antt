-- The number of a component in a list of them.
use Rattle.std.proofs.Common.{◌≡◌, ◌⊎◌, inl, inr, ℕ, zero, suc, ◌+◌, ◌<◌, List, [], ◌∷◌, ◌++◌, length, map, Bool, true, false, cond, nat_eq, Some, None, get_or, take, refl, sym, ◌∙◌, ap, arith}
use Rattle.std.proofs.lemmas.Bool.{eq-eqb, eqb-true}
use Rattle.std.proofs.lemmas.List.{take_more}
use Rattle.herm_model.specs.Lists.{IsIn}
use Rattle.herm_model.proofs.Options.{some-injective, none-not_some}
use Rattle.herm_facts.specs.declared.numbered.Known.{Known}
use Rattle.herm_facts.specs.Numbers.{number_among}

pub among-front : (c : ℕ) (ks more : List Known) (n : ℕ) → number_among c ks ≡ Some n → number_among c (ks ++ more) ≡ Some n
among-front c [] more n e = none-not_some e
among-front c (k ∷ ks) more n e = by (nat_eq c k.component) e (among-front c ks more n)
  where
    by : (b : Bool) → cond b (Some k.number) (number_among c ks) ≡ Some n → (number_among c ks ≡ Some n → number_among c (ks ++ more) ≡ Some n) → cond b (Some k.number) (number_among c (ks ++ more)) ≡ Some n
    by true f again = f
    by false f again = again f

pub among-behind : (c : ℕ) (ks more : List Known) → number_among c ks ≡ None → number_among c (ks ++ more) ≡ number_among c more
among-behind c [] more e = refl
among-behind c (k ∷ ks) more e = by (nat_eq c k.component) e (among-behind c ks more)
  where
    by : (b : Bool) → cond b (Some k.number) (number_among c ks) ≡ None → (number_among c ks ≡ None → number_among c (ks ++ more) ≡ number_among c more) → cond b (Some k.number) (number_among c (ks ++ more)) ≡ number_among c more
    by true f again = none-not_some (sym f)
    by false f again = again f

pub among-other : (c d n : ℕ) (ks : List Known) → nat_eq c d ≡ false → number_among c (ks ++ record { component = d; number = n } ∷ []) ≡ number_among c ks
among-other c d n [] e = ap (λ b. cond b (Some n) None) e
among-other c d n (k ∷ ks) e = ap (cond (nat_eq c k.component) (Some k.number)) (among-other c d n ks e)

pub among-in : (c n : ℕ) (ks : List Known) → number_among c ks ≡ Some n → IsIn n (map (λ k. k.number) ks)
among-in c n [] e = none-not_some e
among-in c n (k ∷ ks) e = by (nat_eq c k.component) e (among-in c n ks)
  where
    by : (b : Bool) → cond b (Some k.number) (number_among c ks) ≡ Some n → (number_among c ks ≡ Some n → IsIn n (map (λ k. k.number) ks)) → (n ≡ k.number) ⊎ IsIn n (map (λ k. k.number) ks)
    by true f again = inl (sym (some-injective f))
    by false f again = inr (again f)

eqb-apart : (i j : ℕ) → (i ≡ j → ⊥) → nat_eq i j ≡ false
eqb-apart i j apart = by (nat_eq i j) refl
  where
    by : (b : Bool) → nat_eq i j ≡ b → b ≡ false
    by true e = absurd (apart (eqb-true i j e))
    by false e = refl

-- none before the place
pub among-next : (c : ℕ) (ks : List Known) (i : ℕ) (d : Known) → i < length ks → number_among c (take i ks) ≡ None → (c ≡ (get_or ks i d).component → ⊥) → number_among c (take (i + 1) ks) ≡ None
among-next c ks i d within none apart =
    ap (number_among c) (take_more ks i d within)
    ∙ (among-behind c (take i ks) (get_or ks i d ∷ []) none ∙ ap (λ b. cond b (Some (get_or ks i d).number) None) (eqb-apart c (get_or ks i d).component apart))

-- none before the place, and this one there
pub among-found : (c : ℕ) (ks : List Known) (i : ℕ) (d : Known) → i < length ks → number_among c (take i ks) ≡ None → c ≡ (get_or ks i d).component → number_among c ks ≡ Some (get_or ks i d).number
among-found c [] i d within none same = absurd (omega (arith, within))
among-found c (x ∷ ks) zero d within none same = ap (λ b. cond b (Some x.number) (number_among c ks)) (eq-eqb c x.component same)
among-found c (x ∷ ks) (suc i) d within none same = by (nat_eq c x.component) none (λ f. among-found c ks i d (omega (arith, within)) f same)
  where
    by : (b : Bool) → cond b (Some x.number) (number_among c (take i ks)) ≡ None → (number_among c (take i ks) ≡ None → number_among c ks ≡ Some (get_or ks i d).number) → cond b (Some x.number) (number_among c ks) ≡ Some (get_or ks i d).number
    by true f again = none-not_some (sym f)
    by false f again = again f
