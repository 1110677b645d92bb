-- Tables by exception number.
use Rattle.std.proofs.Common.{◌≡◌, ℕ, zero, suc, ◌<◌, List, [], ◌∷◌, ◌++◌, length, map, drop, Bool, true, false, cond, nat_eq, Option, Some, None, option_map, is_some, slice_get, slice_set, get_or, inl, inr, refl, sym, ap, ap₂, subst, ◌∙◌, arith, true≢false}
use Rattle.std.proofs.lemmas.Bool.{eqb-true, eqb-false, eq-eqb}
use Rattle.std.proofs.lemmas.Option.{slice_get_read}
use Rattle.std.proofs.Math.Seq.{drop-cons, drop-length}
use Rattle.herm_model.specs.Lists.{IsIn, list_of}
use Rattle.herm_model.specs.Types.{Raised}
use Rattle.herm_model.specs.Calls.{kept_for}
use Rattle.herm_model.specs.Outcomes.{disconnected}
use Rattle.herm_model.specs.Targets.{Target, node, end, end_by}
use Rattle.herm_model.specs.Handlers.{Catch, caught}
use Rattle.herm_model.proofs.Lists.{slice_get-map, length-map}
use Rattle.herm_types.specs.declared.shape.RaiseDecl.{RaiseDecl}
use Rattle.herm_types.specs.View.{raise_decl_view}
use Rattle.herm_flow.specs.Onward.{is_node}
use Rattle.herm_flow.specs.NumberTables.{at_number, point_of, kept_if_raised, kept_at, has_entry}

-- ---- entries

pub entry_pushed : (table : List (Option ℕ)) (e : ℕ) → at_number (table ++ (None ∷ [])) e ≡ at_number table e
entry_pushed [] zero = refl
entry_pushed [] (suc e) = refl
entry_pushed (o ∷ table) zero = refl
entry_pushed (o ∷ table) (suc e) = entry_pushed table e

set-same : (table : List (Option ℕ)) (i : ℕ) (o : Option ℕ) → i < length table → at_number (slice_set table i o) i ≡ o
set-same [] i o h = absurd (omega (arith, h))
set-same (x ∷ table) zero o h = refl
set-same (x ∷ table) (suc i) o h = set-same table i o (omega (arith, h))

set-other : (table : List (Option ℕ)) (i e : ℕ) (o : Option ℕ) → (i ≡ e → ⊥) → at_number (slice_set table i o) e ≡ at_number table e
set-other [] i e o h = refl
set-other (x ∷ table) zero zero o h = absurd (h refl)
set-other (x ∷ table) zero (suc e) o h = refl
set-other (x ∷ table) (suc i) zero o h = refl
set-other (x ∷ table) (suc i) (suc e) o h = set-other table i e o (λ r. h (ap suc r))

pub entry_set : (table : List (Option ℕ)) (i e : ℕ) (o : Option ℕ) → i < length table → at_number (slice_set table i o) e ≡ cond (nat_eq i e) o (at_number table e)
entry_set table i e o h = by (nat_eq i e) refl
  where
    by : (t : Bool) → nat_eq i e ≡ t → at_number (slice_set table i o) e ≡ cond t o (at_number table e)
    by true r = subst (λ n. at_number (slice_set table i o) n ≡ o) (eqb-true i e r) (set-same table i o h)
    by false r = set-other table i e o (eqb-false i e r)

-- what has an entry lies within the table
pub entry-within : (table : List (Option ℕ)) (e : ℕ) → has_entry table e ≡ true → e < length table
entry-within [] e h = absurd (true≢false (sym h))
entry-within (o ∷ table) zero h = omega arith
entry-within (o ∷ table) (suc e) h = let r = entry-within table e h in omega (arith, r)

-- ---- points

-- a handler in front of others
pub caught_more : (c : Catch) (cs : List Catch) (e : ℕ) → point_of (caught (c ∷ cs) e) ≡ cond (nat_eq c.exception e) (point_of c.target) (point_of (caught cs e))
caught_more c cs e = by (nat_eq c.exception e)
  where
    by : (b : Bool) → point_of (cond b c.target (caught cs e)) ≡ cond b (point_of c.target) (point_of (caught cs e))
    by true = refl
    by false = refl

pub point-node : (t : Target) → is_some (point_of t) ≡ is_node t
point-node (node i) = refl
point-node end = refl
point-node (end_by e) = refl

-- ---- what exceptions keep

pub kept-some : (raises : List Raised) (o : Option ℕ) → is_some (kept_at raises o) ≡ is_some o
kept-some raises None = refl
kept-some raises (Some i) = refl

-- one that is declared in front of others
declared-put : (raises : List Raised) (x place e : ℕ) (k : List ℕ) (rest : Option (List ℕ)) (points table : List (Option ℕ)) → list_of (λ (r : Raised). r.kept) (slice_get raises place) ≡ k
    → kept_at raises (at_number table e) ≡ cond (is_some (at_number points e)) rest None
    → kept_at raises (cond (is_some (at_number points x)) (cond (nat_eq x e) (Some place) (at_number table e)) (at_number table e)) ≡ cond (is_some (at_number points e)) (cond (nat_eq x e) (Some k) rest) None
declared-put raises x place e k rest points table there before = by (nat_eq x e) refl
  where
    at-it : (b : Bool) → is_some (at_number points x) ≡ b → x ≡ e → kept_at raises (cond b (Some place) (at_number table e)) ≡ cond b (Some k) None
    at-it true h same = ap Some there
    at-it false h same = before ∙ ap (λ b. cond b rest None) (sym (ap (λ n. is_some (at_number points n)) same) ∙ h)

    passed : (b : Bool) → kept_at raises (cond b (at_number table e) (at_number table e)) ≡ cond (is_some (at_number points e)) rest None
    passed true = before
    passed false = before

    by : (c : Bool) → nat_eq x e ≡ c → kept_at raises (cond (is_some (at_number points x)) (cond c (Some place) (at_number table e)) (at_number table e)) ≡ cond (is_some (at_number points e)) (cond c (Some k) rest) None
    by true h =
        let same = eqb-true x e h in
        at-it (is_some (at_number points x)) refl same ∙ ap (λ n. cond (is_some (at_number points n)) (Some k) None) same
    by false h = passed (is_some (at_number points x))

behind-all : (raises : List Raised) → slice_get raises (length raises) ≡ None
behind-all [] = refl
behind-all (r ∷ raises) = behind-all raises

-- Disconnected behind all that are declared
pub declared-first : (raises : List RaiseDecl) (points : List (Option ℕ)) (e : ℕ) → kept_at (map raise_decl_view raises) (cond (is_some (at_number points disconnected)) (cond (nat_eq disconnected e) (Some (length raises)) None) None) ≡ cond (is_some (at_number points e)) (kept_if_raised (map raise_decl_view (drop (length raises) raises)) e) None
declared-first raises points e =
    declared-put (map raise_decl_view raises) disconnected (length raises) e [] None points []
    (ap (λ n. list_of (λ (r : Raised). r.kept) (slice_get (map raise_decl_view raises) n)) (sym (length-map raise_decl_view raises)) ∙ ap (list_of (λ (r : Raised). r.kept)) (behind-all (map raise_decl_view raises)))
    (sym (same-none (is_some (at_number points e))))
    ∙ ap (λ rs. cond (is_some (at_number points e)) (kept_if_raised (map raise_decl_view rs) e) None) (sym (drop-length raises))
  where
    same-none : (b : Bool) → cond b None None ≡ kept_at (map raise_decl_view raises) None
    same-none true = refl
    same-none false = refl

pub declared-more : (raises : List RaiseDecl) (r : RaiseDecl) (place left : ℕ) (points table : List (Option ℕ)) → left ≡ suc place → place < length raises → r ≡ get_or raises place r
    → ((e : ℕ) → kept_at (map raise_decl_view raises) (at_number table e) ≡ cond (is_some (at_number points e)) (kept_if_raised (map raise_decl_view (drop left raises)) e) None)
    → (e : ℕ) → kept_at (map raise_decl_view raises) (cond (is_some (at_number points r.exc.0)) (cond (nat_eq r.exc.0 e) (Some place) (at_number table e)) (at_number table e)) ≡ cond (is_some (at_number points e)) (kept_if_raised (map raise_decl_view (drop place raises)) e) None
declared-more raises r place left points table next within is before e =
    declared-put (map raise_decl_view raises) r.exc.0 place e r.keeps.items (kept_if_raised (map raise_decl_view (drop left raises)) e) points table
    (ap (list_of (λ (x : Raised). x.kept)) (slice_get-map raise_decl_view raises place ∙ ap (option_map raise_decl_view) (slice_get_read raises (length raises) place r refl within is)))
    (before e)
    ∙ ap (λ rs. cond (is_some (at_number points e)) (kept_if_raised (map raise_decl_view rs) e) None) (ap₂ ◌∷◌ is (ap (λ n. drop n raises) next) ∙ sym (drop-cons raises place r within))

abbrev none_kept : List ℕ
none_kept = []

pub raised-kept_for : (raises : List Raised) (e : ℕ) → list_of (λ k. k) (kept_if_raised raises e) ≡ kept_for raises e
raised-kept_for [] e = go (nat_eq disconnected e)
  where
    go : (b : Bool) → list_of (λ (k : List ℕ). k) (cond b (Some none_kept) None) ≡ []
    go true = refl
    go false = refl
raised-kept_for (r ∷ raises) e = go (nat_eq r.exception e) (raised-kept_for raises e)
  where
    go : (b : Bool) → list_of (λ k. k) (kept_if_raised raises e) ≡ kept_for raises e → list_of (λ k. k) (cond b (Some r.kept) (kept_if_raised raises e)) ≡ cond b r.kept (kept_for raises e)
    go true again = refl
    go false again = again

-- what a call can raise
pub raised-in : (raises : List Raised) (e : ℕ) → is_some (kept_if_raised raises e) ≡ true → IsIn e (disconnected ∷ map (λ (r : Raised). r.exception) raises)
raised-in [] e h = go (nat_eq disconnected e) refl h
  where
    go : (b : Bool) → nat_eq disconnected e ≡ b → is_some (cond b (Some none_kept) None) ≡ true → IsIn e (disconnected ∷ [])
    go true k h = inl (sym (eqb-true disconnected e k))
    go false k h = absurd (true≢false (sym h))
raised-in (r ∷ raises) e h = go (nat_eq r.exception e) refl (raised-in raises e) h
  where
    later : IsIn e (disconnected ∷ map (λ (x : Raised). x.exception) raises) → IsIn e (disconnected ∷ r.exception ∷ map (λ (x : Raised). x.exception) raises)
    later (inl k) = inl k
    later (inr k) = inr (inr k)

    go : (b : Bool) → nat_eq r.exception e ≡ b → (is_some (kept_if_raised raises e) ≡ true → IsIn e (disconnected ∷ map (λ (x : Raised). x.exception) raises)) → is_some (cond b (Some r.kept) (kept_if_raised raises e)) ≡ true → IsIn e (disconnected ∷ r.exception ∷ map (λ (x : Raised). x.exception) raises)
    go true k again h = inr (inl (sym (eqb-true r.exception e k)))
    go false k again h = later (again h)

pub in-raised : (raises : List Raised) (e : ℕ) → IsIn e (disconnected ∷ map (λ (r : Raised). r.exception) raises) → is_some (kept_if_raised raises e) ≡ true
in-raised [] e (inl k) = ap (λ b. is_some (cond b (Some none_kept) None)) (eq-eqb disconnected e (sym k))
in-raised [] e (inr k) = absurd k
in-raised (r ∷ raises) e h = go (nat_eq r.exception e) refl (in-raised raises e) h
  where
    go : (b : Bool) → nat_eq r.exception e ≡ b → (IsIn e (disconnected ∷ map (λ (x : Raised). x.exception) raises) → is_some (kept_if_raised raises e) ≡ true) → IsIn e (disconnected ∷ r.exception ∷ map (λ (x : Raised). x.exception) raises) → is_some (cond b (Some r.kept) (kept_if_raised raises e)) ≡ true
    go true k again h = refl
    go false k again (inl h) = again (inl h)
    go false k again (inr (inl h)) = absurd (eqb-false r.exception e k (sym h))
    go false k again (inr (inr h)) = again (inr h)
