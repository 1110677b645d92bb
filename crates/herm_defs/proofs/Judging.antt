-- Faults of lists of names, put together.
use Rattle.std.proofs.Common.{◌≡◌, ◌<◌, inl, inr, ℕ, zero, suc, ◌+◌, List, [], ◌∷◌, ◌++◌, map, take, drop, length, get_or, Option, Some, None, refl, sym, ◌∙◌, ap, subst, arith, append_assoc, append-nil, ◌≤◌, drop-cons}
use Rattle.std.proofs.lemmas.List.{take_more}
use Rattle.std.proofs.Math.ListN.{drop_of_length-le}
use denote.Bor.{Bor}
use Rattle.herm_syntax.specs.declared.definitions.DefItem.{DefItem}
use Rattle.herm_syntax.specs.declared.definitions.ParamForm.{ParamForm}
use Rattle.herm_syntax.specs.declared.definitions.ShapeForm.{ShapeForm}
use Rattle.herm_syntax.specs.View.{param_form_view, shape_form_view}
use Rattle.herm_defs.specs.Seen.{item_seen}
use Rattle.herm_base.specs.declared.word.Name.{Name}
use Rattle.herm_syntax.specs.declared.definitions.DefForm.TheVariants.{Shaped}
use Rattle.herm_syntax.specs.Trees.{Letters, Param}
use Rattle.herm_meaning.specs.Names.{NamedTable}
use Rattle.herm_meaning.specs.Marks.{Mark, Role, Place, places_in, places_by, places_from, in_turn, mark, a_type, shape_marks}
use Rattle.herm_meaning.specs.DefinitionFaults.{Code, unknown, twice, cycle, deep, bad_key, bad_state, Fault, Holds, AreFaults}
use Rattle.herm_defs.specs.declared.fault.DefCode.{DefCode}
use Rattle.herm_defs.specs.declared.fault.DefFault.{DefFault}
use Rattle.herm_defs.specs.Judged.{IsCodeAt, faults_by, marked, Judges, JudgesItem}
use Rattle.herm_defs.specs.View.{def_code_view, def_fault_view}

module _ (table : NamedTable) where
  moved : (module' : ℕ) (m : Mark) (c : Code) → Holds table c (module', m) → Holds table c (0, m)
  moved module' m unknown h = h
  moved module' m twice h = h
  moved module' m cycle h = h
  moved module' m deep h = h
  moved module' m bad_key h = h
  moved module' m bad_state h = h

  there : (module' : ℕ) (m : Mark) (c : Code) → Holds table c (0, m) → Holds table c (module', m)
  there module' m unknown h = h
  there module' m twice h = h
  there module' m cycle h = h
  there module' m deep h = h
  there module' m bad_key h = h
  there module' m bad_state h = h

  pub faults-append : (ps qs : List Place) (fs gs : List Fault) → AreFaults table ps fs → AreFaults table qs gs → AreFaults table (ps ++ qs) (fs ++ gs)
  faults-append [] qs fs gs a b = subst (λ xs. AreFaults table qs (xs ++ gs)) (sym a) b
  faults-append (p ∷ ps) qs fs gs (inl a) b = inl (a.0, faults-append ps qs fs gs a.1 b)
  faults-append (p ∷ ps) qs fs gs (inr a) b = inr (a.0, a.1 ++ gs, a.2, ap (λ xs. xs ++ gs) a.3, faults-append ps qs a.1 gs a.4 b)

  places-append : (module' : ℕ) (ms ns : List Mark) → places_in module' (ms ++ ns) ≡ places_in module' ms ++ places_in module' ns
  places-append module' [] ns = refl
  places-append module' (m ∷ ms) ns = ap ((module', m) ∷◌) (places-append module' ms ns)

  pub judges-none : (module' : ℕ) (faults : List DefFault) → Judges table module' [] faults faults
  judges-none module' faults = ([], sym (append-nil (map def_fault_view faults)), refl)

  pub judges-then : (module' : ℕ) (ms ns : List Mark) (a b c : List DefFault) → Judges table module' ms a b → Judges table module' ns b c → Judges table module' (ms ++ ns) a c
  judges-then module' ms ns a b c (f, e, x) (g, h, y) = (
    f ++ g,
    h ∙ (ap (λ xs. xs ++ g) e ∙ append_assoc (map def_fault_view a) f g),
    subst (λ ps. AreFaults table ps (f ++ g)) (sym (places-append module' ms ns)) (faults-append (places_in module' ms) (places_in module' ns) f g x y),
  )

  -- the fault at one name was appended
  pub judged : (module' : ℕ) (name : Name) (role : Role) (code : Option DefCode) (old new : List DefFault) → IsCodeAt table (marked name role) code → map def_fault_view new ≡ map def_fault_view old ++ faults_by module' name code → Judges table module' (mark name role) old new
  judged module' name role None old new right e = ([], e, inl (λ c h. right c (moved module' (marked name role) c h), refl))
  judged module' name role (Some code) old new first e = (
    faults_by module' name (Some code),
    e,
    inr (def_code_view code, [], (there module' (marked name role) (def_code_view code) first.0, λ d l h. first.1 d l (moved module' (marked name role) d h)), refl, refl),
  )

  -- ---- lists of names in turn

  turn-more : {X : Type 0} (name : X → Letters) (marks : List Letters → X → List Mark) (before : List Letters) (xs : List X) (x : X) → in_turn name marks before (xs ++ x ∷ []) ≡ in_turn name marks before xs ++ marks (before ++ map name xs) x
  turn-more name marks before [] x = append-nil (marks before x) ∙ ap (λ b. marks b x) (sym (append-nil before))
  turn-more name marks before (y ∷ ys) x =
      ap (marks before y ++◌) (turn-more name marks (before ++ name y ∷ []) ys x)
      ∙ (sym (append_assoc (marks before y) (in_turn name marks (before ++ name y ∷ []) ys) (marks ((before ++ name y ∷ []) ++ map name ys) x))
      ∙ ap (λ b. (marks before y ++ in_turn name marks (before ++ name y ∷ []) ys) ++ marks b x) (append_assoc before (name y ∷ []) (map name ys)))

  map-take : {X Y : Type 0} (f : X → Y) (i : ℕ) (xs : List X) → map f (take i xs) ≡ take i (map f xs)
  map-take f zero xs = refl
  map-take f (suc i) [] = refl
  map-take f (suc i) (x ∷ xs) = ap (f x ∷◌) (map-take f i xs)

  pub turn-next : {X : Type 0} (name : X → Letters) (marks : List Letters → X → List Mark) (xs : List X) (i : ℕ) (x : X) (names : List Letters) (module' : ℕ) (a b c : List DefFault) → names ≡ map name xs → i < length xs → x ≡ get_or xs i x → Judges table module' (in_turn name marks [] (take i xs)) a b → Judges table module' (marks (take i names) x) b c → Judges table module' (in_turn name marks [] (take (i + 1) xs)) a c
  turn-next name marks xs i x names module' a b c same l e before one =
      subst (λ ms. Judges table module' ms a c)
      (sym (ap (in_turn name marks []) (take_more xs i x l ∙ ap (λ y. take i xs ++ y ∷ []) (sym e)) ∙ turn-more name marks [] (take i xs) x))
      (judges-then module' (in_turn name marks [] (take i xs)) (marks (map name (take i xs)) x) a b c before
      (subst (λ ns. Judges table module' (marks ns x) b c) (ap (take i) same ∙ sym (map-take name i xs)) one))

pub param-names : (ps : List ParamForm) → map (λ (p : Param). p.1.0) (map param_form_view ps) ≡ map (λ (p : ParamForm). p.field.name.text) ps
param-names [] = refl
param-names (p ∷ ps) = ap (p.field.name.text ∷◌) (param-names ps)

-- ---- items

module _ (table : NamedTable) where
  pub item-type : (module' : ℕ) (item : DefItem) (shape : ShapeForm) (t e : ℕ) (old new : List DefFault) → item.form ≡ Shaped shape → Judges table module' (mark item.name (a_type t (shape_form_view shape)) ++ shape_marks shape) old new → JudgesItem table module' item t e (t + 1, e) old new
  item-type module' item shape t e old new is (more, same, faults) = (
    more,
    same,
    λ behind rest a. subst (λ form. AreFaults table (places_by module' item.name form t e behind) (more ++ rest)) (sym is)
        (faults-append table (places_in module' (mark item.name (a_type t (shape_form_view shape)) ++ shape_marks shape)) (behind (suc t) e) more rest faults (subst (λ n. AreFaults table (behind n e) rest) {x = t + 1} {y = suc t} (omega arith) a)),
  )

  pub items-next : (items : List (ℕ × Bor DefItem)) (i : ℕ) (o : ℕ × Bor DefItem) (t e : ℕ) (next : ℕ × ℕ) (old new : List DefFault) (whole : List Place) → i < length items → o ≡ get_or items i o → JudgesItem table o.0 o.1.now t e next old new
      → ((rest : List Fault) → AreFaults table (places_from (map item_seen (drop i items)) t e) rest → AreFaults table whole (map def_fault_view old ++ rest))
      → (rest : List Fault) → AreFaults table (places_from (map item_seen (drop (i + 1) items)) next.0 next.1) rest → AreFaults table whole (map def_fault_view new ++ rest)
  items-next items i o t e next old new whole l is (more, same, judges) before rest a =
      let after : AreFaults table (places_from (map item_seen (drop (suc i) items)) next.0 next.1) rest = subst (λ n. AreFaults table (places_from (map item_seen (drop n items)) next.0 next.1) rest) {x = i + 1} {y = suc i} (omega arith) a in
      let one : AreFaults table (places_from (item_seen o ∷ map item_seen (drop (suc i) items)) t e) (more ++ rest) = judges (places_from (map item_seen (drop (suc i) items))) rest after in
      let here : AreFaults table (places_from (map item_seen (drop i items)) t e) (more ++ rest) = subst (λ xs. AreFaults table (places_from (map item_seen xs) t e) (more ++ rest)) (ap (λ x. x ∷ drop (suc i) items) is ∙ sym (drop-cons items i o l)) one in
      subst (λ fs. AreFaults table whole fs) (sym (ap (λ xs. xs ++ rest) same ∙ append_assoc (map def_fault_view old) more rest)) (before (more ++ rest) here)

  pub items-end : (items : List (ℕ × Bor DefItem)) (i t e : ℕ) (faults : List DefFault) (whole : List Place) → length items ≤ i → ((rest : List Fault) → AreFaults table (places_from (map item_seen (drop i items)) t e) rest → AreFaults table whole (map def_fault_view faults ++ rest)) → AreFaults table whole (map def_fault_view faults)
  items-end items i t e faults whole l before =
      subst (λ fs. AreFaults table whole fs) (append-nil (map def_fault_view faults))
      (before [] (subst (λ xs. AreFaults table (places_from (map item_seen xs) t e) []) (sym (drop_of_length-le items {i = i} l)) refl))
