-- What a process holds, one by one, weighs and is of the kinds of its variables, its lists of rows and its work list together.
use Rattle.std.proofs.Common.{◌≡◌, ℕ, ◌+◌, List, [], ◌∷◌, ◌++◌, map, flat_map, Option, Some, None, refl, sym, ap, ap₂, ◌∙◌, arith, append_assoc, append-nil}
use Rattle.herm_model.specs.Lists.{total, list_of}
use Rattle.herm_model.specs.Types.{TypeTable}
use Rattle.herm_model.specs.Values.{Kind, Cell, Parts, no_parts, gap, part}
use Rattle.herm_model.proofs.Lists.{total-append}
use Rattle.herm_journal.specs.Weights.{weigh, weigh_in, weigh_all}
use Rattle.herm_journal.specs.Kinds.{HaveKinds, AllKinds}
use Rattle.herm_journal.proofs.MoreKinds.{ListKinds}
use Rattle.herm_system.specs.Machines.{Held}
use Rattle.herm_system.specs.HeldParts.{untyped, in_variables, in_rows, held_parts}
use Rattle.herm_system.specs.Kinds.{kinds_of, kinds_in, each, all_of, typed_of, typed_in, typed_held}
use Rattle.herm_runs.specs.laws.ProcessLaws.{HeldKinds}

module _ {N : Type 0} (w : N → ℕ) where
  abbrev weigh_held : List (Held N) → ℕ
  weigh_held hs = total (λ (h : Held N). weigh w h.value) hs

  weigh-variables : (ts : List ℕ) (ps : Parts N) → weigh_held (in_variables ts ps) ≡ weigh_in w ps
  weigh-variables ts no_parts = refl
  weigh-variables [] (gap ps) = weigh-variables [] ps
  weigh-variables (t ∷ ts) (gap ps) = weigh-variables ts ps
  weigh-variables [] (part c ps) = ap (weigh w c +◌) (weigh-variables [] ps)
  weigh-variables (t ∷ ts) (part c ps) = ap (weigh w c +◌) (weigh-variables ts ps)

  weigh-rows : (t : Option ℕ) (ps : Parts N) → weigh_held (in_rows t ps) ≡ weigh_in w ps
  weigh-rows t no_parts = refl
  weigh-rows t (gap ps) = weigh-rows t ps
  weigh-rows t (part c ps) = ap (weigh w c +◌) (weigh-rows t ps)

  weigh-loops : {X : Type 0} (row : X → Option ℕ) (rows : X → Parts N) (lists : List X) → weigh_held (flat_map (λ (x : X). in_rows (row x) (rows x)) lists) ≡ total (λ (x : X). weigh_in w (rows x)) lists
  weigh-loops row rows [] = refl
  weigh-loops row rows (x ∷ lists) =
      omega (arith, total-append (λ (h : Held N). weigh w h.value) (in_rows (row x) (rows x)) (flat_map (λ (x : _). in_rows (row x) (rows x)) lists), weigh-rows (row x) (rows x), weigh-loops row rows lists)

  weigh-items : (cs : List (Cell N)) → weigh_held (map untyped cs) ≡ weigh_all w cs
  weigh-items [] = refl
  weigh-items (c ∷ cs) = ap (weigh w c +◌) (weigh-items cs)

  pub weigh-parts : {X : Type 0} (ts : List ℕ) (ps : Parts N) (row : X → Option ℕ) (rows : X → Parts N) (lists : List X) (work : List (Cell N)) → weigh_held (held_parts ts ps row rows lists work) ≡ weigh_in w ps + total (λ (x : X). weigh_in w (rows x)) lists + weigh_all w work
  weigh-parts ts ps row rows lists work =
      let variables = in_variables ts ps in
      let loops = flat_map (λ (x : _). in_rows (row x) (rows x)) lists in
      let items : List (Held N) = map untyped work in
      omega (
        arith,
        total-append (λ (h : Held N). weigh w h.value) (variables ++ loops) items,
        total-append (λ (h : Held N). weigh w h.value) variables loops,
        weigh-variables ts ps,
        weigh-loops row rows lists,
        weigh-items work,
      )

module _ {N : Type 0} (of : Kind → Type 0) where
  kinds-append : (hs ks : List (Held N)) → HeldKinds of hs → HeldKinds of ks → HeldKinds of (hs ++ ks)
  kinds-append [] ks h k = k
  kinds-append (x ∷ hs) ks h k = (h.0, kinds-append hs ks h.1 k)

  kinds-left : (hs ks : List (Held N)) → HeldKinds of (hs ++ ks) → HeldKinds of hs × HeldKinds of ks
  kinds-left [] ks h = (tt, h)
  kinds-left (x ∷ hs) ks h = let k = kinds-left hs ks h.1 in ((h.0, k.0), k.1)

  variables-held : (ts : List ℕ) (ps : Parts N) → HaveKinds of ps → HeldKinds of (in_variables ts ps)
  variables-held ts no_parts h = tt
  variables-held [] (gap ps) h = variables-held [] ps h
  variables-held (t ∷ ts) (gap ps) h = variables-held ts ps h
  variables-held [] (part c ps) h = (h.0, variables-held [] ps h.1)
  variables-held (t ∷ ts) (part c ps) h = (h.0, variables-held ts ps h.1)

  held-variables : (ts : List ℕ) (ps : Parts N) → HeldKinds of (in_variables ts ps) → HaveKinds of ps
  held-variables ts no_parts h = tt
  held-variables [] (gap ps) h = held-variables [] ps h
  held-variables (t ∷ ts) (gap ps) h = held-variables ts ps h
  held-variables [] (part c ps) h = (h.0, held-variables [] ps h.1)
  held-variables (t ∷ ts) (part c ps) h = (h.0, held-variables ts ps h.1)

  rows-held : (t : Option ℕ) (ps : Parts N) → HaveKinds of ps → HeldKinds of (in_rows t ps)
  rows-held t no_parts h = tt
  rows-held t (gap ps) h = rows-held t ps h
  rows-held t (part c ps) h = (h.0, rows-held t ps h.1)

  held-rows : (t : Option ℕ) (ps : Parts N) → HeldKinds of (in_rows t ps) → HaveKinds of ps
  held-rows t no_parts h = tt
  held-rows t (gap ps) h = held-rows t ps h
  held-rows t (part c ps) h = (h.0, held-rows t ps h.1)

  loops-held : {X : Type 0} (row : X → Option ℕ) (rows : X → Parts N) (lists : List X) → ListKinds of rows lists → HeldKinds of (flat_map (λ (x : X). in_rows (row x) (rows x)) lists)
  loops-held row rows [] h = tt
  loops-held row rows (x ∷ lists) h = kinds-append (in_rows (row x) (rows x)) _ (rows-held (row x) (rows x) h.0) (loops-held row rows lists h.1)

  held-loops : {X : Type 0} (row : X → Option ℕ) (rows : X → Parts N) (lists : List X) → HeldKinds of (flat_map (λ (x : X). in_rows (row x) (rows x)) lists) → ListKinds of rows lists
  held-loops row rows [] h = tt
  held-loops row rows (x ∷ lists) h =
      let k = kinds-left (in_rows (row x) (rows x)) (flat_map (λ (x : _). in_rows (row x) (rows x)) lists) h in (held-rows (row x) (rows x) k.0, held-loops row rows lists k.1)

  items-held : (cs : List (Cell N)) → AllKinds of cs → HeldKinds of (map untyped cs)
  items-held [] h = tt
  items-held (c ∷ cs) h = (h.0, items-held cs h.1)

  held-items : (cs : List (Cell N)) → HeldKinds of (map untyped cs) → AllKinds of cs
  held-items [] h = tt
  held-items (c ∷ cs) h = (h.0, held-items cs h.1)

  pub parts-are : {X : Type 0} (ts : List ℕ) (ps : Parts N) (row : X → Option ℕ) (rows : X → Parts N) (lists : List X) (work : List (Cell N)) → HaveKinds of ps → ListKinds of rows lists → AllKinds of work → HeldKinds of (held_parts ts ps row rows lists work)
  parts-are ts ps row rows lists work v l i =
      let variables = in_variables ts ps in
      let loops = flat_map (λ (x : _). in_rows (row x) (rows x)) lists in
      kinds-append (variables ++ loops) (map untyped work)
      (kinds-append variables loops (variables-held ts ps v) (loops-held row rows lists l)) (items-held work i)

  pub are-parts : {X : Type 0} (ts : List ℕ) (ps : Parts N) (row : X → Option ℕ) (rows : X → Parts N) (lists : List X) (work : List (Cell N)) → HeldKinds of (held_parts ts ps row rows lists work) → HaveKinds of ps × ListKinds of rows lists × AllKinds of work
  are-parts ts ps row rows lists work h =
      let variables = in_variables ts ps in
      let loops = flat_map (λ (x : _). in_rows (row x) (rows x)) lists in
      let k = kinds-left (variables ++ loops) (map untyped work) h in
      let j = kinds-left variables loops k.0 in
      (held-variables ts ps j.0, held-loops row rows lists j.1, held-items work k.1)

-- the typed cells of variables
pub typed-variables : {N : Type 0} (types : TypeTable) (ts : List ℕ) (ps : Parts N) → flat_map (typed_held types) (in_variables ts ps) ≡ typed_in types (each ts) ps
typed-variables types [] no_parts = refl
typed-variables types (t ∷ ts) no_parts = refl
typed-variables types [] (gap ps) = typed-variables types [] ps
typed-variables types (t ∷ ts) (gap ps) = typed-variables types ts ps
typed-variables types [] (part c ps) = typed-variables types [] ps
typed-variables types (t ∷ ts) (part c ps) = ap (typed_of types t c ++◌) (typed-variables types ts ps)

flat-append : {X Y : Type 0} (f : X → List Y) (xs ys : List X) → flat_map f (xs ++ ys) ≡ flat_map f xs ++ flat_map f ys
flat-append f [] ys = refl
flat-append f (x ∷ xs) ys = ap (f x ++◌) (flat-append f xs ys) ∙ sym (append_assoc (f x) (flat_map f xs) (flat_map f ys))

-- the kinds of all that a process holds are those of its variables, its loops' rows and its work list
module _ {N : Type 0} where
  kinds-variables : (ts : List ℕ) (ps : Parts N) → flat_map (λ (h : Held N). kinds_of h.value) (in_variables ts ps) ≡ kinds_in ps
  kinds-variables ts no_parts = refl
  kinds-variables [] (gap ps) = kinds-variables [] ps
  kinds-variables (t ∷ ts) (gap ps) = kinds-variables ts ps
  kinds-variables [] (part c ps) = ap (kinds_of c ++◌) (kinds-variables [] ps)
  kinds-variables (t ∷ ts) (part c ps) = ap (kinds_of c ++◌) (kinds-variables ts ps)

  kinds-rows : (t : Option ℕ) (ps : Parts N) → flat_map (λ (h : Held N). kinds_of h.value) (in_rows t ps) ≡ kinds_in ps
  kinds-rows t no_parts = refl
  kinds-rows t (gap ps) = kinds-rows t ps
  kinds-rows t (part c ps) = ap (kinds_of c ++◌) (kinds-rows t ps)

  kinds-loops : {X : Type 0} (row : X → Option ℕ) (rows : X → Parts N) (lists : List X) → flat_map (λ (h : Held N). kinds_of h.value) (flat_map (λ (x : X). in_rows (row x) (rows x)) lists) ≡ flat_map (λ (x : X). kinds_in (rows x)) lists
  kinds-loops row rows [] = refl
  kinds-loops row rows (x ∷ lists) =
      flat-append (λ (h : Held N). kinds_of h.value) (in_rows (row x) (rows x)) (flat_map (λ (x : _). in_rows (row x) (rows x)) lists)
      ∙ ap₂ (λ (xs ys : List Kind). xs ++ ys) (kinds-rows (row x) (rows x)) (kinds-loops row rows lists)

  kinds-items : (cs : List (Cell N)) → flat_map (λ (h : Held N). kinds_of h.value) (map untyped cs) ≡ flat_map kinds_of cs
  kinds-items [] = refl
  kinds-items (c ∷ cs) = ap (kinds_of c ++◌) (kinds-items cs)

  pub kinds-parts : {X : Type 0} (ts : List ℕ) (ps : Parts N) (row : X → Option ℕ) (rows : X → Parts N) (lists : List X) (work : List (Cell N)) → flat_map (λ (h : Held N). kinds_of h.value) (held_parts ts ps row rows lists work)
      ≡ kinds_in ps ++ flat_map (λ (x : X). kinds_in (rows x)) lists ++ flat_map kinds_of work
  kinds-parts ts ps row rows lists work =
      let variables = in_variables ts ps in
      let loops = flat_map (λ (x : _). in_rows (row x) (rows x)) lists in
      let items : List (Held N) = map untyped work in
      flat-append (λ (h : Held N). kinds_of h.value) (variables ++ loops) items
      ∙ ap₂ (λ (xs ys : List Kind). xs ++ ys)
      (flat-append (λ (h : Held N). kinds_of h.value) variables loops ∙ ap₂ (λ (xs ys : List Kind). xs ++ ys) (kinds-variables ts ps) (kinds-loops row rows lists))
      (kinds-items work)

-- and those at places with types are those of its variables and its loops' rows, by their types
module _ {N : Type 0} (types : TypeTable) where
  typed-rows : (t : ℕ) (ps : Parts N) → flat_map (typed_held types) (in_rows (Some t) ps) ≡ typed_in types (all_of t) ps
  typed-rows t no_parts = refl
  typed-rows t (gap ps) = typed-rows t ps
  typed-rows t (part c ps) = ap (typed_of types t c ++◌) (typed-rows t ps)

  untyped-rows : (ps : Parts N) → flat_map (typed_held types) (in_rows None ps) ≡ []
  untyped-rows no_parts = refl
  untyped-rows (gap ps) = untyped-rows ps
  untyped-rows (part c ps) = untyped-rows ps

  rows-typed : (t : Option ℕ) (ps : Parts N) → flat_map (typed_held types) (in_rows t ps) ≡ list_of (λ t. typed_in types (all_of t) ps) t
  rows-typed None ps = untyped-rows ps
  rows-typed (Some t) ps = typed-rows t ps

  loops-typed : {X : Type 0} (row : X → Option ℕ) (rows : X → Parts N) (lists : List X) → flat_map (typed_held types) (flat_map (λ (x : X). in_rows (row x) (rows x)) lists)
      ≡ flat_map (λ (x : X). list_of (λ t. typed_in types (all_of t) (rows x)) (row x)) lists
  loops-typed row rows [] = refl
  loops-typed row rows (x ∷ lists) =
      flat-append (typed_held types) (in_rows (row x) (rows x)) (flat_map (λ (x : _). in_rows (row x) (rows x)) lists)
      ∙ ap₂ (λ (xs ys : List (ℕ × Kind)). xs ++ ys) (rows-typed (row x) (rows x)) (loops-typed row rows lists)

  items-untyped : (cs : List (Cell N)) → flat_map (typed_held types) (map untyped cs) ≡ []
  items-untyped [] = refl
  items-untyped (c ∷ cs) = items-untyped cs

  pub typed-parts : {X : Type 0} (ts : List ℕ) (ps : Parts N) (row : X → Option ℕ) (rows : X → Parts N) (lists : List X) (work : List (Cell N)) → flat_map (typed_held types) (held_parts ts ps row rows lists work)
      ≡ typed_in types (each ts) ps ++ flat_map (λ (x : X). list_of (λ t. typed_in types (all_of t) (rows x)) (row x)) lists
  typed-parts ts ps row rows lists work =
      let variables = in_variables ts ps in
      let loops = flat_map (λ (x : _). in_rows (row x) (rows x)) lists in
      let items : List (Held N) = map untyped work in
      let own = typed_in types (each ts) ps in
      let stood = flat_map (λ (x : _). list_of (λ t. typed_in types (all_of t) (rows x)) (row x)) lists in
      flat-append (typed_held types) (variables ++ loops) items
      ∙ ap₂ (λ (xs ys : List (ℕ × Kind)). xs ++ ys)
      (flat-append (typed_held types) variables loops ∙ ap₂ (λ (xs ys : List (ℕ × Kind)). xs ++ ys) (typed-variables types ts ps) (loops-typed row rows lists))
      (items-untyped work)
      ∙ append-nil (own ++ stood)
