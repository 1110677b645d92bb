-- Which labels are listed, by their indices.
use Rattle.std.proofs.Common.{◌≡◌, ℕ, zero, suc, ◌+◌, ◌<◌, ◌≤◌, List, [], ◌∷◌, ◌++◌, map, find, Bool, true, false, cond, nat_eq, Some, None, option_map, slice_get, inl, inr, refl, ap, ◌∙◌, arith}
use Rattle.std.proofs.lemmas.Bool.{eq-eqb, eqb-true}
use Rattle.herm_model.specs.Lists.{IsIn, total}
use Rattle.herm_model.specs.Types.{TypeTable}
use Rattle.herm_model.specs.Expressions.{Literal}
use Rattle.herm_model.specs.Statements.{Form, Assign, Move, New, Discard, Unite, Dissolve, Reveal, Case, Wrap, Unwrap, Insert, Remove, Get, For, Connect, Send, Receive, Select, Call, Return, ReturnBy, Create, If, While, Raise, Leave}
use Rattle.herm_model.specs.laws.FlowLaws.{Rise}
use Rattle.herm_model.proofs.Options.{some-injective, none-not_some}
use Rattle.herm_instructions.specs.Labels.{ListedLabel, listed_at}
use Rattle.herm_translated.specs.Fronts.{front_length}
use Rattle.herm_translated.specs.Departures.{Departure, edge_length}
use Rattle.herm_translated.specs.CodeBlocks.{CodeBlock}
use Rattle.herm_translated.specs.Layout.{edges_at, block_length, start_from}
use Rattle.herm_translated.specs.BlockLabels.{label_with, listed_with, is_named, facts_after, edge_slots, labels_within, edge_labels, block_labels, labels_from}
use Rattle.herm_translated.proofs.Addresses.{starts-behind}

-- The labels rise from an index on, below another one.
abbrev pub RiseWithin : (low high : ℕ) → List ListedLabel → Type 0
RiseWithin low high [] = low ≤ high
RiseWithin low high (x ∷ xs) = (low ≤ x.index) × RiseWithin (suc x.index) high xs

pub within-bound : (low high : ℕ) (xs : List ListedLabel) → RiseWithin low high xs → low ≤ high
within-bound low high [] h = h
within-bound low high (x ∷ xs) h = let r = within-bound (suc x.index) high xs h.1 in let q = h.0 in omega (arith, r, q)

pub within-from : (low less high : ℕ) (xs : List ListedLabel) → less ≤ low → RiseWithin low high xs → RiseWithin less high xs
within-from low less high [] l h = omega (arith, l, h)
within-from low less high (x ∷ xs) l h = let q = h.0 in (omega (arith, l, q), h.1)

pub within-to : (low high more : ℕ) (xs : List ListedLabel) → high ≤ more → RiseWithin low high xs → RiseWithin low more xs
within-to low high more [] l h = omega (arith, l, h)
within-to low high more (x ∷ xs) l h = (h.0, within-to (suc x.index) high more xs l h.1)

pub within-joined : (low middle high : ℕ) (xs ys : List ListedLabel) → RiseWithin low middle xs → RiseWithin middle high ys → RiseWithin low high (xs ++ ys)
within-joined low middle high [] ys h k = within-from middle low high ys h k
within-joined low middle high (x ∷ xs) ys h k = (h.0, within-joined (suc x.index) middle high xs ys h.1 k)

-- each index is from the low one on and below the high one
pub index-within : (low high : ℕ) (xs : List ListedLabel) → RiseWithin low high xs → (n : ℕ) → IsIn n (map (λ (x : ListedLabel). x.index) xs) → (low ≤ n) × (n < high)
index-within low high [] h n i = absurd i
index-within low high (x ∷ xs) h n (inl e) = let r = within-bound (suc x.index) high xs h.1 in let q = h.0 in (omega (arith, q, e), omega (arith, r, e))
index-within low high (x ∷ xs) h n (inr i) = let r = index-within (suc x.index) high xs h.1 n i in let a = r.0 in let q = h.0 in (omega (arith, a, q), r.1)

pub within-rise : (low high : ℕ) (xs : List ListedLabel) → RiseWithin low high xs → Rise (map (λ (x : ListedLabel). x.index) xs)
within-rise low high [] h = tt
within-rise low high (x ∷ xs) h = ((λ m i. (let r = index-within (suc x.index) high xs h.1 m i in let a = r.0 in omega (arith, a))), within-rise (suc x.index) high xs h.1)

-- one step of a look-up
pub listed-here : (x : ListedLabel) (xs : List ListedLabel) (n : ℕ) → x.index ≡ n → listed_at (x ∷ xs) n ≡ Some x.label
listed-here x xs n e = ap (λ b. option_map (λ (l : ListedLabel). l.label) (cond b (Some x) (find (λ (l : ListedLabel). nat_eq l.index n) xs))) (eq-eqb x.index n e)

pub listed-on : (x : ListedLabel) (xs : List ListedLabel) (n : ℕ) → (x.index ≡ n → ⊥) → listed_at (x ∷ xs) n ≡ listed_at xs n
listed-on x xs n d = by (nat_eq x.index n) refl
  where
    by : (b : Bool) → nat_eq x.index n ≡ b → option_map (λ (l : ListedLabel). l.label) (cond b (Some x) (find (λ (l : ListedLabel). nat_eq l.index n) xs)) ≡ listed_at xs n
    by true e = absurd (d (eqb-true x.index n e))
    by false e = refl

-- nothing is listed below or above
pub none-below : (low high : ℕ) (xs : List ListedLabel) → RiseWithin low high xs → (n : ℕ) → n < low → listed_at xs n ≡ None
none-below low high [] h n l = refl
none-below low high (x ∷ xs) h n l =
    let q = h.0 in listed-on x xs n (λ e. absurd (omega (arith, e, q, l))) ∙ none-below (suc x.index) high xs h.1 n (omega (arith, q, l))

pub none-above : (low high : ℕ) (xs : List ListedLabel) → RiseWithin low high xs → (n : ℕ) → high ≤ n → listed_at xs n ≡ None
none-above low high [] h n l = refl
none-above low high (x ∷ xs) h n l =
    let r = within-bound (suc x.index) high xs h.1 in listed-on x xs n (λ e. absurd (omega (arith, e, r, l))) ∙ none-above (suc x.index) high xs h.1 n l

-- among joined lists that rise, an index is looked up in its own one
pub listed-left : (middle high : ℕ) (xs ys : List ListedLabel) → RiseWithin middle high ys → (n : ℕ) → n < middle → listed_at (xs ++ ys) n ≡ listed_at xs n
listed-left middle high [] ys h n l = none-below middle high ys h n l
listed-left middle high (x ∷ xs) ys h n l = by (nat_eq x.index n) (listed-left middle high xs ys h n l)
  where
    by : (b : Bool) → listed_at (xs ++ ys) n ≡ listed_at xs n
        → option_map (λ (l : ListedLabel). l.label) (cond b (Some x) (find (λ (l : ListedLabel). nat_eq l.index n) (xs ++ ys))) ≡ option_map (λ (l : ListedLabel). l.label) (cond b (Some x) (find (λ (l : ListedLabel). nat_eq l.index n) xs))
    by true again = refl
    by false again = again

pub listed-right : (low middle : ℕ) (xs ys : List ListedLabel) → RiseWithin low middle xs → (n : ℕ) → middle ≤ n → listed_at (xs ++ ys) n ≡ listed_at ys n
listed-right low middle [] ys h n l = refl
listed-right low middle (x ∷ xs) ys h n l =
    let r = within-bound (suc x.index) middle xs h.1 in listed-on x (xs ++ ys) n (λ e. absurd (omega (arith, e, r, l))) ∙ listed-right (suc x.index) middle xs ys h.1 n l

module _ (types : TypeTable) (variables : List ℕ) where
  pub edge-labels_rise : (at : ℕ) (b : CodeBlock) (ds : List Departure) → RiseWithin at (at + total edge_length ds) (edge_labels types variables at b ds)
  edge-labels_rise at b [] = omega arith
  edge-labels_rise at b (d ∷ ds) =
      by (is_named d.outcome) (within-to (at + edge_length d) (at + edge_length d + total edge_length ds) (at + total edge_length (d ∷ ds)) (edge_labels types variables (at + edge_length d) b ds) (omega arith) (edge-labels_rise (at + edge_length d) b ds))
    where
      by : (named : Bool) → RiseWithin (at + edge_length d) (at + total edge_length (d ∷ ds)) (edge_labels types variables (at + edge_length d) b ds)
          → RiseWithin at (at + total edge_length (d ∷ ds)) (cond named (listed_with at (facts_after types variables b.form d.outcome b.facts) (edge_slots types variables b) ∷ []) [] ++ edge_labels types variables (at + edge_length d) b ds)
      by true again = (omega arith, within-from (at + edge_length d) (suc at) (at + total edge_length (d ∷ ds)) (edge_labels types variables (at + edge_length d) b ds) (omega arith) again)
      by false again = within-from (at + edge_length d) at (at + total edge_length (d ∷ ds)) (edge_labels types variables (at + edge_length d) b ds) (omega arith) again

  module _ (constants : List Literal) where
    within-rises : (at : ℕ) (again : Bool) (b : CodeBlock) (form : Form) → RiseWithin (suc at) (at + (1 + front_length types variables constants form)) (labels_within types variables at again b form)
    within-rises at true b (For r t) = (omega arith, (omega arith, omega arith))
    within-rises at false b (For r t) = (omega arith, omega arith)
    within-rises at again b (Assign x e) = omega arith
    within-rises at again b (Move y x) = omega arith
    within-rises at again b (New x) = omega arith
    within-rises at again b (Discard x) = omega arith
    within-rises at again b (Unite v c y) = omega arith
    within-rises at again b (Dissolve v c y) = omega arith
    within-rises at again b (Reveal v c) = omega arith
    within-rises at again b (Case v components) = omega arith
    within-rises at again b (Wrap y p) = omega arith
    within-rises at again b (Unwrap p t y) = omega arith
    within-rises at again b (Insert r t) = omega arith
    within-rises at again b (Remove r t keys) = omega arith
    within-rises at again b (Get r t keys) = omega arith
    within-rises at again b (Connect o i) = omega arith
    within-rises at again b (Send x o) = omega arith
    within-rises at again b (Receive x i) = omega arith
    within-rises at again b (Select arms) = omega arith
    within-rises at again b (Call o arguments) = omega arith
    within-rises at again b (Return m) = omega arith
    within-rises at again b (ReturnBy m e) = omega arith
    within-rises at again b (Create o n) = omega arith
    within-rises at again b (If e) = omega arith
    within-rises at again b (While e) = omega arith
    within-rises at again b (Raise e) = omega arith
    within-rises at again b Leave = omega arith

    behind-rises : (at : ℕ) (again : Bool) (b : CodeBlock) → RiseWithin (suc at) (at + block_length types variables constants b) (labels_within types variables at again b b.form ++ edge_labels types variables (edges_at types variables constants at b) b b.departures)
    behind-rises at again b =
        within-joined (suc at) (edges_at types variables constants at b) (at + block_length types variables constants b) (labels_within types variables at again b b.form) _ (within-rises at again b b.form)
        (within-to (edges_at types variables constants at b) (edges_at types variables constants at b + total edge_length b.departures) (at + block_length types variables constants b) (edge_labels types variables (edges_at types variables constants at b) b b.departures) (omega arith) (edge-labels_rise (edges_at types variables constants at b) b b.departures))

    pub block-labels_rise : (at : ℕ) (first again : Bool) (b : CodeBlock) → RiseWithin at (at + block_length types variables constants b) (block_labels types variables constants at first again b)
    block-labels_rise at true again b = (omega arith, behind-rises at again b)
    block-labels_rise at false again b = within-from (suc at) at (at + block_length types variables constants b) _ (omega arith) (behind-rises at again b)

    pub labels-rise : (first again : ℕ → Bool) (i at : ℕ) (bs : List CodeBlock) → RiseWithin at (at + total (block_length types variables constants) bs) (labels_from types variables constants first again i at bs)
    labels-rise first again i at [] = omega arith
    labels-rise first again i at (b ∷ bs) =
        within-joined at (at + block_length types variables constants b) (at + total (block_length types variables constants) (b ∷ bs)) (block_labels types variables constants at (first i) (again i) b) _ (block-labels_rise at (first i) (again i) b)
        (within-to (at + block_length types variables constants b) (at + block_length types variables constants b + total (block_length types variables constants) bs) (at + total (block_length types variables constants) (b ∷ bs)) (labels_from types variables constants first again (suc i) (at + block_length types variables constants b) bs) (omega arith) (labels-rise first again (suc i) (at + block_length types variables constants b) bs))

    -- an index of a block is looked up among the labels of the block
    pub listed-in_block : (first again : ℕ → Bool) (j at : ℕ) (bs : List CodeBlock) (i k : ℕ) (b : CodeBlock) (n : ℕ) → slice_get bs i ≡ Some b → k < block_length types variables constants b → n ≡ start_from types variables constants at bs i + k
        → listed_at (labels_from types variables constants first again j at bs) n ≡ listed_at (block_labels types variables constants (start_from types variables constants at bs i) (first (j + i)) (again (j + i)) b) n
    listed-in_block first again j at [] i k b n e h m = none-not_some e
    listed-in_block first again j at (c ∷ bs) zero k b n e h m =
        let same : c ≡ b = some-injective e in
        let long : block_length types variables constants c ≡ block_length types variables constants b = ap (block_length types variables constants) same in
        listed-left (at + block_length types variables constants c) (at + block_length types variables constants c + total (block_length types variables constants) bs) (block_labels types variables constants at (first j) (again j) c) _ (labels-rise first again (suc j) (at + block_length types variables constants c) bs) n (omega (arith, m, h, long))
        ∙ ap (λ (x : CodeBlock). listed_at (block_labels types variables constants at (first j) (again j) x) n) same
        ∙ ap (λ y. listed_at (block_labels types variables constants at (first y) (again y) b) n) (omega arith)
    listed-in_block first again j at (c ∷ bs) (suc i) k b n e h m =
        let behind = starts-behind types variables constants (at + block_length types variables constants c) bs i in
        listed-right at (at + block_length types variables constants c) (block_labels types variables constants at (first j) (again j) c) _ (block-labels_rise at (first j) (again j) c) n (omega (arith, m, behind))
        ∙ listed-in_block first again (suc j) (at + block_length types variables constants c) bs i k b n e h m
        ∙ ap (λ y. listed_at (block_labels types variables constants (start_from types variables constants (at + block_length types variables constants c) bs i) (first y) (again y) b) n) (omega arith)

    -- at its first index a block is labelled as its node is, where an edge leads there
    pub listed-first : (at : ℕ) (first again : Bool) (b : CodeBlock) → listed_at (block_labels types variables constants at first again b) at ≡ cond first (Some (label_with b.facts b.slots)) None
    listed-first at true again b = listed-here (listed_with at b.facts b.slots) _ at refl
    listed-first at false again b = none-below (suc at) (at + block_length types variables constants b) _ (behind-rises at again b) at (omega arith)

    -- behind it, that label says nothing
    past-first : (at : ℕ) (first again : Bool) (b : CodeBlock) (n : ℕ) → at < n → listed_at (block_labels types variables constants at first again b) n ≡ listed_at (labels_within types variables at again b b.form ++ edge_labels types variables (edges_at types variables constants at b) b b.departures) n
    past-first at true again b n low = listed-on (listed_with at b.facts b.slots) _ n (λ e. absurd (omega (arith, e, low)))
    past-first at false again b n low = refl

    -- within its front there are the labels of a `for` alone
    pub listed-within : (at : ℕ) (first again : Bool) (b : CodeBlock) (n : ℕ) → at < n → n < edges_at types variables constants at b → listed_at (block_labels types variables constants at first again b) n ≡ listed_at (labels_within types variables at again b b.form) n
    listed-within at first again b n low high =
        past-first at first again b n low
        ∙ listed-left (edges_at types variables constants at b) (edges_at types variables constants at b + total edge_length b.departures) (labels_within types variables at again b b.form) _ (edge-labels_rise (edges_at types variables constants at b) b b.departures) n high

    -- from its edges on there are the labels of the edges
    pub listed-edges : (at : ℕ) (first again : Bool) (b : CodeBlock) (n : ℕ) → edges_at types variables constants at b ≤ n → listed_at (block_labels types variables constants at first again b) n ≡ listed_at (edge_labels types variables (edges_at types variables constants at b) b b.departures) n
    listed-edges at first again b n low =
        past-first at first again b n (omega (arith, low))
        ∙ listed-right (suc at) (edges_at types variables constants at b) (labels_within types variables at again b b.form) _ (within-rises at again b b.form) n low
