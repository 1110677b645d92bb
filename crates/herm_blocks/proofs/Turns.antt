-- One turn of the loops over nodes.
use Rattle.std.proofs.Common.{◌≡◌, ℕ, ◌+◌, List, [], ◌∷◌, ◌++◌, Bool, true, false, cond, refl, sym, ap, ap₂, ◌∙◌, append_assoc}
use Rattle.herm_model.specs.Paths.{Path, Fact}
use Rattle.herm_model.specs.Types.{TypeTable}
use Rattle.herm_instructions.specs.Labels.{Slot}
use Rattle.herm_translated.specs.CodeBlocks.{slots_within}
use Rattle.herm_blocks.specs.Scopes.{list_at, open_at, SeenNode, SeenWays, MarkedBlock, ways_at, ways_by, handed_by, block_with, facts_by, settled_by}

pushed : {X : Type 0} (found new rest whole : List X) (x : X) → new ≡ found ++ x ∷ [] → found ++ (x ∷ rest) ≡ whole → new ++ rest ≡ whole
pushed found new rest whole x e f = ap (λ xs. xs ++ rest) e ∙ (append_assoc found (x ∷ []) rest ∙ f)

pub ways-next : (types : TypeTable) (variables numbers lengths : List ℕ) (nodes : List SeenNode) (drops : List (List (List Path))) (found new whole : List SeenWays) (i : ℕ) (before slots within : List Slot) (w : SeenWays) (n : SeenNode) (left : List (List Path)) (list rest : List SeenNode)
    → slots ≡ open_at lengths n.number before → within ≡ slots_within types variables n.number n.form slots → left ≡ list_at drops i → w ≡ ways_at types variables numbers lengths nodes (i + 1) slots n left → new ≡ found ++ w ∷ [] → list ≡ n ∷ rest
    → found ++ ways_by types variables numbers lengths nodes i before list drops ≡ whole → new ++ ways_by types variables numbers lengths nodes (i + 1) within rest drops ≡ whole
ways-next types variables numbers lengths nodes drops found new whole i before slots within w n left list rest s e d f g h k =
    pushed found new (ways_by types variables numbers lengths nodes (i + 1) within rest drops) whole w g
    (ap (λ ws. found ++ ws)
    (ap₂ (λ w ws. w ∷ ws)
    (f ∙ ap₂ (λ xs ds. ways_at types variables numbers lengths nodes (i + 1) xs n ds) s d)
    (ap (λ xs. ways_by types variables numbers lengths nodes (i + 1) xs rest drops) (e ∙ ap (slots_within types variables n.number n.form) s))
    ∙ ap (λ ns. ways_by types variables numbers lengths nodes i before ns drops) (sym h))
    ∙ k)

-- what is handed on to a block to which an edge leads is not looked at

facts-led : (b : Bool) (w : SeenWays) (label handed : List Fact) → b ≡ true → facts_by b w.node.form label handed ≡ label
facts-led b w label handed e = ap (λ b. facts_by b w.node.form label handed) e

unheard : (led : ℕ → Bool) (labels : List (List Fact)) (i : ℕ) (handed other : List Fact) (ways : List SeenWays) → led i ≡ true → settled_by led labels i handed ways ≡ settled_by led labels i other ways
unheard led labels i handed other [] e = refl
unheard led labels i handed other (w ∷ ways) e =
    ap (λ facts. block_with w facts ∷ settled_by led labels (i + 1) (handed_by w.node.edges facts) ways)
    (facts-led (led i) w (list_at labels i) handed e ∙ sym (facts-led (led i) w (list_at labels i) other e))

unless-led : (led : ℕ → Bool) (labels : List (List Fact)) (i : ℕ) (handed : List Fact) (ways : List SeenWays) (b : Bool) → led i ≡ b → settled_by led labels i (cond b [] handed) ways ≡ settled_by led labels i handed ways
unless-led led labels i handed ways true e = unheard led labels i [] handed ways e
unless-led led labels i handed ways false e = refl

pub settled-next : (led : ℕ → Bool) (labels : List (List Fact)) (found new whole : List MarkedBlock) (i j : ℕ) (w : SeenWays) (handed facts after : List Fact) (b : MarkedBlock) (rest : List SeenWays)
    → facts ≡ facts_by (led i) w.node.form (list_at labels i) handed → after ≡ cond (led j) [] (handed_by w.node.edges facts) → b ≡ block_with w facts → new ≡ found ++ b ∷ [] → j ≡ i + 1
    → found ++ settled_by led labels i handed (w ∷ rest) ≡ whole → new ++ settled_by led labels j after rest ≡ whole
settled-next led labels found new whole i j w handed facts after b rest e f g h k m =
    pushed found new (settled_by led labels j after rest) whole b h
    (ap (λ bs. found ++ bs)
    (ap₂ (λ b bs. b ∷ bs)
    (g ∙ ap (block_with w) e)
    (ap (λ facts. settled_by led labels j facts rest) f
    ∙ (unless-led led labels j (handed_by w.node.edges facts) rest (led j) refl
    ∙ ap₂ (λ j facts. settled_by led labels j facts rest) k (ap (handed_by w.node.edges) e))))
    ∙ m)
