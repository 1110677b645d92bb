-- How long the code of a process is at most.
use Rattle.std.proofs.Common.{◌≡◌, ℕ, suc, ◌+◌, ◌*◌, ◌≤◌, length, List, [], ◌∷◌, filter, not, Bool, true, false, cond, Option, Some, None, refl, ap, subst, arith, inl, inr, length-append}
use Rattle.std.proofs.Math.Nat.{add-mul, mul-le-mul_right}
use Rattle.std.proofs.lemmas.List.Sums.{length-filter, count_by-le-length}
use Rattle.herm_model.specs.Lists.{IsIn, total, list_of}
use Rattle.herm_model.specs.Paths.{Path, Fact}
use Rattle.herm_model.specs.Types.{TypeTable, Shape, boolean, integer, text, polymorph, names, fields, cases, rows, inport, outport, callmessage}
use Rattle.herm_model.specs.Expressions.{Literal}
use Rattle.herm_model.specs.Statements.{Form, Assign, Move, New, Discard, Unite, Dissolve, Reveal, Case, Wrap, Unwrap, Insert, Remove, Get, For, Connect, Send, Receive, Select, Call, Return, ReturnBy, Create, If, While, Raise, Leave}
use Rattle.herm_model.specs.Calls.{shape_at}
use Rattle.herm_model.specs.Outcomes.{Outcome, ok}
use Rattle.herm_model.specs.Nodes.{Node}
use Rattle.herm_model.specs.Exits.{Exit, exits}
use Rattle.herm_model.specs.Targets.{Target, node, end, end_by}
use Rattle.herm_model.proofs.Lists.{length-map}
use Rattle.herm_forms.specs.Modules.{Module}
use Rattle.herm_forms.specs.LeavingLoops.{keeps_loop}
use Rattle.herm_instructions.specs.Labels.{Slot}
use Rattle.herm_instructions.specs.Effects.{row_type}
use Rattle.herm_translated.specs.Fronts.{front_length}
use Rattle.herm_translated.specs.Departures.{Departure, edge_length}
use Rattle.herm_translated.specs.CodeBlocks.{CheckedModule, CodeBlock, blocks_of, blocks_from, entry_edge, departure, departures_of, edges_of, goes_onward, is_around, own_slot, slots_among, slots_around, slots_within, slots_left, first_list, further_lists}
use Rattle.herm_translated.specs.Layout.{block_length}
use Rattle.herm_translated.specs.Settled.{settled}
use Rattle.herm_translated.proofs.Addresses.{code-laid_out}
use Rattle.herm_good_images.specs.laws.CodeLengths.{HasShortEdges, CodeIsBounded, longest_edge, HasFewExits, IndicesFit}

-- edges of at most so many instructions
edges-short : (most : ℕ) (ds : List Departure) → ((d : Departure) → IsIn d ds → edge_length d ≤ most) → total edge_length ds ≤ length ds * most
edges-short most [] h = omega arith
edges-short most (d ∷ ds) h = omega (arith, h d (inl refl), edges-short most ds (λ e m. h e (inr m)), add-mul 1 (length ds) most)

module _ (c : Module) where
  as-many : (slots : List Slot) (xs : List Exit) (drops : List (List Path)) → length (departures_of c slots xs drops) ≡ length xs
  as-many slots [] drops = refl
  as-many slots (x ∷ xs) drops = ap suc (as-many slots xs (further_lists drops))

  fewer : (b : Bool) (ds : List Departure) → length (cond b [] ds) ≤ length ds
  fewer true ds = omega arith
  fewer false ds = omega arith

  bounded-from : (constants : List Literal) (most i : ℕ) (ns : List Node) (facts : List (List Fact)) (drops : List (List (List Path)))
      → ((b : CodeBlock) (d : Departure) → IsIn b (blocks_from c i ns facts drops) → IsIn d b.departures → edge_length d ≤ most)
      → total (block_length c.types c.variables constants) (blocks_from c i ns facts drops)
      ≤ length ns + (total (λ (n : Node). front_length c.types c.variables constants n.form) ns + total (λ (n : Node). length (exits c.types c.variables n)) ns * most)
  bounded-from constants most i [] facts drops h = omega arith
  bounded-from constants most i (n ∷ ns) facts drops h =
      let es = edges_of c i n (first_list drops) in
      let left = cond (goes_onward c i es) [] es in
      let many = as-many (slots_within c.types c.variables n.number n.form (slots_around c i)) (exits c.types c.variables n) (first_list drops) in
      let rest = bounded-from constants most (suc i) ns (further_lists facts) (further_lists drops) (λ b d m. h b d (inr m)) in
      omega (
        arith,
        edges-short most left (λ d m. h _ d (inl refl) m),
        mul-le-mul_right most (fewer (goes_onward c i es) es),
        ap (λ k. k * most) many,
        rest,
        add-mul (length (exits c.types c.variables n)) (total (λ (x : Node). length (exits c.types c.variables x)) ns) most,
      )

row-one : (s : Shape) → length (row_type s) ≤ 1
row-one (rows row key) = omega arith
row-one boolean = omega arith
row-one integer = omega arith
row-one text = omega arith
row-one (names count) = omega arith
row-one polymorph = omega arith
row-one (fields ts) = omega arith
row-one (cases ts) = omega arith
row-one (inport message declared) = omega arith
row-one (outport port) = omega arith
row-one (callmessage parameters raises) = omega arith

rows-one : (o : Option Shape) → length (list_of row_type o) ≤ 1
rows-one None = omega arith
rows-one (Some s) = row-one s

abbrev slot-of : (number row : ℕ) → Slot
slot-of number row = record { number = number; row = row }

own-one : (types : TypeTable) (variables : List ℕ) (number : ℕ) (form : Form) → length (own_slot types variables number form) ≤ 1
own-one types variables number (For r t) = omega (arith, length-map (slot-of number) (list_of row_type (shape_at types variables t)), rows-one (shape_at types variables t))
own-one types variables number (Assign x e) = omega arith
own-one types variables number (Move y x) = omega arith
own-one types variables number (New x) = omega arith
own-one types variables number (Discard x) = omega arith
own-one types variables number (Unite v c y) = omega arith
own-one types variables number (Dissolve v c y) = omega arith
own-one types variables number (Reveal v c) = omega arith
own-one types variables number (Case v cs) = omega arith
own-one types variables number (Wrap y p) = omega arith
own-one types variables number (Unwrap p t y) = omega arith
own-one types variables number (Insert r t) = omega arith
own-one types variables number (Remove r t keys) = omega arith
own-one types variables number (Get r t keys) = omega arith
own-one types variables number (Connect o i) = omega arith
own-one types variables number (Send x o) = omega arith
own-one types variables number (Receive x i) = omega arith
own-one types variables number (Select arms) = omega arith
own-one types variables number (Call o arguments) = omega arith
own-one types variables number (Return m) = omega arith
own-one types variables number (ReturnBy m e) = omega arith
own-one types variables number (Create o n) = omega arith
own-one types variables number (If e) = omega arith
own-one types variables number (While e) = omega arith
own-one types variables number (Raise e) = omega arith
own-one types variables number Leave = omega arith

filter-fewer : {X : Type 0} (p : X → Bool) (xs : List X) → length (filter p xs) ≤ length xs
filter-fewer p xs = omega (arith, length-filter p xs, count_by-le-length p xs)

module _ (c : Module) where
  one-at-most : (b : Bool) (l : Node) → length (cond b (own_slot c.types c.variables l.number l.form) []) ≤ 1
  one-at-most true l = own-one c.types c.variables l.number l.form
  one-at-most false l = omega arith

  few-among : (ls : List Node) (i : ℕ) → length (slots_among c ls i) ≤ length ls
  few-among [] i = omega arith
  few-among (l ∷ ls) i =
      omega (arith, length-append (slots_among c ls i) (cond (is_around c l i) (own_slot c.types c.variables l.number l.form) []), few-among ls i, one-at-most (is_around c l i) l)

  few-within : (n : Node) (i : ℕ) → length (slots_within c.types c.variables n.number n.form (slots_around c i)) ≤ 1 + length c.nodes
  few-within n i = omega (arith, length-append (own_slot c.types c.variables n.number n.form) (slots_around c i), own-one c.types c.variables n.number n.form, few-among c.nodes i)

  few-left : (slots : List Slot) (t : Target) → length (slots_left c slots t) ≤ length slots
  few-left slots t =
      omega (arith, length-map (λ (s : Slot). s.number) (filter (λ (s : Slot). not (keeps_loop c t s.number)) slots), filter-fewer (λ (s : Slot). not (keeps_loop c t s.number)) slots)

  one-short : (slots : List Slot) (o : Outcome) (t : Target) (drops : List Path) → edge_length (departure c slots o t drops) ≤ length drops + (length slots + 1)
  one-short slots o (node i) drops = omega (arith, few-left slots (node i))
  one-short slots o end drops = omega arith
  one-short slots o (end_by e) drops = omega arith

  first-few : (drops : List (List Path)) → ((paths : List Path) → IsIn paths drops → length paths ≤ 4096) → length (first_list drops) ≤ 4096
  first-few [] h = omega arith
  first-few (x ∷ xs) h = h x (inl refl)

  further-few : (drops : List (List Path)) → ((paths : List Path) → IsIn paths drops → length paths ≤ 4096) → (paths : List Path) → IsIn paths (further_lists drops) → length paths ≤ 4096
  further-few [] h paths m = absurd m
  further-few (x ∷ xs) h paths m = h paths (inr m)

  all-short : (slots : List Slot) (xs : List Exit) (drops : List (List Path)) → ((paths : List Path) → IsIn paths drops → length paths ≤ 4096)
      → (d : Departure) → IsIn d (departures_of c slots xs drops) → edge_length d ≤ 4096 + (length slots + 1)
  all-short slots [] drops h d m = absurd m
  all-short slots (x ∷ xs) drops h d (inl e) = omega (arith, ap edge_length e, one-short slots x.outcome x.target (first_list drops), first-few drops h)
  all-short slots (x ∷ xs) drops h d (inr m) = all-short slots xs (further_lists drops) (further-few drops h) d m

  in-left : (b : Bool) (ds : List Departure) (d : Departure) → IsIn d (cond b [] ds) → IsIn d ds
  in-left true ds d m = absurd m
  in-left false ds d m = m

  abbrev FewDrops : List (List (List Path)) → Type 0
  FewDrops drops = (edges : List (List Path)) (paths : List Path) → IsIn edges drops → IsIn paths edges → length paths ≤ 4096

  few-first : (drops : List (List (List Path))) → FewDrops drops → (paths : List Path) → IsIn paths (first_list drops) → length paths ≤ 4096
  few-first [] h paths m = absurd m
  few-first (x ∷ xs) h paths m = h x paths (inl refl) m

  few-further : (drops : List (List (List Path))) → FewDrops drops → FewDrops (further_lists drops)
  few-further [] h edges paths m = absurd m
  few-further (x ∷ xs) h edges paths m = h edges paths (inr m)

  short-from : (i : ℕ) (ns : List Node) (facts : List (List Fact)) (drops : List (List (List Path))) → FewDrops drops
      → (b : CodeBlock) (d : Departure) → IsIn b (blocks_from c i ns facts drops) → IsIn d b.departures → edge_length d ≤ 4096 + (1 + length c.nodes + 1)
  short-from i [] facts drops h b d m l = absurd m
  short-from i (n ∷ ns) facts drops h b d (inl e) l =
      let es = edges_of c i n (first_list drops) in
      let there = in-left (goes_onward c i es) es d (subst (λ (x : CodeBlock). IsIn d x.departures) e l) in
      omega (arith, all-short (slots_within c.types c.variables n.number n.form (slots_around c i)) (exits c.types c.variables n) (first_list drops) (few-first drops h) d there, few-within n i)
  short-from i (n ∷ ns) facts drops h b d (inr m) l = short-from (suc i) ns (further_lists facts) (further_lists drops) (few-further drops h) b d m l

edges-few : (constants : List Literal) (m : CheckedModule) → HasFewExits constants m → HasShortEdges longest_edge m
edges-few constants m few = record {
  entry = omega (arith, one-short m.code [] ok m.code.entry m.entry_drops, few.entry_drops);
  edges = λ b d i l. omega (arith, short-from m.code 0 m.code.nodes (settled m).facts m.drops few.drops b d i l, few.nodes);
}

pub code-bounded : CodeIsBounded
code-bounded constants most m short =
    omega (arith, short.entry, (code-laid_out m.code.types m.code.variables constants (entry_edge m) (blocks_of (settled m))).many, bounded-from m.code constants most 0 m.code.nodes (settled m).facts m.drops short.edges)

pub indices-fit : IndicesFit
indices-fit constants m few = omega (arith, code-bounded constants longest_edge m (edges-few constants m few), few.nodes, few.fronts, few.exits)
