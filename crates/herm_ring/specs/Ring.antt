-- The text of the ring of so many nodes (Language reference, "The ring").
use Rattle.std.specs.Prelude.{ℕ, List, [], ◌∷◌, ◌++◌, ◌*◌, codes, decimal}
use Rattle.std.specs.List.{flat_map}

-- a line and the newline that ends it
abbrev pub line : List ℕ → List ℕ
line text = text ++ 10 ∷ []

abbrev pub text_of : List (List ℕ) → List ℕ
text_of lines = flat_map line lines

-- a line with a number in it
abbrev pub numbered : List ℕ → ℕ → List ℕ → List ℕ
numbered before number behind = before ++ (decimal number ++ behind)

unfoldable pub definition_lines : List (List ℕ)
definition_lines =
    codes "definitions ring {" ∷
    codes "  type token_in = inport of integer;" ∷
    codes "  type token_out = outport of token_in;" ∷
    codes "  type node_message = record { inp: token_in, next: token_out, out: console_out };" ∷
    codes "  type node_start = inport of node_message;" ∷
    codes "  type node_out = outport of node_start;" ∷
    codes "}" ∷
    []

-- a node gives the token on, one less each time, until it is home
unfoldable pub node_lines : List (List ℕ)
node_lines =
    codes "process node(start: node_start) {" ∷
    codes "  var m: node_message, n: integer, s: string;" ∷
    codes "  receive m from start;" ∷
    codes "  while true {" ∷
    codes "    receive n from m.inp;" ∷
    codes "    if n = 0 {" ∷
    codes "      s := \"token home\";" ∷
    codes "      send s to m.out;" ∷
    codes "    }" ∷
    codes "    if n < 1 {" ∷
    codes "      try {" ∷
    codes "        n := n - 1;" ∷
    codes "        send n to m.next;" ∷
    codes "      } on Disconnected {" ∷
    codes "      }" ∷
    codes "      leave;" ∷
    codes "    }" ∷
    codes "    n := n - 1;" ∷
    codes "    send n to m.next;" ∷
    codes "  }" ∷
    codes "}" ∷
    []

-- the main process, before the line with the number of nodes
unfoldable pub opening_lines : List (List ℕ)
opening_lines =
    codes "process main(start: main_start) {" ∷
    codes "  var m: main_message, first: token_in, head: token_out, next: token_out," ∷
    codes "    i: token_in, o: token_out, c: node_message, p: node_out, k: integer;" ∷
    codes "  receive m from start;" ∷
    codes "  new first;" ∷
    codes "  connect head to first;" ∷
    codes "  next := head;" ∷
    codes "  k := 1;" ∷
    []

-- it makes each node but the first in a turn of its loop
unfoldable pub nodes_line : ℕ → List ℕ
nodes_line nodes = numbered (codes "  while k < ") nodes (codes " {")

-- between the line with the number of nodes and that with the number of hops
unfoldable pub making_lines : List (List ℕ)
making_lines =
    codes "    new i;" ∷
    codes "    connect o to i;" ∷
    codes "    new c;" ∷
    codes "    move i to c.inp;" ∷
    codes "    c.next := next;" ∷
    codes "    c.out := m.out;" ∷
    codes "    create p of node;" ∷
    codes "    send c to p;" ∷
    codes "    next := o;" ∷
    codes "    k := k + 1;" ∷
    codes "  }" ∷
    codes "  new c;" ∷
    codes "  move first to c.inp;" ∷
    codes "  c.next := next;" ∷
    codes "  c.out := m.out;" ∷
    codes "  create p of node;" ∷
    codes "  send c to p;" ∷
    []

-- the token makes so many hops
unfoldable pub hops_line : ℕ → List ℕ
hops_line hops = numbered (codes "  k := ") hops (codes ";")

unfoldable pub closing_lines : List (List ℕ)
closing_lines =
    codes "  send k to head;" ∷
    codes "}" ∷
    []

abbrev pub main_lines : ℕ → List (List ℕ)
main_lines nodes =
    opening_lines ++ (nodes_line nodes ∷ (making_lines ++ (hops_line (100 * nodes) ∷ closing_lines)))

abbrev pub ring_lines : ℕ → List (List ℕ)
ring_lines nodes = definition_lines ++ (node_lines ++ main_lines nodes)

-- the ring of so many nodes, in which the token makes 100 hops for each
abbrev pub ring_text : ℕ → List ℕ
ring_text nodes = text_of (ring_lines nodes)
