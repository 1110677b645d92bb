-- Statements that are not typed: each breaks one rule, in the process main of the examples.
use Rattle.std.specs.Prelude.{true, pos, List, [], ◌∷◌}
use Rattle.herm_model.specs.Expressions.{Literal, logical_and, equal, less, plus, concatenated, literal, copy, negation, logical_not, operation, size_of, decimal, length_of, Atom, path}
use Rattle.herm_model.specs.Statements.{Assign, Move, New, Discard, Unite, Dissolve, Reveal, Case, Wrap, Unwrap, Insert, Remove, Get, For, Connect, Send, Receive, Select, Call, Return, ReturnBy, Create, If, While, Raise, Statement, simple, choosing, repeating, no_statements, no_blocks, block}
use Rattle.herm_model.specs.examples.StatementTypes.{an_arm}

abbrev pub untyped_statements : List Statement
untyped_statements =
    -- n := s;
    simple (Assign (2 ∷ []) (copy (3 ∷ [])))
    -- w := w;
    ∷ simple (Assign (15 ∷ []) (copy (15 ∷ [])))
    -- p.none := 1;
    ∷ simple (Assign (5 ∷ 2 ∷ []) (literal (Literal.integer (pos 1))))
    -- n.part := 1;
    ∷ simple (Assign (2 ∷ 0 ∷ []) (literal (Literal.integer (pos 1))))
    -- unknown := 1;
    ∷ simple (Assign (99 ∷ []) (literal (Literal.integer (pos 1))))
    -- h.pair.key := 1;
    ∷ simple (Assign (16 ∷ 6 ∷ 0 ∷ []) (literal (Literal.integer (pos 1))))
    -- n := h.call.q.key;
    ∷ simple (Assign (2 ∷ []) (copy (16 ∷ 0 ∷ 2 ∷ 0 ∷ [])))
    -- n := text(n);
    ∷ simple (Assign (2 ∷ []) (decimal (copy (2 ∷ []))))
    -- s := text(s);
    ∷ simple (Assign (3 ∷ []) (decimal (copy (3 ∷ []))))
    -- n := length(n);
    ∷ simple (Assign (2 ∷ []) (length_of (copy (2 ∷ []))))
    -- n := size(p);
    ∷ simple (Assign (2 ∷ []) (size_of (5 ∷ [])))
    -- n := b + 1;
    ∷ simple (Assign (2 ∷ []) (operation plus (copy (4 ∷ [])) (literal (Literal.integer (pos 1)))))
    -- n := -s;
    ∷ simple (Assign (2 ∷ []) (negation (copy (3 ∷ []))))
    -- b := not n;
    ∷ simple (Assign (4 ∷ []) (logical_not (copy (2 ∷ []))))
    -- b := n and b;
    ∷ simple (Assign (4 ∷ []) (operation logical_and (copy (2 ∷ [])) (copy (4 ∷ []))))
    -- b := n < s;
    ∷ simple (Assign (4 ∷ []) (operation less (copy (2 ∷ [])) (copy (3 ∷ []))))
    -- b := k < k;
    ∷ simple (Assign (4 ∷ []) (operation less (copy (14 ∷ [])) (copy (14 ∷ []))))
    -- b := k = b;
    ∷ simple (Assign (4 ∷ []) (operation equal (copy (14 ∷ [])) (copy (4 ∷ []))))
    -- b := p = q;
    ∷ simple (Assign (4 ∷ []) (operation equal (copy (5 ∷ [])) (copy (6 ∷ []))))
    -- s := s & n;
    ∷ simple (Assign (3 ∷ []) (operation concatenated (copy (3 ∷ [])) (copy (2 ∷ []))))
    -- k := colour#four;
    ∷ simple (Assign (14 ∷ []) (literal (Literal.tag 16 3)))
    -- n := pair#key;
    ∷ simple (Assign (2 ∷ []) (literal (Literal.tag 8 0)))
    -- k := unknown#one;
    ∷ simple (Assign (14 ∷ []) (literal (Literal.tag 99 0)))
    -- n := 9223372036854775808;
    ∷ simple (Assign (2 ∷ []) (literal (Literal.integer (pos 9223372036854775808))))
    -- s := (a byte 7);
    ∷ simple (Assign (3 ∷ []) (literal (Literal.text (7 ∷ []))))
    -- move p to n;
    ∷ simple (Move (5 ∷ []) (2 ∷ []))
    -- move p to p;
    ∷ simple (Move (5 ∷ []) (5 ∷ []))
    -- move h.pair to p;
    ∷ simple (Move (16 ∷ 6 ∷ []) (5 ∷ []))
    -- move p to h.pair;
    ∷ simple (Move (5 ∷ []) (16 ∷ 6 ∷ []))
    -- new n;
    ∷ simple (New (2 ∷ []))
    -- new v;
    ∷ simple (New (7 ∷ []))
    -- new y;
    ∷ simple (New (17 ∷ []))
    -- new c;
    ∷ simple (New (9 ∷ []))
    -- new o;
    ∷ simple (New (11 ∷ []))
    -- new k;
    ∷ simple (New (14 ∷ []))
    -- new h.pair;
    ∷ simple (New (16 ∷ 6 ∷ []))
    -- discard h.pair;
    ∷ simple (Discard (16 ∷ 6 ∷ []))
    -- unite v.some from n;
    ∷ simple (Unite (7 ∷ []) 1 (2 ∷ []))
    -- unite p.key from n;
    ∷ simple (Unite (5 ∷ []) 0 (2 ∷ []))
    -- unite v.other from p;
    ∷ simple (Unite (7 ∷ []) 2 (5 ∷ []))
    -- unite h.choice.flag from b;
    ∷ simple (Unite (16 ∷ 7 ∷ []) 0 (4 ∷ []))
    -- unite v.some from h.pair;
    ∷ simple (Unite (7 ∷ []) 1 (16 ∷ 6 ∷ []))
    -- dissolve v.some into n;
    ∷ simple (Dissolve (7 ∷ []) 1 (2 ∷ []))
    -- dissolve v.other into p;
    ∷ simple (Dissolve (7 ∷ []) 2 (5 ∷ []))
    -- dissolve h.choice.some into p;
    ∷ simple (Dissolve (16 ∷ 7 ∷ []) 1 (5 ∷ []))
    -- dissolve v.some into h.pair;
    ∷ simple (Dissolve (7 ∷ []) 1 (16 ∷ 6 ∷ []))
    -- reveal v.other;
    ∷ simple (Reveal (7 ∷ []) 2)
    -- reveal p.key;
    ∷ simple (Reveal (5 ∷ []) 0)
    -- case v { when some { } }
    ∷ choosing (Case (7 ∷ []) (1 ∷ [])) (block no_statements no_blocks)
    -- case v { when flag { } when some { } when other { } }
    ∷ choosing (Case (7 ∷ []) (0 ∷ 1 ∷ 2 ∷ [])) (block no_statements (block no_statements (block no_statements no_blocks)))
    -- case p { when key { } when count { } }
    ∷ choosing (Case (5 ∷ []) (0 ∷ 1 ∷ [])) (block no_statements (block no_statements no_blocks))
    -- wrap p as q;
    ∷ simple (Wrap (5 ∷ []) (6 ∷ []))
    -- wrap y as y;
    ∷ simple (Wrap (17 ∷ []) (17 ∷ []))
    -- wrap a as a.p;
    ∷ simple (Wrap (25 ∷ []) (25 ∷ 0 ∷ []))
    -- wrap h.pair as y;
    ∷ simple (Wrap (16 ∷ 6 ∷ []) (17 ∷ []))
    -- wrap p as h.poly;
    ∷ simple (Wrap (5 ∷ []) (16 ∷ 5 ∷ []))
    -- unwrap q as pair into p;
    ∷ simple (Unwrap (6 ∷ []) 8 (5 ∷ []))
    -- unwrap y as integer into p;
    ∷ simple (Unwrap (17 ∷ []) 1 (5 ∷ []))
    -- unwrap y as unknown into p;
    ∷ simple (Unwrap (17 ∷ []) 99 (5 ∷ []))
    -- unwrap a.p as box into a;
    ∷ simple (Unwrap (25 ∷ 0 ∷ []) 23 (25 ∷ []))
    -- unwrap h.poly as pair into p;
    ∷ simple (Unwrap (16 ∷ 5 ∷ []) 8 (5 ∷ []))
    -- unwrap y as pair into h.pair;
    ∷ simple (Unwrap (17 ∷ []) 8 (16 ∷ 6 ∷ []))
    -- insert n into t;
    ∷ simple (Insert (2 ∷ []) (8 ∷ []))
    -- insert p into q;
    ∷ simple (Insert (5 ∷ []) (6 ∷ []))
    -- insert h.pair into t;
    ∷ simple (Insert (16 ∷ 6 ∷ []) (8 ∷ []))
    -- remove p from t [s];
    ∷ simple (Remove (5 ∷ []) (8 ∷ []) (path (3 ∷ []) ∷ []))
    -- remove p from t [n, n];
    ∷ simple (Remove (5 ∷ []) (8 ∷ []) (path (2 ∷ []) ∷ path (2 ∷ []) ∷ []))
    -- remove p from t [];
    ∷ simple (Remove (5 ∷ []) (8 ∷ []) [])
    -- remove j from e [b, s, k];
    ∷ simple (Remove (21 ∷ []) (22 ∷ []) (path (4 ∷ []) ∷ path (3 ∷ []) ∷ path (14 ∷ []) ∷ []))
    -- remove n from t [n];
    ∷ simple (Remove (2 ∷ []) (8 ∷ []) (path (2 ∷ []) ∷ []))
    -- remove h.pair from t [n];
    ∷ simple (Remove (16 ∷ 6 ∷ []) (8 ∷ []) (path (2 ∷ []) ∷ []))
    -- remove p from q [n];
    ∷ simple (Remove (5 ∷ []) (6 ∷ []) (path (2 ∷ []) ∷ []))
    -- get r from d [n];
    ∷ simple (Get (19 ∷ []) (20 ∷ []) (path (2 ∷ []) ∷ []))
    -- get p from t [true];
    ∷ simple (Get (5 ∷ []) (8 ∷ []) (Atom.literal (Literal.boolean true) ∷ []))
    -- for r in d { }
    ∷ repeating (For (19 ∷ []) (20 ∷ [])) no_statements
    -- for n in t { }
    ∷ repeating (For (2 ∷ []) (8 ∷ [])) no_statements
    -- for p in q { }
    ∷ repeating (For (5 ∷ []) (6 ∷ [])) no_statements
    -- for h.pair in t { }
    ∷ repeating (For (16 ∷ 6 ∷ []) (8 ∷ [])) no_statements
    -- connect g to i;
    ∷ simple (Connect (13 ∷ []) (10 ∷ []))
    -- connect f to f;
    ∷ simple (Connect (12 ∷ []) (12 ∷ []))
    -- connect h.sink to f;
    ∷ simple (Connect (16 ∷ 4 ∷ []) (12 ∷ []))
    -- send n to g;
    ∷ simple (Send (2 ∷ []) (13 ∷ []))
    -- send p to f;
    ∷ simple (Send (5 ∷ []) (12 ∷ []))
    -- send h.pair to g;
    ∷ simple (Send (16 ∷ 6 ∷ []) (13 ∷ []))
    -- receive n from f;
    ∷ simple (Receive (2 ∷ []) (12 ∷ []))
    -- receive p from g;
    ∷ simple (Receive (5 ∷ []) (13 ∷ []))
    -- receive h.pair from f;
    ∷ simple (Receive (16 ∷ 6 ∷ []) (12 ∷ []))
    -- select { when f receive p { } when f receive q { } }
    ∷ choosing (Select (an_arm (5 ∷ []) (12 ∷ []) ∷ an_arm (6 ∷ []) (12 ∷ []) ∷ [])) (block no_statements (block no_statements no_blocks))
    -- select { when f receive p { } when w.third receive n { } }
    ∷ choosing (Select (an_arm (5 ∷ []) (12 ∷ []) ∷ an_arm (2 ∷ []) (15 ∷ 2 ∷ []) ∷ [])) (block no_statements (block no_statements no_blocks))
    -- select { when f receive h.pair { } }
    ∷ choosing (Select (an_arm (16 ∷ 6 ∷ []) (12 ∷ []) ∷ [])) (block no_statements no_blocks)
    -- call o(n, p);
    ∷ simple (Call (11 ∷ []) (path (2 ∷ []) ∷ path (5 ∷ []) ∷ []))
    -- call o(n, p, q, q);
    ∷ simple (Call (11 ∷ []) (path (2 ∷ []) ∷ path (5 ∷ []) ∷ path (6 ∷ []) ∷ path (6 ∷ []) ∷ []))
    -- call o(s, p, q);
    ∷ simple (Call (11 ∷ []) (path (3 ∷ []) ∷ path (5 ∷ []) ∷ path (6 ∷ []) ∷ []))
    -- call o(n, n, q);
    ∷ simple (Call (11 ∷ []) (path (2 ∷ []) ∷ path (2 ∷ []) ∷ path (6 ∷ []) ∷ []))
    -- call o(n, p, p);
    ∷ simple (Call (11 ∷ []) (path (2 ∷ []) ∷ path (5 ∷ []) ∷ path (5 ∷ []) ∷ []))
    -- call o(n, 1, q);
    ∷ simple (Call (11 ∷ []) (path (2 ∷ []) ∷ Atom.literal (Literal.integer (pos 1)) ∷ path (6 ∷ []) ∷ []))
    -- call o(n, p, 1);
    ∷ simple (Call (11 ∷ []) (path (2 ∷ []) ∷ path (5 ∷ []) ∷ Atom.literal (Literal.integer (pos 1)) ∷ []))
    -- call o(n, h.pair, q);
    ∷ simple (Call (11 ∷ []) (path (2 ∷ []) ∷ path (16 ∷ 6 ∷ []) ∷ path (6 ∷ []) ∷ []))
    -- call o(n, p, h.pair);
    ∷ simple (Call (11 ∷ []) (path (2 ∷ []) ∷ path (5 ∷ []) ∷ path (16 ∷ 6 ∷ []) ∷ []))
    -- call g(n, p, q);
    ∷ simple (Call (13 ∷ []) (path (2 ∷ []) ∷ path (5 ∷ []) ∷ path (6 ∷ []) ∷ []))
    -- call i(n, p, q);
    ∷ simple (Call (10 ∷ []) (path (2 ∷ []) ∷ path (5 ∷ []) ∷ path (6 ∷ []) ∷ []))
    -- call o("a", p, q);
    ∷ simple (Call (11 ∷ []) (Atom.literal (Literal.text (97 ∷ [])) ∷ path (5 ∷ []) ∷ path (6 ∷ []) ∷ []))
    -- call bo(l.inner, l);
    ∷ simple (Call (27 ∷ []) (path (26 ∷ 0 ∷ []) ∷ path (26 ∷ []) ∷ []))
    -- return p;
    ∷ simple (Return (5 ∷ []))
    -- return h.call;
    ∷ simple (Return (16 ∷ 0 ∷ []))
    -- return c exception Disconnected;
    ∷ simple (ReturnBy (9 ∷ []) 6)
    -- return p exception Busy;
    ∷ simple (ReturnBy (5 ∷ []) 7)
    -- return h.call exception Busy;
    ∷ simple (ReturnBy (16 ∷ 0 ∷ []) 7)
    -- create g of main;
    ∷ simple (Create (13 ∷ []) 1)
    -- create g of unknown;
    ∷ simple (Create (13 ∷ []) 2)
    -- create f of helper;
    ∷ simple (Create (12 ∷ []) 0)
    -- create h.sink of helper;
    ∷ simple (Create (16 ∷ 4 ∷ []) 0)
    -- if n { }
    ∷ choosing (If (copy (2 ∷ []))) (block no_statements (block no_statements no_blocks))
    -- while s { }
    ∷ repeating (While (copy (3 ∷ []))) no_statements
    -- raise Unknown;
    ∷ simple (Raise 8)
    ∷ []
