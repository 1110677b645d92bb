-- Statements that are typed, in the process main of the examples.
use Rattle.std.specs.Prelude.{pos, List, [], ◌∷◌}
use Rattle.herm_model.specs.Expressions.{Literal, logical_or, logical_and, equal, less, at_most, plus, concatenated, literal, copy, negation, logical_not, operation, size_of, decimal, length_of, Atom, path}
use Rattle.herm_model.specs.Statements.{Assign, Move, New, Discard, Unite, Dissolve, Reveal, Case, Wrap, Unwrap, Insert, Remove, Get, For, Connect, Send, Receive, Select, Call, Return, ReturnBy, Create, If, While, Raise, Statement, simple, choosing, repeating, leaving, no_statements, no_blocks, block}
use Rattle.herm_model.specs.examples.RefusedProcesses.{in_order}
use Rattle.herm_model.specs.examples.StatementTypes.{an_arm}

abbrev pub typed_statements : List Statement
typed_statements =
    -- n := n + 1;
    simple (Assign (2 ∷ []) (operation plus (copy (2 ∷ [])) (literal (Literal.integer (pos 1)))))
    -- q := p;
    ∷ simple (Assign (6 ∷ []) (copy (5 ∷ [])))
    -- n := h.pair.key;
    ∷ simple (Assign (2 ∷ []) (copy (16 ∷ 6 ∷ 0 ∷ [])))
    -- n := h.call.p.key;
    ∷ simple (Assign (2 ∷ []) (copy (16 ∷ 0 ∷ 1 ∷ 0 ∷ [])))
    -- n := c.q.key;
    ∷ simple (Assign (2 ∷ []) (copy (9 ∷ 2 ∷ 0 ∷ [])))
    -- c.q.key := n;
    ∷ simple (Assign (9 ∷ 2 ∷ 0 ∷ []) (copy (2 ∷ [])))
    -- s := text(n);
    ∷ simple (Assign (3 ∷ []) (decimal (copy (2 ∷ []))))
    -- n := length(s);
    ∷ simple (Assign (2 ∷ []) (length_of (copy (3 ∷ []))))
    -- n := size(t);
    ∷ simple (Assign (2 ∷ []) (size_of (8 ∷ [])))
    -- n := size(h.list);
    ∷ simple (Assign (2 ∷ []) (size_of (16 ∷ 2 ∷ [])))
    -- n := size(d);
    ∷ simple (Assign (2 ∷ []) (size_of (20 ∷ [])))
    -- n := -n;
    ∷ simple (Assign (2 ∷ []) (negation (copy (2 ∷ []))))
    -- b := not b;
    ∷ simple (Assign (4 ∷ []) (logical_not (copy (4 ∷ []))))
    -- b := b and n < 2 or s <= "z";
    ∷ simple (Assign (4 ∷ []) (operation logical_or (operation logical_and (copy (4 ∷ [])) (operation less (copy (2 ∷ [])) (literal (Literal.integer (pos 2))))) (operation at_most (copy (3 ∷ [])) (literal (Literal.text (122 ∷ []))))))
    -- b := k = colour#two;
    ∷ simple (Assign (4 ∷ []) (operation equal (copy (14 ∷ [])) (literal (Literal.tag 16 1))))
    -- s := s & "x";
    ∷ simple (Assign (3 ∷ []) (operation concatenated (copy (3 ∷ [])) (literal (Literal.text (120 ∷ [])))))
    -- k := colour#three;
    ∷ simple (Assign (14 ∷ []) (literal (Literal.tag 16 2)))
    -- n := 9223372036854775807;
    ∷ simple (Assign (2 ∷ []) (literal (Literal.integer (pos 9223372036854775807))))
    -- move p to q;
    ∷ simple (Move (5 ∷ []) (6 ∷ []))
    -- move w.first to p;
    ∷ simple (Move (15 ∷ 0 ∷ []) (5 ∷ []))
    -- new p;
    ∷ simple (New (5 ∷ []))
    -- new t;
    ∷ simple (New (8 ∷ []))
    -- new w.third;
    ∷ simple (New (15 ∷ 2 ∷ []))
    -- discard w.third;
    ∷ simple (Discard (15 ∷ 2 ∷ []))
    -- unite v.some from p;
    ∷ simple (Unite (7 ∷ []) 1 (5 ∷ []))
    -- dissolve v.some into p;
    ∷ simple (Dissolve (7 ∷ []) 1 (5 ∷ []))
    -- reveal h.choice.flag;
    ∷ simple (Reveal (16 ∷ 7 ∷ []) 0)
    -- case v { when some { } when flag { } }
    ∷ choosing (Case (7 ∷ []) (1 ∷ 0 ∷ [])) (block no_statements (block no_statements no_blocks))
    -- case h.choice { when flag { } when some { } }
    ∷ choosing (Case (16 ∷ 7 ∷ []) (0 ∷ 1 ∷ [])) (block no_statements (block no_statements no_blocks))
    -- wrap p as y;
    ∷ simple (Wrap (5 ∷ []) (17 ∷ []))
    -- wrap y as z;
    ∷ simple (Wrap (17 ∷ []) (18 ∷ []))
    -- unwrap y as pair into p;
    ∷ simple (Unwrap (17 ∷ []) 8 (5 ∷ []))
    -- insert p into t;
    ∷ simple (Insert (5 ∷ []) (8 ∷ []))
    -- insert p into h.list;
    ∷ simple (Insert (5 ∷ []) (16 ∷ 2 ∷ []))
    -- insert r into d;
    ∷ simple (Insert (19 ∷ []) (20 ∷ []))
    -- remove p from t [n];
    ∷ simple (Remove (5 ∷ []) (8 ∷ []) (path (2 ∷ []) ∷ []))
    -- remove r from d [7];
    ∷ simple (Remove (19 ∷ []) (20 ∷ []) (Atom.literal (Literal.integer (pos 7)) ∷ []))
    -- remove j from e [s, k, b];
    ∷ simple (Remove (21 ∷ []) (22 ∷ []) (path (3 ∷ []) ∷ path (14 ∷ []) ∷ path (4 ∷ []) ∷ []))
    -- get p from h.list [h.pair.key];
    ∷ simple (Get (5 ∷ []) (16 ∷ 2 ∷ []) (path (16 ∷ 6 ∷ 0 ∷ []) ∷ []))
    -- for p in t { }
    ∷ repeating (For (5 ∷ []) (8 ∷ [])) no_statements
    -- connect g to f;
    ∷ simple (Connect (13 ∷ []) (12 ∷ []))
    -- connect g to h.source;
    ∷ simple (Connect (13 ∷ []) (16 ∷ 1 ∷ []))
    -- send p to g;
    ∷ simple (Send (5 ∷ []) (13 ∷ []))
    -- send p to h.sink;
    ∷ simple (Send (5 ∷ []) (16 ∷ 4 ∷ []))
    -- send s to m.out;
    ∷ simple (Send (3 ∷ []) (1 ∷ 1 ∷ []))
    -- send c to o;
    ∷ simple (Send (9 ∷ []) (11 ∷ []))
    -- receive p from f;
    ∷ simple (Receive (5 ∷ []) (12 ∷ []))
    -- receive p from h.source;
    ∷ simple (Receive (5 ∷ []) (16 ∷ 1 ∷ []))
    -- select { when f receive p { } when w.third receive p { } }
    ∷ choosing (Select (an_arm (5 ∷ []) (12 ∷ []) ∷ an_arm (5 ∷ []) (15 ∷ 2 ∷ []) ∷ [])) (block no_statements (block no_statements no_blocks))
    -- call o(n, p, q);
    ∷ simple (Call (11 ∷ []) (path (2 ∷ []) ∷ path (5 ∷ []) ∷ path (6 ∷ []) ∷ []))
    -- call o(1, p, w.first);
    ∷ simple (Call (11 ∷ []) (Atom.literal (Literal.integer (pos 1)) ∷ path (5 ∷ []) ∷ path (15 ∷ 0 ∷ []) ∷ []))
    -- call h.client(h.pair.key, p, q);
    ∷ simple (Call (16 ∷ 3 ∷ []) (path (16 ∷ 6 ∷ 0 ∷ []) ∷ path (5 ∷ []) ∷ path (6 ∷ []) ∷ []))
    -- call o(p.key, p, q);
    ∷ simple (Call (11 ∷ []) (path (5 ∷ 0 ∷ []) ∷ path (5 ∷ []) ∷ path (6 ∷ []) ∷ []))
    -- call bo(p, l);
    ∷ simple (Call (27 ∷ []) (path (5 ∷ []) ∷ path (26 ∷ []) ∷ []))
    -- return c;
    ∷ simple (Return (9 ∷ []))
    -- return c exception Busy;
    ∷ simple (ReturnBy (9 ∷ []) 7)
    -- create g of helper;
    ∷ simple (Create (13 ∷ []) 0)
    -- if b { }
    ∷ choosing (If (copy (4 ∷ []))) (block no_statements (block no_statements no_blocks))
    -- while n < 3 { leave; }
    ∷ repeating (While (operation less (copy (2 ∷ [])) (literal (Literal.integer (pos 3))))) (in_order (leaving ∷ []))
    -- raise Busy;
    ∷ simple (Raise 7)
    ∷ []
