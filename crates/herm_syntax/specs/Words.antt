-- The statements without statements in them that are read alike, by the keyword that each begins with: language
-- reference, "Statements".
use Rattle.std.specs.Prelude.{Bool, if◌then◌else◌, List, Option, Some, None, is_some}
use Rattle.herm_readers.specs.Reader.{Reader}
use Rattle.herm_syntax.specs.Symbols.{Symbol, is}
use Rattle.herm_syntax.specs.KeywordSymbols.{kw_as, kw_connect, kw_discard, kw_dissolve, kw_from, kw_get, kw_insert, kw_into, kw_move, kw_new, kw_receive, kw_remove, kw_reveal, kw_send, kw_to, kw_unite, kw_wrap}
use Rattle.herm_syntax.specs.Trees.{Path, Atom, Statement, Move, Unite, Dissolve, Wrap, Insert, Connect, Send, Receive, New, Discard, Reveal, Remove, Get}
use Rattle.herm_syntax.specs.ReadExpressions.{read_path, read_component_path}

-- Those with two paths, with one, and with keys in brackets.
pub data Transfer : Type 0 where
  Moving Uniting Dissolving Wrapping Inserting Connecting Sending Receiving : Transfer

pub data Touch : Type 0 where
  Making Discarding Revealing : Touch

pub data Find : Type 0 where
  Removing Getting : Find

-- The statement of each, by its parts.
abbrev pub two_paths : Transfer → Path → Path → Statement
two_paths Moving y x = Move y x
two_paths Uniting v y = Unite v y
two_paths Dissolving v y = Dissolve v y
two_paths Wrapping y p = Wrap y p
two_paths Inserting r t = Insert r t
two_paths Connecting o i = Connect o i
two_paths Sending x o = Send x o
two_paths Receiving x i = Receive x i

abbrev pub one_path : Touch → Path → Statement
one_path Making x = New x
one_path Discarding x = Discard x
one_path Revealing v = Reveal v

abbrev pub keyed : Find → Path → Path → List Atom → Statement
keyed Removing r t keys = Remove r t keys
keyed Getting r t keys = Get r t keys

-- The keyword of each, and the one between two paths.
abbrev pub transfer : Transfer → Symbol
transfer Moving = kw_move
transfer Uniting = kw_unite
transfer Dissolving = kw_dissolve
transfer Wrapping = kw_wrap
transfer Inserting = kw_insert
transfer Connecting = kw_connect
transfer Sending = kw_send
transfer Receiving = kw_receive

abbrev pub between : Transfer → Symbol
between Moving = kw_to
between Uniting = kw_from
between Dissolving = kw_into
between Wrapping = kw_as
between Inserting = kw_into
between Connecting = kw_to
between Sending = kw_to
between Receiving = kw_from

abbrev pub touch : Touch → Symbol
touch Making = kw_new
touch Discarding = kw_discard
touch Revealing = kw_reveal

abbrev pub find : Find → Symbol
find Removing = kw_remove
find Getting = kw_get

-- Which of them a symbol begins.
abbrev pub pick_transfer : Symbol → Option Transfer
pick_transfer x =
    if is kw_move x then Some Moving else
    if is kw_unite x then Some Uniting else
    if is kw_dissolve x then Some Dissolving else
    if is kw_wrap x then Some Wrapping else
    if is kw_insert x then Some Inserting else
    if is kw_connect x then Some Connecting else
    if is kw_send x then Some Sending else
    if is kw_receive x then Some Receiving else None

abbrev pub pick_touch : Symbol → Option Touch
pick_touch x = if is kw_new x then Some Making else if is kw_discard x then Some Discarding else if is kw_reveal x then Some Revealing else None

abbrev pub pick_find : Symbol → Option Find
pick_find x = if is kw_remove x then Some Removing else if is kw_get x then Some Getting else None

abbrev pub is_transfer : Symbol → Bool
is_transfer x = is_some (pick_transfer x)

abbrev pub is_touch : Symbol → Bool
is_touch x = is_some (pick_touch x)

abbrev pub is_find : Symbol → Bool
is_find x = is_some (pick_find x)

-- The path behind the first keyword: `unite`, `dissolve` and `reveal` name a component.
abbrev pub read_first_path : Transfer → Reader Symbol Path
read_first_path Moving = read_path
read_first_path Uniting = read_component_path
read_first_path Dissolving = read_component_path
read_first_path Wrapping = read_path
read_first_path Inserting = read_path
read_first_path Connecting = read_path
read_first_path Sending = read_path
read_first_path Receiving = read_path

abbrev pub read_touched : Touch → Reader Symbol Path
read_touched Making = read_path
read_touched Discarding = read_path
read_touched Revealing = read_component_path
