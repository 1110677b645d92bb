-- Typed forms that are actions keep sound values through their answers.
use Rattle.std.proofs.Common.{◌≡◌, inl, inr, ℕ, zero, suc, ◌+◌, ◌≤◌, arith, List, [], ◌∷◌, map, find, Bool, true, false, cond, Option, Some, None, option_map, option_and_then, sym, ap, ◌∙◌, subst}
use Rattle.std.proofs.lemmas.Bool.{eqb-true}
use Rattle.std.specs.Prelude.{slice_get, nat_eq, IsTrue}
use mathlib.Core.Bool.{false≢true}
use Rattle.std.proofs.Math.Bool.{or-false}
use Rattle.herm_model.specs.Lists.{IsIn, any_pass, list_of}
use Rattle.herm_model.specs.Paths.{Path}
use Rattle.herm_model.specs.Types.{Shape, inport, type_at}
use Rattle.herm_model.specs.TypedExpressions.{HasShape}
use Rattle.herm_model.specs.Calls.{message_type, inport_at}
use Rattle.herm_model.specs.Statements.{New, Send, Receive, Select, Arm, Return, ReturnBy, Create, Process}
use Rattle.herm_model.specs.TypedStatements.{IsReceived}
use Rattle.herm_model.proofs.Lists.{not_true, found-in}
use Rattle.herm_model.proofs.Options.{none-not_some, some-injective, chain-some, map-some}
use Rattle.herm_model.proofs.FactTests.{got-IsIn}
use Rattle.herm_model.proofs.TypedCalls.{shape-is, inport-is}
use Rattle.herm_model.proofs.ThereFacts.{listed-there}
use Rattle.herm_model.specs.Values.{Cell}
use Rattle.herm_journal.specs.Actions.{put, take}
use Rattle.herm_journal.specs.Messages.{is_inport, message_of_port, IsMessage}
use Rattle.herm_forms.specs.Frames.{Name, Frame}
use Rattle.herm_forms.specs.Modules.{Module}
use Rattle.herm_forms.specs.Exchanges
use Rattle.herm_forms.specs.Exchanges.{ports_at, place_of_port}
use Rattle.herm_forms.specs.laws.TargetLaws.{IsForArm}
use Rattle.herm_forms.specs.Incoming.{leads_from}
use Rattle.herm_forms.specs.laws.TypedForms.{IsTypedIn}
use Rattle.herm_forms.specs.laws.FormsSound.{KeepsAnswering, AnswerKeeps, GivesMessage}
use Rattle.herm_forms.proofs.forms.PlainForms.{never}
use Rattle.herm_forms.proofs.forms.Messages.{sends-sound}
use Rattle.herm_forms.proofs.forms.SentMessages.{sent-messages, returned-sends}
use Rattle.herm_forms.proofs.forms.ReceivesToTargets.{receives-keep}
use Rattle.herm_forms.proofs.forms.AnswersToTargets.{answers-keep}
use Rattle.herm_forms.proofs.called.Returns.{returns-keep}
use Rattle.herm_forms.proofs.typed.LocalForms.{path-deep}

-- The path of a port that has this number: where it is found among the ports that a form looks at.
leads-is : (n : ℕ) (b : Frame Name) (i : Path) → leads_from n b i ≡ true → Exchanges.inport_at i b ≡ Some n
leads-is n b i e = by (Exchanges.inport_at i b) e
  where
    by : (o : Option ℕ) → any_pass (nat_eq n) (list_of (λ k. k ∷ []) o) ≡ true → o ≡ Some n
    by None e = absurd (false≢true e)
    by (Some k) e = ap (λ i. Some i) (sym (eqb-true n k (sym (or-false (nat_eq n k)) ∙ e)))

pub leads-cond : (n k : ℕ) (b : Frame Name) (i : Path) → Exchanges.inport_at i b ≡ Some k → leads_from n b i ≡ nat_eq n k
leads-cond n k b i e = ap (λ o. any_pass (nat_eq n) (list_of (λ k. k ∷ []) o)) e ∙ or-false (nat_eq n k)

-- a place is no earlier than where the count begins
place-after : (k from n : ℕ) (ports : List ℕ) → place_of_port k from ports ≡ Some n → k ≤ n
place-after k from n [] e = none-not_some e
place-after k from n (p ∷ ports) e = by (nat_eq from p) e (place-after (suc k) from n ports)
  where
    by : (t : Bool) → cond t (Some k) (place_of_port (suc k) from ports) ≡ Some n → (place_of_port (suc k) from ports ≡ Some n → suc k ≤ n) → k ≤ n
    by true e again = let same : k ≡ n = some-injective e in omega (arith, same)
    by false e again = let more = again e in omega (arith, more)

-- the one path that a `receive` looks at
pub found-only : (n : ℕ) (b : Frame Name) (i j : Path) → find (leads_from n b) (i ∷ []) ≡ Some j → j ≡ i
found-only n b i j e = by (found-in (leads_from n b) j (i ∷ []) e).0
  where
    by : IsIn j (i ∷ []) → j ≡ i
    by (inl e) = e
    by (inr h) = absurd h

-- the first port in written order is that of the arm at whose place it is found
pub arm-looked : (arms : List Arm) (b : Frame Name) (from k n : ℕ) (j : Path) → find (leads_from from b) (map (λ a. a.port) arms) ≡ Some j
    → option_and_then (place_of_port k from) (ports_at (map (λ a. a.port) arms) b) ≡ Some n → (m : ℕ) (a : Arm) → n ≡ k + m → slice_get arms m ≡ Some a → a.port ≡ j
arm-looked [] b from k n j found place m a same at = none-not_some found
arm-looked (x ∷ arms) b from k n j found place m a same at =
    let ports = chain-some (place_of_port k from) (ports_at (x.port ∷ map (λ a. a.port) arms) b) n place in
    let first = chain-some (λ port. option_map (port ∷◌) (ports_at (map (λ a. a.port) arms) b)) (Exchanges.inport_at x.port b) ports.0 ports.1 in
    let more = map-some (first.0 ∷◌) (ports_at (map (λ a. a.port) arms) b) ports.0 first.2 in
    by first.0 more.0 more.1 (leads_from from b x.port) (leads-cond from first.0 b x.port first.1) found (ap (place_of_port k from) more.2 ∙ ports.2) m same at (arm-looked arms b from (suc k) n j)
  where
    More : Type 0
    More = find (leads_from from b) (map (λ a. a.port) arms) ≡ Some j → option_and_then (place_of_port (suc k) from) (ports_at (map (λ a. a.port) arms) b) ≡ Some n
        → (m : ℕ) (a : Arm) → n ≡ suc k + m → slice_get arms m ≡ Some a → a.port ≡ j

    further : (ports : List ℕ) → ports_at (map (λ a. a.port) arms) b ≡ Some ports → find (leads_from from b) (map (λ a. a.port) arms) ≡ Some j → place_of_port (suc k) from ports ≡ Some n
        → (m : ℕ) → n ≡ k + m → slice_get (x ∷ arms) m ≡ Some a → More → a.port ≡ j
    further ports rest found place zero same at again = let after = place-after (suc k) from n ports place in let z : ⊥ = omega (arith, after, same) in absurd z
    further ports rest found place (suc m) same at again = again found (ap (option_and_then (place_of_port (suc k) from)) rest ∙ place) m a (omega (arith, same)) at

    here : n ≡ k → (m : ℕ) → n ≡ k + m → slice_get (x ∷ arms) m ≡ Some a → x.port ≡ j → a.port ≡ j
    here e zero same at found = ap (λ (a : Arm). a.port) (sym (some-injective at)) ∙ found
    here e (suc m) same at found = let z : ⊥ = omega (arith, e, same) in absurd z

    by : (p : ℕ) (ports : List ℕ) → ports_at (map (λ a. a.port) arms) b ≡ Some ports → (t : Bool) → t ≡ nat_eq from p → cond t (Some x.port) (find (leads_from from b) (map (λ a. a.port) arms)) ≡ Some j
        → cond (nat_eq from p) (Some k) (place_of_port (suc k) from ports) ≡ Some n → (m : ℕ) → n ≡ k + m → slice_get (x ∷ arms) m ≡ Some a → More → a.port ≡ j
    by p ports rest true is found place m same at again = here (sym (some-injective (ap (λ t. cond t (Some k) (place_of_port (suc k) from ports)) is ∙ place))) m same at (some-injective found)
    by p ports rest false is found place m same at again = further ports rest found (ap (λ t. cond t (Some k) (place_of_port (suc k) from ports)) is ∙ place) m same at again

module _ (exceptions : ℕ) (processes : List Process) (c : Module) where
  -- what is taken is a message of the type of the port from which it is taken
  record Taken (x i : Path) (m : Cell Name) : Type 0 where
    type : ℕ
    port : ℕ
    target : type_at c.types c.variables x ≡ Some type
    from : type_at c.types c.variables i ≡ Some port
    takes : message_of_port c.types port ≡ Some type
    is_message : IsMessage c.types port m

  taken-at : (x i : Path) (m : Cell Name) (t : ℕ) → IsReceived c.types c.variables x i → type_at c.types c.variables i ≡ Some t → IsMessage c.types t m → Taken x i m
  taken-at x i m t h e is =
      let from = h.1 in
      let same : t ≡ from.0 = some-injective (sym e ∙ from.2.0) in
      record {
        type = h.0;
        port = from.0;
        target = h.2.0.0;
        from = from.2.0;
        takes = ap (option_and_then message_type) from.3;
        is_message = subst (λ t. IsMessage c.types t m) same is;
      }

  pub receive-keeps : (x i : Path) → AnswerKeeps exceptions processes c (Receive x i)
  receive-keeps [] i is acts name place action has b b' o sound needed comes at = none-not_some is.typed.2.0.0
  receive-keeps (j ∷ q) i is acts name place (take k m) has b b' o sound needed comes at =
      let found = chain-some (type_at c.types c.variables) (find (leads_from place b) (i ∷ [])) comes.0 comes.1 in
      let t = taken-at (j ∷ q) i m comes.0 is.typed (subst (λ i. type_at c.types c.variables i ≡ Some comes.0) (found-only place b i found.0 found.1) found.2) comes.2 in
      receives-keep c j q t.type t.port i t.target t.from t.takes has b b' o k m t.is_message sound at
  receive-keeps (j ∷ q) i is acts name place action has b b' o sound needed comes at = never o b' at

  pub select-keeps : (arms : List Arm) → AnswerKeeps exceptions processes c (Select arms)
  select-keeps arms is acts name place (take k m) has b b' o sound needed comes at =
      let ports = map (λ (a : Arm). a.port) arms in
      let found = chain-some (type_at c.types c.variables) (find (leads_from place b) ports) comes.0 comes.1 in
      (answers-keep c).select arms has b b' o place k m (λ n a here there. for a (got-IsIn arms n a here) (ap (type_at c.types c.variables) (arm-looked arms b place 0 n found.0 found.1 there n a (omega arith) here) ∙ found.2)) sound at
    where
      for : (a : Arm) → IsIn a arms → type_at c.types c.variables a.port ≡ Some comes.0 → IsForArm c a m
      for a h e =
          let t = taken-at a.target a.port m comes.0 (is.typed.1 a h) e comes.2 in
          record { type = t.type; port = t.port; target = t.target; from = t.from; takes = t.takes; is_message = t.is_message }
  select-keeps arms is acts name place action has b b' o sound needed comes at = never o b' at

  inport-by : (i : ℕ) (q : List ℕ) (t : ℕ) (s : Shape) → type_at c.types c.variables (i ∷ q) ≡ Some t → HasShape c.types t s → IsTrue (is_inport (Some s)) → KeepsAnswering c (New (i ∷ q))
  inport-by i q t (inport message declared) type shape acts = λ name place action has b b' o sound needed comes at. (answers-keep c).new_inport i q t message declared type shape name place action has b b' o sound at
  inport-by i q t s type shape acts = not_true acts

  pub inport-keeps : (x : Path) → AnswerKeeps exceptions processes c (New x)
  inport-keeps [] is acts = none-not_some is.typed.2.0.0
  inport-keeps (i ∷ q) is acts =
      let h = is.typed in
      inport-by i q h.0 h.1 h.2.0.0 h.3 (subst (λ s. IsTrue (is_inport s)) (shape-is c.types c.variables (i ∷ q) h.0 h.1 h.2.0.0 h.3) acts)

  pub create-keeps : (o : Path) (process : ℕ) → AnswerKeeps exceptions processes c (Create o process)
  create-keeps [] process is acts name place action has b b' o sound needed comes at = none-not_some is.typed.2.0.0
  create-keeps (i ∷ q) process is acts name place action has b b' o sound needed comes at = (answers-keep c).create i q is.typed.0 is.typed.1 process is.typed.2.0.0 is.typed.3 name place action has b b' o sound at

  pub return-keeps : (m : Path) → AnswerKeeps exceptions processes c (Return m)
  return-keeps [] is acts name place action has b b' o sound needed comes at = none-not_some is.typed.1.2.0.0
  return-keeps (i ∷ q) is acts name place action has b b' o sound needed comes at = (returns-keep c).plain i q name place action has b b' o sound at

  pub return-by-keeps : (m : Path) (e : ℕ) → AnswerKeeps exceptions processes c (ReturnBy m e)
  return-by-keeps [] e is acts name place action has b b' o sound needed comes at = none-not_some is.typed.1.2.0.0
  return-by-keeps (i ∷ q) e is acts name place action has b b' o sound needed comes at = (returns-keep c).by_exception i q e name place action has b b' o sound at

  pub send-gives : (x o : Path) → IsTypedIn exceptions processes c (Send x o) → GivesMessage exceptions processes c o (Send x o)
  send-gives [] o is name has b n m sound needed wants = none-not_some is.typed.2.0.0
  send-gives (i ∷ q) o is name has b n m sound needed wants =
      let h = is.typed in
      let leads = inport-is c.types c.variables o h.0 h.1 in (
        h.1.1,
        leads,
        sent-messages c i q h.0 h.1.1 h.1.2 o h.2.0.0 (path-deep exceptions processes c (Send (i ∷ q) o) is i q h.0 h.2.0.0) leads h.1.5
            (listed-there exceptions c.types h.1.1 h.0 h.1.2 is.table h.1.5) has b n m sound needed wants,
      )

  pub send-keeps : (x o : Path) → AnswerKeeps exceptions processes c (Send x o)
  send-keeps [] to is acts name place action has b b' o sound needed comes at = none-not_some is.typed.2.0.0
  send-keeps (i ∷ q) to is acts name place (put (Some k) m) has b b' o sound needed comes at = sends-sound c i q to has b b' o k m sound at
  send-keeps (i ∷ q) to is acts name place (put None m) has b b' o sound needed comes at =
      let h = is.typed in
      let given = send-gives (i ∷ q) to is name has b comes.0 m sound needed comes.1 in
      returned-sends c i q h.0 given.0 to h.2.0.0 given.1 (ap (option_and_then message_type) (shape given.0 given.1)) has b b' o m given.2 sound at
    where
      shape : (t : ℕ) → inport_at c.types c.variables to ≡ Some t → HasShape c.types t (inport is.typed.0 is.typed.1.2)
      shape t e = subst (λ t. HasShape c.types t (inport is.typed.0 is.typed.1.2)) (some-injective (sym (inport-is c.types c.variables to is.typed.0 is.typed.1) ∙ e)) is.typed.1.5
  send-keeps (i ∷ q) to is acts name place action has b b' o sound needed comes at = never o b' at
