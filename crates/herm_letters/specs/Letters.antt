-- What letters and parcels keep: a whole value, and its text.
use Rattle.std.specs.Prelude.{◌≡◌, ⊤}
use Rattle.std.specs.List.{AllByRecursion}
use Rattle.herm_journal.specs.Entries.{Text}
use Rattle.herm_model.specs.ValueTexts.{text_of}
use Rattle.herm_values.specs.View.{value_view}
use Rattle.herm_values.specs.Whole.{IsWhole}
use Rattle.herm_values.specs.declared.value.Value.{Value}
use Rattle.herm_letters.specs.declared.parcel.Parcel.{Parcel}
use Rattle.herm_letters.specs.declared.reply.Reply.{Reply}
use Rattle.herm_letters.specs.declared.reply.Reply.TheVariants.{Values, Raised, Gone}

-- the value is whole, and each of the texts is its text: for the diary, the history, the queue, and the history again
pub record IsLetter (v : Value) (a b c d : Text) : Type 0 where
  pub whole : IsWhole v
  pub diary : a ≡ text_of (value_view v)
  pub put : b ≡ text_of (value_view v)
  pub parcel : c ≡ text_of (value_view v)
  pub taken : d ≡ text_of (value_view v)

-- the message is whole, and its text stands beside it
pub record IsParcel (p : Parcel) : Type 0 where
  pub whole : IsWhole p.value
  pub told : p.trace ≡ text_of (value_view p.value)

-- each value of the reply is whole
abbrev pub IsWholeReply : Reply → Type 0
IsWholeReply (Values vs) = AllByRecursion IsWhole vs.items
IsWholeReply (Raised e vs) = AllByRecursion IsWhole vs.items
IsWholeReply Gone = ⊤
