-- The keywords as symbols of the grammar. Language reference, "Tokens".
use Rattle.herm_alphabet.specs.declared.keyword.Keyword.TheVariants.{KwAnd, KwAs, KwCall, KwCallmessage, KwCase, KwConnect, KwCreate, KwDefinitions, KwDiscard, KwDissolve, KwDiv, KwElse, KwEnum, KwException, KwFalse, KwFor, KwFrom, KwFull, KwGet, KwIf, KwIn, KwInit, KwInout, KwInport, KwInsert, KwInto, KwKey, KwLeave, KwLength, KwMod, KwMove, KwNew, KwNot, KwOf, KwOn, KwOr, KwOut, KwOutport, KwProcess, KwRaise, KwRaises, KwReceive, KwRecord, KwRemove, KwReturn, KwReveal, KwSelect, KwSend, KwSize, KwTable, KwText, KwTo, KwTrue, KwTry, KwType, KwUnite, KwUnwrap, KwVar, KwVariant, KwWhen, KwWhile, KwWrap}
use Rattle.herm_syntax.specs.Symbols.{Symbol, Key}

abbrev pub kw_and : Symbol
kw_and = Key KwAnd

abbrev pub kw_as : Symbol
kw_as = Key KwAs

abbrev pub kw_call : Symbol
kw_call = Key KwCall

abbrev pub kw_callmessage : Symbol
kw_callmessage = Key KwCallmessage

abbrev pub kw_case : Symbol
kw_case = Key KwCase

abbrev pub kw_connect : Symbol
kw_connect = Key KwConnect

abbrev pub kw_create : Symbol
kw_create = Key KwCreate

abbrev pub kw_definitions : Symbol
kw_definitions = Key KwDefinitions

abbrev pub kw_discard : Symbol
kw_discard = Key KwDiscard

abbrev pub kw_dissolve : Symbol
kw_dissolve = Key KwDissolve

abbrev pub kw_div : Symbol
kw_div = Key KwDiv

abbrev pub kw_else : Symbol
kw_else = Key KwElse

abbrev pub kw_enum : Symbol
kw_enum = Key KwEnum

abbrev pub kw_exception : Symbol
kw_exception = Key KwException

abbrev pub kw_false : Symbol
kw_false = Key KwFalse

abbrev pub kw_for : Symbol
kw_for = Key KwFor

abbrev pub kw_from : Symbol
kw_from = Key KwFrom

abbrev pub kw_full : Symbol
kw_full = Key KwFull

abbrev pub kw_get : Symbol
kw_get = Key KwGet

abbrev pub kw_if : Symbol
kw_if = Key KwIf

abbrev pub kw_in : Symbol
kw_in = Key KwIn

abbrev pub kw_init : Symbol
kw_init = Key KwInit

abbrev pub kw_inout : Symbol
kw_inout = Key KwInout

abbrev pub kw_inport : Symbol
kw_inport = Key KwInport

abbrev pub kw_insert : Symbol
kw_insert = Key KwInsert

abbrev pub kw_into : Symbol
kw_into = Key KwInto

abbrev pub kw_key : Symbol
kw_key = Key KwKey

abbrev pub kw_leave : Symbol
kw_leave = Key KwLeave

abbrev pub kw_length : Symbol
kw_length = Key KwLength

abbrev pub kw_mod : Symbol
kw_mod = Key KwMod

abbrev pub kw_move : Symbol
kw_move = Key KwMove

abbrev pub kw_new : Symbol
kw_new = Key KwNew

abbrev pub kw_not : Symbol
kw_not = Key KwNot

abbrev pub kw_of : Symbol
kw_of = Key KwOf

abbrev pub kw_on : Symbol
kw_on = Key KwOn

abbrev pub kw_or : Symbol
kw_or = Key KwOr

abbrev pub kw_out : Symbol
kw_out = Key KwOut

abbrev pub kw_outport : Symbol
kw_outport = Key KwOutport

abbrev pub kw_process : Symbol
kw_process = Key KwProcess

abbrev pub kw_raise : Symbol
kw_raise = Key KwRaise

abbrev pub kw_raises : Symbol
kw_raises = Key KwRaises

abbrev pub kw_receive : Symbol
kw_receive = Key KwReceive

abbrev pub kw_record : Symbol
kw_record = Key KwRecord

abbrev pub kw_remove : Symbol
kw_remove = Key KwRemove

abbrev pub kw_return : Symbol
kw_return = Key KwReturn

abbrev pub kw_reveal : Symbol
kw_reveal = Key KwReveal

abbrev pub kw_select : Symbol
kw_select = Key KwSelect

abbrev pub kw_send : Symbol
kw_send = Key KwSend

abbrev pub kw_size : Symbol
kw_size = Key KwSize

abbrev pub kw_table : Symbol
kw_table = Key KwTable

abbrev pub kw_text : Symbol
kw_text = Key KwText

abbrev pub kw_to : Symbol
kw_to = Key KwTo

abbrev pub kw_true : Symbol
kw_true = Key KwTrue

abbrev pub kw_try : Symbol
kw_try = Key KwTry

abbrev pub kw_type : Symbol
kw_type = Key KwType

abbrev pub kw_unite : Symbol
kw_unite = Key KwUnite

abbrev pub kw_unwrap : Symbol
kw_unwrap = Key KwUnwrap

abbrev pub kw_var : Symbol
kw_var = Key KwVar

abbrev pub kw_variant : Symbol
kw_variant = Key KwVariant

abbrev pub kw_when : Symbol
kw_when = Key KwWhen

abbrev pub kw_while : Symbol
kw_while = Key KwWhile

abbrev pub kw_wrap : Symbol
kw_wrap = Key KwWrap
