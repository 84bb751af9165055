-- Types as values that are handed over (`Calls.antt`'s `Value`).
--     a_byte, a_pair, a_half     a u8, a u16, a u32.        a_bool     a bool
--     an_array          an array of n values
--     a_struct, an_enum  any struct, and any enum, of its generated laws
--     good_of          whatever machine values a value has, they are the ones that the rules take
-- Assumes nothing.
use mathlib.Core.Path.{subst}
use Prim.Native.Nat.{ℕ}
use mathlib.Core.List.{List, [], ◌∷◌, map}
use mir.Syntax.{w8, w16, w32}
use mir.Val.{Val, vint, vbool}
use denote.Array.{Array, array_val, Array-Tells, Array-Makes, Array-Typed}
use denote.Builtin.{u8, u16, u32, bool}
use denote.Enum.Declared as E
use denote.Enum.Enum.{Few, Plainss}
use denote.Enum.Laws as EL
use denote.Laws.{Is}
use denote.Lowered.{Lowered}
use denote.Plain.{uint_Tells, uint_Makes, uint_Lawful, bool_Tells, bool_Makes, bool_Lawful}
use denote.Struct.Declared as S
use denote.Struct.Laws as LL
use denote.Struct.Struct.{Plains}
use Rattle.byhand.proofs.Calls.{Value, good}

abbrev pub a_byte : Value
a_byte = record {
  row = u8;
  val = vint w8;
  tells = uint_Tells w8;
  makes = λ 𝓛. uint_Makes 𝓛 w8;
  typed = λ 𝓛. (uint_Lawful 𝓛 w8).typed;
}

abbrev pub a_pair : Value
a_pair = record {
  row = u16;
  val = vint w16;
  tells = uint_Tells w16;
  makes = λ 𝓛. uint_Makes 𝓛 w16;
  typed = λ 𝓛. (uint_Lawful 𝓛 w16).typed;
}

abbrev pub a_half : Value
a_half = record {
  row = u32;
  val = vint w32;
  tells = uint_Tells w32;
  makes = λ 𝓛. uint_Makes 𝓛 w32;
  typed = λ 𝓛. (uint_Lawful 𝓛 w32).typed;
}

abbrev pub a_bool : Value
a_bool = record {
  row = bool;
  val = vbool;
  tells = bool_Tells;
  makes = λ 𝓛. bool_Makes 𝓛;
  typed = λ 𝓛. (bool_Lawful 𝓛).typed;
}

abbrev pub an_array : Value → ℕ → Value
an_array D n = record {
  row = Array D.row n;
  val = λ xs. array_val (map D.val xs);
  tells = Array-Tells D.row (λ x. D.val x ∷ []) D.tells n;
  makes = λ 𝓛. Array-Makes 𝓛 D.row (D.makes 𝓛) n;
  typed = λ 𝓛. Array-Typed D.row (D.typed 𝓛) n;
}

abbrev pub a_struct : (T : S.Declared) → LL.Laws T → Plains (S.fields T) → LL.Lowered T → Value
a_struct T L pl lw = record {
  row = S.row T;
  val = lw.lowered;
  tells = lw.val_is;
  makes = λ 𝓛. LL.makes T pl 𝓛;
  typed = λ 𝓛. (LL.lawful T L 𝓛).typed;
}

abbrev pub an_enum : (T : E.Declared) → EL.Laws T → Plainss (E.variants T) → Few (E.shape T) → Lowered (E.row T) → Value
an_enum T L pl few lw = record {
  row = E.row T;
  val = lw.lowered;
  tells = lw.val_is;
  makes = λ 𝓛. EL.makes T pl 𝓛;
  typed = λ 𝓛. (EL.lawful T L 𝓛 few).typed;
}

pub good_of : (D : Value) (x : D.row.Denot) (vs : List Val) → Is D.row x vs → good D x
good_of D x vs is = subst (Is D.row x) (D.tells x vs is) is
