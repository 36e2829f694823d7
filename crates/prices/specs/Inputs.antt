-- `OptionType` of inputs.rs. Definitions only.
use Rattle.std.specs.Prelude.{cond, ℕ, eqb, Float, Result, Ok, Err}
use Rattle.std.specs.Float.Ieee.{neg}
use Rattle.elementary.specs.Ops.{◌⊗◌, one}
use Rattle.prices.specs.declared.inputs.OptionType.{OptionType}
use Rattle.prices.specs.declared.inputs.OptionType.TheVariants.{Call, Put}
use Rattle.prices.specs.declared.inputs.UnknownKind.{UnknownKind}

-- the other kind
abbrev pub negated : OptionType → OptionType
negated Call = Put
negated Put = Call

-- Call times y is 1 × y, Put times y is −1 × y
abbrev pub times : OptionType → Float → Float
times Call y = one ⊗ y
times Put y = neg one ⊗ y

-- document 01's byte of a kind
abbrev pub kind_byte : OptionType → ℕ
kind_byte Call = 1
kind_byte Put = 2

-- the kind that a byte says: 1 Call, 2 Put, and no other
abbrev pub kind_of : ℕ → Result OptionType UnknownKind
kind_of byte = cond (eqb byte 1) (Ok Call) (cond (eqb byte 2) (Ok Put) (Err (record {})))
