-- `packed::read` meets its contract: what is accepted has 15 digits. Assumes nothing.
use Rattle.std.proofs.Common.{rules}
use mathlib.Core.Path.{sym, ◌∙◌}
use Rattle.market.specs.Packed.{read_of}
use Rattle.market.proofs.Laws.Digits.{of_bytes}
use Rattle.market.proofs.packed.read.Goals as goal

pub returns-in_err-units : goal.returns-in_err-units
unfolding read_of
returns-in_err-units c = search rules

pub price_of-requires : goal.price_of-requires
price_of-requires c = (of_bytes c.args.packed.now _ c.told-packed (sym c.units_in.ensures ∙ c.in_ok-units.was)).0.digits

pub returns : goal.returns
unfolding read_of
returns c = search rules
