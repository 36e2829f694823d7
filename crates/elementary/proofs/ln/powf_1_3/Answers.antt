-- `ln::powf_1_3` meets its contract: each way out is the arm that the test leaves. Assumes nothing.
use mathlib.Core.Path.{◌∙◌, sym}
use lib.Ieee.{of_bits, of_int}
use Rattle.elementary.specs.Ln.{cube_root_of}
use Rattle.elementary.proofs.ln.powf_1_3.Goals as goal

pub returns-then-is_zero : goal.returns-then-is_zero
unfolding cube_root_of
returns-then-is_zero c = rw (sym c.is_zero.ensures ∙ c.if-is_zero.true)

pub returns : goal.returns
unfolding cube_root_of of_bits of_int
returns c = c.exp.ensures ∙ rw (c.ln.ensures, sym c.is_zero.ensures ∙ c.if-is_zero.false)
