-- `board::put_quote` meets its contract: two runs of bytes, one behind the other. Assumes nothing.
use Prim.Native.Nat.{◌*◌}
use native.Mathlib.Omega.{arith}
use Rattle.solver.specs.LittleEndian.{bytes_of, float_bytes}
use Rattle.solver.proofs.Laws.Overwritten.{overwritten_twice}
use Rattle.market.proofs.board.put_quote.Goals as goal

pub returns : goal.returns
returns c =
    let a = c.args in
    rw (c.put_float.ensures, c.put_number_at.ensures) (overwritten_twice (a.place * 12) (bytes_of 4 a.quote.series) (float_bytes a.quote.volatility) a.board.now (omega (arith, c.requires, c.told-board)))
